-- A new stop-loss number: the dirty counter blocks are written first where it is smaller, and the latch comes last.
use Rattle.std.proofs.Common.{rules, ℕ, ◌≡◌, ◌+◌, false, [], sym, ap, subst, ◌∙◌, arith}
use Rattle.pmem_base.specs.Shape.{Shape}
use Rattle.pmem_base.specs.Layout.{device_lines, meta_line}
use Rattle.board.proofs.CountLemmas.{RisesBy-then, RisesBy-once}
use Rattle.board.specs.Device.{Device, IsDevice}
use Rattle.board.specs.Steps.{HasWritten}
use Rattle.meta_cache.specs.Banks.{set_index, is_cached}
use Rattle.meta_cache.specs.Sets.{with_mark}
use Rattle.meta_cache.specs.State.{CacheState, ChangesSet, slots_of}
use Rattle.meta_path.specs.Blocks.{line_in, bank_dirty_count}
use Rattle.meta_path.specs.Storing.{IsCleaned}
use Rattle.pmem_engine.specs.Engine.{ChipState}
use Rattle.pmem_engine.specs.Parts.{parts_with}
use Rattle.call_effects.specs.Outcomes.{going}
use Rattle.pmem_engine.specs.Flushed.{HasWrittenBack, HasWrittenBlocks}
use Rattle.pmem_engine.proofs.CheckedReads.FetchCalls.{of_states}
use Rattle.pmem_engine.proofs.CallEnds.CallChains.{done_chained}
use Rattle.pmem_engine.proofs.CallEnds.StillParts.{nothing_done}
use Rattle.pmem_engine.proofs.BlockWrites.WrittenBlocks.{written_back, cached_after}

-- ---- blocks

-- a block's line was written, and then its mark cleared
pub cleaned_block : (g : Shape) (old new : CacheState) (bank x : ℕ) (before after : Device) → old.shape ≡ g
    → ChangesSet old new bank (set_index old.shape x) (with_mark (slots_of old bank x) x false)
    → HasWritten before (meta_line g x) (line_in g old.banks bank x) after
    → IsCleaned g bank x (record { shape = g; banks = old.banks }) (record { shape = g; banks = new.banks }) before after
cleaned_block g old new bank x before after same changes board = search (rules, of_states)

-- no block was written yet
pub blocks_none : (engine : ChipState) (device : Device) → HasWrittenBlocks 0 engine engine device device
blocks_none engine device = search (rules, nothing_done)

-- one block more
pub blocks_more : (count x : ℕ) (old mid new : ChipState) (before middle after : Device)
    → before.size ≡ device_lines old.shape → IsDevice middle → HasWrittenBlocks count old mid before middle
    → HasWrittenBack mid.shape.levels x mid new middle after
    → bank_dirty_count mid.shape new.cache mid.shape.levels + 1 ≡ bank_dirty_count mid.shape mid.cache mid.shape.levels
    → HasWrittenBlocks (count + 1) old new before after
blocks_more count x old mid new before middle after its_size whole first it fewer =
    record {
      shape = it.cleaned.cache.shape ∙ first.shape;
      mirror = it.mirror ∙ first.mirror;
      dirty =
          let less : bank_dirty_count old.shape new.cache old.shape.levels + 1 ≡ bank_dirty_count old.shape mid.cache old.shape.levels =
          subst (λ (g : Shape). bank_dirty_count g new.cache g.levels + 1 ≡ bank_dirty_count g mid.cache g.levels) first.shape fewer in
          omega (arith, less, first.dirty);
      cached =
          λ bank y.
          subst (λ g. is_cached g new.cache bank y ≡ is_cached g mid.cache bank y) first.shape
          (cached_after mid.shape.levels x mid new middle after it bank y)
          ∙ first.cached bank y;
      size = it.cleaned.board.size ∙ first.size;
      regs = it.cleaned.board.regs ∙ first.regs;
      reads = it.cleaned.board.reads ∙ first.reads;
      latches = it.cleaned.board.latches ∙ first.latches;
      writes =
          RisesBy-then count 1 before.writes middle.writes after.writes first.writes (RisesBy-once it.cleaned.board.writes);
      none = λ zero. absurd (omega (arith, zero));
      done =
          λ setup ledger tags digests same.
          done_chained setup going [] [] (parts_with old before ledger tags digests) (parts_with mid middle ledger tags digests)
          (parts_with new after ledger tags digests) (first.done setup ledger tags digests same)
          (written_back setup mid.shape.levels x mid new middle after ledger tags digests (first.shape ∙ sym same)
          (first.size ∙ its_size ∙ ap device_lines (sym same)) whole it);
    }
