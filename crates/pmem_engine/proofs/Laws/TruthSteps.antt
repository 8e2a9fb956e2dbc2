-- What one commit makes of the engine and the true lines, whatever the device is.
use Rattle.std.proofs.Common.{rules, ℕ, ◌≡◌, ◌<◌, ◌⊎◌, Bool, true, false, List, [], ◌∷◌}
use Rattle.std.specs.List.{All}
use Rattle.std.proofs.lemmas.Bool.{true≢false}
use Rattle.pmem_base.specs.declared.lines.Line.{Line}
use Rattle.pmem_base.specs.declared.registers.Regs.{Regs}
use Rattle.pmem_base.specs.declared.answers.Mark.{Mark}
use Rattle.pmem_base.specs.Shape.{Shape, is_lazy}
use Rattle.pmem_base.specs.Layout.{meta_lines}
use Rattle.pmem_base.specs.Lines.{line_at}
use Rattle.split_counters.specs.declared.Block.{Block}
use Rattle.split_counters.specs.Blocks.{IsStoredBlock}
use Rattle.bonsai_tree.specs.Positions.{level_of, counter_position}
use Rattle.meta_cache.specs.Banks.{Banks, set_of, is_cached_dirty, IsBanksOf}
use Rattle.seal_ledger.specs.Ledger.{LedgerState}
use Rattle.suite.specs.Setup.{Setup}
use Rattle.pmem_engine.specs.Engine.{ChipState}
use Rattle.pmem_engine.specs.Truth.{true_block}
use Rattle.pmem_engine.specs.Invariants.{IsTrueSlot, IsDirtyNamed, IsTrusted}
use Rattle.pmem_engine.specs.Outcomes.{IsTouchedBy}
use Rattle.pmem_engine.proofs.Laws.DeviceSteps.{none_written}

-- metadata line x is cached dirty, in a cache of good form
abbrev pub IsDirtyIn : Shape → Banks → ℕ → Type 0
IsDirtyIn g cache x = IsBanksOf g cache × (is_cached_dirty g cache (level_of x) x ≡ true)

-- metadata line x is as it was, and dirty where it was
abbrev pub IsStill : Shape → Banks → Banks → List Line → List Line → ℕ → Type 0
IsStill g old new truth after x =
    (line_at after x ≡ line_at truth x)
    × (is_cached_dirty g old (level_of x) x ≡ true → is_cached_dirty g new (level_of x) x ≡ true)

-- one mark's commit, which writes these metadata lines with their entries: the true lines before and after, and the cache,
-- whose other blocks are newly dirty or as they were; what is stored of a counter block that isn't written is so of the
-- new true one
pub record IsTruthStep (setup : Setup) (mark : Mark) (written : ℕ → Bool) (entry : ℕ → Line) (loss : ℕ) (old new : ChipState)
    (truth after : List Line) : Type 0 where
  pub shape : new.shape ≡ old.shape
  pub mirror : new.mirror ≡ old.mirror
  pub true_slots : (bank set : ℕ) → All (IsTrueSlot setup.shape after bank set) (set_of new.cache bank set)
  pub named :
      ((bank set : ℕ) → All (IsDirtyNamed setup.shape old.mirror bank set) (set_of old.cache bank set))
      → (bank set : ℕ) → All (IsDirtyNamed setup.shape old.mirror bank set) (set_of new.cache bank set)
  pub touched :
      (bank x : ℕ) → is_cached_dirty setup.shape new.cache bank x ≡ true
      → (is_cached_dirty setup.shape old.cache bank x ≡ true) ⊎ IsTouchedBy setup.shape (mark ∷ []) x
  pub entries : (x : ℕ) → x < meta_lines setup.shape → written x ≡ true → line_at after x ≡ entry x
  pub others :
      (x : ℕ) → x < meta_lines setup.shape → written x ≡ false
      → IsDirtyIn setup.shape new.cache x ⊎ IsStill setup.shape old.cache new.cache truth after x
  pub counters :
      (other : ℕ) → written (counter_position setup.shape other) ≡ false → (stored : Block)
      → IsStoredBlock loss stored (true_block setup.shape truth other)
      → IsStoredBlock loss stored (true_block setup.shape after other)
  -- a line of a strict level that isn't written
  pub strict :
      (x : ℕ) → x < meta_lines setup.shape → is_lazy setup.shape (level_of x) ≡ false → written x ≡ false
      → line_at after x ≡ line_at truth x

-- a mark that leaves the engine and the true lines as they are
pub truth_stays : (setup : Setup) (mark : Mark) (entry : ℕ → Line) (loss : ℕ) (engine : ChipState) (regs : Regs)
    (ledger : LedgerState) → IsTrusted setup engine regs ledger
    → IsTruthStep setup mark none_written entry loss engine engine ledger.truth ledger.truth
truth_stays setup mark entry loss engine regs ledger trusted = search (rules, true≢false)
