-- What each call of an engine that is up makes of its parts: one relation a call. It followed its plan, and what that comes to.
use Rattle.std.specs.Prelude.{ℕ, ◌≡◌, ◌≢◌, ◌<◌, ◌≤◌, ◌+◌, ◌*◌, ◌⊎◌, ◌↔◌, false, List, [], length, Option, None, option_map, IfOk, IsOk, IsSome, IsTrue, Result, Ok}
use Rattle.pmem_base.specs.declared.lines.Line.{Line}
use Rattle.pmem_base.specs.declared.lines.Ctr.{Ctr}
use Rattle.pmem_base.specs.declared.commands.Posted.{Posted}
use Rattle.pmem_base.specs.declared.answers.Mark.{Mark}
use Rattle.pmem_base.specs.Layout as layout
use Rattle.pmem_base.specs.Layout.{page_of}
use Rattle.bonsai_tree.specs.Positions.{counter_position}
use Rattle.meta_cache.specs.Banks.{is_cached, is_cached_dirty}
use Rattle.meta_cache.specs.State.{oldest_dirty}
use Rattle.meta_path.specs.Blocks.{IsPathCached, dirty_count}
use Rattle.suite.specs.Setup.{Setup}
use Rattle.plain_model.specs.State.{Memory}
use Rattle.plain_model.specs.Asked.{marks_of_write}
use Rattle.plain_model.specs.Bounds.{path_length, begun_lines}
use Rattle.pmem_engine.specs.declared.fault.Fault.{Fault}
use Rattle.pmem_engine.specs.Parts.{Parts, regs_of, AreTrusted, AreSound, HoldsSeal, HoldsCounters, HoldsMeta}
use Rattle.pmem_engine.specs.Outcomes.{outcome_of, is_sealed_by, CallEffect, OneLossEffect, TakesAtMost}
use Rattle.call_plan.specs.Plans.{ended}
use Rattle.call_plan.specs.Following.{Follows}
use Rattle.pmem_engine.specs.Plans.{chip_in, read_plan, turn_plan, flush_plan, set_loss_plan}
use Rattle.pmem_engine.specs.WritePlans.{write_plan}
use Rattle.pmem_engine.specs.CallFacts.{IsDownAnswer, IsPathNamedInMirror, TakesWithinOfLive, IsPastFetch, IsAnswerOfRead, IsReadWork, IsAnswerOfTurn, IsTurnWork, CountsTurn, IsFlushWork, AreMarksOfWrite, IsBlockTrue, AreInWriteOrder, IsWriteWork, grouped_lines}
-- what the crates above cite with them
pub use Rattle.pmem_engine.specs.CallFacts.{IsReadyWith, IsReady, IsUsableWith, IsUsable, IsUnrefused, IsLeftAlone, IsGuarded, IsEngineCall, AnswersRead, IsMemory, moment_in, AreMarksOfTurn, AnswersTurn, AnswersFlush, whole_write, memory_after, IsPartOf, IsRefusedLine, IsForgedInWrite, AnswersWrite, write_bound, TakesSpent, TakesOfWrite, AnswersLoss}

pub record HasReadLine (setup : Setup) (a : ℕ) (old new : Parts) (answer : Result Line Fault) :
    Type 0 where
  -- the board followed the call's plan
  pub plan : Follows (read_plan setup (regs_of old) a (chip_in old)) old.device new.device (ended answer (chip_in new))
  pub not_down : IsDownAnswer answer → ⊥
  pub done : OneLossEffect setup (outcome_of answer) [] old new
  pub answered : AreTrusted setup old → AnswersRead setup a old new answer
  pub unrefused : AreSound setup old → IsUnrefused answer
  -- the path is fetched before the line is unsealed, so it is cached too if the tag is refused or the seal is a forged one
  pub path_fetched : IsPastFetch old new answer → IsPathCached setup.shape new.engine.cache (page_of a)
  pub possible : IsAnswerOfRead answer
  pub work : IsOk answer → IsReadWork setup.shape a old new
  -- one write-back for each level at most, and only of blocks that were dirty
  pub steps_of_path :
      TakesWithinOfLive (outcome_of answer) (path_length setup.shape) old new
  pub steps_of_dirty :
      TakesWithinOfLive (outcome_of answer) (dirty_count setup.shape old.engine.cache) old new

pub record HasTurned (setup : Setup) (old new : Parts) (answer : Result (Option (ℕ × ℕ)) Fault) :
    Type 0 where
  -- the board followed the call's plan
  pub plan : Follows (turn_plan setup (regs_of old) (chip_in old)) old.device new.device (ended answer (chip_in new))
  pub made : List Mark
  pub not_down : IsDownAnswer answer → ⊥
  pub done : OneLossEffect setup (outcome_of answer) made old new
  pub marks :
      AreTrusted setup old → (memory : Memory) → IsMemory setup memory old
      → AreMarksOfTurn setup.formulas (moment_in setup memory old) made answer
  pub idle : (answer ≡ Ok None) ↔ ((regs_of old).progress.items ≡ [])
  pub memory_kept : AreTrusted setup old → (memory : Memory) → IsMemory setup memory old → IsMemory setup memory new
  pub answered : AreTrusted setup old → AnswersTurn setup old new answer
  pub unrefused : AreSound setup old → IsUnrefused answer
  pub sealed_before :
      AreTrusted setup old → (a : ℕ) → a < layout.data_lines setup.shape
      → IsTrue (is_sealed_by made a) → HoldsSeal setup.shape old a
  pub counts : CountsTurn old new answer
  pub work : IfOk answer (λ turned. IsSome turned → IsTurnWork old new)
  pub possible : IsAnswerOfTurn answer
  pub cache : new.engine.cache ≡ old.engine.cache
  pub digests : new.digests ≡ old.digests

pub record HasFlushed (setup : Setup) (old new : Parts) (answer : Result (Option ℕ) Fault) : Type 0 where
  -- the board followed the call's plan
  pub plan : Follows (flush_plan old.engine) old.device new.device (ended answer new.engine)
  pub not_down : IsDownAnswer answer → ⊥
  pub done : OneLossEffect setup (outcome_of answer) [] old new
  pub answered : AnswersFlush setup.shape old new answer
  -- the block named is the oldest dirty one
  pub oldest :
      IfOk answer (λ found. found ≡ option_map (λ block. block.1) (oldest_dirty old.engine.cache))
  pub mirror : new.engine.mirror ≡ old.engine.mirror
  pub regs : regs_of new ≡ regs_of old
  -- the block that was written is clean, and the cache is else as it was
  pub work : IfOk answer (λ found. IsFlushWork setup.shape found old new)
  pub same_ledger : new.ledger ≡ old.ledger
  pub same_reads : new.device.reads ≡ old.device.reads
  pub tags : new.tags ≡ old.tags
  pub digests : new.digests ≡ old.digests
  -- which blocks are cached stays
  pub cached :
      (bank x : ℕ) → is_cached setup.shape new.engine.cache bank x ≡ is_cached setup.shape old.engine.cache bank x

pub record HasWrittenLine (setup : Setup) (write : Posted) (old new : Parts) (answer : Result Ctr Fault) :
    Type 0 where
  -- the board followed the call's plan
  pub plan : Follows (write_plan setup (regs_of old) write (chip_in old)) old.device new.device (ended answer (chip_in new))
  pub made : List Mark
  pub not_down : IsDownAnswer answer → ⊥
  pub done : OneLossEffect setup (outcome_of answer) made old new
  pub marks :
      AreTrusted setup old → (memory : Memory) → IsMemory setup memory old
      → AreMarksOfWrite (marks_of_write setup.formulas (moment_in setup memory old) write) made write answer
  pub memory :
      AreTrusted setup old → (memory : Memory) → write.at < length memory → IsMemory setup memory old
      → IsMemory setup (memory_after memory write made) new
  pub answered :
      AreTrusted setup old → (memory : Memory) → IsMemory setup memory old
      → AnswersWrite setup (marks_of_write setup.formulas (moment_in setup memory old) write) made write
      old new answer
  pub unrefused : AreSound setup old → IsUnrefused answer
  -- what was stored of the lines that were sealed, the written line aside unless the write is shorter
  pub sealed_before :
      AreTrusted setup old → (a : ℕ) → a < layout.data_lines setup.shape
      → IsTrue (is_sealed_by made a) → (a ≢ write.at) ⊎ (write.len < 64) → HoldsSeal setup.shape old a
  pub path_named : IsOk answer → IsPathNamedInMirror setup.shape new.engine (page_of write.at)
  -- the path is fetched before all else, so it is cached too if the counter is exhausted, a tag is refused, or a seal is a forged one
  pub path_fetched : IsPastFetch old new answer → IsPathCached setup.shape new.engine.cache (page_of write.at)
  -- whatever the chip is: the marks, and the steps of 65 seals, a begin and the path
  pub order : AreInWriteOrder write.at made
  pub few_marks : length made ≤ 66
  pub own_sealed : IsOk answer → IsTrue (is_sealed_by made write.at)
  pub few_steps : TakesAtMost (2 * path_length setup.shape + 262 + 2 * begun_lines setup.shape) old.device new.device
  pub work : IfOk answer (λ ctr. IsWriteWork setup.shape write ctr made old new)
  pub steps :
      AreTrusted setup old → (memory : Memory) → IsMemory setup memory old
      → TakesOfWrite setup.shape (marks_of_write setup.formulas (moment_in setup memory old) write) made
      old new answer
  -- a write whose counter is used up makes the steps of its path alone, whatever it answers
  pub steps_of_spent :
      AreTrusted setup old → (memory : Memory) → IsMemory setup memory old
      → marks_of_write setup.formulas (moment_in setup memory old) write ≡ None
      → TakesSpent setup.shape (outcome_of answer) old new
  pub block_written :
      AreTrusted setup old → IfOk answer (λ ctr. 0 < grouped_lines setup.shape (regs_of old).loss ctr.minor
      → IsBlockTrue setup new (page_of write.at))

pub record HasSetLoss (setup : Setup) (n : ℕ) (old new : Parts) (answer : Result ℕ Fault) : Type 0 where
  -- the board followed the call's plan
  pub plan : Follows (set_loss_plan n (regs_of old) old.engine) old.device new.device (ended answer new.engine)
  pub not_down : IsDownAnswer answer → ⊥
  pub gone : CallEffect setup (outcome_of answer) [] old new
  pub answered : AnswersLoss setup.shape n old new answer
  -- what can be mended stays so of the counter blocks that were true or dirty
  pub counters :
      AreTrusted setup old → (page : ℕ) → page < layout.pages setup.shape
      → HoldsMeta setup.shape old (counter_position setup.shape page) → HoldsCounters setup old page
      → HoldsCounters setup new page
  -- a smaller number that is set leaves no counter block dirty; any other leaves the cache as it was
  pub smaller :
      n < (regs_of old).loss → IsOk answer
      → (x : ℕ) → is_cached_dirty setup.shape new.engine.cache setup.shape.levels x ≡ false
  pub greater : (regs_of old).loss ≤ n → new.engine.cache ≡ old.engine.cache
  -- of the registers the number alone changes
  pub regs : record (regs_of new) { loss = n } ≡ record (regs_of old) { loss = n }
  pub same_ledger : new.ledger ≡ old.ledger
  pub same_reads : new.device.reads ≡ old.device.reads
  pub tags : new.tags ≡ old.tags
  pub digests : new.digests ≡ old.digests
  pub cached :
      (bank x : ℕ) → is_cached setup.shape new.engine.cache bank x ≡ is_cached setup.shape old.engine.cache bank x
