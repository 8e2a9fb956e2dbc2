-- What the parts of the engine's calls do: a path is fetched, a line is unsealed, a path is named.
use Rattle.std.specs.Prelude.{ℕ, ◌≡◌, false, [], length, Some, option_map, IsOk, Result, Ok, Err, ⊤}
use Rattle.pmem_base.specs.declared.faults.Cut.{Cut}
use Rattle.pmem_base.specs.declared.lines.Ctr.{Ctr}
use Rattle.pmem_base.specs.declared.registers.Regs.{Regs}
use Rattle.pmem_base.specs.Counts.{risen}
use Rattle.pmem_base.specs.Shape.{Shape, named_levels}
use Rattle.pmem_base.specs.Layout as layout
use Rattle.pmem_base.specs.Layout.{page_of}
use Rattle.pmem_base.specs.Marks.{last_seal}
use Rattle.bonsai_tree.specs.Positions.{counter_position}
use Rattle.board.specs.Counts.{RisesBy}
use Rattle.board.specs.Steps.{Tells}
use Rattle.seal_ledger.specs.Ledger.{LedgerState}
use Rattle.split_counters.specs.declared.Block.{Block}
use Rattle.split_counters.specs.Blocks.{unpacked}
use Rattle.meta_path.specs.Blocks.{line_in, IsPathCached, dirty_count}
use Rattle.meta_path.specs.Fetching.{IsFetchedTo}
use Rattle.meta_path.specs.Naming.{naming_writes}
use Rattle.meta_path.specs.declared.faults.PathFault.{PathFault}
use Rattle.meta_path.specs.declared.faults.PathFault.TheVariants as Path
use Rattle.suite.specs.Setup.{Setup}
use Rattle.plain_model.specs.View.{plain_line}
use Rattle.plain_model.specs.Bounds.{path_length}
use Rattle.pmem_engine.specs.declared.fault.LineFault.{LineFault}
use Rattle.pmem_engine.specs.declared.fault.LineFault.TheVariants as AtLine
use Rattle.pmem_engine.specs.declared.reading.Unsealed.{Unsealed}
use Rattle.pmem_engine.specs.Parts.{Parts, regs_of, AreTrusted, AreSound, HoldsSeal}
use Rattle.call_effects.specs.Outcomes.{shown}
use Rattle.pmem_engine.specs.Outcomes.{of_path, of_line, of_cut, outcome_of, OneLossEffect, TakesSteps}
use Rattle.pmem_engine.specs.Faults.{IsMetaRefused, IsClashShown, IsTagRefused, IsForgedShown}
use Rattle.pmem_engine.specs.Engine.{ChipState}
use Rattle.pmem_engine.specs.Invariants.{IsTrusted}
use Rattle.pmem_engine.specs.CallFacts.{IsPathNamedInMirror, IsUnrefused, TakesWithin, TakesWithinOfLive, IsPastFetch, fetch_state, IsWork, naming_work, KeepsMetaLines}

-- ---- a fetch

-- what a fetch's answer says, from a trusted chip on
abbrev pub AnswersFetch : Setup → ℕ → Parts → Parts → Result Unit PathFault → Type 0
AnswersFetch setup page old new (Ok value) = ⊤
AnswersFetch setup page old new (Err Path.Cut) = ⊤
AnswersFetch setup page old new (Err (Path.Meta x)) = IsMetaRefused setup page x old new
AnswersFetch setup page old new (Err Path.Shown) = IsClashShown setup page old new

pub record HasFetched (setup : Setup) (page : ℕ) (old new : Parts) (answer : Result Unit PathFault) : Type 0 where
  pub done : OneLossEffect setup (outcome_of (of_path answer)) [] old new
  pub answered : AreTrusted setup old → AnswersFetch setup page old new answer
  pub unrefused : AreSound setup old → IsUnrefused (of_path answer)
  pub path_cached : IsOk answer → IsPathCached setup.shape new.engine.cache page
  pub path_fetched : IsPastFetch old new (of_path answer) → IsPathCached setup.shape new.engine.cache page
  pub work :
      IsOk answer
      → IsFetchedTo setup.shape setup.formulas old.ledger.truth page (path_length setup.shape)
      (fetch_state setup.shape old) (fetch_state setup.shape new)
  pub mirror : new.engine.mirror ≡ old.engine.mirror
  pub regs : regs_of new ≡ regs_of old
  pub tags : new.tags ≡ old.tags
  pub same_ledger : (outcome_of (of_path answer) ≡ shown → ⊥) → new.ledger ≡ old.ledger
  pub latches : new.device.latches ≡ old.device.latches
  pub steps_of_path : TakesWithin (outcome_of (of_path answer)) (path_length setup.shape) old new
  pub steps_of_dirty :
      TakesWithinOfLive (outcome_of (of_path answer)) (dirty_count setup.shape old.engine.cache) old new

-- ---- a line unsealed

-- what the answer says, from a trusted chip on, if the counter is that of the line's last seal
abbrev pub AnswersUnseal : Setup → ℕ → Parts → Parts → Result Unsealed LineFault → Type 0
AnswersUnseal setup a old new (Ok unsealed) =
    (plain_line setup.formulas old.ledger.marks a ≡ Some unsealed.plain) × HoldsSeal setup.shape new a
AnswersUnseal setup a old new (Err AtLine.Cut) = ⊤
AnswersUnseal setup a old new (Err (AtLine.Tag b)) = (b ≡ a) × IsTagRefused setup a new
AnswersUnseal setup a old new (Err AtLine.Shown) = IsForgedShown setup a new

-- this is the counter of the line's last seal
abbrev pub IsLastCounter : Parts → ℕ → Ctr → Type 0
IsLastCounter parts a ctr = option_map (λ seal. seal.ctr) (last_seal parts.ledger.marks a) ≡ Some ctr

-- the tag line that was read, if the board exposes its lines
abbrev pub TellsTagLine : Setup → ℕ → Parts → Result Unsealed LineFault → Type 0
TellsTagLine setup a new (Ok unsealed) =
    Tells new.device.lines (layout.tag_line setup.shape a) unsealed.tag_line
TellsTagLine setup a new (Err fault) = ⊤

pub record HasUnsealed (setup : Setup) (a : ℕ) (ctr : Ctr) (old new : Parts) (answer : Result Unsealed LineFault) :
    Type 0 where
  pub done : OneLossEffect setup (outcome_of (of_line answer)) [] old new
  pub answered : AreTrusted setup old → IsLastCounter old a ctr → AnswersUnseal setup a old new answer
  pub unrefused : AreSound setup old → IsLastCounter old a ctr → IsUnrefused (of_line answer)
  pub engine : new.engine ≡ old.engine
  pub lines : new.device.lines ≡ old.device.lines
  pub regs : regs_of new ≡ regs_of old
  pub digests : new.digests ≡ old.digests
  pub same_ledger : (outcome_of (of_line answer) ≡ shown → ⊥) → new.ledger ≡ old.ledger
  pub tells_tag_line : TellsTagLine setup a new answer
  pub writes : new.device.writes ≡ old.device.writes
  pub latches : new.device.latches ≡ old.device.latches
  pub no_steps : TakesSteps 0 old.device new.device
  pub two_reads : IsOk answer → RisesBy 2 old.device.reads new.device.reads
  pub one_tag : IsOk answer → new.tags ≡ risen old.tags
  pub cut_unpowered : answer ≡ Err AtLine.Cut → old.device.live ≡ false

-- ---- a line read

-- the page's counter block as it is cached
abbrev pub cached_block : Shape → ChipState → ℕ → Block
cached_block g engine page = unpacked (line_in g engine.cache g.levels (counter_position g page))

-- the counter of a line is that of its last seal, if the chip is trusted and the line's path cached
abbrev pub IsCounterOfTrusted : ChipState → Regs → ℕ → Ctr → Type 0
IsCounterOfTrusted engine regs at ctr =
    (setup : Setup) (ledger : LedgerState) → IsTrusted setup engine regs ledger
    → IsPathCached setup.shape engine.cache (page_of at)
    → option_map (λ seal. seal.ctr) (last_seal ledger.marks at) ≡ Some ctr

-- ---- a path named

pub record HasNamedPath (setup : Setup) (page : ℕ) (old new : Parts) (answer : Result Unit Cut) : Type 0 where
  pub done : OneLossEffect setup (outcome_of (of_cut answer)) [] old new
  pub path_named : IsOk answer → IsPathNamedInMirror setup.shape new.engine page
  pub work :
      IsOk answer
      → IsWork
      (naming_work
      (length (naming_writes setup.shape old.engine.cache page old.engine.mirror (named_levels setup.shape))))
      old new
  pub meta_lines : IsOk answer → KeepsMetaLines setup.shape old.device.lines new.device.lines
  pub cache : new.engine.cache ≡ old.engine.cache
  pub regs : regs_of new ≡ regs_of old
  pub ledger : new.ledger ≡ old.ledger
  pub tags : new.tags ≡ old.tags
  pub digests : new.digests ≡ old.digests
  pub reads : new.device.reads ≡ old.device.reads
  pub steps : TakesWithin (outcome_of (of_cut answer)) (path_length setup.shape) old new
