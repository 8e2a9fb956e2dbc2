-- What recovery answers, and what it has done then: to the device, to the suite's counts, and to the lines.
use Rattle.std.specs.Prelude.{ℕ, ◌≡◌, ◌≤◌, ◌<◌, ◌+◌, ◌*◌, ◌⊎◌, true, false, List, [], Result, Ok, Err, IfOk, OnOk, IfErr, length, is_some, ⊤}
use Rattle.pmem_base.specs.declared.lines.Line.{Line}
use Rattle.pmem_base.specs.declared.registers.Regs.{Regs}
use Rattle.pmem_base.specs.declared.answers.Exhibit.TheVariants as Exhibit
use Rattle.pmem_base.specs.Shape.{is_lazy}
use Rattle.pmem_base.specs.Layout as layout
use Rattle.pmem_base.specs.Lines.{line_at}
use Rattle.pmem_base.specs.Registers.{IsValidRegs, without_group}
use Rattle.pmem_base.specs.Counts.{risen_times}
use Rattle.bonsai_tree.specs.Positions.{level_of}
use Rattle.board.specs.Counts.{RisesBy}
use Rattle.board.specs.Device.{Device}
use Rattle.call_plan.specs.Plans.{ended}
use Rattle.call_plan.specs.Following.{Follows}
use Rattle.commit_regs.specs.Groups.{redone, redone_told, finishing_latches, RisesAtMost}
use Rattle.shadow_tables.specs.Entries.{shadow_of}
use Rattle.suite.specs.Formulas.{Formulas}
use Rattle.suite.specs.Setup.{Setup}
use Rattle.plain_model.specs.Bounds.{most_blocks, most_nodes}
use Rattle.seal_ledger.specs.Ledger.{LedgerState}
use Rattle.collision_witness.specs.Exhibits.{IsExhibit}
use Rattle.pmem_engine.specs.Engine.{EngineState, on_chip}
use Rattle.pmem_engine.specs.Invariants.{IsAnchored, IsTrusted, IsSealStored, IsDurable, IsSound, stored_meta}
use Rattle.pmem_engine.specs.Outcomes.{TakesAtMost, TakesFewer}
use Rattle.pmem_engine.specs.Mendable.{IsLineMendable, IsShadowZero, new_engine}
use Rattle.call_effects.specs.declared.recovery.Work.{Work}
use Rattle.pmem_recovery.specs.declared.faults.RecFault.{RecFault}
use Rattle.pmem_recovery.specs.declared.faults.RecFault.TheVariants.{Memory, Cut, NoCounter, Root, Twin}
use Rattle.pmem_recovery.specs.Trials.{IsTwinOfLastSeal}
use Rattle.call_effects.specs.SuiteStates.{SuiteState}
use Rattle.pmem_recovery.specs.Parts.{IfLinesTold, IsUncut, IsCutOff, HasRoot, IsRefusal, IsAllWork, StoppedWork}
use Rattle.pmem_recovery.specs.Reads.{all_reads, doubted_reads, IsReadUntil}
use Rattle.pmem_recovery.specs.Writing.{IfBothLinesTold, differing}
use Rattle.pmem_recovery.specs.Mending.{most_reads, most_writes, MayLackSteps}
use Rattle.pmem_recovery.specs.Fronts.{IsFrontWritten, AreFixed}
use Rattle.pmem_recovery.specs.Plans.{counts_of, recover_plan}

-- a new engine with the work, or why recovery stopped
abbrev pub Answer : Type 0
Answer = Result (EngineState × Work) RecFault

-- ---- the device

-- The group is redone and empty but after a cut, which may have come before, and if there was no memory. No other register changes.
abbrev pub RegsAfter : Answer → Regs → Regs → Type 0
RegsAfter (Err Memory) old new = new ≡ old
RegsAfter (Err Cut) old new = (new ≡ old) ⊎ (new ≡ without_group old)
RegsAfter answer old new = new ≡ without_group old

-- a cut comes on a device that isn't steady and turns it off; any other answer leaves steady steady, and
-- live live
abbrev pub PowerAfter : Answer → Device → Device → Type 0
PowerAfter (Err Cut) old new = IsCutOff old new
PowerAfter answer old new = IsUncut old new

-- nothing but the redo of the armed group, and reads
pub record HasOnlyRedone (old new : Device) : Type 0 where
  pub lines : new.lines ≡ redone_told old.regs.group.items old.lines
  pub writes : RisesBy (length old.regs.group.items) old.writes new.writes
  pub latches : RisesBy (finishing_latches old.regs.group.items) old.latches new.latches

-- what a refusal has changed
abbrev pub IsUnchanged : Answer → Device → Device → Type 0
IsUnchanged (Ok done) old new = ⊤
IsUnchanged (Err Memory) old new = new ≡ old
IsUnchanged (Err Cut) old new = ⊤
IsUnchanged (Err fault) old new = HasOnlyRedone old new

-- the most persist steps of a recovery: the armed group's lines and the latch after them, and the writes
-- of what it makes
abbrev pub most_recovery_steps : Setup → Regs → ℕ
most_recovery_steps setup regs =
    length regs.group.items + finishing_latches regs.group.items + most_writes setup.shape

-- At most that many. A cut comes at a step that isn't taken, so before all of them were: on a board with power, and on any
-- if lines may have to be written. (A board without power is cut at a read, where no step may be due.)
abbrev pub StepsAfter : Setup → Answer → ℕ → Device → Device → Type 0
StepsAfter setup (Err Cut) most old new =
    TakesAtMost most old new × (MayLackSteps setup.shape old → TakesFewer most old new)
StepsAfter setup answer most old new = TakesAtMost most old new

-- ---- the suite

-- that many calls at most were counted
pub record CountsAtMost (most old new : ℕ) : Type 0 where
  pub calls : ℕ
  pub few : calls ≤ most
  pub counted : new ≡ risen_times calls old

-- the trials answered are those counted, and the digests are
abbrev pub TrialsCounted : Answer → ℕ → ℕ → Type 0
TrialsCounted (Ok done) old new = new ≡ risen_times done.1.trials old
TrialsCounted (Err fault) old new = ⊤

abbrev pub DigestsCounted : Answer → ℕ → ℕ → Type 0
DigestsCounted (Ok done) old new = new ≡ risen_times done.1.digests old
DigestsCounted (Err fault) old new = ⊤

-- if there was no memory nothing was counted
abbrev pub IsUncounted : Answer → SuiteState → SuiteState → Type 0
IsUncounted (Err Memory) old new = new ≡ old
IsUncounted answer old new = ⊤

-- all candidates and all digests, or as far as it came
abbrev pub WorkAfter : Setup → List Line → Regs → Answer → SuiteState → SuiteState → Type 0
WorkAfter setup lines regs (Ok done) old new =
    IsAllWork setup.shape lines regs done.1.trials done.1.digests
WorkAfter setup lines regs (Err fault) old new = StoppedWork setup.shape lines regs fault old new

-- all reads, also before a wrong root
abbrev pub ReadsAfter : Setup → List Line → Regs → Answer → ℕ → ℕ → Type 0
ReadsAfter setup lines regs (Ok done) before after =
    RisesBy (all_reads setup.shape (shadow_of setup.shape lines) regs) before after
ReadsAfter setup lines regs (Err fault) before after =
    IsReadUntil setup.shape (shadow_of setup.shape lines) regs fault before after

-- the work is bounded by how many blocks may be doubted and by the stop-loss number; with shadow tables not by the number
-- of lines
pub record IsFewWork (setup : Setup) (loss : ℕ) (work : Work) : Type 0 where
  pub trials : work.trials ≤ 64 * loss * most_blocks setup.shape
  pub digests : work.digests ≤ 4 * most_nodes setup.shape + 1

-- ---- the answers

-- a twin holds of the cipher and the tag that it shows
abbrev pub IsTwinValid : Formulas → RecFault → Type 0
IsTwinValid f (Twin at major low high cipher tag) =
    IsExhibit f (Exhibit.Twin at major low high cipher tag)
IsTwinValid f fault = ⊤

-- which answer comes, over the lines with the group redone
abbrev pub IsDecidedAs : Setup → List Line → Regs → Answer → Type 0
IsDecidedAs setup lines regs (Ok done) = HasRoot setup lines regs
IsDecidedAs setup lines regs (Err fault) = IsRefusal setup lines regs fault

-- no counter comes only of a line whose seal isn't stored, or whose page's counter block isn't
abbrev pub IsNoCounterUnmendable : Setup → List Line → Regs → LedgerState → Answer → Type 0
IsNoCounterUnmendable setup lines regs ledger (Err (NoCounter at)) =
    IsLineMendable setup lines regs ledger at → ⊥
IsNoCounterUnmendable setup lines regs ledger answer = ⊤

-- what recovery makes of a durable device
abbrev pub IsMendedAs : Setup → Regs → Regs → LedgerState → List Line → Answer → Type 0
IsMendedAs setup old new ledger now (Ok done) = IsSound setup (on_chip done.0) now new ledger
IsMendedAs setup old new ledger now (Err Memory) = IsDurable setup now new ledger
IsMendedAs setup old new ledger now (Err Cut) = IsDurable setup now new ledger
IsMendedAs setup old new ledger now (Err (NoCounter at)) = ⊥
IsMendedAs setup old new ledger now (Err (Root kept found)) = ⊥
IsMendedAs setup old new ledger now (Err (Twin at major low high cipher tag)) =
    IsTwinOfLastSeal old.loss ledger at major low high cipher tag × IsDurable setup now new ledger

-- zero shadow lines, and a top line whose digest is the root register
pub record IsCleared (setup : Setup) (now : List Line) (regs : Regs) : Type 0 where
  pub shadow_zero : IsShadowZero setup now
  pub top : setup.formulas.digest_of 0 (stored_meta setup.shape now 0) ≡ regs.root

-- what has become of the lines, if they are exposed
pub record HasMended (setup : Setup) (ledger : LedgerState) (old new : Device) (lines now : List Line)
    (answer : Answer) : Type 0 where
  pub from_durable :
      IsDurable setup lines old.regs ledger → IsMendedAs setup old.regs new.regs ledger now answer
  pub data_same :
      (n : ℕ) → n < 80 * layout.pages setup.shape
      → line_at (redone new.regs.group.items now) n ≡ line_at (redone old.regs.group.items lines) n
  pub seals_kept :
      (a : ℕ) → a < layout.data_lines setup.shape
      → IsSealStored setup.shape (redone old.regs.group.items lines) ledger.marks a
      → IsSealStored setup.shape (redone new.regs.group.items now) ledger.marks a
  pub strict_same :
      (x : ℕ) → x < layout.meta_lines setup.shape → is_lazy setup.shape (level_of x) ≡ false
      → stored_meta setup.shape (redone new.regs.group.items now) x
      ≡ stored_meta setup.shape (redone old.regs.group.items lines) x
  pub front :
      IsFrontWritten setup (redone old.regs.group.items lines) old.regs (redone new.regs.group.items now)
  pub fixed : OnOk answer (AreFixed setup (redone old.regs.group.items lines) old.regs now)
  pub cleared : OnOk answer (IsCleared setup now new.regs)
  pub decided : IsDecidedAs setup (redone old.regs.group.items lines) old.regs answer
  pub no_counter :
      IsNoCounterUnmendable setup (redone old.regs.group.items lines) old.regs ledger answer
  pub few_steps :
      RisesAtMost
      (length old.regs.group.items + differing (redone old.regs.group.items lines) now)
      old.writes new.writes
  pub no_steps :
      setup.shape.shadow ≡ true → old.regs.group.items ≡ [] → IsShadowZero setup lines
      → (new.writes ≡ old.writes) × (new.latches ≡ old.latches)

-- ---- the plan

-- recovery's plan was followed, unless memory was wanting
abbrev pub PlanAfter : Setup → Answer → Device → Device → SuiteState → SuiteState → Type 0
PlanAfter setup (Err Memory) old new suite_old suite_new = ⊤
PlanAfter setup answer old new suite_old suite_new =
    Follows (recover_plan setup old.regs (counts_of suite_old)) old new (ended answer (counts_of suite_new))

-- ---- the whole

-- what recovery does: the parts before and after, and the answer
pub record HasRecovered (setup : Setup) (ledger : LedgerState) (old new : Device)
    (suite_old suite_new : SuiteState) (answer : Answer) : Type 0 where
  pub size : new.size ≡ old.size
  pub told : is_some new.lines ≡ is_some old.lines
  pub reads : RisesAtMost (most_reads setup.shape) old.reads new.reads
  pub few_reads :
      IfLinesTold old.lines
      (λ lines. RisesAtMost (doubted_reads setup.shape (shadow_of setup.shape (redone old.regs.group.items lines))) old.reads new.reads)
  pub exact_reads :
      IfLinesTold old.lines
      (λ lines. ReadsAfter setup (redone old.regs.group.items lines) old.regs answer old.reads new.reads)
  pub regs : RegsAfter answer old.regs new.regs
  pub valid : IsValidRegs setup.shape new.regs
  pub power : PowerAfter answer old new
  pub unchanged : IsUnchanged answer old new
  pub writes :
      RisesAtMost (length old.regs.group.items + most_writes setup.shape) old.writes new.writes
  pub latches : RisesAtMost (finishing_latches old.regs.group.items) old.latches new.latches
  pub steps : StepsAfter setup answer (most_recovery_steps setup old.regs) old new
  pub keys : suite_new.keys ≡ suite_old.keys
  pub pads : suite_new.pads ≡ suite_old.pads
  pub trials : TrialsCounted answer suite_old.tags suite_new.tags
  pub digests : DigestsCounted answer suite_old.digests suite_new.digests
  pub uncounted : IsUncounted answer suite_old suite_new
  pub work :
      IfLinesTold old.lines
      (λ lines. WorkAfter setup (redone old.regs.group.items lines) old.regs answer suite_old suite_new)
  pub few_work : IfOk answer (λ done. IsFewWork setup old.regs.loss done.1)
  pub few_trials :
      CountsAtMost (64 * old.regs.loss * most_blocks setup.shape) suite_old.tags suite_new.tags
  pub few_digests :
      CountsAtMost (4 * most_nodes setup.shape + 1)
      suite_old.digests suite_new.digests
  pub anchored : IsAnchored setup old.regs ledger → IsAnchored setup new.regs ledger
  pub engine : IfOk answer (λ done. done.0 ≡ new_engine setup.shape)
  pub trusted :
      IsAnchored setup old.regs ledger → IfOk answer (λ done. IsTrusted setup (on_chip done.0) new.regs ledger)
  pub twin : IfErr answer (IsTwinValid setup.formulas)
  pub lines : IfBothLinesTold old new (λ lines now. HasMended setup ledger old new lines now answer)
  pub plan : PlanAfter setup answer old new suite_old suite_new
