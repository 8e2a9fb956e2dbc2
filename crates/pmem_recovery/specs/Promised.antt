-- What the parts of recovery promise of what they are called with: a board and a suite, before and after. Each followed
-- its plan.
use Rattle.std.specs.Prelude.{ℕ, ◌≡◌, List, Result}
use Rattle.pmem_base.specs.declared.faults.Cut.{Cut}
use Rattle.pmem_base.specs.declared.geometry.Geo.{Geo}
use Rattle.pmem_base.specs.declared.lines.Line.{Line}
use Rattle.pmem_base.specs.declared.registers.Regs.{Regs}
use Rattle.pmem_base.specs.Geo.{shape_of}
use Rattle.pmem_base.specs.Layout.{data_lines, meta_lines}
use Rattle.board.specs.declared.device.Board.{Ghosts as BoardOf}
use Rattle.split_counters.specs.declared.Block.{Block}
use Rattle.suite.specs.Setup.{Setup}
use Rattle.suite.specs.declared.Suite.{Ghosts as SuiteOf}
use Rattle.call_plan.specs.Plans.{Plan, ended}
use Rattle.call_plan.specs.Following.{Follows}
use Rattle.seal_ledger.specs.Ledger.{LedgerState}
use Rattle.pmem_recovery.specs.declared.faults.RecFault.{RecFault}
use Rattle.call_effects.specs.declared.recovery.Work.{Work}
use Rattle.pmem_recovery.specs.declared.entries.MadeEntry.{MadeEntry}
use Rattle.stop_loss.specs.Trials.{matching_minors, found_among}
use Rattle.stop_loss.specs.Windows.{minors_within}
use Rattle.call_effects.specs.SuiteStates.{setup_with, suite_at, SuiteRise}
use Rattle.pmem_recovery.specs.Parts.{IsDecided, decided_of}
use Rattle.pmem_recovery.specs.Plans.{SuiteCounts, RecoveryParts, recovery_parts, counts_at, trial_plan, minors_plan, fixed_block_plan, blocks_plan, children_plan, fixed_node_plan, fixed_level_plan, nodes_plan, root_plan, made_end, making_plan, mend_plan}
use Rattle.pmem_recovery.specs.Recovered.{Answer, HasRecovered}

module _ {B S : Type 0} (board : BoardOf B) (suite : SuiteOf S) (geo : Geo) (b : B) (s : S) (later_b : B) (later_s : S) where
  abbrev setup : Setup
  setup = setup_with suite geo s

  -- of plans over the suite's counts, and of those that make entries too
  abbrev FollowsCounts : {T F : Type 0} → (SuiteCounts → Plan (SuiteCounts × F) (SuiteCounts × T)) → Result T F → Type 0
  FollowsCounts plan answer =
      Follows (plan (counts_at suite s)) (board.device b) (board.device later_b) (ended answer (counts_at suite later_s))

  abbrev FollowsEntries : {T F : Type 0} → (RecoveryParts → Plan (RecoveryParts × F) (RecoveryParts × T)) → List MadeEntry → List MadeEntry
      → Result T F → Type 0
  FollowsEntries plan made later answer =
      Follows (plan (recovery_parts made (counts_at suite s))) (board.device b) (board.device later_b)
      (ended answer (recovery_parts later (counts_at suite later_s)))

  abbrev pub Recovers : LedgerState → Answer → Type 0
  Recovers ledger answer =
      HasRecovered setup ledger (board.device b) (board.device later_b) (suite_at suite s) (suite_at suite later_s) answer

  -- ---- counter blocks

  abbrev pub FollowsTrial : Regs → Block → ℕ → Result (ℕ × ℕ) RecFault → Type 0
  FollowsTrial regs stored at answer = FollowsCounts (trial_plan setup regs stored at) answer

  abbrev pub FollowsMinors : Regs → ℕ → Block → Result (Block × ℕ) RecFault → Type 0
  FollowsMinors regs page stored answer = FollowsCounts (minors_plan setup regs page stored) answer

  abbrev pub FollowsBlock : Regs → ℕ → List MadeEntry → List MadeEntry → Result ℕ RecFault → Type 0
  FollowsBlock regs x made later answer = FollowsEntries (fixed_block_plan setup regs x) made later answer

  abbrev pub FollowsBlocks : Regs → List Line → List MadeEntry → List MadeEntry → Result ℕ RecFault → Type 0
  FollowsBlocks regs shadow made later answer = FollowsEntries (blocks_plan setup regs shadow) made later answer

  -- ---- nodes

  abbrev pub FollowsChildren : List MadeEntry → ℕ → Result Line Cut → Type 0
  FollowsChildren made x answer = FollowsCounts (children_plan setup made x) answer

  abbrev pub FollowsNode : ℕ → List MadeEntry → List MadeEntry → Result (Unit {0}) Cut → Type 0
  FollowsNode x made later answer = FollowsEntries (fixed_node_plan setup x) made later answer

  abbrev pub FollowsLevel : List Line → ℕ → List MadeEntry → List MadeEntry → Result ℕ Cut → Type 0
  FollowsLevel shadow level made later answer = FollowsEntries (fixed_level_plan setup shadow level) made later answer

  abbrev pub FollowsNodes : List Line → List MadeEntry → List MadeEntry → Result ℕ Cut → Type 0
  FollowsNodes shadow made later answer = FollowsEntries (nodes_plan setup shadow) made later answer

  abbrev pub FollowsRoot : List ℕ → List MadeEntry → Result (Unit {0}) RecFault → Type 0
  FollowsRoot root made answer = FollowsCounts (root_plan setup root made) answer

  -- ---- the whole

  abbrev pub FollowsMaking : Regs → List Line → List MadeEntry → Result Work RecFault → Type 0
  FollowsMaking regs shadow made answer =
      Follows (making_plan setup regs (counts_at suite s)) (board.device b) (board.device later_b)
      (made_end answer shadow made (counts_at suite later_s))

  abbrev pub FollowsMending : Result Work RecFault → Type 0
  FollowsMending answer = FollowsCounts (mend_plan setup (board.device b).regs) answer

-- ---- what uses the suite alone

module _ {S : Type 0} (suite : SuiteOf S) (s : S) (at major : ℕ) (cipher : Line) (tag : List ℕ) (ends : ℕ × ℕ) where
  -- the minors of a window that fit the cipher and the tag
  abbrev fitting : List ℕ
  fitting = matching_minors (suite.formulas_of (suite.keys s)) at major cipher tag (minors_within ends.0 ends.1)

  abbrev pub DecidesMinor : Result ℕ RecFault → Type 0
  DecidesMinor answer = IsDecided (suite.formulas_of (suite.keys s)) at major cipher tag fitting answer

  abbrev pub IsMinorFound : Result ℕ RecFault → Type 0
  IsMinorFound answer = answer ≡ decided_of (found_among fitting) at major cipher tag

-- a pad and a tag for each data line, and a digest for each metadata line
abbrev pub CountsFormat : {S : Type 0} → SuiteOf S → Geo → S → S → Type 0
CountsFormat suite geo s later_s =
    SuiteRise (data_lines (shape_of geo)) (data_lines (shape_of geo)) (meta_lines (shape_of geo)) (suite_at suite s)
    (suite_at suite later_s)
