-- What the functions of the engine promise of what they are called with: each relation, and that the board followed
-- the function's plan. A clause names the engine, the board, the suite and the audit, before and after.
use Rattle.std.specs.Prelude.{ℕ, ◌≡◌, Bool, Option, Result}
use Rattle.pmem_base.specs.declared.faults.Cut.{Cut}
use Rattle.pmem_base.specs.declared.lines.Line.{Line}
use Rattle.pmem_base.specs.declared.lines.Ctr.{Ctr}
use Rattle.pmem_base.specs.declared.commands.Posted.{Posted}
use Rattle.pmem_base.specs.declared.registers.Progress.{Progress}
use Rattle.board.specs.Device.{Device}
use Rattle.board.specs.declared.device.Board.{Ghosts as BoardOf}
use Rattle.seal_ledger.specs.Ledger.{LedgerState}
use Rattle.seal_ledger.specs.declared.Audit.{Ghosts as AuditOf}
use Rattle.suite.specs.Setup.{Setup}
use Rattle.suite.specs.declared.Suite.{Ghosts as SuiteOf}
use Rattle.call_plan.specs.Plans.{ended}
use Rattle.call_plan.specs.Following.{Follows}
use Rattle.meta_path.specs.declared.faults.PathFault.{PathFault}
use Rattle.meta_path.specs.declared.renewal.Path.{Path}
use Rattle.pmem_engine.specs.declared.fault.Fault.{Fault}
use Rattle.pmem_engine.specs.declared.fault.LineFault.{LineFault}
use Rattle.pmem_engine.specs.declared.reading.Unsealed.{Unsealed}
use Rattle.pmem_engine.specs.declared.resealing.NextSeal.{NextSeal}
use Rattle.pmem_engine.specs.Engine.{ChipState, EngineState}
use Rattle.pmem_engine.specs.Parts.{Parts, parts_with, parts_of, parts_with_at, parts_at, setup_with_at, setup_at}
use Rattle.pmem_engine.specs.CallFacts.{IsEngineCall}
use Rattle.pmem_engine.specs.Calls.{HasReadLine, HasWrittenLine, HasTurned, HasFlushed, HasSetLoss}
use Rattle.pmem_engine.specs.Inner.{HasFetched, HasUnsealed, HasNamedPath}
use Rattle.pmem_engine.specs.Resealing.{HasResealed, HasResealEnded}
use Rattle.pmem_engine.specs.Sealing.{HasSealedNext, HasBegunPage, HasSealEnded, HasBeginEnded}
use Rattle.pmem_engine.specs.Writing.{HasMadePlain, HasFinishedPage, HasFinishedFor, HasBegunFor}
use Rattle.commit_regs.specs.Plans.{ended_with}
use Rattle.pmem_engine.specs.Plans.{Chip, chip_with, chip_with_at, fetch_path_plan, unseal_plan, read_plan, commit_plan, reseal_plan}
use Rattle.pmem_engine.specs.SealPlans.{seal_next_plan, commit_seal_plan, begin_page_plan, commit_begin_plan, begin_for_plan}
use Rattle.pmem_engine.specs.WritePlans.{plain_plan, finish_page_plan, finish_for_plan, write_plan}

module _ {B S A : Type 0} (board : BoardOf B) (suite : SuiteOf S) (audit : AuditOf A)
    (engine : ChipState) (b : B) (s : S) (a : A) (later_engine : ChipState) (later_b : B) (later_s : S) (later_a : A) where
  abbrev setup : Setup
  setup = setup_with_at suite engine s

  abbrev old : Parts
  old = parts_with_at board suite audit engine b s a

  abbrev new : Parts
  new = parts_with_at board suite audit later_engine later_b later_s later_a

  abbrev device : Device
  device = board.device b

  abbrev later_device : Device
  later_device = board.device later_b

  abbrev chip : Chip
  chip = chip_with_at suite audit engine s a

  abbrev later_chip : Chip
  later_chip = chip_with_at suite audit later_engine later_s later_a

  -- ---- the relations

  abbrev pub IsLineRead : ℕ → Result Line Fault → Type 0
  IsLineRead at answer = HasReadLine setup at old new answer

  abbrev pub IsLineWritten : Posted → Result Ctr Fault → Type 0
  IsLineWritten write answer = HasWrittenLine setup write old new answer

  abbrev pub FetchesPath : ℕ → Result (Unit {0}) PathFault → Type 0
  FetchesPath page answer = HasFetched setup page old new answer

  abbrev pub UnsealsLine : ℕ → Ctr → Result Unsealed LineFault → Type 0
  UnsealsLine at ctr answer = HasUnsealed setup at ctr old new answer

  abbrev pub SealsAnew : ℕ → Result (ℕ × ℕ) LineFault → Type 0
  SealsAnew n answer = HasResealed setup n old new answer

  abbrev pub SealsNext : ℕ → Line → Result Ctr Cut → Type 0
  SealsNext at plain answer = HasSealedNext setup at plain old new answer

  abbrev pub BeginsPage : ℕ → Result (Unit {0}) Fault → Type 0
  BeginsPage page answer = HasBegunPage setup page old new answer

  abbrev pub MakesPlain : Posted → Result Line LineFault → Type 0
  MakesPlain write answer = HasMadePlain setup write old new answer

  abbrev pub FinishesPage : ℕ → Result (Unit {0}) LineFault → Type 0
  FinishesPage n answer = HasFinishedPage setup n old new answer

  abbrev pub FinishesFor : Bool → ℕ → Result (Unit {0}) LineFault → Type 0
  FinishesFor overflows page answer = HasFinishedFor overflows setup page old new answer

  abbrev pub BeginsFor : Bool → ℕ → Result (Unit {0}) Fault → Type 0
  BeginsFor overflows page answer = HasBegunFor overflows setup page old new answer

  -- ---- the plans

  abbrev pub FollowsRead : ℕ → Result Line Fault → Type 0
  FollowsRead at answer =
      Follows (read_plan setup device.regs at chip) device later_device (ended answer later_chip)

  abbrev pub FollowsFetch : ℕ → Result (Unit {0}) PathFault → Type 0
  FollowsFetch page answer =
      Follows (fetch_path_plan setup device.regs.root page chip) device later_device (ended answer later_chip)

  abbrev pub FollowsUnseal : ℕ → Ctr → Result Unsealed LineFault → Type 0
  FollowsUnseal at ctr answer = Follows (unseal_plan setup at ctr chip) device later_device (ended answer later_chip)

  abbrev pub FollowsReseal : ℕ → Result (ℕ × ℕ) LineFault → Type 0
  FollowsReseal n answer = Follows (reseal_plan setup n device.regs chip) device later_device (ended answer later_chip)

  abbrev pub FollowsSeal : ℕ → Line → Result Ctr Cut → Type 0
  FollowsSeal at plain answer =
      Follows (seal_next_plan setup at plain device.regs chip) device later_device (ended answer later_chip)

  abbrev pub FollowsWrite : Posted → Result Ctr Fault → Type 0
  FollowsWrite write answer =
      Follows (write_plan setup device.regs write chip) device later_device (ended answer later_chip)

  abbrev pub FollowsPlain : Posted → Result Line LineFault → Type 0
  FollowsPlain write answer =
      Follows (plain_plan setup device.regs write chip) device later_device (ended answer later_chip)

  -- those whose ends have the registers too

  abbrev pub FollowsFinish : ℕ → Result (Unit {0}) LineFault → Type 0
  FollowsFinish n answer =
      Follows (finish_page_plan setup n device.regs chip) device later_device
      (ended_with answer later_chip later_device.regs)

  abbrev pub FollowsFinishFor : Bool → ℕ → Result (Unit {0}) LineFault → Type 0
  FollowsFinishFor overflows page answer =
      Follows (finish_for_plan setup page overflows device.regs chip) device later_device
      (ended_with answer later_chip later_device.regs)

  abbrev pub FollowsBegin : ℕ → Result (Unit {0}) Fault → Type 0
  FollowsBegin page answer =
      Follows (begin_page_plan setup page device.regs chip) device later_device
      (ended_with answer later_chip later_device.regs)

  abbrev pub FollowsBeginFor : Bool → ℕ → Result (Unit {0}) Fault → Type 0
  FollowsBeginFor overflows page answer =
      Follows (begin_for_plan setup page overflows device.regs chip) device later_device
      (ended_with answer later_chip later_device.regs)

-- ---- what uses the board alone: whatever ledger and counts stand next to it

module _ {B : Type 0} (board : BoardOf B) (engine : ChipState) (b : B) (later_engine : ChipState) (later_b : B) where
  -- of any setup of the engine's shape
  abbrev AnySetup : (Setup → Parts → Parts → Type 0) → Type 0
  AnySetup relation =
      (setup : Setup) (ledger : LedgerState) (tags digests : ℕ) → setup.shape ≡ engine.shape
      → relation setup (parts_with engine (board.device b) ledger tags digests)
      (parts_with later_engine (board.device later_b) ledger tags digests)

  abbrev pub NamesPath : ℕ → Result (Unit {0}) Cut → Type 0
  NamesPath page answer = AnySetup (λ setup old new. HasNamedPath setup page old new answer)

-- ---- groups: what uses the board and the audit

module _ {B A : Type 0} (board : BoardOf B) (audit : AuditOf A) (engine : ChipState) (b : B) (a : A)
    (later_engine : ChipState) (later_b : B) (later_a : A) where
  abbrev pub EndsReseal : NextSeal → Result (Unit {0}) Cut → Type 0
  EndsReseal next answer =
      HasResealEnded engine.shape next (board.device b) (board.device later_b) (audit.ledger a) (audit.ledger later_a) answer

  abbrev pub FollowsResealGroup : NextSeal → Result (Unit {0}) Cut → Type 0
  FollowsResealGroup next answer =
      Follows (commit_plan engine.shape next (board.device b).regs (audit.ledger a)) (board.device b) (board.device later_b)
      (ended answer (audit.ledger later_a))

  abbrev pub EndsSeal : NextSeal → ℕ → Path → Result (Unit {0}) Cut → Type 0
  EndsSeal next grouped path answer =
      HasSealEnded engine.shape next grouped path.lines.items path.root engine later_engine (board.device b)
      (board.device later_b) (audit.ledger a) (audit.ledger later_a) answer

  abbrev pub FollowsSealGroup : NextSeal → ℕ → Path → Result (Unit {0}) Cut → Type 0
  FollowsSealGroup next grouped path answer =
      (tags digests : ℕ)
      → Follows
      (commit_seal_plan engine.shape next grouped path.lines.items path.root (board.device b).regs
      (chip_with engine (audit.ledger a) tags digests))
      (board.device b) (board.device later_b)
      (ended_with answer (chip_with later_engine (audit.ledger later_a) tags digests) (board.device later_b).regs)

  abbrev pub EndsBegin : ℕ → Progress → Path → Result (Unit {0}) Cut → Type 0
  EndsBegin page register path answer =
      HasBeginEnded engine.shape page register path.lines.items path.root engine later_engine (board.device b)
      (board.device later_b) (audit.ledger a) (audit.ledger later_a) answer

  abbrev pub FollowsBeginGroup : ℕ → Progress → Path → Result (Unit {0}) Cut → Type 0
  FollowsBeginGroup page register path answer =
      (tags digests : ℕ)
      → Follows
      (commit_begin_plan engine.shape page register path.lines.items path.root (board.device b).regs
      (chip_with engine (audit.ledger a) tags digests))
      (board.device b) (board.device later_b)
      (ended_with answer (chip_with later_engine (audit.ledger later_a) tags digests) (board.device later_b).regs)

-- ---- the public calls: by whether the engine was down, and is

module _ {B S A : Type 0} (board : BoardOf B) (suite : SuiteOf S) (audit : AuditOf A)
    (engine : EngineState) (b : B) (s : S) (a : A) (later : EngineState) (later_b : B) (later_s : S) (later_a : A) where
  abbrev Called : {T : Type 0} → Result T Fault → (Setup → Parts → Parts → Type 0) → Type 0
  Called answer did =
      IsEngineCall engine.down later.down (parts_at board suite audit engine b s a)
      (parts_at board suite audit later later_b later_s later_a) answer
      (did (setup_at suite engine s) (parts_at board suite audit engine b s a)
      (parts_at board suite audit later later_b later_s later_a))

  abbrev pub ReadsLine : ℕ → Result Line Fault → Type 0
  ReadsLine at answer = Called answer (λ setup old new. HasReadLine setup at old new answer)

  abbrev pub WritesLine : Posted → Result Ctr Fault → Type 0
  WritesLine write answer = Called answer (λ setup old new. HasWrittenLine setup write old new answer)

  abbrev pub Turns : Result (Option (ℕ × ℕ)) Fault → Type 0
  Turns answer = Called answer (λ setup old new. HasTurned setup old new answer)

module _ {B : Type 0} (board : BoardOf B) (engine : EngineState) (b : B) (later : EngineState) (later_b : B) where
  abbrev CalledAny : {T : Type 0} → Result T Fault → (Setup → Parts → Parts → Type 0) → Type 0
  CalledAny answer did =
      (setup : Setup) (ledger : LedgerState) (tags digests : ℕ) → setup.shape ≡ engine.shape
      → IsEngineCall engine.down later.down (parts_of engine (board.device b) ledger tags digests)
      (parts_of later (board.device later_b) ledger tags digests) answer
      (did setup (parts_of engine (board.device b) ledger tags digests)
      (parts_of later (board.device later_b) ledger tags digests))

  abbrev pub Flushes : Result (Option ℕ) Fault → Type 0
  Flushes answer = CalledAny answer (λ setup old new. HasFlushed setup old new answer)

  abbrev pub SetsLoss : ℕ → Result ℕ Fault → Type 0
  SetsLoss n answer = CalledAny answer (λ setup old new. HasSetLoss setup n old new answer)
