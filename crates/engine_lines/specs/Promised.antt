-- What the functions of this crate promise of what they are called with: an engine, a board, a suite and an audit, before
-- and after.
use Rattle.std.specs.Prelude.{ℕ, ◌≡◌, Bool, true, false, List, Result, IfOk}
use Rattle.pmem_base.specs.declared.lines.Line.{Line}
use Rattle.board.specs.declared.device.Board.{Ghosts as BoardOf}
use Rattle.call_plan.specs.Following.{Follows}
use Rattle.seal_ledger.specs.declared.Audit.{Ghosts as AuditOf}
use Rattle.suite.specs.Setup.{Setup}
use Rattle.suite.specs.declared.Suite.{Ghosts as SuiteOf}
use Rattle.pmem_engine.specs.declared.fault.Fault.{Fault}
use Rattle.pmem_engine.specs.Engine.{EngineState}
use Rattle.pmem_engine.specs.Parts.{Parts, regs_of, parts_at, setup_at}
use Rattle.pmem_engine.specs.Calls.{IsLeftAlone, IsEngineCall}
use Rattle.commit_regs.specs.Plans.{ended_with}
use Rattle.pmem_engine.specs.Plans.{chip_in}
use Rattle.engine_lines.specs.declared.edits.Edit.{Edit}
use Rattle.engine_lines.specs.Edits.{HasLinePut, HasEdited, AreEdited}
use Rattle.engine_lines.specs.Plans.{ChangePlan, put_plan, edit_plan, edits_plan}

-- changes were made, and the board followed their plan
pub record HasMadeEdits (setup : Setup) (edits : List Edit) (old new : Parts) (answer : Result (Unit {0}) Fault) : Type 0 where
  pub edited : AreEdited setup edits old new answer
  pub plan :
      Follows (edits_plan setup edits (chip_in old, regs_of old)) old.device new.device
      (ended_with answer (chip_in new) (regs_of new))

-- An opening that the flag of its engine guards. If the engine is up, this is promised. If it is down, nothing is done, and this is
-- refused. The parts are then those of an engine: of the one that is kept, which is up, or of the one that is dropped.
pub record IsGuardedOpening {O F : Type 0} (engine_of : O → EngineState) (down : Bool) (old : Parts) (now : EngineState → Parts)
    (answer : Result O F) (promised refused : Type 0) : Type 0 where
  pub did : down ≡ false → promised
  pub refuses : down ≡ true → ((dropped : EngineState) × IsLeftAlone old (now dropped)) × refused
  pub up : IfOk answer (λ opened. (engine_of opened).down ≡ false)

module _ {B S A : Type 0} (board : BoardOf B) (suite : SuiteOf S) (audit : AuditOf A)
    (engine : EngineState) (b : B) (s : S) (a : A) (later : EngineState) (later_b : B) (later_s : S) (later_a : A) where
  abbrev setup : Setup
  setup = setup_at suite engine s

  abbrev old : Parts
  old = parts_at board suite audit engine b s a

  abbrev new : Parts
  new = parts_at board suite audit later later_b later_s later_a

  -- ---- of an engine that is up

  abbrev pub PutsLine : ℕ → Line → Result (Unit {0}) Fault → Type 0
  PutsLine at line answer = HasLinePut setup at line old new answer

  abbrev pub EditsLine : Edit → Result (Unit {0}) Fault → Type 0
  EditsLine edit answer = HasEdited setup edit old new answer

  abbrev pub EditsInOrder : List Edit → Result (Unit {0}) Fault → Type 0
  EditsInOrder edits answer = AreEdited setup edits old new answer

  abbrev FollowsChange : ChangePlan → Result (Unit {0}) Fault → Type 0
  FollowsChange plan answer =
      Follows plan (board.device b) (board.device later_b) (ended_with answer (chip_in new) (board.device later_b).regs)

  abbrev pub FollowsPut : ℕ → Line → Result (Unit {0}) Fault → Type 0
  FollowsPut at line answer = FollowsChange (put_plan setup at line (chip_in old) (board.device b).regs) answer

  abbrev pub FollowsEdit : Edit → Result (Unit {0}) Fault → Type 0
  FollowsEdit edit answer = FollowsChange (edit_plan setup edit (chip_in old, (board.device b).regs)) answer

  abbrev pub FollowsEdits : List Edit → Result (Unit {0}) Fault → Type 0
  FollowsEdits edits answer = FollowsChange (edits_plan setup edits (chip_in old, (board.device b).regs)) answer

  -- ---- of any engine

  abbrev pub EditsAll : List Edit → Result (Unit {0}) Fault → Type 0
  EditsAll edits answer = IsEngineCall engine.down later.down old new answer (HasMadeEdits setup edits old new answer)
