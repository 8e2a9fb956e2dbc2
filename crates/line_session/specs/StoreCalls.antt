-- One call of a store in a session: the board followed the call's plan, and all else is by the plan's end.
use Rattle.std.specs.Prelude.{ℕ, ◌≡◌, true, Some, None, Result, if◌then◌else◌}
use Rattle.pmem_base.specs.declared.registers.Regs.{Regs}
use Rattle.call_plan.specs.Plans.{Plan}
use Rattle.call_plan.specs.Runs.{IsOutcome}
use Rattle.watched_board.specs.declared.taken.Taken.{Taken}
use Rattle.watched_board.specs.Watching.{steps_in}
use Rattle.pmem_engine.specs.Engine.{ChipState}
use Rattle.pmem_engine.specs.Plans.{Chip}
use Rattle.line_session.specs.State.{LineSession, chip_in}

-- a call's plan, by the registers and the chip that it begins with
abbrev pub CallPlan : Type 0 → Type 0 → Type 0
CallPlan F A = Regs → Chip → Plan (Chip × F) (Chip × A)

-- The session before and after a call that ended so, after that many steps: what is on the chip then is the session's, and the engine is
-- there unless power was cut.
pub record HasCalledStore {F A : Type 0} (plan : CallPlan F A) (steps : ℕ) (end : Result A F) (old new : LineSession) : Type 0 where
  pub powered : old.board.powered ≡ true
  pub engine : ChipState
  pub was_on : old.engine ≡ Some engine
  pub after : ChipState
  pub taken : Taken
  pub outcome : IsOutcome (plan old.board.regs (chip_in old engine)) old.board new.board taken end (chip_in new after)
  pub its_steps : steps ≡ steps_in taken
  pub kept : new.engine ≡ (if new.board.powered then Some after else None)
  pub shape : new.shape ≡ old.shape
  pub keys : new.keys ≡ old.keys
