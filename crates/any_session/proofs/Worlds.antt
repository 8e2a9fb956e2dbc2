-- A command that the world answered, as a line told.
use Rattle.std.proofs.Common.{◌≡◌, ℕ, Bool, true, false, List, sym}
use Rattle.suite.specs.Formulas.{Formulas}
use Rattle.plain_model.specs.Answers.{is_shown}
use Rattle.plain_model.specs.Run.{Step}
use Rattle.pmem_replay.specs.World.{WorldState}
use Rattle.any_session.specs.Told.{IsReplyGoingOn}
use Rattle.any_session.specs.Worlds.{IsStepAt, world_lines}

-- the world goes on, or an exhibit ends it
pub going_on : (over : Bool) (f : List ℕ → Formulas) (old : WorldState) (line : List ℕ) (step : Step) (new : WorldState)
    → over ≡ is_shown step.reply.answer → IsStepAt f old line step new → IsReplyGoingOn (world_lines f).protocol over old line step new
going_on true f old line step new is at_line = (at_line, sym is)
going_on false f old line step new is at_line = (at_line, sym is)
