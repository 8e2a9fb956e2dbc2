-- Commands that the table answers and that change nothing.
use Rattle.std.proofs.Common.{rules}
use Rattle.std.proofs.Common.{◌≡◌, true, false, Some, None, IsTrue, subst}
use Rattle.pmem_base.specs.declared.commands.Command.{Command}
use Rattle.pmem_base.specs.declared.answers.Answer.{Answer}
use Rattle.pmem_base.specs.Ranges.{IsAnswer}
use Rattle.suite.specs.Setup.{Setup}
use Rattle.plain_model.specs.After.{state_after}
use Rattle.plain_model.specs.Answers.{decided_answer, is_answer_to, is_shown}
use Rattle.plain_model.specs.Fits.{Fits}
use Rattle.pmem_engine.specs.Engine.{EngineState}
use Rattle.pmem_replay.specs.World.{WorldState, IsWorld, IsPowered, view_in}
use Rattle.pmem_replay.specs.Stepped.{board_after, engine_after, IsSeenOnDevice, HasStepped}
use Rattle.pmem_replay.specs.Replies.{without_marks}
use Rattle.pmem_replay.proofs.Steps.MarklessCalls.{counted_state}
use Rattle.pmem_replay.proofs.Table.TableLaws.{counted_none}
use Rattle.pmem_replay.proofs.Steps.WorldSteps.{stepped_by_table}

-- power is off where there is no engine, and on where there is one
pub dark_in : (setup : Setup) (world : WorldState) → IsWorld setup world → world.engine ≡ None → world.state.power ≡ false
dark_in setup world whole none = (subst (λ e. IsPowered setup world e) none whole.chip).unpowered

pub lit_in : (setup : Setup) (world : WorldState) (engine : EngineState) → IsWorld setup world → world.engine ≡ Some engine → world.state.power ≡ true
lit_in setup world engine whole there = (subst (λ e. IsPowered setup world e) there whole.chip).powered

-- a world that goes on: no exhibit was shown
pub record IsGoingOn (setup : Setup) (world : WorldState) : Type 0 where
  pub whole : IsWorld setup world
  pub unshown : world.shown ≡ false

-- an answer of the table that changes nothing
pub stepped_unchanged : (setup : Setup) (world : WorldState) (command : Command) (answer : Answer)
    → IsGoingOn setup world
    → decided_answer setup.shape world.state command ≡ Some answer
    → IsTrue (is_answer_to command answer) → IsAnswer answer → is_shown answer ≡ false
    → Fits setup world.state (view_in setup world) command (without_marks answer)
    → state_after setup.shape world.state command (without_marks answer) ≡ counted_state world.state 0
    → board_after world.board command answer ≡ world.board
    → engine_after world.engine command answer ≡ world.engine
    → IsSeenOnDevice setup world command answer world
    → HasStepped setup world command (without_marks answer) world
stepped_unchanged setup world command answer going decided listed in_range none fits state board engine seen = search (rules, counted_none, stepped_by_table)
