-- Replies that are legal and fit.
use Rattle.std.specs.Prelude.{IsTrue}
use Rattle.pmem_base.specs.declared.commands.Command.{Command}
use Rattle.suite.specs.Setup.{Setup}
use Rattle.plain_model.specs.State.{Reply}
use Rattle.plain_model.specs.Answers.{is_engine_answer}
use Rattle.plain_model.specs.Bounds.{IsWithinBounds}
use Rattle.plain_model.specs.Legal.{IsWithinFuse, can_put_first, put_count, port_drained, IsCaused}
use Rattle.plain_model.specs.Shown.{IsShownAnswer, IsEngineReply}
use Rattle.plain_model.specs.Fits.{HasMarks, IsPeekTrue, AreStepsCounted, IsFlushTrue, Fits}
use Rattle.pmem_replay.specs.World.{WorldState, view_in}

-- a reply that is legal, where the engine decides, and fits
pub record IsGood (setup : Setup) (world : WorldState) (command : Command) (reply : Reply) : Type 0 where
  pub legal : IsEngineReply setup world.state (view_in setup world) command reply
  pub fits : Fits setup world.state (view_in setup world) command reply

-- such a reply, by what it owes: four facts for its answer to be legal, its exhibit, and five for it to fit
pub good : {setup : Setup} {world : WorldState} {command : Command} {reply : Reply} → IsTrue (is_engine_answer command reply.answer)
    → IsWithinFuse world.state.fuse reply.answer
    → IsTrue (can_put_first world.state (port_drained command) (put_count reply.answer))
    → IsCaused setup world.state (view_in setup world) command reply.answer
    → IsShownAnswer setup world.state (view_in setup world) command reply.marks reply.answer
    → HasMarks setup.formulas world.state (view_in setup world) command reply
    → IsPeekTrue setup world.state (view_in setup world) command reply.answer
    → AreStepsCounted world.state reply.answer
    → IsFlushTrue setup.shape world.state reply.answer
    → IsWithinBounds setup world.state (view_in setup world) command reply
    → IsGood setup world command reply
good listed within_fuse writes_whole caused shown marks_asked peek_true steps_counted flush_true within_bounds =
    record {
      legal =
          record {
            legal = record { listed = listed; within_fuse = within_fuse; writes_whole = writes_whole; caused = caused };
            shown = shown;
          };
      fits =
          record {
            marks_asked = marks_asked;
            peek_true = peek_true;
            steps_counted = steps_counted;
            flush_true = flush_true;
            within_bounds = within_bounds;
          };
    }
