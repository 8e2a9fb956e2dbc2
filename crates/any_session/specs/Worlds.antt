-- The world behind a run, as what answers lines one by one.
use Rattle.std.specs.Prelude.{ℕ, ◌≡◌, true, false, List, Some, Ok, Option}
use Rattle.board.specs.declared.access.Access.{Access}
use Rattle.pmem_base.specs.declared.commands.Command.{Command}
use Rattle.suite.specs.Formulas.{Formulas}
use Rattle.plain_model.specs.Answers.{is_shown}
use Rattle.plain_model.specs.Grammar.{reading_of}
use Rattle.plain_model.specs.Run.{Step, step_text}
use Rattle.pmem_replay.specs.Logged.{IsLogged}
use Rattle.pmem_replay.specs.Stepped.{CanWantMemory}
use Rattle.pmem_replay.specs.World.{WorldState, setup_of_world}
use Rattle.trace_text.specs.Entries.{sort_of_reading}
use Rattle.pmem_cli.specs.Standing.{IsWorldStep}
use Rattle.any_session.specs.Told.{Lines}

-- the line's command was answered so by the world, with these marks
pub record IsStepAt (formulas_of : List ℕ → Formulas) (old : WorldState) (line : List ℕ) (step : Step) (new : WorldState) : Type 0 where
  pub reading : reading_of line ≡ Ok (Some step.command)
  pub stepped : IsWorldStep (setup_of_world formulas_of old) old step new

-- the line asks for a command for whose answer memory may be needed
pub record IsWorldStarvedOf (old : WorldState) (line : List ℕ) : Type 0 where
  pub command : Command
  pub reading : reading_of line ≡ Ok (Some command)
  pub wanted : CanWantMemory old.state command

-- the line's command made these accesses of the board
pub record IsWorldLogOf (old : WorldState) (line : List ℕ) (log_old log_new : Option (List Access)) (new : WorldState) : Type 0 where
  pub command : Command
  pub reading : reading_of line ≡ Ok (Some command)
  pub logged : IsLogged command log_old old.board log_new new.board

-- A reply is a command with its marks and its answer, as the world's own clause has it.
abbrev pub world_lines : (List ℕ → Formulas) → Lines WorldState Step
world_lines formulas_of =
    record {
      protocol =
          record {
            sort_of = λ line. sort_of_reading (reading_of line);
            answers = λ old line step new. IsStepAt formulas_of old line step new × (is_shown step.reply.answer ≡ false);
            shows = λ old line step new. IsStepAt formulas_of old line step new × (is_shown step.reply.answer ≡ true);
            text_of = step_text;
            wants_memory = IsWorldStarvedOf;
            runs = λ world. world.shown ≡ false;
          };
      logs = IsWorldLogOf;
      work = λ world. (world.tags, world.digests);
    }
