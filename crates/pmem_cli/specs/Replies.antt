-- What the world's replies to the lines of a trace mean.
use Rattle.std.specs.Prelude.{◌≡◌, ◌⊎◌, ℕ, true, false, List, [], ◌∷◌, Option, Some, None, Ok}
use Rattle.pmem_base.specs.declared.commands.Command.{Command}
use Rattle.pmem_base.specs.declared.answers.Answer.{Answer}
use Rattle.suite.specs.Formulas.{Formulas}
use Rattle.plain_model.specs.declared.Stop.{Stop}
use Rattle.plain_model.specs.declared.Stop.TheVariants.{Finished, Memory, Words, ReadFault, WriteFault, Refused, Shown, TooManyLines}
use Rattle.plain_model.specs.Grammar.{reading_of}
use Rattle.plain_model.specs.Answers.{is_shown}
use Rattle.plain_model.specs.Run.{Step, step_text, IsAnswered}
use Rattle.pmem_replay.specs.World.{WorldState}
use Rattle.pmem_replay.specs.Stepped.{CanWantMemory}
use Rattle.trace_text.specs.Entries.{sort_of_reading}
use Rattle.trace_text.specs.Conversations.{Protocol}
use Rattle.pmem_cli.specs.Printed.{Output, Prints, PrintsFront}
use Rattle.pmem_cli.specs.Standing.{Standing, standing_of, IsWorldStep, StandingAfter}
use Rattle.pmem_cli.specs.Wanting.{WantsMemoryIn}

-- ---- one command

-- the command was answered by the world
pub record HasReplied (before : Standing) (command : Command) (step : Step) : Type 0 where
  pub asked : step.command ≡ command
  pub answered : IsAnswered before.setup before.machine step
  pub next : WorldState
  pub stepped : IsWorldStep before.setup before.world step next

-- the command was answered so, and the run goes on unless the answer is an exhibit
pub record IsExecuted (before after : Standing) (command : Command) (answer : Answer) : Type 0 where
  pub step : Step
  pub replied : HasReplied before command step
  pub its_answer : step.reply.answer ≡ answer
  pub on : is_shown answer ≡ false → StandingAfter before after (step ∷ [])

-- how one command was answered, or why the run stops at it
abbrev pub AnswersCommand : Option Stop → Command → Standing → Standing → Output → Output → Type 0
AnswersCommand None command before after from to =
    (step : Step) × HasReplied before command step × (is_shown step.reply.answer ≡ false)
    × StandingAfter before after (step ∷ []) × Prints from to (step_text step)
AnswersCommand (Some Memory) command before after from to = CanWantMemory before.machine.state command × (to ≡ from)
AnswersCommand (Some WriteFault) command before after from to =
    (step : Step) × HasReplied before command step × ((is_shown step.reply.answer ≡ true) ⊎ StandingAfter before after (step ∷ []))
    × PrintsFront from to (step_text step)
AnswersCommand (Some Shown) command before after from to =
    (step : Step) × HasReplied before command step × (is_shown step.reply.answer ≡ true) × Prints from to (step_text step)
AnswersCommand (Some (Refused number kind)) command before after from to = ⊥
AnswersCommand (Some Finished) command before after from to = ⊥
AnswersCommand (Some Words) command before after from to = ⊥
AnswersCommand (Some ReadFault) command before after from to = ⊥
AnswersCommand (Some TooManyLines) command before after from to = ⊥

-- so a world answered it, whose suite has these formulas
abbrev pub AnswersByWorld : (List ℕ → Formulas) → Option Stop → Command → WorldState → WorldState → Output → Output → Type 0
AnswersByWorld formulas_of stop command old new from to =
    AnswersCommand stop command (standing_of formulas_of old) (standing_of formulas_of new) from to

-- ---- the lines of a trace

-- the line's command was answered by the world
pub record IsReplyTo (formulas_of : List ℕ → Formulas) (old : WorldState) (line : List ℕ) (step : Step) : Type 0 where
  pub command : Command
  pub reading : reading_of line ≡ Ok (Some command)
  pub replied : HasReplied (standing_of formulas_of old) command step

-- the world goes on by a reply that isn't an exhibit
pub record GoesOn (formulas_of : List ℕ → Formulas) (old : WorldState) (line : List ℕ) (step : Step) (new : WorldState) : Type 0 where
  pub reply : IsReplyTo formulas_of old line step
  pub hidden : is_shown step.reply.answer ≡ false
  pub on : StandingAfter (standing_of formulas_of old) (standing_of formulas_of new) (step ∷ [])

-- A reply that is an exhibit ends the run. Which world it leaves is said of all replies together (`IsReplayed`).
pub record EndsShown (formulas_of : List ℕ → Formulas) (old : WorldState) (line : List ℕ) (step : Step) : Type 0 where
  pub reply : IsReplyTo formulas_of old line step
  pub shown : is_shown step.reply.answer ≡ true

-- a world, as what answers the lines of a trace
abbrev pub world_protocol : (List ℕ → Formulas) → Protocol WorldState Step
world_protocol formulas_of =
    record {
      sort_of = λ line. sort_of_reading (reading_of line);
      answers = GoesOn formulas_of;
      shows = λ old line step new. EndsShown formulas_of old line step;
      text_of = step_text;
      wants_memory = λ old line. WantsMemoryIn old.state (reading_of line);
      runs = λ world. world.shown ≡ false;
    }
