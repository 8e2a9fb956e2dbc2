-- The run of a sample trace's commands, of which the last line alone is printed.
use Rattle.std.specs.Prelude.{◌≡◌, ◌≢◌, ◌⊎◌, ◌++◌, ℕ, true, false, List, [], ◌∷◌, map, All}
use Rattle.pmem_base.specs.declared.commands.Command.{Command}
use Rattle.pmem_base.specs.declared.answers.Answer.{Answer}
use Rattle.pmem_base.specs.declared.answers.Answer.TheVariants as Say
use Rattle.pmem_base.specs.declared.answers.Exhibit.{Exhibit}
use Rattle.collision_witness.specs.Exhibits.{IsExhibit}
use Rattle.suite.specs.Setup.{Setup}
use Rattle.plain_model.specs.Answers.{is_shown}
use Rattle.plain_model.specs.declared.Stop.{Stop}
use Rattle.plain_model.specs.declared.Stop.TheVariants.{Finished, Memory, Words, ReadFault, WriteFault, Refused, Shown, TooManyLines}
use Rattle.plain_model.specs.Run.{Machine, Step, AreAnswered}
use Rattle.plain_model.specs.Texts.{as_line, answer_text}
use Rattle.pmem_replay.specs.World.{WorldState}
use Rattle.pmem_cli.specs.Printed.{Output, Prints, PrintsFront}
use Rattle.pmem_cli.specs.Standing.{Standing, AreStepped, StandingAfter}

-- ---- the answers

-- The commands were answered, each after those before it, up to this answer: it is the last command's, or
-- an exhibit, which ends the run.
pub record IsLastAnswer (setup : Setup) (machine : Machine) (commands : List Command) (steps : List Step) (answer : Answer) :
    Type 0 where
  pub first : List Step
  pub last : Step
  pub all : steps ≡ first ++ last ∷ []
  pub answered : AreAnswered setup machine steps
  pub none_shown : All (λ step. is_shown step.reply.answer ≡ false) first
  pub its_answer : last.reply.answer ≡ answer
  pub behind : List Command
  pub in_order : map (λ step. step.command) steps ++ behind ≡ commands
  pub ends : (is_shown answer ≡ true) ⊎ (behind ≡ [])

-- ---- the stops

-- the last answer's line
abbrev pub IsLineOf : Answer → List ℕ → Type 0
IsLineOf answer text = text ≡ as_line (answer_text answer)

-- What a stop says of the run of these commands from a machine on, and of the text that is printed of it: the last answer, which is an
-- exhibit if and only if the stop is that one. If memory was needed, nothing is said.
abbrev pub SampleEnds : Setup → Machine → List Command → Stop → List Step → List ℕ → Type 0
SampleEnds setup machine commands Finished steps text =
    (answer : Answer) × IsLastAnswer setup machine commands steps answer × IsLineOf answer text × (is_shown answer ≡ false)
SampleEnds setup machine commands Shown steps text =
    (exhibit : Exhibit) × IsLastAnswer setup machine commands steps (Say.Shown exhibit) × IsLineOf (Say.Shown exhibit) text
    × IsExhibit setup.formulas exhibit
SampleEnds setup machine commands WriteFault steps text =
    (answer : Answer) × IsLastAnswer setup machine commands steps answer × IsLineOf answer text
SampleEnds setup machine commands Memory steps text = (steps ≡ []) × (text ≡ [])
SampleEnds setup machine commands Words steps text = ⊥
SampleEnds setup machine commands ReadFault steps text = ⊥
SampleEnds setup machine commands (Refused number kind) steps text = ⊥
SampleEnds setup machine commands TooManyLines steps text = ⊥

-- ---- by a world

-- the commands before these were answered, none by an exhibit
pub record HasAnsweredFront (before after : Standing) (commands behind : List Command) (steps : List Step) : Type 0 where
  pub in_order : map (λ step. step.command) steps ++ behind ≡ commands
  pub answered : AreAnswered before.setup before.machine steps
  pub none_shown : All (λ step. is_shown step.reply.answer ≡ false) steps
  pub on : StandingAfter before after steps

-- the world answered these
abbrev pub LeadsOn : Standing → List Step → Type 0
LeadsOn before steps = (last : WorldState) × AreStepped before.setup before.world steps last

abbrev pub HasReachedAnswer : Standing → List Command → Answer → Type 0
HasReachedAnswer before commands answer =
    (steps : List Step) × IsLastAnswer before.setup before.machine commands steps answer × LeadsOn before steps

-- a text was printed, or a prefix of it if the sink failed
pub record HasSaidText (stop : Stop) (from to : Output) (text : List ℕ) : Type 0 where
  pub whole : stop ≢ WriteFault → Prints from to text
  pub front : PrintsFront from to text

-- the commands were run to a stop, and the last line of that was printed
pub record HasToldSample (stop : Stop) (before : Standing) (commands : List Command) (from to : Output) : Type 0 where
  pub steps : List Step
  pub text : List ℕ
  pub ends : SampleEnds before.setup before.machine commands stop steps text
  pub leads : LeadsOn before steps
  pub said : HasSaidText stop from to text
