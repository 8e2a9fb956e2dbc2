-- A run of the program over a trace's bytes: the replies to its commands, and what is printed of them. Each definition holds from any
-- machine on, after that many lines.
use Rattle.std.specs.Prelude.{ℕ, ◌≡◌, ◌≤◌, ◌<◌, ◌+◌, ◌⊎◌, Bool, true, false, List, [], ◌∷◌, ◌++◌, length, map, codes, decimal, All, IsOk, Option, Some, None, Ok, Err, IsTrue}
use Rattle.std.specs.List.{flat_map}
use Rattle.std.specs.Io.KnownBytes.{Consumes}
use Rattle.pmem_base.specs.declared.commands.Kind.{Kind}
use Rattle.pmem_base.specs.declared.commands.Command.{Command}
use Rattle.pmem_base.specs.declared.commands.Command.TheVariants as Do
use Rattle.pmem_base.specs.declared.answers.Answer.TheVariants as Say
use Rattle.pmem_base.specs.declared.answers.Exhibit.{Exhibit}
use Rattle.suite.specs.Setup.{Setup}
use Rattle.plain_model.specs.declared.Stop.{Stop}
use Rattle.plain_model.specs.declared.Stop.TheVariants.{Finished, Memory, Words, ReadFault, WriteFault, Refused, Shown, TooManyLines}
use Rattle.plain_model.specs.State.{PlainState, Reply, start_state}
use Rattle.plain_model.specs.View.{DeviceView, start_view, view_after_marks}
use Rattle.plain_model.specs.After.{state_after}
use Rattle.plain_model.specs.Answers.{is_shown}
use Rattle.plain_model.specs.Shown.{IsLegal}
use Rattle.plain_model.specs.Fits.{Fits}
use Rattle.plain_model.specs.Lines.{lines_of, ended, IsWithin}
use Rattle.plain_model.specs.Grammar.{Reading, reading_of}
use Rattle.collision_witness.specs.Exhibits.{IsExhibit}
use Rattle.collision_witness.specs.Texts.{sentence}
use Rattle.plain_model.specs.Texts.{as_line, reply_text}

-- ---- a command and its reply

pub record Step : Type 0 where
  pub command : Command
  pub reply : Reply

-- what is printed of it
abbrev pub step_text : Step → List ℕ
step_text step = reply_text step.reply

abbrev pub steps_text : List Step → List ℕ
steps_text steps = flat_map step_text steps

-- ---- the machine between commands

-- the plain machine and the device view, between two commands
pub record Machine : Type 0 where
  pub state : PlainState
  pub view : DeviceView

-- a run begins with a formatted machine
unfoldable pub start : Setup → Machine
start setup = record { state = start_state setup.shape; view = start_view setup.shape }

unfoldable pub machine_after : Setup → Machine → Step → Machine
machine_after setup machine step =
    record {
      state = state_after setup.shape machine.state step.command step.reply;
      view = view_after_marks machine.view step.reply.marks;
    }

abbrev pub machine_after_all : Setup → Machine → List Step → Machine
machine_after_all setup machine [] = machine
machine_after_all setup machine (step ∷ steps) = machine_after_all setup (machine_after setup machine step) steps

-- what a run asks of a reply: it is legal, and fits the device view
pub record IsAnswered (setup : Setup) (machine : Machine) (step : Step) : Type 0 where
  pub legal : IsLegal setup machine.state machine.view step.command step.reply
  pub fits : Fits setup machine.state machine.view step.command step.reply

-- so it is for each of them, after those before it
abbrev pub AreAnswered : Setup → Machine → List Step → Type 0
AreAnswered setup machine [] = Unit {0}
AreAnswered setup machine (step ∷ steps) =
    IsAnswered setup machine step × AreAnswered setup (machine_after setup machine step) steps

-- ---- the run of these lines

abbrev pub commands_asked : Reading → List Command
commands_asked (Ok (Some command)) = command ∷ []
commands_asked (Ok None) = []
commands_asked (Err kind) = []

-- the commands of these lines
abbrev pub commands_of : List (List ℕ) → List Command
commands_of lines = flat_map (λ line. commands_asked (reading_of line)) lines

-- the lines are in the grammar, the steps are their commands in order, each with its reply, and no
-- reply is an exhibit
pub record IsRunFrom (setup : Setup) (machine : Machine) (lines : List (List ℕ)) (steps : List Step) :
    Type 0 where
  pub in_grammar : All (λ line. IsOk (reading_of line)) lines
  pub commands_in_order : map (λ step. step.command) steps ≡ commands_of lines
  pub answered : AreAnswered setup machine steps
  pub none_shown : All (λ step. is_shown step.reply.answer ≡ false) steps

-- ---- stops

-- the greatest number of lines
abbrev pub line_limit : ℕ
line_limit = 1_000_000

-- the program's status
abbrev pub status_of : Stop → ℕ
status_of Finished = 0
status_of Memory = 1
status_of Words = 2
status_of ReadFault = 3
status_of WriteFault = 4
status_of (Refused number kind) = 5
status_of Shown = 6
status_of TooManyLines = 7

abbrev pub kind_number : Kind → ℕ
kind_number Kind.Word = 1
kind_number Kind.Count = 2
kind_number Kind.Number = 3
kind_number Kind.Port = 4
kind_number Kind.Hex = 5
kind_number Kind.Long = 6

-- what is printed after the replies: an exhibit is the last of them
unfoldable pub stop_text : Stop → List ℕ
stop_text Finished = []
stop_text Memory = as_line (codes "stop memory")
stop_text Words = as_line (codes "stop words")
stop_text ReadFault = as_line (codes "stop read")
stop_text WriteFault = []
stop_text (Refused number kind) =
    as_line (sentence (codes "stop" ∷ codes "line" ∷ decimal number ∷ decimal (kind_number kind) ∷ []))
stop_text Shown = []
stop_text TooManyLines = as_line (codes "stop lines")

-- what is printed of a run
abbrev pub output_of : List Step → Stop → List ℕ
output_of steps stop = steps_text steps ++ stop_text stop

-- the steps are the run of a prefix of these lines
pub record IsFrontFrom (setup : Setup) (machine : Machine) (lines : List (List ℕ)) (steps : List Step) :
    Type 0 where
  pub before : List (List ℕ)
  pub behind : List (List ℕ)
  pub cut : lines ≡ before ++ behind
  pub run : IsRunFrom setup machine before steps

-- all lines are run, and there are no more than a trace may have
pub record IsFinishedFrom (setup : Setup) (machine : Machine) (served : ℕ) (lines : List (List ℕ))
    (steps : List Step) : Type 0 where
  pub run : IsRunFrom setup machine lines steps
  pub counted : served + length lines ≤ line_limit

-- the first line that isn't in the grammar has this number and this kind, and the steps are the run
-- of those before it
pub record IsRefusedFrom (setup : Setup) (machine : Machine) (served : ℕ) (lines : List (List ℕ))
    (steps : List Step) (number : ℕ) (kind : Kind) : Type 0 where
  pub before : List (List ℕ)
  pub line : List ℕ
  pub behind : List (List ℕ)
  pub cut : lines ≡ before ++ line ∷ behind
  pub run : IsRunFrom setup machine before steps
  pub refused : reading_of line ≡ Err kind
  pub numbered : number ≡ served + length before + 1
  pub counted : number ≤ line_limit

-- The lines before one are run, and the reply to that one's command is an exhibit, which ends the run:
-- it is the last line that is printed, and it holds.
pub record IsShownFrom (setup : Setup) (machine : Machine) (served : ℕ) (lines : List (List ℕ))
    (steps : List Step) : Type 0 where
  pub before : List (List ℕ)
  pub line : List ℕ
  pub behind : List (List ℕ)
  pub cut : lines ≡ before ++ line ∷ behind
  pub first : List Step
  pub run : IsRunFrom setup machine before first
  pub last : Step
  pub all : steps ≡ first ++ last ∷ []
  pub asked : reading_of line ≡ Ok (Some last.command)
  pub answered : IsAnswered setup (machine_after_all setup machine first) last
  pub exhibit : Exhibit
  pub shown : last.reply.answer ≡ Say.Shown exhibit
  pub holds : IsExhibit setup.formulas exhibit
  pub counted : served + length before < line_limit

-- the lines up to the limit are run, and more lines follow
pub record IsCutOffFrom (setup : Setup) (machine : Machine) (served : ℕ) (lines : List (List ℕ))
    (steps : List Step) : Type 0 where
  pub front : IsFrontFrom setup machine lines steps
  pub counted : served + length front.before ≡ line_limit
  pub more : 0 < length front.behind

-- The whole lines that the source gave are run. What it gave of the next line decides no stop by itself: it is no longer than a line may
-- be, and nothing at the limit.
pub record IsCutShortFrom (setup : Setup) (machine : Machine) (served : ℕ) (trace : List ℕ)
    (left : Option (List ℕ)) (steps : List Step) : Type 0 where
  pub before : List (List ℕ)
  pub part : List ℕ
  pub taken : Consumes (Some trace) left (flat_map ended before ++ part)
  pub whole : All IsWithin before
  pub unfinished : IsWithin part
  pub short : length part ≤ 1024
  pub run : IsRunFrom setup machine before steps
  pub counted : served + length before ≤ line_limit
  pub at_limit : served + length before ≡ line_limit → part ≡ []

-- whether the reply to the command may run out of memory
abbrev pub takes_memory : Command → Bool
takes_memory (Do.Drain port) = true
takes_memory (Do.Fence port) = true
takes_memory Do.Turn = true
takes_memory Do.Snap = true
takes_memory Do.On = true
takes_memory command = false

-- the reply to a line that reads so may run out of memory
abbrev pub WantsMemory : Reading → Type 0
WantsMemory (Ok (Some command)) = IsTrue (takes_memory command)
WantsMemory (Ok None) = ⊥
WantsMemory (Err kind) = ⊥

-- memory was needed for the reply to the first of these lines, which isn't past the limit
abbrev pub IsMemoryWanted : ℕ → List (List ℕ) → Type 0
IsMemoryWanted served [] = ⊥
IsMemoryWanted served (line ∷ lines) = WantsMemory (reading_of line) × (served < line_limit)

-- A prefix of the lines is run, and memory was needed before the first line, or for the reply to the next line's command.
pub record IsStarvedFrom (setup : Setup) (machine : Machine) (served : ℕ) (lines : List (List ℕ))
    (steps : List Step) : Type 0 where
  pub front : IsFrontFrom setup machine lines steps
  pub wanting :
      (served + length front.before ≡ 0) ⊎ IsMemoryWanted (served + length front.before) front.behind

-- a prefix of the lines is run, of no more of them than a trace may have
pub record IsLimitedFrontFrom (setup : Setup) (machine : Machine) (served : ℕ) (lines : List (List ℕ))
    (steps : List Step) : Type 0 where
  pub front : IsFrontFrom setup machine lines steps
  pub counted : served + length front.before ≤ line_limit

-- What a stop says of the rest of a trace, of what is left of it, and of the steps, from a machine on and after that many lines.
abbrev pub EndsFrom : Setup → Machine → ℕ → Stop → List ℕ → Option (List ℕ) → List Step → Type 0
EndsFrom setup machine served Finished trace left steps =
    IsFinishedFrom setup machine served (lines_of trace) steps
EndsFrom setup machine served Memory trace left steps = IsStarvedFrom setup machine served (lines_of trace) steps
EndsFrom setup machine served Words trace left steps = ⊥
EndsFrom setup machine served ReadFault trace left steps = IsCutShortFrom setup machine served trace left steps
EndsFrom setup machine served WriteFault trace left steps =
    IsLimitedFrontFrom setup machine served (lines_of trace) steps
    ⊎ IsShownFrom setup machine served (lines_of trace) steps
EndsFrom setup machine served (Refused number kind) trace left steps =
    IsRefusedFrom setup machine served (lines_of trace) steps number kind
EndsFrom setup machine served Shown trace left steps = IsShownFrom setup machine served (lines_of trace) steps
EndsFrom setup machine served TooManyLines trace left steps =
    IsCutOffFrom setup machine served (lines_of trace) steps

-- what a stop says of a whole trace, of what is left of it, and of the steps
abbrev pub Ends : Setup → Stop → List ℕ → Option (List ℕ) → List Step → Type 0
Ends setup stop trace left steps = EndsFrom setup (start setup) 0 stop trace left steps
