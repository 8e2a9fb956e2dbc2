-- A run that prints its accesses of the board before each reply.
use Rattle.std.specs.Prelude.{◌≡◌, ◌≢◌, ◌⊎◌, ◌<◌, ◌-◌, ◌++◌, ℕ, false, List, [], ◌∷◌, codes, decimal, length, map, All, Option, Some, None, Ok, Err, IfSome}
use Rattle.std.specs.List.{flat_map}
use Rattle.std.specs.Io.KnownBytes.{Appends}
use Rattle.pmem_base.specs.declared.commands.Command.{Command}
use Rattle.pmem_base.specs.Shape.{Shape}
use Rattle.suite.specs.Formulas.{Formulas}
use Rattle.suite.specs.Setup.{Setup}
use Rattle.collision_witness.specs.Texts.{sentence}
use Rattle.plain_model.specs.declared.Stop.{Stop}
use Rattle.plain_model.specs.declared.Stop.TheVariants.{Memory, ReadFault}
use Rattle.plain_model.specs.Lines.{lines_of, ended, IsWithin}
use Rattle.plain_model.specs.Grammar.{Reading, reading_of}
use Rattle.plain_model.specs.Texts.{as_line}
use Rattle.plain_model.specs.State.{PlainState}
use Rattle.plain_model.specs.Run.{Machine, Step, step_text, start, line_limit, machine_after_all, stop_text, status_of, IsRunFrom, IsFrontFrom, EndsFrom}
use Rattle.board.specs.declared.access.Access.{Access}
use Rattle.board.specs.declared.access.Access.TheVariants as Did
use Rattle.pmem_replay.specs.World.{WorldState}
use Rattle.pmem_replay.specs.Stepped.{CanWantMemory}
use Rattle.pmem_replay.specs.Logged.{IsLogged, CanAccess}
use Rattle.trace_text.specs.Entries.{sort_of_reading}
use Rattle.trace_text.specs.Conversations.{Protocol}
use Rattle.pmem_cli.specs.declared.ending.Ending.{Ending}
use Rattle.pmem_cli.specs.declared.ending.Ending.TheVariants.{Stopped}
use Rattle.pmem_cli.specs.Printed.{Output, AppendsFront, PutsAtLeast}
use Rattle.pmem_cli.specs.Pulling.{IsUndecided}
use Rattle.pmem_cli.specs.Replies.{GoesOn, EndsShown}
use Rattle.pmem_cli.specs.Sampled.{HasSaidText}
use Rattle.pmem_cli.specs.Standing.{standing_of, IsFirstWorld, IsWorldStep}
use Rattle.pmem_cli.specs.Sums.{AreStepSums}
use Rattle.pmem_cli.specs.Turns.{AnswersLine}
use Rattle.pmem_cli.specs.Untampered.{IsUntampered}

-- ---- texts

-- one access: the place of a read or of a line write, or how many lines the commit group has after a latch
unfoldable pub access_text : Access → List ℕ
access_text (Did.Read at) = sentence (codes "look" ∷ decimal at ∷ [])
access_text (Did.Write at line) = sentence (codes "line" ∷ decimal at ∷ [])
access_text (Did.Latch armed) = sentence (codes "latch" ∷ decimal armed ∷ [])

abbrev pub accesses_text : List Access → List ℕ
accesses_text [] = []
accesses_text (access ∷ accesses) = as_line (access_text access) ++ accesses_text accesses

-- the tags and digests that were made
unfoldable pub work_text : ℕ → ℕ → List ℕ
work_text tags digests = sentence (codes "work" ∷ decimal tags ∷ decimal digests ∷ [])

-- ---- a command, its reply, and what it took

pub record LoggedStep : Type 0 where
  pub step : Step
  pub accesses : List Access
  pub tags : ℕ
  pub digests : ℕ

-- the accesses in their order, and the tags and digests
abbrev pub log_text : List Access → ℕ → ℕ → List ℕ
log_text accesses tags digests = accesses_text accesses ++ as_line (work_text tags digests)

-- what is printed of it: its log, and then the reply
abbrev pub logged_text : LoggedStep → List ℕ
logged_text logged = log_text logged.accesses logged.tags logged.digests ++ step_text logged.step

-- the accesses are the command's, as a log of it tells them, and the tags and digests are those that the world counted
pub record IsTold (old : WorldState) (logged : LoggedStep) (new : WorldState) : Type 0 where
  pub accessed : IsLogged logged.step.command (Some []) old.board (Some logged.accesses) new.board
  pub tags : logged.tags ≡ new.tags - old.tags
  pub digests : logged.digests ≡ new.digests - old.digests

-- ---- running out of memory

-- the reply to a line that reads so, with its log, may run out of memory in this state: for the reply, or for an access that is logged
abbrev pub WantsMemoryLogged : Shape → PlainState → Reading → Type 0
WantsMemoryLogged g state (Ok (Some command)) = CanWantMemory state command ⊎ CanAccess g state command
WantsMemoryLogged g state (Ok None) = ⊥
WantsMemoryLogged g state (Err kind) = ⊥

-- ---- the lines of a trace

-- the world goes on by a reply that isn't an exhibit
pub record GoesOnTold (formulas_of : List ℕ → Formulas) (old : WorldState) (line : List ℕ) (logged : LoggedStep) (new : WorldState) : Type 0 where
  pub goes : GoesOn formulas_of old line logged.step new
  pub stepped : IsWorldStep (standing_of formulas_of old).setup old logged.step new
  pub told : IsTold old logged new

-- a reply that is an exhibit ends the run
pub record EndsTold (formulas_of : List ℕ → Formulas) (old : WorldState) (line : List ℕ) (logged : LoggedStep) : Type 0 where
  pub ends : EndsShown formulas_of old line logged.step
  pub next : WorldState
  pub stepped : IsWorldStep (standing_of formulas_of old).setup old logged.step next
  pub told : IsTold old logged next

-- a world that prints its accesses, as what answers the lines of a trace
abbrev pub logged_protocol : (List ℕ → Formulas) → Protocol WorldState LoggedStep
logged_protocol formulas_of =
    record {
      sort_of = λ line. sort_of_reading (reading_of line);
      answers = GoesOnTold formulas_of;
      shows = λ old line logged new. EndsTold formulas_of old line logged;
      text_of = logged_text;
      wants_memory = λ old line. WantsMemoryLogged old.shape old.state (reading_of line);
      runs = λ world. world.shown ≡ false;
    }

-- so a line is answered that reads as this command, whatever its number
abbrev pub AnswersTold : (List ℕ → Formulas) → Option Stop → Command → WorldState → WorldState → Output → Output → Type 0
AnswersTold formulas_of stop command old new from to =
    (line : List ℕ) (number : ℕ) → reading_of line ≡ Ok (Some command)
    → AnswersLine (logged_protocol formulas_of) stop line number old new from to

-- ---- the run of a trace

abbrev pub steps_logged : List LoggedStep → List Step
steps_logged all = map (λ logged. logged.step) all

-- memory was needed for the reply to the first of these lines or for its log, and the line isn't past the limit
abbrev pub IsMemoryWantedLogged : Shape → PlainState → ℕ → List (List ℕ) → Type 0
IsMemoryWantedLogged g state served [] = ⊥
IsMemoryWantedLogged g state served (line ∷ lines) =
    WantsMemoryLogged g state (reading_of line) × (served < line_limit)

-- A prefix of the lines is run, and memory was needed for the reply to the next line's command or for its log, in the state that the prefix
-- left; or it was needed before the first line, and no byte was taken.
pub record IsStarvedLogged (setup : Setup) (machine : Machine) (trace : List ℕ) (left : Option (List ℕ)) (steps : List Step) : Type 0 where
  pub front : IsFrontFrom setup machine (lines_of trace) steps
  pub wanting :
      ((length front.before ≡ 0) × (left ≡ Some trace))
      ⊎ IsMemoryWantedLogged setup.shape (machine_after_all setup machine steps).state (length front.before) front.behind

-- What a stop says of a trace, of what is left of it, and of the steps: as without a log, except that memory may run out, which may be for
-- the log.
abbrev pub LoggedEndsFrom : Setup → Machine → Stop → List ℕ → Option (List ℕ) → List Step → Type 0
LoggedEndsFrom setup machine Memory trace left steps = IsStarvedLogged setup machine trace left steps
LoggedEndsFrom setup machine stop trace left steps = EndsFrom setup machine 0 stop trace left steps

abbrev pub LoggedEnds : Setup → Stop → List ℕ → Option (List ℕ) → List Step → Type 0
LoggedEnds setup stop trace left steps = LoggedEndsFrom setup (start setup) stop trace left steps

-- each of these commands was answered by the world that the ones before it left, and what it took is printed
abbrev pub AreTold : Setup → WorldState → List LoggedStep → WorldState → Type 0
AreTold setup world [] last = last ≡ world
AreTold setup world (logged ∷ later) last =
    (next : WorldState) × IsWorldStep setup world logged.step next × IsTold world logged next × AreTold setup next later last

-- a formatted world answered them, or memory was needed for it and none was answered
abbrev pub IsReplayedTold : Setup → Stop → List LoggedStep → Type 0
IsReplayedTold setup stop all =
    ((stop ≡ Memory) × (all ≡ [])) ⊎ ((first last : WorldState) × IsFirstWorld setup first × AreTold setup first all last)

abbrev pub logged_texts : List LoggedStep → List ℕ
logged_texts all = flat_map logged_text all

-- ---- at the end of the program

-- A trace was run as without a log, except that each reply is printed with its log before it.
pub record HasLoggedRun (setup : Setup) (status : ℕ) (pull_failed : Type 0) (trace left put_before put_after : Option (List ℕ)) : Type 0 where
  pub stop : Stop
  pub all : List LoggedStep
  pub ends : IfSome trace (λ bytes. LoggedEnds setup stop bytes left (steps_logged all))
  pub untampered : IfSome trace (λ bytes. IsUntampered setup (steps_logged all))
  pub summed : IfSome trace (λ bytes. AreStepSums setup (start setup) (steps_logged all))
  pub read : stop ≡ ReadFault → pull_failed
  pub its_status : status ≢ 4 → status ≡ status_of stop
  pub whole : status ≢ 4 → Appends put_before put_after (logged_texts all ++ stop_text stop)
  pub front : AppendsFront put_before put_after (logged_texts all ++ stop_text stop)

-- The replies of such a run are those of a world that formatting made, and their logs are what each command took of it.
pub record IsWorldLoggedRun (setup : Setup) (status : ℕ) (pull_failed : Type 0) (trace left put_before put_after : Option (List ℕ)) : Type 0 where
  pub told : HasLoggedRun setup status pull_failed trace left put_before put_after
  pub replayed : IsReplayedTold setup told.stop told.all

-- ---- before the last line

pub record HasReplayedLogged (setup : Setup) (stop : Stop) (trace left : Option (List ℕ)) (from to : Output) : Type 0 where
  pub all : List LoggedStep
  pub ends : IfSome trace (λ bytes. LoggedEnds setup stop bytes left (steps_logged all))
  pub replayed : IsReplayedTold setup stop all
  pub said : HasSaidText stop from to (logged_texts all)

-- the run of a trace came to its stop
pub record LoggedRunEnds (setup : Setup) (ending : Ending) (trace left : Option (List ℕ)) (from to : Output) : Type 0 where
  pub stop : Stop
  pub its_stop : ending ≡ Stopped stop
  pub run : HasReplayedLogged setup stop trace left from to

-- ---- replies before a pull

-- The whole lines of these bytes were answered, and all their replies were put, each with its log; what was given of the
-- next line decides no stop.
pub record AreRepliedLogged (setup : Setup) (machine : Machine) (given : List ℕ) (from : Output) (put : Option (List ℕ)) : Type 0 where
  pub lines : List (List ℕ)
  pub part : List ℕ
  pub cut : given ≡ flat_map ended lines ++ part
  pub whole : All IsWithin lines
  pub undecided : IsUndecided (length lines) part
  pub all : List LoggedStep
  pub run : IsRunFrom setup machine lines (steps_logged all)
  pub replied : PutsAtLeast from put (logged_texts all)

-- So it is of the bytes that the source had given before its last pull.
abbrev pub HasRepliedLoggedFirst : Setup → Machine → Option (List ℕ) → Option (List ℕ) → Output → Option (List ℕ) → Type 0
HasRepliedLoggedFirst setup machine trace left_before from put =
    IfSome trace (λ bytes. IfSome left_before (λ behind. (given : List ℕ) × (bytes ≡ given ++ behind) × AreRepliedLogged setup machine given from put))

-- and from the trace's start on
abbrev pub HasRepliedLoggedFromStart : Setup → Option (List ℕ) → Option (List ℕ) → Output → Option (List ℕ) → Type 0
HasRepliedLoggedFromStart setup trace left_before from put = HasRepliedLoggedFirst setup (start setup) trace left_before from put
