-- What the program's status says of what was asked for.
use Rattle.std.specs.Prelude.{◌≡◌, ◌≢◌, ◌≤◌, ◌⊎◌, ◌++◌, ⊤, ℕ, List, length, All, IsOk, Option, IfSome}
use Rattle.std.specs.Io.KnownBytes.{Appends}
use Rattle.pmem_base.specs.declared.commands.Command.{Command}
use Rattle.suite.specs.Setup.{Setup}
use Rattle.plain_model.specs.Defaults.{default_setup}
use Rattle.plain_model.specs.declared.Stop.{Stop}
use Rattle.plain_model.specs.declared.Stop.TheVariants.{Finished, Memory, ReadFault, WriteFault, Words}
use Rattle.plain_model.specs.Lines.{lines_of}
use Rattle.plain_model.specs.Grammar.{reading_of}
use Rattle.plain_model.specs.Run.{line_limit, Step, start, Ends, steps_text, output_of, stop_text, status_of}
use Rattle.trace_text.specs.Samples.{sample_trace, commands_text}
use Rattle.pmem_cli.specs.declared.options.Choices.{Choices}
use Rattle.pmem_cli.specs.declared.options.Task.{Task}
use Rattle.pmem_cli.specs.declared.ending.Ending.{Ending}
use Rattle.pmem_cli.specs.declared.ending.Ending.TheVariants.{Stopped}
use Rattle.pmem_cli.specs.Causes.{Rose, AnyRose}
use Rattle.pmem_cli.specs.Checked.{IsChecked}
use Rattle.pmem_cli.specs.Endings.{ending_text, ending_status}
use Rattle.pmem_cli.specs.Keys.{formulas_of, setup_chosen}
use Rattle.pmem_cli.specs.Logged.{HasLoggedRun, IsWorldLoggedRun, LoggedRunEnds}
use Rattle.pmem_cli.specs.Printed.{Output, AppendsFront}
use Rattle.pmem_cli.specs.Sampled.{HasSaidText, SampleEnds}
use Rattle.pmem_cli.specs.Sessions.{spoken, HasSession, IsSaidBySession, SessionEnds}
use Rattle.pmem_cli.specs.Standing.{IsReplayed}
use Rattle.pmem_cli.specs.Sums.{AreStepSums}
use Rattle.pmem_cli.specs.Talked.{IsRunThrough, IsTalkComplete}
use Rattle.pmem_cli.specs.Tree.{tree_language, tree_chosen}
use Rattle.pmem_cli.specs.Txn.{txn_language, txn_chosen}
use Rattle.pmem_cli.specs.Untampered.{IsUntampered}
use Rattle.pmem_cli.specs.Wanting.{IsStarvedIn}
use Rattle.pmem_cli.specs.Wear.{wear_language, wear_chosen}

-- ---- at the end of the program

-- The trace ends by a stop, and its steps and the stop's line were put: the whole of them, with the stop's own status, or a prefix of them,
-- with status 4. Whatever the status, the stop is a failed pull only if one failed, and running out of memory only if the next command
-- takes memory in that state, or before the first line, of which then nothing was taken.
pub record HasRun (setup : Setup) (status : ℕ) (pull_failed : Type 0) (trace left put_before put_after : Option (List ℕ)) : Type 0 where
  pub stop : Stop
  pub steps : List Step
  pub ends : IfSome trace (λ bytes. Ends setup stop bytes left steps)
  pub wanted : stop ≡ Memory → IfSome trace (λ bytes. IsStarvedIn setup (start setup) 0 bytes left steps)
  pub untampered : IfSome trace (λ bytes. IsUntampered setup steps)
  pub summed : IfSome trace (λ bytes. AreStepSums setup (start setup) steps)
  pub read : stop ≡ ReadFault → pull_failed
  pub its_status : status ≢ 4 → status ≡ status_of stop
  pub whole : status ≢ 4 → Appends put_before put_after (output_of steps stop)
  pub front : AppendsFront put_before put_after (output_of steps stop)

-- The replies of such a run are those of a world that formatting made.
pub record IsWorldRun (setup : Setup) (status : ℕ) (pull_failed : Type 0) (trace left put_before put_after : Option (List ℕ)) : Type 0 where
  pub told : HasRun setup status pull_failed trace left put_before put_after
  pub replayed : IsReplayed setup told.stop told.steps

-- A text was put: the whole of it, with status 0, or a prefix of it, with status 4.
pub record HasTextPut (text : List ℕ) (status : ℕ) (put_before put_after : Option (List ℕ)) : Type 0 where
  pub its_status : status ≢ 4 → status ≡ 0
  pub whole : status ≢ 4 → Appends put_before put_after text
  pub front : AppendsFront put_before put_after text

-- The commands were run to a stop, and the last line of that was put: the whole of it, with the stop's own status, or a prefix of it, with
-- status 4.
pub record HasSampled (setup : Setup) (commands : List Command) (status : ℕ) (put_before put_after : Option (List ℕ)) : Type 0 where
  pub stop : Stop
  pub steps : List Step
  pub text : List ℕ
  pub ends : SampleEnds setup (start setup) commands stop steps text
  pub untampered : IsUntampered setup steps
  pub summed : AreStepSums setup (start setup) steps
  pub its_status : status ≢ 4 → status ≡ status_of stop
  pub whole : status ≢ 4 → Appends put_before put_after (text ++ stop_text stop)
  pub front : AppendsFront put_before put_after (text ++ stop_text stop)

-- The answers of such a run are those of a world that formatting made.
pub record IsWorldSample (setup : Setup) (commands : List Command) (status : ℕ) (put_before put_after : Option (List ℕ)) : Type 0 where
  pub told : HasSampled setup commands status put_before put_after
  pub replayed : IsReplayed setup told.stop told.steps

-- The source was checked to an ending, and its line was put: the whole of it, with the ending's own status, or a prefix of it, with status
-- 4. Whatever the status, the ending is a failed pull only if one failed.
pub record HasCheckedTrace (choices : Choices) (status : ℕ) (pull_failed : Type 0) (trace left put_before put_after : Option (List ℕ)) : Type 0 where
  pub ending : Ending
  pub checked : IfSome trace (λ bytes. IsChecked (formulas_of choices) ending bytes left)
  pub read : ending ≡ Stopped ReadFault → pull_failed
  pub its_status : status ≢ 4 → status ≡ ending_status ending
  pub whole : status ≢ 4 → Appends put_before put_after (ending_text ending)
  pub front : AppendsFront put_before put_after (ending_text ending)

-- What the status says, by what was asked for. Nothing in it knows an engine.
abbrev pub TaskOutcome : Task → ℕ → Type 0 → Option (List ℕ) → Option (List ℕ) → Option (List ℕ) → Option (List ℕ) → Type 0
TaskOutcome (Task.Run c) status pull_failed trace left before after = HasRun (setup_chosen c) status pull_failed trace left before after
TaskOutcome (Task.Log c) status pull_failed trace left before after = HasLoggedRun (setup_chosen c) status pull_failed trace left before after
TaskOutcome (Task.Make seed count) status pull_failed trace left before after = HasTextPut (commands_text (sample_trace seed count)) status before after
TaskOutcome (Task.Sample seed count) status pull_failed trace left before after =
    HasSampled default_setup (sample_trace seed count) status before after
TaskOutcome (Task.Check c) status pull_failed trace left before after = HasCheckedTrace c status pull_failed trace left before after
TaskOutcome (Task.Wear c) status pull_failed trace left before after = HasSession (wear_language c) c.log status pull_failed trace left before after
TaskOutcome (Task.Tree c) status pull_failed trace left before after = HasSession (tree_language c) c.log status pull_failed trace left before after
TaskOutcome (Task.Txn c) status pull_failed trace left before after = HasSession (txn_language c) c.log status pull_failed trace left before after

-- the same, and which machine it was: the replies are those of the world or of the session that the words choose
abbrev pub TaskMachine : Task → ℕ → Type 0 → Option (List ℕ) → Option (List ℕ) → Option (List ℕ) → Option (List ℕ) → Type 0
TaskMachine (Task.Run c) status pull_failed trace left before after = IsWorldRun (setup_chosen c) status pull_failed trace left before after
TaskMachine (Task.Log c) status pull_failed trace left before after = IsWorldLoggedRun (setup_chosen c) status pull_failed trace left before after
TaskMachine (Task.Make seed count) status pull_failed trace left before after = HasTextPut (commands_text (sample_trace seed count)) status before after
TaskMachine (Task.Sample seed count) status pull_failed trace left before after =
    IsWorldSample default_setup (sample_trace seed count) status before after
TaskMachine (Task.Check c) status pull_failed trace left before after = HasCheckedTrace c status pull_failed trace left before after
TaskMachine (Task.Wear c) status pull_failed trace left before after = IsSaidBySession (wear_chosen c) c.log status pull_failed trace left before after
TaskMachine (Task.Tree c) status pull_failed trace left before after = IsSaidBySession (tree_chosen c) c.log status pull_failed trace left before after
TaskMachine (Task.Txn c) status pull_failed trace left before after = IsSaidBySession (txn_chosen c) c.log status pull_failed trace left before after

-- all lines of these bytes are in the grammar, and there are no more of them than a trace may have
abbrev pub IsInGrammar : List ℕ → Type 0
IsInGrammar bytes = All (λ line. IsOk (reading_of line)) (lines_of bytes) × (length (lines_of bytes) ≤ line_limit)

-- a run goes through if all lines are in the grammar and within the limit, and no fault came
abbrev pub IsComplete : Task → ℕ → Option (List ℕ) → Type 0 → Type 0
IsComplete (Task.Run c) status trace fault = IfSome trace (λ bytes. IsInGrammar bytes → ¬ fault → IsRunThrough status)
IsComplete (Task.Log c) status trace fault = IfSome trace (λ bytes. IsInGrammar bytes → ¬ fault → IsRunThrough status)
IsComplete (Task.Wear c) status trace fault = IsTalkComplete (spoken (wear_language c) c.log) status trace fault
IsComplete (Task.Tree c) status trace fault = IsTalkComplete (spoken (tree_language c) c.log) status trace fault
IsComplete (Task.Txn c) status trace fault = IsTalkComplete (spoken (txn_language c) c.log) status trace fault
IsComplete task status trace fault = ⊤

-- the same of a source and a sink before and after a call
abbrev pub GoesThrough : {S K : Type 0} → Task → ℕ → (S → Option (List ℕ)) → (S → ℕ) → S → S → (K → ℕ) → K → K → Type 0
GoesThrough task status left pulls_failed trace_old trace_new pushes_failed out_old out_new =
    IsComplete task status (left trace_old) (AnyRose pulls_failed trace_old trace_new pushes_failed out_old out_new)

-- The one line that faulty words are answered with was put, or the sink failed and a prefix of it was.
abbrev pub AreRefusedWords : Option (List ℕ) → Option (List ℕ) → ℕ → ℕ → Type 0
AreRefusedWords put_before put_after faults_before faults_after =
    Appends put_before put_after (stop_text Words)
    ⊎ (AppendsFront put_before put_after (stop_text Words) × Rose faults_before faults_after)

-- ---- before the last line

-- a text was printed, or the sink failed at it
pub record TextOutcome (stop : Stop) (from to : Output) (text : List ℕ) : Type 0 where
  pub its_stop : (stop ≡ Finished) ⊎ (stop ≡ WriteFault)
  pub said : HasSaidText stop from to text

-- a trace was run to a stop, with all replies printed
pub record HasReplayed (setup : Setup) (stop : Stop) (trace left : Option (List ℕ)) (from to : Output) : Type 0 where
  pub steps : List Step
  pub ends : IfSome trace (λ bytes. Ends setup stop bytes left steps)
  pub wanted : stop ≡ Memory → IfSome trace (λ bytes. IsStarvedIn setup (start setup) 0 bytes left steps)
  pub replayed : IsReplayed setup stop steps
  pub said : HasSaidText stop from to (steps_text steps)

-- commands were run to a stop, with the last answer printed
pub record HasRunSample (setup : Setup) (commands : List Command) (stop : Stop) (from to : Output) : Type 0 where
  pub steps : List Step
  pub text : List ℕ
  pub ends : SampleEnds setup (start setup) commands stop steps text
  pub replayed : IsReplayed setup stop steps
  pub summed : AreStepSums setup (start setup) steps
  pub said : HasSaidText stop from to text

-- and so it was with a sample trace
abbrev pub RunsSample : Setup → ℕ → ℕ → Stop → Output → Output → Type 0
RunsSample setup seed count stop from to = HasRunSample setup (sample_trace seed count) stop from to

-- a run came to its stop
pub record RunEnds (setup : Setup) (ending : Ending) (trace left : Option (List ℕ)) (from to : Output) : Type 0 where
  pub stop : Stop
  pub its_stop : ending ≡ Stopped stop
  pub run : HasReplayed setup stop trace left from to

-- a sample trace was made
pub record MakeEnds (text : List ℕ) (ending : Ending) (from to : Output) : Type 0 where
  pub stop : Stop
  pub its_stop : ending ≡ Stopped stop
  pub made : TextOutcome stop from to text

-- a sample trace came to its stop
pub record SampleStops (setup : Setup) (commands : List Command) (ending : Ending) (from to : Output) : Type 0 where
  pub stop : Stop
  pub its_stop : ending ≡ Stopped stop
  pub run : HasRunSample setup commands stop from to

-- a check came to its ending, with nothing printed
pub record CheckEnds (choices : Choices) (ending : Ending) (trace left : Option (List ℕ)) (from to : Output) : Type 0 where
  pub checked : IfSome trace (λ bytes. IsChecked (formulas_of choices) ending bytes left)
  pub write : ending ≢ Stopped WriteFault
  pub kept : to ≡ from

-- what was asked for was done, except for the last line
abbrev pub HasEnded : Task → Ending → Option (List ℕ) → Option (List ℕ) → Output → Output → Type 0
HasEnded (Task.Run c) ending trace left from to = RunEnds (setup_chosen c) ending trace left from to
HasEnded (Task.Log c) ending trace left from to = LoggedRunEnds (setup_chosen c) ending trace left from to
HasEnded (Task.Make seed count) ending trace left from to = MakeEnds (commands_text (sample_trace seed count)) ending from to
HasEnded (Task.Sample seed count) ending trace left from to = SampleStops default_setup (sample_trace seed count) ending from to
HasEnded (Task.Check c) ending trace left from to = CheckEnds c ending trace left from to
HasEnded (Task.Wear c) ending trace left from to = SessionEnds (wear_chosen c) c.log ending trace left from to
HasEnded (Task.Tree c) ending trace left from to = SessionEnds (tree_chosen c) c.log ending trace left from to
HasEnded (Task.Txn c) ending trace left from to = SessionEnds (txn_chosen c) c.log ending trace left from to
