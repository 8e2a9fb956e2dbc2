-- What a run's status says, by its stop and its last line.
use Rattle.std.proofs.lemmas.Grind.{common_steps}
use Rattle.std.proofs.Common.{rules, ◌≡◌, ◌≢◌, ◌∙◌, ◌+◌, ◌≤◌, ℕ, List, [], ◌++◌, ap, subst, arith, Bool}
use Rattle.std.specs.Prelude.{◌⊎◌, Option}
use Rattle.suite.specs.Setup.{Setup}
use Rattle.plain_model.specs.declared.Stop.{Stop}
use Rattle.plain_model.specs.declared.Stop.TheVariants.{ReadFault, WriteFault}
use Rattle.plain_model.specs.Run.{Ends, start, steps_text, stop_text}
use Rattle.pmem_base.specs.declared.commands.Command.{Command}
use Rattle.std.specs.Io.KnownBytes.{Appends}
use Rattle.pmem_cli.specs.Causes.{CountsFault}
use Rattle.pmem_cli.specs.Printed.{Output, AppendsFront, Prints, PrintsFront, with_waiting}
use Rattle.pmem_cli.specs.Keys.{setup_chosen}
use Rattle.pmem_cli.specs.Sampled.{HasSaidText}
use Rattle.plain_model.specs.Defaults.{default_setup}
use Rattle.trace_text.specs.Samples.{sample_trace, commands_text}
use Rattle.pmem_cli.specs.declared.options.Choices.{Choices}
use Rattle.pmem_cli.specs.declared.options.Task.{Task}
use Rattle.pmem_cli.specs.declared.ending.Ending.{Ending}
use Rattle.pmem_cli.specs.declared.ending.Ending.TheVariants.{Stopped}
use Rattle.pmem_cli.specs.Endings.{ending_text, ending_status}
use Rattle.pmem_cli.specs.HasRun.{IsWorldRun, HasTextPut, IsWorldSample, HasCheckedTrace, TaskOutcome, TaskMachine, TextOutcome, HasReplayed, HasRunSample, CheckEnds, HasEnded}
use Rattle.trace_text.specs.Conversations.{Protocol, texts_of}
use Rattle.pmem_cli.specs.Sessions.{Session, spoken, HasConversed, IsSaidBySession}
use Rattle.pmem_cli.specs.Logged.{LoggedEnds, IsWorldLoggedRun, HasReplayedLogged, steps_logged, logged_texts}
use Rattle.pmem_cli.specs.Sums.{AreStepSums}
use Rattle.pmem_cli.specs.Talked.{HasTalked}
use Rattle.pmem_cli.specs.Turns.{HasStopped}
use Rattle.pmem_cli.specs.Tree.{tree_chosen}
use Rattle.pmem_cli.specs.Txn.{txn_chosen}
use Rattle.pmem_cli.specs.Untampered.{IsUntampered}
use Rattle.pmem_cli.specs.Wear.{wear_chosen}
use Rattle.pmem_cli.proofs.LoggedTalks.{ends_plain, replayed_plain}
use Rattle.pmem_cli.proofs.SampleLemmas.{sample_answered}
use Rattle.pmem_cli.proofs.StepSums.{summed}
use Rattle.pmem_cli.proofs.RunLemmas.{ends_answered}
use Rattle.pmem_cli.proofs.TurnLemmas.{IfSome-map}
use Rattle.pmem_cli.proofs.UntamperedRuns.{untampered}

-- ---- what was asked for, finished by the last line

-- what was made of an ending: its status, and its line
pub record IsFinished (ending : Ending) (status : ℕ) (between : Output) (after : Option (List ℕ)) : Type 0 where
  pub good : status ≢ 2
  pub its_status : status ≢ 4 → status ≡ ending_status ending
  pub fault : ending ≡ Stopped WriteFault → status ≡ 4
  pub kept : ending ≡ Stopped WriteFault → after ≡ between.put
  pub whole : status ≢ 4 → status ≢ 2 → Prints between (with_waiting after []) (ending_text ending)
  pub front : ending ≢ Stopped WriteFault → PrintsFront between (with_waiting after []) (ending_text ending)

-- what was said, and the stop's line after it
said_whole : (stop : Stop) (status : ℕ) (before after : Option (List ℕ)) (between : Output) (text : List ℕ) → HasSaidText stop (with_waiting before []) between text
    → IsFinished (Stopped stop) status between after → status ≢ 4 → Appends before after (text ++ stop_text stop)
said_whole stop status before after between text said finished told = grind (arith, common_steps)

said_front : (stop : Stop) (status : ℕ) (before after : Option (List ℕ)) (between : Output) (text : List ℕ) → HasSaidText stop (with_waiting before []) between text
    → IsFinished (Stopped stop) status between after → AppendsFront before after (text ++ stop_text stop)
said_front stop status before after between text said finished = grind (arith, common_steps)

run_done : (setup : Setup) (stop : Stop) (status : ℕ) (pull_failed : Type 0) (trace left before after : Option (List ℕ)) (between : Output)
    → HasReplayed setup stop trace left (with_waiting before []) between → (Stopped stop ≡ Stopped ReadFault → pull_failed) → IsFinished (Stopped stop) status between after
    → IsWorldRun setup status pull_failed trace left before after
run_done setup stop status pull_failed trace left before after between run read finished = record {
  told = record {
    stop = stop;
    steps = run.steps;
    ends = run.ends;
    wanted = run.wanted;
    untampered =
        IfSome-map trace (λ bytes. Ends setup stop bytes left run.steps) (λ bytes. IsUntampered setup run.steps)
        (λ bytes is ends. untampered setup run.steps (ends_answered stop setup bytes left run.steps ends)) run.ends;
    summed =
        IfSome-map trace (λ bytes. Ends setup stop bytes left run.steps) (λ bytes. AreStepSums setup (start setup) run.steps)
        (λ bytes is ends. summed stop setup bytes left run.steps ends run.replayed) run.ends;
    read = λ same. read (ap Stopped same);
    its_status = finished.its_status;
    whole = said_whole stop status before after between (steps_text run.steps) run.said finished;
    front = said_front stop status before after between (steps_text run.steps) run.said finished;
  };
  replayed = run.replayed;
}

-- a run with its log came to its stop
logged_done : (setup : Setup) (stop : Stop) (status : ℕ) (pull_failed : Type 0) (trace left before after : Option (List ℕ)) (between : Output)
    → HasReplayedLogged setup stop trace left (with_waiting before []) between → (Stopped stop ≡ Stopped ReadFault → pull_failed) → IsFinished (Stopped stop) status between after
    → IsWorldLoggedRun setup status pull_failed trace left before after
logged_done setup stop status pull_failed trace left before after between run read finished =
    let steps = steps_logged run.all in
    let replayed = replayed_plain setup stop run.all run.replayed in
    record {
      told = record {
        stop = stop;
        all = run.all;
        ends = run.ends;
        untampered =
            IfSome-map trace (λ bytes. LoggedEnds setup stop bytes left steps) (λ bytes. IsUntampered setup steps)
            (λ bytes is ends. let its = ends_plain setup stop bytes left steps ends in untampered setup steps (ends_answered its.0 setup bytes left steps its.1)) run.ends;
        summed =
            IfSome-map trace (λ bytes. LoggedEnds setup stop bytes left steps) (λ bytes. AreStepSums setup (start setup) steps)
            (λ bytes is ends. let its = ends_plain setup stop bytes left steps ends in summed its.0 setup bytes left steps its.1 replayed) run.ends;
        read = λ same. read (ap Stopped same);
        its_status = finished.its_status;
        whole = said_whole stop status before after between (logged_texts run.all) run.said finished;
        front = said_front stop status before after between (logged_texts run.all) run.said finished;
      };
      replayed = run.replayed;
    }

-- a session's trace came to its stop
pub talk_done : {S X : Type 0} (p : Protocol S X) (first : S) (stop : Stop) (status : ℕ) (pull_failed : Type 0) (trace left before after : Option (List ℕ)) (between : Output)
    → HasStopped p stop trace left first (with_waiting before []) between 0 → (Stopped stop ≡ Stopped ReadFault → pull_failed) → IsFinished (Stopped stop) status between after
    → HasTalked p first status pull_failed trace left before after
talk_done p first stop status pull_failed trace left before after between stopped read finished =
    let said : HasSaidText stop (with_waiting before []) between (texts_of p stopped.replies) = record { whole = stopped.whole; front = stopped.front } in
    record {
      stop = stop;
      replies = stopped.replies;
      ends = stopped.ends;
      given = stopped.given;
      read = λ same. read (ap Stopped same);
      its_status = finished.its_status;
      whole = said_whole stop status before after between (texts_of p stopped.replies) said finished;
      front = said_front stop status before after between (texts_of p stopped.replies) said finished;
    }

-- a session of a command came to its stop
session_done : {S R : Type 0} (session : Session S R) (logged : Bool) (stop : Stop) (status : ℕ) (pull_failed : Type 0) (trace left before after : Option (List ℕ)) (between : Output)
    → HasConversed session logged stop trace left (with_waiting before []) between → (Stopped stop ≡ Stopped ReadFault → pull_failed) → IsFinished (Stopped stop) status between after
    → IsSaidBySession session logged status pull_failed trace left before after
session_done session logged stop status pull_failed trace left before after between conversed read finished = record {
  told = record {
    stop = stop;
    replies = conversed.replies;
    talked = conversed.spoken_so;
    read = λ same. read (ap Stopped same);
    its_status = finished.its_status;
    whole = said_whole stop status before after between (texts_of (spoken session.language logged) conversed.replies) conversed.printed finished;
    front = said_front stop status before after between (texts_of (spoken session.language logged) conversed.replies) conversed.printed finished;
  };
  conversed = conversed.talked;
}

sample_done : (setup : Setup) (commands : List Command) (stop : Stop) (status : ℕ) (before after : Option (List ℕ)) (between : Output)
    → HasRunSample setup commands stop (with_waiting before []) between → IsFinished (Stopped stop) status between after → IsWorldSample setup commands status before after
sample_done setup commands stop status before after between run finished = record {
  told = record {
    stop = stop;
    steps = run.steps;
    text = run.text;
    ends = run.ends;
    untampered = untampered setup run.steps (sample_answered setup (start setup) commands stop run.steps run.text run.ends);
    summed = run.summed;
    its_status = finished.its_status;
    whole = said_whole stop status before after between run.text run.said finished;
    front = said_front stop status before after between run.text run.said finished;
  };
  replayed = run.replayed;
}

put_done : (text : List ℕ) (stop : Stop) (status : ℕ) (before after : Option (List ℕ)) (between : Output)
    → TextOutcome stop (with_waiting before []) between text → IsFinished (Stopped stop) status between after → HasTextPut text status before after
unfolding stop_text
put_done text v1 status before after between made finished = grind (arith, common_steps)

told_done : (choices : Choices) (ending : Ending) (status : ℕ) (pull_failed : Type 0) (trace left before after : Option (List ℕ)) (between : Output)
    → CheckEnds choices ending trace left (with_waiting before []) between → (ending ≡ Stopped ReadFault → pull_failed) → IsFinished ending status between after
    → HasCheckedTrace choices status pull_failed trace left before after
told_done choices ending status pull_failed trace left before after between ended read finished = search rules

-- what was asked for is done
pub TaskMachine-finished : (task : Task) (ending : Ending) (status : ℕ) (pull_failed : Type 0) (trace left before after : Option (List ℕ)) (between : Output)
    → HasEnded task ending trace left (with_waiting before []) between → (ending ≡ Stopped ReadFault → pull_failed) → IsFinished ending status between after
    → TaskMachine task status pull_failed trace left before after
TaskMachine-finished (Task.Run c) ending status pull_failed trace left before after between ended read finished =
    run_done (setup_chosen c) ended.stop status pull_failed trace left before after between ended.run (λ same. read (ended.its_stop ∙ same))
    (subst (λ (e : Ending). IsFinished e status between after) ended.its_stop finished)
TaskMachine-finished (Task.Log c) ending status pull_failed trace left before after between ended read finished =
    logged_done (setup_chosen c) ended.stop status pull_failed trace left before after between ended.run (λ same. read (ended.its_stop ∙ same))
    (subst (λ (e : Ending). IsFinished e status between after) ended.its_stop finished)
TaskMachine-finished (Task.Make seed count) ending status pull_failed trace left before after between ended read finished =
    put_done (commands_text (sample_trace seed count)) ended.stop status before after between ended.made
    (subst (λ (e : Ending). IsFinished e status between after) ended.its_stop finished)
TaskMachine-finished (Task.Sample seed count) ending status pull_failed trace left before after between ended read finished =
    sample_done default_setup (sample_trace seed count) ended.stop status before after between ended.run
    (subst (λ (e : Ending). IsFinished e status between after) ended.its_stop finished)
TaskMachine-finished (Task.Check c) ending status pull_failed trace left before after between ended read finished =
    told_done c ending status pull_failed trace left before after between ended read finished
TaskMachine-finished (Task.Wear c) ending status pull_failed trace left before after between ended read finished =
    session_done (wear_chosen c) c.log ended.stop status pull_failed trace left before after between ended.conversed (λ same. read (ended.its_stop ∙ same))
    (subst (λ (e : Ending). IsFinished e status between after) ended.its_stop finished)
TaskMachine-finished (Task.Tree c) ending status pull_failed trace left before after between ended read finished =
    session_done (tree_chosen c) c.log ended.stop status pull_failed trace left before after between ended.conversed (λ same. read (ended.its_stop ∙ same))
    (subst (λ (e : Ending). IsFinished e status between after) ended.its_stop finished)
TaskMachine-finished (Task.Txn c) ending status pull_failed trace left before after between ended read finished =
    session_done (txn_chosen c) c.log ended.stop status pull_failed trace left before after between ended.conversed (λ same. read (ended.its_stop ∙ same))
    (subst (λ (e : Ending). IsFinished e status between after) ended.its_stop finished)

-- so its user sees it
pub TaskMachine-outcome : (task : Task) (status : ℕ) (pull_failed : Type 0) (trace left before after : Option (List ℕ))
    → TaskMachine task status pull_failed trace left before after → TaskOutcome task status pull_failed trace left before after
TaskMachine-outcome (Task.Run c) status pull_failed trace left before after done = done.told
TaskMachine-outcome (Task.Log c) status pull_failed trace left before after done = done.told
TaskMachine-outcome (Task.Make seed count) status pull_failed trace left before after done = done
TaskMachine-outcome (Task.Sample seed count) status pull_failed trace left before after done = done.told
TaskMachine-outcome (Task.Check c) status pull_failed trace left before after done = done
TaskMachine-outcome (Task.Wear c) status pull_failed trace left before after done = done.told
TaskMachine-outcome (Task.Tree c) status pull_failed trace left before after done = done.told
TaskMachine-outcome (Task.Txn c) status pull_failed trace left before after done = done.told

-- ---- faults, by the status

-- a failed pull
pub pull_told : (ending : Ending) (status before now : ℕ) → CountsFault (ending ≡ Stopped ReadFault) before now → (status ≢ 4 → status ≡ ending_status ending) → now ≢ before
    → (status ≡ 3) ⊎ (status ≡ 4)
pull_told ending status before now counts told changed = search rules

-- a failed push, before the last line or at it
pub push_told : (ending : Ending) (status before between now : ℕ) → CountsFault (ending ≡ Stopped WriteFault) before between
    → (ending ≡ Stopped WriteFault → status ≡ 4) → (now ≢ between → (status ≡ 4) ⊎ (status ≡ 2)) → now ≢ before → (status ≡ 4) ⊎ (status ≡ 2)
push_told ending status before between now counts told failed changed = search rules

-- and no other after it
pub push_once : (ending : Ending) (before between now : ℕ) → CountsFault (ending ≡ Stopped WriteFault) before between → (ending ≡ Stopped WriteFault → now ≡ between)
    → now ≤ between + 1 → now ≤ before + 1
push_once ending before between now counts kept once = search rules
