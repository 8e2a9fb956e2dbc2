-- Two calls of `run` with the same words for one trace put one text, with one status.
use Rattle.std.proofs.Common.{◌≡◌, ◌≢◌, ◌∙◌, ℕ, Bool, List, ◌++◌, refl, sym, ap, ap₂, subst, inl, inr}
use Rattle.std.specs.Prelude.{IfSome, IsNone, Option, None, Some}
use Rattle.std.specs.Io.KnownBytes.{Appends}
use Rattle.collision_witness.specs.Words.{Word}
use Rattle.plain_model.specs.Defaults.{default_setup}
use Rattle.plain_model.specs.declared.Stop.{Stop}
use Rattle.plain_model.specs.declared.Stop.TheVariants.{Words}
use Rattle.plain_model.specs.Run.{Step, status_of, output_of, stop_text, Ends}
use Rattle.trace_text.specs.Conversations.{texts_of}
use Rattle.trace_text.specs.Samples.{sample_trace, commands_text}
use Rattle.pmem_cli.specs.declared.options.Choices.{Choices}
use Rattle.pmem_cli.specs.declared.options.Task.{Task}
use Rattle.pmem_cli.specs.declared.ending.Ending.{Ending}
use Rattle.pmem_cli.specs.Causes.{Rose}
use Rattle.pmem_cli.specs.Checked.{IsChecked}
use Rattle.pmem_cli.specs.Determined.{Call, IsCallWith, IsByMachine, IsUndisturbed, AreAnsweredAlike}
use Rattle.pmem_cli.specs.Endings.{ending_text, ending_status}
use Rattle.pmem_cli.specs.HasRun.{HasRun, IsWorldRun, HasTextPut, IsWorldSample, HasCheckedTrace, TaskMachine, AreRefusedWords}
use Rattle.pmem_cli.specs.Keys.{formulas_of, setup_chosen, suite_keys_chosen, every_chosen}
use Rattle.pmem_cli.specs.Logged.{HasLoggedRun, IsWorldLoggedRun, LoggedStep, LoggedEnds, steps_logged, logged_texts}
use Rattle.pmem_cli.specs.Sessions.{Session, telling, spoken, IsSaidBySession}
use Rattle.pmem_cli.specs.Sessions as sessions
use Rattle.pmem_cli.specs.Telling.{ReplyAs}
use Rattle.pmem_cli.specs.Tree.{tree_chosen}
use Rattle.pmem_cli.specs.Txn.{txn_chosen}
use Rattle.pmem_cli.specs.Wear.{wear_chosen}
use Rattle.pmem_cli.specs.Words.{task_of}
use Rattle.pmem_cli.proofs.ChecksAlike.{checks_alike}
use Rattle.pmem_cli.proofs.LogsAlike.{logs_alike}
use Rattle.pmem_cli.proofs.ReplaysAlike.{IsOfTrace, replays_alike}
use Rattle.pmem_cli.proofs.SamplesAlike.{samples_alike}
use Rattle.pmem_cli.proofs.SessionsAlike.{conversations_alike, wear_exact, txn_exact, tree_exact, wear_begun, txn_begun, tree_begun}
use Rattle.pmem_cli.proofs.TalksAlike.{IsExact}

module _ (trace put : List ℕ) where
  -- ---- one call

  appended_to : (after : Option (List ℕ)) (text : List ℕ) → Appends (Some put) after text → after ≡ Some (put ++ text)
  appended_to None text all = absurd all
  appended_to (Some bytes) text all = ap (λ (bs : List ℕ). Some bs) all

  pub appended : (before after : Option (List ℕ)) (text : List ℕ) → before ≡ Some put → Appends before after text → after ≡ Some (put ++ text)
  appended before after text is all = appended_to after text (subst (λ (o : Option (List ℕ)). Appends o after text) is all)

  -- what is said of a call that asks for this, without what its words are
  abbrev pub Said : Task → Call → Type 0
  Said task call =
      TaskMachine task call.status (Rose call.pulls_before call.pulls_after) call.trace call.left call.put_before call.put_after

  -- one text and one status for both
  put_alike : (a b : Call) (status : ℕ) (text : List ℕ) → a.status ≡ status → b.status ≡ status → a.put_after ≡ Some (put ++ text)
      → b.put_after ≡ Some (put ++ text) → AreAnsweredAlike put a b
  put_alike a b status text first second one other =
      record { status = first ∙ sym second; text = text; first = one; second = other }

  -- a stop of a call in which nothing failed
  pub calm_stop : (call : Call) (stop : Stop) → IsUndisturbed trace put call → call.status ≡ status_of stop → call.status ≢ 4 → call.status ≢ 3
      → IsOfTrace stop
  calm_stop call stop calm status pushed pulled =
      record {
        had_memory = λ is. calm.had_memory (status ∙ ap status_of is);
        pulled = λ is. pulled (status ∙ ap status_of is);
        pushed = λ is. pushed (status ∙ ap status_of is);
      }

  module _ (a b : Call) (calm : IsUndisturbed trace put a) (quiet : IsUndisturbed trace put b) (pushed : a.status ≢ 4) (pushed_too : b.status ≢ 4)
      (pulled : a.status ≢ 3) (pulled_too : b.status ≢ 3) where
    -- ---- two calls for one task

    runs_alike : (choices : Choices) → Said (Task.Run choices) a → Said (Task.Run choices) b → AreAnsweredAlike put a b
    runs_alike choices one two =
        let it : IsWorldRun (setup_chosen choices) a.status (Rose a.pulls_before a.pulls_after) a.trace a.left a.put_before a.put_after = one in
        let its : IsWorldRun (setup_chosen choices) b.status (Rose b.pulls_before b.pulls_after) b.trace b.left b.put_before b.put_after = two in
        let run : HasRun (setup_chosen choices) a.status (Rose a.pulls_before a.pulls_after) a.trace a.left a.put_before a.put_after = it.told in
        let other : HasRun (setup_chosen choices) b.status (Rose b.pulls_before b.pulls_after) b.trace b.left b.put_before b.put_after = its.told in
        let status : a.status ≡ status_of run.stop = run.its_status pushed in
        let its_status : b.status ≡ status_of other.stop = other.its_status pushed_too in
        let same =
        replays_alike (setup_chosen choices) trace run.stop other.stop a.left b.left run.steps other.steps (calm_stop a run.stop calm status pushed pulled)
        (calm_stop b other.stop quiet its_status pushed_too pulled_too)
        (subst (λ (o : Option (List ℕ)). IfSome o (λ bytes. Ends (setup_chosen choices) run.stop bytes a.left run.steps)) calm.trace_told run.ends)
        (subst (λ (o : Option (List ℕ)). IfSome o (λ bytes. Ends (setup_chosen choices) other.stop bytes b.left other.steps)) quiet.trace_told other.ends)
        it.replayed its.replayed in
        put_alike a b (status_of run.stop) (output_of run.steps run.stop) status (its_status ∙ ap status_of (sym same.0))
        (appended a.put_before a.put_after (output_of run.steps run.stop) calm.put_told (run.whole pushed))
        (appended b.put_before b.put_after (output_of other.steps other.stop) quiet.put_told (other.whole pushed_too)
        ∙ ap₂ (λ (xs : List Step) (s : Stop). Some (put ++ output_of xs s)) (sym same.1) (sym same.0))

    texts_alike : (text : List ℕ) → HasTextPut text a.status a.put_before a.put_after → HasTextPut text b.status b.put_before b.put_after
        → AreAnsweredAlike put a b
    texts_alike text it its =
        put_alike a b 0 text (it.its_status pushed) (its.its_status pushed_too) (appended a.put_before a.put_after text calm.put_told (it.whole pushed))
        (appended b.put_before b.put_after text quiet.put_told (its.whole pushed_too))

    sampled_alike : (seed count : ℕ) → IsWorldSample default_setup (sample_trace seed count) a.status a.put_before a.put_after
        → IsWorldSample default_setup (sample_trace seed count) b.status b.put_before b.put_after → AreAnsweredAlike put a b
    sampled_alike seed count one two =
        let it = one.told in
        let its = two.told in
        let status : a.status ≡ status_of it.stop = it.its_status pushed in
        let its_status : b.status ≡ status_of its.stop = its.its_status pushed_too in
        let same =
        samples_alike default_setup (sample_trace seed count) it.stop its.stop it.steps its.steps it.text its.text
        (calm_stop a it.stop calm status pushed pulled) (calm_stop b its.stop quiet its_status pushed_too pulled_too) it.ends its.ends one.replayed
        two.replayed in
        put_alike a b (status_of it.stop) (it.text ++ stop_text it.stop) status (its_status ∙ ap status_of (sym same.0))
        (appended a.put_before a.put_after (it.text ++ stop_text it.stop) calm.put_told (it.whole pushed))
        (appended b.put_before b.put_after (its.text ++ stop_text its.stop) quiet.put_told (its.whole pushed_too)
        ∙ ap₂ (λ (text : List ℕ) (s : Stop). Some (put ++ (text ++ stop_text s))) (sym same.1) (sym same.0))

    checked_alike : (choices : Choices) → Said (Task.Check choices) a → Said (Task.Check choices) b → AreAnsweredAlike put a b
    checked_alike choices it its =
        let check : HasCheckedTrace choices a.status (Rose a.pulls_before a.pulls_after) a.trace a.left a.put_before a.put_after = it in
        let other : HasCheckedTrace choices b.status (Rose b.pulls_before b.pulls_after) b.trace b.left b.put_before b.put_after = its in
        let status : a.status ≡ ending_status check.ending = check.its_status pushed in
        let its_status : b.status ≡ ending_status other.ending = other.its_status pushed_too in
        let same =
        checks_alike (formulas_of choices) trace check.ending other.ending a.left b.left
        (λ is. pulled (status ∙ ap ending_status is)) (λ is. pulled_too (its_status ∙ ap ending_status is))
        (subst (λ (o : Option (List ℕ)). IfSome o (λ bytes. IsChecked (formulas_of choices) check.ending bytes a.left)) calm.trace_told check.checked)
        (subst (λ (o : Option (List ℕ)). IfSome o (λ bytes. IsChecked (formulas_of choices) other.ending bytes b.left)) quiet.trace_told other.checked) in
        put_alike a b (ending_status check.ending) (ending_text check.ending) status (its_status ∙ ap ending_status (sym same))
        (appended a.put_before a.put_after (ending_text check.ending) calm.put_told (check.whole pushed))
        (appended b.put_before b.put_after (ending_text other.ending) quiet.put_told (other.whole pushed_too)
        ∙ ap (λ (e : Ending). Some (put ++ ending_text e)) (sym same))

    logged_alike : (choices : Choices) → Said (Task.Log choices) a → Said (Task.Log choices) b → AreAnsweredAlike put a b
    logged_alike choices one two =
        let setup = setup_chosen choices in
        let it : IsWorldLoggedRun setup a.status (Rose a.pulls_before a.pulls_after) a.trace a.left a.put_before a.put_after = one in
        let its : IsWorldLoggedRun setup b.status (Rose b.pulls_before b.pulls_after) b.trace b.left b.put_before b.put_after = two in
        let run : HasLoggedRun setup a.status (Rose a.pulls_before a.pulls_after) a.trace a.left a.put_before a.put_after = it.told in
        let other : HasLoggedRun setup b.status (Rose b.pulls_before b.pulls_after) b.trace b.left b.put_before b.put_after = its.told in
        let status : a.status ≡ status_of run.stop = run.its_status pushed in
        let its_status : b.status ≡ status_of other.stop = other.its_status pushed_too in
        let same =
        logs_alike setup trace run.stop other.stop a.left b.left run.all other.all (calm_stop a run.stop calm status pushed pulled)
        (calm_stop b other.stop quiet its_status pushed_too pulled_too)
        (subst (λ (o : Option (List ℕ)). IfSome o (λ bytes. LoggedEnds setup run.stop bytes a.left (steps_logged run.all))) calm.trace_told run.ends)
        (subst (λ (o : Option (List ℕ)). IfSome o (λ bytes. LoggedEnds setup other.stop bytes b.left (steps_logged other.all))) quiet.trace_told
        other.ends)
        it.replayed its.replayed in
        put_alike a b (status_of run.stop) (logged_texts run.all ++ stop_text run.stop) status (its_status ∙ ap status_of (sym same.0))
        (appended a.put_before a.put_after (logged_texts run.all ++ stop_text run.stop) calm.put_told (run.whole pushed))
        (appended b.put_before b.put_after (logged_texts other.all ++ stop_text other.stop) quiet.put_told (other.whole pushed_too)
        ∙ ap₂ (λ (xs : List LoggedStep) (s : Stop). Some (put ++ (logged_texts xs ++ stop_text s))) (sym same.1) (sym same.0))

    session_alike : {S R : Type 0} (session : Session S R) (logged : Bool) → IsExact (telling session logged)
        → ((s t : S) → session.begins s → session.begins t → s ≡ t)
        → IsSaidBySession session logged a.status (Rose a.pulls_before a.pulls_after) a.trace a.left a.put_before a.put_after
        → IsSaidBySession session logged b.status (Rose b.pulls_before b.pulls_after) b.trace b.left b.put_before b.put_after → AreAnsweredAlike put a b
    session_alike {R = R} session logged exact begun one two =
        let it = one.told in
        let its = two.told in
        let status : a.status ≡ status_of it.stop = it.its_status pushed in
        let its_status : b.status ≡ status_of its.stop = its.its_status pushed_too in
        let same =
        conversations_alike session logged exact begun trace a.trace b.trace a.left b.left calm.trace_told quiet.trace_told it.stop its.stop it.replies
        its.replies (calm_stop b its.stop quiet its_status pushed_too pulled_too) two.conversed (calm_stop a it.stop calm status pushed pulled) one.conversed in
        let texts = texts_of (spoken session.language logged) in
        put_alike a b (status_of it.stop) (texts it.replies ++ stop_text it.stop) status (its_status ∙ ap status_of (sym same.0))
        (appended a.put_before a.put_after (texts it.replies ++ stop_text it.stop) calm.put_told (it.whole pushed))
        (appended b.put_before b.put_after (texts its.replies ++ stop_text its.stop) quiet.put_told (its.whole pushed_too)
        ∙ ap₂ (λ (xs : List (ReplyAs (sessions.Said R) logged)) (s : Stop). Some (put ++ (texts xs ++ stop_text s))) (sym same.1) (sym same.0))

    -- ---- by what the words ask for

    tasks_alike : (task : Option Task) → IfSome task (λ its. Said its a) → IfSome task (λ its. Said its b)
        → (IsNone task → AreAnsweredAlike put a b) → AreAnsweredAlike put a b
    tasks_alike None it its none = none refl
    tasks_alike (Some (Task.Run choices)) it its none = runs_alike choices it its
    tasks_alike (Some (Task.Make seed count)) it its none = texts_alike (commands_text (sample_trace seed count)) it its
    tasks_alike (Some (Task.Sample seed count)) it its none = sampled_alike seed count it its
    tasks_alike (Some (Task.Check choices)) it its none = checked_alike choices it its
    tasks_alike (Some (Task.Log choices)) it its none = logged_alike choices it its
    tasks_alike (Some (Task.Wear choices)) it its none =
        session_alike (wear_chosen choices) choices.log (wear_exact (setup_chosen choices) (suite_keys_chosen choices) (every_chosen choices) choices.log)
        (wear_begun (setup_chosen choices) (suite_keys_chosen choices) (every_chosen choices)) it its
    tasks_alike (Some (Task.Tree choices)) it its none =
        session_alike (tree_chosen choices) choices.log (tree_exact (setup_chosen choices) (suite_keys_chosen choices) choices.log)
        (tree_begun (setup_chosen choices) (suite_keys_chosen choices)) it its
    tasks_alike (Some (Task.Txn choices)) it its none =
        session_alike (txn_chosen choices) choices.log (txn_exact (setup_chosen choices) (suite_keys_chosen choices) choices.log)
        (txn_begun (setup_chosen choices) (suite_keys_chosen choices)) it its

  -- faulty words are told in full, as no push failed
  pub refused : (call : Call) → IsUndisturbed trace put call → AreRefusedWords call.put_before call.put_after call.pushes_before call.pushes_after
      → call.put_after ≡ Some (put ++ stop_text Words)
  refused call calm (inl whole) = appended call.put_before call.put_after (stop_text Words) calm.put_told whole
  refused call calm (inr failed) = absurd (calm.pushed failed.1)

pub calls_alike : (words : List Word) (trace put : List ℕ) (a b : Call) → IsCallWith words a → IsCallWith words b
    → IsByMachine words a → IsByMachine words b → IsUndisturbed trace put a → IsUndisturbed trace put b → AreAnsweredAlike put a b
calls_alike words trace put a b it its by_one by_other calm quiet =
    tasks_alike trace put a b calm quiet (λ is. calm.pushed (it.write is)) (λ is. quiet.pushed (its.write is)) (λ is. calm.pulled (it.read is))
    (λ is. quiet.pulled (its.read is)) (task_of words) by_one by_other
    (λ none.
    let first : a.status ≡ 2 = it.faulty.1 none in
    let second : b.status ≡ 2 = its.faulty.1 none in
    put_alike trace put a b 2 (stop_text Words) first second (refused trace put a calm (it.refused first))
    (refused trace put b quiet (its.refused second)))
