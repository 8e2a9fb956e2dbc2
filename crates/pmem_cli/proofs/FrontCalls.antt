-- Of two calls of `run` with the same words for one trace, what the first put is a front of what the second put, if nothing disturbed
-- the second.
use Rattle.std.proofs.Common.{◌≡◌, ◌≢◌, ◌∙◌, ℕ, Bool, List, [], ◌∷◌, ◌++◌, refl, sym, ap, ap₂, subst, inl, inr, append_assoc, append-nil}
use Rattle.std.specs.Prelude.{◌⊎◌, ◌==◌, IfSome, IsNone, Option, None, Some}
use Rattle.std.specs.List.{flat_map}
use Rattle.std.specs.Io.KnownBytes.{Appends}
use Rattle.std.proofs.lemmas.Bool.{cases_Bool, eqb-true, eqb-false}
use Rattle.std.proofs.lemmas.List.Concat.{flat_map-append}
use Rattle.collision_witness.specs.Words.{Word}
use Rattle.plain_model.specs.Defaults.{default_setup}
use Rattle.plain_model.specs.declared.Stop.{Stop}
use Rattle.plain_model.specs.declared.Stop.TheVariants.{Finished, Memory, Words, ReadFault, WriteFault, Refused, Shown, TooManyLines}
use Rattle.plain_model.specs.Run.{step_text, steps_text, output_of, stop_text, status_of, Ends}
use Rattle.trace_text.specs.Conversations.{texts_of}
use Rattle.trace_text.specs.Samples.{sample_trace, commands_text}
use Rattle.pmem_cli.specs.declared.options.Choices.{Choices}
use Rattle.pmem_cli.specs.declared.options.Task.{Task}
use Rattle.pmem_cli.specs.declared.ending.Ending.{Ending}
use Rattle.pmem_cli.specs.declared.ending.Ending.TheVariants.{Stopped, Holds, Fails}
use Rattle.pmem_cli.specs.Causes.{Rose}
use Rattle.pmem_cli.specs.Checked.{IsChecked}
use Rattle.pmem_cli.specs.Determined.{Call, IsCallWith, IsByMachine, IsUndisturbed, IsFrontOf}
use Rattle.pmem_cli.specs.Endings.{ending_text, ending_status}
use Rattle.pmem_cli.specs.HasRun.{IsWorldRun, HasTextPut, IsWorldSample, HasCheckedTrace, AreRefusedWords}
use Rattle.pmem_cli.specs.Keys.{formulas_of, setup_chosen, suite_keys_chosen, every_chosen}
use Rattle.pmem_cli.specs.Logged.{IsWorldLoggedRun, LoggedEnds, steps_logged, logged_text, logged_texts}
use Rattle.pmem_cli.specs.Printed.{AppendsFront}
use Rattle.pmem_cli.specs.Sessions.{Session, telling, spoken, IsSaidBySession}
use Rattle.pmem_cli.specs.Tree.{tree_chosen}
use Rattle.pmem_cli.specs.Txn.{txn_chosen}
use Rattle.pmem_cli.specs.Wear.{wear_chosen}
use Rattle.pmem_cli.specs.Words.{task_of}
use Rattle.pmem_cli.proofs.CallsAlike.{appended, calm_stop, refused, Said}
use Rattle.pmem_cli.proofs.ChecksAlike.{checks_alike}
use Rattle.pmem_cli.proofs.LogsAlike.{logs_front}
use Rattle.pmem_cli.proofs.ReplaysAlike.{IsBreak, IsFrontRun, replays_front}
use Rattle.pmem_cli.proofs.SamplesAlike.{samples_front}
use Rattle.pmem_cli.proofs.SessionsAlike.{conversations_front, wear_exact, txn_exact, tree_exact, wear_begun, txn_begun, tree_begun}
use Rattle.pmem_cli.proofs.TalksAlike.{IsExact}

-- two cuts of one list
cuts_of : (xs ys us vs : List ℕ) → xs ++ ys ≡ us ++ vs
    → ((m : List ℕ) × (us ≡ xs ++ m) × (ys ≡ m ++ vs)) ⊎ ((m : List ℕ) × (xs ≡ us ++ m) × (vs ≡ m ++ ys))
cuts_of [] ys us vs same = inl (us, refl, same)
cuts_of (x ∷ xs) ys [] vs same = inr (x ∷ xs, refl, sym same)
cuts_of (x ∷ xs) ys (u ∷ us) vs same =
    let head : x ≡ u = cc (same) in
    let tail : xs ++ ys ≡ us ++ vs = cc (same) in
    elim (cuts_of xs ys us vs tail) [
      | inl cut ↦ inl (cut.0, ap₂ (λ (h : ℕ) (t : List ℕ). h ∷ t) (sym head) cut.1, cut.2)
      | inr cut ↦ inr (cut.0, ap₂ (λ (h : ℕ) (t : List ℕ). h ∷ t) head cut.1, cut.2)
    ]

module _ (trace put : List ℕ) (a b : Call) (told : a.put_before ≡ Some put) (pushed : a.status ≡ 4 → Rose a.pushes_before a.pushes_after) where
  -- what was put, in other words
  abbrev Put : List ℕ → Option (List ℕ)
  Put text = Some (put ++ text)

  -- a push failed before all was put that is a front of the other's
  pub fronted : (text more : List ℕ) → AppendsFront a.put_before a.put_after text → b.put_after ≡ Put (text ++ more) → a.status ≡ 4 → IsFrontOf put a b
  fronted text more front whole failed = record {
    done = front.done;
    rest = front.rest ++ more;
    last = [];
    whole = whole ∙ ap Put (ap (λ l. l ++ more) front.cut ∙ append_assoc front.done front.rest more);
    front = appended trace put a.put_before a.put_after front.done told front.appended ∙ ap Put (sym (append-nil front.done));
    its_end = inr (inl (pushed failed, refl));
  }

  -- both are to put one text
  pub same_put : (text : List ℕ) (code : ℕ) → (a.status ≢ 4 → a.status ≡ code) → (a.status ≢ 4 → Appends a.put_before a.put_after text)
      → AppendsFront a.put_before a.put_after text → b.put_after ≡ Put text → b.status ≡ code → IsFrontOf put a b
  same_put text code status whole front other its = elim (cases_Bool (a.status == 4)) [
    | inl four ↦ fronted text [] front (other ∙ ap Put (sym (append-nil text))) (eqb-true a.status 4 four)
    | inr differs ↦
        let apart = eqb-false a.status 4 differs in
        record {
          done = text;
          rest = [];
          last = [];
          whole = other ∙ ap Put (sym (append-nil text));
          front = appended trace put a.put_before a.put_after text told (whole apart) ∙ ap Put (sym (append-nil text));
          its_end = inl (status apart ∙ sym its, refl, refl);
        }
  ]

  -- the first was broken off, by a stop that has a line or a push that failed
  pub broken_put : (stop : Stop) (text more : List ℕ) → (stop ≡ Memory) ⊎ (stop ≡ ReadFault) → (a.status ≢ 4 → a.status ≡ status_of stop)
      → (a.status ≢ 4 → Appends a.put_before a.put_after (text ++ stop_text stop)) → AppendsFront a.put_before a.put_after (text ++ stop_text stop)
      → b.put_after ≡ Put (text ++ more) → IsFrontOf put a b
  broken_put stop text more which status whole front other = elim (cases_Bool (a.status == 4)) [
    | inl four ↦ elim (cuts_of front.done front.rest text (stop_text stop) (sym front.cut)) [
      | inl cut ↦
          fronted text more (record { done = front.done; rest = cut.0; cut = cut.1; appended = front.appended }) other (eqb-true a.status 4 four)
      | inr cut ↦ record {
        done = text;
        rest = more;
        last = cut.0;
        whole = other;
        front = appended trace put a.put_before a.put_after front.done told front.appended ∙ ap Put cut.1;
        its_end = inr (inr (stop, which, inr (eqb-true a.status 4 four, front.rest, cut.2)));
      }
    ]
    | inr differs ↦
        let apart = eqb-false a.status 4 differs in
        record {
          done = text;
          rest = more;
          last = stop_text stop;
          whole = other;
          front = appended trace put a.put_before a.put_after (text ++ stop_text stop) told (whole apart);
          its_end = inr (inr (stop, which, inl (status apart, refl)));
        }
  ]

  -- a stop behind a front of the other's replies
  pub ended_put : (stop other : Stop) (text its more : List ℕ) → IsBreak stop → its ≡ text ++ more → (a.status ≢ 4 → a.status ≡ status_of stop)
      → (a.status ≢ 4 → Appends a.put_before a.put_after (text ++ stop_text stop)) → AppendsFront a.put_before a.put_after (text ++ stop_text stop)
      → b.put_after ≡ Put (its ++ stop_text other) → IsFrontOf put a b
  unfolding stop_text
  ended_put stop other text its more (inl memory) cut status whole front put_all =
      broken_put stop text (more ++ stop_text other) (inl memory) status whole front
      (put_all ∙ ap Put (ap (λ l. l ++ stop_text other) cut ∙ append_assoc text more (stop_text other)))
  ended_put stop other text its more (inr (inl pull)) cut status whole front put_all =
      broken_put stop text (more ++ stop_text other) (inr pull) status whole front
      (put_all ∙ ap Put (ap (λ l. l ++ stop_text other) cut ∙ append_assoc text more (stop_text other)))
  ended_put stop other text its more (inr (inr push)) cut status whole front put_all =
      let none : text ++ stop_text stop ≡ text = ap (λ (s : Stop). text ++ stop_text s) push ∙ append-nil text in
      fronted text (more ++ stop_text other) (subst (λ l. AppendsFront a.put_before a.put_after l) none front)
      (put_all ∙ ap Put (ap (λ l. l ++ stop_text other) cut ∙ append_assoc text more (stop_text other)))
      (elim (cases_Bool (a.status == 4)) [
        | inl four ↦ eqb-true a.status 4 four
        | inr differs ↦ status (eqb-false a.status 4 differs) ∙ ap status_of push
      ])

  -- a run beside one that came to its stop
  pub put_front : (stop other : Stop) (text its : List ℕ) → (a.status ≢ 4 → a.status ≡ status_of stop)
      → (a.status ≢ 4 → Appends a.put_before a.put_after (text ++ stop_text stop)) → AppendsFront a.put_before a.put_after (text ++ stop_text stop)
      → b.put_after ≡ Put (its ++ stop_text other) → b.status ≡ status_of other → IsFrontRun stop other text its → IsFrontOf put a b
  put_front stop other text its status whole front put_all its_status (inl same) =
      same_put (text ++ stop_text stop) (status_of stop) status whole front
      (put_all ∙ ap₂ (λ (l : List ℕ) (s : Stop). Put (l ++ stop_text s)) (sym same.1) (sym same.0)) (its_status ∙ ap status_of (sym same.0))
  put_front stop other text its status whole front put_all its_status (inr (broken, more, cut)) =
      ended_put stop other text its more broken cut status whole front put_all

-- the texts of a front are a front of the texts
texts_front : {X : Type 0} (text_of : X → List ℕ) (stop other : Stop) (xs ys : List X) → IsFrontRun stop other xs ys
    → IsFrontRun stop other (flat_map text_of xs) (flat_map text_of ys)
texts_front {X} text_of stop other xs ys (inl same) = inl (same.0, ap (λ (zs : List X). flat_map text_of zs) same.1)
texts_front {X} text_of stop other xs ys (inr (broken, rest, cut)) =
    inr (broken, flat_map text_of rest, ap (λ (zs : List X). flat_map text_of zs) cut ∙ flat_map-append text_of xs rest)

-- ---- two calls for one task, the second of which nothing disturbed

module _ (trace put : List ℕ) (a b : Call) (traced : a.trace ≡ Some trace) (told : a.put_before ≡ Some put)
    (pushed : a.status ≡ 4 → Rose a.pushes_before a.pushes_after) (quiet : IsUndisturbed trace put b) (apart : b.status ≢ 4) (pulled : b.status ≢ 3) where
  runs_front : (choices : Choices) → Said trace put (Task.Run choices) a → Said trace put (Task.Run choices) b → IsFrontOf put a b
  runs_front choices one two =
      let setup = setup_chosen choices in
      let it : IsWorldRun setup a.status (Rose a.pulls_before a.pulls_after) a.trace a.left a.put_before a.put_after = one in
      let its : IsWorldRun setup b.status (Rose b.pulls_before b.pulls_after) b.trace b.left b.put_before b.put_after = two in
      let run = it.told in
      let other = its.told in
      let status : b.status ≡ status_of other.stop = other.its_status apart in
      let front =
      replays_front setup trace other.stop a.left b.left run.steps other.steps (calm_stop trace put b other.stop quiet status apart pulled)
      (subst (λ (o : Option (List ℕ)). IfSome o (λ bytes. Ends setup other.stop bytes b.left other.steps)) quiet.trace_told other.ends) its.replayed run.stop
      (subst (λ (o : Option (List ℕ)). IfSome o (λ bytes. Ends setup run.stop bytes a.left run.steps)) traced run.ends) it.replayed in
      put_front trace put a b told pushed run.stop other.stop (steps_text run.steps) (steps_text other.steps) run.its_status run.whole run.front
      (appended trace put b.put_before b.put_after (output_of other.steps other.stop) quiet.put_told (other.whole apart)) status
      (texts_front step_text run.stop other.stop run.steps other.steps front)

  logged_front : (choices : Choices) → Said trace put (Task.Log choices) a → Said trace put (Task.Log choices) b → IsFrontOf put a b
  logged_front choices one two =
      let setup = setup_chosen choices in
      let it : IsWorldLoggedRun setup a.status (Rose a.pulls_before a.pulls_after) a.trace a.left a.put_before a.put_after = one in
      let its : IsWorldLoggedRun setup b.status (Rose b.pulls_before b.pulls_after) b.trace b.left b.put_before b.put_after = two in
      let run = it.told in
      let other = its.told in
      let status : b.status ≡ status_of other.stop = other.its_status apart in
      let front =
      logs_front setup trace other.stop a.left b.left run.all other.all (calm_stop trace put b other.stop quiet status apart pulled)
      (subst (λ (o : Option (List ℕ)). IfSome o (λ bytes. LoggedEnds setup other.stop bytes b.left (steps_logged other.all))) quiet.trace_told other.ends)
      its.replayed run.stop
      (subst (λ (o : Option (List ℕ)). IfSome o (λ bytes. LoggedEnds setup run.stop bytes a.left (steps_logged run.all))) traced run.ends) it.replayed in
      put_front trace put a b told pushed run.stop other.stop (logged_texts run.all) (logged_texts other.all) run.its_status run.whole run.front
      (appended trace put b.put_before b.put_after (logged_texts other.all ++ stop_text other.stop) quiet.put_told (other.whole apart)) status
      (texts_front logged_text run.stop other.stop run.all other.all front)

  sampled_front : (seed count : ℕ) → IsWorldSample default_setup (sample_trace seed count) a.status a.put_before a.put_after
      → IsWorldSample default_setup (sample_trace seed count) b.status b.put_before b.put_after → IsFrontOf put a b
  sampled_front seed count one two =
      let it = one.told in
      let its = two.told in
      let status : b.status ≡ status_of its.stop = its.its_status apart in
      put_front trace put a b told pushed it.stop its.stop it.text its.text it.its_status it.whole it.front
      (appended trace put b.put_before b.put_after (its.text ++ stop_text its.stop) quiet.put_told (its.whole apart)) status
      (samples_front default_setup (sample_trace seed count) it.stop its.stop it.steps its.steps it.text its.text
      (calm_stop trace put b its.stop quiet status apart pulled) it.ends its.ends one.replayed two.replayed)

  texts_put : (text : List ℕ) → HasTextPut text a.status a.put_before a.put_after → HasTextPut text b.status b.put_before b.put_after → IsFrontOf put a b
  texts_put text it its =
      same_put trace put a b told pushed text 0 it.its_status it.whole it.front
      (appended trace put b.put_before b.put_after text quiet.put_told (its.whole apart)) (its.its_status apart)

  checked_front : (choices : Choices) → Said trace put (Task.Check choices) a → Said trace put (Task.Check choices) b → IsFrontOf put a b
  checked_front choices one two = by_ending it.ending refl
    where
      it : HasCheckedTrace choices a.status (Rose a.pulls_before a.pulls_after) a.trace a.left a.put_before a.put_after
      it = one

      its : HasCheckedTrace choices b.status (Rose b.pulls_before b.pulls_after) b.trace b.left b.put_before b.put_after
      its = two

      status : b.status ≡ ending_status its.ending
      status = its.its_status apart

      all : b.put_after ≡ Some (put ++ ending_text its.ending)
      all = appended trace put b.put_before b.put_after (ending_text its.ending) quiet.put_told (its.whole apart)

      checked : IsChecked (formulas_of choices) it.ending trace a.left
      checked = subst (λ (o : Option (List ℕ)). IfSome o (λ bytes. IsChecked (formulas_of choices) it.ending bytes a.left)) traced it.checked

      whole_check : it.ending ≢ Stopped ReadFault → IsFrontOf put a b
      whole_check ending =
          let same =
          checks_alike (formulas_of choices) trace it.ending its.ending a.left b.left ending (λ is. pulled (status ∙ ap ending_status is)) checked
          (subst (λ (o : Option (List ℕ)). IfSome o (λ bytes. IsChecked (formulas_of choices) its.ending bytes b.left)) quiet.trace_told its.checked) in
          same_put trace put a b told pushed (ending_text it.ending) (ending_status it.ending) it.its_status it.whole it.front
          (all ∙ ap (λ (e : Ending). Some (put ++ ending_text e)) (sym same)) (status ∙ ap ending_status (sym same))

      broken_check : it.ending ≡ Stopped ReadFault → IsFrontOf put a b
      broken_check is =
          broken_put trace put a b told pushed ReadFault [] (ending_text its.ending) (inr refl) (λ calm. it.its_status calm ∙ ap ending_status is)
          (λ calm. subst (λ (e : Ending). Appends a.put_before a.put_after (ending_text e)) is (it.whole calm))
          (subst (λ (e : Ending). AppendsFront a.put_before a.put_after (ending_text e)) is it.front) all

      by_ending : (ending : Ending) → it.ending ≡ ending → IsFrontOf put a b
      by_ending Holds is = whole_check (λ other. absurd (cc (sym is ∙ other)))
      by_ending Fails is = whole_check (λ other. absurd (cc (sym is ∙ other)))
      by_ending (Stopped ReadFault) is = broken_check is
      by_ending (Stopped Finished) is = whole_check (λ other. absurd (cc (sym is ∙ other)))
      by_ending (Stopped Memory) is = whole_check (λ other. absurd (cc (sym is ∙ other)))
      by_ending (Stopped Words) is = whole_check (λ other. absurd (cc (sym is ∙ other)))
      by_ending (Stopped WriteFault) is = whole_check (λ other. absurd (cc (sym is ∙ other)))
      by_ending (Stopped Shown) is = whole_check (λ other. absurd (cc (sym is ∙ other)))
      by_ending (Stopped (Refused number kind)) is = whole_check (λ other. absurd (cc (sym is ∙ other)))
      by_ending (Stopped TooManyLines) is = whole_check (λ other. absurd (cc (sym is ∙ other)))

  session_front : {S R : Type 0} (session : Session S R) (logged : Bool) → IsExact (telling session logged)
      → ((s t : S) → session.begins s → session.begins t → s ≡ t)
      → IsSaidBySession session logged a.status (Rose a.pulls_before a.pulls_after) a.trace a.left a.put_before a.put_after
      → IsSaidBySession session logged b.status (Rose b.pulls_before b.pulls_after) b.trace b.left b.put_before b.put_after → IsFrontOf put a b
  session_front session logged exact begun one two =
      let it = one.told in
      let its = two.told in
      let status : b.status ≡ status_of its.stop = its.its_status apart in
      let front =
      conversations_front session logged exact begun trace a.trace b.trace a.left b.left traced quiet.trace_told it.stop its.stop it.replies its.replies
      (calm_stop trace put b its.stop quiet status apart pulled) two.conversed one.conversed in
      let voice = spoken session.language logged in
      put_front trace put a b told pushed it.stop its.stop (texts_of voice it.replies) (texts_of voice its.replies) it.its_status it.whole it.front
      (appended trace put b.put_before b.put_after (texts_of voice its.replies ++ stop_text its.stop) quiet.put_told (its.whole apart)) status
      (texts_front voice.text_of it.stop its.stop it.replies its.replies front)

  -- ---- by what the words ask for

  tasks_front : (task : Option Task) → IfSome task (λ its. Said trace put its a) → IfSome task (λ its. Said trace put its b)
      → (IsNone task → IsFrontOf put a b) → IsFrontOf put a b
  tasks_front None it its none = none refl
  tasks_front (Some (Task.Run choices)) it its none = runs_front choices it its
  tasks_front (Some (Task.Make seed count)) it its none = texts_put (commands_text (sample_trace seed count)) it its
  tasks_front (Some (Task.Sample seed count)) it its none = sampled_front seed count it its
  tasks_front (Some (Task.Check choices)) it its none = checked_front choices it its
  tasks_front (Some (Task.Log choices)) it its none = logged_front choices it its
  tasks_front (Some (Task.Wear choices)) it its none =
      session_front (wear_chosen choices) choices.log (wear_exact (setup_chosen choices) (suite_keys_chosen choices) (every_chosen choices) choices.log)
      (wear_begun (setup_chosen choices) (suite_keys_chosen choices) (every_chosen choices)) it its
  tasks_front (Some (Task.Tree choices)) it its none =
      session_front (tree_chosen choices) choices.log (tree_exact (setup_chosen choices) (suite_keys_chosen choices) choices.log)
      (tree_begun (setup_chosen choices) (suite_keys_chosen choices)) it its
  tasks_front (Some (Task.Txn choices)) it its none =
      session_front (txn_chosen choices) choices.log (txn_exact (setup_chosen choices) (suite_keys_chosen choices) choices.log)
      (txn_begun (setup_chosen choices) (suite_keys_chosen choices)) it its

  -- faulty words
  words_front : a.status ≡ 2 → b.status ≡ 2 → AreRefusedWords a.put_before a.put_after a.pushes_before a.pushes_after
      → b.put_after ≡ Some (put ++ stop_text Words) → IsFrontOf put a b
  words_front two its_two (inl whole) all = record {
    done = stop_text Words;
    rest = [];
    last = [];
    whole = all ∙ ap (λ l. Some (put ++ l)) (sym (append-nil (stop_text Words)));
    front = appended trace put a.put_before a.put_after (stop_text Words) told whole ∙ ap (λ l. Some (put ++ l)) (sym (append-nil (stop_text Words)));
    its_end = inl (two ∙ sym its_two, refl, refl);
  }
  words_front two its_two (inr (front, rose)) all = record {
    done = front.done;
    rest = front.rest;
    last = [];
    whole = all ∙ ap (λ l. Some (put ++ l)) front.cut;
    front = appended trace put a.put_before a.put_after front.done told front.appended ∙ ap (λ l. Some (put ++ l)) (sym (append-nil front.done));
    its_end = inr (inl (rose, refl));
  }

pub calls_front : (words : List Word) (trace put : List ℕ) (a b : Call) → IsCallWith words a → IsCallWith words b
    → IsByMachine words a → IsByMachine words b → a.trace ≡ Some trace → a.put_before ≡ Some put → IsUndisturbed trace put b → IsFrontOf put a b
calls_front words trace put a b it its by_one by_other traced told quiet =
    tasks_front trace put a b traced told it.write quiet (λ is. quiet.pushed (its.write is)) (λ is. quiet.pulled (its.read is)) (task_of words) by_one by_other
    (λ none.
    let second : b.status ≡ 2 = its.faulty.1 none in
    words_front trace put a b traced told it.write quiet (λ is. quiet.pushed (its.write is)) (λ is. quiet.pulled (its.read is)) (it.faulty.1 none) second
    (it.refused (it.faulty.1 none)) (refused trace put b quiet (its.refused second)))
