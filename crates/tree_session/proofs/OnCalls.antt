-- A recovery, as the fields of a session have it.
use Rattle.std.proofs.Common.{ℕ, ◌≡◌, ◌≢◌, Bool, true, false, List, Option, Some, None, Ok, Err, refl, ap, subst, sym, ◌∙◌}
use Rattle.tree_session.proofs.Common.{Result, option_map, if◌then◌else◌, Exhibit, Shape, Formulas, Setup, BoardMemory, ended, Follows, Work, WatchState, first_shown, Taken, steps_in, device_during, none_taken, IsWatched, TreeRec, TreeState, rest_of, HasTreeRecovered, recover_parts, tree_recover_plan, Halt, TreeAnswer, SessionState, tree_setup_in, TreeParts, state_of, IsTreeWorld, tree_decided, IsTreeAnswered, IsTreeMemoryWanted, IsTreeHalt}
use Rattle.asit_shadow.specs.declared.recovery.TreeRec.TheVariants as Fail
use Rattle.trace_text.specs.declared.talk.Halt.TheVariants as Stop
use Rattle.tree_session.specs.declared.commands.TreeCommand.TheVariants as Do
use Rattle.tree_session.specs.declared.answers.TreeAnswer.TheVariants as Say
use Rattle.tree_session.proofs.Recoveries.{dark, TreeRecoveryCall, RecoversBy, rest_from, rest_to, left_with, resting, recovered_held, recovered_done, cut_held, cut_done, refused_held, refused_done, memory_held, memory_wanted}
use Rattle.tree_session.proofs.RecoveryClashes.{clash_held, clash_done, clash_minors}
use Rattle.tree_session.proofs.AnswerClauses.{setup_under, seen_from, held_under, halts}

pub record OnTreeCall : Type 0 where
  pub formulas_of : List ℕ → Formulas
  pub geometry : Shape
  pub parts : TreeParts
  pub now : SessionState
  pub is : state_of (setup_under formulas_of geometry parts.keys) parts ≡ now
  pub world : IsTreeWorld (setup_under formulas_of geometry parts.keys) parts
  pub unshown : now.shown ≡ None
  pub there : parts.engine ≡ None
  pub lit : BoardMemory
  pub is_lit : lit ≡ record parts.board { powered = true }
  pub keys : List ℕ
  pub same_keys : keys ≡ parts.keys
  pub pads : ℕ
  pub same_pads : pads ≡ parts.pads
  pub tags : ℕ
  pub same_tags : tags ≡ parts.tags
  pub board : BoardMemory
  pub watch : WatchState
  pub taken : Taken
  pub watched : IsWatched lit board taken
  pub before : ℕ
  pub same_before : before ≡ parts.digests
  pub later : ℕ
  pub answer : Result (TreeState × Work) TreeRec
  pub recovered :
      HasTreeRecovered (setup_under formulas_of geometry parts.keys) (rest_of (device_during lit none_taken) parts.watch)
      (rest_of (device_during board taken) watch) before later answer
  pub plan :
      answer ≢ Err Fail.Memory
      → Follows (tree_recover_plan (setup_under formulas_of geometry parts.keys) lit.regs (recover_parts parts.watch before)) (device_during lit none_taken)
      (device_during board taken) (ended answer (recover_parts watch later))
  pub said : ℕ
  pub counted : said ≡ steps_in taken

module _ (o : OnTreeCall) where
  abbrev call : TreeRecoveryCall
  call =
      record {
        setup = setup_under o.formulas_of o.geometry o.parts.keys;
        parts = o.parts;
        board = o.board;
        watch = o.watch;
        taken = o.taken;
        world = o.world;
        none = ap (λ (s : SessionState). s.shown) o.is ∙ o.unshown;
        there = o.there;
        watched = subst (λ (b : BoardMemory). IsWatched b o.board o.taken) o.is_lit o.watched;
        pads = o.pads;
        same_pads = o.same_pads;
        tags = o.tags;
        same_tags = o.same_tags;
        before = o.before;
        same_before = o.same_before;
        later = o.later;
      }

  -- the state doesn't decide the answer
  pub undecided_now : tree_decided o.now.shape o.now.plain Do.On ≡ None
  undecided_now =
      subst (λ (w : SessionState). tree_decided w.shape w.plain Do.On ≡ None) o.is
      (ap (λ (b : Bool). if b then Some Say.Already else None) (dark call))

  was : (known : Result (TreeState × Work) TreeRec) → o.answer ≡ known → HasTreeRecovered (setup_under o.formulas_of o.geometry o.parts.keys) (rest_from call) (rest_to call) o.before o.later known
  was known is =
      subst (λ r. HasTreeRecovered (setup_under o.formulas_of o.geometry o.parts.keys) (rest_from call) (rest_to call) o.before o.later r) is
      (subst (λ (b : BoardMemory). HasTreeRecovered (setup_under o.formulas_of o.geometry o.parts.keys) (rest_of (device_during b none_taken) o.parts.watch)
      (rest_of (device_during o.board o.taken) o.watch) o.before o.later o.answer) o.is_lit o.recovered)

  followed : (known : Result (TreeState × Work) TreeRec) → o.answer ≡ known → known ≢ Err Fail.Memory → RecoversBy call known
  followed known is some =
      subst (RecoversBy call) is
      (subst (λ n. Follows (tree_recover_plan (setup_under o.formulas_of o.geometry o.parts.keys) o.parts.board.regs (recover_parts o.parts.watch n))
      (device_during (record o.parts.board { powered = true }) none_taken) (device_during o.board o.taken) (ended o.answer (recover_parts o.watch o.later)))
      o.same_before
      (subst (λ (b : BoardMemory). Follows (tree_recover_plan (setup_under o.formulas_of o.geometry o.parts.keys) b.regs (recover_parts o.parts.watch o.before))
      (device_during b none_taken) (device_during o.board o.taken) (ended o.answer (recover_parts o.watch o.later))) o.is_lit
      (o.plan (λ memory. some (sym is ∙ memory)))))

  abbrev pub under : TreeParts → TreeParts
  under q = record q { keys = o.keys }

  abbrev pub setup_then : Setup
  setup_then = setup_under o.formulas_of o.geometry o.keys

  held : (q : TreeParts) → IsTreeWorld (setup_under o.formulas_of o.geometry o.parts.keys) (record q { keys = o.parts.keys }) → IsTreeWorld setup_then (under q)
  held q it = held_under o.formulas_of o.geometry o.parts q o.keys o.same_keys it

  seen : (q : TreeParts) (answer : ℕ → TreeAnswer) → q.keys ≡ o.parts.keys
      → IsTreeAnswered (setup_under o.formulas_of o.geometry o.parts.keys) (state_of (setup_under o.formulas_of o.geometry o.parts.keys) o.parts) Do.On (answer (steps_in o.taken))
      (state_of (setup_under o.formulas_of o.geometry o.parts.keys) q)
      → IsTreeAnswered (tree_setup_in o.formulas_of o.now) o.now Do.On (answer o.said) (state_of setup_then (under q))
  seen q answer its it =
      subst (λ (n : ℕ). IsTreeAnswered (tree_setup_in o.formulas_of o.now) o.now Do.On (answer n) (state_of setup_then (under q))) (sym o.counted)
      (seen_from o.formulas_of o.geometry o.parts q o.now o.keys (λ setup old new. IsTreeAnswered setup old Do.On (answer (steps_in o.taken)) new) o.is o.same_keys its it)

  pub on_held : (made : TreeState × Work) → o.answer ≡ Ok made → IsTreeWorld setup_then (under (left_with call o.board (Some made.0)))
  on_held made is = held (left_with call o.board (Some made.0)) (recovered_held call made.0 made.1 (was (Ok made) is) (followed (Ok made) is (λ e. absurd cc)))

  pub on_seen : (made : TreeState × Work) → o.answer ≡ Ok made
      → IsTreeAnswered (tree_setup_in o.formulas_of o.now) o.now Do.On (Say.Recovered made.1.digests o.said) (state_of setup_then (under (left_with call o.board (Some made.0))))
  on_seen made is = seen (left_with call o.board (Some made.0)) (Say.Recovered made.1.digests) refl (recovered_done call made.0 made.1 (was (Ok made) is) (followed (Ok made) is (λ e. absurd cc)))

  -- there is no engine, as before
  abbrev pub cut_as : TreeParts
  cut_as = record (under (left_with call o.board None)) { engine = o.parts.engine }

  cut_so : (Q : TreeParts → Type 0) → Q (under (left_with call o.board None)) → Q cut_as
  cut_so Q it = subst (λ (e : Option TreeState). Q (record (under (left_with call o.board None)) { engine = e })) (sym o.there) it

  pub cut_kept : o.answer ≡ Err Fail.Cut → IsTreeWorld setup_then cut_as
  cut_kept is = cut_so (IsTreeWorld setup_then) (held (left_with call o.board None) (cut_held call (was (Err Fail.Cut) is) (followed (Err Fail.Cut) is (λ e. absurd cc))))

  pub cut_seen : o.answer ≡ Err Fail.Cut → IsTreeAnswered (tree_setup_in o.formulas_of o.now) o.now Do.On (Say.Cut o.said) (state_of setup_then cut_as)
  cut_seen is =
      cut_so (λ q. IsTreeAnswered (tree_setup_in o.formulas_of o.now) o.now Do.On (Say.Cut o.said) (state_of setup_then q))
      (seen (left_with call o.board None) Say.Cut refl (cut_done call (was (Err Fail.Cut) is) (followed (Err Fail.Cut) is (λ e. absurd cc))))

  exhibit_of : o.answer ≡ Err Fail.Shown → (exhibit : Exhibit) × (o.watch.exhibit ≡ Some exhibit)
  exhibit_of is =
      let it = was (Err Fail.Shown) is in
      (it.answered.place.0, it.answered.place.2.exhibit ∙ ap (λ e. first_shown e it.answered.place.0) (ap (λ (s : SessionState). s.shown) o.is ∙ o.unshown))

  -- the board rests then
  module _ (rested : BoardMemory) (rests : rested ≡ record o.board { powered = false }) where
    abbrev pub rests_as : TreeParts
    rests_as = record (under (left_with call (resting call) None)) { board = rested; engine = o.parts.engine }

    rests_so : (Q : TreeParts → Type 0) → Q (under (left_with call (resting call) None)) → Q rests_as
    rests_so Q it =
        subst (λ (e : Option TreeState). Q (record (under (left_with call (resting call) None)) { board = rested; engine = e })) (sym o.there)
        (subst (λ (b : BoardMemory). Q (record (under (left_with call (resting call) None)) { board = b })) (sym rests) it)

    pub shadow_kept : (kept found : List ℕ) → o.answer ≡ Err (Fail.Shadow kept found) → IsTreeWorld setup_then rests_as
    shadow_kept kept found is =
        rests_so (IsTreeWorld setup_then) (held (left_with call (resting call) None) (refused_held call kept found (was (Err (Fail.Shadow kept found)) is) (followed (Err (Fail.Shadow kept found)) is (λ e. absurd cc))))

    pub shadow_seen : (kept found : List ℕ) → o.answer ≡ Err (Fail.Shadow kept found)
        → IsTreeAnswered (tree_setup_in o.formulas_of o.now) o.now Do.On (Say.RefusedShadow kept found o.said) (state_of setup_then rests_as)
    shadow_seen kept found is =
        rests_so (λ q. IsTreeAnswered (tree_setup_in o.formulas_of o.now) o.now Do.On (Say.RefusedShadow kept found o.said) (state_of setup_then q))
        (seen (left_with call (resting call) None) (Say.RefusedShadow kept found) refl (refused_done call kept found (was (Err (Fail.Shadow kept found)) is) (followed (Err (Fail.Shadow kept found)) is (λ e. absurd cc))))

    pub memory_kept : o.answer ≡ Err Fail.Memory → IsTreeWorld setup_then rests_as
    memory_kept is = rests_so (IsTreeWorld setup_then) (held (left_with call (resting call) None) (memory_held call (was (Err Fail.Memory) is)))

    pub memory_seen : o.answer ≡ Err Fail.Memory → IsTreeHalt (tree_setup_in o.formulas_of o.now) o.now Do.On Stop.Memory (state_of setup_then rests_as)
    memory_seen is =
        rests_so (λ q. IsTreeMemoryWanted o.now Do.On × (state_of setup_then q ≡ o.now))
        (seen_from o.formulas_of o.geometry o.parts (left_with call (resting call) None) o.now o.keys (λ setup old new. IsTreeMemoryWanted old Do.On × (new ≡ old)) o.is o.same_keys refl
        (memory_wanted call (was (Err Fail.Memory) is)))

    pub shown_kept : o.answer ≡ Err Fail.Shown → IsTreeWorld setup_then rests_as
    shown_kept is =
        let found = exhibit_of is in
        rests_so (IsTreeWorld setup_then) (held (left_with call (resting call) None) (clash_held call found.0 found.1 (was (Err Fail.Shown) is) (followed (Err Fail.Shown) is (λ e. absurd cc))))

    pub shown_seen : o.answer ≡ Err Fail.Shown → (halt : Halt) → Some halt ≡ option_map Stop.Shown o.watch.exhibit
        → IsTreeHalt (tree_setup_in o.formulas_of o.now) o.now Do.On halt (state_of setup_then rests_as)
    shown_seen is halt told =
        let found = exhibit_of is in
        rests_so (λ q. IsTreeHalt (tree_setup_in o.formulas_of o.now) o.now Do.On halt (state_of setup_then q))
        (halts o.formulas_of o.geometry o.parts (left_with call (resting call) None) o.now o.keys Do.On halt found.0 o.watch.exhibit o.is o.same_keys refl told found.1
        (clash_minors call found.0 found.1 (was (Err Fail.Shown) is) (followed (Err Fail.Shown) is (λ e. absurd cc))) (clash_done call found.0 found.1 (was (Err Fail.Shown) is) (followed (Err Fail.Shown) is (λ e. absurd cc))))
