-- Two runs of one trace have one log.
use Rattle.std.proofs.Common.{◌≡◌, ◌≢◌, ◌∙◌, ◌-◌, ℕ, false, List, [], ◌∷◌, ◌++◌, refl, sym, ap₂, subst, inl, inr, arith, ◌≤◌, ap, length}
use Rattle.std.specs.Prelude.{⊤, All, Option, Some}
use Rattle.std.proofs.lemmas.List.Elements.{All-head, All-tail}
use Rattle.board.specs.Memory.{BoardMemory}
use Rattle.suite.specs.Setup.{Setup}
use Rattle.plain_model.specs.declared.Stop.{Stop}
use Rattle.plain_model.specs.declared.Stop.TheVariants.{Finished, Words, Memory, ReadFault, WriteFault, Refused, Shown, TooManyLines}
use Rattle.plain_model.specs.Answers.{is_shown}
use Rattle.plain_model.specs.Run.{Step, Ends, line_limit, machine_after_all, start}
use Rattle.pmem_replay.specs.World.{WorldState}
use Rattle.pmem_replay.specs.Stepped.{HasStepped}
use Rattle.pmem_replay.specs.Determined.{AreSameParts}
use Rattle.pmem_replay.specs.Logged.{IsLogged}
use Rattle.pmem_replay.proofs.SameSteps.LogsAlike.{same_logged}
use Rattle.pmem_replay.proofs.SameSteps.StepsAlike.{steps_alike}
use Rattle.pmem_cli.specs.Logged.{LoggedStep, IsTold, steps_logged, AreTold, IsReplayedTold, LoggedEnds, IsMemoryWantedLogged}
use Rattle.pmem_cli.specs.Standing.{IsFirstWorld}
use Rattle.pmem_cli.proofs.LoggedTalks.{replayed_plain}
use Rattle.pmem_cli.proofs.ReplaysAlike.{IsOfTrace, AreRunning, begun, replays_alike, IsFrontRun, replays_front, fronted}
use Rattle.plain_model.specs.State.{PlainState}

-- ---- two logs of one command

told_alike : (old new : WorldState) (x y : LoggedStep) → x.step ≡ y.step → IsTold old x new → IsTold old y new → x ≡ y
told_alike old new x y same it its =
    let accessed : IsLogged x.step.command (Some []) old.board (Some y.accesses) new.board =
    subst (λ (s : Step). IsLogged s.command (Some []) old.board (Some y.accesses) new.board) (sym same) its.accessed in
    let accesses = same_logged x.step.command old.board new.board x.accesses y.accesses it.accessed accessed in
    let tags : x.tags ≡ y.tags = it.tags ∙ sym its.tags in
    let digests : x.digests ≡ y.digests = it.digests ∙ sym its.digests in
    λ i. record { step = same i; accesses = accesses i; tags = tags i; digests = digests i }

-- what is told between two worlds is told between worlds with the same parts
told_over : (old new before after : WorldState) (y : LoggedStep) → AreSameParts old before → AreSameParts new after → IsTold before y after
    → IsTold old y new
told_over old new before after y first last its =
    record {
      accessed =
          subst (λ (m : BoardMemory). IsLogged y.step.command (Some []) m (Some y.accesses) new.board) (sym first.board)
          (subst (λ (m : BoardMemory). IsLogged y.step.command (Some []) before.board (Some y.accesses) m) (sym last.board) its.accessed);
      tags = its.tags ∙ ap₂ (λ (n : ℕ) (m : ℕ). n - m) (sym last.tags) (sym first.tags);
      digests = its.digests ∙ ap₂ (λ (n : ℕ) (m : ℕ). n - m) (sym last.digests) (sym first.digests);
    }

-- ---- two logs of one run

abbrev IsHidden : Step → Type 0
IsHidden step = is_shown step.reply.answer ≡ false

-- no answer but the last is an exhibit
abbrev AreHidden : List Step → Type 0
AreHidden [] = ⊤
AreHidden (step ∷ []) = ⊤
AreHidden (step ∷ next ∷ steps) = IsHidden step × AreHidden (next ∷ steps)

all_hidden : (steps : List Step) → All IsHidden steps → AreHidden steps
all_hidden [] all = tt
all_hidden (step ∷ []) all = tt
all_hidden (step ∷ next ∷ steps) all =
    (All-head IsHidden step (next ∷ steps) all, all_hidden (next ∷ steps) (All-tail IsHidden step (next ∷ steps) all))

first_hidden : (first : List Step) (last : Step) → All IsHidden first → AreHidden (first ++ last ∷ [])
first_hidden [] last all = tt
first_hidden (step ∷ []) last all = (All-head IsHidden step [] all, tt)
first_hidden (step ∷ next ∷ steps) last all =
    (All-head IsHidden step (next ∷ steps) all, first_hidden (next ∷ steps) last (All-tail IsHidden step (next ∷ steps) all))

module _ (setup : Setup) where
  hidden_by : (stop : Stop) (trace : List ℕ) (left : Option (List ℕ)) (steps : List Step) → IsOfTrace stop → Ends setup stop trace left steps
      → AreHidden steps
  hidden_by Finished trace left steps calm ends = all_hidden steps ends.run.none_shown
  hidden_by Memory trace left steps calm ends = absurd (calm.had_memory refl)
  hidden_by Words trace left steps calm ends = absurd ends
  hidden_by ReadFault trace left steps calm ends = absurd (calm.pulled refl)
  hidden_by WriteFault trace left steps calm ends = absurd (calm.pushed refl)
  hidden_by (Refused number kind) trace left steps calm ends = all_hidden steps ends.run.none_shown
  hidden_by Shown trace left steps calm ends =
      subst (λ (xs : List Step). AreHidden xs) (sym ends.all) (first_hidden ends.first ends.last ends.run.none_shown)
  hidden_by TooManyLines trace left steps calm ends = all_hidden steps ends.front.run.none_shown

  -- behind the first step there is no other, or its answer is no exhibit
  behind : (x : LoggedStep) (a b : WorldState) (xs ys : List LoggedStep) → steps_logged xs ≡ steps_logged ys
      → AreHidden (x.step ∷ steps_logged xs) → (IsHidden x.step → AreRunning setup a b)
      → (AreRunning setup a b → AreHidden (steps_logged xs) → xs ≡ ys) → xs ≡ ys
  behind x a b [] [] same hidden running on = refl
  behind x a b [] (y ∷ ys) same hidden running on = absurd (cc (same))
  behind x a b (next ∷ xs) ys same hidden running on = on (running hidden.0) hidden.1

  one_log : (a b last end : WorldState) (xs ys : List LoggedStep) → AreRunning setup a b → AreHidden (steps_logged xs)
      → steps_logged xs ≡ steps_logged ys → AreTold setup a xs last → AreTold setup b ys end → xs ≡ ys
  one_log a b last end [] [] running hidden same told others = refl
  one_log a b last end [] (y ∷ ys) running hidden same told others = absurd (cc (same))
  one_log a b last end (x ∷ xs) [] running hidden same told others = absurd (cc (same))
  one_log a b last end (x ∷ xs) (y ∷ ys) running hidden same (next, went, told, more) (after, gone, its, others) =
      let step : x.step ≡ y.step = cc (same) in
      let rest : steps_logged xs ≡ steps_logged ys = cc (same) in
      let stepped : HasStepped setup b x.step.command y.step.reply after =
      subst (λ (s : Step). HasStepped setup b s.command y.step.reply after) (sym step) gone.stepped in
      let both =
      steps_alike setup a b next after x.step.command x.step.reply y.step.reply running.whole running.alike
      (running.alike.state running.unshown) went.stepped stepped in
      let its_told = told_over a next b after y running.alike.parts both.1.parts its in
      let alike = told_alike a next x y step told its_told in
      let later : IsHidden x.step → AreRunning setup next after =
      λ unshown. record { whole = went.stepped.holds unshown; alike = both.1; unshown = went.stepped.shown ∙ unshown } in
      let on =
      behind x next after xs ys rest hidden later (λ runs hides. one_log next after last end xs ys runs hides rest more others) in
      ap₂ (λ (z : LoggedStep) (zs : List LoggedStep). z ∷ zs) alike on

  -- but for want of memory a run ends as one without a log
  plain_ends : (stop : Stop) (trace : List ℕ) (left : Option (List ℕ)) (steps : List Step) → stop ≢ Memory
      → LoggedEnds setup stop trace left steps → Ends setup stop trace left steps
  plain_ends Memory trace left steps had ends = absurd (had refl)
  plain_ends stop trace left steps had ends = ends

  told_from : (stop : Stop) (xs : List LoggedStep) → stop ≢ Memory → IsReplayedTold setup stop xs
      → (first last : WorldState) × IsFirstWorld setup first × AreTold setup first xs last
  told_from stop xs had (inl none) = absurd (had none.0)
  told_from stop xs had (inr found) = found

  -- runs of one trace come to one stop, with one log
  pub logs_alike : (trace : List ℕ) (stop other : Stop) (left rest : Option (List ℕ)) (xs ys : List LoggedStep) → IsOfTrace stop → IsOfTrace other
      → LoggedEnds setup stop trace left (steps_logged xs) → LoggedEnds setup other trace rest (steps_logged ys)
      → IsReplayedTold setup stop xs → IsReplayedTold setup other ys
      → (stop ≡ other) × (xs ≡ ys)
  logs_alike trace stop other left rest xs ys calm quiet ends finishes replayed run =
      let plain = plain_ends stop trace left (steps_logged xs) calm.had_memory ends in
      let same =
      replays_alike setup trace stop other left rest (steps_logged xs) (steps_logged ys) calm quiet plain
      (plain_ends other trace rest (steps_logged ys) quiet.had_memory finishes) (replayed_plain setup stop xs replayed)
      (replayed_plain setup other ys run) in
      let a = told_from stop xs calm.had_memory replayed in
      let b = told_from other ys quiet.had_memory run in
      let hidden = hidden_by stop trace left (steps_logged xs) calm plain in
      (same.0, one_log a.0 b.0 a.1 b.1 xs ys (begun setup a.0 b.0 a.2 b.2) hidden same.1 a.3 b.3)

  -- ---- a run that was broken off

  -- behind the first step there is no other of the front, or its answer is no exhibit
  front_behind : (x : LoggedStep) (a b : WorldState) (xs ys : List LoggedStep) → AreHidden (x.step ∷ steps_logged xs) → (IsHidden x.step → AreRunning setup a b)
      → (AreRunning setup a b → AreHidden (steps_logged xs) → (rest : List LoggedStep) × (ys ≡ xs ++ rest)) → (rest : List LoggedStep) × (ys ≡ xs ++ rest)
  front_behind x a b [] ys hidden running on = (ys, refl)
  front_behind x a b (next ∷ xs) ys hidden running on = on (running hidden.0) hidden.1

  -- steps that are a front of others have a log that is a front of theirs
  front_log : (a b last end : WorldState) (xs ys : List LoggedStep) (more : List Step) → AreRunning setup a b → AreHidden (steps_logged xs)
      → steps_logged ys ≡ steps_logged xs ++ more → AreTold setup a xs last → AreTold setup b ys end → (rest : List LoggedStep) × (ys ≡ xs ++ rest)
  front_log a b last end [] ys more running hidden same told others = (ys, refl)
  front_log a b last end (x ∷ xs) [] more running hidden same told others = absurd (cc (same))
  front_log a b last end (x ∷ xs) (y ∷ ys) more running hidden same (next, went, told, rest) (after, gone, its, others) =
      let second : y.step ≡ x.step = cc (same) in
      let step = sym second in
      let tail : steps_logged ys ≡ steps_logged xs ++ more = cc (same) in
      let stepped : HasStepped setup b x.step.command y.step.reply after =
      subst (λ (s : Step). HasStepped setup b s.command y.step.reply after) (sym step) gone.stepped in
      let both =
      steps_alike setup a b next after x.step.command x.step.reply y.step.reply running.whole running.alike
      (running.alike.state running.unshown) went.stepped stepped in
      let alike = told_alike a next x y step told (told_over a next b after y running.alike.parts both.1.parts its) in
      let later : IsHidden x.step → AreRunning setup next after =
      λ unshown. record { whole = went.stepped.holds unshown; alike = both.1; unshown = went.stepped.shown ∙ unshown } in
      let on =
      front_behind x next after xs ys hidden later (λ runs hides. front_log next after last end xs ys more runs hides tail rest others) in
      (on.0, ap₂ (λ (z : LoggedStep) (zs : List LoggedStep). z ∷ zs) (sym alike) on.1)

  wanted_within : (state : PlainState) (served : ℕ) (lines : List (List ℕ)) → IsMemoryWantedLogged setup.shape state served lines → served ≤ line_limit
  wanted_within state served [] wanted = absurd wanted
  wanted_within state served (line ∷ lines) wanted = omega (arith, wanted.1)

  module _ (trace : List ℕ) (other : Stop) (left rest : Option (List ℕ)) (xs ys : List LoggedStep) (quiet : IsOfTrace other)
      (finishes : LoggedEnds setup other trace rest (steps_logged ys)) (run : IsReplayedTold setup other ys) where
    others_end : Ends setup other trace rest (steps_logged ys)
    others_end = plain_ends other trace rest (steps_logged ys) quiet.had_memory finishes

    -- the front of the steps is one of the log
    logged_front : (stop : Stop) → AreHidden (steps_logged xs) → IsReplayedTold setup stop xs → IsFrontRun stop other (steps_logged xs) (steps_logged ys)
        → IsFrontRun stop other xs ys
    logged_front stop hidden (inl none) (inl same) = absurd (quiet.had_memory (sym same.0 ∙ none.0))
    logged_front stop hidden (inl none) (inr (broken, more, cut)) = inr (broken, ys, ap (λ (zs : List LoggedStep). zs ++ ys) (sym none.1))
    logged_front stop hidden (inr a) (inl same) =
        let b = told_from other ys quiet.had_memory run in
        inl (same.0, one_log a.0 b.0 a.1 b.1 xs ys (begun setup a.0 b.0 a.2 b.2) hidden same.1 a.3 b.3)
    logged_front stop hidden (inr a) (inr (broken, more, cut)) =
        let b = told_from other ys quiet.had_memory run in
        let front = front_log a.0 b.0 a.1 b.1 xs ys more (begun setup a.0 b.0 a.2 b.2) hidden cut a.3 b.3 in
        inr (broken, front.0, front.1)

    plain_front : (stop : Stop) → Ends setup stop trace left (steps_logged xs) → AreHidden (steps_logged xs) → IsReplayedTold setup stop xs
        → IsFrontRun stop other xs ys
    plain_front stop ends hidden replayed =
        logged_front stop hidden replayed
        (replays_front setup trace other left rest (steps_logged xs) (steps_logged ys) quiet others_end (replayed_plain setup other ys run) stop ends
        (replayed_plain setup stop xs replayed))

    calm_front : (stop : Stop) → IsOfTrace stop → Ends setup stop trace left (steps_logged xs) → IsReplayedTold setup stop xs → IsFrontRun stop other xs ys
    calm_front stop calm ends replayed = plain_front stop ends (hidden_by stop trace left (steps_logged xs) calm ends) replayed

    pub logs_front : (stop : Stop) → LoggedEnds setup stop trace left (steps_logged xs) → IsReplayedTold setup stop xs → IsFrontRun stop other xs ys
    logs_front Finished ends replayed = calm_front Finished (record { had_memory = λ is. cc; pulled = λ is. cc; pushed = λ is. cc }) ends replayed
    logs_front Memory ends replayed =
        logged_front Memory (all_hidden (steps_logged xs) ends.front.run.none_shown) replayed
        (fronted setup trace other left rest (steps_logged xs) (steps_logged ys) quiet others_end (replayed_plain setup other ys run) Memory ends.front.before
        ends.front.behind (inl refl) ends.front.cut
        (elim ends.wanting [ inl none ↦ omega (arith, none.0) | inr wanted ↦ wanted_within (machine_after_all setup (start setup) (steps_logged xs)).state (length ends.front.before) ends.front.behind wanted ]) ends.front.run
        (replayed_plain setup Memory xs replayed))
    logs_front Words ends replayed = absurd ends
    logs_front ReadFault ends replayed = plain_front ReadFault ends (all_hidden (steps_logged xs) ends.run.none_shown) replayed
    logs_front WriteFault (inl ends) replayed = plain_front WriteFault (inl ends) (all_hidden (steps_logged xs) ends.front.run.none_shown) replayed
    logs_front WriteFault (inr ends) replayed =
        plain_front WriteFault (inr ends)
        (subst (λ (zs : List Step). AreHidden zs) (sym ends.all) (first_hidden ends.first ends.last ends.run.none_shown)) replayed
    logs_front (Refused number kind) ends replayed =
        calm_front (Refused number kind) (record { had_memory = λ is. cc; pulled = λ is. cc; pushed = λ is. cc }) ends replayed
    logs_front Shown ends replayed = calm_front Shown (record { had_memory = λ is. cc; pulled = λ is. cc; pushed = λ is. cc }) ends replayed
    logs_front TooManyLines ends replayed = calm_front TooManyLines (record { had_memory = λ is. cc; pulled = λ is. cc; pushed = λ is. cc }) ends replayed
