-- Two runs of the same commands from states that are alike come to one stop, by the same steps, where a command has one
-- reply in states that are alike and leaves such states.
use Rattle.std.proofs.Common.{◌≡◌, ◌∙◌, ◌+◌, ◌<◌, ◌≤◌, ℕ, true, false, List, [], ◌∷◌, ◌++◌, length, refl, sym, ap, ap₂, subst, inl, inr, arith}
use Rattle.std.specs.Prelude.{◌⊎◌, All, IsOk, map, None, Some, Ok, Err}
use Rattle.std.specs.List.{flat_map}
use Rattle.std.proofs.lemmas.Bool.{true≢false}
use Rattle.std.proofs.lemmas.List.Elements.{All-head, All-tail}
use Rattle.pmem_base.specs.declared.commands.Command.{Command}
use Rattle.pmem_base.specs.declared.commands.Kind.{Kind}
use Rattle.plain_model.specs.declared.Stop.{Stop}
use Rattle.plain_model.specs.declared.Stop.TheVariants.{Finished, Refused, Shown, TooManyLines}
use Rattle.plain_model.specs.Answers.{is_shown}
use Rattle.plain_model.specs.Grammar.{Reading}
use Rattle.plain_model.specs.Run.{Step, commands_asked}
use Rattle.plain_model.specs.State.{Reply}

-- what was asked and replied
abbrev pub told : Command → Reply → Step
told command reply = record { command = command; reply = reply }

-- the commands of what was read
abbrev pub asked_by : List Reading → List Command
asked_by readings = flat_map commands_asked readings

-- how the run of what follows stops: from the state that it begins with, by these steps
abbrev Later : Type 0 → Type 1
Later S = S → Stop → List Step → Type 0

module _ {S : Type 0} (stepped : S → Command → Reply → S → Type 0) (limit : ℕ) where
  -- ---- where a run stops

  -- at a line that reads so, behind so many others
  abbrev pub StopsAt : S → ℕ → Later S → Reading → Stop → List Step → Type 0
  StopsAt state served later (Err kind) stop steps = (stop ≡ Refused (served + 1) kind) × (steps ≡ [])
  StopsAt state served later (Ok None) stop steps = later state stop steps
  StopsAt state served later (Ok (Some command)) stop steps =
      (reply : Reply) × (next : S) × stepped state command reply next
      × (((is_shown reply.answer ≡ true) × (stop ≡ Shown) × (steps ≡ told command reply ∷ []))
      ⊎ ((is_shown reply.answer ≡ false) × (rest : List Step) × (steps ≡ told command reply ∷ rest) × later next stop rest))

  -- behind so many lines, at the limit or by the lines that follow
  abbrev pub Stops : S → ℕ → List Reading → Stop → List Step → Type 0
  Stops state served [] stop steps = (stop ≡ Finished) × (steps ≡ [])
  Stops state served (reading ∷ readings) stop steps =
      ((served ≡ limit) × (stop ≡ TooManyLines) × (steps ≡ []))
      ⊎ ((served < limit) × StopsAt state served (λ next its rest. Stops next (served + 1) readings its rest) reading stop steps)

  -- ---- a front of lines, and then how the run stops

  abbrev pub Chain : S → List Step → S → Type 0
  Chain state [] last = last ≡ state
  Chain state (step ∷ steps) last = (next : S) × stepped state step.command step.reply next × Chain next steps last

  -- these commands were answered, each in the state that the ones before it left, and none by an exhibit
  pub record AreRun (state : S) (commands : List Command) (steps : List Step) (last : S) : Type 0 where
    pub in_order : map (λ (step : Step). step.command) steps ≡ commands
    pub hidden : All (λ (step : Step). is_shown step.reply.answer ≡ false) steps
    pub chain : Chain state steps last

  no_step : (steps : List Step) → map (λ (step : Step). step.command) steps ≡ [] → steps ≡ []
  no_step [] none = refl
  no_step (step ∷ steps) none = absurd cc

  -- from the state behind the first step on
  rest_of : (state last : S) (command : Command) (commands : List Command) (step : Step) (steps : List Step)
      → (run : AreRun state (command ∷ commands) (step ∷ steps) last)
      → (step.command ≡ command) × AreRun run.chain.0 commands steps last
  rest_of state last command commands step steps run =
      let order = run.in_order in
      let first : step.command ≡ command = cc (order) in
      let others : map (λ (step : Step). step.command) steps ≡ commands = cc (order) in (
        first,
        record {
          in_order = others;
          hidden = All-tail (λ (step : Step). is_shown step.reply.answer ≡ false) step steps run.hidden;
          chain = run.chain.2;
        },
      )

  past_line : (state last : S) (served : ℕ) (later : Later S) (reading : Reading) (commands : List Command) (steps tail : List Step) (stop : Stop)
      → IsOk reading → ((next : S) (others : List Step) → AreRun next commands others last → later next stop (others ++ tail))
      → AreRun state (commands_asked reading ++ commands) steps last → StopsAt state served later reading stop (steps ++ tail)
  past_line state last served later (Err kind) commands steps tail stop ok on run = absurd (true≢false (sym ok))
  past_line state last served later (Ok None) commands steps tail stop ok on run = on state steps run
  past_line state last served later (Ok (Some command)) commands [] tail stop ok on run = let order = run.in_order in absurd (cc (order))
  past_line state last served later (Ok (Some command)) commands (step ∷ steps) tail stop ok on run =
      let rest = rest_of state last command commands step steps run in
      let next = run.chain.0 in (
        step.reply,
        next,
        subst (λ (c : Command). stepped state c step.reply next) rest.0 run.chain.1,
        inr (
          All-head (λ (step : Step). is_shown step.reply.answer ≡ false) step steps run.hidden,
          steps ++ tail,
          ap (λ (c : Command). told c step.reply ∷ (steps ++ tail)) rest.0,
          on next steps rest.1,
        ),
      )

  pub past_front : (state last : S) (served now : ℕ) (before behind : List Reading) (steps tail : List Step) (stop : Stop)
      → now ≡ served + length before → now ≤ limit → All IsOk before → AreRun state (asked_by before) steps last
      → Stops last now behind stop tail → Stops state served (before ++ behind) stop (steps ++ tail)
  past_front state last served now [] behind steps tail stop count within ok run stops =
      let same : now ≡ served = omega (arith, count) in
      let none = no_step steps run.in_order in
      let at : last ≡ state = subst (λ (xs : List Step). Chain state xs last) none run.chain in
      subst (λ (xs : List Step). Stops state served behind stop (xs ++ tail)) (sym none)
      (subst (λ (w : S). Stops w served behind stop tail) at (subst (λ n. Stops last n behind stop tail) same stops))
  past_front state last served now (reading ∷ before) behind steps tail stop count within ok run stops =
      inr (
        omega (arith, count, within),
        past_line state last served (λ next its rest. Stops next (served + 1) (before ++ behind) its rest) reading (asked_by before) steps tail stop
            (All-head IsOk reading before ok)
            (λ next others more.
            past_front next last (served + 1) now before behind others tail stop (omega (arith, count)) within (All-tail IsOk reading before ok) more stops)
            run,
      )

  -- ---- why it stops

  pub refused_here : (state : S) (now number : ℕ) (reading : Reading) (behind : List Reading) (kind : Kind) → reading ≡ Err kind
      → number ≡ now + 1 → now < limit → Stops state now (reading ∷ behind) (Refused number kind) []
  refused_here state now number reading behind kind reads numbered within =
      inr (
        within,
        subst (λ (r : Reading). StopsAt state now (λ next its rest. Stops next (now + 1) behind its rest) r (Refused number kind) []) (sym reads)
            (ap (λ (n : ℕ). Refused n kind) numbered, refl),
      )

  pub shown_here : (state next : S) (now : ℕ) (reading : Reading) (behind : List Reading) (step : Step) → reading ≡ Ok (Some step.command)
      → stepped state step.command step.reply next → is_shown step.reply.answer ≡ true → now < limit
      → Stops state now (reading ∷ behind) Shown (step ∷ [])
  shown_here state next now reading behind step reads went shown within =
      inr (
        within,
        subst (λ (r : Reading). StopsAt state now (λ next its rest. Stops next (now + 1) behind its rest) r Shown (step ∷ [])) (sym reads)
            (step.reply, next, went, inl (shown, refl, refl)),
      )

  pub cut_off_here : (state : S) (now : ℕ) (behind : List Reading) → now ≡ limit → 0 < length behind → Stops state now behind TooManyLines []
  cut_off_here state now [] full more = absurd (omega (arith, more))
  cut_off_here state now (reading ∷ behind) full more = inl (full, refl, refl)

  -- ---- two runs

  abbrev AreOne : Stop → Stop → List Step → List Step → Type 0
  AreOne stop other steps more = (stop ≡ other) × (steps ≡ more)

  module _ (alike : S → S → Type 0)
      (one_reply : (a b next after : S) (command : Command) (reply another : Reply) → alike a b → stepped a command reply next → stepped b command another after
      → (reply ≡ another) × (is_shown reply.answer ≡ false → alike next after)) where
    -- whatever follows stops in one way
    abbrev StopInOneWay : Later S → Type 0
    StopInOneWay later = (a b : S) (stop other : Stop) (steps more : List Step) → alike a b → later a stop steps → later b other more → AreOne stop other steps more

    one_at : (a b : S) (served : ℕ) (later : Later S) (reading : Reading) (stop other : Stop) (steps more : List Step) → StopInOneWay later → alike a b
        → StopsAt a served later reading stop steps → StopsAt b served later reading other more → AreOne stop other steps more
    one_at a b served later (Err kind) stop other steps more one same it its = (it.0 ∙ sym its.0, it.1 ∙ sym its.1)
    one_at a b served later (Ok None) stop other steps more one same it its = one a b stop other steps more same it its
    one_at a b served later (Ok (Some command)) stop other steps more one same (reply, next, went, ends) (another, after, gone, finishes) = by_ends ends finishes
      where
        both : (reply ≡ another) × (is_shown reply.answer ≡ false → alike next after)
        both = one_reply a b next after command reply another same went gone

        by_ends : ((is_shown reply.answer ≡ true) × (stop ≡ Shown) × (steps ≡ told command reply ∷ []))
            ⊎ ((is_shown reply.answer ≡ false) × (rest : List Step) × (steps ≡ told command reply ∷ rest) × later next stop rest)
            → ((is_shown another.answer ≡ true) × (other ≡ Shown) × (more ≡ told command another ∷ []))
            ⊎ ((is_shown another.answer ≡ false) × (rest : List Step) × (more ≡ told command another ∷ rest) × later after other rest)
            → AreOne stop other steps more
        by_ends (inl (shown, is, all)) (inl (shown_too, its, others)) = (is ∙ sym its, all ∙ ap (λ (r : Reply). told command r ∷ []) both.0 ∙ sym others)
        by_ends (inl (shown, is, all)) (inr (hidden, rest, others, on)) =
            absurd (true≢false (sym shown ∙ ap (λ (r : Reply). is_shown r.answer) both.0 ∙ hidden))
        by_ends (inr (hidden, rest, all, on)) (inl (shown, its, others)) =
            absurd (true≢false (sym shown ∙ ap (λ (r : Reply). is_shown r.answer) (sym both.0) ∙ hidden))
        by_ends (inr (hidden, rest, all, on)) (inr (hidden_too, further, others, its_on)) =
            let then = one next after stop other rest further (both.1 hidden) on its_on in
            (then.0, all ∙ ap₂ (λ (r : Reply) (xs : List Step). told command r ∷ xs) both.0 then.1 ∙ sym others)

    pub stops_alike : (served : ℕ) (readings : List Reading) → StopInOneWay (λ state stop steps. Stops state served readings stop steps)
    stops_alike served [] a b stop other steps more same it its = (it.0 ∙ sym its.0, it.1 ∙ sym its.1)
    stops_alike served (reading ∷ readings) a b stop other steps more same (inl it) (inl its) = (it.1 ∙ sym its.1, it.2 ∙ sym its.2)
    stops_alike served (reading ∷ readings) a b stop other steps more same (inl it) (inr its) = absurd (omega (arith, it.0, its.0))
    stops_alike served (reading ∷ readings) a b stop other steps more same (inr it) (inl its) = absurd (omega (arith, it.0, its.0))
    stops_alike served (reading ∷ readings) a b stop other steps more same (inr it) (inr its) =
        one_at a b served (λ next its rest. Stops next (served + 1) readings its rest) reading stop other steps more (stops_alike (served + 1) readings) same
        it.1 its.1

    -- a front of what is asked is answered alike, and its steps are a front of all steps
    front_at : (served : ℕ) (before behind : List Reading) (b last : S) (other : Stop) (a : S) (more : List Step) (reading : Reading) (steps : List Step)
        → ((a b : S) (steps more : List Step) → alike a b → AreRun a (asked_by before) steps last → Stops b (served + 1) (before ++ behind) other more
        → (rest : List Step) × (more ≡ steps ++ rest))
        → alike a b → IsOk reading → AreRun a (commands_asked reading ++ asked_by before) steps last
        → StopsAt b served (λ next its rest. Stops next (served + 1) (before ++ behind) its rest) reading other more → (rest : List Step) × (more ≡ steps ++ rest)
    front_at served before behind b last other a more (Err kind) steps on same ok run at = absurd (true≢false (sym ok))
    front_at served before behind b last other a more (Ok None) steps on same ok run at = on a b steps more same run at
    front_at served before behind b last other a more (Ok (Some command)) [] on same ok run at = let order = run.in_order in absurd (cc (order))
    front_at served before behind b last other a more (Ok (Some command)) (step ∷ steps) on same ok run (another, after, gone, ends) =
        let rest = rest_of a last command (asked_by before) step steps run in
        let hidden = All-head (λ (step : Step). is_shown step.reply.answer ≡ false) step steps run.hidden in
        let went = subst (λ (c : Command). stepped a c step.reply run.chain.0) rest.0 run.chain.1 in
        let both = one_reply a b run.chain.0 after command step.reply another same went gone in
        elim ends [
          | inl shown ↦ absurd (true≢false (sym shown.0 ∙ ap (λ (r : Reply). is_shown r.answer) (sym both.0) ∙ hidden))
          | inr its ↦
              let further = on run.chain.0 after steps its.1 (both.1 hidden) rest.1 its.3 in (
                further.0,
                its.2 ∙ ap₂ (λ (c : Command) (r : Reply). told c r ∷ its.1) (sym rest.0) (sym both.0) ∙ ap (λ (xs : List Step). step ∷ xs) further.1,
              )
        ]

    pub front_alike : (served : ℕ) (before behind : List Reading) (last : S) (other : Stop) → All IsOk before → served + length before ≤ limit
        → (a b : S) (steps more : List Step) → alike a b → AreRun a (asked_by before) steps last → Stops b served (before ++ behind) other more
        → (rest : List Step) × (more ≡ steps ++ rest)
    front_alike served [] behind last other ok within a b steps more same run its = (more, ap (λ (xs : List Step). xs ++ more) (sym (no_step steps run.in_order)))
    front_alike served (reading ∷ before) behind last other ok within a b steps more same run (inl full) = absurd (omega (arith, full.0, within))
    front_alike served (reading ∷ before) behind last other ok within a b steps more same run (inr (room, at)) =
        front_at served before behind b last other a more reading steps
        (front_alike (served + 1) before behind last other (All-tail IsOk reading before ok) (omega (arith, within))) same (All-head IsOk reading before ok) run
        at
