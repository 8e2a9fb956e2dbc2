-- Where nothing was tampered with, no reply is a refusal, and an exhibit is a twin.
use Rattle.std.proofs.Common.{rules, ◌≡◌, ◌∙◌, ◌+◌, ◌<◌, ℕ, zero, suc, Bool, true, false, List, [], ◌∷◌, length, refl, sym, ap, subst, arith, inl, inr}
use Rattle.std.specs.Prelude.{◌⊎◌, ◌&&◌, ◌||◌, All, IsTrue, MatchOption, IfSome, Option, None, Some, unwrap_or, nat_lt, nat_le, if◌then◌else◌}
use Rattle.std.proofs.lemmas.Bool.{true≢false, and_parts, ltb-true}
use Rattle.std.proofs.lemmas.List.{length-set, length-replicate}
use Rattle.std.proofs.lemmas.List.Elements.{All-cons, All-nil}
use Rattle.pmem_base.specs.declared.commands.Posted.{Posted}
use Rattle.pmem_base.specs.declared.commands.Command.{Command}
use Rattle.pmem_base.specs.declared.commands.Command.TheVariants as Do
use Rattle.pmem_base.specs.declared.answers.Mark.{Mark}
use Rattle.pmem_base.specs.declared.answers.Mark.TheVariants.{Begin, Seal}
use Rattle.pmem_base.specs.declared.answers.Answer.{Answer}
use Rattle.pmem_base.specs.declared.answers.Answer.TheVariants as Say
use Rattle.pmem_base.specs.declared.answers.Exhibit.{Exhibit}
use Rattle.pmem_base.specs.declared.answers.Exhibit.TheVariants.{Clash, Forged, Twin}
use Rattle.pmem_base.specs.declared.answers.Place.{Place}
use Rattle.pmem_base.specs.Shape.{Shape}
use Rattle.pmem_base.specs.Layout as layout
use Rattle.pmem_base.specs.Layout.{page_of}
use Rattle.pmem_base.specs.WaitingWrites.{queue_of}
use Rattle.pmem_replay.proofs.Marks.AfterMarks.{unflagged}
use Rattle.bonsai_tree.specs.Positions.{is_on_path, counter_position}
use Rattle.suite.specs.Setup.{Setup}
use Rattle.plain_model.specs.State.{PlainState, Reply, no_flags, is_flagged, has_flags, with_flag, without_flag, start_state}
use Rattle.plain_model.specs.View.{DeviceView}
use Rattle.plain_model.specs.After.{after_front, after_drain, after_drains, without_front, after_drop, after_writes, after_flush, after_on, after_command, after_steps, after_mark, after_marks, state_after, is_cut}
use Rattle.plain_model.specs.Answers.{is_on_device, decided_answer}
use Rattle.plain_model.specs.Legal.{state_at_turn, line_at_turn, IsRefusalCaused, MayDiffer, IsEngineLegal}
use Rattle.plain_model.specs.Shown.{IsEngineReply, IsShownAnswer, IsShownInRun, IsLegal}
use Rattle.plain_model.specs.Run.{Machine, Step, start, machine_after, machine_after_all, IsAnswered, AreAnswered}
use Rattle.pmem_cli.proofs.ShownLemmas.{IsTabled, tabled-decided}
use Rattle.pmem_cli.specs.Untampered.{IsTwinShown, IsUnrefusedAnswer, IsUntampered}

-- ---- flags

none_flagged : (flags : List Bool) (n : ℕ) → has_flags flags ≡ false → is_flagged flags n ≡ false
none_flagged [] n none = refl
none_flagged (true ∷ flags) n none = absurd (true≢false none)
none_flagged (false ∷ flags) zero none = refl
none_flagged (false ∷ flags) (suc n) none = none_flagged flags n none

cleared : (flags : List Bool) (n a : ℕ) → is_flagged flags a ≡ false → is_flagged (without_flag flags n) a ≡ false
cleared [] n a is = is
cleared (flag ∷ flags) zero zero is = refl
cleared (flag ∷ flags) zero (suc a) is = is
cleared (flag ∷ flags) (suc n) zero is = is
cleared (flag ∷ flags) (suc n) (suc a) is = cleared flags n a is

any_more : (flag : Bool) (flags : List Bool) → has_flags flags ≡ true → has_flags (flag ∷ flags) ≡ true
any_more true flags some = refl
any_more false flags some = some

some_flag : (flags : List Bool) (n : ℕ) → n < length flags → has_flags (with_flag flags n) ≡ true
some_flag [] n inside = absurd (omega (arith, inside))
some_flag (flag ∷ flags) zero inside = refl
some_flag (flag ∷ flags) (suc n) inside = any_more flag (with_flag flags n) (some_flag flags n (omega (arith, inside)))

-- ---- a state without tampering

pub record IsClean (s : PlainState) : Type 0 where
  pub named : has_flags s.named ≡ false
  pub hurt : (a : ℕ) → is_flagged s.hurt a ≡ false
  pub loose : s.loose ≡ false

-- no tampering came between two states
pub record IsQuiet (s t : PlainState) : Type 0 where
  pub named : t.named ≡ s.named
  pub hurt : (a : ℕ) → is_flagged s.hurt a ≡ false → is_flagged t.hurt a ≡ false
  pub loose : has_flags s.named ≡ false → s.loose ≡ false → t.loose ≡ false

-- a device line was tampered with
pub record IsTampered (s t : PlainState) : Type 0 where
  pub place : ℕ
  pub inside : place < length s.named
  pub named : t.named ≡ with_flag s.named place

abbrev Moves : PlainState → PlainState → Type 0
Moves s t = IsQuiet s t ⊎ IsTampered s t

quiet-refl : (s : PlainState) → IsQuiet s s
quiet-refl s = record { named = refl; hurt = λ a is. is; loose = λ none is. is }

quiet-trans : (s t u : PlainState) → IsQuiet s t → IsQuiet t u → IsQuiet s u
quiet-trans s t u first second = search rules

clean-quiet : (s t : PlainState) → IsQuiet s t → IsClean s → IsClean t
clean-quiet s t quiet clean = search rules

moves-quiet : (s t u : PlainState) → Moves s t → IsQuiet t u → Moves s u
moves-quiet s t u moved quiet = search rules

quiet_if : (b : Bool) (s t u : PlainState) → IsQuiet s t → IsQuiet s u → IsQuiet s (if b then t else u)
quiet_if true s t u first second = first
quiet_if false s t u first second = second

-- ---- marks and steps

quiet-mark : (g : Shape) (s : PlainState) (mark : Mark) → IsQuiet s (after_mark g s mark)
quiet-mark g s (Begin page) = record { named = refl; hurt = λ a is. is; loose = λ none is. is }
quiet-mark g s (Seal at ctr cipher tag) = quiet_if (nat_lt 0 ctr.minor) s _ _ (record { named = refl; hurt = λ a is. is; loose = λ none is. is }) (quiet-refl s)

quiet-marks : (g : Shape) (s : PlainState) (marks : List Mark) → IsQuiet s (after_marks g s marks)
quiet-marks g s [] = quiet-refl s
quiet-marks g s (mark ∷ marks) = quiet-trans s (after_mark g s mark) (after_marks g (after_mark g s mark) marks) (quiet-mark g s mark) (quiet-marks g (after_mark g s mark) marks)

quiet-steps : (g : Shape) (s : PlainState) (answer : Answer) → IsQuiet s (after_steps g s answer)
quiet-steps g s answer =
    quiet_if (is_cut answer) s _ _ (record { named = refl; hurt = λ a is. is; loose = λ none is. is }) (record { named = refl; hurt = λ a is. is; loose = λ none is. is })

-- ---- drains

quiet-front : (s : PlainState) (port : ℕ) (queue : List Posted) → IsQuiet s (after_front s port queue)
quiet-front s port [] = quiet-refl s
quiet-front s port (write ∷ later) = record { named = refl; hurt = λ a is. cleared s.hurt write.at a is; loose = λ none is. is }

quiet-drains : (s : PlainState) (port n : ℕ) → IsQuiet s (after_drains s port n)
quiet-drains s port zero = quiet-refl s
quiet-drains s port (suc n) =
    quiet-trans s (after_drain s port) (after_drains (after_drain s port) port n) (quiet-front s port (queue_of s.queues port)) (quiet-drains (after_drain s port) port n)

quiet-dropped : (s : PlainState) (port : ℕ) (queue : List Posted) → IsQuiet s (without_front s port queue)
quiet-dropped s port [] = quiet-refl s
quiet-dropped s port (write ∷ later) = record { named = refl; hurt = λ a is. is; loose = λ none is. is }

quiet-drains_drop : (s : PlainState) (port n : ℕ) → IsQuiet s (after_drop (after_drains s port n) port)
quiet-drains_drop s port n =
    let t = after_drains s port n in
    quiet-trans s t (after_drop t port) (quiet-drains s port n) (quiet-dropped t port (queue_of t.queues port))

quiet-writes : (s : PlainState) (port : ℕ) (answer : Answer) → IsQuiet s (after_writes s port answer)
quiet-writes s port (Say.Drained steps) = quiet-front s port (queue_of s.queues port)
quiet-writes s port (Say.Fenced drained steps) = quiet-drains s port drained
quiet-writes s port (Say.CutKept drained steps) = quiet-drains s port (unwrap_or drained 0 + 1)
quiet-writes s port (Say.CutLost drained steps) = quiet-drains s port (unwrap_or drained 0)
quiet-writes s port (Say.Refused drained place steps) = quiet-drains_drop s port (unwrap_or drained 0)
quiet-writes s port (Say.Spent drained page steps) = quiet-drains_drop s port (unwrap_or drained 0)
quiet-writes s port answer = quiet-refl s

quiet-turn : (s : PlainState) (command : Command) (n : ℕ) → IsQuiet s (state_at_turn s command n)
quiet-turn s (Do.Fence port) n = quiet-drains s port n
quiet-turn s command n = quiet-refl s

-- ---- commands

same_flags : (s t : PlainState) → t.named ≡ s.named → t.hurt ≡ s.hurt → t.loose ≡ s.loose → IsQuiet s t
same_flags s t named hurt loose = record { named = named; hurt = λ a is. ap (λ flags. is_flagged flags a) hurt ∙ is; loose = λ none is. loose ∙ is }

quiet-flush : (g : Shape) (s : PlainState) (answer : Answer) → IsQuiet s (after_flush g s answer)
quiet-flush g s (Say.Flushed x steps) = same_flags s _ refl refl refl
quiet-flush g s Say.Clean = same_flags s _ refl refl refl
quiet-flush g s answer = quiet-refl s

loosened : (a b : Bool) → b ≡ false → a ≡ false → (a || b) ≡ false
loosened a b none is = rw (none, is) refl

quiet-on : (g : Shape) (s : PlainState) (answer : Answer) → IsQuiet s (after_on g s answer)
quiet-on g s (Say.Recovered trials digests steps) = record { named = refl; hurt = λ a is. is; loose = λ none is. loosened s.loose (has_flags s.named) none is }
quiet-on g s (Say.Cut steps) = record { named = refl; hurt = λ a is. is; loose = λ none is. loosened s.loose (has_flags s.named) none is }
quiet-on g s answer = quiet-refl s

quiet-post : (g : Shape) (s : PlainState) (port at : ℕ) (line : _) (answer : Answer) → IsQuiet s (after_command g s (Do.Post port at line) answer)
quiet-post g s port at line Say.Ok = same_flags s _ refl refl refl
quiet-post g s port at line answer = quiet-refl s

quiet-part : (g : Shape) (s : PlainState) (port at from count : ℕ) (line : _) (answer : Answer) → IsQuiet s (after_command g s (Do.Part port at from count line) answer)
quiet-part g s port at from count line Say.Ok = same_flags s _ refl refl refl
quiet-part g s port at from count line answer = quiet-refl s

quiet-cut : (g : Shape) (s : PlainState) (n : ℕ) (answer : Answer) → IsQuiet s (after_command g s (Do.Cut n) answer)
quiet-cut g s n Say.Ok = same_flags s _ refl refl refl
quiet-cut g s n answer = quiet-refl s

quiet-off : (g : Shape) (s : PlainState) (answer : Answer) → IsQuiet s (after_command g s Do.Off answer)
quiet-off g s Say.Ok = same_flags s _ refl refl refl
quiet-off g s answer = quiet-refl s

quiet-snap : (g : Shape) (s : PlainState) (answer : Answer) → IsQuiet s (after_command g s Do.Snap answer)
quiet-snap g s Say.Ok = same_flags s _ refl refl refl
quiet-snap g s answer = quiet-refl s

quiet-loss : (g : Shape) (s : PlainState) (n : ℕ) (answer : Answer) → IsQuiet s (after_command g s (Do.Loss n) answer)
quiet-loss g s n (Say.LossSet steps) = same_flags s _ refl refl refl
quiet-loss g s n answer = quiet-refl s

-- ---- tampering

moves-poke : (g : Shape) (s : PlainState) (d : ℕ) (line : _) (answer : Answer) → d < length s.named → Moves s (after_command g s (Do.Poke d line) answer)
moves-poke g s d line Say.Ok inside = inr (record { place = d; inside = inside; named = refl })
moves-poke g s d line answer inside = inl (quiet-refl s)

moves-flip : (g : Shape) (s : PlainState) (d bit : ℕ) (answer : Answer) → d < length s.named → Moves s (after_command g s (Do.Flip d bit) answer)
moves-flip g s d bit Say.Ok inside = inr (record { place = d; inside = inside; named = refl })
moves-flip g s d bit answer inside = inl (quiet-refl s)

moves-move : (g : Shape) (s : PlainState) (from to : ℕ) (answer : Answer) → to < length s.named → Moves s (after_command g s (Do.Move from to) answer)
moves-move g s from to Say.Ok inside = inr (record { place = to; inside = inside; named = refl })
moves-move g s from to answer inside = inl (quiet-refl s)

moves-back : (g : Shape) (s : PlainState) (d : ℕ) (answer : Answer) → d < length s.named → Moves s (after_command g s (Do.Back d) answer)
moves-back g s d Say.Ok inside = inr (record { place = d; inside = inside; named = refl })
moves-back g s d answer inside = inl (quiet-refl s)

-- a place on the device, or the answer is that it isn't one
placed : (b : Bool) (o : Option Answer) (answer : Answer) (X : Type 0) → MatchOption (if b then o else Some Say.Range) X (λ a. answer ≡ a) → (b ≡ true) ⊎ (answer ≡ Say.Range)
placed true o answer X legal = inl refl
placed false o answer X legal = inr legal

moves-command : (g : Shape) (s : PlainState) (command : Command) (answer : Answer) (X : Type 0) → length s.named ≡ layout.device_lines g
    → MatchOption (decided_answer g s command) X (λ a. answer ≡ a) → Moves s (after_command g s command answer)
moves-command g s (Do.Post port at line) answer X long legal = inl (quiet-post g s port at line answer)
moves-command g s (Do.Part port at from count line) answer X long legal = inl (quiet-part g s port at from count line answer)
moves-command g s (Do.Drain port) answer X long legal = inl (quiet-writes s port answer)
moves-command g s (Do.Fence port) answer X long legal = inl (quiet-writes s port answer)
moves-command g s (Do.Read port at) answer X long legal = inl (quiet-refl s)
moves-command g s Do.Turn answer X long legal = inl (quiet-refl s)
moves-command g s Do.Flush answer X long legal = inl (quiet-flush g s answer)
moves-command g s (Do.Cut n) answer X long legal = inl (quiet-cut g s n answer)
moves-command g s Do.Off answer X long legal = inl (quiet-off g s answer)
moves-command g s Do.On answer X long legal = inl (quiet-on g s answer)
moves-command g s (Do.Poke d line) answer X long legal =
    elim (placed (is_on_device g d) _ answer X legal) [
      | inl on ↦ moves-poke g s d line answer (omega (arith, ltb-true d (layout.device_lines g) on, long))
      | inr off ↦ inl (subst (λ a. IsQuiet s (after_command g s (Do.Poke d line) a)) (sym off) (quiet-refl s))
    ]
moves-command g s (Do.Flip d bit) answer X long legal =
    elim (placed (is_on_device g d && nat_le bit 511) _ answer X legal) [
      | inl on ↦ moves-flip g s d bit answer (omega (arith, ltb-true d (layout.device_lines g) (and_parts (is_on_device g d) (nat_le bit 511) on).0, long))
      | inr off ↦ inl (subst (λ a. IsQuiet s (after_command g s (Do.Flip d bit) a)) (sym off) (quiet-refl s))
    ]
moves-command g s (Do.Move from to) answer X long legal =
    elim (placed (is_on_device g from && is_on_device g to) _ answer X legal) [
      | inl on ↦ moves-move g s from to answer (omega (arith, ltb-true to (layout.device_lines g) (and_parts (is_on_device g from) (is_on_device g to) on).1, long))
      | inr off ↦ inl (subst (λ a. IsQuiet s (after_command g s (Do.Move from to) a)) (sym off) (quiet-refl s))
    ]
moves-command g s Do.Snap answer X long legal = inl (quiet-snap g s answer)
moves-command g s (Do.Back d) answer X long legal =
    elim (placed (is_on_device g d) _ answer X legal) [
      | inl on ↦ moves-back g s d answer (omega (arith, ltb-true d (layout.device_lines g) on, long))
      | inr off ↦ inl (subst (λ a. IsQuiet s (after_command g s (Do.Back d) a)) (sym off) (quiet-refl s))
    ]
moves-command g s (Do.Peek d) answer X long legal = inl (quiet-refl s)
moves-command g s Do.Stat answer X long legal = inl (quiet-refl s)
moves-command g s (Do.Loss n) answer X long legal = inl (quiet-loss g s n answer)

moves-after : (setup : Setup) (s : PlainState) (view : DeviceView) (command : Command) (reply : Reply) → length s.named ≡ layout.device_lines setup.shape
    → IsLegal setup s view command reply → Moves s (state_after setup.shape s command reply)
moves-after setup s view command reply long legal =
    let g = setup.shape in
    let t = after_command g s command reply.answer in
    let u = after_steps g t reply.answer in
    moves-quiet s u (after_marks g u reply.marks)
    (moves-quiet s t u (moves-command g s command reply.answer (IsEngineReply setup s view command reply) long legal) (quiet-steps g t reply.answer))
    (quiet-marks g u reply.marks)

-- ---- answers over a clean state

tabled-unrefused : (answer : Answer) → IsTabled answer → IsUnrefusedAnswer answer
tabled-unrefused v0 is = search rules

-- a refusal has a cause
no_refusal : (setup : Setup) (s : PlainState) (command : Command) (place : Place) → IsClean s → IsRefusalCaused setup s command place → ⊥
no_refusal setup s command (Place.Line b) clean caused = true≢false (sym caused.0 ∙ clean.hurt b)
no_refusal setup s command (Place.Meta x) clean caused = no_meta setup s (line_at_turn s command) x clean caused
  where
    no_meta : (setup : Setup) (s : PlainState) (line : Option ℕ) (x : ℕ) → IsClean s → MatchOption line ⊥ (λ a. IsTrue (is_on_path setup.shape (page_of a) x) × MayDiffer setup s x) → ⊥
    no_meta setup s None x clean caused = caused
    no_meta setup s (Some a) x clean caused =
        true≢false (sym caused.1 ∙ loosened (is_flagged s.named (layout.meta_line setup.shape x)) s.loose clean.loose (none_flagged s.named (layout.meta_line setup.shape x) clean.named))

refused-never : (setup : Setup) (s : PlainState) (view : DeviceView) (command : Command) (drained : Option ℕ) (place : Place) (steps : ℕ) → IsClean s
    → IsEngineLegal setup s view command (Say.Refused drained place steps) → ⊥
refused-never setup s view command drained place steps clean legal =
    let t = state_at_turn s command (unwrap_or drained 0) in
    no_refusal setup t command place (clean-quiet s t (quiet-turn s command (unwrap_or drained 0)) clean) legal.caused

shown-twin : (setup : Setup) (s : PlainState) (view : DeviceView) (command : Command) (marks : List Mark) (exhibit : Exhibit) → IsClean s
    → IsShownInRun setup s view command marks exhibit → IsTwinShown exhibit
shown-twin setup s view command marks (Clash x first second) clean shown =
    refused-never setup s view command shown.refusable.0 (Place.Meta x) 0 clean shown.refusable.1.legal
shown-twin setup s view command marks (Forged at ctr cipher tag) clean shown =
    refused-never setup s view command shown.refusable.0 (Place.Line at) 0 clean shown.refusable.1.legal
shown-twin setup s view command marks (Twin at major low high cipher tag) clean shown = tt

engine-unrefused : (setup : Setup) (s : PlainState) (view : DeviceView) (command : Command) (marks : List Mark) (answer : Answer) → IsClean s
    → IsEngineLegal setup s view command answer → IsShownAnswer setup s view command marks answer → IsUnrefusedAnswer answer
engine-unrefused setup s view command marks (Say.Refused drained place steps) clean legal shown = refused-never setup s view command drained place steps clean legal
engine-unrefused setup s view command marks (Say.NoCounter at steps) clean legal shown =
    let block = layout.meta_line setup.shape (counter_position setup.shape (page_of at)) in
    true≢false
    (sym legal.caused ∙ loosened (is_flagged s.hurt at || is_flagged s.named block) s.loose clean.loose
    (loosened (is_flagged s.hurt at) (is_flagged s.named block) (none_flagged s.named block clean.named) (clean.hurt at)))
engine-unrefused setup s view command marks (Say.WrongRoot kept found steps) clean legal shown = true≢false (sym legal.caused.tampered ∙ clean.named)
engine-unrefused setup s view command marks (Say.Shown exhibit) clean legal shown = shown-twin setup s view command marks exhibit clean shown.in_run
engine-unrefused setup s view command marks answer clean legal shown = tt

legal-by : (setup : Setup) (s : PlainState) (view : DeviceView) (command : Command) (reply : Reply) (decided : Option Answer) → IsClean s → IfSome decided IsTabled
    → MatchOption decided (IsEngineReply setup s view command reply) (λ a. reply.answer ≡ a) → IsUnrefusedAnswer reply.answer
legal-by setup s view command reply None clean tabled legal = engine-unrefused setup s view command reply.marks reply.answer clean legal.legal legal.shown
legal-by setup s view command reply (Some answer) clean tabled legal = subst IsUnrefusedAnswer (sym legal) (tabled-unrefused answer tabled)

legal-unrefused : (setup : Setup) (s : PlainState) (view : DeviceView) (command : Command) (reply : Reply) → IsClean s → IsLegal setup s view command reply → IsUnrefusedAnswer reply.answer
legal-unrefused setup s view command reply clean legal =
    legal-by setup s view command reply (decided_answer setup.shape s command) clean (tabled-decided setup.shape s command) legal

-- ---- runs

-- a state of the geometry, which is clean where no line is named
pub record IsTracked (g : Shape) (s : PlainState) : Type 0 where
  pub long : length s.named ≡ layout.device_lines g
  pub whole : has_flags s.named ≡ false → IsClean s

tracked-moved : (g : Shape) (s t : PlainState) → Moves s t → IsTracked g s → IsTracked g t
tracked-moved g s t moved tracked =
    elim moved [
      | inl quiet ↦ record {
        long = ap length quiet.named ∙ tracked.long;
        whole = λ none. clean-quiet s t quiet (tracked.whole (sym (ap has_flags quiet.named) ∙ none));
      }
      | inr tampered ↦ record {
        long = ap length tampered.named ∙ (length-set s.named tampered.place true ∙ tracked.long);
        whole = λ none. absurd (true≢false (sym (some_flag s.named tampered.place tampered.inside) ∙ (sym (ap has_flags tampered.named) ∙ none)));
      }
    ]

none-before : (s t : PlainState) → Moves s t → has_flags t.named ≡ false → has_flags s.named ≡ false
none-before s t moved none =
    elim moved [
      | inl quiet ↦ sym (ap has_flags quiet.named) ∙ none
      | inr tampered ↦ absurd (true≢false (sym (some_flag s.named tampered.place tampered.inside) ∙ (sym (ap has_flags tampered.named) ∙ none)))
    ]

machine-moved : (setup : Setup) (machine : Machine) (step : Step) → length machine.state.named ≡ layout.device_lines setup.shape → IsAnswered setup machine step
    → Moves machine.state (machine_after setup machine step).state
unfolding machine_after
machine-moved setup machine step long answered = moves-after setup machine.state machine.view step.command step.reply long answered.legal

none-first : (setup : Setup) (machine : Machine) (steps : List Step) → IsTracked setup.shape machine.state → AreAnswered setup machine steps
    → has_flags (machine_after_all setup machine steps).state.named ≡ false → has_flags machine.state.named ≡ false
none-first setup machine [] tracked answered none = none
none-first setup machine (step ∷ steps) tracked answered none =
    let next = machine_after setup machine step in
    let moved = machine-moved setup machine step tracked.long answered.0 in
    none-before machine.state next.state moved (none-first setup next steps (tracked-moved setup.shape machine.state next.state moved tracked) answered.1 none)

untampered-from : (setup : Setup) (machine : Machine) (steps : List Step) → IsTracked setup.shape machine.state → AreAnswered setup machine steps
    → has_flags (machine_after_all setup machine steps).state.named ≡ false → All (λ step. IsUnrefusedAnswer step.reply.answer) steps
untampered-from setup machine [] tracked answered none = All-nil (λ step. IsUnrefusedAnswer step.reply.answer)
untampered-from setup machine (step ∷ steps) tracked answered none =
    let next = machine_after setup machine step in
    let moved = machine-moved setup machine step tracked.long answered.0 in
    let later = tracked-moved setup.shape machine.state next.state moved tracked in
    let here = none-before machine.state next.state moved (none-first setup next steps later answered.1 none) in
    All-cons (λ step. IsUnrefusedAnswer step.reply.answer) step steps
    (legal-unrefused setup machine.state machine.view step.command step.reply (tracked.whole here) answered.0.legal)
    (untampered-from setup next steps later answered.1 none)

tracked-start : (setup : Setup) → IsTracked setup.shape (start setup).state
unfolding start start_state no_flags
tracked-start setup = record {
  long = length-replicate (layout.device_lines setup.shape) false;
  whole = λ none. record { named = none; hurt = λ a. unflagged (layout.data_lines setup.shape) a; loose = refl };
}

pub untampered : (setup : Setup) (steps : List Step) → AreAnswered setup (start setup) steps → IsUntampered setup steps
untampered setup steps answered none = untampered-from setup (start setup) steps (tracked-start setup) answered none
