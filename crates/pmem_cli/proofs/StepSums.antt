-- No run is long enough for the sum of its persist steps to stand still.
use Rattle.std.proofs.Common.{◌≡◌, ◌∙◌, ◌+◌, ◌*◌, ◌-◌, ◌^◌, ◌<◌, ◌≤◌, ℕ, false, List, [], ◌∷◌, ◌++◌, length, sym, ap, subst, arith, append-nil, length-append, inl, inr}
use Rattle.std.specs.Prelude.{All, Option, None, Some, Ok, Err}
use Rattle.std.proofs.lemmas.List.{length-map}
use Rattle.std.proofs.lemmas.List.Elements.{All-head, All-tail}
use Rattle.pmem_base.specs.declared.answers.Answer.{Answer}
use Rattle.pmem_base.specs.declared.answers.Answer.TheVariants as Say
use Rattle.suite.specs.Setup.{Setup}
use Rattle.plain_model.specs.declared.Stop.{Stop}
use Rattle.plain_model.specs.declared.Stop.TheVariants.{Finished, Memory, Words, ReadFault, WriteFault, Refused, Shown, TooManyLines}
use Rattle.plain_model.specs.State.{PlainState, start_state}
use Rattle.plain_model.specs.After.{state_after}
use Rattle.plain_model.specs.Answers.{is_shown}
use Rattle.plain_model.specs.Fits.{AreStepsCounted}
use Rattle.plain_model.specs.Grammar.{Reading, reading_of}
use Rattle.plain_model.specs.Lines.{lines_of}
use Rattle.plain_model.specs.Run.{Machine, Step, start, machine_after, AreAnswered, commands_asked, commands_of, IsRunFrom, IsShownFrom, IsMemoryWanted, Ends, line_limit}
use Rattle.pmem_replay.specs.World.{WorldState}
use Rattle.pmem_replay.specs.Stepped.{most_command_steps}
use Rattle.pmem_cli.specs.Standing.{AreStepped, IsReplayed}
use Rattle.pmem_cli.specs.Sums.{IsStepSum, AreStepSums}
use Rattle.pmem_cli.proofs.RunLemmas.{shown_answered}

-- ---- lines and steps

few_asked : (reading : Reading) → length (commands_asked reading) ≤ 1
few_asked (Ok (Some command)) = omega arith
few_asked (Ok None) = omega arith
few_asked (Err kind) = omega arith

few_commands : (lines : List (List ℕ)) → length (commands_of lines) ≤ length lines
few_commands [] = omega arith
few_commands (line ∷ lines) =
    let one = few_asked (reading_of line) in
    let others = few_commands lines in
    rw length-append (omega (arith, one, others))

-- a line asks for one step at most
few_steps : (setup : Setup) (machine : Machine) (lines : List (List ℕ)) (steps : List Step) → IsRunFrom setup machine lines steps → length steps ≤ length lines
few_steps setup machine lines steps run =
    let same : length steps ≡ length (commands_of lines) = sym (length-map steps (λ (step : Step). step.command)) ∙ ap length run.commands_in_order in
    let few = few_commands lines in
    omega (arith, same, few)

-- ---- sums

sum_here : (state : PlainState) (answer : Answer) → state.steps < 2 ^ 64 - 1 → AreStepsCounted state answer → IsStepSum state answer
sum_here state (Say.Counts counts) small counted = counted small
sum_here state answer small counted = tt

-- each of these commands adds few steps to those before it, and none but the last ends the run
sums_from : (setup : Setup) (machine : Machine) (world last : WorldState) (steps tail : List Step) (n : ℕ) → machine.state ≡ world.state
    → AreStepped setup world (steps ++ tail) last → AreAnswered setup machine (steps ++ tail) → All (λ step. is_shown step.reply.answer ≡ false) steps → length tail ≤ 1
    → machine.state.steps ≤ n * most_command_steps → n + length steps ≤ 2 ^ 40 → AreStepSums setup machine (steps ++ tail)
unfolding machine_after
sums_from setup machine world last [] [] n same chain answered none one few count = tt
sums_from setup machine world last [] (step ∷ []) n same chain answered none one few count =
    (sum_here machine.state step.reply.answer (omega (arith, few, count)) answered.0.fits.steps_counted, tt)
sums_from setup machine world last [] (step ∷ more ∷ rest) n same chain answered none one few count = absurd (omega (arith, one))
sums_from setup machine world last (step ∷ steps) tail n same (next, taken, chain) answered none one few count =
    let quiet : is_shown step.reply.answer ≡ false = All-head (λ step. is_shown step.reply.answer ≡ false) step steps none in
    let after : (machine_after setup machine step).state ≡ next.state =
    ap (λ (s : PlainState). state_after setup.shape s step.command step.reply) same ∙ sym (taken.stepped.state quiet) in
    let added = taken.few (taken.stepped.shown ∙ quiet) in
    let before = ap (λ (s : PlainState). s.steps) same in
    let now = ap (λ (s : PlainState). s.steps) after in
    let here : machine.state.steps < 2 ^ 64 - 1 = omega (arith, few, count) in
    let later : (machine_after setup machine step).state.steps ≤ (n + 1) * most_command_steps = omega (arith, few, added, before, now) in (
      sum_here machine.state step.reply.answer here answered.0.fits.steps_counted,
      sums_from setup (machine_after setup machine step) next last steps tail (n + 1) after chain answered.1
          (All-tail (λ step. is_shown step.reply.answer ≡ false) step steps none) one later (omega (arith, count)),
    )

-- so it is over a formatted world
pub sums_run : {its : Stop} (setup : Setup) (all steps tail : List Step) → all ≡ steps ++ tail → AreAnswered setup (start setup) all
    → All (λ step. is_shown step.reply.answer ≡ false) steps → length tail ≤ 1 → length steps ≤ 2 ^ 40 → IsReplayed setup its all → AreStepSums setup (start setup) all
unfolding start start_state
sums_run setup all steps tail is answered none one short (inl empty) = subst (λ (xs : List Step). AreStepSums setup (start setup) xs) (sym empty.1) tt
sums_run setup all steps tail is answered none one short (inr (first, last, new, chain)) =
    subst (λ (xs : List Step). AreStepSums setup (start setup) xs) (sym is)
    (sums_from setup (start setup) first last steps tail 0 (sym new.new.state) (subst (λ (xs : List Step). AreStepped setup first xs last) is chain)
    (subst (λ (xs : List Step). AreAnswered setup (start setup) xs) is answered) none one (omega arith) (omega (arith, short)))

sums_whole : {its : Stop} (setup : Setup) (lines : List (List ℕ)) (steps : List Step) → IsRunFrom setup (start setup) lines steps → length lines ≤ line_limit → IsReplayed setup its steps
    → AreStepSums setup (start setup) steps
sums_whole setup lines steps run short replayed =
    let few = few_steps setup (start setup) lines steps run in
    sums_run setup steps steps [] (sym (append-nil steps)) run.answered run.none_shown (omega arith) (omega (arith, few, short)) replayed

sums_shown : {its : Stop} (setup : Setup) (lines : List (List ℕ)) (steps : List Step) → IsShownFrom setup (start setup) 0 lines steps → IsReplayed setup its steps
    → AreStepSums setup (start setup) steps
sums_shown setup lines steps ends replayed =
    let few = few_steps setup (start setup) ends.before ends.first ends.run in
    sums_run setup steps ends.first (ends.last ∷ []) ends.all (shown_answered setup lines steps ends) ends.run.none_shown (omega arith)
    (omega (arith, few, ends.counted)) replayed

-- ---- by the stop

wanted_within : (n : ℕ) (behind : List (List ℕ)) → IsMemoryWanted n behind → n ≤ line_limit
wanted_within n [] wanted = absurd wanted
wanted_within n (line ∷ lines) wanted = omega (arith, wanted.1)

pub summed : {its : Stop} (stop : Stop) (setup : Setup) (trace : List ℕ) (left : Option (List ℕ)) (steps : List Step) → Ends setup stop trace left steps → IsReplayed setup its steps
    → AreStepSums setup (start setup) steps
summed Finished setup trace left steps ends replayed = sums_whole setup (lines_of trace) steps ends.run (omega (arith, ends.counted)) replayed
summed Memory setup trace left steps ends replayed =
    let short : length ends.front.before ≤ line_limit =
    elim ends.wanting [
      | inl none ↦ omega (arith, none)
      | inr wanted ↦ let within = wanted_within (0 + length ends.front.before) ends.front.behind wanted in omega (arith, within)
    ] in
    sums_whole setup ends.front.before steps ends.front.run short replayed
summed Words setup trace left steps ends replayed = absurd ends
summed ReadFault setup trace left steps ends replayed = sums_whole setup ends.before steps ends.run (omega (arith, ends.counted)) replayed
summed WriteFault setup trace left steps ends replayed =
    elim ends [
      | inl limited ↦ sums_whole setup limited.front.before steps limited.front.run (omega (arith, limited.counted)) replayed
      | inr shown ↦ sums_shown setup (lines_of trace) steps shown replayed
    ]
summed (Refused number kind) setup trace left steps ends replayed =
    sums_whole setup ends.before steps ends.run (omega (arith, ends.numbered, ends.counted)) replayed
summed Shown setup trace left steps ends replayed = sums_shown setup (lines_of trace) steps ends replayed
summed TooManyLines setup trace left steps ends replayed =
    sums_whole setup ends.front.before steps ends.front.run (omega (arith, ends.counted)) replayed
