-- The run of a sample trace, command by command.
use Rattle.std.proofs.lemmas.Grind.{common_steps}
use Rattle.std.proofs.Common.{rules, ◌≡◌, ◌∙◌, ◌+◌, ◌^◌, ◌<◌, ◌≤◌, ℕ, zero, suc, true, false, List, [], ◌∷◌, ◌++◌, length, refl, sym, ap, subst, arith, length-append, inl, inr}
use Rattle.std.specs.Prelude.{◌⊎◌, map}
use Rattle.std.proofs.lemmas.List.{length-map}
use Rattle.std.proofs.lemmas.List.Elements.{All-append, All-cons, All-nil}
use Rattle.pmem_base.specs.Shape.{Shape}
use Rattle.pmem_base.specs.declared.commands.Command.{Command}
use Rattle.pmem_base.specs.declared.commands.Command.TheVariants as Do
use Rattle.pmem_base.specs.declared.answers.Answer.{Answer}
use Rattle.pmem_base.specs.declared.answers.Answer.TheVariants as Say
use Rattle.suite.specs.Formulas.{Formulas}
use Rattle.suite.specs.Setup.{Setup}
use Rattle.plain_model.specs.Answers.{is_shown}
use Rattle.plain_model.specs.Texts.{as_line, answer_text}
use Rattle.plain_model.specs.declared.Stop.{Stop}
use Rattle.plain_model.specs.declared.Stop.TheVariants.{Finished, Memory, Words, ReadFault, WriteFault, Refused, Shown, TooManyLines}
use Rattle.plain_model.specs.Run.{Machine, Step, start, machine_after, machine_after_all, IsAnswered, AreAnswered}
use Rattle.trace_text.specs.Samples.{sample_command, sample_trace, state_of_seed, word_at, state_after_word, commands_from}
use Rattle.pmem_replay.specs.World.{WorldState}
use Rattle.pmem_cli.specs.Printed.{Output, Prints}
use Rattle.pmem_cli.specs.Standing.{Standing, standing_of, AreStepped, IsFirstWorld, IsReplayed, StandingAfter}
use Rattle.pmem_cli.specs.Sums.{AreStepSums}
use Rattle.pmem_cli.specs.Replies.{HasReplied}
use Rattle.pmem_cli.specs.Sampled.{IsLastAnswer, SampleEnds, HasAnsweredFront, HasReachedAnswer, HasToldSample}
use Rattle.pmem_cli.specs.HasRun.{HasRunSample}
use Rattle.pmem_cli.proofs.PrintLemmas.{Prints-front}
use Rattle.pmem_cli.proofs.RunLemmas.{AreAnswered-append}
use Rattle.pmem_cli.proofs.ShownLemmas.{exhibit_of, legal_exhibit}
use Rattle.pmem_cli.proofs.StepSums.{sums_run}
use Rattle.pmem_cli.proofs.StandingLemmas.{StandingAfter-trans, AreStepped-after, new_setup, new_machine}

-- ---- the commands

-- a sample trace ends with its counts
pub sample_is : (seed count : ℕ) → sample_trace seed count ≡ commands_from (state_of_seed seed) 1 count ++ Do.Stat ∷ []
unfolding sample_trace
sample_is seed count = refl

-- ---- one command after the other

pub HasAnsweredFront-nil : (s : Standing) (commands : List Command) → s.world.shown ≡ false → HasAnsweredFront s s commands commands []
HasAnsweredFront-nil s commands running = search rules

-- the next command is the first of those left
pub come_first : (s t : Standing) (commands : List Command) (steps : List Step) (state number left m : ℕ) (command : Command) → left ≡ m + 1
    → command ≡ sample_command number (word_at state) → HasAnsweredFront s t commands (commands_from state number left ++ Do.Stat ∷ []) steps
    → HasAnsweredFront s t commands (command ∷ (commands_from (state_after_word state) (number + 1) m ++ Do.Stat ∷ [])) steps
come_first s t commands steps state number left m command more is come = search rules

-- only the counts are left
pub come_last : (s t : Standing) (commands : List Command) (steps : List Step) (state number left : ℕ) → left ≡ 0
    → HasAnsweredFront s t commands (commands_from state number left ++ Do.Stat ∷ []) steps → HasAnsweredFront s t commands (Do.Stat ∷ []) steps
come_last s t commands steps state number left none come =
    subst (λ n. HasAnsweredFront s t commands (commands_from state number n ++ Do.Stat ∷ []) steps) none come

-- one more answered, in the order of the commands
one_more_in_order : (commands behind : List Command) (command : Command) (steps : List Step) (step : Step) → map (λ step. step.command) steps ++ command ∷ behind ≡ commands
    → step.command ≡ command → map (λ step. step.command) (steps ++ step ∷ []) ++ behind ≡ commands
one_more_in_order commands behind command steps step in_order asked = grind (arith, common_steps)

-- and legal after those before it
one_more_answered : (s t : Standing) (steps : List Step) (step : Step) → AreAnswered s.setup s.machine steps → StandingAfter s t steps → IsAnswered t.setup t.machine step
    → AreAnswered s.setup s.machine (steps ++ step ∷ [])
one_more_answered s t steps step answered on last =
    AreAnswered-append s.setup s.machine steps (step ∷ []) answered
    (subst (λ machine. IsAnswered s.setup machine step) on.machine (subst (λ setup. IsAnswered setup t.machine step) on.setup last), tt)

pub HasAnsweredFront-next : (s t u : Standing) (commands behind : List Command) (command : Command) (steps : List Step) (step : Step) → HasAnsweredFront s t commands (command ∷ behind) steps
    → HasReplied t command step → is_shown step.reply.answer ≡ false → StandingAfter t u (step ∷ []) → HasAnsweredFront s u commands behind (steps ++ step ∷ [])
HasAnsweredFront-next s t u commands behind command steps step come replied hidden on = record {
  in_order = one_more_in_order commands behind command steps step come.in_order replied.asked;
  answered = one_more_answered s t steps step come.answered come.on replied.answered;
  none_shown =
      All-append (λ step. is_shown step.reply.answer ≡ false) steps (step ∷ []) come.none_shown
      (All-cons (λ step. is_shown step.reply.answer ≡ false) step [] hidden (All-nil (λ step. is_shown step.reply.answer ≡ false)));
  on = StandingAfter-trans s t u steps (step ∷ []) come.on on;
}

-- the last answer
pub HasReachedAnswer-of : (s t : Standing) (commands behind : List Command) (command : Command) (steps : List Step) (step : Step) → HasAnsweredFront s t commands (command ∷ behind) steps
    → HasReplied t command step → (is_shown step.reply.answer ≡ true) ⊎ (behind ≡ []) → HasReachedAnswer s commands step.reply.answer
HasReachedAnswer-of s t commands behind command steps step come replied ends = (
  steps ++ step ∷ [],
  record {
    first = steps;
    last = step;
    all = refl;
    answered = one_more_answered s t steps step come.answered come.on replied.answered;
    none_shown = come.none_shown;
    its_answer = refl;
    behind = behind;
    in_order = one_more_in_order commands behind command steps step come.in_order replied.asked;
    ends = ends;
  },
  (replied.next, AreStepped-after s t replied.next steps (step ∷ []) come.on (replied.next, replied.stepped, refl)),
)

-- ---- the stop

-- the last of some steps is answered
last_answered : (setup : Setup) (machine : Machine) (steps : List Step) (step : Step) → AreAnswered setup machine (steps ++ step ∷ []) → IsAnswered setup (machine_after_all setup machine steps) step
last_answered setup machine [] step answered = answered.0
last_answered setup machine (x ∷ steps) step answered = last_answered setup (machine_after setup machine x) steps step answered.1

pub told-shown : (s : Standing) (commands : List Command) (answer : Answer) (p q : Output) → HasReachedAnswer s commands answer → is_shown answer ≡ true
    → Prints p q (as_line (answer_text answer)) → HasToldSample Shown s commands p q
told-shown s commands answer p q reached shown printed =
    let found = exhibit_of answer shown in
    let its = reached.1 in
    let machine = machine_after_all s.setup s.machine its.first in
    let answered = last_answered s.setup s.machine its.first its.last (subst (λ steps. AreAnswered s.setup s.machine steps) its.all its.answered) in record {
      steps = reached.0;
      text = as_line (answer_text answer);
      ends = (
        found.0,
        subst (λ a. IsLastAnswer s.setup s.machine commands reached.0 a) found.1 its,
        ap (λ a. as_line (answer_text a)) found.1,
        legal_exhibit s.setup machine.state machine.view its.last.command its.last.reply found.0 answered.legal (its.its_answer ∙ found.1),
      );
      leads = reached.2;
      said = record { whole = λ told. printed; front = Prints-front p q (as_line (answer_text answer)) printed };
    }

-- the steps end by a last answer, or there are none
sample_last : (setup : Setup) (machine : Machine) (commands : List Command) (stop : Stop) (steps : List Step) (text : List ℕ) → SampleEnds setup machine commands stop steps text
    → (steps ≡ []) ⊎ ((answer : Answer) × IsLastAnswer setup machine commands steps answer)
sample_last setup machine commands Finished steps text ends = inr (ends.0, ends.1)
sample_last setup machine commands Shown steps text ends = inr (Say.Shown ends.0, ends.1)
sample_last setup machine commands WriteFault steps text ends = inr (ends.0, ends.1)
sample_last setup machine commands Memory steps text ends = inl ends.0
sample_last setup machine commands Words steps text ends = absurd ends
sample_last setup machine commands ReadFault steps text ends = absurd ends
sample_last setup machine commands (Refused number kind) steps text ends = absurd ends
sample_last setup machine commands TooManyLines steps text ends = absurd ends

pub sample_answered : (setup : Setup) (machine : Machine) (commands : List Command) (stop : Stop) (steps : List Step) (text : List ℕ)
    → SampleEnds setup machine commands stop steps text → AreAnswered setup machine steps
sample_answered setup machine commands stop steps text ends =
    elim (sample_last setup machine commands stop steps text ends) [
      | inl none ↦ subst (λ xs. AreAnswered setup machine xs) (sym none) tt
      | inr last ↦ last.1.answered
    ]

-- ---- how many commands

commands_counted : (state number count : ℕ) → length (commands_from state number count) ≡ count
commands_counted state number zero = refl
commands_counted state number (suc count) = ap suc (commands_counted (state_after_word state) (number + 1) count)

pub sample_short : (seed count : ℕ) → count < 2 ^ 32 → length (sample_trace seed count) ≤ 2 ^ 40
sample_short seed count fits =
    let same = commands_counted (state_of_seed seed) 1 count in
    rw (sample_is seed count) (rw length-append (omega (arith, same, fits)))

-- a step for each command at most
few_steps : (setup : Setup) (machine : Machine) (commands : List Command) (steps : List Step) (answer : Answer) → IsLastAnswer setup machine commands steps answer
    → length commands ≤ 2 ^ 40 → length steps ≤ 2 ^ 40
few_steps setup machine commands steps answer last short =
    let all : length steps + length last.behind ≡ length commands =
    sym (length-append (map (λ (step : Step). step.command) steps) last.behind ∙ ap (λ n. n + length last.behind) (length-map steps (λ (step : Step). step.command)))
    ∙ ap length last.in_order in
    omega (arith, all, short)

sample_sums : (setup : Setup) (commands : List Command) (stop : Stop) (steps : List Step) (text : List ℕ) → SampleEnds setup (start setup) commands stop steps text
    → length commands ≤ 2 ^ 40 → IsReplayed setup stop steps → AreStepSums setup (start setup) steps
sample_sums setup commands stop steps text ends short replayed =
    elim (sample_last setup (start setup) commands stop steps text ends) [
      | inl none ↦ subst (λ xs. AreStepSums setup (start setup) xs) (sym none) tt
      | inr (answer, last) ↦
          let few = few_steps setup (start setup) commands steps answer last short in
          let all : length steps ≡ length last.first + 1 = ap length last.all ∙ length-append last.first (last.last ∷ []) in
          sums_run setup steps last.first (last.last ∷ []) last.all last.answered last.none_shown (omega arith) (omega (arith, few, all)) replayed
    ]

-- ---- over a new world

pub HasRunSample-memory : (setup : Setup) (commands : List Command) (p : Output) → HasRunSample setup commands Memory p p
HasRunSample-memory setup commands p = search rules

pub HasRunSample-told : (f : List ℕ → Formulas) (shape : Shape) (keys : List ℕ) (world : WorldState) (commands : List Command) (stop : Stop) (p q : Output)
    → length commands ≤ 2 ^ 40 → IsFirstWorld (record { shape = shape; formulas = f keys }) world → world.keys ≡ keys → HasToldSample stop (standing_of f world) commands p q
    → HasRunSample (record { shape = shape; formulas = f keys }) commands stop p q
HasRunSample-told f shape keys world commands stop p q short is same told =
    let setup : Setup = record { shape = shape; formulas = f keys } in
    let s = standing_of f world in
    let at_setup = new_setup f shape keys world is.new same in
    let ends : SampleEnds setup (start setup) commands stop told.steps told.text =
    subst (λ machine. SampleEnds setup machine commands stop told.steps told.text) (new_machine f setup world is.new)
    (subst (λ (u : Setup). SampleEnds u s.machine commands stop told.steps told.text) at_setup told.ends) in
    let replayed : IsReplayed setup stop told.steps =
    inr (world, told.leads.0, is, subst (λ (u : Setup). AreStepped u world told.steps told.leads.0) at_setup told.leads.1) in record {
      steps = told.steps;
      text = told.text;
      ends = ends;
      replayed = replayed;
      summed = sample_sums setup commands stop told.steps told.text ends short replayed;
      said = told.said;
    }
