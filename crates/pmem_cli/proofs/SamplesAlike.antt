-- Two runs of one list of commands over new worlds come to one stop, and their last answers are the same.
use Rattle.std.proofs.Common.{◌≡◌, ◌∙◌, ◌+◌, ℕ, true, false, List, [], ◌∷◌, ◌++◌, length, refl, sym, ap, subst, inl, inr, arith, append-nil, length-append}
use Rattle.std.specs.Prelude.{All, IsOk, map, Some, Ok}
use Rattle.std.proofs.lemmas.Bool.{true≢false, cases_Bool}
use Rattle.std.proofs.lemmas.List.{append_assoc, length-map, map-append}
use Rattle.std.proofs.lemmas.List.Elements.{All-append, All-cons, All-nil}
use Rattle.pmem_base.specs.declared.answers.Answer.{Answer}
use Rattle.pmem_base.specs.declared.answers.Answer.TheVariants as Say
use Rattle.pmem_base.specs.declared.commands.Command.{Command}
use Rattle.suite.specs.Setup.{Setup}
use Rattle.plain_model.specs.declared.Stop.{Stop}
use Rattle.plain_model.specs.declared.Stop.TheVariants.{Finished, Words, Memory, ReadFault, WriteFault, Refused, Shown, TooManyLines}
use Rattle.plain_model.specs.Answers.{is_shown}
use Rattle.plain_model.specs.Grammar.{Reading}
use Rattle.plain_model.specs.Run.{Step, start}
use Rattle.plain_model.specs.Texts.{as_line, answer_text}
use Rattle.pmem_replay.specs.World.{WorldState}
use Rattle.pmem_cli.specs.Sampled.{IsLastAnswer, SampleEnds}
use Rattle.pmem_cli.specs.Standing.{AreStepped, IsReplayed}
use Rattle.pmem_cli.proofs.ReplaysAlike.{IsOfTrace, AreRunning, answers, chain_of, chain_cut, one_reply, first_of, begun, IsFrontRun}
use Rattle.pmem_cli.proofs.RunsAlike as runs

-- ---- commands, as lines that read so

abbrev asking : Command → Reading
asking command = Ok (Some command)

abbrev asks : List Command → List Reading
asks commands = map asking commands

asked_so : (commands : List Command) → runs.asked_by (asks commands) ≡ commands
asked_so [] = refl
asked_so (c ∷ commands) = ap (λ (ds : List Command). c ∷ ds) (asked_so commands)

all_ask : (commands : List Command) → All IsOk (asks commands)
all_ask [] = All-nil IsOk
all_ask (c ∷ commands) = All-cons IsOk (Ok (Some c)) (asks commands) refl (all_ask commands)

-- ---- the last answer

-- what is printed of the last of these
said_by : List Step → List ℕ
said_by [] = []
said_by (x ∷ []) = as_line (answer_text x.reply.answer)
said_by (x ∷ y ∷ xs) = said_by (y ∷ xs)

said_last : (xs : List Step) (x : Step) → said_by (xs ++ x ∷ []) ≡ as_line (answer_text x.reply.answer)
unfolding said_by
said_last [] x = refl
said_last (y ∷ []) x = refl
said_last (y ∷ z ∷ xs) x = said_last (z ∷ xs) x

module _ (setup : Setup) (commands : List Command) where
  abbrev StopsBy : WorldState → ℕ → List Reading → Stop → List Step → Type 0
  StopsBy world served readings stop xs = runs.Stops (answers setup) (length commands) world served readings stop xs

  said_text : (steps : List Step) (answer : Answer) (text : List ℕ) → IsLastAnswer setup (start setup) commands steps answer
      → text ≡ as_line (answer_text answer) → text ≡ said_by steps
  said_text steps answer text last is =
      is ∙ ap (λ (a : Answer). as_line (answer_text a)) (sym last.its_answer) ∙ sym (said_last last.first last.last) ∙ ap said_by (sym last.all)

  -- every command was answered, the last one too without an exhibit
  stops_finished : (world end : WorldState) (steps : List Step) (answer : Answer) → IsLastAnswer setup (start setup) commands steps answer
      → is_shown answer ≡ false → AreStepped setup world steps end → StopsBy world 0 (asks commands) Finished steps
  stops_finished world end steps answer last hidden chain =
      let none : last.behind ≡ [] = elim last.ends [ inl shown ↦ absurd (true≢false (sym shown ∙ hidden)) | inr none ↦ none ] in
      let P = λ (step : Step). is_shown step.reply.answer ≡ false in
      let whole : map (λ (step : Step). step.command) steps ≡ commands =
      sym (append-nil (map (λ (step : Step). step.command) steps))
      ∙ ap (λ (cs : List Command). map (λ (step : Step). step.command) steps ++ cs) (sym none) ∙ last.in_order in
      let all_hidden : All P steps =
      subst (λ (xs : List Step). All P xs) (sym last.all)
      (All-append P last.first (last.last ∷ []) last.none_shown (All-cons P last.last [] (ap is_shown last.its_answer ∙ hidden) (All-nil P))) in
      subst (λ rs. StopsBy world 0 rs Finished steps) (append-nil (asks commands))
      (subst (λ (xs : List Step). StopsBy world 0 (asks commands ++ []) Finished xs) (append-nil steps)
      (runs.past_front (answers setup) (length commands) world end 0 (length commands) (asks commands) [] steps [] Finished
      (omega (arith, length-map commands asking)) (omega arith) (all_ask commands)
      (record { in_order = whole ∙ sym (asked_so commands); hidden = all_hidden; chain = chain_of setup (length commands) world end steps chain })
      (refl, refl)))

  -- the last answer is an exhibit
  stops_shown : (world end : WorldState) (steps : List Step) (answer : Answer) → IsLastAnswer setup (start setup) commands steps answer
      → is_shown answer ≡ true → AreStepped setup world steps end → StopsBy world 0 (asks commands) Shown steps
  stops_shown world end steps answer last shown chain =
      let before = map (λ (step : Step). step.command) last.first in
      let behind = last.last.command ∷ last.behind in
      let whole : commands ≡ before ++ behind =
      sym last.in_order
      ∙ ap (λ (xs : List Step). map (λ (step : Step). step.command) xs ++ last.behind) last.all
      ∙ ap (λ (cs : List Command). cs ++ last.behind) (map-append (λ (step : Step). step.command) last.first (last.last ∷ []))
      ∙ append_assoc before (last.last.command ∷ []) last.behind in
      let counted : length commands ≡ length before + length behind = ap length whole ∙ length-append before behind in
      let cut = chain_cut setup world end last.first (last.last ∷ []) (subst (λ (xs : List Step). AreStepped setup world xs end) last.all chain) in
      subst (λ (xs : List Step). StopsBy world 0 (asks commands) Shown xs) (sym last.all)
      (subst (λ rs. StopsBy world 0 rs Shown (last.first ++ last.last ∷ []))
      (sym (ap asks whole ∙ map-append asking before behind))
      (runs.past_front (answers setup) (length commands) world cut.0 0 (length before) (asks before) (asks behind) last.first (last.last ∷ []) Shown
      (omega (arith, length-map before asking)) (omega (arith, counted)) (all_ask before)
      (record { in_order = sym (asked_so before); hidden = last.none_shown; chain = chain_of setup (length commands) world cut.0 last.first cut.1 })
      (runs.shown_here (answers setup) (length commands) cut.0 cut.2.0 (length before) (Ok (Some last.last.command)) (asks last.behind) last.last refl
      cut.2.1 (ap is_shown last.its_answer ∙ shown) (omega (arith, counted)))))

  -- what a stop says, as how a run of the commands stops
  ended : (stop : Stop) (steps : List Step) (text : List ℕ) → IsOfTrace stop → SampleEnds setup (start setup) commands stop steps text
      → (text ≡ said_by steps)
      × ((world end : WorldState) → AreStepped setup world steps end → StopsBy world 0 (asks commands) stop steps)
  ended Finished steps text calm (answer, last, line, hidden) =
      (said_text steps answer text last line, λ world end chain. stops_finished world end steps answer last hidden chain)
  ended Shown steps text calm (exhibit, last, line, holds) =
      (said_text steps (Say.Shown exhibit) text last line, λ world end chain. stops_shown world end steps (Say.Shown exhibit) last refl chain)
  ended WriteFault steps text calm ends = absurd (calm.pushed refl)
  ended Memory steps text calm ends = absurd (calm.had_memory refl)
  ended Words steps text calm ends = absurd ends
  ended ReadFault steps text calm ends = absurd ends
  ended (Refused number kind) steps text calm ends = absurd ends
  ended TooManyLines steps text calm ends = absurd ends

  pub samples_alike : (stop other : Stop) (xs ys : List Step) (text more : List ℕ) → IsOfTrace stop → IsOfTrace other
      → SampleEnds setup (start setup) commands stop xs text → SampleEnds setup (start setup) commands other ys more → IsReplayed setup stop xs
      → IsReplayed setup other ys → (stop ≡ other) × (text ≡ more)
  samples_alike stop other xs ys text more calm quiet ends finishes replayed run =
      let a = first_of setup stop xs calm.had_memory replayed in
      let b = first_of setup other ys quiet.had_memory run in
      let it = ended stop xs text calm ends in
      let its = ended other ys more quiet finishes in
      let same =
      runs.stops_alike (answers setup) (length commands) (AreRunning setup) (one_reply setup) 0 (asks commands) a.0 b.0 stop other xs ys
      (begun setup a.0 b.0 a.2 b.2) (it.1 a.0 a.1 a.3) (its.1 b.0 b.1 b.3) in
      (same.0, it.0 ∙ ap said_by same.1 ∙ sym its.0)

  -- ---- a run that was broken off

  pub samples_front : (stop other : Stop) (xs ys : List Step) (text more : List ℕ) → IsOfTrace other → SampleEnds setup (start setup) commands stop xs text
      → SampleEnds setup (start setup) commands other ys more → IsReplayed setup stop xs → IsReplayed setup other ys → IsFrontRun stop other text more
  samples_front Finished other xs ys text more quiet ends finishes replayed run =
      inl (samples_alike Finished other xs ys text more (record { had_memory = λ is. cc; pulled = λ is. cc; pushed = λ is. cc }) quiet ends finishes replayed run)
  samples_front Shown other xs ys text more quiet ends finishes replayed run =
      inl (samples_alike Shown other xs ys text more (record { had_memory = λ is. cc; pulled = λ is. cc; pushed = λ is. cc }) quiet ends finishes replayed run)
  samples_front Memory other xs ys text more quiet ends finishes replayed run = inr (inl refl, more, ap (λ l. l ++ more) (sym ends.1))
  samples_front WriteFault other xs ys text more quiet (answer, last, line) finishes replayed run =
      let a = first_of setup WriteFault xs (λ is. cc) replayed in
      let b = first_of setup other ys quiet.had_memory run in
      let its = ended other ys more quiet finishes in
      let stops : (stop : Stop) × StopsBy a.0 0 (asks commands) stop xs = elim (cases_Bool (is_shown answer)) [
        | inl shown ↦ (Shown, stops_shown a.0 a.1 xs answer last shown a.3)
        | inr hidden ↦ (Finished, stops_finished a.0 a.1 xs answer last hidden a.3)
      ] in
      let same =
      runs.stops_alike (answers setup) (length commands) (AreRunning setup) (one_reply setup) 0 (asks commands) a.0 b.0 stops.0 other xs ys
      (begun setup a.0 b.0 a.2 b.2) stops.1 (its.1 b.0 b.1 b.3) in
      inr (inr (inr refl), [], its.0 ∙ ap said_by (sym same.1) ∙ sym (said_text xs answer text last line) ∙ sym (append-nil text))
  samples_front Words other xs ys text more quiet ends finishes replayed run = absurd ends
  samples_front ReadFault other xs ys text more quiet ends finishes replayed run = absurd ends
  samples_front (Refused number kind) other xs ys text more quiet ends finishes replayed run = absurd ends
  samples_front TooManyLines other xs ys text more quiet ends finishes replayed run = absurd ends
