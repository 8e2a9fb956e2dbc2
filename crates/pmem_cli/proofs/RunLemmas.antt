-- Runs grow at their end.
use Rattle.std.proofs.Common.{rules, ◌≡◌, ◌∙◌, ℕ, List, [], ◌∷◌, ◌++◌, refl, sym, ap, false, subst, inl, inr}
use Rattle.std.specs.Prelude.{Option, map, IsOk, Ok, Some, None}
use Rattle.std.proofs.lemmas.List.{map-append}
use Rattle.std.proofs.lemmas.List.Concat.{flat_map-append}
use Rattle.std.proofs.lemmas.List.Elements.{All-append, All-cons, All-nil}
use Rattle.suite.specs.Setup.{Setup}
use Rattle.plain_model.specs.declared.Stop.{Stop}
use Rattle.plain_model.specs.declared.Stop.TheVariants.{Finished, Words, Memory, ReadFault, WriteFault, Refused, Shown, TooManyLines}
use Rattle.plain_model.specs.Lines.{lines_of}
use Rattle.plain_model.specs.Answers.{is_shown}
use Rattle.plain_model.specs.Grammar.{reading_of}
use Rattle.plain_model.specs.Run.{Machine, Step, machine_after, machine_after_all, IsAnswered, AreAnswered, commands_asked, commands_of, IsRunFrom, IsFrontFrom, IsShownFrom, Ends, start}

pub AreAnswered-append : (setup : Setup) (machine : Machine) (xs ys : List Step)
    → AreAnswered setup machine xs → AreAnswered setup (machine_after_all setup machine xs) ys → AreAnswered setup machine (xs ++ ys)
AreAnswered-append setup machine [] ys first second = second
AreAnswered-append setup machine (x ∷ xs) ys first second =
    (first.0, AreAnswered-append setup (machine_after setup machine x) xs ys first.1 second)

-- a run over some lines, and one over the lines after them
pub IsRunFrom-append : (setup : Setup) (machine : Machine) (ls ms : List (List ℕ)) (xs ys : List Step)
    → IsRunFrom setup machine ls xs → IsRunFrom setup (machine_after_all setup machine xs) ms ys → IsRunFrom setup machine (ls ++ ms) (xs ++ ys)
IsRunFrom-append setup machine ls ms xs ys first second = record {
  in_grammar = All-append (λ line. IsOk (reading_of line)) ls ms first.in_grammar second.in_grammar;
  commands_in_order =
      map-append (λ step. step.command) xs ys
      ∙ (ap (λ cs. cs ++ map (λ step. step.command) ys) first.commands_in_order ∙ ap (λ cs. commands_of ls ++ cs) second.commands_in_order)
      ∙ sym (flat_map-append (λ line. commands_asked (reading_of line)) ls ms);
  answered = AreAnswered-append setup machine xs ys first.answered second.answered;
  none_shown = All-append (λ step. is_shown step.reply.answer ≡ false) xs ys first.none_shown second.none_shown;
}

pub IsRunFrom-nil : (setup : Setup) (machine : Machine) → IsRunFrom setup machine [] []
IsRunFrom-nil setup machine = search rules

-- a line without a command
pub IsRunFrom-skipped : (setup : Setup) (machine : Machine) (line : List ℕ) → reading_of line ≡ Ok None → IsRunFrom setup machine (line ∷ []) []
IsRunFrom-skipped setup machine line is = search rules

-- a line's command with its reply
pub IsRunFrom-step : (setup : Setup) (machine : Machine) (line : List ℕ) (step : Step)
    → reading_of line ≡ Ok (Some step.command) → IsAnswered setup machine step → is_shown step.reply.answer ≡ false
    → IsRunFrom setup machine (line ∷ []) (step ∷ [])
IsRunFrom-step setup machine line step is answered hidden = record {
  in_grammar = All-cons (λ line. IsOk (reading_of line)) line [] (rw is refl) (All-nil (λ line. IsOk (reading_of line)));
  commands_in_order = rw is refl;
  answered = (answered, tt);
  none_shown = All-cons (λ step. is_shown step.reply.answer ≡ false) step [] hidden (All-nil (λ step. is_shown step.reply.answer ≡ false));
}

-- no reply, from the front of any lines
abbrev pub IsFrontFrom-nil : (setup : Setup) (machine : Machine) (ls : List (List ℕ)) → IsFrontFrom setup machine ls []
IsFrontFrom-nil setup machine ls = record { before = []; behind = ls; cut = refl; run = IsRunFrom-nil setup machine }

-- ---- what the steps of an ending are

pub shown_answered : (setup : Setup) (lines : List (List ℕ)) (steps : List Step) → IsShownFrom setup (start setup) 0 lines steps → AreAnswered setup (start setup) steps
shown_answered setup lines steps ends =
    subst (λ xs. AreAnswered setup (start setup) xs) (sym ends.all)
    (AreAnswered-append setup (start setup) ends.first (ends.last ∷ []) ends.run.answered (ends.answered, tt))

-- each step is legal and fits, after those before it
pub ends_answered : (stop : Stop) (setup : Setup) (trace : List ℕ) (left : Option (List ℕ)) (steps : List Step) → Ends setup stop trace left steps → AreAnswered setup (start setup) steps
ends_answered Finished setup trace left steps ends = ends.run.answered
ends_answered Memory setup trace left steps ends = ends.front.run.answered
ends_answered Words setup trace left steps ends = absurd ends
ends_answered ReadFault setup trace left steps ends = ends.run.answered
ends_answered WriteFault setup trace left steps ends = elim ends [ inl limited ↦ limited.front.run.answered | inr shown ↦ shown_answered setup (lines_of trace) steps shown ]
ends_answered (Refused number kind) setup trace left steps ends = ends.run.answered
ends_answered Shown setup trace left steps ends = shown_answered setup (lines_of trace) steps ends
ends_answered TooManyLines setup trace left steps ends = ends.front.run.answered
