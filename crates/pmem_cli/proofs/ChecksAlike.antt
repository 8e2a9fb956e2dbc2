-- Two checks of one trace come to one ending.
use Rattle.std.proofs.Common.{◌≡◌, ◌≢◌, ◌∙◌, ◌+◌, ◌-◌, ◌<◌, ℕ, zero, suc, List, [], ◌∷◌, ◌++◌, length, refl, sym, ap, ap₂, subst, inl, inr, arith, append-nil}
use Rattle.std.specs.Prelude.{◌⊎◌, Option, None, Some, Result, Ok, Err}
use Rattle.pmem_base.specs.declared.commands.Kind.{Kind}
use Rattle.pmem_base.specs.declared.answers.Exhibit.{Exhibit}
use Rattle.suite.specs.Formulas.{Formulas}
use Rattle.collision_witness.specs.Exhibits.{IsExhibit}
use Rattle.plain_model.specs.declared.Stop.{Stop}
use Rattle.plain_model.specs.declared.Stop.TheVariants.{Finished, Words, Memory, ReadFault, WriteFault, Refused, Shown, TooManyLines}
use Rattle.plain_model.specs.Lines.{lines_of}
use Rattle.plain_model.specs.Run.{line_limit}
use Rattle.pmem_cli.specs.declared.ending.Ending.{Ending}
use Rattle.pmem_cli.specs.declared.ending.Ending.TheVariants.{Stopped, Holds, Fails}
use Rattle.pmem_cli.specs.Checked.{found_with, found_on, found_in_lines, IsFoundIn, IsRefusedIn, IsPastLimit, IsChecked}

-- ---- what a check of lines comes to, as a function

-- what was found, or where the check stops
abbrev Found : Type 0
Found = Result (Option Exhibit) Stop

-- from a line with this number on
abbrev looked_on : ℕ → (Option Exhibit → Found) → Result (Option Exhibit) Kind → Found
looked_on number later (Err kind) = Err (Refused number kind)
looked_on number later (Ok found) = later found

-- behind so many lines, with room for so many more
abbrev looked : ℕ → ℕ → List (List ℕ) → Option Exhibit → Found
looked served room [] found = Ok found
looked served zero (line ∷ lines) found = Err TooManyLines
looked served (suc room) (line ∷ lines) found =
    looked_on (served + 1) (λ one. looked (served + 1) room lines one) (found_with found line)

-- ---- the stops, by it

module _ (now left : ℕ) (after : Option Exhibit) (behind : List (List ℕ)) where
  past_line : (number : ℕ) (before : List (List ℕ)) (later : Option Exhibit → Found) (read : Result (Option Exhibit) Kind)
      → found_on read before ≡ Ok after
      → ((one : Option Exhibit) → found_in_lines one before ≡ Ok after → later one ≡ looked now left behind after)
      → looked_on number later read ≡ looked now left behind after
  past_line number before later (Err kind) found on = absurd (cc (found))
  past_line number before later (Ok one) found on = on one found

  -- lines that are read, and then what follows
  past_front : (served room : ℕ) (before : List (List ℕ)) (found : Option Exhibit) → found_in_lines found before ≡ Ok after
      → room ≡ length before + left → now ≡ served + length before
      → looked served room (before ++ behind) found ≡ looked now left behind after
  past_front served room [] found read counted at =
      let same : found ≡ after = cc (read) in
      let its_room : room ≡ left = omega (arith, counted) in
      let here : served ≡ now = omega (arith, at) in
      ap (λ f. looked served room behind f) same ∙ ap (λ n. looked served n behind after) its_room ∙ ap (λ n. looked n left behind after) here
  past_front served room (line ∷ before) found read counted at =
      let rest = length before + left in
      let more : room ≡ suc rest = omega (arith, counted) in
      subst (λ n. looked served n (line ∷ (before ++ behind)) found ≡ looked now left behind after) (sym more)
      (past_line (served + 1) before (λ one. looked (served + 1) rest (before ++ behind) one) (found_with found line) read
      (λ one is. past_front (served + 1) rest before one is refl (omega (arith, at))))

found_by : (lines : List (List ℕ)) (after : Option Exhibit) → IsFoundIn None 0 lines after → looked 0 line_limit lines None ≡ Ok after
found_by lines after found =
    let room : line_limit ≡ length lines + (line_limit - length lines) = omega (arith, found.counted) in
    ap (λ ls. looked 0 line_limit ls None) (sym (append-nil lines))
    ∙ past_front (length lines) (line_limit - length lines) after [] 0 line_limit lines None found.read room (omega arith)

refused_by : (lines : List (List ℕ)) (number : ℕ) (kind : Kind) → IsRefusedIn None 0 lines number kind
    → looked 0 line_limit lines None ≡ Err (Refused number kind)
refused_by lines number kind it =
    let now = length it.before in
    let room : line_limit ≡ now + suc (line_limit - number) = omega (arith, it.numbered, it.counted) in
    ap (λ ls. looked 0 line_limit ls None) it.cut
    ∙ past_front now (suc (line_limit - number)) it.between (it.line ∷ it.behind) 0 line_limit it.before None it.read room (omega arith)
    ∙ ap (looked_on (now + 1) (λ one. looked (now + 1) (line_limit - number) it.behind one)) it.refused
    ∙ ap (λ n. Err (Refused n kind)) (omega (arith, it.numbered))

no_room : (now : ℕ) (behind : List (List ℕ)) (found : Option Exhibit) → 0 < length behind → looked now 0 behind found ≡ Err TooManyLines
no_room now [] found more = absurd (omega (arith, more))
no_room now (line ∷ behind) found more = refl

limited_by : (lines : List (List ℕ)) (after : Option Exhibit) → IsPastLimit None 0 lines after
    → looked 0 line_limit lines None ≡ Err TooManyLines
limited_by lines after it =
    let room : line_limit ≡ length it.before + 0 = omega (arith, it.counted) in
    ap (λ ls. looked 0 line_limit ls None) it.cut
    ∙ past_front (length it.before) 0 after it.behind 0 line_limit it.before None it.read room (omega arith)
    ∙ no_room (length it.before) it.behind after it.more

-- ---- two endings

module _ (formulas : Formulas) where
  -- the ending is that of what was found
  abbrev IsEndOf : Found → Ending → Type 0
  IsEndOf (Err stop) ending = ending ≡ Stopped stop
  IsEndOf (Ok None) ending = ending ≡ Stopped (Refused 0 Kind.Count)
  IsEndOf (Ok (Some shown)) ending = ((ending ≡ Holds) × IsExhibit formulas shown) ⊎ ((ending ≡ Fails) × (¬ IsExhibit formulas shown))

  one_end : (found : Found) (a b : Ending) → IsEndOf found a → IsEndOf found b → a ≡ b
  one_end (Err stop) a b it its = it ∙ sym its
  one_end (Ok None) a b it its = it ∙ sym its
  one_end (Ok (Some shown)) a b (inl it) (inl its) = it.0 ∙ sym its.0
  one_end (Ok (Some shown)) a b (inl it) (inr its) = absurd (its.1 it.1)
  one_end (Ok (Some shown)) a b (inr it) (inl its) = absurd (it.1 its.1)
  one_end (Ok (Some shown)) a b (inr it) (inr its) = it.0 ∙ sym its.0

  end_of : (ending : Ending) (bytes : List ℕ) (left : Option (List ℕ)) → ending ≢ Stopped ReadFault → IsChecked formulas ending bytes left
      → IsEndOf (looked 0 line_limit (lines_of bytes) None) ending
  end_of Holds bytes left pulled it =
      subst (λ f. IsEndOf f Holds) (sym (found_by (lines_of bytes) (Some it.shown) it.found)) (inl (refl, it.holds))
  end_of Fails bytes left pulled it =
      subst (λ f. IsEndOf f Fails) (sym (found_by (lines_of bytes) (Some it.shown) it.found)) (inr (refl, it.fails))
  end_of (Stopped Finished) bytes left pulled it = absurd it
  end_of (Stopped Memory) bytes left pulled it = absurd it
  end_of (Stopped Words) bytes left pulled it = absurd it
  end_of (Stopped WriteFault) bytes left pulled it = absurd it
  end_of (Stopped Shown) bytes left pulled it = absurd it
  end_of (Stopped ReadFault) bytes left pulled it = absurd (pulled refl)
  end_of (Stopped (Refused number kind)) bytes left pulled (inl it) =
      subst (λ f. IsEndOf f (Stopped (Refused number kind))) (sym (refused_by (lines_of bytes) number kind it)) refl
  end_of (Stopped (Refused number kind)) bytes left pulled (inr it) =
      subst (λ f. IsEndOf f (Stopped (Refused number kind))) (sym (found_by (lines_of bytes) None it.found))
      (ap₂ (λ n k. Stopped (Refused n k)) it.its_number it.its_kind)
  end_of (Stopped TooManyLines) bytes left pulled it =
      subst (λ f. IsEndOf f (Stopped TooManyLines)) (sym (limited_by (lines_of bytes) it.0 it.1)) refl

  -- checks of one trace, in which no pull failed, come to one ending
  pub checks_alike : (bytes : List ℕ) (a b : Ending) (left rest : Option (List ℕ)) → a ≢ Stopped ReadFault → b ≢ Stopped ReadFault
      → IsChecked formulas a bytes left → IsChecked formulas b bytes rest → a ≡ b
  checks_alike bytes a b left rest pulled pulled_too it its =
      one_end (looked 0 line_limit (lines_of bytes) None) a b (end_of a bytes left pulled it) (end_of b bytes rest pulled_too its)
