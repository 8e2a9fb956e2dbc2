-- Laws of the index of the lines made: it stays true as an entry follows.
use Rattle.std.proofs.Common.{ℕ, zero, suc, ◌≡◌, ◌≢◌, ◌<◌, ◌≤◌, ◌+◌, Bool, true, false, cond, eqb, List, [], ◌∷◌, ◌++◌, length, get_or, set, replicate, Option, Some, None, ◌⊎◌, inl, inr, refl, sym, ap, ◌∙◌, subst, add-one, arith}
use Rattle.std.specs.Prelude.{find, option_map, slice_get, slice_index, ◌==◌, if◌then◌else◌}
use Rattle.std.proofs.lemmas.Bool.{cases_eq, eq-eqb, ne_eqb, eqb-true, eqb-false}
use Rattle.std.proofs.lemmas.List.{length-append, length-set, length-replicate, get_or-set_other, get_or-replicate, set-get_or}
use Rattle.std.proofs.lemmas.Grind.{get_or-set_at}
use Rattle.std.proofs.lemmas.Option.{slice_get-get_or}
use Rattle.pmem_base.specs.declared.lines.Line.{Line}
use Rattle.pmem_recovery.specs.declared.entries.MadeEntry.{MadeEntry}
use Rattle.pmem_recovery.specs.Upward.{line_made}
use Rattle.pmem_recovery.specs.Made.{numbered_line, IsIndexed}

-- ---- one more entry

slice_get-front : (entries : List MadeEntry) (entry : MadeEntry) (n : ℕ) → n < length entries → slice_get (entries ++ entry ∷ []) n ≡ slice_get entries n
slice_get-front [] entry n low = absurd (omega (arith, low))
slice_get-front (first ∷ entries) entry zero low = refl
slice_get-front (first ∷ entries) entry (suc n) low = slice_get-front entries entry n (omega (arith, low))

slice_get-last : (entries : List MadeEntry) (entry : MadeEntry) → slice_get (entries ++ entry ∷ []) (length entries) ≡ Some entry
slice_get-last [] entry = refl
slice_get-last (first ∷ entries) entry = slice_get-last entries entry

numbered_line-kept : (entries : List MadeEntry) (entry : MadeEntry) (n : ℕ) → n ≤ length entries → numbered_line (entries ++ entry ∷ []) n ≡ numbered_line entries n
numbered_line-kept entries entry zero low = refl
numbered_line-kept entries entry (suc n) low = ap (λ (o : Option MadeEntry). option_map (λ (e : MadeEntry). e.line) o) (slice_get-front entries entry n (omega (arith, low)))

numbered_line-last : (entries : List MadeEntry) (entry : MadeEntry) → numbered_line (entries ++ entry ∷ []) (suc (length entries)) ≡ Some entry.line
numbered_line-last entries entry = ap (λ (o : Option MadeEntry). option_map (λ (e : MadeEntry). e.line) o) (slice_get-last entries entry)

-- the first of two lines
abbrev first_line : Option Line → Option Line → Option Line
first_line None other = other
first_line (Some line) other = Some line

-- the line of an entry, if it is for x
abbrev line_for : MadeEntry → ℕ → Option Line
line_for entry x = option_map (λ (e : MadeEntry). e.line) (cond (eqb entry.at x) (Some entry) None)

line_made-push : (entries : List MadeEntry) (entry : MadeEntry) (x : ℕ) → line_made (entries ++ entry ∷ []) x ≡ first_line (line_made entries x) (line_for entry x)
line_made-push [] entry x = refl
line_made-push (first ∷ entries) entry x = by (eqb first.at x) (line_made-push entries entry x)
  where
    by : (b : Bool) → line_made (entries ++ entry ∷ []) x ≡ first_line (line_made entries x) (line_for entry x)
        → option_map (λ (e : MadeEntry). e.line) (cond b (Some first) (find (λ (e : MadeEntry). eqb e.at x) (entries ++ entry ∷ [])))
        ≡ first_line (option_map (λ (e : MadeEntry). e.line) (cond b (Some first) (find (λ (e : MadeEntry). eqb e.at x) entries))) (line_for entry x)
    by true again = refl
    by false again = again

-- for another position
line_made-other : (entries : List MadeEntry) (entry : MadeEntry) (x : ℕ) → entry.at ≢ x → line_made (entries ++ entry ∷ []) x ≡ line_made entries x
line_made-other entries entry x differ =
    line_made-push entries entry x
    ∙ ap (λ (b : Bool). first_line (line_made entries x) (option_map (λ (e : MadeEntry). e.line) (cond b (Some entry) None))) (ne_eqb entry.at x differ)
    ∙ none (line_made entries x)
  where
    none : (o : Option Line) → first_line o None ≡ o
    none None = refl
    none (Some line) = refl

-- for a position that has a line
line_made-kept : (entries : List MadeEntry) (entry : MadeEntry) (x : ℕ) (line : Line) → line_made entries x ≡ Some line → line_made (entries ++ entry ∷ []) x ≡ Some line
line_made-kept entries entry x line made = line_made-push entries entry x ∙ ap (λ (o : Option Line). first_line o (line_for entry x)) made

-- for one that has none
line_made-new : (entries : List MadeEntry) (entry : MadeEntry) → line_made entries entry.at ≡ None → line_made (entries ++ entry ∷ []) entry.at ≡ Some entry.line
line_made-new entries entry none =
    line_made-push entries entry entry.at
    ∙ ap (λ (o : Option Line). first_line o (line_for entry entry.at)) none
    ∙ ap (λ (b : Bool). option_map (λ (e : MadeEntry). e.line) (cond b (Some entry) None)) (eq-eqb entry.at entry.at refl)

-- ---- the index

-- no line is made
pub IsIndexed-none : (entries : List MadeEntry) (n : ℕ) (numbers : List ℕ) → entries ≡ [] → numbers ≡ replicate n 0 → IsIndexed entries numbers
IsIndexed-none entries n numbers none are =
    subst (λ (made : List MadeEntry). IsIndexed made numbers) (sym none)
    (subst (λ (kept : List ℕ). IsIndexed [] kept) (sym are)
    (record {
      each = λ x low.
          let zero_there : slice_index (replicate n 0) x ≡ 0 = get_or-replicate n x 0 0 (subst (λ m. x < m) (length-replicate n 0) low) in
          (omega (arith, zero_there), ap (numbered_line []) zero_there);
    }))

-- a number above 0 has an entry
numbered_some : (entries : List MadeEntry) (n : ℕ) → n < length entries → (entry : MadeEntry) × (slice_get entries n ≡ Some entry)
numbered_some [] n low = absurd (omega (arith, low))
numbered_some (first ∷ entries) zero low = (first, refl)
numbered_some (first ∷ entries) (suc n) low = numbered_some entries n (omega (arith, low))

-- the position has a line already
IsIndexed-again : (entries : List MadeEntry) (entry : MadeEntry) (numbers : List ℕ) → IsIndexed entries numbers → entry.at < length numbers
    → slice_index numbers entry.at ≢ 0 → IsIndexed (entries ++ entry ∷ []) numbers
IsIndexed-again entries entry numbers its inside some =
    record {
      each = λ x low.
          let here = its.each x low in
          let long = length-append entries (entry ∷ []) in
          (omega (arith, here.0, long), numbered_line-kept entries entry (slice_index numbers x) here.0 ∙ here.1 ∙ sym (same x low (cases_eq x entry.at)));
    }
  where
    had : (n : ℕ) → n ≢ 0 → n ≤ length entries → numbered_line entries n ≡ line_made entries entry.at → line_made (entries ++ entry ∷ []) entry.at ≡ line_made entries entry.at
    had zero above low its_line = absurd (above refl)
    had (suc n) above low its_line =
        let found = numbered_some entries n (omega (arith, low)) in
        let line : line_made entries entry.at ≡ Some (found.0).line = sym its_line ∙ ap (λ (o : Option MadeEntry). option_map (λ (e : MadeEntry). e.line) o) found.1 in
        line_made-kept entries entry entry.at (found.0).line line ∙ sym line

    same : (x : ℕ) → x < length numbers → (x ≡ entry.at) ⊎ (x ≡ entry.at → ⊥) → line_made (entries ++ entry ∷ []) x ≡ line_made entries x
    same x low (inl is) =
        let at = its.each entry.at inside in
        subst (λ y. line_made (entries ++ entry ∷ []) y ≡ line_made entries y) (sym is) (had (slice_index numbers entry.at) some at.0 at.1)
    same x low (inr differ) = line_made-other entries entry x (λ e. differ (sym e))

-- it has none: its number is that of the entry
IsIndexed-more : (entries : List MadeEntry) (entry : MadeEntry) (numbers : List ℕ) → IsIndexed entries numbers → entry.at < length numbers
    → slice_index numbers entry.at ≡ 0 → (n : ℕ) → n ≡ length entries + 1 → IsIndexed (entries ++ entry ∷ []) (set numbers entry.at n)
IsIndexed-more entries entry numbers its inside none n is =
    record { each = λ x low. at x (subst (λ m. x < m) (length-set numbers entry.at n) low) (cases_eq x entry.at) }
  where
    number : n ≡ suc (length entries)
    number = is ∙ add-one (length entries)

    at : (x : ℕ) → x < length numbers → (x ≡ entry.at) ⊎ (x ≡ entry.at → ⊥)
        → (slice_index (set numbers entry.at n) x ≤ length (entries ++ entry ∷ []))
        × (numbered_line (entries ++ entry ∷ []) (slice_index (set numbers entry.at n) x) ≡ line_made (entries ++ entry ∷ []) x)
    at x low (inl same) =
        let here : slice_index (set numbers entry.at n) x ≡ n = get_or-set_at numbers entry.at x n 0 same inside in
        let long = length-append entries (entry ∷ []) in
        let before : line_made entries entry.at ≡ None = sym (its.each entry.at inside).1 ∙ ap (numbered_line entries) none in (
          omega (arith, here, is, long),
          ap (numbered_line (entries ++ entry ∷ [])) (here ∙ number) ∙ numbered_line-last entries entry
              ∙ sym (line_made-new entries entry before) ∙ ap (line_made (entries ++ entry ∷ [])) (sym same),
        )
    at x low (inr differ) =
        let there = its.each x low in
        let here : slice_index (set numbers entry.at n) x ≡ slice_index numbers x = get_or-set_other numbers entry.at x n 0 differ in
        let long = length-append entries (entry ∷ []) in (
          omega (arith, here, there.0, long),
          ap (numbered_line (entries ++ entry ∷ [])) here ∙ numbered_line-kept entries entry (slice_index numbers x) there.0 ∙ there.1
              ∙ sym (line_made-other entries entry x (λ e. differ (sym e))),
        )

-- the number of a position that gets a second one is the first
pub IsIndexed-push : (entries : List MadeEntry) (entry : MadeEntry) (numbers : List ℕ) → IsIndexed entries numbers → entry.at < length numbers
    → (n old now : ℕ) → n ≡ length entries + 1 → old ≡ slice_index numbers entry.at → now ≡ (if old == 0 then n else old)
    → IsIndexed (entries ++ entry ∷ []) (set numbers entry.at now)
IsIndexed-push entries entry numbers its inside n old now next read is = by (old == 0) refl is
  where
    by : (new : Bool) → (old == 0) ≡ new → now ≡ (if new then n else old) → IsIndexed (entries ++ entry ∷ []) (set numbers entry.at now)
    by true none it =
        subst (λ (m : ℕ). IsIndexed (entries ++ entry ∷ []) (set numbers entry.at m)) (sym it)
        (IsIndexed-more entries entry numbers its inside (sym read ∙ eqb-true old 0 none) n next)
    by false some it =
        subst (λ (kept : List ℕ). IsIndexed (entries ++ entry ∷ []) kept)
        (sym (ap (λ (m : ℕ). set numbers entry.at m) (it ∙ read) ∙ set-get_or numbers entry.at 0))
        (IsIndexed-again entries entry numbers its inside (λ zero. eqb-false old 0 some (read ∙ zero)))

-- ---- the line of a number

pub numbered_at : (entries : List MadeEntry) (j n : ℕ) (other : MadeEntry) → n ≡ j + 1 → n ≤ length entries
    → Some ((get_or entries j other).line) ≡ numbered_line entries n
numbered_at entries j n other is few =
    sym (ap (λ (o : Option MadeEntry). option_map (λ (e : MadeEntry). e.line) o) (slice_get-get_or entries j other (omega (arith, is, few))))
    ∙ ap (numbered_line entries) (sym (is ∙ add-one j))
