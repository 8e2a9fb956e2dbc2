-- Own seals among the marks of writes: each write that is done has one of its own line, and no other mark is one.
use Rattle.std.proofs.Common.{rules, ℕ, ◌≡◌, ◌≤◌, ◌+◌, ◌-◌, ◌*◌, ◌++◌, inl, inr, Bool, true, false, List, [], ◌∷◌, length, map, take, drop, Option, Some, None, IsTrue, refl, sym, ap, ◌∙◌, arith}
use Rattle.std.specs.Prelude.{All, IsSome, ◌||◌, ◌&&◌, ◌==◌, nat_lt, unwrap_or, option_map, option_and_then, is_none, slice_get}
use Rattle.std.specs.List.{list_any}
use Rattle.std.proofs.lemmas.Option.{same_Some, none-some}
use Rattle.std.proofs.lemmas.Bool.{or_parts, or_from, or_left, or_right, eq-eqb, ne_eqb, lt-ltb, ltb-true}
use Rattle.std.proofs.lemmas.List.{length-append, length-drop, take_at, take_all, take-append-le, take-append-drop, nil_from_length}
use Rattle.std.proofs.lemmas.List.Elements.{All-head, All-tail}
use Rattle.std.proofs.lemmas.List.Folds.{list_any-append}
use Rattle.pmem_base.specs.declared.commands.Posted.{Posted}
use Rattle.pmem_base.specs.declared.answers.Mark.{Mark}
use Rattle.pmem_base.specs.declared.answers.Mark.TheVariants.{Begin}
use Rattle.pmem_base.specs.Layout.{page_of}
use Rattle.suite.specs.Formulas.{Formulas}
use Rattle.plain_model.specs.View.{OpenPage, open_page}
use Rattle.plain_model.specs.Asked.{Moment, seal_mark, reseal_mark, finishing_marks_of, page_to_finish, marks_of_write, marks_of_writes, moment_after, moment_after_writes}
use Rattle.plain_model.specs.Fits.{drained_marks, next_marks, marks_in_flight, marks_still_asked, IsStopped}
use Rattle.engine_lines.specs.Writes.{Writing, is_own_seal, IsCutAmong}
use Rattle.engine_lines.proofs.AskedWrites.{EndsOwn, ends_own}

-- ---- one write

and_false : (b : Bool) → (b && false) ≡ false
and_false true = refl
and_false false = refl

-- a line that is only resealed has no own seal
reseals_none : (f : Formulas) (now : Moment) (page a : ℕ) (left : List ℕ) → list_any (is_own_seal a) (map (reseal_mark f now page) left) ≡ false
reseals_none f now page a [] = refl
reseals_none f now page a (i ∷ left) =
    or_from (is_own_seal a (reseal_mark f now page i)) (list_any (is_own_seal a) (map (reseal_mark f now page) left))
    (and_false (64 * page + i == a)) (reseals_none f now page a left)

finishing_none : (f : Formulas) (now : Moment) (a : ℕ) (opened : Option OpenPage) → list_any (is_own_seal a) (finishing_marks_of f now opened) ≡ false
finishing_none f now a None = refl
finishing_none f now a (Some opened) = reseals_none f now opened.page a opened.left

-- marks that end with a write's own seal, before which there is none of any line
abbrev HasNoOwn : List Mark → Type 0
HasNoOwn front = (a : ℕ) → list_any (is_own_seal a) front ≡ false

one_own : (f : Formulas) (now : Moment) (write : Posted) (marks : List Mark) → marks_of_write f now write ≡ Some marks → EndsOwn f write.at HasNoOwn marks
one_own f now write marks asked =
    ends_own f now write HasNoOwn marks (λ a. refl)
    (λ free a.
    list_any-append (is_own_seal a) finishing (Begin (page_of write.at) ∷ [])
    ∙ or_from (list_any (is_own_seal a) finishing) false
    (finishing_none f now a (page_to_finish now.view (open_page now.view (page_of write.at)))) refl) asked
  where
    finishing : List Mark
    finishing = finishing_marks_of f now (page_to_finish now.view (open_page now.view (page_of write.at)))

-- one of its own line
own_there : (f : Formulas) (at : ℕ) (marks : List Mark) → EndsOwn f at HasNoOwn marks → list_any (is_own_seal at) marks ≡ true
own_there f at marks are =
    ap (list_any (is_own_seal at)) are.form
    ∙ list_any-append (is_own_seal at) are.front (own ∷ [])
    ∙ or_right (list_any (is_own_seal at) are.front) (list_any (is_own_seal at) (own ∷ []))
    (or_left (at == at && nat_lt 0 are.ctr.minor) false
    (ap (λ b. b && nat_lt 0 are.ctr.minor) (eq-eqb at at refl) ∙ lt-ltb 0 are.ctr.minor are.minor))
  where
    own : Mark
    own = seal_mark f at are.ctr are.plain

-- and none of another
other_none : (f : Formulas) (at a : ℕ) (marks : List Mark) → EndsOwn f at HasNoOwn marks → (at ≡ a → ⊥) → list_any (is_own_seal a) marks ≡ false
other_none f at a marks are other =
    ap (list_any (is_own_seal a)) are.form
    ∙ list_any-append (is_own_seal a) are.front (own ∷ [])
    ∙ or_from (list_any (is_own_seal a) are.front) (list_any (is_own_seal a) (own ∷ [])) (are.before a)
    (or_from (at == a && nat_lt 0 are.ctr.minor) false (ap (λ b. b && nat_lt 0 are.ctr.minor) (ne_eqb at a other)) refl)
  where
    own : Mark
    own = seal_mark f at are.ctr are.plain

-- ---- several

-- the marks of the first of them, and of those after it
record SplitsOff (f : Formulas) (now : Moment) (first : Posted) (writes : List Posted) (made : List Mark) : Type 0 where
  here : List Mark
  later : List Mark
  one : marks_of_write f now first ≡ Some here
  rest : marks_of_writes f (moment_after f now first) writes ≡ Some later
  both : made ≡ here ++ later

splits_off : (f : Formulas) (now : Moment) (first : Posted) (writes : List Posted) (made : List Mark)
    → marks_of_writes f now (first ∷ writes) ≡ Some made → SplitsOff f now first writes made
splits_off f now first writes made it = by_first (marks_of_write f now first) refl it
  where
    by_rest : (here : List Mark) → marks_of_write f now first ≡ Some here → (rest : Option (List Mark))
        → marks_of_writes f (moment_after f now first) writes ≡ rest → option_map (λ later. here ++ later) rest ≡ Some made
        → SplitsOff f now first writes made
    by_rest here one None there same = absurd (none-some made same)
    by_rest here one (Some later) there same =
        record { here = here; later = later; one = one; rest = there; both = sym (same_Some (here ++ later) made same) }

    by_first : (one : Option (List Mark)) → marks_of_write f now first ≡ one
        → option_and_then (λ here. option_map (λ later. here ++ later) (marks_of_writes f (moment_after f now first) writes)) one ≡ Some made
        → SplitsOff f now first writes made
    by_first None there same = absurd (none-some made same)
    by_first (Some here) there same = by_rest here there (marks_of_writes f (moment_after f now first) writes) refl same

-- writes of other lines
pub writes_none : (f : Formulas) (now : Moment) (writes : List Posted) (made : List Mark) (a : ℕ) → marks_of_writes f now writes ≡ Some made
    → All (λ (w : Posted). w.at ≡ a → ⊥) writes → list_any (is_own_seal a) made ≡ false
writes_none f now [] made a it others = ap (list_any (is_own_seal a)) (sym (same_Some [] made it))
writes_none f now (first ∷ writes) made a it others =
    let parts = splits_off f now first writes made it in
    ap (list_any (is_own_seal a)) parts.both ∙ list_any-append (is_own_seal a) parts.here parts.later
    ∙ or_from (list_any (is_own_seal a) parts.here) (list_any (is_own_seal a) parts.later)
    (other_none f first.at a parts.here (one_own f now first parts.here parts.one) (All-head (λ (w : Posted). w.at ≡ a → ⊥) first writes others))
    (writes_none f (moment_after f now first) writes parts.later a parts.rest (All-tail (λ (w : Posted). w.at ≡ a → ⊥) first writes others))

-- a write of the line among them
pub writes_own : (f : Formulas) (now : Moment) (before : List Posted) (write : Posted) (after : List Posted) (made : List Mark)
    → marks_of_writes f now (before ++ write ∷ after) ≡ Some made → list_any (is_own_seal write.at) made ≡ true
writes_own f now [] write after made it =
    let parts = splits_off f now write after made it in
    ap (list_any (is_own_seal write.at)) parts.both ∙ list_any-append (is_own_seal write.at) parts.here parts.later
    ∙ or_left (list_any (is_own_seal write.at) parts.here) (list_any (is_own_seal write.at) parts.later)
    (own_there f write.at parts.here (one_own f now write parts.here parts.one))
writes_own f now (first ∷ before) write after made it =
    let parts = splits_off f now first (before ++ write ∷ after) made it in
    ap (list_any (is_own_seal write.at)) parts.both ∙ list_any-append (is_own_seal write.at) parts.here parts.later
    ∙ or_right (list_any (is_own_seal write.at) parts.here) (list_any (is_own_seal write.at) parts.later)
    (writes_own f (moment_after f now first) before write after parts.later parts.rest)

-- ---- a write that isn't done

-- the first marks of a write, but not all of them, are no own seals
front_none : (f : Formulas) (a : ℕ) (asked : Option (List Mark)) (made left : List Mark)
    → ((marks : List Mark) → asked ≡ Some marks → (at : ℕ) × EndsOwn f at HasNoOwn marks) → unwrap_or asked [] ≡ made ++ left
    → IsTrue (is_none asked || nat_lt 0 (length left)) → list_any (is_own_seal a) made ≡ false
front_none f a None made left own front some =
    let short : length made ≡ 0 = omega (arith, ap length front, length-append made left) in
    ap (list_any (is_own_seal a)) (nil_from_length made short)
front_none f a (Some marks) made left own front some =
    let found = own marks refl in
    let are = found.1 in
    let ending : List Mark = seal_mark f found.0 are.ctr are.plain ∷ [] in
    let same : made ++ left ≡ are.front ++ ending = sym front ∙ are.form in
    let short : length made ≤ length are.front =
    omega (arith, ap length same, length-append made left, length-append are.front ending, ltb-true 0 (length left) some) in
    let its : made ≡ take (length made) are.front =
    sym (take_at made left (length made) refl) ∙ ap (take (length made)) same ∙ take-append-le (length made) are.front ending short in
    let both : (list_any (is_own_seal a) (take (length made) are.front) || list_any (is_own_seal a) (drop (length made) are.front)) ≡ false =
    sym (list_any-append (is_own_seal a) (take (length made) are.front) (drop (length made) are.front))
    ∙ ap (list_any (is_own_seal a)) (take-append-drop (length made) are.front) ∙ are.before a in
    ap (list_any (is_own_seal a)) its
    ∙ (or_parts (list_any (is_own_seal a) (take (length made) are.front)) (list_any (is_own_seal a) (drop (length made) are.front)) both).0

module _ (f : Formulas) (now : Moment) (queue : List Posted) (n : ℕ) (made : List Mark) (it : IsStopped f now queue n made) where
  next_own : (found : Option Posted) (marks : List Mark)
      → option_and_then (marks_of_write f (moment_after_writes f now (take n queue))) found ≡ Some marks → (at : ℕ) × EndsOwn f at HasNoOwn marks
  next_own None marks is = absurd (none-some marks is)
  next_own (Some write) marks is = (write.at, one_own f (moment_after_writes f now (take n queue)) write marks is)

  flight_none : (a : ℕ) → list_any (is_own_seal a) (marks_in_flight f now queue n made) ≡ false
  flight_none a =
      front_none f a (next_marks f now queue n) (marks_in_flight f now queue n made) (marks_still_asked f now queue n made)
      (λ marks is. next_own (slice_get queue n) marks is) it.begun it.not_done

  pub stopped_as : (a : ℕ) (done : List Mark) (b : Bool) → drained_marks f now queue n ≡ Some done → list_any (is_own_seal a) done ≡ b
      → list_any (is_own_seal a) made ≡ b
  stopped_as a done b drained is =
      ap (list_any (is_own_seal a)) it.all_drained
      ∙ list_any-append (is_own_seal a) (unwrap_or (drained_marks f now queue n) []) (marks_in_flight f now queue n made)
      ∙ ap (λ o. list_any (is_own_seal a) (unwrap_or o []) || list_any (is_own_seal a) (marks_in_flight f now queue n made)) drained
      ∙ ap (λ t. list_any (is_own_seal a) done || t) (flight_none a)
      ∙ ap (λ t. t || false) is ∙ or_false b
    where
      or_false : (b : Bool) → (b || false) ≡ b
      or_false true = refl
      or_false false = refl

-- ---- a command that was cut

some_marks : (found : Option (List Mark)) → IsSome found → (made : List Mark) × (found ≡ Some made)
some_marks None is = absurd (search (rules, is))
some_marks (Some made) is = (made, refl)

module _ (f : Formulas) (now : Moment) (queue : List Posted) (writing : Writing) (a : ℕ) (b : Bool)
    (each : (made : List Mark) → drained_marks f now queue writing.done ≡ Some made → list_any (is_own_seal a) made ≡ b) where
  -- an own seal is among its marks as it is among those of the writes that are done
  pub own_at_cut : IsCutAmong f now queue writing → list_any (is_own_seal a) writing.made ≡ b
  own_at_cut (inl all) = each writing.made all.1
  own_at_cut (inr stop) =
      let found = some_marks (drained_marks f now queue writing.done) stop.none_spent in
      stopped_as f now queue writing.done writing.made stop a found.0 b found.1 (each found.0 found.1)

-- the marks of a list's end, as the program takes them
pub own_marks : (result : Bool) (own a : ℕ) (from marks old now : List Mark)
    → result ≡ list_any (is_own_seal own) (take (length marks - length from) (drop (length from) marks)) → own ≡ a → from ≡ old → marks ≡ now
    → result ≡ list_any (is_own_seal a) (drop (length old) now)
own_marks result own a from marks old now is same_own same_from same_marks =
    is
    ∙ ap (list_any (is_own_seal own)) (take_all (length marks - length from) (drop (length from) marks) (omega (arith, length-drop (length from) marks)))
    ∙ ap (λ o. list_any (is_own_seal o) (drop (length from) marks)) same_own
    ∙ ap (λ (l : List Mark). list_any (is_own_seal a) (drop (length l) marks)) same_from
    ∙ ap (λ (l : List Mark). list_any (is_own_seal a) (drop (length old) l)) same_marks
