-- The marks that a write asks: its own seal comes last, and no mark before it seals its line.
use Rattle.std.proofs.Common.{ℕ, ◌≡◌, ◌<◌, ◌≤◌, ◌+◌, ◌-◌, ◌*◌, ◌++◌, ◌^◌, inl, inr, Bool, true, false, cond, List, [], ◌∷◌, length, map, take, drop, Option, Some, None, IsTrue, refl, sym, ap, subst, ◌∙◌, arith}
use Rattle.std.specs.Prelude.{⊤, MatchOption, All, ◌||◌, ◌==◌, nat_lt, nat_le, unwrap_or, is_none}
use Rattle.std.specs.List.{list_any}
use Rattle.std.proofs.lemmas.Option.{same_Some, none-some}
use Rattle.std.proofs.lemmas.Bool.{true≢false, cases_Bool, or_parts, or_from, or_left, or_right, eq-eqb, ne_eqb, ltb-true}
use Rattle.std.proofs.lemmas.List.{append_assoc, length-append, length-map, take_at, take-append-le, take-append-drop, nil_from_length}
use Rattle.std.proofs.lemmas.List.Elements.{All-head, All-tail, All-cons, All-nil, All-append}
use Rattle.std.proofs.lemmas.List.Folds.{list_any-append}
use Rattle.pmem_base.specs.declared.lines.Line.{Line}
use Rattle.pmem_base.specs.declared.lines.Ctr.{Ctr}
use Rattle.pmem_base.specs.declared.commands.Posted.{Posted}
use Rattle.pmem_base.specs.declared.answers.Mark.{Mark}
use Rattle.pmem_base.specs.declared.answers.Mark.TheVariants.{Begin, Seal}
use Rattle.pmem_base.specs.Shape.{Shape}
use Rattle.pmem_base.specs.Layout.{pages, data_lines, page_of, index_in_page}
use Rattle.pmem_base.specs.Lines.{line_at}
use Rattle.pmem_base.specs.WaitingWrites.{put_write}
use Rattle.pmem_base.proofs.ListLaws.{find_found, All-append_right}
use Rattle.suite.specs.Formulas.{Formulas}
use Rattle.plain_model.specs.View.{DeviceView, OpenPage, counter_at, open_page, is_left, is_left_in}
use Rattle.plain_model.specs.Asked.{Moment, seal_mark, next_major, reseal_mark, finishing_marks_of, page_to_finish, first_of, marks_of_write}
use Rattle.pmem_engine.specs.Outcomes.{is_seal_of, is_sealed_by}
use Rattle.pmem_engine.specs.Calls.{IsPartOf, IsRefusedLine}
use Rattle.plain_model.specs.Fits.{IsResealOf}
use Rattle.pmem_replay.proofs.Marks.OpenPages.{IsWholePage}

-- marks that end with the own seal of a write
pub record IsAsked (f : Formulas) (write : Posted) (marks : List Mark) : Type 0 where
  pub front : List Mark
  pub ctr : Ctr
  pub plain : Line
  pub form : marks ≡ front ++ seal_mark f write.at ctr plain ∷ []
  pub apart : is_sealed_by front write.at ≡ false
  pub few : length front ≤ 65

-- a page of which the line isn't left: the finishing marks of it don't seal the line
record IsPageApart (g : Shape) (a : ℕ) (opened : OpenPage) : Type 0 where
  whole : IsWholePage g opened
  not_left : cond (opened.page == page_of a) (is_left_in opened (index_in_page a)) false ≡ false

apart_page : (f : Formulas) (now : Moment) (page a : ℕ) (left : List ℕ) → All (λ i. i < 64) left
    → cond (page == page_of a) (list_any (λ j. j == index_in_page a) left) false ≡ false
    → is_sealed_by (map (reseal_mark f now page) left) a ≡ false
apart_page f now page a [] small apart = refl
apart_page f now page a (i ∷ left) small apart =
    or_from (64 * page + i == a) (is_sealed_by (map (reseal_mark f now page) left) a)
    (ne_eqb (64 * page + i) a other)
    (apart_page f now page a left (All-tail (λ i. i < 64) i left small) rest)
  where
    within : i < 64
    within = All-head (λ i. i < 64) i left small

    other : 64 * page + i ≡ a → ⊥
    other same =
        let its : page ≡ page_of a = omega (arith, same, within) in
        let place : i ≡ index_in_page a = omega (arith, same, within) in
        true≢false (sym (ap (λ b. cond b (list_any (λ j. j == index_in_page a) (i ∷ left)) false) (eq-eqb page (page_of a) its)
        ∙ or_left (i == index_in_page a) (list_any (λ j. j == index_in_page a) left) (eq-eqb i (index_in_page a) place)) ∙ apart)

    rest : cond (page == page_of a) (list_any (λ j. j == index_in_page a) left) false ≡ false
    rest =
        elim (cases_Bool (page == page_of a)) [
          | inl its ↦
              let both : (i == index_in_page a || list_any (λ j. j == index_in_page a) left) ≡ false =
              sym (ap (λ b. cond b (list_any (λ j. j == index_in_page a) (i ∷ left)) false) its) ∙ apart in
              ap (λ b. cond b (list_any (λ j. j == index_in_page a) left) false) its
              ∙ (or_parts (i == index_in_page a) (list_any (λ j. j == index_in_page a) left) both).1
          | inr not_its ↦ ap (λ b. cond b (list_any (λ j. j == index_in_page a) left) false) not_its
        ]

apart_marks : (g : Shape) (f : Formulas) (now : Moment) (a : ℕ) (opened : Option OpenPage)
    → MatchOption opened ⊤ (IsPageApart g a) → is_sealed_by (finishing_marks_of f now opened) a ≡ false
apart_marks g f now a None it = refl
apart_marks g f now a (Some opened) it = apart_page f now opened.page a opened.left it.whole.places it.not_left

few_marks : (g : Shape) (f : Formulas) (now : Moment) (a : ℕ) (opened : Option OpenPage)
    → MatchOption opened ⊤ (IsPageApart g a) → length (finishing_marks_of f now opened) ≤ 64
few_marks g f now a None it = omega arith
few_marks g f now a (Some opened) it =
    omega (arith, length-map opened.left (reseal_mark f now opened.page), it.whole.count)

-- each of the pages is one of which the line isn't left
each_apart : (g : Shape) (a : ℕ) (pages : List OpenPage) → All (IsWholePage g) pages
    → list_any (λ opened. cond (opened.page == page_of a) (is_left_in opened (index_in_page a)) false) pages ≡ false
    → All (IsPageApart g a) pages
each_apart g a [] whole none = All-nil (IsPageApart g a)
each_apart g a (opened ∷ pages) whole none =
    let parts = or_parts (cond (opened.page == page_of a) (is_left_in opened (index_in_page a)) false)
    (list_any (λ opened. cond (opened.page == page_of a) (is_left_in opened (index_in_page a)) false) pages) none in
    All-cons (IsPageApart g a) opened pages
    (record { whole = All-head (IsWholePage g) opened pages whole; not_left = parts.0 })
    (each_apart g a pages (All-tail (IsWholePage g) opened pages whole) parts.1)

-- what is said of each open page is said of the one that is to be finished
finished_page : (P : OpenPage → Type 0) (page : ℕ) (view : DeviceView) → All P view.open_pages
    → MatchOption (page_to_finish view (open_page view page)) ⊤ P
finished_page P page view each = of_page (open_page view page) refl
  where
    first_is : (pages : List OpenPage) → All P pages → MatchOption (first_of pages) ⊤ P
    first_is [] each = tt
    first_is (opened ∷ pages) each = All-head P opened pages each

    oldest : (b : Bool) → MatchOption (cond b (first_of view.open_pages) None) ⊤ P
    oldest true = first_is view.open_pages each
    oldest false = tt

    of_page : (found : Option OpenPage) → open_page view page ≡ found → MatchOption (page_to_finish view found) ⊤ P
    of_page None none = oldest (nat_le 4 (length view.open_pages))
    of_page (Some opened) there = (find_found (λ opened. opened.page == page) P view.open_pages opened each there).1

-- the marks asked have that form
pub asked_form : (g : Shape) (f : Formulas) (now : Moment) (write : Posted) (marks : List Mark)
    → All (IsWholePage g) now.view.open_pages → marks_of_write f now write ≡ Some marks → IsAsked f write marks
asked_form g f now write marks whole asked =
    by_case (is_left now.view write.at) (nat_lt last.minor 127) (last.major == 2 ^ 64 - 1) refl asked
  where
    last : Ctr
    last = counter_at now.view write.at

    plain : Line
    plain = put_write (line_at now.memory write.at) write

    finishing : List Mark
    finishing = finishing_marks_of f now (page_to_finish now.view (open_page now.view (page_of write.at)))

    alone : (ctr : Ctr) → Some (seal_mark f write.at ctr plain ∷ []) ≡ Some marks → IsAsked f write marks
    alone ctr it =
        record {
          front = [];
          ctr = ctr;
          plain = plain;
          form = sym (same_Some (seal_mark f write.at ctr plain ∷ []) marks it);
          apart = refl;
          few = omega arith;
        }

    rolled : is_left now.view write.at ≡ false
        → Some (finishing ++ Begin (page_of write.at) ∷ seal_mark f write.at (next_major last 1) plain ∷ []) ≡ Some marks
        → IsAsked f write marks
    rolled free it =
        let page = finished_page (IsPageApart g write.at) (page_of write.at) now.view (each_apart g write.at now.view.open_pages whole free) in
        record {
          front = finishing ++ Begin (page_of write.at) ∷ [];
          ctr = next_major last 1;
          plain = plain;
          form =
              sym (same_Some (finishing ++ Begin (page_of write.at) ∷ seal_mark f write.at (next_major last 1) plain ∷ []) marks it)
              ∙ sym (append_assoc finishing (Begin (page_of write.at) ∷ []) (seal_mark f write.at (next_major last 1) plain ∷ []));
          apart =
              list_any-append (is_seal_of write.at) finishing (Begin (page_of write.at) ∷ [])
              ∙ or_from (is_sealed_by finishing write.at) false
              (apart_marks g f now write.at (page_to_finish now.view (open_page now.view (page_of write.at))) page) refl;
          few =
              omega (
                arith,
                length-append finishing (Begin (page_of write.at) ∷ []),
                few_marks g f now write.at (page_to_finish now.view (open_page now.view (page_of write.at))) page,
              );
        }

    by_case : (held low used : Bool) → is_left now.view write.at ≡ held
        → cond held (Some (seal_mark f write.at (next_major last 1) plain ∷ []))
        (cond low (Some (seal_mark f write.at (record last { minor = last.minor + 1 }) plain ∷ []))
        (cond used None (Some (finishing ++ Begin (page_of write.at) ∷ seal_mark f write.at (next_major last 1) plain ∷ []))))
        ≡ Some marks
        → IsAsked f write marks
    by_case true low used held it = alone (next_major last 1) it
    by_case false true used held it = alone (record last { minor = last.minor + 1 }) it
    by_case false false true held it = absurd (none-some marks it)
    by_case false false false held it = rolled held it

-- all of them seal the line
pub asked_seals : (f : Formulas) (write : Posted) (marks : List Mark) → IsAsked f write marks → is_sealed_by marks write.at ≡ true
asked_seals f write marks asked =
    ap (λ marks. is_sealed_by marks write.at) asked.form
    ∙ list_any-append (is_seal_of write.at) asked.front (seal_mark f write.at asked.ctr asked.plain ∷ [])
    ∙ or_right (is_sealed_by asked.front write.at) (is_sealed_by (seal_mark f write.at asked.ctr asked.plain ∷ []) write.at)
    (or_left (write.at == write.at) false (eq-eqb write.at write.at refl))

pub asked_few : (f : Formulas) (write : Posted) (marks : List Mark) → IsAsked f write marks → length marks ≤ 66
asked_few f write marks asked =
    omega (arith, ap length asked.form, length-append asked.front (seal_mark f write.at asked.ctr asked.plain ∷ []), asked.few)

-- and a proper part doesn't
front_apart : (f : Formulas) (write : Posted) (marks made left : List Mark) → IsAsked f write marks
    → marks ≡ made ++ left → 0 < length left → is_sealed_by made write.at ≡ false
front_apart f write marks made left asked split some =
    let own : List Mark = seal_mark f write.at asked.ctr asked.plain ∷ [] in
    let same : made ++ left ≡ asked.front ++ own = sym split ∙ asked.form in
    let short : length made ≤ length asked.front =
    omega (arith, ap length same, length-append made left, length-append asked.front own, some) in
    let front : made ≡ take (length made) asked.front =
    sym (take_at made left (length made) refl) ∙ ap (take (length made)) same ∙ take-append-le (length made) asked.front own short in
    let parts : (is_sealed_by (take (length made) asked.front) write.at || is_sealed_by (drop (length made) asked.front) write.at) ≡ false =
    sym (list_any-append (is_seal_of write.at) (take (length made) asked.front) (drop (length made) asked.front))
    ∙ ap (λ marks. is_sealed_by marks write.at) (take-append-drop (length made) asked.front) ∙ asked.apart in
    ap (λ marks. is_sealed_by marks write.at) front
    ∙ (or_parts (is_sealed_by (take (length made) asked.front) write.at) (is_sealed_by (drop (length made) asked.front) write.at) parts).0

pub part_apart : (g : Shape) (f : Formulas) (now : Moment) (write : Posted) (made : List Mark)
    → All (IsWholePage g) now.view.open_pages → IsPartOf (marks_of_write f now write) made → is_sealed_by made write.at ≡ false
part_apart g f now write made whole part = go (marks_of_write f now write) refl part.front part.not_all
  where
    go : (asked : Option (List Mark)) → marks_of_write f now write ≡ asked → unwrap_or asked [] ≡ made ++ part.left
        → IsTrue (is_none asked || nat_lt 0 (length part.left)) → is_sealed_by made write.at ≡ false
    go None none front some =
        let short : length made ≡ 0 = omega (arith, ap length front, length-append made part.left) in
        ap (λ marks. is_sealed_by marks write.at) (nil_from_length made short)
    go (Some marks) there front some =
        front_apart f write marks made part.left (asked_form g f now write marks whole there) front (ltb-true 0 (length part.left) some)

-- ---- the lines of the marks asked

-- a seal is one of a data line
abbrev IsSealWithin : Shape → Mark → Type 0
IsSealWithin g (Begin page) = ⊤
IsSealWithin g (Seal at ctr cipher tag) = at < data_lines g

page_within : (g : Shape) (f : Formulas) (now : Moment) (page : ℕ) (left : List ℕ) → page < pages g → All (λ i. i < 64) left
    → All (IsSealWithin g) (map (reseal_mark f now page) left)
page_within g f now page [] inside small = All-nil (IsSealWithin g)
page_within g f now page (i ∷ left) inside small =
    All-cons (IsSealWithin g) (reseal_mark f now page i) (map (reseal_mark f now page) left)
    (omega (arith, inside, All-head (λ i. i < 64) i left small))
    (page_within g f now page left inside (All-tail (λ i. i < 64) i left small))

-- the marks asked seal data lines
pub asked_within : (g : Shape) (f : Formulas) (now : Moment) (write : Posted) (marks : List Mark)
    → All (IsWholePage g) now.view.open_pages → write.at < data_lines g → marks_of_write f now write ≡ Some marks
    → All (IsSealWithin g) marks
asked_within g f now write marks whole within asked =
    by_case (is_left now.view write.at) (nat_lt last.minor 127) (last.major == 2 ^ 64 - 1) asked
  where
    last : Ctr
    last = counter_at now.view write.at

    plain : Line
    plain = put_write (line_at now.memory write.at) write

    to_finish : Option OpenPage
    to_finish = page_to_finish now.view (open_page now.view (page_of write.at))

    finishing : List Mark
    finishing = finishing_marks_of f now to_finish

    alone : (ctr : Ctr) → Some (seal_mark f write.at ctr plain ∷ []) ≡ Some marks → All (IsSealWithin g) marks
    alone ctr it =
        subst (All (IsSealWithin g)) (same_Some (seal_mark f write.at ctr plain ∷ []) marks it)
        (All-cons (IsSealWithin g) (seal_mark f write.at ctr plain) [] within (All-nil (IsSealWithin g)))

    finished : (opened : Option OpenPage) → MatchOption opened ⊤ (IsWholePage g) → All (IsSealWithin g) (finishing_marks_of f now opened)
    finished None it = All-nil (IsSealWithin g)
    finished (Some opened) it = page_within g f now opened.page opened.left it.its_page it.places

    rolled : Some (finishing ++ Begin (page_of write.at) ∷ seal_mark f write.at (next_major last 1) plain ∷ []) ≡ Some marks
        → All (IsSealWithin g) marks
    rolled it =
        subst (All (IsSealWithin g))
        (same_Some (finishing ++ Begin (page_of write.at) ∷ seal_mark f write.at (next_major last 1) plain ∷ []) marks it)
        (All-append (IsSealWithin g) finishing (Begin (page_of write.at) ∷ seal_mark f write.at (next_major last 1) plain ∷ [])
        (finished to_finish (finished_page (IsWholePage g) (page_of write.at) now.view whole))
        (All-cons (IsSealWithin g) (Begin (page_of write.at)) (seal_mark f write.at (next_major last 1) plain ∷ []) tt
        (All-cons (IsSealWithin g) (seal_mark f write.at (next_major last 1) plain) [] within (All-nil (IsSealWithin g)))))

    by_case : (held low used : Bool)
        → cond held (Some (seal_mark f write.at (next_major last 1) plain ∷ []))
        (cond low (Some (seal_mark f write.at (record last { minor = last.minor + 1 }) plain ∷ []))
        (cond used None (Some (finishing ++ Begin (page_of write.at) ∷ seal_mark f write.at (next_major last 1) plain ∷ []))))
        ≡ Some marks
        → All (IsSealWithin g) marks
    by_case true low used it = alone (next_major last 1) it
    by_case false true used it = alone (record last { minor = last.minor + 1 }) it
    by_case false false true it = absurd (none-some marks it)
    by_case false false false it = rolled it

-- so a line that the engine may refuse in a write is one
pub refused_within : (g : Shape) (f : Formulas) (now : Moment) (write : Posted) (made : List Mark) (b : ℕ)
    → All (IsWholePage g) now.view.open_pages → write.at < data_lines g → IsRefusedLine (marks_of_write f now write) made write b
    → b < data_lines g
refused_within g f now write made b whole within it =
    elim it [
      | inl resealed ↦ next_seal resealed.0.left (left_within (marks_of_write f now write) refl resealed.0.left resealed.0.front) resealed.1
      | inr short ↦ subst (λ a. a < data_lines g) (sym short.1) within
    ]
  where
    left_within : (asked : Option (List Mark)) → marks_of_write f now write ≡ asked → (left : List Mark)
        → unwrap_or asked [] ≡ made ++ left → All (IsSealWithin g) left
    left_within None none left front =
        let short : length left ≡ 0 = omega (arith, ap length front, length-append made left) in
        subst (All (IsSealWithin g)) (sym (nil_from_length left short)) (All-nil (IsSealWithin g))
    left_within (Some marks) there left front =
        All-append_right (IsSealWithin g) made left
        (subst (All (IsSealWithin g)) front (asked_within g f now write marks whole within there))

    next_seal : (left : List Mark) → All (IsSealWithin g) left → IsResealOf b left → b < data_lines g
    next_seal (Seal at ctr cipher tag ∷ other ∷ left) each its =
        subst (λ a. a < data_lines g) its (All-head (IsSealWithin g) (Seal at ctr cipher tag) (other ∷ left) each)
    next_seal [] each its = absurd its
    next_seal (Begin page ∷ left) each its = absurd its
    next_seal (Seal at ctr cipher tag ∷ []) each its = absurd its
