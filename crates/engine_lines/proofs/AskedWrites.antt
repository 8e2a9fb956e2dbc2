-- The marks that a write of an engine asks: a seal of its line comes last, no other of them seals it, and they are at most
-- 65 seals and a begin.
use Rattle.std.proofs.Common.{ℕ, ◌≡◌, ◌<◌, ◌≤◌, ◌+◌, ◌-◌, ◌*◌, ◌++◌, ◌^◌, Bool, true, false, cond, List, [], ◌∷◌, length, map, take, drop, Option, Some, None, IsTrue, refl, sym, ap, subst, ◌∙◌, arith}
use Rattle.std.specs.Prelude.{⊤, MatchOption, All, ◌||◌, ◌==◌, nat_lt, nat_le, unwrap_or, is_none}
use Rattle.std.specs.List.{list_any}
use Rattle.std.proofs.lemmas.Option.{same_Some, none-some}
use Rattle.std.proofs.lemmas.Bool.{true≢false, or_parts, or_from, or_left, or_right, cond-true, eq-eqb, ne_eqb, ltb-true, lt-ltb}
use Rattle.std.proofs.lemmas.List.{append_assoc, length-append, length-map, take_at, take-append-le, take-append-drop, nil_from_length}
use Rattle.std.proofs.lemmas.List.Elements.{All-head, All-tail, All-cons, All-nil}
use Rattle.std.proofs.lemmas.List.Folds.{list_any-append}
use Rattle.std.proofs.lemmas.List.Sums.{sum_by-append, sum_by-cons}
use Rattle.pmem_base.specs.declared.lines.Line.{Line}
use Rattle.pmem_base.specs.declared.lines.Ctr.{Ctr}
use Rattle.pmem_base.specs.declared.commands.Posted.{Posted}
use Rattle.pmem_base.specs.declared.answers.Mark.{Mark}
use Rattle.pmem_base.specs.declared.answers.Mark.TheVariants.{Begin}
use Rattle.pmem_base.specs.declared.registers.Progress.{Progress}
use Rattle.pmem_base.specs.declared.registers.Regs.{Regs}
use Rattle.pmem_base.specs.Layout.{page_of, index_in_page}
use Rattle.pmem_base.specs.Lines.{line_at}
use Rattle.pmem_base.specs.WaitingWrites.{put_write}
use Rattle.pmem_base.proofs.ListLaws.{find_found}
use Rattle.page_reencrypt.proofs.DoneBits.{not_done-small}
use Rattle.seal_ledger.specs.Ledger.{LedgerState}
use Rattle.suite.specs.Formulas.{Formulas}
use Rattle.suite.specs.Setup.{Setup}
use Rattle.plain_model.specs.View.{DeviceView, OpenPage, counter_at, open_page, is_left, view_of}
use Rattle.plain_model.specs.Asked.{Moment, seal_mark, next_major, reseal_mark, finishing_marks_of, page_to_finish, first_of, marks_of_write}
use Rattle.plain_model.specs.Bounds.{is_seal, seal_count, begin_count, is_path_mark, path_mark_count}
use Rattle.pmem_engine.specs.Invariants.{IsAnchored, register_page}
use Rattle.pmem_engine.specs.Outcomes.{is_seal_of, is_sealed_by}
use Rattle.pmem_engine.specs.Calls.{IsPartOf}
use Rattle.pmem_engine.proofs.PostedWrites.WritePremises.{few_left}

-- ---- open pages

-- a page of which line a isn't left to be done
record IsApart (a : ℕ) (opened : OpenPage) : Type 0 where
  small : All (λ i. i < 64) opened.left
  few : length opened.left ≤ 64
  free : opened.page ≡ page_of a → list_any (λ i. i == index_in_page a) opened.left ≡ false

-- the registers' pages are so, if none has the line left
each_apart : (a : ℕ) (registers : List Progress)
    → list_any (λ opened. cond (opened.page == page_of a) (list_any (λ i. i == index_in_page a) opened.left) false) (map register_page registers) ≡ false
    → All (IsApart a) (map register_page registers)
each_apart a [] none = All-nil (IsApart a)
each_apart a (register ∷ registers) none =
    let opened = register_page register in
    let parts = or_parts (cond (opened.page == page_of a) (list_any (λ i. i == index_in_page a) opened.left) false)
    (list_any (λ opened. cond (opened.page == page_of a) (list_any (λ i. i == index_in_page a) opened.left) false) (map register_page registers)) none in
    All-cons (IsApart a) opened (map register_page registers)
    (record {
      small = not_done-small register;
      few = few_left register;
      free =
          λ its.
          sym (cond-true (opened.page == page_of a) (list_any (λ i. i == index_in_page a) opened.left) false (eq-eqb opened.page (page_of a) its))
          ∙ parts.0;
    })
    (each_apart a registers parts.1)

-- so is the page that is to be finished
finished_apart : (a page : ℕ) (view : DeviceView) → All (IsApart a) view.open_pages
    → MatchOption (page_to_finish view (open_page view page)) ⊤ (IsApart a)
finished_apart a page view each = of_page (open_page view page) refl
  where
    first : (pages : List OpenPage) → All (IsApart a) pages → MatchOption (first_of pages) ⊤ (IsApart a)
    first [] each = tt
    first (opened ∷ pages) each = All-head (IsApart a) opened pages each

    oldest : (b : Bool) → MatchOption (cond b (first_of view.open_pages) None) ⊤ (IsApart a)
    oldest true = first view.open_pages each
    oldest false = tt

    of_page : (found : Option OpenPage) → open_page view page ≡ found → MatchOption (page_to_finish view found) ⊤ (IsApart a)
    of_page None none = oldest (nat_le 4 (length view.open_pages))
    of_page (Some opened) there = (find_found (λ opened. opened.page == page) (IsApart a) view.open_pages opened each there).1

-- its reseals don't seal the line
reseals_apart : (f : Formulas) (now : Moment) (page a : ℕ) (left : List ℕ) → All (λ i. i < 64) left
    → (page ≡ page_of a → list_any (λ i. i == index_in_page a) left ≡ false)
    → is_sealed_by (map (reseal_mark f now page) left) a ≡ false
reseals_apart f now page a [] small free = refl
reseals_apart f now page a (i ∷ left) small free =
    or_from (64 * page + i == a) (is_sealed_by (map (reseal_mark f now page) left) a)
    (ne_eqb (64 * page + i) a other)
    (reseals_apart f now page a left (All-tail (λ i. i < 64) i left small)
    (λ its. (or_parts (i == index_in_page a) (list_any (λ i. i == index_in_page a) left) (free its)).1))
  where
    within : i < 64
    within = All-head (λ i. i < 64) i left small

    other : 64 * page + i ≡ a → ⊥
    other same =
        let its : page ≡ page_of a = omega (arith, same, within) in
        let place : i ≡ index_in_page a = omega (arith, same, within) in
        true≢false (sym (eq-eqb i (index_in_page a) place) ∙ (or_parts (i == index_in_page a) (list_any (λ i. i == index_in_page a) left) (free its)).0)

-- and are seals
reseals_count : (f : Formulas) (now : Moment) (page : ℕ) (left : List ℕ) → seal_count (map (reseal_mark f now page) left) ≡ length left
reseals_count f now page [] = refl
reseals_count f now page (i ∷ left) =
    omega (
      arith,
      sum_by-cons (λ mark. cond (is_seal mark) 1 0) (reseal_mark f now page i) (map (reseal_mark f now page) left),
      reseals_count f now page left,
    )

-- with minors 0, so that their groups have no line of a path
reseals_unmarked : (f : Formulas) (now : Moment) (page : ℕ) (left : List ℕ) → path_mark_count (map (reseal_mark f now page) left) ≡ 0
reseals_unmarked f now page [] = refl
reseals_unmarked f now page (i ∷ left) =
    omega (
      arith,
      sum_by-cons (λ mark. cond (is_path_mark mark) 1 0) (reseal_mark f now page i) (map (reseal_mark f now page) left),
      reseals_unmarked f now page left,
    )

record AreFinishing (a : ℕ) (marks : List Mark) : Type 0 where
  apart : is_sealed_by marks a ≡ false
  unmarked : path_mark_count marks ≡ 0
  seals : seal_count marks ≡ length marks
  few : length marks ≤ 64

finishing_are : (f : Formulas) (now : Moment) (a : ℕ) (opened : Option OpenPage) → MatchOption opened ⊤ (IsApart a)
    → AreFinishing a (finishing_marks_of f now opened)
finishing_are f now a None it = record { apart = refl; unmarked = refl; seals = refl; few = omega arith }
finishing_are f now a (Some opened) it =
    let long = length-map opened.left (reseal_mark f now opened.page) in
    record {
      apart = reseals_apart f now opened.page a opened.left it.small it.free;
      unmarked = reseals_unmarked f now opened.page opened.left;
      seals = reseals_count f now opened.page opened.left ∙ sym long;
      few = let few = it.few in omega (arith, long, few);
    }

-- ---- the marks of a write

-- marks that end with a write's own seal; of those before it P holds
pub record EndsOwn (f : Formulas) (at : ℕ) (P : List Mark → Type 0) (marks : List Mark) : Type 0 where
  pub front : List Mark
  pub ctr : Ctr
  pub plain : Line
  pub form : marks ≡ front ++ seal_mark f at ctr plain ∷ []
  pub minor : 0 < ctr.minor
  pub before : P front

-- the marks that a write asks before its own seal: none, or those that finish a page, and a begin
pub ends_own : (f : Formulas) (now : Moment) (write : Posted) (P : List Mark → Type 0) (marks : List Mark) → P []
    → (is_left now.view write.at ≡ false
    → P (finishing_marks_of f now (page_to_finish now.view (open_page now.view (page_of write.at))) ++ Begin (page_of write.at) ∷ []))
    → marks_of_write f now write ≡ Some marks → EndsOwn f write.at P marks
ends_own f now write P marks none some asked =
    by_case (is_left now.view write.at) (nat_lt last.minor 127) (last.major == 2 ^ 64 - 1) refl asked
  where
    last : Ctr
    last = counter_at now.view write.at

    plain : Line
    plain = put_write (line_at now.memory write.at) write

    finishing : List Mark
    finishing = finishing_marks_of f now (page_to_finish now.view (open_page now.view (page_of write.at)))

    alone : (ctr : Ctr) → 0 < ctr.minor → Some (seal_mark f write.at ctr plain ∷ []) ≡ Some marks → EndsOwn f write.at P marks
    alone ctr above it =
        subst (EndsOwn f write.at P) (same_Some (seal_mark f write.at ctr plain ∷ []) marks it)
        (record { front = []; ctr = ctr; plain = plain; form = refl; minor = above; before = none })

    rolled : is_left now.view write.at ≡ false
        → Some (finishing ++ Begin (page_of write.at) ∷ seal_mark f write.at (next_major last 1) plain ∷ []) ≡ Some marks
        → EndsOwn f write.at P marks
    rolled free it =
        let own : Mark = seal_mark f write.at (next_major last 1) plain in
        subst (EndsOwn f write.at P) (same_Some (finishing ++ Begin (page_of write.at) ∷ own ∷ []) marks it)
        (record {
          front = finishing ++ Begin (page_of write.at) ∷ [];
          ctr = next_major last 1;
          plain = plain;
          form = sym (append_assoc finishing (Begin (page_of write.at) ∷ []) (own ∷ []));
          minor = omega arith;
          before = some free;
        })

    by_case : (held low used : Bool) → is_left now.view write.at ≡ held
        → cond held (Some (seal_mark f write.at (next_major last 1) plain ∷ []))
        (cond low (Some (seal_mark f write.at (record last { minor = last.minor + 1 }) plain ∷ []))
        (cond used None (Some (finishing ++ Begin (page_of write.at) ∷ seal_mark f write.at (next_major last 1) plain ∷ []))))
        ≡ Some marks
        → EndsOwn f write.at P marks
    by_case true low used held it = alone (next_major last 1) (omega arith) it
    by_case false true used held it = alone (record last { minor = last.minor + 1 }) (omega arith) it
    by_case false false true held it = absurd (none-some marks it)
    by_case false false false held it = rolled held it

-- no other of an anchored chip's seals the line, and they are at most 64 seals with minor 0 and a begin
pub record AreBeforeOwn (at : ℕ) (front : List Mark) : Type 0 where
  pub apart : is_sealed_by front at ≡ false
  pub few : 4 * seal_count front + 3 * begin_count front ≤ 259
  pub few_paths : path_mark_count front ≤ 1

abbrev pub AreAsked : Formulas → ℕ → List Mark → Type 0
AreAsked f at marks = EndsOwn f at (AreBeforeOwn at) marks

pub asked_are : (setup : Setup) (regs : Regs) (ledger : LedgerState) → IsAnchored setup regs ledger → (now : Moment)
    → now.view ≡ view_of setup.shape ledger.marks → (write : Posted) (marks : List Mark)
    → marks_of_write setup.formulas now write ≡ Some marks → AreAsked setup.formulas write.at marks
asked_are setup regs ledger anchored now its_view write marks asked =
    ends_own setup.formulas now write (AreBeforeOwn write.at) marks (record { apart = refl; few = omega arith; few_paths = omega arith }) rolled asked
  where
    to_finish : Option OpenPage
    to_finish = page_to_finish now.view (open_page now.view (page_of write.at))

    finishing : List Mark
    finishing = finishing_marks_of setup.formulas now to_finish

    pages_are : now.view.open_pages ≡ map register_page regs.progress.items
    pages_are = ap (λ view. view.open_pages) its_view ∙ anchored.open_pages

    rolled : is_left now.view write.at ≡ false → AreBeforeOwn write.at (finishing ++ Begin (page_of write.at) ∷ [])
    rolled free =
        let pages : All (IsApart write.at) now.view.open_pages =
        subst (All (IsApart write.at)) (sym pages_are)
        (each_apart write.at regs.progress.items
        (subst (λ pages. list_any (λ opened. cond (opened.page == page_of write.at) (list_any (λ i. i == index_in_page write.at) opened.left) false) pages ≡ false)
        pages_are free)) in
        let are : AreFinishing write.at finishing =
        finishing_are setup.formulas now write.at to_finish (finished_apart write.at (page_of write.at) now.view pages) in
        let ending : List Mark = Begin (page_of write.at) ∷ [] in
        record {
          apart =
              list_any-append (is_seal_of write.at) finishing ending ∙ or_from (is_sealed_by finishing write.at) false are.apart refl;
          few =
              let long = length-append finishing ending in
              let seals : seal_count (finishing ++ ending) ≡ seal_count finishing + 0 = sum_by-append (λ mark. cond (is_seal mark) 1 0) finishing ending in
              let all = are.seals in
              let few = are.few in
              omega (arith, long, seals, all, few);
          few_paths =
              let paths : path_mark_count (finishing ++ ending) ≡ path_mark_count finishing + 1 =
              sum_by-append (λ mark. cond (is_path_mark mark) 1 0) finishing ending in
              let none = are.unmarked in
              omega (arith, paths, none);
        }

-- with the own seal they are one seal more
pub few_asked : (f : Formulas) (at : ℕ) (marks : List Mark) → AreAsked f at marks → 4 * seal_count marks + 3 * begin_count marks ≤ 263
few_asked f at marks are =
    let own : List Mark = seal_mark f at are.ctr are.plain ∷ [] in
    let seals : seal_count marks ≡ seal_count are.front + 1 =
    ap seal_count are.form ∙ sum_by-append (λ mark. cond (is_seal mark) 1 0) are.front own in
    let long = length-append are.front own in
    let all = ap length are.form in
    let few = are.before.few in
    omega (arith, seals, long, all, few)

-- groups that may have lines of a path are at most the begin's and the own seal's
pub few_paths_asked : (f : Formulas) (at : ℕ) (marks : List Mark) → AreAsked f at marks → path_mark_count marks ≤ 2
few_paths_asked f at marks are =
    let own : List Mark = seal_mark f at are.ctr are.plain ∷ [] in
    let paths = ap path_mark_count are.form ∙ sum_by-append (λ mark. cond (is_path_mark mark) 1 0) are.front own in
    let one = ap {B = ℕ} (λ b. cond b 1 0) (lt-ltb 0 are.ctr.minor are.minor) in
    let few = are.before.few_paths in
    omega (arith, paths, one, few)

-- all of them seal the line
pub asked_sealed : (f : Formulas) (at : ℕ) (marks : List Mark) → AreAsked f at marks → is_sealed_by marks at ≡ true
asked_sealed f at marks are =
    let own : List Mark = seal_mark f at are.ctr are.plain ∷ [] in
    ap (λ marks. is_sealed_by marks at) are.form
    ∙ list_any-append (is_seal_of at) are.front own
    ∙ or_right (is_sealed_by are.front at) (is_sealed_by own at) (or_left (at == at) false (eq-eqb at at refl))

-- a part of them doesn't seal the line
pub part_apart : (setup : Setup) (regs : Regs) (ledger : LedgerState) → IsAnchored setup regs ledger → (now : Moment)
    → now.view ≡ view_of setup.shape ledger.marks → (write : Posted) (made : List Mark)
    → IsPartOf (marks_of_write setup.formulas now write) made → is_sealed_by made write.at ≡ false
part_apart setup regs ledger anchored now its_view write made part = go (marks_of_write setup.formulas now write) refl part.front part.not_all
  where
    go : (asked : Option (List Mark)) → marks_of_write setup.formulas now write ≡ asked → unwrap_or asked [] ≡ made ++ part.left
        → IsTrue (is_none asked || nat_lt 0 (length part.left)) → is_sealed_by made write.at ≡ false
    go None none front some =
        let short : length made ≡ 0 = omega (arith, ap length front, length-append made part.left) in
        ap (λ marks. is_sealed_by marks write.at) (nil_from_length made short)
    go (Some marks) there front some =
        let are = asked_are setup regs ledger anchored now its_view write marks there in
        let own : List Mark = seal_mark setup.formulas write.at are.ctr are.plain ∷ [] in
        let same : made ++ part.left ≡ are.front ++ own = sym front ∙ are.form in
        let short : length made ≤ length are.front =
        omega (arith, ap length same, length-append made part.left, length-append are.front own, ltb-true 0 (length part.left) some) in
        let its : made ≡ take (length made) are.front =
        sym (take_at made part.left (length made) refl) ∙ ap (take (length made)) same ∙ take-append-le (length made) are.front own short in
        let both : (is_sealed_by (take (length made) are.front) write.at || is_sealed_by (drop (length made) are.front) write.at) ≡ false =
        sym (list_any-append (is_seal_of write.at) (take (length made) are.front) (drop (length made) are.front))
        ∙ ap (λ marks. is_sealed_by marks write.at) (take-append-drop (length made) are.front) ∙ are.before.apart in
        ap (λ marks. is_sealed_by marks write.at) its
        ∙ (or_parts (is_sealed_by (take (length made) are.front) write.at) (is_sealed_by (drop (length made) are.front) write.at) both).0
