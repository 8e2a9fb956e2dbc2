-- Laws of the lines that are tried and of the first undecided one.
use Rattle.std.proofs.Common.{rules, ℕ, suc, ◌≡◌, ◌≢◌, ◌<◌, ◌≤◌, ◌+◌, ◌-◌, ◌*◌, Bool, true, false, not, eqb, List, ◌∷◌, ◌++◌, length, All, Some, None, refl, ap, sym, ◌∙◌, subst, inl, inr, ◌⊎◌, arith}
use Rattle.std.specs.Prelude.{filter, find}
use Rattle.std.specs.List.{range_with_len, flat_map}
use Rattle.std.proofs.lemmas.Bool.{eqb-true, eqb-false, not-true, not-false, eq-eqb, ne_eqb, not_from_true, not_from_false, cases_eq}
use Rattle.std.proofs.lemmas.List.{append_assoc}
use Rattle.std.proofs.lemmas.List.Elements.{All-append, filter-append}
use Rattle.std.proofs.lemmas.List.Concat.{flat_map-append}
use Rattle.pmem_base.specs.declared.lines.Line.{Line}
use Rattle.pmem_base.specs.declared.registers.Regs.{Regs}
use Rattle.pmem_base.specs.Shape.{Shape}
use Rattle.pmem_base.specs.Layout as layout
use Rattle.pmem_base.specs.Layout.{page_of}
use Rattle.pmem_base.proofs.ListLaws.{find_found, find_none, find_none_from, find_behind, range_with_len-append, All-from_filter, All-into_filter, All-from_flat_map, All-into_flat_map, All-from_range, All-into_range}
use Rattle.bonsai_tree.specs.Positions.{counter_position}
use Rattle.suite.specs.Setup.{Setup}
use Rattle.pmem_engine.specs.Invariants.{is_doubted}
use Rattle.pmem_recovery.specs.Trials.{tried_minors, doubted_pages, lines_tried, first_undecided, AreDecided}

-- what holds of all lines tried holds of each line of a doubted page
pub lines_tried_has : (g : Shape) (lines : List Line) (P : ℕ → Type 0) (page i : ℕ) → All P (lines_tried g lines) → page < layout.pages g → is_doubted g lines (counter_position g page) ≡ true → i < 64 → P (64 * page + i)
lines_tried_has g lines P page i all h named small =
    All-from_range P (64 * page) 64 (of_page page named) (64 * page + i) (omega arith) (omega arith)
  where
    of_page : (q : ℕ) → is_doubted g lines (counter_position g page) ≡ true → All P (range_with_len (64 * page) 64)
    of_page q t =
        All-from_range (λ q. is_doubted g lines (counter_position g q) ≡ true → All P (range_with_len (64 * q) 64)) 0 (layout.pages g)
        (All-from_filter (λ q. is_doubted g lines (counter_position g q)) (λ q. All P (range_with_len (64 * q) 64)) (range_with_len 0 (layout.pages g))
        (All-from_flat_map P (λ q. range_with_len (64 * q) 64) (doubted_pages g lines) all))
        page (omega arith) (omega arith) t

-- the lines tried are those of doubted pages
pub record IsOfNamedPage (g : Shape) (lines : List Line) (a : ℕ) : Type 0 where
  pub on_device : a < layout.data_lines g
  pub named : is_doubted g lines (counter_position g (page_of a)) ≡ true

pub lines_tried_named : (g : Shape) (lines : List Line) → All (IsOfNamedPage g lines) (lines_tried g lines)
lines_tried_named g lines =
    All-into_flat_map (IsOfNamedPage g lines) (λ q. range_with_len (64 * q) 64) (doubted_pages g lines)
    (All-into_filter (λ q. is_doubted g lines (counter_position g q)) (λ q. All (IsOfNamedPage g lines) (range_with_len (64 * q) 64)) (range_with_len 0 (layout.pages g))
    (All-into_range (λ q. is_doubted g lines (counter_position g q) ≡ true → All (IsOfNamedPage g lines) (range_with_len (64 * q) 64)) 0 (layout.pages g)
    (λ q low high named. All-into_range (IsOfNamedPage g lines) (64 * q) 64 (λ a from to. of_page q a (omega arith) from to named))))
  where
    of_page : (q a : ℕ) → q < layout.pages g → 64 * q ≤ a → a < 64 * q + 64 → is_doubted g lines (counter_position g q) ≡ true → IsOfNamedPage g lines a
    of_page q a h from to named =
        let same : q ≡ page_of a = omega arith in
        record { on_device = omega arith; named = subst (λ p. is_doubted g lines (counter_position g p) ≡ true) same named }

-- if no line is undecided, each line of a doubted page has one minor
pub decided_lines : (setup : Setup) (lines : List Line) (regs : Regs) (page i : ℕ) → first_undecided setup lines regs ≡ None → page < layout.pages setup.shape → is_doubted setup.shape lines (counter_position setup.shape page) ≡ true → i < 64 → length (tried_minors setup lines regs (64 * page + i)) ≡ 1
decided_lines setup lines regs page i e h named small =
    eqb-true (length (tried_minors setup lines regs (64 * page + i))) 1
    (not-false (eqb (length (tried_minors setup lines regs (64 * page + i))) 1)
    (lines_tried_has setup.shape lines (λ a. not (eqb (length (tried_minors setup lines regs a)) 1) ≡ false) page i
    (find_none (λ a. not (eqb (length (tried_minors setup lines regs a)) 1)) (lines_tried setup.shape lines) e)
    h named small))

-- the first undecided line is one of a doubted page, and hasn't exactly one minor
pub undecided_line : (setup : Setup) (lines : List Line) (regs : Regs) (a : ℕ) → first_undecided setup lines regs ≡ Some a → IsOfNamedPage setup.shape lines a × (length (tried_minors setup lines regs a) ≢ 1)
undecided_line setup lines regs a e =
    let found = find_found (λ a. not (eqb (length (tried_minors setup lines regs a)) 1)) (IsOfNamedPage setup.shape lines) (lines_tried setup.shape lines) a (lines_tried_named setup.shape lines) e in
    (found.1, eqb-false (length (tried_minors setup lines regs a)) 1 (not-true (eqb (length (tried_minors setup lines regs a)) 1) found.0))

-- ---- page by page, and line by line

is_undecided : Setup → List Line → Regs → ℕ → Bool
is_undecided setup lines regs a = not (eqb (length (tried_minors setup lines regs a)) 1)

one_decided : (setup : Setup) (lines : List Line) (regs : Regs) (a : ℕ) → length (tried_minors setup lines regs a) ≡ 1 → is_undecided setup lines regs a ≡ false
unfolding is_undecided
one_decided setup lines regs a e = not_from_true (eqb (length (tried_minors setup lines regs a)) 1) (eq-eqb (length (tried_minors setup lines regs a)) 1 e)

not_one : (setup : Setup) (lines : List Line) (regs : Regs) (a : ℕ) → length (tried_minors setup lines regs a) ≢ 1 → is_undecided setup lines regs a ≡ true
unfolding is_undecided
not_one setup lines regs a ne = not_from_false (eqb (length (tried_minors setup lines regs a)) 1) (ne_eqb (length (tried_minors setup lines regs a)) 1 ne)

find_is : (setup : Setup) (lines : List Line) (regs : Regs) → first_undecided setup lines regs ≡ find (is_undecided setup lines regs) (lines_tried setup.shape lines)
unfolding is_undecided
find_is setup lines regs = refl

-- the lines tried of n pages from page a on
tried_part : Shape → List Line → ℕ → ℕ → List ℕ
tried_part g lines a n = flat_map (λ page. range_with_len (64 * page) 64) (filter (λ page. is_doubted g lines (counter_position g page)) (range_with_len a n))

tried_part_all : (g : Shape) (lines : List Line) → lines_tried g lines ≡ tried_part g lines 0 (layout.pages g)
unfolding tried_part
tried_part_all g lines = refl

tried_part_split : (g : Shape) (lines : List Line) (a m n : ℕ) → tried_part g lines a (m + n) ≡ tried_part g lines a m ++ tried_part g lines (a + m) n
unfolding tried_part
tried_part_split g lines a m n =
    let named = λ (page : ℕ). is_doubted g lines (counter_position g page) in
    let of_page = λ (page : ℕ). range_with_len (64 * page) 64 in
    ap (λ l. flat_map of_page (filter named l)) (range_with_len-append a m n)
    ∙ ap (flat_map of_page) (filter-append named (range_with_len a m) (range_with_len (a + m) n))
    ∙ flat_map-append of_page (filter named (range_with_len a m)) (filter named (range_with_len (a + m) n))

tried_part_named : (g : Shape) (lines : List Line) (page n : ℕ) → is_doubted g lines (counter_position g page) ≡ true → tried_part g lines page (suc n) ≡ range_with_len (64 * page) 64 ++ tried_part g lines (page + 1) n
unfolding tried_part
tried_part_named g lines page n q = search rules

decided_part : (setup : Setup) (lines : List Line) (regs : Regs) (below : ℕ) → AreDecided setup lines regs below → All (λ a. is_undecided setup lines regs a ≡ false) (tried_part setup.shape lines 0 below)
unfolding tried_part
decided_part setup lines regs below d =
    All-into_flat_map (λ a. is_undecided setup lines regs a ≡ false) (λ page. range_with_len (64 * page) 64) (filter (λ page. is_doubted setup.shape lines (counter_position setup.shape page)) (range_with_len 0 below))
    (All-into_filter (λ page. is_doubted setup.shape lines (counter_position setup.shape page)) (λ page. All (λ a. is_undecided setup lines regs a ≡ false) (range_with_len (64 * page) 64)) (range_with_len 0 below)
    (All-into_range (λ page. is_doubted setup.shape lines (counter_position setup.shape page) ≡ true → All (λ a. is_undecided setup lines regs a ≡ false) (range_with_len (64 * page) 64)) 0 below
    (λ page low high q. All-into_range (λ a. is_undecided setup lines regs a ≡ false) (64 * page) 64
    (λ a from to. one page a (omega arith) from to q))))
  where
    one : (page a : ℕ) → page < below → 64 * page ≤ a → a < 64 * page + 64 → is_doubted setup.shape lines (counter_position setup.shape page) ≡ true → is_undecided setup lines regs a ≡ false
    one page a h from to q =
        let same : 64 * page + (a - 64 * page) ≡ a = omega arith in
        one_decided setup lines regs a (subst (λ z. length (tried_minors setup lines regs z) ≡ 1) same (d.each page h q (a - 64 * page) (omega arith)))

-- one more page, doubted or not
pub AreDecided-more : (setup : Setup) (lines : List Line) (regs : Regs) (page : ℕ) → AreDecided setup lines regs page → (is_doubted setup.shape lines (counter_position setup.shape page) ≡ true → (i : ℕ) → i < 64 → length (tried_minors setup lines regs (64 * page + i)) ≡ 1) → AreDecided setup lines regs (page + 1)
AreDecided-more setup lines regs page d here = record { each = λ q h named. at q named (cases_eq q page) h }
  where
    at : (q : ℕ) → is_doubted setup.shape lines (counter_position setup.shape q) ≡ true → (q ≡ page) ⊎ (q ≡ page → ⊥) → q < page + 1 → (i : ℕ) → i < 64 → length (tried_minors setup lines regs (64 * q + i)) ≡ 1
    at q named (inl e) h = subst (λ p. is_doubted setup.shape lines (counter_position setup.shape p) ≡ true → (i : ℕ) → i < 64 → length (tried_minors setup lines regs (64 * p + i)) ≡ 1) (sym e) here named
    at q named (inr ne) h = d.each q (omega arith) named

-- if the lines of all doubted pages have one minor, none is undecided
pub none_undecided : (setup : Setup) (lines : List Line) (regs : Regs) → AreDecided setup lines regs (layout.pages setup.shape) → first_undecided setup lines regs ≡ None
none_undecided setup lines regs d =
    find_is setup lines regs
    ∙ ap (find (is_undecided setup lines regs)) (tried_part_all setup.shape lines)
    ∙ find_none_from (is_undecided setup lines regs) (tried_part setup.shape lines 0 (layout.pages setup.shape)) (decided_part setup lines regs (layout.pages setup.shape) d)

-- if those below line i of a doubted page have one, and line i has none, that is the first
pub first_undecided_at : (setup : Setup) (lines : List Line) (regs : Regs) (page i : ℕ) → page < layout.pages setup.shape → is_doubted setup.shape lines (counter_position setup.shape page) ≡ true → i < 64 → AreDecided setup lines regs page → ((j : ℕ) → j < i → length (tried_minors setup lines regs (64 * page + j)) ≡ 1) → length (tried_minors setup lines regs (64 * page + i)) ≢ 1 → first_undecided setup lines regs ≡ Some (64 * page + i)
first_undecided_at setup lines regs page i h q small d before here =
    find_is setup lines regs
    ∙ ap (find (is_undecided setup lines regs)) whole
    ∙ find_behind (is_undecided setup lines regs) (front ++ range_with_len (64 * page) i) (64 * page + i) (range_with_len (64 * page + i + 1) (63 - i) ++ rest)
    (All-append (λ a. is_undecided setup lines regs a ≡ false) front (range_with_len (64 * page) i) (decided_part setup lines regs page d)
    (All-into_range (λ a. is_undecided setup lines regs a ≡ false) (64 * page) i
    (λ a from to.
    let same : 64 * page + (a - 64 * page) ≡ a = omega arith in
    one_decided setup lines regs a (subst (λ z. length (tried_minors setup lines regs z) ≡ 1) same (before (a - 64 * page) (omega arith))))))
    (not_one setup lines regs (64 * page + i) here)
  where
    count : ℕ
    count = layout.pages setup.shape - page - 1

    front : List ℕ
    front = tried_part setup.shape lines 0 page

    rest : List ℕ
    rest = tried_part setup.shape lines (page + 1) count

    of_page : range_with_len (64 * page) 64 ≡ range_with_len (64 * page) i ++ (64 * page + i) ∷ range_with_len (64 * page + i + 1) (63 - i)
    of_page =
        let parts : 64 ≡ i + suc (63 - i) = omega arith in
        ap (range_with_len (64 * page)) parts ∙ range_with_len-append (64 * page) i (suc (63 - i))

    whole : lines_tried setup.shape lines ≡ (front ++ range_with_len (64 * page) i) ++ (64 * page + i) ∷ (range_with_len (64 * page + i + 1) (63 - i) ++ rest)
    whole =
        let parts : layout.pages setup.shape ≡ page + suc count = omega arith in
        let start : 0 + page ≡ page = omega arith in
        tried_part_all setup.shape lines
        ∙ ap (tried_part setup.shape lines 0) parts
        ∙ tried_part_split setup.shape lines 0 page (suc count)
        ∙ ap (λ a. front ++ tried_part setup.shape lines a (suc count)) start
        ∙ ap (λ l. front ++ l) (tried_part_named setup.shape lines page count q)
        ∙ ap (λ l. front ++ (l ++ rest)) of_page
        ∙ ap (λ l. front ++ l) (append_assoc (range_with_len (64 * page) i) ((64 * page + i) ∷ range_with_len (64 * page + i + 1) (63 - i)) rest)
        ∙ sym (append_assoc front (range_with_len (64 * page) i) ((64 * page + i) ∷ (range_with_len (64 * page + i + 1) (63 - i) ++ rest)))
