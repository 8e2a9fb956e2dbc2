-- Laws of the positions that are doubted: which they are, the next one, and how many there are.
use Rattle.std.proofs.Common.{ℕ, suc, ◌≡◌, ◌≢◌, ◌<◌, ◌≤◌, ◌+◌, ◌-◌, ◌*◌, ◌⊎◌, inl, inr, Bool, true, false, ◌||◌, cond, eqb, List, [], ◌∷◌, length, Option, Some, None, refl, sym, ap, ◌∙◌, subst, arith}
use Rattle.std.specs.Prelude.{filter, not, ◌&&◌, ◌==◌, min, if◌then◌else◌}
use Rattle.std.specs.List.{list_any, range_with_len}
use Rattle.std.proofs.lemmas.Bool.{cond-true, cond-false, cases_lt, and_from, and_left, eq-eqb, ne_eqb, eqb-true, eqb-false, lt-ltb, le-ltb}
use Rattle.std.proofs.lemmas.Nat.{mul-le}
use Rattle.std.proofs.lemmas.List.{length-append}
use Rattle.std.proofs.lemmas.List.Elements.{filter-append}
use Rattle.std.proofs.lemmas.List.Folds.{list_any-append}
use Rattle.std.proofs.lemmas.List.FromFn.{length-range_with_len}
use Rattle.std.proofs.lemmas.List.Sums.{length-filter, count_by-le-length}
use Rattle.pmem_base.specs.declared.lines.Line.{Line}
use Rattle.pmem_base.specs.Shape.{Shape, IsShape, lazy_levels, is_lazy}
use Rattle.pmem_base.specs.Layout.{slots, pages, meta_lines, shadow_counter_lines, shadow_tree_lines, shadow_lines, level_start}
use Rattle.pmem_base.proofs.LayoutLemmas.{pages-most}
use Rattle.pmem_base.proofs.ListLaws.{range_with_len-append, All-into_range, filter_agree_on, length-filter_named}
use Rattle.bonsai_tree.specs.Positions.{level_of}
use Rattle.bonsai_tree.proofs.Levels.{IsAtLevel, level_start-le, level_of-at, level_of-IsAtLevel, meta_lines-level, meta_lines-counters}
use Rattle.plain_model.specs.Bounds.{most_blocks, most_nodes, recovery_bound}
use Rattle.pmem_engine.proofs.Laws.PolicyBounds.{begun_most}
use Rattle.shadow_tables.specs.Entries.{table_entry, is_named_in}
use Rattle.pmem_recovery.specs.Named.{doubts, is_among, count_doubted, IsNextAt, IsNext}
use Rattle.pmem_recovery.proofs.PartLaws.{slots-small}

-- ---- which are doubted

-- none of a strict level
pub doubts-strict : (g : Shape) (shadow : List Line) (x : ℕ) → lazy_levels g ≤ level_of x → doubts g shadow x ≡ false
doubts-strict g shadow x strict =
    and_left (is_lazy g (level_of x)) (not g.shadow || is_named_in g shadow (level_of x) x) (le-ltb (level_of x) (lazy_levels g) strict)

-- each one of a lazy level, if there are no shadow tables
pub doubts-all : (g : Shape) (shadow : List Line) (x : ℕ) → level_of x < lazy_levels g → g.shadow ≡ false → doubts g shadow x ≡ true
doubts-all g shadow x lazy off =
    and_from (is_lazy g (level_of x)) (not g.shadow || is_named_in g shadow (level_of x) x) (lt-ltb (level_of x) (lazy_levels g) lazy)
    (ap (λ b. not b || is_named_in g shadow (level_of x) x) off)

-- else those that the shadow lines name
doubts-named : (g : Shape) (shadow : List Line) (x : ℕ) → level_of x < lazy_levels g → g.shadow ≡ true
    → is_named_in g shadow (level_of x) x ≡ doubts g shadow x
doubts-named g shadow x lazy on =
    sym (ap (λ b. b && (not g.shadow || is_named_in g shadow (level_of x) x)) (lt-ltb (level_of x) (lazy_levels g) lazy)
    ∙ ap (λ b. not b || is_named_in g shadow (level_of x) x) on)

-- those of counter blocks by the counter table
pub names-counter : (g : Shape) (shadow : List Line) (x : ℕ) → level_of x ≡ g.levels → g.levels < lazy_levels g → g.shadow ≡ true
    → is_among shadow 0 (slots g) x ≡ doubts g shadow x
names-counter g shadow x here lazy on =
    sym (cond-true (eqb (level_of x) g.levels) (is_among shadow 0 (slots g) x) (is_among shadow (shadow_counter_lines g) (g.levels * slots g) x)
    (eq-eqb (level_of x) g.levels here))
    ∙ doubts-named g shadow x (subst (λ j. j < lazy_levels g) (sym here) lazy) on

-- and those of nodes by the tree table
pub names-node : (g : Shape) (shadow : List Line) (x : ℕ) → level_of x < g.levels → level_of x < lazy_levels g → g.shadow ≡ true
    → is_among shadow (shadow_counter_lines g) (g.levels * slots g) x ≡ doubts g shadow x
names-node g shadow x above lazy on =
    sym (cond-false (eqb (level_of x) g.levels) (is_among shadow 0 (slots g) x) (is_among shadow (shadow_counter_lines g) (g.levels * slots g) x)
    (ne_eqb (level_of x) g.levels (other (level_of x) g.levels above)))
    ∙ doubts-named g shadow x lazy on
  where
    other : (a b : ℕ) → a < b → a ≡ b → ⊥
    other a b less same = omega arith

-- ---- the next one

-- the test said in another way
pub IsNext-same : (p q : ℕ → Bool) (from end : ℕ) (o : Option ℕ) → ((x : ℕ) → from ≤ x → x < end → p x ≡ q x) → IsNext p from end o → IsNext q from end o
IsNext-same p q from end None same none = λ y low high. sym (same y low high) ∙ none y low high
IsNext-same p q from end (Some x) same next =
    record {
      low = next.low;
      high = next.high;
      passes = sym (same x next.low next.high) ∙ next.passes;
      before = λ y low less. sym (same y low (omega (arith, less, next.high))) ∙ next.before y low less;
    }

pub is_among-more : (shadow : List Line) (first n x : ℕ) → is_among shadow first (n + 1) x ≡ (is_among shadow first n x || eqb (table_entry shadow first n) (x + 1))
is_among-more shadow first n x =
    let test : ℕ → Bool = λ k. eqb (table_entry shadow first k) (x + 1) in
    let start : 0 + n ≡ n = omega arith in
    ap (list_any test) (range_with_len-append 0 n 1)
    ∙ list_any-append test (range_with_len 0 n) (range_with_len (0 + n) 1)
    ∙ ap (λ m. list_any test (range_with_len 0 n) || list_any test (range_with_len m 1)) start
    ∙ ap (λ b. list_any test (range_with_len 0 n) || b) (or_last (test n))
  where
    or_last : (b : Bool) → (b || false) ≡ b
    or_last true = refl
    or_last false = refl

-- ---- how many

-- in two parts
pub count_doubted-parts : (g : Shape) (shadow : List Line) (a m b : ℕ) → a ≤ m → m ≤ b → count_doubted g shadow a b ≡ count_doubted g shadow a m + count_doubted g shadow m b
count_doubted-parts g shadow a m b low high =
    let test : ℕ → Bool = λ x. doubts g shadow x in
    let whole : b - a ≡ (m - a) + (b - m) = omega arith in
    let middle : a + (m - a) ≡ m = omega arith in
    ap (λ n. length (filter test (range_with_len a n))) whole
    ∙ ap (λ l. length (filter test l)) (range_with_len-append a (m - a) (b - m))
    ∙ ap length (filter-append test (range_with_len a (m - a)) (range_with_len (a + (m - a)) (b - m)))
    ∙ length-append (filter test (range_with_len a (m - a))) (filter test (range_with_len (a + (m - a)) (b - m)))
    ∙ ap (λ n. count_doubted g shadow a m + length (filter test (range_with_len n (b - m)))) middle

nothing_passes : (xs : List ℕ) → length (filter (λ x. false) xs) ≡ 0
nothing_passes [] = refl
nothing_passes (x ∷ xs) = nothing_passes xs

-- if none is doubted
pub count_doubted-gap : (g : Shape) (shadow : List Line) (a b : ℕ) → ((x : ℕ) → a ≤ x → x < b → doubts g shadow x ≡ false) → count_doubted g shadow a b ≡ 0
count_doubted-gap g shadow a b none =
    ap length (filter_agree_on (λ x. doubts g shadow x) (λ x. false) (range_with_len a (b - a))
    (All-into_range (λ x. doubts g shadow x ≡ false) a (b - a) (λ x low high. none x low (omega (arith, low, high)))))
    ∙ nothing_passes (range_with_len a (b - a))

count_one : (g : Shape) (shadow : List Line) (x : ℕ) → doubts g shadow x ≡ true → count_doubted g shadow x (x + 1) ≡ 1
count_one g shadow x named =
    let one : x + 1 - x ≡ 1 = omega arith in
    ap (λ n. length (filter (λ y. doubts g shadow y) (range_with_len x n))) one
    ∙ ap (λ b. length (cond b (x ∷ []) [])) named

-- up to the next one
pub count_doubted-next : (g : Shape) (shadow : List Line) (a from end x : ℕ) → a ≤ from → IsNextAt (doubts g shadow) from end x → count_doubted g shadow a (x + 1) ≡ count_doubted g shadow a from + 1
count_doubted-next g shadow a from end x low next =
    let first = count_doubted-parts g shadow a x (x + 1) (omega (arith, low, next.low)) (omega arith) in
    let second = count_doubted-parts g shadow a from x low next.low in
    let gap = count_doubted-gap g shadow from x next.before in
    let one = count_one g shadow x next.passes in
    omega (arith, first, second, gap, one)

-- if there is no next one
pub count_doubted-last : (g : Shape) (shadow : List Line) (a from end : ℕ) → a ≤ from → from ≤ end → IsNext (doubts g shadow) from end None → count_doubted g shadow a end ≡ count_doubted g shadow a from
count_doubted-last g shadow a from end low high none =
    let parts = count_doubted-parts g shadow a from end low high in
    let gap = count_doubted-gap g shadow from end none in
    omega (arith, parts, gap)

pub count_doubted-le : (g : Shape) (shadow : List Line) (a m b : ℕ) → a ≤ m → m ≤ b → count_doubted g shadow a m ≤ count_doubted g shadow a b
count_doubted-le g shadow a m b low high = omega (arith, count_doubted-parts g shadow a m b low high)

-- of the positions from a on and below b at most n are among n entries
few_among : (g : Shape) (shadow : List Line) (first n a b : ℕ) → ((x : ℕ) → a ≤ x → x < b → is_among shadow first n x ≡ doubts g shadow x) → count_doubted g shadow a b ≤ n
few_among g shadow first n a b same =
    subst (λ l. length l ≤ n)
    (filter_agree_on (is_among shadow first n) (λ x. doubts g shadow x) (range_with_len a (b - a))
    (All-into_range (λ x. is_among shadow first n x ≡ doubts g shadow x) a (b - a) (λ x low high. same x low (omega (arith, low, high)))))
    (length-filter_named (table_entry shadow first) (λ x. x + 1) 0 n a (b - a) (λ x y e. omega arith))

filter_few : (p : ℕ → Bool) (a n : ℕ) → length (filter p (range_with_len a n)) ≤ n
filter_few p a n =
    omega (arith, length-filter p (range_with_len a n), count_by-le-length p (range_with_len a n), length-range_with_len a n)

-- not more than there are positions
pub count_doubted-all : (g : Shape) (shadow : List Line) (a b : ℕ) → count_doubted g shadow a b ≤ b - a
count_doubted-all g shadow a b = filter_few (λ x. doubts g shadow x) a (b - a)

-- ---- by levels

-- a position from the first of level j on, and one before it
level_from : (j k x : ℕ) → IsAtLevel k x → level_start j ≤ x → j ≤ k
level_from j k x at low = by (cases_lt k j)
  where
    by : (k < j) ⊎ (j ≤ k) → j ≤ k
    by (inl less) = absurd (omega (arith, level_start-le (suc k) j (omega (arith, less)), at.below, low))
    by (inr le) = le

level_before : (j k x : ℕ) → IsAtLevel k x → x < level_start j → k < j
level_before j k x at high = by (cases_lt k j)
  where
    by : (k < j) ⊎ (j ≤ k) → k < j
    by (inl less) = less
    by (inr le) = absurd (omega (arith, level_start-le j k le, at.from, high))

-- if all levels from j on are strict, none is doubted from the first position of j on
count_doubted-strict : (g : Shape) (shadow : List Line) (j b : ℕ) → IsShape g → b ≤ meta_lines g
    → ((k : ℕ) → j ≤ k → level_start k < b → lazy_levels g ≤ k) → count_doubted g shadow (level_start j) b ≡ 0
count_doubted-strict g shadow j b shape inside strict =
    count_doubted-gap g shadow (level_start j) b
    (λ x low high.
    let at = level_of-IsAtLevel g x shape.at_most_six_levels (below x b (meta_lines g) high inside) in
    doubts-strict g shadow x (strict (level_of x) (level_from j (level_of x) x at low) (from_below (level_start (level_of x)) x b at.from high)))
  where
    below : (x b n : ℕ) → x < b → b ≤ n → x < n
    below x b n high le = omega arith

    from_below : (a x b : ℕ) → a ≤ x → x < b → a < b
    from_below a x b le less = omega arith

-- a counter block for each slot of their bank, or each one without shadow tables, or none if they are strict
pub count_doubted-counters : (g : Shape) (shadow : List Line) → IsShape g → count_doubted g shadow (level_start g.levels) (meta_lines g) ≤ most_blocks g
count_doubted-counters g shadow shape = by (g.persist == 0) refl g.shadow refl
  where
    at_counters : (x : ℕ) → level_start g.levels ≤ x → x < meta_lines g → level_of x ≡ g.levels
    at_counters x low high =
        level_of-at g.levels x shape.at_most_six_levels (record { from = low; below = subst (λ n. x < n) (meta_lines-level g) high })

    by : (lazy : Bool) → (g.persist == 0) ≡ lazy → (tables : Bool) → g.shadow ≡ tables
        → count_doubted g shadow (level_start g.levels) (meta_lines g) ≤ (if lazy then (if tables then slots g else pages g) else 0)
    by false is tables its =
        let some : g.persist ≢ 0 = eqb-false g.persist 0 is in
        omega (arith, count_doubted-strict g shadow g.levels (meta_lines g) shape (omega arith) (λ k le less. omega (arith, le, some)))
    by true is true on =
        let none : g.persist ≡ 0 = eqb-true g.persist 0 is in
        few_among g shadow 0 (slots g) (level_start g.levels) (meta_lines g)
        (λ x low high. names-counter g shadow x (at_counters x low high) (omega (arith, none)) on)
    by true is false off = omega (arith, count_doubted-all g shadow (level_start g.levels) (meta_lines g), meta_lines-counters g)

-- a level that starts before another one is above it
level_lower : (j k : ℕ) → level_start k < level_start j → k < j
level_lower j k less = by (cases_lt k j)
  where
    by : (k < j) ⊎ (j ≤ k) → k < j
    by (inl low) = low
    by (inr le) = absurd (omega (arith, level_start-le j k le, less))

-- of the nodes those of lazy levels
nodes_lazy : (g : Shape) (shadow : List Line) (m : ℕ) → IsShape g → m ≡ min (lazy_levels g) g.levels
    → count_doubted g shadow 0 (level_start g.levels) ≡ count_doubted g shadow 0 (level_start m)
nodes_lazy g shadow m shape is =
    let few : m ≤ g.levels = omega (arith, is) in
    let parts = count_doubted-parts g shadow 0 (level_start m) (level_start g.levels) (omega arith) (level_start-le m g.levels few) in
    let none =
    count_doubted-strict g shadow m (level_start g.levels) shape (omega (arith, meta_lines-counters g))
    (λ k le less. strict (lazy_levels g) g.levels m k is le (level_lower g.levels k less)) in
    omega (arith, parts, none)
  where
    strict : (lazy levels m k : ℕ) → m ≡ min lazy levels → m ≤ k → k < levels → lazy ≤ k
    strict lazy levels m k is le less = omega arith

nodes_named : (g : Shape) (shadow : List Line) (m : ℕ) → IsShape g → m ≡ min (lazy_levels g) g.levels → g.shadow ≡ true → (x : ℕ) → x < level_start m
    → is_among shadow (shadow_counter_lines g) (g.levels * slots g) x ≡ doubts g shadow x
nodes_named g shadow m shape is on x high =
    let up = level_start-le m g.levels (omega (arith, is)) in
    let at = level_of-IsAtLevel g x shape.at_most_six_levels (omega (arith, high, up, meta_lines-counters g)) in
    let low = level_before m (level_of x) x at high in
    names-node g shadow x (node (level_of x) m (lazy_levels g) g.levels low is) (lazy (level_of x) m (lazy_levels g) g.levels low is) on
  where
    node : (j m a b : ℕ) → j < m → m ≡ min a b → j < b
    node j m a b low is = omega arith

    lazy : (j m a b : ℕ) → j < m → m ≡ min a b → j < a
    lazy j m a b low is = omega arith

-- a node for each slot of their banks, or each one of a lazy level without shadow tables
pub count_doubted-nodes : (g : Shape) (shadow : List Line) → IsShape g → count_doubted g shadow 0 (level_start g.levels) ≤ most_nodes g
count_doubted-nodes g shadow shape = by (min (lazy_levels g) g.levels) refl g.shadow refl (lazy_levels g == 0) refl
  where
    all_strict : (m lazy levels : ℕ) → m ≡ min lazy levels → lazy ≡ 0 → m ≡ 0
    all_strict m lazy levels is zero = omega arith

    by : (m : ℕ) → m ≡ min (lazy_levels g) g.levels → (tables : Bool) → g.shadow ≡ tables → (none : Bool) → (lazy_levels g == 0) ≡ none
        → count_doubted g shadow 0 (level_start g.levels) ≤ (if tables then (if none then 0 else g.levels * slots g) else level_start m)
    by m is true on true none =
        let first : level_start m ≡ 0 = ap level_start (all_strict m (lazy_levels g) g.levels is (eqb-true (lazy_levels g) 0 none)) in
        omega (arith, nodes_lazy g shadow m shape is, count_doubted-all g shadow 0 (level_start m), first)
    by m is true on false some =
        subst (λ n. n ≤ g.levels * slots g) (sym (nodes_lazy g shadow m shape is))
        (few_among g shadow (shadow_counter_lines g) (g.levels * slots g) 0 (level_start m) (λ x low high. nodes_named g shadow m shape is on x high))
    by m is false off none some = omega (arith, nodes_lazy g shadow m shape is, count_doubted-all g shadow 0 (level_start m))

pub count_doubted-within : (g : Shape) (shadow : List Line) (a b n : ℕ) → a ≤ b → b ≤ n → count_doubted g shadow a b ≤ count_doubted g shadow 0 n
count_doubted-within g shadow a b n low high =
    omega (arith, count_doubted-parts g shadow 0 a n (omega arith) (omega (arith, low, high)), count_doubted-parts g shadow a b n low high)

-- ---- these are few

pub most_blocks-small : (g : Shape) → IsShape g → most_blocks g ≤ 4096
most_blocks-small g shape = by (g.persist == 0) g.shadow
  where
    by : (lazy tables : Bool) → (if lazy then (if tables then slots g else pages g) else 0) ≤ 4096
    by false tables = omega arith
    by true true = omega (arith, slots-small g shape)
    by true false = pages-most g.levels shape.at_most_six_levels

pub most_nodes-small : (g : Shape) → IsShape g → most_nodes g ≤ 3072
most_nodes-small g shape = by g.shadow (lazy_levels g == 0)
  where
    by : (tables none : Bool) → (if tables then (if none then 0 else g.levels * slots g) else level_start (min (lazy_levels g) g.levels)) ≤ 3072
    by true true = omega arith
    by true false = mul-le g.levels (slots g) 6 512 shape.at_most_six_levels (slots-small g shape)
    by false none = omega (arith, level_start-le (min (lazy_levels g) g.levels) 6 (omega (arith, shape.at_most_six_levels)))

-- all steps of a recovery
pub recovery_bound-small : (g : Shape) → IsShape g → recovery_bound g ≤ 8192
recovery_bound-small g shape =
    let each = slots-small g shape in
    let banks : g.levels * slots g ≤ 6 * 512 = mul-le g.levels (slots g) 6 512 shape.at_most_six_levels each in
    let tables : shadow_lines g ≤ 300 = few_tables g.shadow (omega (arith, each, banks)) in
    omega (
      arith,
      begun_most g shape.persists_path,
      shape.at_most_six_levels,
      most_blocks-small g shape,
      most_nodes-small g shape,
      tables,
    )
  where
    few_tables : (tables : Bool) → shadow_counter_lines g + shadow_tree_lines g ≤ 300
        → (if tables then shadow_counter_lines g + shadow_tree_lines g else 0) ≤ 300
    few_tables true all = all
    few_tables false all = omega arith

pub count_doubted-small : (g : Shape) (shadow : List Line) (a b : ℕ) → IsShape g → a ≤ b → b ≤ level_start g.levels → count_doubted g shadow a b ≤ 3072
count_doubted-small g shadow a b shape low high =
    omega (arith, count_doubted-within g shadow a b (level_start g.levels) low high, count_doubted-nodes g shadow shape, most_nodes-small g shape)
