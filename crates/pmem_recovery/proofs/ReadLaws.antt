-- Laws of how many device lines a recovery reads: line by line, block by block, and in all.
use Rattle.std.proofs.Common.{ℕ, zero, suc, ◌≡◌, ◌<◌, ◌≤◌, ◌+◌, ◌-◌, ◌*◌, Bool, true, false, ◌||◌, cond, eqb, List, [], ◌∷◌, length, All, Some, None, ◌⊎◌, refl, ap, sym, subst, ◌∙◌, inl, add-one, arith}
use Rattle.std.specs.Prelude.{filter, find, is_some, option_map, sum_by, if◌then◌else◌}
use Rattle.std.specs.List.{range_with_len}
use Rattle.std.proofs.lemmas.Bool.{false≢true, eqb-true}
use Rattle.std.proofs.lemmas.List.Elements.{All-head, All-tail, All-weaker, filter-append}
use Rattle.std.proofs.lemmas.List.FromFn.{length-range_with_len}
use Rattle.std.proofs.lemmas.List.Sums.{sum_by-append, sum_by_push}
use Rattle.pmem_base.specs.declared.lines.Line.{Line}
use Rattle.pmem_base.specs.declared.registers.Progress.{Progress}
use Rattle.pmem_base.specs.declared.registers.Regs.{Regs}
use Rattle.pmem_base.specs.Shape.{Shape}
use Rattle.pmem_base.specs.Layout as layout
use Rattle.pmem_base.specs.Layout.{level_start}
use Rattle.pmem_base.proofs.ListLaws.{range_with_len-append, range_more, All-into_range, filter_agree_on}
use Rattle.board.specs.Counts.{RisesBy}
use Rattle.bonsai_tree.specs.Positions.{child_position}
use Rattle.bonsai_tree.proofs.Levels.{IsAtLevel, child-IsAtLevel, level_start-le, IsAtLevel-inner}
use Rattle.page_reencrypt.specs.Registers.{register_held}
use Rattle.shadow_tables.specs.Entries.{shadow_of}
use Rattle.suite.specs.Setup.{Setup}
use Rattle.pmem_engine.specs.Invariants.{is_doubted}
use Rattle.pmem_recovery.specs.declared.entries.MadeEntry.{MadeEntry}
use Rattle.pmem_recovery.specs.Named.{doubts, count_doubted, IsNextAt, IsNext}
use Rattle.pmem_recovery.specs.Upward.{line_made, is_made, IsMadeLine, AreMade, AreMadeTo, AreAllMade}
use Rattle.pmem_recovery.specs.Reads.{sum_doubted, line_reads, page_reads, unmade_reads, children_reads, undoubted_reads, node_reads}

-- ---- counts

pub RisesBy-as : (n m before after : ℕ) → n ≡ m → RisesBy n before after → RisesBy m before after
RisesBy-as n m before after e r = record { never_falls = r.never_falls; exact = λ h. omega (arith, r.exact h, e) }

-- ---- sums

sum_range_suc : (f : ℕ → ℕ) (n : ℕ) → sum_by f (range_with_len 0 (suc n)) ≡ sum_by f (range_with_len 0 n) + f n
sum_range_suc f n =
    let start : 0 + n ≡ n = omega arith in
    ap (sum_by f) (range_more 0 n) ∙ sum_by_push f (range_with_len 0 n) (0 + n) ∙ ap (λ m. sum_by f (range_with_len 0 n) + f m) start

sum_range_more : (f : ℕ → ℕ) (n : ℕ) → sum_by f (range_with_len 0 (n + 1)) ≡ sum_by f (range_with_len 0 n) + f n
sum_range_more f n = ap (λ m. sum_by f (range_with_len 0 m)) (add-one n) ∙ sum_range_suc f n

sum_range_same : (f h : ℕ → ℕ) (n : ℕ) → ((i : ℕ) → i < n → f i ≡ h i) → sum_by f (range_with_len 0 n) ≡ sum_by h (range_with_len 0 n)
sum_range_same f h zero same = refl
sum_range_same f h (suc n) same =
    let rest = sum_range_same f h n (λ i low. same i (omega (arith, low))) in
    let here = same n (omega arith) in
    omega (arith, sum_range_suc f n, sum_range_suc h n, rest, here)

-- in two parts
pub sum_doubted-parts : (g : Shape) (shadow : List Line) (f : ℕ → ℕ) (a m b : ℕ) → a ≤ m → m ≤ b → sum_doubted g shadow f a b ≡ sum_doubted g shadow f a m + sum_doubted g shadow f m b
sum_doubted-parts g shadow f a m b low high =
    let test : ℕ → Bool = λ x. doubts g shadow x in
    let whole : b - a ≡ (m - a) + (b - m) = omega (arith, low, high) in
    let middle : a + (m - a) ≡ m = omega (arith, low) in
    ap (λ n. sum_by f (filter test (range_with_len a n))) whole
    ∙ ap (λ l. sum_by f (filter test l)) (range_with_len-append a (m - a) (b - m))
    ∙ ap (sum_by f) (filter-append test (range_with_len a (m - a)) (range_with_len (a + (m - a)) (b - m)))
    ∙ sum_by-append f (filter test (range_with_len a (m - a))) (filter test (range_with_len (a + (m - a)) (b - m)))
    ∙ ap (λ n. sum_doubted g shadow f a m + sum_by f (filter test (range_with_len n (b - m)))) middle

-- a sum of small numbers
sum_by-le : (f : ℕ → ℕ) (most : ℕ) → ((x : ℕ) → f x ≤ most) → (xs : List ℕ) → sum_by f xs ≤ most * length xs
sum_by-le f most small [] = omega arith
sum_by-le f most small (x ∷ xs) =
    let parts : sum_by f (x ∷ xs) ≡ 0 + f x + sum_by f xs = sum_by-append f (x ∷ []) xs in
    omega (arith, parts, small x, sum_by-le f most small xs)

pub sum_doubted-le : (g : Shape) (shadow : List Line) (f : ℕ → ℕ) (most : ℕ) → ((x : ℕ) → f x ≤ most) → (a b : ℕ) → sum_doubted g shadow f a b ≤ most * count_doubted g shadow a b
sum_doubted-le g shadow f most small a b = sum_by-le f most small (filter (λ x. doubts g shadow x) (range_with_len a (b - a)))

nothing_sums : (f : ℕ → ℕ) (xs : List ℕ) → sum_by f (filter (λ x. false) xs) ≡ 0
nothing_sums f [] = refl
nothing_sums f (x ∷ xs) = nothing_sums f xs

-- if none is doubted
sum_doubted-gap : (g : Shape) (shadow : List Line) (f : ℕ → ℕ) (a b : ℕ) → ((x : ℕ) → a ≤ x → x < b → doubts g shadow x ≡ false) → sum_doubted g shadow f a b ≡ 0
sum_doubted-gap g shadow f a b none =
    ap (sum_by f) (filter_agree_on (λ x. doubts g shadow x) (λ x. false) (range_with_len a (b - a))
    (All-into_range (λ x. doubts g shadow x ≡ false) a (b - a) (λ x low high. none x low (omega (arith, low, high)))))
    ∙ nothing_sums f (range_with_len a (b - a))

sum_one : (g : Shape) (shadow : List Line) (f : ℕ → ℕ) (x : ℕ) → doubts g shadow x ≡ true → sum_doubted g shadow f x (x + 1) ≡ f x
sum_one g shadow f x named =
    let one : x + 1 - x ≡ 1 = omega arith in
    let here : 0 + f x ≡ f x = omega arith in
    ap (λ n. sum_by f (filter (λ y. doubts g shadow y) (range_with_len x n))) one
    ∙ ap (λ b. sum_by f (cond b (x ∷ []) [])) named
    ∙ here

-- up to the next one
pub sum_doubted-next : (g : Shape) (shadow : List Line) (f : ℕ → ℕ) (a from end x : ℕ) → a ≤ from → IsNextAt (doubts g shadow) from end x → sum_doubted g shadow f a (x + 1) ≡ sum_doubted g shadow f a from + f x
sum_doubted-next g shadow f a from end x low next =
    let first = sum_doubted-parts g shadow f a x (x + 1) (omega (arith, low, next.low)) (omega arith) in
    let second = sum_doubted-parts g shadow f a from x low next.low in
    let gap = sum_doubted-gap g shadow f from x next.before in
    let one = sum_one g shadow f x next.passes in
    omega (arith, first, second, gap, one)

-- if there is no next one
pub sum_doubted-last : (g : Shape) (shadow : List Line) (f : ℕ → ℕ) (a from end : ℕ) → a ≤ from → from ≤ end → IsNext (doubts g shadow) from end None → sum_doubted g shadow f a end ≡ sum_doubted g shadow f a from
sum_doubted-last g shadow f a from end low high none =
    let parts = sum_doubted-parts g shadow f a from end low high in
    let gap = sum_doubted-gap g shadow f from end none in
    omega (arith, parts, gap)

pub sum_doubted-none : (g : Shape) (shadow : List Line) (f : ℕ → ℕ) (a b : ℕ) → b ≡ a → sum_doubted g shadow f a b ≡ 0
sum_doubted-none g shadow f a b e =
    sum_doubted-gap g shadow f a b (λ x low high. absurd (omega (arith, low, high, e)))

-- ---- the lines of a page

pub page_reads-none : (registers : List Progress) (page : ℕ) → page_reads registers page 0 ≡ 0
unfolding page_reads
page_reads-none registers page = refl

pub page_reads-more : (registers : List Progress) (page n : ℕ) → page_reads registers page (n + 1) ≡ page_reads registers page n + line_reads registers (64 * page + n)
unfolding page_reads
page_reads-more registers page n = sum_range_more (λ i. line_reads registers (64 * page + i)) n

-- at most two for each line
pub page_reads-le : (registers : List Progress) (page n : ℕ) → page_reads registers page n ≤ 2 * n
unfolding page_reads
page_reads-le registers page n =
    let long = length-range_with_len 0 n in
    let all = sum_by-le (λ i. line_reads registers (64 * page + i)) 2 (λ i. few (is_some (register_held registers (64 * page + i)))) (range_with_len 0 n) in
    omega (arith, long, all)
  where
    few : (held : Bool) → (if held then 0 else 2) ≤ 2
    few true = omega arith
    few false = omega arith

-- ---- the children of a node

pub children_reads-none : (made : List MadeEntry) (x : ℕ) → children_reads made x 0 ≡ 0
unfolding children_reads
children_reads-none made x = refl

pub children_reads-more : (made : List MadeEntry) (x n : ℕ) → children_reads made x (n + 1) ≡ children_reads made x n + unmade_reads made (4 * x + 1 + n)
unfolding children_reads
children_reads-more made x n = sum_range_more (λ i. unmade_reads made (4 * x + 1 + i)) n

-- a line was made for what is doubted, of the positions that are done
line_made_some : (made : List MadeEntry) (x : ℕ) → is_some (line_made made x) ≡ is_made made x
line_made_some [] x = refl
line_made_some (entry ∷ made) x = go (eqb entry.at x) (line_made_some made x)
  where
    go : (b : Bool) → is_some (line_made made x) ≡ is_made made x → is_some (option_map (λ (e : MadeEntry). e.line) (cond b (Some entry) (find (λ (e : MadeEntry). eqb e.at x) made))) ≡ (b || is_made made x)
    go true again = refl
    go false again = again

made_named : (g : Shape) (lines : List Line) (made : List MadeEntry) (x : ℕ) → All (λ (e : MadeEntry). is_doubted g lines e.at ≡ true) made → is_made made x ≡ true → is_doubted g lines x ≡ true
made_named g lines [] x all t = absurd (false≢true t)
made_named g lines (entry ∷ made) x all t =
    go (eqb entry.at x) refl t (λ r. made_named g lines made x (All-tail (λ (e : MadeEntry). is_doubted g lines e.at ≡ true) entry made all) r)
  where
    go : (b : Bool) → eqb entry.at x ≡ b → (b || is_made made x) ≡ true → (is_made made x ≡ true → is_doubted g lines x ≡ true) → is_doubted g lines x ≡ true
    go true q r again =
        subst (λ z. is_doubted g lines z ≡ true) (eqb-true entry.at x q) (All-head (λ (e : MadeEntry). is_doubted g lines e.at ≡ true) entry made all)
    go false q r again = again r

pub made_is_doubted : (setup : Setup) (lines : List Line) (regs : Regs) (done : ℕ → Type 0) (made : List MadeEntry) (x : ℕ) → AreMade setup lines regs done made → x < layout.meta_lines setup.shape → done x → unmade_reads made x ≡ undoubted_reads setup.shape (shadow_of setup.shape lines) x
made_is_doubted setup lines regs done made x m inside d =
    ap (λ b. cond b 0 1) (line_made_some made x ∙ go (is_made made x) refl (is_doubted setup.shape lines x) refl)
  where
    go : (b : Bool) → is_made made x ≡ b → (n : Bool) → is_doubted setup.shape lines x ≡ n → is_made made x ≡ is_doubted setup.shape lines x
    go true q n r =
        q
        ∙ sym (made_named setup.shape lines made x (All-weaker (IsMadeLine setup lines regs) (λ (e : MadeEntry). is_doubted setup.shape lines e.at ≡ true) (λ e l. l.named) made m.each) q)
    go false q true r = absurd (false≢true (sym q ∙ m.every x inside d r))
    go false q false r = q ∙ sym r

-- a node whose children are done
pub node_reads_are : (setup : Setup) (lines : List Line) (regs : Regs) (level from x : ℕ) (made : List MadeEntry) → level < setup.shape.levels → IsAtLevel level x → AreMadeTo setup lines regs level from made → 1 + children_reads made x 4 ≡ node_reads setup.shape (shadow_of setup.shape lines) x
unfolding children_reads node_reads
node_reads_are setup lines regs level from x made above at m =
    ap (λ n. 1 + n)
    (sum_range_same (λ i. unmade_reads made (4 * x + 1 + i)) (λ i. undoubted_reads setup.shape (shadow_of setup.shape lines) (4 * x + 1 + i)) 4
    (λ i small.
    let child = child-IsAtLevel level x i at small in
    made_is_doubted setup lines regs (λ y. (level_start (suc level) ≤ y) ⊎ ((level_start level ≤ y) × (y < from))) made (child_position x i) m
    (IsAtLevel-inner (setup.shape.levels + 1) (suc level) (child_position x i) (omega (arith, above)) child) (inl child.from)))

-- the top line
pub top_reads_are : (setup : Setup) (lines : List Line) (regs : Regs) (made : List MadeEntry) → AreAllMade setup lines regs made → unmade_reads made 0 ≡ undoubted_reads setup.shape (shadow_of setup.shape lines) 0
top_reads_are setup lines regs made m =
    let on_tree : 0 < layout.meta_lines setup.shape = level_start-le 1 (setup.shape.levels + 1) (omega arith) in
    made_is_doubted setup lines regs (λ x. level_start 0 ≤ x) made 0 m on_tree (omega arith)
