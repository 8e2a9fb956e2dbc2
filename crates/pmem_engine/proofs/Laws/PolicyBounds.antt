-- Numbers of lines that a policy puts into a group.
use Rattle.std.proofs.Common.{ℕ, ◌≡◌, ◌≢◌, ◌≤◌, ◌<◌, ◌+◌, ◌-◌, ◌%◌, ◌++◌, zero, suc, Bool, true, false, List, length, map, drop, refl, ap, ◌∙◌, arith}
use Rattle.std.specs.Prelude.{◌==◌, if◌then◌else◌}
use Rattle.std.proofs.lemmas.Bool.{true≢false, eqb-true, eq-eqb}
use Rattle.std.proofs.lemmas.List.{length-map, length-drop, drop_all}
use Rattle.pmem_base.specs.declared.lines.Line.{Line}
use Rattle.pmem_base.specs.Shape.{Shape, lazy_levels, named_levels, counter_window}
use Rattle.pmem_base.specs.Layout.{meta_line}
use Rattle.plain_model.specs.Bounds.{path_length, begun_lines, group_bound}
use Rattle.pmem_engine.specs.declared.resealing.NextSeal.{NextSeal}
use Rattle.pmem_engine.specs.CallFacts.{grouped_lines}
use Rattle.pmem_engine.specs.Committing.{entries_of}
use Rattle.pmem_engine.specs.Sealing.{path_entries, seal_group}

-- at least the counter block is in a begin's group
pub begun_some : (g : Shape) → 1 ≤ begun_lines g
begun_some g = by g.persist (g.persist == 0) refl
  where
    by : (n : ℕ) (none : Bool) → (n == 0) ≡ none → 1 ≤ (if none then 1 else n)
    by n true is = omega arith
    by zero false is = absurd (true≢false is)
    by (suc n) false is = omega arith

-- at least the lines that the policy persists
pub begun_persist : (g : Shape) → g.persist ≤ begun_lines g
begun_persist g = by g.persist (g.persist == 0) refl
  where
    by : (n : ℕ) (none : Bool) → (n == 0) ≡ none → n ≤ (if none then 1 else n)
    by n true is = omega (arith, eqb-true n 0 is)
    by n false is = omega arith

-- at most the whole path
pub begun_most : (g : Shape) → g.persist ≤ g.levels + 1 → begun_lines g ≤ g.levels + 1
begun_most g few = by (g.persist == 0)
  where
    by : (none : Bool) → (if none then 1 else g.persist) ≤ g.levels + 1
    by true = omega arith
    by false = few

pub grouped_persist : (g : Shape) (loss minor : ℕ) → g.persist ≤ grouped_lines g loss minor
grouped_persist g loss minor = by (minor % loss == 0)
  where
    by : (due : Bool) → g.persist ≤ (if due then begun_lines g else g.persist)
    by true = begun_persist g
    by false = omega arith

pub grouped_few : (g : Shape) (loss minor : ℕ) → grouped_lines g loss minor ≤ begun_lines g
grouped_few g loss minor = by (minor % loss == 0)
  where
    by : (due : Bool) → (if due then begun_lines g else g.persist) ≤ begun_lines g
    by true = omega arith
    by false = begun_persist g

-- without a line of the path in a seal's group the number doesn't divide its minor
pub grouped_none : (g : Shape) (loss minor : ℕ) → grouped_lines g loss minor ≡ 0 → minor % loss ≢ 0
grouped_none g loss minor none divides =
    let all : grouped_lines g loss minor ≡ begun_lines g =
    ap (λ b. if b then begun_lines g else g.persist) (eq-eqb (minor % loss) 0 divides) in
    omega (arith, begun_some g, none, all)

pub two_few : (g : Shape) → 2 ≤ group_bound g
two_few g = omega arith

-- a lazy level is one of the path
pub lazy_on_path : (g : Shape) (j : ℕ) → j < lazy_levels g → j ≤ g.levels
lazy_on_path g j low = omega (arith, low)

-- counter blocks are lazy if no line of a path stands in each group
pub lazy_window : (g : Shape) (loss : ℕ) → g.persist ≡ 0 → counter_window g loss ≡ loss
lazy_window g loss none = ap (λ n. if n == 0 then loss else 1) none

-- ---- how many lines a group has

pub length-path_entries : (g : Shape) (grouped : ℕ) (path : List (ℕ × Line)) → length path ≡ path_length g
    → grouped ≤ path_length g → length (path_entries g grouped path) ≡ grouped
length-path_entries g grouped path long few =
    length-map (drop (path_length g - grouped) path) (λ (e : ℕ × Line). (meta_line g e.0, e.1))
    ∙ length-drop (path_length g - grouped) path ∙ omega (arith, long, few)

pub path_entries_few : (g : Shape) (grouped : ℕ) (path : List (ℕ × Line)) → length path ≡ path_length g
    → length (path_entries g grouped path) ≤ grouped
path_entries_few g grouped path long =
    let entries : List (ℕ × Line) = drop (path_length g - grouped) path in
    let mapped : length (path_entries g grouped path) ≡ length entries = length-map entries (λ (e : ℕ × Line). (meta_line g e.0, e.1)) in
    omega (arith, mapped, length-drop (path_length g - grouped) path, long)

pub length-seal_group : (g : Shape) (next : NextSeal) (grouped : ℕ) (path : List (ℕ × Line)) → length path ≡ path_length g
    → length (seal_group g next grouped path) ≤ 2 + grouped
length-seal_group g next grouped path long = omega (arith, path_entries_few g grouped path long)

-- at most a block of each level is named
pub named_most : (g : Shape) → named_levels g ≤ path_length g
named_most g = by g.shadow
  where
    by : (tables : Bool) → (if tables then lazy_levels g else 0) ≤ path_length g
    by true = omega arith
    by false = omega arith

-- no line of a path
pub seal_group_none : (g : Shape) (next : NextSeal) (grouped : ℕ) (path : List (ℕ × Line)) → length path ≡ path_length g
    → grouped ≡ 0 → seal_group g next grouped path ≡ entries_of g next
seal_group_none g next grouped path long none =
    ap (λ (entries : List (ℕ × Line)). entries_of g next ++ map (λ (e : ℕ × Line). (meta_line g e.0, e.1)) entries)
    (drop_all (path_length g - grouped) path (omega (arith, long, none)))

-- if counter blocks are lazy, a seal's group has a line of the path only if the number divides its minor
pub grouped_undue : (g : Shape) (loss minor : ℕ) → g.persist ≡ 0 → (minor % loss == 0) ≡ false → grouped_lines g loss minor ≡ 0
grouped_undue g loss minor lazy undue = ap (λ b. if b then begun_lines g else g.persist) undue ∙ lazy
