use Rattle.std.proofs.Common.{ℕ, suc, ◌≡◌, ◌<◌, ◌≤◌, ◌*◌, true, subst, sym, ◌∙◌, arith}
use Rattle.pmem_base.specs.declared.geometry.Geo.{Geo}
use Rattle.pmem_base.specs.Geo.{shape_of}
use Rattle.pmem_base.specs.Shape.{lazy_levels}
use Rattle.pmem_base.specs.Layout.{slots, shadow_counter_lines, level_start}
use Rattle.bonsai_tree.specs.Positions.{level_of}
use Rattle.bonsai_tree.proofs.Levels.{level_of-at}
use Rattle.pmem_recovery.specs.Named.{doubts, is_among, IsNext}
use Rattle.pmem_recovery.proofs.NamedLaws.{IsNext-same, doubts-strict, doubts-all, names-counter, names-node}
use Rattle.pmem_recovery.proofs.tables.next_doubted.Goals as goal

-- all positions are of the level
of_level : (geo : Geo) (level from end x : ℕ) → level ≤ (shape_of geo).levels → level_start level ≤ from → end ≤ level_start (suc level) → from ≤ x → x < end
    → level_of x ≡ level
of_level geo level from end x few start stop low high =
    level_of-at level x (small level (shape_of geo).levels few geo.has_levels.1) (record { from = omega (arith, start, low); below = omega (arith, high, stop) })
  where
    small : (a b : ℕ) → a ≤ b → b ≤ 6 → a ≤ 6
    small a b h k = omega (arith, h, k)

-- a strict level
pub returns-then-level-lazy_levels : goal.returns-then-level-lazy_levels
returns-then-level-lazy_levels c =
    let g = shape_of c.args.geo.now in
    let strict : lazy_levels g ≤ c.args.level = omega (arith, c.if-level-lazy_levels.true, c.lazy_levels.ensures.value) in
    λ y low high.
    doubts-strict g c.args.shadow.now y
    (subst (λ j. lazy_levels g ≤ j) (sym (of_level c.args.geo.now c.args.level c.args.from c.args.end y c.requires.level c.requires.from c.requires.end low high)) strict)

-- without shadow tables
pub returns-then-not-has_shadow : goal.returns-then-not-has_shadow
returns-then-not-has_shadow c =
    let g = shape_of c.args.geo.now in
    let lazy : c.args.level < lazy_levels g = omega (arith, c.if-level-lazy_levels.false, c.lazy_levels.ensures.value) in
    IsNext-same (λ y. true) (doubts g c.args.shadow.now) c.args.from c.args.end c.first_of.result
    (λ y low high.
    sym (doubts-all g c.args.shadow.now y
    (subst (λ j. j < lazy_levels g) (sym (of_level c.args.geo.now c.args.level c.args.from c.args.end y c.requires.level c.requires.from c.requires.end low high)) lazy)
    (sym c.has_shadow.ensures ∙ c.if-not-has_shadow.true)))
    c.first_of.ensures

-- a counter block, by the counter table
pub returns-then-level-levels : goal.returns-then-level-levels
returns-then-level-levels c =
    let g = shape_of c.args.geo.now in
    let lowest : c.args.level ≡ g.levels = c.if-level-levels.true ∙ c.levels.ensures in
    let lazy : g.levels < lazy_levels g = omega (arith, c.if-level-lazy_levels.false, c.lazy_levels.ensures.value, lowest) in
    IsNext-same (is_among c.args.shadow.now 0 (slots g)) (doubts g c.args.shadow.now) c.args.from c.args.end c.least_named.result
    (λ y low high.
    names-counter g c.args.shadow.now y
    (of_level c.args.geo.now c.args.level c.args.from c.args.end y c.requires.level c.requires.from c.requires.end low high ∙ lowest) lazy
    (sym c.has_shadow.ensures ∙ c.if-not-has_shadow.false))
    (subst (λ n. IsNext (is_among c.args.shadow.now 0 n) c.args.from c.args.end c.least_named.result) c.slots.ensures.value c.least_named.ensures)

-- a node, by the table of nodes
pub returns-else-level-levels : goal.returns-else-level-levels
returns-else-level-levels c =
    let g = shape_of c.args.geo.now in
    let lazy : c.args.level < lazy_levels g = omega (arith, c.if-level-lazy_levels.false, c.lazy_levels.ensures.value) in
    let above : c.args.level < g.levels = below c.args.level g.levels c.requires.level (λ e. c.if-level-levels.false (e ∙ sym c.levels.ensures)) in
    let first = c.tree_table.ensures in
    let count = c.tree_entries.ensures in
    IsNext-same (is_among c.args.shadow.now (shadow_counter_lines g) (g.levels * slots g)) (doubts g c.args.shadow.now) c.args.from c.args.end c.least_named-else-level-levels.result
    (λ y low high.
    let here = sym (of_level c.args.geo.now c.args.level c.args.from c.args.end y c.requires.level c.requires.from c.requires.end low high) in
    names-node g c.args.shadow.now y (subst (λ j. j < g.levels) here above) (subst (λ j. j < lazy_levels g) here lazy)
    (sym c.has_shadow.ensures ∙ c.if-not-has_shadow.false))
    (subst (λ n. IsNext (is_among c.args.shadow.now n (g.levels * slots g)) c.args.from c.args.end c.least_named-else-level-levels.result) first
    (subst (λ n. IsNext (is_among c.args.shadow.now c.tree_table.result n) c.args.from c.args.end c.least_named-else-level-levels.result) count c.least_named-else-level-levels.ensures))
  where
    below : (a b : ℕ) → a ≤ b → (a ≡ b → ⊥) → a < b
    below a b le ne = omega arith
