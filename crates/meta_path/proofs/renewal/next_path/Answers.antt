-- The levels made so far and the next one.
use Rattle.std.proofs.Common.{◌≡◌, ℕ, suc, ◌+◌, ◌-◌, ◌≤◌, List, ◌∷◌, length, reverse, refl, sym, ap, subst, subst₂, ◌∙◌, arith}
use Rattle.std.specs.Prelude.{All, IsTrue}
use Rattle.std.specs.List.{refill}
use Rattle.std.proofs.lemmas.List.Elements.{All-cons}
use Rattle.pmem_base.specs.declared.lines.Line.{Line}
use Rattle.pmem_base.specs.Counts.{risen, risen_times}
use Rattle.pmem_base.specs.Shape.{Shape}
use Rattle.pmem_base.specs.Geo.{shape_of}
use Rattle.pmem_base.specs.Lines.{IsLine}
use Rattle.bonsai_tree.specs.Positions.{parent}
use Rattle.meta_cache.specs.Banks.{is_cached}
use Rattle.meta_path.proofs.PathFacts.{position_is, path_at-below}
use Rattle.meta_path.proofs.RenewalLemmas.{reverse_pushed, turned_pushed, IsRenewedTo-none, IsRenewedTo-more, parent_cached, node_is, IsPathOf-path_with, IsRenewed-true}
use Rattle.meta_path.proofs.renewal.next_path.Given.{Over}
use Rattle.meta_path.proofs.renewal.next_path.Goals.{In-levels, After-levels, After-digest-root}
use Rattle.meta_path.proofs.renewal.next_path.Goals as goal

-- ---- at a level

module _ (g : Over) (c : In-levels g) where
  abbrev left : ℕ
  left = (shape_of c.args.geo.now).levels - 1 - c.levels.made

  more : c.levels.made + suc left ≡ (shape_of c.args.geo.now).levels
  more = omega (arith, c.levels-test.true, c.levels-made-end.ensures)

  below : 1 ≤ c.levels.x
  below =
      subst (λ x. 1 ≤ x) (sym (c.levels.invariant.renewed (suc left) more).position)
      (path_at-below (shape_of c.args.geo.now) c.args.page left c.requires.page (omega (arith, more)))

pub levels-init : goal.levels-init
levels-init g c =
    record {
      count = ap (λ (xs : List (ℕ × Line)). length xs) c.new-lines.ensures;
      renewed = λ left e.
          IsRenewedTo-none (omega (arith, e))
          (position_is _ c.as_slice.result.now c.from.result (shape_of c.args.geo.now).levels
          (c.as_slice.ensures.value ∙ c.path-path.ensures.value) (c.from.ensures ∙ c.levels-2.ensures))
          c.is_whole.ensures (ap (λ (xs : List (ℕ × Line)). reverse xs) c.new-lines.ensures);
      digests = refl;
      keys = refl;
      pads = refl;
      tags = refl;
    }

pub node_above-line-requires-clause-below : goal.node_above-line-requires-clause-below
node_above-line-requires-clause-below g c = below g (goal.at.node_above-line-requires-clause-below g c).In-levels

pub node_above-line-requires-clause-cached : goal.node_above-line-requires-clause-cached
node_above-line-requires-clause-cached g c =
    let place = (goal.at.node_above-line-requires-clause-cached g c).In-levels in
    let level : ℕ = left g place in
    let made : c.levels.made + suc level ≡ (shape_of c.args.geo.now).levels = more g place in
    let bank : level ≡ c.levels-in-levels.result - 1 - c.levels.made = omega (arith, c.levels-in-levels.ensures, made) in
    subst₂ (λ (k : Shape) b. IsTrue (is_cached k c.args.cache.now.banks b (parent c.levels.x))) (sym c.requires.shape) bank
    (parent_cached _ _ _ level c.levels.x (omega (arith, made)) (c.levels.invariant.renewed (suc level) made).position c.requires.cached)

pub parent-x-requires : goal.parent-x-requires
parent-x-requires g c = below g (goal.at.parent-x-requires g c).In-levels

pub levels-preserved : goal.levels-preserved
levels-preserved g c =
    record {
      count = c.push.ensures.len ∙ ap (λ n. n + 1) c.levels.invariant.count;
      renewed = λ left e.
          let more : c.levels.made + suc left ≡ (shape_of c.args.geo.now).levels = omega (arith, e) in
          let before = c.levels.invariant.renewed (suc left) more in
          IsRenewedTo-more before c.parent-x.ensures.value
          (node_is c.args.cache.now.banks c.levels.line c.requires.page c.args.geo.now.has_levels.1 (omega (arith, more)) before.position c.requires.shape
          (omega (arith, more, c.levels-in-levels.ensures)) (ap g.S.Suite.formulas_of c.levels.invariant.keys)
          c.node_above-line.ensures.node)
          c.node_above-line.ensures.whole (reverse_pushed c.levels.lines.items c.push.new.self.items (c.levels.x, c.levels.line) c.push.ensures.items);
      digests =
          let next : suc c.levels.made ≡ c.levels.made + 1 = omega arith in
          c.node_above-line.ensures.digests ∙ ap risen c.levels.invariant.digests
          ∙ ap (λ n. risen_times n (g.S.Suite.digests c.args.suite.now)) next;
      keys = c.node_above-line.ensures.keys ∙ c.levels.invariant.keys;
      pads = c.node_above-line.ensures.pads ∙ c.levels.invariant.pads;
      tags = c.node_above-line.ensures.tags ∙ c.levels.invariant.tags;
    }

-- ---- all levels are made

module _ (g : Over) (c : After-levels g) where
  all : c.levels.made + 0 ≡ (shape_of c.args.geo.now).levels
  all = omega (arith, c.levels-test.false, c.levels.auto.made-end, c.levels-made-end.ensures)

-- the lines when they are turned
entries : (g : Over) (c : After-digest-root g)
    → refill (length c.push-2.new.self.items) c.push-2.new.self.items c.reverse.new.self
    ≡ (c.levels.x, c.levels.line) ∷ reverse c.levels.lines.items
entries g c =
    turned_pushed c.levels.lines.items c.push-2.new.self.items c.deref_mut.result.now c.reverse.new.self (c.levels.x, c.levels.line)
    c.push-2.ensures.items c.deref_mut.ensures.value c.reverse.ensures.after

pub returns-clause-path : goal.returns-clause-path
returns-clause-path g c =
    IsPathOf-path_with (shape_of c.args.geo.now) _ _ c.args.page c.args.block.now _ c.requires.page
    (entries g c ∙ (c.levels.invariant.renewed 0 (all g (goal.at.returns-clause-path g c).After-levels)).rest)

pub returns-clause-on_truth : goal.returns-clause-on_truth
returns-clause-on_truth g c truth is_true =
    let done = c.levels.invariant.renewed 0 (all g (goal.at.returns-clause-on_truth g c).After-levels) in
    IsRenewed-true _ _ c.args.cache.now.banks truth c.args.page c.args.block.now
    _ c.digest-root.result c.requires.page c.args.geo.now.has_levels.1 c.requires.cached is_true (entries g c ∙ done.rest)
    (c.digest-root.ensures.digest
    ∙ ap (λ (keys : List ℕ). (g.S.Suite.formulas_of keys).digest_of c.levels.x c.levels.line) c.levels.invariant.keys ∙ done.top)

pub returns-clause-whole : goal.returns-clause-whole
returns-clause-whole g c =
    let done = c.levels.invariant.renewed 0 (all g (goal.at.returns-clause-whole g c).After-levels) in
    subst (λ (entries : List (ℕ × Line)). All (λ entry. IsLine entry.1) entries) (sym (entries g c))
    (All-cons (λ entry. IsLine entry.1) (c.levels.x, c.levels.line) (reverse c.levels.lines.items) done.whole done.each)
