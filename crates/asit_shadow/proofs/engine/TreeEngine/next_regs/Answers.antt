-- A node named more.
use Rattle.std.proofs.Common.{ℕ, ◌≡◌, ◌<◌, List, [], length, get_or, refl, sym, ap, subst, ◌∙◌, arith, rules}
use Rattle.asit_shadow.proofs.Common.{take_all, Shape, Node, line_of_slot, line_of_tag, tree_with, tree_root_with, slot_of, meta_lines, meta_lines-most}
use Rattle.asit_shadow.proofs.WritePlans.{named-none, named-step}
use Rattle.asit_shadow.proofs.RegisterLaws.{others-emptied, others-then}
use Rattle.asit_shadow.proofs.WriteLoops.{armed-none, armed-next, path-digests}
use Rattle.asit_shadow.proofs.engine.TreeEngine.next_regs.Given.{Over}
use Rattle.asit_shadow.proofs.engine.TreeEngine.next_regs.Goals.{After-name-next}
use Rattle.asit_shadow.proofs.engine.TreeEngine.next_regs.Goals as goal

pub levels-init : goal.levels-init
levels-init g c =
    let place = c.tag_place.ensures.value ∙ ap (λ (k : Shape). line_of_tag k c.args.at) c.geo-geo.ensures in
    record {
      group = search (rules, armed-none);
      named = search (rules, named-none);
      others = search (rules, others-then, others-emptied);
      height = refl;
      shape = refl;
      cache = refl;
      down = refl;
      keys = refl;
      pads = refl;
      tags = refl;
      digests = search rules;
    }

module _ (g : Over) (c : After-name-next g) where
  slot : c.slot_of-i.result ≡ slot_of c.args.self.now.shape (get_or c.as_slice-x-items.result.now c.levels.x-index (0, record { 0 = [] })).0
  slot = c.slot_of-i.ensures.value ∙ ap (λ (k : Shape). slot_of k (get_or c.as_slice-x-items.result.now c.levels.x-index (0, record { 0 = [] })).0) c.geo-geo.ensures

  named_lines : c.name-next.new.self.tree.lines
      ≡ tree_with (g.S.Suite.formulas_of (g.S.Suite.keys c.args.suite.now)) c.levels.self.tree.height c.levels.self.tree.lines c.slot_of-i.result c.slot_line-line.result
  named_lines = search rules

  named_root : c.name-next.result
      ≡ tree_root_with (g.S.Suite.formulas_of (g.S.Suite.keys c.args.suite.now)) c.levels.self.tree.height c.levels.self.tree.lines c.slot_of-i.result c.slot_line-line.result
  named_root = search rules

pub slot_line-line-requires : goal.slot_line-line-requires
slot_line-line-requires g c =
    let low : (get_or c.as_slice-x-items.result.now c.levels.x-index _).0 < meta_lines c.args.self.now.shape =
    subst (λ (ps : List (ℕ × Node)). c.levels.x-index < length ps → (get_or ps c.levels.x-index (0, record { 0 = [] })).0 < meta_lines c.args.self.now.shape) (sym c.as_slice-x-items.ensures.value)
    (c.requires.nodes c.levels.x-index _) c.levels-test.true in
    omega (arith, low, meta_lines-most c.args.self.now.shape c.is_whole.ensures.shape.at_most_six_levels)

pub levels-preserved : goal.levels-preserved
levels-preserved g c =
    let before = (goal.at.levels-preserved g c).After-name-next in
    record {
      group =
          armed-next c.args.self.now.shape c.args.at c.slot_place.result c.slot_of-i.result c.args.seal.now c.args.nodes.now.items c.as_slice-x-items.result.now c.levels.x-index c.slot_line-line.result (0, record { 0 = [] })
          c.levels.next.group.items c.push-in-levels.new.self.items c.as_slice-x-items.ensures.value c.levels-test.true
          (c.slot_place.ensures.value ∙ ap (λ (k : Shape). line_of_slot k c.slot_of-i.result) c.geo-geo.ensures) (slot g before) c.slot_line-line.ensures c.levels.invariant.group c.push-in-levels.ensures.items;
      named =
          named-step (g.S.Suite.formulas_of (g.S.Suite.keys c.args.suite.now)) c.args.self.now.shape c.args.nodes.now.items c.as_slice-x-items.result.now c.levels.x-index
          c.slot_of-i.result c.slot_line-line.result (0, record { 0 = [] }) (c.args.self.now.tree, c.args.regs.now.root) c.levels.self.tree c.name-next.new.self.tree
          c.levels.next.root c.name-next.result c.as_slice-x-items.ensures.value c.levels-test.true (slot g before) c.slot_line-line.ensures c.name-next.ensures.height
          (named_lines g before) (named_root g before) c.levels.invariant.named;
      others = search (rules, others-then);
      height = c.name-next.ensures.height ∙ c.levels.invariant.height;
      shape = c.name-next.ensures.shape ∙ c.levels.invariant.shape;
      cache = c.name-next.ensures.cache ∙ c.levels.invariant.cache;
      down = c.name-next.ensures.down ∙ c.levels.invariant.down;
      keys = c.name-next.ensures.keys ∙ c.levels.invariant.keys;
      pads = c.name-next.ensures.pads ∙ c.levels.invariant.pads;
      tags = c.name-next.ensures.tags ∙ c.levels.invariant.tags;
      digests =
          path-digests c.levels.x-index c.args.self.now.tree.height c.levels.self.tree.height (g.S.Suite.digests c.args.suite.now) (g.S.Suite.digests c.levels.suite) (g.S.Suite.digests c.name-next.new.suite)
          c.levels.invariant.height c.levels.invariant.digests c.name-next.ensures.digests;
    }

pub returns-clause-group : goal.returns-clause-group
returns-clause-group g c = search (rules, take_all)

pub returns-clause-named : goal.returns-clause-named
returns-clause-named g c = search (rules, take_all)

pub returns-clause-others : goal.returns-clause-others
returns-clause-others g c = c.levels.invariant.others

pub returns-clause-pads : goal.returns-clause-pads
returns-clause-pads g c = c.levels.invariant.pads

pub returns-clause-tags : goal.returns-clause-tags
returns-clause-tags g c = c.levels.invariant.tags
