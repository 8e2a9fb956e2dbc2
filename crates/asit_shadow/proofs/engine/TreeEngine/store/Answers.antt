-- A node stored more.
use Rattle.std.proofs.Common.{ℕ, ◌<◌, List, [], length, get_or, true, sym, ap, subst, ◌∙◌, rules}
use Rattle.asit_shadow.proofs.Common.{take_all, Shape, Node, slot_of, IsHeldNode}
use Rattle.asit_shadow.proofs.WriteLoops.{stored-next}
use Rattle.asit_shadow.proofs.engine.TreeEngine.store.Goals as goal

pub levels-preserved : goal.levels-preserved
levels-preserved c =
    let none : ℕ × Node = (0, record { 0 = [] }) in
    record {
      cache =
          stored-next c.args.self.now.shape c.args.nodes.now.items c.as_slice-x-items.result.now c.levels.x-index c.slot_of.result none c.args.self.now.cache c.levels.self.cache c.hold.new.self.cache c.as_slice-x-items.ensures.value c.levels-test.true
          (c.slot_of.ensures.value ∙ ap (λ (k : Shape). slot_of k (get_or c.as_slice-x-items.result.now c.levels.x-index none).0) c.geo-geo.ensures) c.levels.invariant.cache c.hold.ensures.cache;
      shape = c.hold.ensures.shape ∙ c.levels.invariant.shape;
      tree = c.hold.ensures.tree ∙ c.levels.invariant.tree;
      down = c.hold.ensures.down ∙ c.levels.invariant.down;
    }

pub hold-requires-clause-held : goal.hold-requires-clause-held
hold-requires-clause-held c =
    let none : ℕ × Node = (0, record { 0 = [] }) in
    subst (λ (k : Shape). IsHeldNode k (record { x = (get_or c.as_slice-x-items.result.now c.levels.x-index none).0; node = (get_or c.as_slice-x-items.result.now c.levels.x-index none).1; dirty = true })) (sym c.levels.invariant.shape)
    (subst (λ (ps : List (ℕ × Node)). c.levels.x-index < length ps → IsHeldNode c.args.self.now.shape (record { x = (get_or ps c.levels.x-index none).0; node = (get_or ps c.levels.x-index none).1; dirty = true })) (sym c.as_slice-x-items.ensures.value)
    (c.requires c.levels.x-index none) c.levels-test.true)

pub returns-clause-cache : goal.returns-clause-cache
returns-clause-cache c = search (rules, take_all)
