-- A level raised more.
use Rattle.std.proofs.Common.{rules, ℕ, ◌≡◌, ◌<◌, ◌≤◌, ◌+◌, List, sym, ap, subst, ◌∙◌, arith}
use Rattle.asit_shadow.proofs.Common.{slice_index, meta_lines, Shape, IsShape, child_slot, path_of-on_path, Node, raised, path_node, position_below, IsRaisedTo, raised_pair}
use Rattle.asit_shadow.proofs.WritePlans.{raised-first, raised-step}
use Rattle.asit_shadow.proofs.SlotPlaces.{on_path-inside}
use Rattle.asit_shadow.proofs.RaisedPaths.{raised-none, raised-more, raised-all, node-raised, below-low}
use Rattle.asit_shadow.proofs.engine.TreeEngine.raised.Goals.{After-from, After-raise}
use Rattle.asit_shadow.proofs.engine.TreeEngine.raised.Goals as goal

pub levels-init : goal.levels-init
levels-init c = search (rules, raised-none, raised-first)

module _ (c : After-from) where
  within : c.levels.level ≤ c.args.self.now.shape.levels
  within = omega (arith, c.levels-test.true, ap (λ (k : Shape). k.levels) c.geo-geo.ensures)

  place : slice_index c.as_slice.result.now c.from.result ≡ path_node c.args.self.now.shape c.args.at c.levels.level
  place = search rules

  inside : path_node c.args.self.now.shape c.args.at c.levels.level < meta_lines c.args.self.now.shape
  inside = search (rules, on_path-inside, path_of-on_path)

  shape : IsShape c.args.self.now.shape
  shape = subst IsShape c.geo-geo.ensures c.layout_is_one_to_one.ensures.ranges

-- the pair that is pushed
module _ (c : After-raise) where
  pair : slice_index c.as_slice.result.now c.from.result ≡ path_node c.args.self.now.shape c.args.at c.levels.level
      → (slice_index c.as_slice.result.now c.from.result, c.raise.result) ≡ raised_pair c.args.self.now.shape c.args.self.now.cache c.args.at c.levels.level
  pair place = search rules

pub node-requires : goal.node-requires
node-requires c = search (rules, place, inside)

pub child_slot-requires : goal.child_slot-requires
child_slot-requires c = search (rules, below-low, shape, within)

pub levels-preserved : goal.levels-preserved
levels-preserved c =
    let before = (goal.at.levels-preserved c).After-from in
    let below = c.position_below-below.ensures.value ∙ ap (λ (k : Shape). position_below k c.args.at c.levels.level) c.geo-geo.ensures in
    record {
      done =
          subst (λ (ps : List (ℕ × Node)). IsRaisedTo c.args.self.now.shape c.args.self.now.cache c.args.at (c.levels.level + 1) ps) (sym c.push.ensures.items)
          (raised-more c.args.self.now.shape c.args.self.now.cache c.args.at c.levels.level c.levels.raised.items (slice_index c.as_slice.result.now c.from.result) c.raise.result (within before) (place before)
          (record { on_tree = omega (arith, place before, inside before); node_whole = c.raise.ensures.whole; has_version = c.raise.ensures.version })
          (λ old cached small.
          node-raised c.args.self.now.shape c.args.self.now.cache (slice_index c.as_slice.result.now c.from.result) c.child_slot.result c.node.result c.raise.result old c.node.ensures.cached c.raise.ensures.raised cached small
          ∙ ap (raised old) (c.child_slot.ensures.value ∙ ap child_slot below)) c.levels.invariant.done);
      value =
          raised-step c.args.self.now.shape c.args.self.now.cache c.args.at c.levels.level c.levels.raised.items c.push.new.self.items
          (slice_index c.as_slice.result.now c.from.result, c.raise.result) c.levels.invariant.value (pair (goal.at.levels-preserved c).After-raise (place before)) c.push.ensures.items;
    }

pub returns-clause-raised : goal.returns-clause-raised
returns-clause-raised c =
    let all : c.levels.level ≡ c.args.self.now.shape.levels + 1 = omega (arith, ap (λ (k : Shape). k.levels) c.geo-geo.ensures) in
    raised-all _ _ c.args.at _ _ all c.levels.invariant.done
