-- Why a node wasn't had; and the node's plan at each end.
use Rattle.std.proofs.Common.{false, ℕ, ◌≡◌, List, Some, None, Result, Ok, Err, sym, ap, subst, ◌∙◌, rules}
use Rattle.asit_shadow.proofs.Common.{IfErr, slice_set, Cut, shape_of, Device, Setup, lifted, the_cut, Follows, ended_err, Node, read_parts, node_plan, leaving, Shape, slot_of, TreeFault, cache_at, TreeChip, tree_chip_of, read_parts_of, with_read, with_clean, fault_of_node, node_in, is_err_of, TreeEngineParts, tree_parts_of, IsNodeTaken, HasNoNode}
use Rattle.asit_shadow.specs.declared.fault.TreeFault.TheVariants as Fail
use Rattle.asit_shadow.specs.Plans.{room_plan}
use Rattle.asit_shadow.proofs.FetchPlans.{not_taken, level_cached, level_missed, level_placed, same_engine}
use Rattle.asit_shadow.proofs.engine.TreeEngine.node_of.Given.{Over}
use Rattle.asit_shadow.proofs.engine.TreeEngine.node_of.Goals.{After-slot_of-i}
use Rattle.asit_shadow.proofs.engine.TreeEngine.node_of.Goals as goal

pub returns-in_err-node-clause-missed : goal.returns-in_err-node-clause-missed
returns-in_err-node-clause-missed g c =
    let setup : Setup = record { shape = c.args.self.now.shape; formulas = g.S.Suite.formulas_of _ } in
    let old : TreeEngineParts = tree_parts_of _ _ _ in
    let new : TreeEngineParts = tree_parts_of _ _ _ in
    subst (λ (answer : Result Node TreeFault). IfErr answer (HasNoNode setup c.args.x c.args.version old new))
    (sym (is_err_of _ _ c.from_residual.ensures.1)) (not_taken setup c.args.x _ _ _ _ old.watch new.watch _ c.in_default.ensures.none
    (subst (λ (k : Shape). IsNodeTaken (record { shape = k; formulas = setup.formulas }) c.args.x c.args.version old.device new.device old.watch new.watch
    (Err c.in_err-node.field-0.0)) c.geo-geo.ensures c.in_err-node.ensures.taken))

-- ---- the plan

module _ (g : Over) (c : After-slot_of-i g) where
  abbrev setup : Setup
  setup = record { shape = c.args.self.now.shape; formulas = g.S.Suite.formulas_of (g.S.Suite.keys c.args.suite.now) }

  abbrev chip : TreeChip
  chip =
      tree_chip_of c.args.self.now (g.W.Watch.watched c.args.watch.now) (g.S.Suite.pads c.args.suite.now) (g.S.Suite.tags c.args.suite.now)
      (g.S.Suite.digests c.args.suite.now)

  slot_is : c.slot_of-i.result ≡ slot_of c.args.self.now.shape c.args.x
  slot_is = c.slot_of-i.ensures.value ∙ ap (λ (k : Shape). slot_of k c.args.x) c.geo-geo.ensures

  absent : node_in (cache_at c.args.self.now.cache (slot_of c.args.self.now.shape c.args.x)) c.args.x ≡ None
  absent = sym c.in_default.ensures.value

  taking : {new : Device} {end : Result (TreeChip × Node) (TreeChip × TreeFault)}
      → Follows (lifted (with_read chip) (fault_of_node c.args.x) (node_plan (record { shape = shape_of c.geo-geo.result; formulas = setup.formulas }) c.args.x
      c.args.version (read_parts_of chip))) (g.B.Board.device c.args.board.now) new end
      → Follows (lifted (with_read chip) (fault_of_node c.args.x) (node_plan setup c.args.x c.args.version (read_parts_of chip))) (g.B.Board.device c.args.board.now) new end
  taking {new = new} {end = end} it = search rules

  room : (tags : ℕ) {keys : List ℕ} {old new : Device} {end : Result (ℕ × Unit {0}) (ℕ × Cut)} → keys ≡ g.S.Suite.keys c.args.suite.now
      → Follows (room_plan (record { shape = c.args.self.now.shape; formulas = g.S.Suite.formulas_of keys }) (cache_at c.args.self.now.cache c.slot_of-i.result) tags) old new end
      → Follows (room_plan setup (cache_at c.args.self.now.cache (slot_of c.args.self.now.shape c.args.x)) tags) old new end
  room tags {old = old} {new = new} {end = end} is it = search rules

pub returns-in-Some-clause-plan : goal.returns-in-Some-clause-plan
returns-in-Some-clause-plan g c =
    level_cached (record { shape = c.args.self.now.shape; formulas = g.S.Suite.formulas_of _ }) c.args.x _ _ _ _ (sym c.in-Some.ensures.value)

pub returns-in_err-node-clause-plan : goal.returns-in_err-node-clause-plan
returns-in_err-node-clause-plan g c =
    let here = (goal.at.returns-in_err-node-clause-plan g c).After-slot_of-i in
    leaving c.from_residual.result
    (tree_chip_of c.args.self.now (g.W.Watch.watched c.taken.new.watch) (g.S.Suite.pads c.taken.new.suite) (g.S.Suite.tags c.taken.new.suite)
    (g.S.Suite.digests c.taken.new.suite))
    (λ i. tree_chip_of c.args.self.now (g.W.Watch.watched c.taken.new.watch) (g.S.Suite.pads c.taken.new.suite) (g.S.Suite.tags c.taken.new.suite)
    (c.taken.ensures.digests i)) (ended_err c.from_residual.result c.from_residual.ensures.1
    (level_missed (setup g here) c.args.x c.args.version (chip g here) (absent g here) (taking g here (c.in_err-node.ensures.plan (chip g here)))))

pub returns-in-Err-clause-plan : goal.returns-in-Err-clause-plan
returns-in-Err-clause-plan g c =
    let here = (goal.at.returns-in-Err-clause-plan g c).After-slot_of-i in
    let cut : Result Node TreeFault = Err Fail.Cut in
    let read : TreeChip = with_read (chip g here) (read_parts (g.W.Watch.watched c.taken.new.watch) (g.S.Suite.pads c.taken.new.suite) (g.S.Suite.tags c.taken.new.suite)) in
    leaving cut
    (tree_chip_of c.args.self.now (g.W.Watch.watched c.taken.new.watch) (g.S.Suite.pads c.make_room.new.suite) (g.S.Suite.tags c.make_room.new.suite)
    (g.S.Suite.digests c.make_room.new.suite))
    (λ i. tree_chip_of c.args.self.now (g.W.Watch.watched c.taken.new.watch) (c.make_room.ensures.pads i) (g.S.Suite.tags c.make_room.new.suite)
    ((c.make_room.ensures.digests ∙ c.taken.ensures.digests) i))
    (level_placed (setup g here) c.args.x c.args.version (chip g here) (absent g here) read c.in_ok-node.node {end = Err (g.S.Suite.tags c.make_room.new.suite, the_cut)}
    (taking g here (c.in_ok-node.ensures.plan (chip g here))) (room g here (g.S.Suite.tags c.taken.new.suite) c.taken.ensures.keys c.in-Err.ensures.plan))

pub returns-clause-plan : goal.returns-clause-plan
returns-clause-plan g c =
    let here = (goal.at.returns-clause-plan g c).After-slot_of-i in
    let had : Result Node TreeFault = Ok c.in_ok-node.node in
    let read : TreeChip = with_read (chip g here) (read_parts (g.W.Watch.watched c.taken.new.watch) (g.S.Suite.pads c.taken.new.suite) (g.S.Suite.tags c.taken.new.suite)) in
    let engine = same_engine c.hold.new.self (with_clean c.args.self.now c.args.x c.in_ok-node.node) c.hold.ensures.shape
    (c.hold.ensures.cache ∙ ap (λ i. slice_set c.args.self.now.cache i (Some (record { x = c.args.x; node = c.in_ok-node.node; dirty = false }))) (slot_is g here))
    c.hold.ensures.tree c.hold.ensures.down in
    leaving had
    (tree_chip_of c.hold.new.self (g.W.Watch.watched c.taken.new.watch) (g.S.Suite.pads c.make_room.new.suite) (g.S.Suite.tags c.make_room.new.suite)
    (g.S.Suite.digests c.make_room.new.suite))
    (λ i. tree_chip_of (engine i) (g.W.Watch.watched c.taken.new.watch) (c.make_room.ensures.pads i) (g.S.Suite.tags c.make_room.new.suite)
    ((c.make_room.ensures.digests ∙ c.taken.ensures.digests) i))
    (level_placed (setup g here) c.args.x c.args.version (chip g here) (absent g here) read c.in_ok-node.node {end = Ok (g.S.Suite.tags c.make_room.new.suite, tt)}
    (taking g here (c.in_ok-node.ensures.plan (chip g here))) (room g here (g.S.Suite.tags c.taken.new.suite) c.taken.ensures.keys c.in-Ok.ensures.plan))
