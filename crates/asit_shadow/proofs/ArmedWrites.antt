-- A write that was made over a trusted chip with the path cached is armed as its law asks.
use Rattle.std.proofs.Common.{ℕ, ◌≡◌, ◌<◌, ◌≤◌, ◌+◌, ◌-◌, ◌/◌, ◌%◌, ◌^◌, List, length, true, refl, sym, ap, subst, ◌∙◌, arith}
use Rattle.asit_shadow.proofs.Common.{◌==◌, Line, Regs, put_lines, IsShape, meta_lines, child_slot, path_of-on_path, path_of-block, meta_lines-level, level_start-suc, cond-true, eq-eqb, Setup, Node, LineSeal, counter, total, tree_lines, IsShadowTree, root_of, shadow_height, node_at, line_position, raised, is_on_line_path, raised-same, raised_nodes-IsRaised, versions_down, IsCached, IsCachedAs, IsTreeEngine, TreeEngineParts, AreTreeTrusted, HasPathNamed, HasPathCached, IsNodePathCached, path_node, IsTreeArmed, HasPathStored, set_pairs, slot_entries, position_below, IsWriteMade}
use Rattle.counter_tree.specs.Shadow.{shadow_root}
use Rattle.counter_tree.specs.Trees.{raised_nodes}
use Rattle.asit_shadow.specs.Paths.{slots_with}
use Rattle.asit_shadow.proofs.SlotPlaces.{on_path-inside}
use Rattle.asit_shadow.proofs.PutLaws.{slots_with-HasPathNamed}
use Rattle.asit_shadow.proofs.SetLaws.{cache_with-HasPathCached}
use Rattle.asit_shadow.proofs.PairSets.{IsPairing, pairs-are, lines-are, slots-are, cache-is, nodes-are}
use Rattle.asit_shadow.proofs.ReadEnds.{line_counter-is}

-- a cached node of a trusted chip is the true one
pub cached-as : (setup : Setup) (parts : TreeEngineParts) (x : ℕ) → AreTreeTrusted setup parts → IsCached setup.shape parts.engine.cache x → IsCachedAs setup.shape parts.engine.cache x (node_at parts.watch.nodes x)
cached-as setup parts x trusted cached =
    record {
      held = cached.held;
      stands = cached.stands;
      position = cached.position;
      its_node =
          sym ((trusted.cached_true _ cached.held cached.stands).true_node ∙ ap (node_at parts.watch.nodes) cached.position);
    }

-- what the law of arming asks, and what that of storing asks
pub record IsArmedAndStored (setup : Setup) (a : ℕ) (seal : LineSeal) (regs : Regs) (old new : TreeEngineParts) : Type 0 where
  pub armed : IsTreeArmed setup a seal old.device.regs regs old.watch new.watch
  pub stored : HasPathStored setup a old.engine new.engine new.watch

pub armed-and_stored : (setup : Setup) (a : ℕ) (plain : Line) (seal : LineSeal) (pairs : List (ℕ × Node)) (regs : Regs) (old new : TreeEngineParts) → IsShape setup.shape → a < tree_lines setup.shape → IsTreeEngine old.engine → AreTreeTrusted setup old → IsNodePathCached setup.shape a old.engine.cache → total (node_at old.watch.nodes 0) < 2 ^ 64 - 1 → IsWriteMade setup a plain seal pairs regs old new → IsArmedAndStored setup a seal regs old new
unfolding shadow_root
armed-and_stored setup a plain seal pairs regs old new shape inside engine trusted cached can_rise made =
    let g = setup.shape in
    let tree = trusted.anchored.tree in
    let size : length old.watch.nodes ≡ meta_lines setup.shape = trusted.anchored.of_setup.node_count in
    let raises = raised_nodes-IsRaised setup.shape a old.watch.nodes shape.at_least_one_level inside can_rise tree in
    let small : (x : ℕ) → x < meta_lines setup.shape → total (node_at old.watch.nodes x) < 2 ^ 64 - 1 =
    λ x in_x. omega (arith, versions_down setup.shape old.watch.nodes x x tree (omega arith) in_x, can_rise) in
    let on : (n : ℕ) → n ≤ setup.shape.levels → is_on_line_path setup.shape a (path_node setup.shape a n) ≡ true = λ n within. path_of-on_path setup.shape (a / 4) n within in
    let its : (n : ℕ) → n ≤ setup.shape.levels → IsCachedAs setup.shape old.engine.cache (path_node setup.shape a n) (node_at old.watch.nodes (path_node setup.shape a n)) =
    λ n within. cached-as setup old (path_node setup.shape a n) trusted (cached.each (path_node setup.shape a n) (on n within)) in
    let node_small : (n : ℕ) → n ≤ setup.shape.levels → total (node_at old.watch.nodes (path_node setup.shape a n)) < 2 ^ 64 - 1 =
    λ n within. small (path_node setup.shape a n) (on_path-inside setup.shape a (path_node setup.shape a n) inside (on n within)) in
    let pairing = pairs-are setup.shape a pairs old.watch.nodes shape inside made.raised.positions size in
    let nodes : set_pairs pairs old.watch.nodes ≡ raised_nodes setup.shape a old.watch.nodes =
    nodes-are setup.shape a pairs old.watch.nodes shape inside made.raised.positions raises size
    (λ n within. made.raised.each_raised n (node_at old.watch.nodes (path_node setup.shape a n)) within (its n within) (node_small n within)) in
    let new_nodes : new.watch.nodes ≡ set_pairs pairs old.watch.nodes = made.told.nodes in
    let mine : IsPairing setup.shape a pairs new.watch.nodes = subst (IsPairing setup.shape a pairs) (sym new_nodes) pairing in
    let new_slots : new.watch.slots ≡ slots_with setup.shape a new.watch.nodes old.watch.slots =
    made.told.slots ∙ slots-are setup.shape a pairs new.watch.nodes old.watch.slots mine in
    let last : IsCachedAs setup.shape old.engine.cache (path_node setup.shape a setup.shape.levels) (node_at old.watch.nodes (path_node setup.shape a setup.shape.levels)) = its setup.shape.levels (omega arith) in
    let last_raised = made.raised.each_raised setup.shape.levels (node_at old.watch.nodes (path_node setup.shape a setup.shape.levels)) (omega arith) last (node_small setup.shape.levels (omega arith)) in
    let own_slot : child_slot (position_below setup.shape a setup.shape.levels) ≡ a % 4 =
    ap child_slot (cond-true (setup.shape.levels == setup.shape.levels) (line_position setup.shape a) (path_node setup.shape a (setup.shape.levels + 1)) (eq-eqb setup.shape.levels setup.shape.levels refl))
    ∙ omega (arith, meta_lines-level setup.shape, level_start-suc setup.shape.levels) in
    let last_four : length (node_at old.watch.nodes (path_node setup.shape a setup.shape.levels)).0 ≡ 4 =
    tree.four (path_node setup.shape a setup.shape.levels) (on_path-inside setup.shape a (path_node setup.shape a setup.shape.levels) inside (on setup.shape.levels (omega arith))) in
    let risen_count : seal.counter ≡ counter (node_at old.watch.nodes (path_node setup.shape a setup.shape.levels)) (a % 4) + 1 =
    made.counted
    ∙ (ap (λ (n : Node). counter n (a % 4)) last_raised
    ∙ (ap (λ i. counter (raised (node_at old.watch.nodes (path_node setup.shape a setup.shape.levels)) i) (a % 4)) own_slot
    ∙ raised-same (node_at old.watch.nodes (path_node setup.shape a setup.shape.levels)) (a % 4) (omega arith) last_four)) in
    let height : old.engine.tree.height ≡ shadow_height setup.shape = engine.tree_height ∙ ap shadow_height trusted.its_shape in
    let over : IsShadowTree setup.formulas old.engine.tree.height old.watch.slots old.engine.tree.lines =
    subst (λ h. IsShadowTree setup.formulas h old.watch.slots old.engine.tree.lines) (sym height) trusted.tree_true in
    let named = made.root old.watch.slots trusted.anchored.of_setup.slot_count over in
    record {
      armed =
          record {
            its_line = inside;
            can_rise = can_rise;
            in_range = made.made.in_range;
            counter =
                risen_count
                ∙ ap (λ n. n + 1) (line_counter-is setup.shape a old.watch.nodes (node_at old.watch.nodes (path_node setup.shape a setup.shape.levels)) (ap (node_at old.watch.nodes) (path_of-block setup.shape (a / 4))));
            tagged = made.made.tag;
            setups = made.told.setup;
            seals = made.told.seals;
            nodes = new_nodes ∙ nodes;
            slots =
                subst (HasPathNamed setup.shape a new.watch.nodes old.watch.slots) (sym new_slots)
                (slots_with-HasPathNamed setup.shape a new.watch.nodes old.watch.slots shape inside trusted.anchored.of_setup.slot_count);
            exhibit = made.told.exhibit;
            no_group_before = trusted.no_group;
            group = made.group ∙ lines-are setup.shape a seal pairs new.watch.nodes mine;
            root =
                named.its_root
                ∙ (ap (λ h. root_of setup.formulas h (put_lines (slot_entries setup.shape (λ i. i) pairs) old.watch.slots)) height
                ∙ ap (root_of setup.formulas (shadow_height setup.shape)) (sym made.told.slots));
            others = made.others;
          };
      stored =
          record {
            shape = made.shape;
            down = made.down;
            cache =
                subst (HasPathCached setup.shape a new.watch.nodes old.engine.cache) (sym (made.cache ∙ cache-is setup.shape a pairs new.watch.nodes old.engine.cache mine))
                (cache_with-HasPathCached setup.shape a new.watch.nodes old.engine.cache shape inside trusted.slot_count);
            tree =
                subst (λ slots. IsShadowTree setup.formulas (shadow_height setup.shape) slots new.engine.tree.lines) (sym made.told.slots)
                (subst (λ h. IsShadowTree setup.formulas h (put_lines (slot_entries setup.shape (λ i. i) pairs) old.watch.slots) new.engine.tree.lines) height named.tree);
          };
    }
