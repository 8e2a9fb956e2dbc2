-- All lines are written and told, and the root is latched.
use Rattle.std.proofs.Common.{ℕ, suc, ◌≡◌, ◌≤◌, ◌+◌, ◌^◌, List, length, sym, ap, subst, ◌∙◌, arith, rules}
use Rattle.asit_shadow.proofs.Common.{Line, shape_of, level_start, meta_lines, tree_lines, tree_slots, IsShadowTree, shadow_digests, shadow_height, risen_times, suite_state, SuiteRise, shadow_height-room, SuiteRise-then, SuiteRise-as, rest_of, AreSlotsTold}
use Rattle.asit_shadow.proofs.FormatSteps.{first_slots-count}
use Rattle.asit_shadow.proofs.FormatEnds.{device-formatted}
use Rattle.asit_shadow.proofs.formatting.fill_device.Goals as goal

pub write_slots-requires-clause-long : goal.write_slots-requires-clause-long
write_slots-requires-clause-long g c = ap (λ (slots : List Line). length slots) c.requires.first ∙ first_slots-count (shape_of c.args.geo.now)

pub fill-root-requires : goal.fill-root-requires
fill-root-requires g c =
    let room = shadow_height-room (shape_of c.args.geo.now) c.layout_is_one_to_one.ensures.ranges in
    let long : length c.args.slots.now ≡ tree_slots (shape_of c.args.geo.now) = ap (λ (slots : List Line). length slots) c.requires.first ∙ first_slots-count (shape_of c.args.geo.now) in
    subst (λ h. length c.args.slots.now ≤ 4 ^ h) (sym c.requires.height) (omega (arith, room, long))

pub returns-clause-formatted : goal.returns-clause-formatted
returns-clause-formatted g c =
    let keys : g.S.Suite.keys c.write_nodes.new.suite ≡ g.S.Suite.keys c.args.suite.now = c.write_nodes.ensures.keys ∙ c.seal_lines.ensures.keys in
    device-formatted (record { shape = shape_of c.args.geo.now; formulas = g.S.Suite.formulas_of (g.S.Suite.keys c.args.suite.now) })
    (rest_of (g.B.Board.device c.args.board.now) (g.W.Watch.watched c.args.watch.now)) (rest_of (g.B.Board.device c.latch_root.new.board) (g.W.Watch.watched c.write_slots.new.watch))
    (g.B.Board.device c.seal_lines.new.board) (g.B.Board.device c.write_nodes.new.board) (g.B.Board.device c.write_slots.new.board) (g.W.Watch.watched c.seal_lines.new.watch) (g.W.Watch.watched c.write_nodes.new.watch) c.fill-root.result c.fill-root.new.self
    (record {
      its_size = c.requires.size;
      steady = c.requires.steady;
      seal_count = c.requires.seals;
      node_count = c.requires.nodes;
      slot_count = c.requires.slots;
      was_whole = g.met.B.Board.whole c.args.board.now;
      whole = g.met.B.Board.whole c.latch_root.new.board;
      seals_steady = c.seal_lines.ensures.steady;
      seals_written = c.seal_lines.ensures.lines;
      seals_told = c.seal_lines.ensures.told;
      nodes_steady = c.write_nodes.ensures.steady;
      nodes_written = search rules;
      nodes_told = c.write_nodes.ensures.told;
      slots_steady = c.write_slots.ensures.steady;
      slots_written = search rules;
      slots_told =
          subst (λ (slots : List Line). AreSlotsTold slots (tree_slots (shape_of c.args.geo.now)) (g.W.Watch.watched c.write_nodes.new.watch) (g.W.Watch.watched c.write_slots.new.watch)) c.requires.first c.write_slots.ensures.told;
      seals_followed = c.seal_lines.ensures.plan;
      nodes_followed = search rules;
      slots_followed = search rules;
      latched = c.latch_root.ensures;
      its_root = search rules;
    })
    (c.fill-root.ensures.height ∙ c.requires.height)
    (subst (λ (slots : List Line). IsShadowTree (g.S.Suite.formulas_of (g.S.Suite.keys c.args.suite.now)) (shadow_height (shape_of c.args.geo.now)) slots c.fill-root.new.self.lines) c.requires.first
    (subst (λ h. IsShadowTree (g.S.Suite.formulas_of (g.S.Suite.keys c.args.suite.now)) h c.args.slots.now c.fill-root.new.self.lines) c.requires.height
    (subst (λ (k : List ℕ). IsShadowTree (g.S.Suite.formulas_of k) c.args.tree.now.height c.args.slots.now c.fill-root.new.self.lines) keys c.fill-root.ensures.tree)))

pub returns-clause-counts : goal.returns-clause-counts
returns-clause-counts g c =
    let t = tree_lines (shape_of c.args.geo.now) in
    let m = meta_lines (shape_of c.args.geo.now) in
    let filled : SuiteRise 0 0 (shadow_digests (shape_of c.args.geo.now))
    (suite_state (g.S.Suite.keys c.write_nodes.new.suite) (g.S.Suite.pads c.write_nodes.new.suite) (g.S.Suite.tags c.write_nodes.new.suite) (g.S.Suite.digests c.write_nodes.new.suite))
    (suite_state (g.S.Suite.keys c.fill-root.new.suite) (g.S.Suite.pads c.fill-root.new.suite) (g.S.Suite.tags c.fill-root.new.suite) (g.S.Suite.digests c.fill-root.new.suite)) =
    record {
      its_keys = c.fill-root.ensures.keys;
      its_pads = c.fill-root.ensures.pads;
      its_tags = c.fill-root.ensures.tags;
      its_digests = c.fill-root.ensures.digests ∙ ap (λ h. risen_times (level_start (suc h)) (g.S.Suite.digests c.write_nodes.new.suite)) c.requires.height;
    } in
    let pads : (t + 0) + 0 ≡ t = omega arith in
    let tags : (t + m) + 0 ≡ t + m = omega arith in
    let digests : (0 + 0) + shadow_digests (shape_of c.args.geo.now) ≡ shadow_digests (shape_of c.args.geo.now) = omega arith in
    SuiteRise-as _ _ _ _ _ _ _ _ pads tags digests
    (SuiteRise-then (t + 0) (t + m) (0 + 0) 0 0 (shadow_digests (shape_of c.args.geo.now)) _ _ _
    (SuiteRise-then t t 0 0 m 0 _ _ _ c.seal_lines.ensures.counts c.write_nodes.ensures.counts) filled)
