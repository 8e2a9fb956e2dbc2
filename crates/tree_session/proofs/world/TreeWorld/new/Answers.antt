-- The first state of a session.
use Rattle.std.proofs.Common.{ap, false, ◌∙◌}
use Rattle.tree_session.proofs.Common.{replicate, shape_of, memory_of, watch_of}
use Rattle.tree_session.proofs.NewCalls.{NewTreeCall, held, is_new, is_formatted}
use Rattle.tree_session.proofs.world.TreeWorld.new.Given.{Over}
use Rattle.tree_session.proofs.world.TreeWorld.new.Goals.{In_ok-engine}
use Rattle.tree_session.proofs.world.TreeWorld.new.Goals as goal

-- once the device is formatted
module _ (g : Over) (c : In_ok-engine g) where
  abbrev call : NewTreeCall
  call =
      record {
        formulas_of = g.S.Suite.formulas_of;
        geometry = shape_of c.args.geo;
        keys = g.S.Suite.keys c.args.suite;
        watch_keys = g.S.Suite.keys c.args.watch_suite;
        same_watch_keys = c.requires;
        shape = c.layout_is_one_to_one.ensures.ranges;
        in_range = g.met.S.Suite.in_range c.args.suite;
        size = c.tree_size.result;
        its_size = c.tree_size.ensures.value;
        first_board = memory_of c.in_ok-board.board;
        board_is = c.in_ok-board.ensures;
        first_watch = watch_of g.S.Suite.formulas_of g.S.Suite.keys c.in_ok-watch.watch;
        watch_is = c.in_ok-watch.ensures;
        pads = g.S.Suite.pads c.format.new.suite;
        tags = g.S.Suite.tags c.format.new.suite;
        digests = g.S.Suite.digests c.format.new.suite;
        engine = c.in_ok-engine.engine;
        board = memory_of c.format.new.board;
        watch = watch_of g.S.Suite.formulas_of g.S.Suite.keys c.format.new.watch;
        formatted = c.in_ok-engine.ensures.formatted;
        each = c.format.ensures.each_line;
        snapshot = c.format.ensures.none;
        tampered = c.in_ok-tampered.tampered.items;
        tampered_is = c.in_ok-tampered.ensures.items_if_clones_equal (λ y e. e) ∙ ap (λ n. replicate n false) c.tree_size-2.ensures.value;
        hurt = c.in_ok-hurt.hurt.items;
        hurt_is = c.in_ok-hurt.ensures.items_if_clones_equal (λ y e. e) ∙ ap (λ n. replicate n false) c.tree_lines.ensures.value;
        keys_then = g.S.Suite.keys c.format.new.suite;
        same_keys = c.format.ensures.keys;
      }

pub invariant_of-result : goal.invariant_of-result
invariant_of-result g c = held (call g (goal.at.invariant_of-result g c).In_ok-engine)

pub returns-clause-new : goal.returns-clause-new
returns-clause-new g c = is_new (call g (goal.at.returns-clause-new g c).In_ok-engine)

pub returns-clause-formatted : goal.returns-clause-formatted
returns-clause-formatted g c =
    let counts = c.in_ok-engine.ensures.counts in
    is_formatted (call g (goal.at.returns-clause-formatted g c).In_ok-engine) _ _ _ counts.its_pads counts.its_tags counts.its_digests
