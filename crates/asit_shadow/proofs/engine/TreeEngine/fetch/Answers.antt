-- The levels so far and the next one, whether it is had or not.
use Rattle.std.proofs.Common.{ℕ, suc, ◌≡◌, ◌<◌, ◌+◌, List, Result, refl, sym, ap, subst, subst₂, ◌∙◌, arith}
use Rattle.asit_shadow.proofs.Common.{slice_index, Shape, Device, Setup, Follows, AreTurnsLeft, turns_start, turn_ok, turn_err, turns_end, Node, child_slot, counter, IsCachedAs, top_node, AreTreeTrusted, tree_parts_at, tree_setup_at, line_path, TreeFault, TreeChip, level_plan, fetch_turn, fetch_plan, tree_chip_at, HasFetchedNode, HasNoNode, IsPathFetchedTo}
use Rattle.asit_shadow.proofs.PathSteps.{IsFetchReady, IsNextLevel, path-start, last-start, last-end, place-is, version-is, next-low, path-next, had-in}
use Rattle.asit_shadow.proofs.FetchStops.{fetch-stopped}
use Rattle.asit_shadow.proofs.engine.TreeEngine.fetch.Given.{Over}
use Rattle.asit_shadow.proofs.engine.TreeEngine.fetch.Goals.{After-from}
use Rattle.asit_shadow.proofs.engine.TreeEngine.fetch.Goals as goal

pub levels-init : goal.levels-init
levels-init g c =
    let ready : IsFetchReady (tree_setup_at g.S.Suite c.args.self.now c.args.suite.now) c.args.at (tree_parts_at g.B.Board g.W.Watch c.args.self.now c.args.board.now c.args.watch.now) =
    record {
      shape = c.is_whole.ensures.shape;
      in_range = g.met.S.Suite.in_range c.args.suite.now;
      its_line = c.requires.line;
      its_size = c.requires.usable.board.its_size;
      slots = c.is_whole.ensures.engine.slot_count;
    } in
    record {
      fetched = path-start (tree_setup_at g.S.Suite c.args.self.now c.args.suite.now) c.args.at (tree_parts_at g.B.Board g.W.Watch c.args.self.now c.args.board.now c.args.watch.now) ready;
      last =
          λ trusted.
          last-start (tree_setup_at g.S.Suite c.args.self.now c.args.suite.now) c.args.at c.top-node.result (tree_parts_at g.B.Board g.W.Watch c.args.self.now c.args.board.now c.args.watch.now) ready
          c.top-node.ensures.value trusted;
      reached =
          subst (λ (node : Node). AreTurnsLeft (fetch_plan (tree_setup_at g.S.Suite c.args.self.now c.args.suite.now) c.args.at (tree_chip_at g.S.Suite g.W.Watch c.args.self.now c.args.suite.now c.args.watch.now))
          (g.B.Board.device c.args.board.now) (fetch_turn (tree_setup_at g.S.Suite c.args.self.now c.args.suite.now) c.args.at) 0 c.args.self.now.shape.levels
          (tree_chip_at g.S.Suite g.W.Watch c.args.self.now c.args.suite.now c.args.watch.now, node) (g.B.Board.device c.args.board.now)) (sym c.top-node.ensures.value)
          (turns_start (fetch_turn (tree_setup_at g.S.Suite c.args.self.now c.args.suite.now) c.args.at) c.args.self.now.shape.levels
          (tree_chip_at g.S.Suite g.W.Watch c.args.self.now c.args.suite.now c.args.watch.now, top_node c.args.self.now.cache) (g.B.Board.device c.args.board.now));
      keys = refl;
      digests = refl;
    }

-- ---- before a level

module _ (g : Over) (c : After-from g) where
  abbrev setup : Setup
  setup = tree_setup_at g.S.Suite c.args.self.now c.args.suite.now

  place : slice_index c.as_slice.result.now (c.from.result + 1) ≡ slice_index (line_path c.args.self.now.shape c.args.at) (suc c.levels.level)
  place = place-is _ _ c.args.at _ _ _ _ c.as_slice.ensures.value c.path-path.ensures.value c.geo-geo.ensures c.from.ensures

  below : c.levels.level < c.args.self.now.shape.levels
  below = omega (arith, c.levels-test.true, c.levels-level-end.ensures, ap (λ (k : Shape). k.levels) c.geo-geo.ensures)

  ready : IsFetchReady (tree_setup_at g.S.Suite c.args.self.now c.args.suite.now) c.args.at (tree_parts_at g.B.Board g.W.Watch c.args.self.now c.args.board.now c.args.watch.now)
  ready =
      record {
        shape = c.is_whole.ensures.shape;
        in_range = g.met.S.Suite.in_range _;
        its_line = c.requires.line;
        its_size = c.requires.usable.board.its_size;
        slots = c.is_whole.ensures.engine.slot_count;
      }

  next : (version : ℕ) → version ≡ counter c.levels.node (child_slot (slice_index c.as_slice.result.now (c.from.result + 1)))
      → IsNextLevel (tree_setup_at g.S.Suite c.args.self.now c.args.suite.now) c.args.at c.levels.level (slice_index c.as_slice.result.now (c.from.result + 1)) version
      (tree_parts_at g.B.Board g.W.Watch c.args.self.now c.args.board.now c.args.watch.now) (tree_parts_at g.B.Board g.W.Watch c.levels.self c.levels.board c.levels.watch)
  next version is =
      record {
        ready = ready;
        before = c.levels.invariant.fetched;
        told = g.met.B.Board.whole c.levels.board;
        level = below;
        place = place;
        version_true =
            version-is (tree_setup_at g.S.Suite c.args.self.now c.args.suite.now) c.args.at c.levels.level (slice_index c.as_slice.result.now (c.from.result + 1)) version c.levels.node
            (tree_parts_at g.B.Board g.W.Watch c.levels.self c.levels.board c.levels.watch) below place is c.levels.invariant.last;
      }

  -- the level's plan is the turn's
  turn : (version : ℕ) → version ≡ counter c.levels.node (child_slot (slice_index c.as_slice.result.now (c.from.result + 1)))
      → {new : Device} {end : Result (TreeChip × Node) (TreeChip × TreeFault)}
      → Follows (level_plan (tree_setup_at g.S.Suite c.levels.self c.levels.suite) (slice_index c.as_slice.result.now (c.from.result + 1)) version
      (tree_chip_at g.S.Suite g.W.Watch c.levels.self c.levels.suite c.levels.watch)) (g.B.Board.device c.levels.board) new end
      → Follows (fetch_turn setup c.args.at c.levels.level (tree_chip_at g.S.Suite g.W.Watch c.levels.self c.levels.suite c.levels.watch, c.levels.node)) (g.B.Board.device c.levels.board) new end
  turn version is {new = new} {end = end} it =
      let now : TreeChip = tree_chip_at g.S.Suite g.W.Watch _ _ _ in
      subst (λ x. Follows (level_plan setup x (counter c.levels.node (child_slot x)) now) (g.B.Board.device c.levels.board) new end) place
      (subst (λ v. Follows (level_plan setup (slice_index c.as_slice.result.now (c.from.result + 1)) v now) (g.B.Board.device c.levels.board) new end) is
      (subst₂ (λ (k : Shape) (keys : List ℕ). Follows (level_plan (record { shape = k; formulas = g.S.Suite.formulas_of keys }) (slice_index c.as_slice.result.now (c.from.result + 1))
      version now) (g.B.Board.device c.levels.board) new end) c.levels.invariant.fetched.effect.shape c.levels.invariant.keys it))

pub returns-in-Err-clause-plan : goal.returns-in-Err-clause-plan
returns-in-Err-clause-plan g c =
    let here = (goal.at.returns-in-Err-clause-plan g c).After-from in
    turn_err c.levels.invariant.reached (below g here) (turn g here (slice_index c.levels.node.0 c.from-in-levels.result)
    (ap (slice_index c.levels.node.0) (c.from-in-levels.ensures ∙ c.child_slot.ensures.value)) c.in-Err.ensures.plan)

pub returns-clause-plan : goal.returns-clause-plan
returns-clause-plan g c =
    turns_end c.levels.invariant.reached (omega (arith, c.levels-test.false, c.levels-level-end.ensures, ap (λ (k : Shape). k.levels) c.geo-geo.ensures))

pub child_slot-requires : goal.child_slot-requires
child_slot-requires g c =
    let before = (goal.at.child_slot-requires g c).After-from in
    let low = next-low c.args.self.now.shape c.args.at c.levels.level (slice_index c.as_slice.result.now (c.from.result + 1)) c.is_whole.ensures.shape c.requires.line (below g before) (place g before) in
    omega (arith, low)

pub returns-in-Err-clause-stopped : goal.returns-in-Err-clause-stopped
returns-in-Err-clause-stopped g c =
    let before = (goal.at.returns-in-Err-clause-stopped g c).After-from in
    let missed = subst₂ (λ (shape : Shape) (keys : List ℕ). HasNoNode (record { shape = shape; formulas = g.S.Suite.formulas_of keys }) (slice_index c.as_slice.result.now (c.from.result + 1))
    (slice_index c.levels.node.0 c.from-in-levels.result) (tree_parts_at g.B.Board g.W.Watch c.levels.self c.levels.board c.levels.watch) (tree_parts_at g.B.Board g.W.Watch c.node_of.new.self c.node_of.new.board c.node_of.new.watch) c.in-Err.fault)
    c.levels.invariant.fetched.effect.shape c.levels.invariant.keys c.in-Err.ensures.missed in
    fetch-stopped (tree_setup_at g.S.Suite c.args.self.now c.args.suite.now) c.args.at c.levels.level (slice_index c.as_slice.result.now (c.from.result + 1)) (slice_index c.levels.node.0 c.from-in-levels.result)
    (tree_parts_at g.B.Board g.W.Watch c.args.self.now c.args.board.now c.args.watch.now) (tree_parts_at g.B.Board g.W.Watch c.levels.self c.levels.board c.levels.watch) (tree_parts_at g.B.Board g.W.Watch c.node_of.new.self c.node_of.new.board c.node_of.new.watch)
    c.in-Err.fault
    (next g before (slice_index c.levels.node.0 c.from-in-levels.result) (ap (slice_index c.levels.node.0) (c.from-in-levels.ensures ∙ c.child_slot.ensures.value))) missed

pub levels-preserved : goal.levels-preserved
levels-preserved g c =
    let before = (goal.at.levels-preserved g c).After-from in
    let more : suc c.levels.level ≡ c.levels.level + 1 = omega arith in
    let its = next g before (slice_index c.levels.node.0 c.from-in-levels.result) (ap (slice_index c.levels.node.0) (c.from-in-levels.ensures ∙ c.child_slot.ensures.value)) in
    let had = subst₂ (λ (shape : Shape) (keys : List ℕ). HasFetchedNode (record { shape = shape; formulas = g.S.Suite.formulas_of keys }) (slice_index c.as_slice.result.now (c.from.result + 1))
    (slice_index c.levels.node.0 c.from-in-levels.result) (tree_parts_at g.B.Board g.W.Watch c.levels.self c.levels.board c.levels.watch) (tree_parts_at g.B.Board g.W.Watch c.node_of.new.self c.node_of.new.board c.node_of.new.watch) c.in-Ok.node)
    c.levels.invariant.fetched.effect.shape c.levels.invariant.keys c.in-Ok.ensures.had in
    record {
      fetched =
          subst (λ n. IsPathFetchedTo (tree_setup_at g.S.Suite c.args.self.now c.args.suite.now) c.args.at n (tree_parts_at g.B.Board g.W.Watch c.args.self.now c.args.board.now c.args.watch.now) (tree_parts_at g.B.Board g.W.Watch c.node_of.new.self c.node_of.new.board c.node_of.new.watch)) more
          (path-next (tree_setup_at g.S.Suite c.args.self.now c.args.suite.now) c.args.at c.levels.level (slice_index c.as_slice.result.now (c.from.result + 1)) (slice_index c.levels.node.0 c.from-in-levels.result) c.in-Ok.node
          (tree_parts_at g.B.Board g.W.Watch c.args.self.now c.args.board.now c.args.watch.now) (tree_parts_at g.B.Board g.W.Watch c.levels.self c.levels.board c.levels.watch) (tree_parts_at g.B.Board g.W.Watch c.node_of.new.self c.node_of.new.board c.node_of.new.watch) its had);
      last =
          λ trusted.
          subst (λ p. IsCachedAs c.args.self.now.shape c.node_of.new.self.cache p c.in-Ok.node)
          (place g before ∙ ap (slice_index (line_path c.args.self.now.shape c.args.at)) more)
          (had-in (tree_setup_at g.S.Suite c.args.self.now c.args.suite.now) c.args.at c.levels.level (slice_index c.as_slice.result.now (c.from.result + 1)) (slice_index c.levels.node.0 c.from-in-levels.result) c.in-Ok.node
          (tree_parts_at g.B.Board g.W.Watch c.args.self.now c.args.board.now c.args.watch.now) (tree_parts_at g.B.Board g.W.Watch c.levels.self c.levels.board c.levels.watch) (tree_parts_at g.B.Board g.W.Watch c.node_of.new.self c.node_of.new.board c.node_of.new.watch) its had);
      reached =
          turn_ok c.levels.invariant.reached (below g before) (turn g before (slice_index c.levels.node.0 c.from-in-levels.result)
          (ap (slice_index c.levels.node.0) (c.from-in-levels.ensures ∙ c.child_slot.ensures.value)) c.in-Ok.ensures.plan);
      keys = c.in-Ok.ensures.keys ∙ c.levels.invariant.keys;
      digests = c.in-Ok.ensures.digests ∙ c.levels.invariant.digests;
    }

pub returns-clause-fetched : goal.returns-clause-fetched
returns-clause-fetched g c =
    let all : c.levels.level ≡ c.args.self.now.shape.levels =
    omega (arith, c.levels-test.false, c.levels.auto.level-end, c.levels-level-end.ensures, ap (λ (k : Shape). k.levels) c.geo-geo.ensures) in
    let path = subst (λ n. IsPathFetchedTo (tree_setup_at g.S.Suite c.args.self.now c.args.suite.now) c.args.at n (tree_parts_at g.B.Board g.W.Watch c.args.self.now c.args.board.now c.args.watch.now) (tree_parts_at g.B.Board g.W.Watch c.levels.self c.levels.board c.levels.watch)) all c.levels.invariant.fetched in
    record {
      path = path;
      last =
          last-end _ c.args.at _ _ _ path
          (subst (λ n. AreTreeTrusted (tree_setup_at g.S.Suite c.args.self.now c.args.suite.now) (tree_parts_at g.B.Board g.W.Watch c.levels.self c.levels.board c.levels.watch)
          → IsCachedAs c.args.self.now.shape c.levels.self.cache (slice_index (line_path c.args.self.now.shape c.args.at) n) c.levels.node) all c.levels.invariant.last);
    }
