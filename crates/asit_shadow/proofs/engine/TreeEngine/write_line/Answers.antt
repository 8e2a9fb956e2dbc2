-- A write: spent, stopped as its path is fetched, cut at the arming latch, cut after it, or done.
use Rattle.std.proofs.Common.{ℕ, suc, ◌≡◌, ◌≢◌, ◌<◌, ◌+◌, ◌-◌, ◌*◌, ◌%◌, ◌^◌, List, [], length, refl, sym, ap, subst, ◌∙◌, arith, rules}
use Rattle.asit_shadow.proofs.Common.{All, ◌==◌, true, false, slice_index_or, Result, Ok, Err, Cut, Follows, finish_plan, leaving, eqb-true, eqb-false, Line, Regs, Shape, meta_lines, IsGroup, risen_times, Device, AreToldLines, HasLatched, Setup, Node, tree_slots, tree_size, counter, total, ChipTree, IsShadowTree, shadow_height, WatchState, TreeState, IsHeldNode, top_node, TreeEngineParts, tree_parts_of, AreTreeTrusted, tree_parts_at, tree_setup_at, TreeFault, TreeChip, tree_chip_of, tree_chip_at, seal_of, write_armed, with_tree, with_stored, named_chip, stored_chip, IsUsedUp, KeepsOtherRegisters, armed_lines, dirty_entries, pair_at, set_pairs, IsPathRaised, IsSealMade, IsTreeNamed, IsWriteTold, IsWriteMade}
use Rattle.asit_shadow.specs.declared.fault.TreeFault.TheVariants as Fail
use Rattle.asit_shadow.specs.WritePlans.{raised_path, named_all, seal_plan, write_line_plan}
use Rattle.asit_shadow.proofs.FetchPlans.{same_engine}
use Rattle.asit_shadow.proofs.WritePlans.{tree-named, seal_is, told_is, armed_is, seal_cut, seal_kept, seal_done, write_spent, unfetched_write, fetched_write}
use Rattle.asit_shadow.proofs.PairSets.{pairs-count}
use Rattle.asit_shadow.proofs.WriteCalls.{top-used_up, fetch-unspent, armed-IsGroup}
use Rattle.asit_shadow.proofs.WriteEnds.{write-spent, write-stopped, write-lost}
use Rattle.asit_shadow.proofs.WriteOutcomes.{IsArmedWrite, write-kept, write-done}
use Rattle.asit_shadow.proofs.engine.TreeEngine.write_line.Given.{Over}
use Rattle.asit_shadow.proofs.engine.TreeEngine.write_line.Goals.{After-is_used_up, After-next_regs-regs}
use Rattle.asit_shadow.proofs.engine.TreeEngine.write_line.Goals as goal

-- ---- before the latch

module _ (g : Over) (c : After-is_used_up g) where
  -- the top's version, as the code tests it
  tested : c.is_used_up.result ≡ (total (top_node c.args.self.now.cache) == 2 ^ 64 - 1)
  tested = c.is_used_up.ensures ∙ ap (λ (n : Node). total n == 2 ^ 64 - 1) c.top.ensures.value

  spent : c.is_used_up.result ≡ true → total (top_node c.args.self.now.cache) ≡ 2 ^ 64 - 1
  spent is = eqb-true _ _ (sym tested ∙ is)

  unspent : c.is_used_up.result ≡ false → total (top_node c.args.self.now.cache) ≢ 2 ^ 64 - 1
  unspent is = eqb-false _ _ (sym tested ∙ is)

  used_up : c.is_used_up.result ≡ true → AreTreeTrusted (tree_setup_at g.S.Suite c.args.self.now c.args.suite.now) (tree_parts_at g.B.Board g.W.Watch c.args.self.now c.args.board.now c.args.watch.now)
      → IsUsedUp (tree_parts_at g.B.Board g.W.Watch c.args.self.now c.args.board.now c.args.watch.now)
  used_up is trusted = search (rules, top-used_up, spent)

  unused : c.is_used_up.result ≡ false → AreTreeTrusted (tree_setup_at g.S.Suite c.args.self.now c.args.suite.now) (tree_parts_at g.B.Board g.W.Watch c.args.self.now c.args.board.now c.args.watch.now)
      → IsUsedUp (tree_parts_at g.B.Board g.W.Watch c.args.self.now c.args.board.now c.args.watch.now) → ⊥
  unused is trusted up = search (rules, unspent, top-used_up)

pub returns-then-is_used_up-clause-written : goal.returns-then-is_used_up-clause-written
returns-then-is_used_up-clause-written g c = search (rules, write-spent, used_up)

pub returns-then-is_used_up-clause-spent : goal.returns-then-is_used_up-clause-spent
returns-then-is_used_up-clause-spent g c = search (rules, spent)

pub returns-in-Err-clause-written : goal.returns-in-Err-clause-written
returns-in-Err-clause-written g c =
    let before = (goal.at.returns-in-Err-clause-written g c).After-is_used_up in
    write-stopped _ c.args.at c.args.line.now _ _ c.in-Err.fault (unused g before c.if-is_used_up.false) c.in-Err.ensures.stopped

pub returns-in-Err-clause-spent : goal.returns-in-Err-clause-spent
returns-in-Err-clause-spent g c =
    let before = (goal.at.returns-in-Err-clause-spent g c).After-is_used_up in
    (λ is. absurd (fetch-unspent c.in-Err.fault c.in-Err.ensures.stopped.kind is), λ e. absurd (unspent g before c.if-is_used_up.false e))

-- ---- the registers

module _ (g : Over) (c : After-next_regs-regs g) where
  -- the engine's shape and the keys are those as the call begins
  shape : c.fetch.new.self.shape ≡ c.args.self.now.shape
  shape = c.in-Ok.ensures.fetched.path.effect.shape

  raised : IsPathRaised c.args.self.now.shape c.fetch.new.self.cache c.args.at c.raised-nodes.result.items
  raised = subst (λ (k : Shape). IsPathRaised k c.fetch.new.self.cache c.args.at c.raised-nodes.result.items) shape c.raised-nodes.ensures.raised

  sealed_as : IsSealMade (g.S.Suite.formulas_of (g.S.Suite.keys c.args.suite.now)) c.args.at c.last_counter.result c.args.line.now c.sealed-seal.result
  sealed_as = search rules

  keys : g.S.Suite.keys c.sealed-seal.new.suite ≡ g.S.Suite.keys c.args.suite.now
  keys = c.sealed-seal.ensures.keys ∙ c.in-Ok.ensures.keys

  group : c.next_regs-regs.result.group.items ≡ armed_lines c.args.self.now.shape c.args.at c.sealed-seal.result c.raised-nodes.result.items
  group = c.next_regs-regs.ensures.group ∙ ap (λ (k : Shape). armed_lines k c.args.at c.sealed-seal.result c.raised-nodes.result.items) shape

  is_group : IsGroup (tree_size c.args.self.now.shape) c.next_regs-regs.result.group.items
  is_group =
      subst (IsGroup (tree_size c.args.self.now.shape)) (sym group)
      (armed-IsGroup c.args.self.now.shape c.args.at c.sealed-seal.result c.raised-nodes.result.items c.is_whole.ensures.shape c.requires.line sealed_as.in_range raised.positions)

  -- the shadow tree and its root
  named : (c.next_regs-regs.new.self.tree, c.next_regs-regs.result.root)
      ≡ named_all (g.S.Suite.formulas_of (g.S.Suite.keys c.args.suite.now)) c.args.self.now.shape c.raised-nodes.result.items
      (c.fetch.new.self.tree, (g.B.Board.device c.args.board.now).regs.root)
  named = search (rules, keys, shape)

  root : (slots : List Line) → length slots ≡ tree_slots c.args.self.now.shape
      → IsShadowTree (g.S.Suite.formulas_of (g.S.Suite.keys c.args.suite.now)) c.fetch.new.self.tree.height slots c.fetch.new.self.tree.lines
      → IsTreeNamed (g.S.Suite.formulas_of (g.S.Suite.keys c.args.suite.now)) c.args.self.now.shape c.raised-nodes.result.items c.fetch.new.self.tree c.next_regs-regs.new.self.tree c.next_regs-regs.result.root slots
  root slots long over =
      tree-named (g.S.Suite.formulas_of (g.S.Suite.keys c.args.suite.now)) c.args.self.now.shape (g.met.S.Suite.in_range c.args.suite.now) c.is_whole.ensures.shape
      c.raised-nodes.result.items c.fetch.new.self.tree c.next_regs-regs.new.self.tree (g.B.Board.device c.args.board.now).regs.root c.next_regs-regs.result.root slots
      (omega (arith, pairs-count c.args.self.now.shape c.args.at c.raised-nodes.result.items raised.positions)) (λ k d inside. (raised.whole k d inside).on_tree) named
      (c.is_whole-2.ensures.engine.tree_height ∙ ap shadow_height shape) long over

  -- the write, told and stored
  write_made : (engine : TreeState) (device : Device) (watch : WatchState)
      → IsWriteTold c.next_regs-regs.new.self.shape c.args.at c.sealed-seal.result c.raised-nodes.result.items (g.W.Watch.watched c.fetch.new.watch) watch
      → engine.cache ≡ set_pairs (dirty_entries c.next_regs-regs.new.self.shape c.raised-nodes.result.items) c.next_regs-regs.new.self.cache
      → engine.shape ≡ c.next_regs-regs.new.self.shape → engine.tree ≡ c.next_regs-regs.new.self.tree → engine.down ≡ c.next_regs-regs.new.self.down
      → IsWriteMade (tree_setup_at g.S.Suite c.args.self.now c.args.suite.now) c.args.at c.args.line.now c.sealed-seal.result c.raised-nodes.result.items c.next_regs-regs.result
      (tree_parts_at g.B.Board g.W.Watch c.fetch.new.self c.fetch.new.board c.fetch.new.watch) (tree_parts_of engine device watch)
  write_made engine device watch told cache its_shape tree down =
      let count = pairs-count c.args.self.now.shape c.args.at c.raised-nodes.result.items raised.positions in
      let same : c.next_regs-regs.new.self.shape ≡ c.args.self.now.shape = c.next_regs-regs.ensures.shape ∙ shape in
      record {
        raised = raised;
        made = subst (λ n. IsSealMade (g.S.Suite.formulas_of (g.S.Suite.keys c.args.suite.now)) c.args.at n c.args.line.now c.sealed-seal.result) (sym sealed_as.its_counter) sealed_as;
        counted =
            sealed_as.its_counter ∙ (c.last_counter.ensures
            ∙ ap (λ n. counter (pair_at c.raised-nodes.result.items n).1 (c.args.at % 4)) (omega (arith, count)));
        group = group;
        root = search (rules, root);
        others = subst (λ (r : Regs). KeepsOtherRegisters r c.next_regs-regs.result) c.regs.ensures c.next_regs-regs.ensures.others;
        told =
            subst (λ (k : Shape). IsWriteTold k c.args.at c.sealed-seal.result c.raised-nodes.result.items (g.W.Watch.watched c.fetch.new.watch) watch) same told;
        cache = search rules;
        shape = its_shape ∙ c.next_regs-regs.ensures.shape;
        down = down ∙ c.next_regs-regs.ensures.down;
      }

  armed : (new : TreeEngineParts) (device : Device)
      → (AreTreeTrusted (tree_setup_at g.S.Suite c.args.self.now c.args.suite.now) (tree_parts_at g.B.Board g.W.Watch c.args.self.now c.args.board.now c.args.watch.now) → IsUsedUp (tree_parts_at g.B.Board g.W.Watch c.args.self.now c.args.board.now c.args.watch.now) → ⊥)
      → HasLatched (g.B.Board.device c.fetch.new.board) c.next_regs-regs.result device
      → IsWriteMade (tree_setup_at g.S.Suite c.args.self.now c.args.suite.now) c.args.at c.args.line.now c.sealed-seal.result c.raised-nodes.result.items c.next_regs-regs.result
      (tree_parts_at g.B.Board g.W.Watch c.fetch.new.self c.fetch.new.board c.fetch.new.watch) new
      → IsArmedWrite (tree_setup_at g.S.Suite c.args.self.now c.args.suite.now) c.args.at c.args.line.now c.sealed-seal.result c.raised-nodes.result.items c.next_regs-regs.result
      (tree_parts_at g.B.Board g.W.Watch c.args.self.now c.args.board.now c.args.watch.now) (tree_parts_at g.B.Board g.W.Watch c.fetch.new.self c.fetch.new.board c.fetch.new.watch) new device
  armed new device unspent latched made =
      record {
        shape = c.is_whole.ensures.shape;
        inside = c.requires.line;
        engine = c.is_whole-2.ensures.engine;
        whole = subst (λ n. AreToldLines n (g.B.Board.device c.fetch.new.board).lines) (c.in-Ok.ensures.fetched.path.effect.size ∙ c.requires.usable.board.its_size) (g.met.B.Board.whole c.fetch.new.board);
        node = c.in-Ok.field-0;
        fetched = c.in-Ok.ensures.fetched;
        ready = c.requires.usable.watch;
        slots = c.is_whole-2.ensures.engine.slot_count ∙ ap tree_slots shape;
        unspent = unspent;
        made = made;
        latched = latched;
        group = is_group;
      }

-- ---- what the calls ask

pub last_counter-requires : goal.last_counter-requires
last_counter-requires g c =
    omega (arith, pairs-count c.fetch.new.self.shape c.args.at c.raised-nodes.result.items c.raised-nodes.ensures.raised.positions)

pub next_regs-regs-requires-clause-nodes : goal.next_regs-regs-requires-clause-nodes
next_regs-regs-requires-clause-nodes g c = λ k d inside. (c.raised-nodes.ensures.raised.whole k d inside).on_tree

pub arm-requires-clause-group : goal.arm-requires-clause-group
arm-requires-clause-group g c =
    let before = (goal.at.arm-requires-clause-group g c).After-next_regs-regs in
    subst (λ n. IsGroup n c.next_regs-regs.result.group.items) (sym (c.in-Ok.ensures.fetched.path.effect.size ∙ c.requires.usable.board.its_size)) (is_group g before)

pub finish-requires : goal.finish-requires
finish-requires g c =
    let before = (goal.at.finish-requires g c).After-next_regs-regs in
    let latched = c.in-Ok-arm.ensures.ok in
    subst (λ (r : Regs). IsGroup (g.B.Board.device c.arm.new.board).size r.group.items) (sym latched.regs)
    (subst (λ n. IsGroup n c.next_regs-regs.result.group.items) (sym (latched.size ∙ (c.in-Ok.ensures.fetched.path.effect.size ∙ c.requires.usable.board.its_size))) (is_group g before))

pub tell-requires-clause-nodes : goal.tell-requires-clause-nodes
tell-requires-clause-nodes g c =
    λ k d inside.
    subst (λ (e : Shape). (slice_index_or c.raised-nodes.result.items k d).0 < meta_lines e) (sym c.next_regs-regs.ensures.shape)
    (c.raised-nodes.ensures.raised.whole k d inside).on_tree

pub tell-requires-clause-ready : goal.tell-requires-clause-ready
tell-requires-clause-ready g c = search (rules, shape)

pub store-requires : goal.store-requires
store-requires g c =
    subst (λ (e : Shape). All (λ (pair : ℕ × Node). IsHeldNode e (record { x = pair.0; node = pair.1; dirty = true })) c.raised-nodes.result.items) (sym c.next_regs-regs.ensures.shape)
    c.raised-nodes.ensures.raised.whole

-- ---- the returns

pub returns-in-Err-arm-clause-written : goal.returns-in-Err-arm-clause-written
returns-in-Err-arm-clause-written g c =
    let before = (goal.at.returns-in-Err-arm-clause-written g c).After-is_used_up in
    write-lost _ c.args.at c.args.line.now _ _ _ c.in-Ok.field-0
    (unused g before c.if-is_used_up.false) c.in-Ok.ensures.fetched c.next_regs-regs.ensures.shape c.next_regs-regs.ensures.cache c.next_regs-regs.ensures.down c.in-Err-arm.ensures.cut refl

pub returns-in-Err-finish-clause-written : goal.returns-in-Err-finish-clause-written
returns-in-Err-finish-clause-written g c =
    let first = (goal.at.returns-in-Err-finish-clause-written g c).After-is_used_up in
    let before = (goal.at.returns-in-Err-finish-clause-written g c).After-next_regs-regs in
    let latched = c.in-Ok-arm.ensures.ok in
    let cut = c.in-Err-finish.ensures.cut in
    write-kept (tree_setup_at g.S.Suite c.args.self.now c.args.suite.now) c.args.at c.args.line.now c.sealed-seal.result c.raised-nodes.result.items c.next_regs-regs.result
    (tree_parts_at g.B.Board g.W.Watch c.args.self.now c.args.board.now c.args.watch.now) (tree_parts_at g.B.Board g.W.Watch c.fetch.new.self c.fetch.new.board c.fetch.new.watch) (tree_parts_at g.B.Board g.W.Watch c.store.new.self c.finish.new.board c.tell.new.watch) (g.B.Board.device c.arm.new.board)
    (armed g before (tree_parts_at g.B.Board g.W.Watch c.store.new.self c.finish.new.board c.tell.new.watch) (g.B.Board.device c.arm.new.board) (unused g first c.if-is_used_up.false) latched
    (write_made g before c.store.new.self (g.B.Board.device c.finish.new.board) (g.W.Watch.watched c.tell.new.watch) c.tell.ensures c.store.ensures.cache c.store.ensures.shape c.store.ensures.tree c.store.ensures.down))
    (subst (λ n. AreToldLines n (g.B.Board.device c.finish.new.board).lines) (cut.size ∙ (latched.size ∙ (c.in-Ok.ensures.fetched.path.effect.size ∙ c.requires.usable.board.its_size))) (g.met.B.Board.whole c.finish.new.board))
    cut

pub returns-clause-written : goal.returns-clause-written
returns-clause-written g c =
    let first = (goal.at.returns-clause-written g c).After-is_used_up in
    let before = (goal.at.returns-clause-written g c).After-next_regs-regs in
    write-done _ c.args.at c.args.line.now c.sealed-seal.result c.raised-nodes.result.items c.next_regs-regs.result _ _ _ _
    (armed g before _ _ (unused g first c.if-is_used_up.false) c.in-Ok-arm.ensures.ok
    (write_made g before c.store.new.self _ _ c.tell.ensures c.store.ensures.cache c.store.ensures.shape c.store.ensures.tree c.store.ensures.down))
    c.in-Ok-finish.ensures.ok

pub returns-clause-spent : goal.returns-clause-spent
returns-clause-spent g c =
    let first = (goal.at.returns-clause-spent g c).After-is_used_up in
    (λ is. absurd is, λ e. absurd (unspent g first c.if-is_used_up.false e))

-- ---- the plan

pub returns-then-is_used_up-clause-plan : goal.returns-then-is_used_up-clause-plan
returns-then-is_used_up-clause-plan g c = search (rules, write_spent, tested)

pub returns-in-Err-clause-plan : goal.returns-in-Err-clause-plan
returns-in-Err-clause-plan g c = search (rules, unfetched_write, tested)

module _ (g : Over) (c : After-next_regs-regs g) where
  abbrev setup : Setup
  setup = tree_setup_at g.S.Suite c.args.self.now c.args.suite.now

  abbrev pairs : List (ℕ × Node)
  pairs = c.raised-nodes.result.items

  abbrev fetched : TreeChip
  fetched = tree_chip_at g.S.Suite g.W.Watch c.fetch.new.self c.fetch.new.suite c.fetch.new.watch

  abbrev was : Regs
  was = (g.B.Board.device c.args.board.now).regs

  armed_regs : c.next_regs-regs.result ≡ write_armed setup.shape c.args.at c.sealed-seal.result pairs (named_all setup.formulas setup.shape pairs (c.fetch.new.self.tree, was.root)).1 was
  armed_regs = search (rules, armed_is, named, group)

  -- the chip as the group is armed
  is_named : tree_chip_at g.S.Suite g.W.Watch c.next_regs-regs.new.self c.next_regs-regs.new.suite c.fetch.new.watch ≡ named_chip setup pairs was fetched
  is_named =
      let engine = same_engine c.next_regs-regs.new.self (with_tree c.fetch.new.self (named_all setup.formulas setup.shape pairs (c.fetch.new.self.tree, was.root)).0)
      c.next_regs-regs.ensures.shape c.next_regs-regs.ensures.cache (ap (λ (at : ChipTree × List ℕ). at.0) (named g c)) c.next_regs-regs.ensures.down in
      let pads = c.next_regs-regs.ensures.pads ∙ c.sealed-seal.ensures.pads in
      let tags = c.next_regs-regs.ensures.tags ∙ c.sealed-seal.ensures.tags in
      let digests = c.next_regs-regs.ensures.digests ∙ ap (risen_times (length pairs * suc c.fetch.new.self.tree.height)) c.sealed-seal.ensures.digests in
      λ i. tree_chip_of (engine i) (g.W.Watch.watched c.fetch.new.watch) (pads i) (tags i) (digests i)

  -- what is raised and sealed
  its_pairs : pairs ≡ raised_path setup.shape c.fetch.new.self.cache c.args.at (suc setup.shape.levels)
  its_pairs =
      let more : c.args.self.now.shape.levels + 1 ≡ suc c.args.self.now.shape.levels = omega arith in
      c.raised-nodes.ensures.value
      ∙ (ap (λ (k : Shape). raised_path k c.fetch.new.self.cache c.args.at (k.levels + 1)) (shape g c)
      ∙ ap (raised_path c.args.self.now.shape c.fetch.new.self.cache c.args.at) more)

  its_seal : c.sealed-seal.result ≡ seal_of setup.formulas c.args.at (counter (pair_at pairs setup.shape.levels).1 (c.args.at % 4)) c.args.line.now
  its_seal =
      let count = pairs-count c.args.self.now.shape c.args.at pairs (raised g c).positions in
      let last : length pairs - 1 ≡ c.args.self.now.shape.levels = omega (arith, count) in
      seal_is setup.formulas c.args.at c.last_counter.result c.args.line.now c.sealed-seal.result (sealed_as g c)
      ∙ ap (λ n. seal_of setup.formulas c.args.at n c.args.line.now)
      (c.last_counter.ensures ∙ ap (λ n. counter (pair_at pairs n).1 (c.args.at % 4)) last)

  -- the whole, from what is sealed on
  whole : {new : Device} {end : Result (TreeChip × ℕ) (TreeChip × TreeFault)} → (total (top_node c.args.self.now.cache) == 2 ^ 64 - 1) ≡ false
      → Follows (seal_plan setup c.args.at c.sealed-seal.result pairs was fetched) (g.B.Board.device c.fetch.new.board) new end
      → Follows (write_line_plan setup was c.args.at c.args.line.now (tree_chip_at g.S.Suite g.W.Watch c.args.self.now c.args.suite.now c.args.watch.now)) (g.B.Board.device c.args.board.now) new end
  whole unspent it = fetched_write setup was c.args.at _ _ unspent fetched _ pairs _ its_pairs its_seal c.in-Ok.ensures.plan it

  -- and once it is
  is_stored : (engine : TreeState) (watch : WatchState)
      → IsWriteTold c.next_regs-regs.new.self.shape c.args.at c.sealed-seal.result pairs (g.W.Watch.watched c.fetch.new.watch) watch
      → engine.cache ≡ set_pairs (dirty_entries c.next_regs-regs.new.self.shape pairs) c.next_regs-regs.new.self.cache
      → engine.shape ≡ c.next_regs-regs.new.self.shape → engine.tree ≡ c.next_regs-regs.new.self.tree → engine.down ≡ c.next_regs-regs.new.self.down
      → tree_chip_of engine watch (g.S.Suite.pads c.next_regs-regs.new.suite) (g.S.Suite.tags c.next_regs-regs.new.suite) (g.S.Suite.digests c.next_regs-regs.new.suite)
      ≡ stored_chip setup.shape c.args.at c.sealed-seal.result pairs (named_chip setup pairs was fetched)
  is_stored engine watch told cache its_shape tree down =
      let same = c.next_regs-regs.ensures.shape ∙ shape g c in
      let held = same_engine engine (with_stored pairs c.next_regs-regs.new.self) its_shape cache tree down in
      let seen = told_is setup.shape c.args.at c.sealed-seal.result pairs (g.W.Watch.watched c.fetch.new.watch) watch
      (subst (λ (e : Shape). IsWriteTold e c.args.at c.sealed-seal.result pairs (g.W.Watch.watched c.fetch.new.watch) watch) same told) in
      (λ i. tree_chip_of (held i) (seen i) (g.S.Suite.pads c.next_regs-regs.new.suite) (g.S.Suite.tags c.next_regs-regs.new.suite) (g.S.Suite.digests c.next_regs-regs.new.suite))
      ∙ ap (stored_chip setup.shape c.args.at c.sealed-seal.result pairs) is_named

  -- the group that is armed is the one that is finished
  finishing : {device new : Device} {end : Result (Unit {0}) Cut} → HasLatched (g.B.Board.device c.fetch.new.board) c.next_regs-regs.result device
      → (device.regs.group.items ≢ [] → Follows (finish_plan device.regs) device new end) → Follows (finish_plan c.next_regs-regs.result) device new end
  finishing {device = device} {new = new} {end = end} latched it =
      let same = ap (λ (r : Regs). r.group.items) latched.regs ∙ group g c in
      subst (λ (r : Regs). Follows (finish_plan r) device new end) latched.regs (it (λ none. let no = sym same ∙ none in absurd (cc)))

pub returns-in-Err-arm-clause-plan : goal.returns-in-Err-arm-clause-plan
returns-in-Err-arm-clause-plan g c =
    let first = (goal.at.returns-in-Err-arm-clause-plan g c).After-is_used_up in
    let here = (goal.at.returns-in-Err-arm-clause-plan g c).After-next_regs-regs in
    let cut : Result ℕ TreeFault = Err Fail.Cut in
    leaving cut (tree_chip_at g.S.Suite g.W.Watch c.next_regs-regs.new.self c.next_regs-regs.new.suite c.fetch.new.watch) (is_named g here)
    (whole g here (sym (tested g first) ∙ c.if-is_used_up.false)
    (seal_cut (setup g here) c.args.at c.sealed-seal.result (pairs g here) (was g here) (fetched g here) c.in-Err-arm.ensures.cut))

pub returns-in-Err-finish-clause-plan : goal.returns-in-Err-finish-clause-plan
returns-in-Err-finish-clause-plan g c =
    let first = (goal.at.returns-in-Err-finish-clause-plan g c).After-is_used_up in
    let here = (goal.at.returns-in-Err-finish-clause-plan g c).After-next_regs-regs in
    let cut : Result ℕ TreeFault = Err Fail.Cut in
    leaving cut (tree_chip_at g.S.Suite g.W.Watch c.store.new.self c.next_regs-regs.new.suite c.tell.new.watch)
    (is_stored g here c.store.new.self (g.W.Watch.watched c.tell.new.watch) c.tell.ensures c.store.ensures.cache c.store.ensures.shape c.store.ensures.tree c.store.ensures.down)
    (whole g here (sym (tested g first) ∙ c.if-is_used_up.false)
    (seal_kept (setup g here) c.args.at c.sealed-seal.result (pairs g here) (was g here) (fetched g here) c.next_regs-regs.result (armed_regs g here)
    c.in-Ok-arm.ensures.ok _ (finishing g here c.in-Ok-arm.ensures.ok c.in-Err-finish.ensures.plan)))

pub returns-clause-plan : goal.returns-clause-plan
returns-clause-plan g c =
    let first = (goal.at.returns-clause-plan g c).After-is_used_up in
    let here = (goal.at.returns-clause-plan g c).After-next_regs-regs in
    let answer : Result ℕ TreeFault = Ok c.sealed-seal.result.counter in
    leaving answer (tree_chip_at g.S.Suite g.W.Watch c.store.new.self c.next_regs-regs.new.suite c.tell.new.watch)
    (is_stored g here c.store.new.self (g.W.Watch.watched c.tell.new.watch) c.tell.ensures c.store.ensures.cache c.store.ensures.shape c.store.ensures.tree c.store.ensures.down)
    (whole g here (sym (tested g first) ∙ c.if-is_used_up.false)
    (seal_done (setup g here) c.args.at c.sealed-seal.result (pairs g here) (was g here) (fetched g here) c.next_regs-regs.result (armed_regs g here)
    c.in-Ok-arm.ensures.ok c.in-Ok-finish.ensures.ok (finishing g here c.in-Ok-arm.ensures.ok c.in-Ok-finish.ensures.plan)))
