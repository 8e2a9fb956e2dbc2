-- A node is fetched under its version: what the watch stops is a forged node, what goes on is true, and
-- over a sound engine nothing is refused.
use Rattle.std.proofs.Common.{ℕ, ◌≡◌, ◌≢◌, ◌<◌, ◌≤◌, List, length, false, Some, None, sym, ap, subst, inl, inr, ◌∙◌, arith, rules}
use Rattle.asit_shadow.proofs.Common.{slice_set, Option, cases_eq, false≢true, length-set, get_or-set_same, get_or-set_other, same_Some, mod-eq_of_lt, Line, Regs, line_at, tag_slot, IsShape, meta_lines, line_at-set_same, line_at-set_other, AreInRange, Setup, AreLinesOf-set, IsExhibit, redone, Node, total, node_line, node_read, stored_node, tree_size, line_of_node, line_of_slot, line_of_tag, node_at, entry_for, slot_of, WatchState, forged_node, node_read-node_line, node_read-IsReadNode, stored_node-node_line, node_line-IsLine, tree-IsNode, tree-version, TreeState, cache_at, IsCached, CachedNode, IsTreeAnchored, IsTrueCached, IsTreeTrusted, IsNodeStored, IsTreeMendable, IsTreeSound, IsTreeOver, IsFetched, GivesWay}
use Rattle.asit_shadow.proofs.SlotPlaces.{slot_of-below, slot_of-inside}

-- ---- any board

-- what was accepted under the version, but isn't the true node, is an exhibit that holds
pub forged_node-holds : (setup : Setup) (regs : Regs) (watch : WatchState) (x : ℕ) (line : Line) (node : Node) → IsTreeAnchored setup regs watch → 1 ≤ x → x < meta_lines setup.shape → node_read setup.formulas x line (entry_for watch.nodes x) ≡ Some node → IsExhibit setup.formulas (forged_node watch x line)
forged_node-holds setup regs watch x line node anchored low inside accepted = search (rules, node_read-IsReadNode, tree-version, mod-eq_of_lt)

-- the law: the engine stays trusted
pub IsTrusted-fetched : (setup : Setup) (x : ℕ) (line : Line) (node : Node) (old new : TreeState) (regs : Regs) (watch : WatchState) → IsShape setup.shape → IsTreeTrusted setup old regs watch → IsFetched setup x line node old new watch → IsTreeTrusted setup new regs watch
IsTrusted-fetched setup x line node old new regs watch shape trusted fetched =
    let held : CachedNode = record { x = x; node = node; dirty = false } in
    let slot = slot_of setup.shape x in
    let room : slot_of setup.shape x < length old.cache = omega (arith, slot_of-inside setup.shape x shape fetched.on_tree, trusted.slot_count) in
    let low : 0 ≢ slot_of setup.shape x = λ e. omega (arith, slot_of-below setup.shape x fetched.not_top, e) in
    let other : (i : ℕ) → i ≢ slot_of setup.shape x → cache_at new.cache i ≡ cache_at old.cache i =
    λ i apart. ap (λ (c : List (Option CachedNode)). cache_at c i) fetched.cache ∙ get_or-set_other old.cache (slot_of setup.shape x) i (Some held) None apart in
    record {
      its_shape = fetched.shape ∙ trusted.its_shape;
      anchored = trusted.anchored;
      no_group = trusted.no_group;
      not_down = fetched.down ∙ trusted.not_down;
      slot_count = ap length fetched.cache ∙ (length-set old.cache (slot_of setup.shape x) (Some held) ∙ trusted.slot_count);
      cached_true =
          λ i one here.
          elim (cases_eq i (slot_of setup.shape x)) [
            | inl same ↦
                let stands : cache_at new.cache i ≡ Some held =
                ap (cache_at new.cache) same
                ∙ (ap (λ (c : List (Option CachedNode)). cache_at c (slot_of setup.shape x)) fetched.cache
                ∙ get_or-set_same old.cache (slot_of setup.shape x) (Some held) None room) in
                let is : held ≡ one = same_Some held one (sym stands ∙ here) in
                subst (IsTrueCached setup.shape watch i) is
                (let it : IsTrueCached setup.shape watch i held =
                record {
                  on_tree = fetched.on_tree;
                  its_slot = sym same;
                  true_node = fetched.seen;
                  named = λ dirty. absurd (false≢true dirty);
                } in
                it)
            | inr apart ↦ trusted.cached_true i one (sym (other i apart) ∙ here)
          ];
      top_cached =
          record {
            held = trusted.top_cached.held;
            stands = other 0 low ∙ trusted.top_cached.stands;
            position = trusted.top_cached.position;
          };
      tree_true = subst (IsTreeOver setup watch.slots) (sym fetched.tree) trusted.tree_true;
    }

-- ---- an untampered board

-- the law: over a sound engine a node that isn't cached is read as the true one
pub node_read-sound : (setup : Setup) (engine : TreeState) (lines : List Line) (regs : Regs) (watch : WatchState) (x : ℕ) → IsShape setup.shape → AreInRange setup.formulas → IsTreeSound setup engine lines regs watch → 1 ≤ x → x < meta_lines setup.shape → (IsCached setup.shape engine.cache x → ⊥)
    → (node_read setup.formulas x (line_at lines (line_of_node setup.shape x)) (entry_for watch.nodes x) ≡ Some (node_at watch.nodes x)) × (stored_node (line_at lines (line_of_node setup.shape x)) ≡ node_at watch.nodes x)
node_read-sound setup engine lines regs watch x shape in_range sound low inside uncached =
    let tree = sound.trusted.anchored.tree in
    let whole = tree-IsNode setup.shape watch.nodes x tree inside in
    let small = tree-version setup.shape watch.nodes x tree inside in
    elim (sound.true_or_dirty x inside) [
      | inr dirty ↦ absurd (uncached (record { held = dirty.held; stands = dirty.stands; position = dirty.position }))
      | inl stored ↦ (
        ap (λ v. node_read setup.formulas x (line_at lines (line_of_node setup.shape x)) v) (sym (tree.versions x low inside))
            ∙ (ap (λ line. node_read setup.formulas x line (total (node_at watch.nodes x))) stored
            ∙ node_read-node_line setup.formulas x (node_at watch.nodes x) in_range whole small),
        ap stored_node stored ∙ stored_node-node_line setup.formulas x (node_at watch.nodes x) whole,
      )
    ]

-- the law: a true node is written back
pub IsSound-written_back : (setup : Setup) (engine : TreeState) (lines : List Line) (regs : Regs) (watch : WatchState) (x : ℕ) → IsShape setup.shape → AreInRange setup.formulas → IsTreeSound setup engine lines regs watch → x < meta_lines setup.shape
    → IsTreeSound setup engine (slice_set lines (line_of_node setup.shape x) (node_line setup.formulas x (node_at watch.nodes x))) regs watch
IsSound-written_back setup engine lines regs watch x shape in_range sound inside =
    let g = setup.shape in
    let place = line_of_node setup.shape x in
    let line = node_line setup.formulas x (node_at watch.nodes x) in
    let new = slice_set lines (line_of_node setup.shape x) (node_line setup.formulas x (node_at watch.nodes x)) in
    let good = node_line-IsLine setup.formulas x (node_at watch.nodes x) in_range (tree-version setup.shape watch.nodes x sound.trusted.anchored.tree inside) in
    let room : line_of_node setup.shape x < length lines = omega (arith, inside, sound.durable.device_whole.count) in
    let before : IsTreeMendable setup lines regs watch =
    subst (λ group. IsTreeMendable setup (redone group lines) regs watch) sound.trusted.no_group sound.durable.mendable in
    let else : (p : ℕ) → p ≢ line_of_node setup.shape x → line_at (slice_set lines (line_of_node setup.shape x) (node_line setup.formulas x (node_at watch.nodes x))) p ≡ line_at lines p =
    λ p apart. line_at-set_other lines (line_of_node setup.shape x) p (node_line setup.formulas x (node_at watch.nodes x)) apart in
    let stored : (y : ℕ) → IsNodeStored setup lines watch y → IsNodeStored setup (slice_set lines (line_of_node setup.shape x) (node_line setup.formulas x (node_at watch.nodes x))) watch y =
    λ y it.
    elim (cases_eq y x) [
      | inl same ↦
          subst (IsNodeStored setup (slice_set lines (line_of_node setup.shape x) (node_line setup.formulas x (node_at watch.nodes x))) watch) (sym same)
          (line_at-set_same lines (line_of_node setup.shape x) (node_line setup.formulas x (node_at watch.nodes x)) room)
      | inr other ↦ else (line_of_node setup.shape y) (λ e. other (omega (arith, e))) ∙ it
    ] in
    record {
      trusted = sound.trusted;
      durable =
          record {
            device_whole = AreLinesOf-set (tree_size setup.shape) lines (line_of_node setup.shape x) (node_line setup.formulas x (node_at watch.nodes x)) sound.durable.device_whole good;
            mendable =
                subst (λ group. IsTreeMendable setup (redone group (slice_set lines (line_of_node setup.shape x) (node_line setup.formulas x (node_at watch.nodes x)))) regs watch) (sym sound.trusted.no_group)
                (let it : IsTreeMendable setup (slice_set lines (line_of_node setup.shape x) (node_line setup.formulas x (node_at watch.nodes x))) regs watch =
                record {
                  anchored = before.anchored;
                  seals_stored =
                      λ a in_a.
                      let its = before.seals_stored a in_a in
                      record {
                        seal = its.seal;
                        last = its.last;
                        cipher = else a (λ e. omega (arith, in_a, e)) ∙ its.cipher;
                        tag = ap (λ line. tag_slot line 0) (else (line_of_tag setup.shape a) (λ e. omega (arith, in_a, e))) ∙ its.tag;
                      };
                  slots_stored = λ i in_i. else (line_of_slot setup.shape i) (λ e. omega (arith, inside, e)) ∙ before.slots_stored i in_i;
                  true_or_named =
                      λ y in_y.
                      elim (before.true_or_named y in_y) [
                        | inl it ↦ inl (stored y it)
                        | inr named ↦ inr named
                      ];
                } in
                it);
          };
      true_or_dirty =
          λ y in_y.
          elim (sound.true_or_dirty y in_y) [
            | inl it ↦ inl (stored y it)
            | inr dirty ↦ inr dirty
          ];
    }

-- after it that node is true on the device
pub written_back-stored : (setup : Setup) (lines : List Line) (watch : WatchState) (x : ℕ) → x < meta_lines setup.shape → length lines ≡ tree_size setup.shape → IsNodeStored setup (slice_set lines (line_of_node setup.shape x) (node_line setup.formulas x (node_at watch.nodes x))) watch x
written_back-stored setup lines watch x inside size = search (rules, line_at-set_same)

-- the law: a fetched node takes the place of one that is clean or true on the device
pub IsSound-fetched : (setup : Setup) (x : ℕ) (line : Line) (node : Node) (old new : TreeState) (lines : List Line) (regs : Regs) (watch : WatchState) → IsShape setup.shape → IsTreeSound setup old lines regs watch → IsFetched setup x line node old new watch → GivesWay setup old lines watch (slot_of setup.shape x) → IsTreeSound setup new lines regs watch
IsSound-fetched setup x line node old new lines regs watch shape sound fetched gives =
    record {
      trusted = IsTrusted-fetched setup x line node old new regs watch shape sound.trusted fetched;
      durable = sound.durable;
      true_or_dirty =
          λ y in_y.
          elim (sound.true_or_dirty y in_y) [
            | inl it ↦ inl it
            | inr dirty ↦ elim (cases_eq (slot_of setup.shape y) (slot_of setup.shape x)) [
              | inl same ↦
                  inl (subst (IsNodeStored setup lines watch) dirty.position
                  (gives dirty.held (ap (cache_at old.cache) (sym same) ∙ dirty.stands) dirty.dirty))
              | inr apart ↦
                  inr (record {
                    held = dirty.held;
                    stands =
                        ap (λ (c : List (Option CachedNode)). cache_at c (slot_of setup.shape y)) fetched.cache
                        ∙ (get_or-set_other old.cache (slot_of setup.shape x) (slot_of setup.shape y) (Some (record { x = x; node = node; dirty = false })) None apart
                        ∙ dirty.stands);
                    position = dirty.position;
                    dirty = dirty.dirty;
                  })
            ]
          ];
    }
