-- Each place of the device by itself, on any board.
use Rattle.std.proofs.Common.{ℕ, ◌≡◌, ◌≢◌, ◌<◌, ◌≤◌, List, [], ◌∷◌, length, true, false, Some, None, refl, sym, ap, subst, inl, inr, ◌∙◌, arith, rules}
use Rattle.asit_shadow.proofs.Common.{Option, slice_set, IfSome, cases_Bool, cases_eq, get_or-set_other, set-set, set_comm, same_Some, Line, Regs, line_at, tag_slot, IsShape, meta_lines, line_at-set_same, line_at-set_other, lines-equal, AreInRange, Setup, redone, Node, total, version_counter, node_line, node_read, stored_node, tree_lines, tree_slots, tree_size, line_of_tag, line_of_node, node_at, entry_for, line_counter, is_on_line_path, slot_of, WatchState, last_seal_of, LineSeal, node_read-node_line, stored_node-node_line, tree-IsNode, tree-version, TreeState, cache_at, IsCached, CachedNode, NamesTrueNode, IsTreeAnchored, IsTreeTrusted, IsTreeSealStored, IsNodeStored, IsSlotStored, is_path_slot, IsNodePathCached, IsNodeHeld, IsNodeHeldBy, ArePlacesArmed, ArePlacesKept, IsTreeArmed, HasPathStored, IsFetched, GivesWay, IsTreeRecovered, slots_read}
use Rattle.asit_shadow.proofs.SlotPlaces.{slot_of-inside, path_slot-from}
use Rattle.asit_shadow.proofs.PutLaws.{IsGroupMade, tag_slot-tag_only}
use Rattle.asit_shadow.proofs.ArmLaws.{armed-IsRaised, last_here, last_else, dirty-named, armed-made}
use Rattle.asit_shadow.proofs.RecoverLaws.{slot-named, length-slots_read, line_at-slots_read}

-- ---- a write

armed-places_from : (setup : Setup) (a : ℕ) (seal : LineSeal) (engine : TreeState) (lines made : List Line) (old_regs new_regs : Regs) (old new : WatchState) → IsShape setup.shape → IsTreeTrusted setup engine old_regs old → IsNodePathCached setup.shape a engine.cache → IsTreeArmed setup a seal old_regs new_regs old new → IsGroupMade setup.shape a seal new.nodes lines made → ArePlacesArmed setup a engine lines made old new
armed-places_from setup a seal engine lines made old_regs new_regs old new shape trusted cached armed group =
    let raised = armed-IsRaised setup a seal old_regs new_regs old new shape trusted.anchored armed in
    let named = armed.slots in
    let room : a < length old.seals = omega (arith, armed.its_line, trusted.anchored.of_setup.seal_count) in
    let own : IsTreeSealStored setup.shape made new a =
    record {
      seal = seal;
      last = last_here old new a seal armed.seals room;
      cipher = group.data_here;
      tag = ap (λ line. tag_slot line 0) group.tag_here ∙ tag_slot-tag_only seal.tag armed.in_range.tag;
    } in
    record {
      own_seal = own;
      seals =
          λ b in_b stored.
          elim (cases_eq b a) [
            | inl same ↦ subst (IsTreeSealStored setup.shape made new) (sym same) own
            | inr other ↦
                record {
                  seal = stored.seal;
                  last = last_else old new a b seal armed.seals other ∙ stored.last;
                  cipher = group.data_else b in_b other ∙ stored.cipher;
                  tag = ap (λ line. tag_slot line 0) (group.tag_else b in_b other) ∙ stored.tag;
                }
          ];
      slots =
          λ i stored.
          elim (cases_Bool (is_path_slot setup.shape a i)) [
            | inl on ↦
                let found = path_slot-from setup.shape a i on in
                subst (IsSlotStored setup.shape made new) found.2
                (group.slot_here found.0 found.1 ∙ sym (named.on_path found.0 found.1))
            | inr off ↦ group.slot_else i off ∙ (stored ∙ sym (named.others i off))
          ];
      nodes =
          λ x in_x held.
          elim (cases_Bool (is_on_line_path setup.shape a x)) [
            | inl on ↦ inr (named.on_path x on)
            | inr off ↦ elim held [
              | inl stored ↦
                  inl (group.node_lines x in_x ∙ (stored ∙ ap (node_line setup.formulas x) (sym (raised.off_path x off))))
              | inr dirty ↦
                  inr (dirty-named setup a x engine old_regs old new shape armed.its_line trusted cached raised named off dirty).1
            ]
          ];
    }

pub armed-places : (setup : Setup) (a : ℕ) (seal : LineSeal) (engine : TreeState) (lines : List Line) (old_regs new_regs : Regs) (old new : WatchState) → IsShape setup.shape → length lines ≡ tree_size setup.shape → IsTreeTrusted setup engine old_regs old → IsNodePathCached setup.shape a engine.cache → IsTreeArmed setup a seal old_regs new_regs old new → ArePlacesArmed setup a engine lines (redone new_regs.group.items lines) old new
armed-places setup a seal engine lines old_regs new_regs old new shape size trusted cached armed = search (rules, armed-places_from, armed-made)

-- once the group is written, each node is held by the engine
pub written-place : (setup : Setup) (a : ℕ) (seal : LineSeal) (engine after : TreeState) (lines : List Line) (old_regs armed_regs : Regs) (old new : WatchState) (x : ℕ) → IsShape setup.shape → length lines ≡ tree_size setup.shape → IsTreeTrusted setup engine old_regs old → IsNodePathCached setup.shape a engine.cache → IsTreeArmed setup a seal old_regs armed_regs old new → HasPathStored setup a engine after new → x < meta_lines setup.shape
    → IsNodeHeldBy setup engine lines old x → IsNodeHeldBy setup after (redone armed_regs.group.items lines) new x
written-place setup a seal engine after lines old_regs armed_regs old new x shape size trusted cached armed stored in_x held =
    let raised = armed-IsRaised setup a seal old_regs armed_regs old new shape trusted.anchored armed in
    let made = armed-made setup a seal lines old_regs armed_regs old new shape size armed in
    elim (cases_Bool (is_on_line_path setup.shape a x)) [
      | inl on ↦
          inr (record {
            held = record { x = x; node = node_at new.nodes x; dirty = true };
            stands = stored.cache.on_path x on;
            position = refl;
            dirty = refl;
          })
      | inr off ↦ elim held [
        | inl before ↦
            inl (made.node_lines x in_x ∙ (before ∙ ap (node_line setup.formulas x) (sym (raised.off_path x off))))
        | inr dirty ↦
            let its = dirty-named setup a x engine old_regs old new shape armed.its_line trusted cached raised armed.slots off dirty in
            inr (record {
              held = dirty.held;
              stands = stored.cache.others (slot_of setup.shape x) its.0 ∙ dirty.stands;
              position = dirty.position;
              dirty = dirty.dirty;
            })
      ]
    ]

-- ---- a true node is written back, and another takes its slot

pub written_back-places : (setup : Setup) (engine : TreeState) (lines : List Line) (watch : WatchState) (x : ℕ) → x < meta_lines setup.shape → length lines ≡ tree_size setup.shape → ArePlacesKept setup engine engine lines (slice_set lines (line_of_node setup.shape x) (node_line setup.formulas x (node_at watch.nodes x))) watch
written_back-places setup engine lines watch x inside size = search (rules, line_at-set_other, cases_eq, line_at-set_same)

pub fetched-places : (setup : Setup) (x : ℕ) (line : Line) (node : Node) (old new : TreeState) (lines : List Line) (watch : WatchState) → IsFetched setup x line node old new watch → GivesWay setup old lines watch (slot_of setup.shape x) → ArePlacesKept setup old new lines lines watch
fetched-places setup x line node old new lines watch fetched gives =
    record {
      seals = λ b in_b stored. stored;
      slots = λ i stored. stored;
      nodes =
          λ y in_y held.
          elim held [
            | inl it ↦ inl it
            | inr dirty ↦ elim (cases_eq (slot_of setup.shape y) (slot_of setup.shape x)) [
              | inl same ↦
                  inl (subst (IsNodeStored setup lines watch) dirty.position
                  (gives dirty.held (ap (cache_at old.cache) (sym same) ∙ dirty.stands) dirty.dirty))
              | inr apart ↦
                  inr (record {
                    held = dirty.held;
                    stands =
                        ap (λ (c : List (Option CachedNode)). cache_at c (slot_of setup.shape y)) fetched.cache
                        ∙ (get_or-set_other old.cache (slot_of setup.shape x) (slot_of setup.shape y) (Some (record { x = x; node = node; dirty = false })) None apart
                        ∙ dirty.stands);
                    position = dirty.position;
                    dirty = dirty.dirty;
                  })
            ]
          ];
    }

-- ---- recovery

pub recovered-place : (setup : Setup) (engine : TreeState) (lines : List Line) (regs : Regs) (watch : WatchState) (x : ℕ) → IsShape setup.shape → IsTreeAnchored setup regs watch → IsTreeRecovered setup watch.slots engine → x < meta_lines setup.shape → IsNodeHeld setup lines watch x → IsNodeHeldBy setup engine lines watch x
recovered-place setup engine lines regs watch x shape anchored recovered in_x held =
    elim held [
      | inl stored ↦ inl stored
      | inr line ↦
          let inside = slot_of-inside setup.shape x shape in_x in
          let names : NamesTrueNode setup.shape watch (slot_of setup.shape x) = record { x = x; on_tree = in_x; its_slot = refl; line = line } in
          inr (record {
            held = record { x = x; node = node_at watch.nodes x; dirty = true };
            stands = recovered.cache (slot_of setup.shape x) (omega (arith, inside, anchored.of_setup.slot_count)) ∙ slot-named setup regs watch (slot_of setup.shape x) shape anchored names;
            position = refl;
            dirty = refl;
          })
    ]

-- with power off, a node that the engine held is held
pub powered_off-place : (setup : Setup) (engine : TreeState) (lines : List Line) (regs : Regs) (watch : WatchState) (x : ℕ) → IsTreeTrusted setup engine regs watch → IsNodeHeldBy setup engine lines watch x → IsNodeHeld setup lines watch x
powered_off-place setup engine lines regs watch x trusted held = search rules

-- ---- what is read of a place that is held

pub node_read-place : (setup : Setup) (engine : TreeState) (lines : List Line) (regs : Regs) (watch : WatchState) (x : ℕ) → IsShape setup.shape → AreInRange setup.formulas → IsTreeTrusted setup engine regs watch → 1 ≤ x → x < meta_lines setup.shape → (IsCached setup.shape engine.cache x → ⊥) → IsNodeHeldBy setup engine lines watch x
    → (node_read setup.formulas x (line_at lines (line_of_node setup.shape x)) (entry_for watch.nodes x) ≡ Some (node_at watch.nodes x)) × (stored_node (line_at lines (line_of_node setup.shape x)) ≡ node_at watch.nodes x)
node_read-place setup engine lines regs watch x shape in_range trusted low inside uncached held =
    let tree = trusted.anchored.tree in
    let whole = tree-IsNode setup.shape watch.nodes x tree inside in
    let small = tree-version setup.shape watch.nodes x tree inside in
    elim held [
      | inr dirty ↦ absurd (uncached (record { held = dirty.held; stands = dirty.stands; position = dirty.position }))
      | inl stored ↦ (
        ap (λ v. node_read setup.formulas x (line_at lines (line_of_node setup.shape x)) v) (sym (tree.versions x low inside))
            ∙ (ap (λ line. node_read setup.formulas x line (total (node_at watch.nodes x))) stored
            ∙ node_read-node_line setup.formulas x (node_at watch.nodes x) in_range whole small),
        ap stored_node stored ∙ stored_node-node_line setup.formulas x (node_at watch.nodes x) whole,
      )
    ]

pub line-place : (setup : Setup) (lines : List Line) (regs : Regs) (watch : WatchState) (a : ℕ) → IsTreeAnchored setup regs watch → a < tree_lines setup.shape → IsTreeSealStored setup.shape lines watch a → (setup.formulas.tag_of a (version_counter (line_counter setup.shape watch.nodes a)) (line_at lines a) ≡ tag_slot (line_at lines (line_of_tag setup.shape a)) 0) × IfSome (last_seal_of watch a) (λ seal. line_at lines a ≡ seal.cipher)
line-place setup lines regs watch a anchored inside stored =
    let it = anchored.seals a inside in
    let one : stored.seal ≡ it.seal = same_Some stored.seal it.seal (sym stored.last ∙ it.last) in
    let cipher : line_at lines a ≡ it.seal.cipher = stored.cipher ∙ ap (λ (s : LineSeal). s.cipher) one in
    let tag : tag_slot (line_at lines (line_of_tag setup.shape a)) 0 ≡ it.seal.tag = stored.tag ∙ ap (λ (s : LineSeal). s.tag) one in
    let wanted : IfSome (Some it.seal) (λ seal. line_at lines a ≡ seal.cipher) = cipher in (
      ap (λ n. setup.formulas.tag_of a (version_counter n) (line_at lines a)) (sym it.counter)
          ∙ (ap (setup.formulas.tag_of a (version_counter it.seal.counter)) cipher ∙ (it.tagged ∙ sym tag)),
      subst (λ s. IfSome s (λ seal. line_at lines a ≡ seal.cipher)) (sym it.last) wanted,
    )

pub slots-place : (setup : Setup) (lines : List Line) (regs : Regs) (watch : WatchState) → IsTreeAnchored setup regs watch → length lines ≡ tree_size setup.shape → ((i : ℕ) → i < tree_slots setup.shape → IsSlotStored setup.shape lines watch i) → slots_read setup.shape lines ≡ watch.slots
slots-place setup lines regs watch anchored size stored = search (rules, length-slots_read, lines-equal, line_at-slots_read)

-- ---- tampering

-- a line changed past the controller changes no other, an armed group being redone
pub poked-elsewhere : (group : List (ℕ × Line)) (lines : List Line) (d p : ℕ) (line : Line) → p ≢ d → line_at (redone group (slice_set lines d line)) p ≡ line_at (redone group lines) p
poked-elsewhere [] lines d p line apart = line_at-set_other lines d p line apart
poked-elsewhere (entry ∷ group) lines d p line apart =
    elim (cases_eq d entry.0) [
      | inl same ↦ ap (λ ls. line_at (redone group ls) p) (ap (λ i. slice_set (slice_set lines i line) entry.0 entry.1) same ∙ set-set lines entry.0 line entry.1)
      | inr other ↦ ap (λ ls. line_at (redone group ls) p) (set_comm lines d entry.0 line entry.1 other) ∙ poked-elsewhere group (slice_set lines entry.0 entry.1) d p line apart
    ]
