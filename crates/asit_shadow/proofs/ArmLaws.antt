-- A write is armed: the registers and the watch stay anchored, the device stays durable, and once the
-- group is written and emptied the engine is sound.
use Rattle.std.proofs.Common.{ℕ, ◌≡◌, ◌≢◌, ◌<◌, List, length, true, false, Some, refl, sym, ap, subst, inl, inr, ◌∙◌, arith, rules}
use Rattle.asit_shadow.proofs.Common.{All, IsNone, slice_set, Option, cases_Bool, cases_eq, false≢true, false_from_ne_true, length-set, get_or-set_same, get_or-set_other, same_Some, Line, Regs, line_at, tag_slot, IsGroup, IsShape, Setup, redone, AreLinesOf-redone, node_line, tree_lines, tree_size, node_at, IsRaised, is_on_line_path, slot_of, slot_line, WatchState, last_seal_of, LineSeal, raised_nodes-IsRaised, TreeState, cache_at, IsCachedDirty, CachedNode, IsTrueSeal, IsTrueTreeSlot, IsTreeAnchored, IsTrueCached, IsTreeTrusted, IsTreeSealStored, IsNamed, IsSlotStored, IsTreeMendable, IsTreeDurable, IsTreeSound, is_path_slot, HasPathNamed, IsNodePathCached, HasPathCached, IsTreeArmed, HasPathStored, IsTreeEmptied}
use Rattle.asit_shadow.proofs.SlotPlaces.{on_path-inside, top_on_path, path_slot-of, path_slot-from}
use Rattle.asit_shadow.proofs.PutLaws.{write_group-IsGroup, write_group-made, IsGroupMade, tag_slot-tag_only}

-- what raising the path does
pub armed-IsRaised : (setup : Setup) (a : ℕ) (seal : LineSeal) (old_regs new_regs : Regs) (old new : WatchState) → IsShape setup.shape → IsTreeAnchored setup old_regs old → IsTreeArmed setup a seal old_regs new_regs old new → IsRaised setup.shape a old.nodes new.nodes
armed-IsRaised setup a seal old_regs new_regs old new shape anchored armed =
    subst (IsRaised setup.shape a old.nodes) (sym armed.nodes)
    (raised_nodes-IsRaised setup.shape a old.nodes shape.at_least_one_level armed.its_line armed.can_rise anchored.tree)

-- ---- the seals

pub last_here : (watch new : WatchState) (a : ℕ) (seal : LineSeal) → new.seals ≡ slice_set watch.seals a (Some seal) → a < length watch.seals → last_seal_of new a ≡ Some seal
last_here watch new a seal e inside = search (rules, get_or-set_same)

pub last_else : (watch new : WatchState) (a b : ℕ) (seal : LineSeal) → new.seals ≡ slice_set watch.seals a (Some seal) → b ≢ a → last_seal_of new b ≡ last_seal_of watch b
last_else watch new a b seal e apart = search (rules, get_or-set_other)

-- ---- anchored

armed-slots : (setup : Setup) (a i : ℕ) (old new : WatchState) → IsShape setup.shape → a < tree_lines setup.shape → IsRaised setup.shape a old.nodes new.nodes → HasPathNamed setup.shape a new.nodes old.slots new.slots → IsTrueTreeSlot setup.shape old i → IsTrueTreeSlot setup.shape new i
armed-slots setup a i old new shape inside raised named before =
    let g = setup.shape in
    elim (cases_Bool (is_path_slot setup.shape a i)) [
      | inl on ↦
          let found = path_slot-from setup.shape a i on in
          inr (record {
            x = found.0;
            on_tree = on_path-inside setup.shape a found.0 inside found.1;
            its_slot = found.2;
            line = subst (λ n. line_at new.slots n ≡ slot_line found.0 (node_at new.nodes found.0)) found.2 (named.on_path found.0 found.1);
          })
      | inr off ↦ elim before [
        | inl zeros ↦ inl (named.others i off ∙ zeros)
        | inr names ↦
            let off_path : is_on_line_path setup.shape a names.x ≡ false =
            false_from_ne_true (is_on_line_path setup.shape a names.x)
            (λ t. false≢true (sym off ∙ subst (λ n. is_path_slot setup.shape a n ≡ true) names.its_slot (path_slot-of setup.shape a names.x t))) in
            inr (record {
              x = names.x;
              on_tree = names.on_tree;
              its_slot = names.its_slot;
              line = named.others i off ∙ (names.line ∙ ap (slot_line names.x) (sym (raised.off_path names.x off_path)));
            })
      ]
    ]

-- the law: anchored stays
pub IsAnchored-armed : (setup : Setup) (a : ℕ) (seal : LineSeal) (old_regs new_regs : Regs) (old new : WatchState) → IsShape setup.shape → IsTreeAnchored setup old_regs old → IsTreeArmed setup a seal old_regs new_regs old new → IsTreeAnchored setup new_regs new
IsAnchored-armed setup a seal old_regs new_regs old new shape anchored armed =
    let g = setup.shape in
    let raised = armed-IsRaised setup a seal old_regs new_regs old new shape anchored armed in
    let named = armed.slots in
    let room : a < length old.seals = omega (arith, armed.its_line, anchored.of_setup.seal_count) in
    record {
      of_setup =
          record {
            its_setup = armed.setups ∙ anchored.of_setup.its_setup;
            seal_count = ap length armed.seals ∙ (length-set old.seals a (Some seal) ∙ anchored.of_setup.seal_count);
            node_count = raised.tree.whole;
            slot_count = named.count ∙ anchored.of_setup.slot_count;
            whole_slots = named.whole anchored.of_setup.whole_slots;
          };
      tree = raised.tree;
      seals =
          λ b in_b.
          elim (cases_eq b a) [
            | inl same ↦
                subst (IsTrueSeal setup new) (sym same)
                (let it : IsTrueSeal setup new a =
                record {
                  seal = seal;
                  last = last_here old new a seal armed.seals room;
                  counter = armed.counter ∙ sym raised.own;
                  tagged = armed.tagged;
                  in_range = armed.in_range;
                } in
                it)
            | inr other ↦
                let before = anchored.seals b in_b in
                record {
                  seal = before.seal;
                  last = last_else old new a b seal armed.seals other ∙ before.last;
                  counter = before.counter ∙ sym (raised.others b in_b other);
                  tagged = before.tagged;
                  in_range = before.in_range;
                }
          ];
      slots = λ i in_i. armed-slots setup a i old new shape armed.its_line raised named (anchored.slots i in_i);
      top_named = named.on_path 0 (top_on_path setup.shape a armed.its_line);
      root = armed.root;
      group = subst (IsGroup (tree_size setup.shape)) (sym armed.group) (write_group-IsGroup setup.shape a seal new.nodes shape armed.its_line armed.in_range);
      no_exhibit = subst IsNone (sym armed.exhibit) anchored.no_exhibit;
    }

-- ---- durable

-- a dirty node off the path is named as before
pub dirty-named : (setup : Setup) (a x : ℕ) (engine : TreeState) (regs : Regs) (old new : WatchState) → IsShape setup.shape → a < tree_lines setup.shape → IsTreeTrusted setup engine regs old → IsNodePathCached setup.shape a engine.cache → IsRaised setup.shape a old.nodes new.nodes → HasPathNamed setup.shape a new.nodes old.slots new.slots
    → is_on_line_path setup.shape a x ≡ false → IsCachedDirty setup.shape engine.cache x → (is_path_slot setup.shape a (slot_of setup.shape x) ≡ false) × IsNamed setup.shape new x
dirty-named setup a x engine regs old new shape inside trusted cached raised named off dirty =
    let g = setup.shape in
    let off_slot : is_path_slot setup.shape a (slot_of setup.shape x) ≡ false =
    false_from_ne_true (is_path_slot setup.shape a (slot_of setup.shape x))
    (λ t.
    let found = path_slot-from setup.shape a (slot_of setup.shape x) t in
    let stands = cached.each found.0 found.1 in
    let one : stands.held ≡ dirty.held = same_Some stands.held dirty.held (sym stands.stands ∙ (ap (cache_at engine.cache) found.2 ∙ dirty.stands)) in
    let same : found.0 ≡ x = sym stands.position ∙ (ap (λ (held : CachedNode). held.x) one ∙ dirty.position) in
    false≢true (sym off ∙ subst (λ z. is_on_line_path setup.shape a z ≡ true) same found.1)) in
    let it = trusted.cached_true (slot_of setup.shape x) dirty.held dirty.stands in (
      off_slot,
      named.others (slot_of setup.shape x) off_slot
          ∙ (it.named dirty.dirty
          ∙ (ap (slot_line dirty.held.x) it.true_node
          ∙ (ap (λ z. slot_line z (node_at old.nodes z)) dirty.position ∙ ap (slot_line x) (sym (raised.off_path x off))))),
    )

armed-mendable : (setup : Setup) (a : ℕ) (seal : LineSeal) (engine : TreeState) (lines made : List Line) (old_regs new_regs : Regs) (old new : WatchState) → IsShape setup.shape → IsTreeSound setup engine lines old_regs old → IsNodePathCached setup.shape a engine.cache → IsTreeArmed setup a seal old_regs new_regs old new → IsGroupMade setup.shape a seal new.nodes lines made → IsTreeMendable setup made new_regs new
armed-mendable setup a seal engine lines made old_regs new_regs old new shape sound cached armed group =
    let g = setup.shape in
    let anchored = sound.trusted.anchored in
    let raised = armed-IsRaised setup a seal old_regs new_regs old new shape anchored armed in
    let named = armed.slots in
    let room : a < length old.seals = omega (arith, armed.its_line, anchored.of_setup.seal_count) in
    let before : IsTreeMendable setup lines old_regs old =
    subst (λ group. IsTreeMendable setup (redone group lines) old_regs old) armed.no_group_before sound.durable.mendable in
    record {
      anchored = IsAnchored-armed setup a seal old_regs new_regs old new shape anchored armed;
      seals_stored =
          λ b in_b.
          elim (cases_eq b a) [
            | inl same ↦
                subst (IsTreeSealStored setup.shape made new) (sym same)
                (let it : IsTreeSealStored setup.shape made new a =
                record {
                  seal = seal;
                  last = last_here old new a seal armed.seals room;
                  cipher = group.data_here;
                  tag = ap (λ line. tag_slot line 0) group.tag_here ∙ tag_slot-tag_only seal.tag armed.in_range.tag;
                } in
                it)
            | inr other ↦
                let stored = before.seals_stored b in_b in
                record {
                  seal = stored.seal;
                  last = last_else old new a b seal armed.seals other ∙ stored.last;
                  cipher = group.data_else b in_b other ∙ stored.cipher;
                  tag = ap (λ line. tag_slot line 0) (group.tag_else b in_b other) ∙ stored.tag;
                }
          ];
      slots_stored =
          λ i in_i.
          elim (cases_Bool (is_path_slot setup.shape a i)) [
            | inl on ↦
                let found = path_slot-from setup.shape a i on in
                subst (IsSlotStored setup.shape made new) found.2
                (group.slot_here found.0 found.1 ∙ sym (named.on_path found.0 found.1))
            | inr off ↦ group.slot_else i off ∙ (before.slots_stored i in_i ∙ sym (named.others i off))
          ];
      true_or_named =
          λ x in_x.
          elim (cases_Bool (is_on_line_path setup.shape a x)) [
            | inl on ↦ inr (named.on_path x on)
            | inr off ↦ elim (sound.true_or_dirty x in_x) [
              | inl stored ↦
                  inl (group.node_lines x in_x ∙ (stored ∙ ap (node_line setup.formulas x) (sym (raised.off_path x off))))
              | inr dirty ↦
                  inr (dirty-named setup a x engine old_regs old new shape armed.its_line sound.trusted cached raised named off dirty).1
            ]
          ];
    }

-- what the group makes of the lines
pub armed-made : (setup : Setup) (a : ℕ) (seal : LineSeal) (lines : List Line) (old_regs new_regs : Regs) (old new : WatchState) → IsShape setup.shape → length lines ≡ tree_size setup.shape → IsTreeArmed setup a seal old_regs new_regs old new → IsGroupMade setup.shape a seal new.nodes lines (redone new_regs.group.items lines)
armed-made setup a seal lines old_regs new_regs old new shape size armed =
    subst (λ group. IsGroupMade setup.shape a seal new.nodes lines (redone group lines)) (sym armed.group)
    (write_group-made setup.shape a seal new.nodes lines shape armed.its_line size)

-- the law: over a sound engine with the path cached, the device is durable from the latch on
pub IsDurable-armed : (setup : Setup) (a : ℕ) (seal : LineSeal) (engine : TreeState) (lines : List Line) (old_regs new_regs : Regs) (old new : WatchState) → IsShape setup.shape → IsTreeSound setup engine lines old_regs old → IsNodePathCached setup.shape a engine.cache → IsTreeArmed setup a seal old_regs new_regs old new → IsTreeDurable setup lines new_regs new
IsDurable-armed setup a seal engine lines old_regs new_regs old new shape sound cached armed = search (rules, armed-mendable, armed-made)

-- ---- the group is written and emptied

pub IsAnchored-emptied : (setup : Setup) (old new : Regs) (watch : WatchState) → IsTreeEmptied old new → IsTreeAnchored setup old watch → IsTreeAnchored setup new watch
IsAnchored-emptied setup old new watch emptied anchored = search rules

-- the cached nodes are true after the write
stored-true : (setup : Setup) (a i : ℕ) (held : CachedNode) (engine : TreeState) (regs : Regs) (old new : WatchState) (cache : List (Option CachedNode)) → IsShape setup.shape → a < tree_lines setup.shape → IsTreeTrusted setup engine regs old → IsRaised setup.shape a old.nodes new.nodes → HasPathNamed setup.shape a new.nodes old.slots new.slots
    → HasPathCached setup.shape a new.nodes engine.cache cache → cache_at cache i ≡ Some held → IsTrueCached setup.shape new i held
stored-true setup a i held engine regs old new cache shape inside trusted raised named stored here =
    elim (cases_Bool (is_path_slot setup.shape a i)) [
      | inl on ↦
          let found = path_slot-from setup.shape a i on in
          let fresh : CachedNode = record { x = found.0; node = node_at new.nodes found.0; dirty = true } in
          let one : fresh ≡ held = same_Some fresh held (sym (stored.on_path found.0 found.1) ∙ (ap (cache_at cache) found.2 ∙ here)) in
          subst (IsTrueCached setup.shape new i) one
          (let it : IsTrueCached setup.shape new i fresh =
          record {
            on_tree = on_path-inside setup.shape a found.0 inside found.1;
            its_slot = found.2;
            true_node = refl;
            named = λ _. subst (λ n. line_at new.slots n ≡ slot_line found.0 (node_at new.nodes found.0)) found.2 (named.on_path found.0 found.1);
          } in
          it)
      | inr off ↦
          let it = trusted.cached_true i held (sym (stored.others i off) ∙ here) in
          let off_path : is_on_line_path setup.shape a held.x ≡ false =
          false_from_ne_true (is_on_line_path setup.shape a held.x)
          (λ t. false≢true (sym off ∙ subst (λ n. is_path_slot setup.shape a n ≡ true) it.its_slot (path_slot-of setup.shape a held.x t))) in
          record {
            on_tree = it.on_tree;
            its_slot = it.its_slot;
            true_node = it.true_node ∙ sym (raised.off_path held.x off_path);
            named = λ dirty. named.others i off ∙ it.named dirty;
          }
    ]

-- the law: the engine is trusted again, whatever the device's lines are
pub IsTrusted-written : (setup : Setup) (a : ℕ) (seal : LineSeal) (engine after : TreeState) (old_regs armed_regs new_regs : Regs) (old new : WatchState) → IsShape setup.shape → IsTreeTrusted setup engine old_regs old → IsTreeArmed setup a seal old_regs armed_regs old new → HasPathStored setup a engine after new → IsTreeEmptied armed_regs new_regs → IsTreeTrusted setup after new_regs new
IsTrusted-written setup a seal engine after old_regs armed_regs new_regs old new shape trusted armed stored emptied =
    let raised = armed-IsRaised setup a seal old_regs armed_regs old new shape trusted.anchored armed in
    record {
      its_shape = stored.shape ∙ trusted.its_shape;
      anchored = IsAnchored-emptied setup armed_regs new_regs new emptied (IsAnchored-armed setup a seal old_regs armed_regs old new shape trusted.anchored armed);
      no_group = emptied.no_group;
      not_down = stored.down ∙ trusted.not_down;
      slot_count = stored.cache.count ∙ trusted.slot_count;
      cached_true = λ i held here. stored-true setup a i held engine old_regs old new after.cache shape armed.its_line trusted raised armed.slots stored.cache here;
      top_cached =
          record {
            held = record { x = 0; node = node_at new.nodes 0; dirty = true };
            stands = stored.cache.on_path 0 (top_on_path setup.shape a armed.its_line);
            position = refl;
          };
      tree_true = stored.tree;
    }

-- the law: over a sound engine it is sound again, the group being redone
pub IsSound-written : (setup : Setup) (a : ℕ) (seal : LineSeal) (engine after : TreeState) (lines : List Line) (old_regs armed_regs new_regs : Regs) (old new : WatchState) → IsShape setup.shape → IsTreeSound setup engine lines old_regs old → IsNodePathCached setup.shape a engine.cache → IsTreeArmed setup a seal old_regs armed_regs old new → HasPathStored setup a engine after new → IsTreeEmptied armed_regs new_regs
    → IsTreeSound setup after (redone armed_regs.group.items lines) new_regs new
IsSound-written setup a seal engine after lines old_regs armed_regs new_regs old new shape sound cached armed stored emptied =
    let raised = armed-IsRaised setup a seal old_regs armed_regs old new shape sound.trusted.anchored armed in
    let made = armed-made setup a seal lines old_regs armed_regs old new shape sound.durable.device_whole.count armed in
    let trusted = IsTrusted-written setup a seal engine after old_regs armed_regs new_regs old new shape sound.trusted armed stored emptied in
    let durable = IsDurable-armed setup a seal engine lines old_regs armed_regs old new shape sound cached armed in
    record {
      trusted = trusted;
      durable =
          record {
            device_whole = AreLinesOf-redone (tree_size setup.shape) armed_regs.group.items lines durable.mendable.anchored.group.lines_range durable.device_whole;
            mendable =
                subst (λ group. IsTreeMendable setup (redone group (redone armed_regs.group.items lines)) new_regs new) (sym emptied.no_group)
                (let it : IsTreeMendable setup (redone armed_regs.group.items lines) new_regs new =
                record {
                  anchored = trusted.anchored;
                  seals_stored = durable.mendable.seals_stored;
                  slots_stored = durable.mendable.slots_stored;
                  true_or_named = durable.mendable.true_or_named;
                } in
                it);
          };
      true_or_dirty =
          λ x in_x.
          elim (cases_Bool (is_on_line_path setup.shape a x)) [
            | inl on ↦
                inr (record {
                  held = record { x = x; node = node_at new.nodes x; dirty = true };
                  stands = stored.cache.on_path x on;
                  position = refl;
                  dirty = refl;
                })
            | inr off ↦ elim (sound.true_or_dirty x in_x) [
              | inl before ↦
                  inl (made.node_lines x in_x ∙ (before ∙ ap (node_line setup.formulas x) (sym (raised.off_path x off))))
              | inr dirty ↦
                  let its = dirty-named setup a x engine old_regs old new shape armed.its_line sound.trusted cached raised armed.slots off dirty in
                  inr (record {
                    held = dirty.held;
                    stands = stored.cache.others (slot_of setup.shape x) its.0 ∙ dirty.stands;
                    position = dirty.position;
                    dirty = dirty.dirty;
                  })
            ]
          ];
    }
