-- Recovery: with the right root the slot lines are the true ones or show a clash, and the true ones make
-- a trusted engine, which over a durable device is sound.
use Rattle.std.proofs.Common.{ℕ, ◌≡◌, ◌<◌, ◌-◌, List, [], length, true, Some, None, refl, sym, ap, subst, inl, inr, ◌∙◌, arith, rules}
use Rattle.asit_shadow.proofs.Common.{All, cases_lt, get_or_past, get_or-take, get_or-drop, length-drop, length-take-le, same_Some, none-some, Line, Regs, Exhibit, IsLine, line_at, Shape, IsShape, meta_lines, meta_lines-most, AreInRange, Setup, IsExhibit, redone, tree_slots, tree_size, line_of_slot, node_at, slot_of, slot_read, WatchState, IsSlotClash, shadow_height-room, shadow_clash, slot_read-slot_line, slot_read-zero, tree-IsNode, TreeState, CachedNode, NamesTrueNode, IsTreeAnchored, IsTrueCached, IsTreeTrusted, IsTreeMendable, IsTreeDurable, IsTreeSound, held_of, IsTreeRecovered, slots_read}
pub use Rattle.pmem_base.proofs.LineLemmas.{lines-equal}
use Rattle.counter_tree.specs.Shadow.{shadow_root}
use Rattle.asit_shadow.proofs.SlotPlaces.{slot_of-inside}

-- ---- the slot lines of a list

pub length-slots_read : (g : Shape) (lines : List Line) → length lines ≡ tree_size g → length (slots_read g lines) ≡ tree_slots g
length-slots_read g lines size = search (rules, length-take-le, length-drop)

pub line_at-slots_read : (g : Shape) (lines : List Line) (i : ℕ) → i < tree_slots g → line_at (slots_read g lines) i ≡ line_at lines (line_of_slot g i)
line_at-slots_read g lines i inside = search (rules, get_or-take, get_or-drop)

-- ---- any board

-- the law: slot lines under the register's root that aren't the true ones show a clash that holds
pub clash-holds : (setup : Setup) (regs : Regs) (watch : WatchState) (slots : List Line) (shown : Exhibit) → IsShape setup.shape → AreInRange setup.formulas → IsTreeAnchored setup regs watch → length slots ≡ tree_slots setup.shape → All IsLine slots → shadow_root setup.shape setup.formulas slots ≡ regs.root → IsSlotClash watch slots shown → IsExhibit setup.formulas shown
unfolding shadow_root
clash-holds setup regs watch slots shown shape in_range anchored size whole root clash = search (rules, shadow_clash, shadow_height-room)

-- what a true slot line gives
pub slot-named : (setup : Setup) (regs : Regs) (watch : WatchState) (i : ℕ) → IsShape setup.shape → IsTreeAnchored setup regs watch → (names : NamesTrueNode setup.shape watch i) → held_of (slot_read (line_at watch.slots i)) ≡ Some (record { x = names.x; node = node_at watch.nodes names.x; dirty = true })
slot-named setup regs watch i shape anchored names = search (rules, meta_lines-most, slot_read-slot_line, tree-IsNode)

-- the law: the true slot lines make a trusted engine
pub IsTrusted-recovered : (setup : Setup) (engine : TreeState) (regs : Regs) (watch : WatchState) → IsShape setup.shape → IsTreeAnchored setup regs watch → regs.group.items ≡ [] → IsTreeRecovered setup watch.slots engine → IsTreeTrusted setup engine regs watch
IsTrusted-recovered setup engine regs watch shape anchored no_group recovered =
    let count = recovered.count ∙ anchored.of_setup.slot_count in
    let top : NamesTrueNode setup.shape watch 0 = record { x = 0; on_tree = top_inside setup.shape shape; its_slot = refl; line = anchored.top_named } in
    record {
      its_shape = recovered.shape;
      anchored = anchored;
      no_group = no_group;
      not_down = recovered.down;
      slot_count = count;
      cached_true =
          λ i held here.
          elim (cases_lt i (tree_slots setup.shape)) [
            | inr past ↦ absurd (none-some held (sym (get_or_past engine.cache i None (omega (arith, past, count))) ∙ here))
            | inl inside ↦
                let is = recovered.cache i (omega (arith, inside, anchored.of_setup.slot_count)) in
                elim (anchored.slots i inside) [
                  | inl zeros ↦ absurd (none-some held (sym (ap held_of (ap slot_read zeros ∙ slot_read-zero)) ∙ (sym is ∙ here)))
                  | inr names ↦
                      let named : CachedNode = record { x = names.x; node = node_at watch.nodes names.x; dirty = true } in
                      let one : named ≡ held = same_Some named held (sym (slot-named setup regs watch i shape anchored names) ∙ (sym is ∙ here)) in
                      subst (IsTrueCached setup.shape watch i) one
                      (let it : IsTrueCached setup.shape watch i named =
                      record { on_tree = names.on_tree; its_slot = names.its_slot; true_node = refl; named = λ _. names.line } in
                      it)
                ]
          ];
      top_cached =
          record {
            held = record { x = 0; node = node_at watch.nodes 0; dirty = true };
            stands = recovered.cache 0 (omega (arith, anchored.of_setup.slot_count)) ∙ slot-named setup regs watch 0 shape anchored top;
            position = refl;
          };
      tree_true = recovered.tree;
    }
  where
    top_inside : (g : Shape) → IsShape g → 0 < meta_lines g
    top_inside g shape = omega (arith, Rattle.bonsai_tree.proofs.Levels.meta_lines-level g, Rattle.bonsai_tree.proofs.Levels.level_start-suc g.levels)

-- ---- an untampered board, the group being redone

-- the law: the slot lines read are the true ones, so their root is the register's
pub slots-sound : (setup : Setup) (lines : List Line) (regs : Regs) (watch : WatchState) → IsTreeDurable setup lines regs watch → regs.group.items ≡ [] → (slots_read setup.shape lines ≡ watch.slots) × (shadow_root setup.shape setup.formulas (slots_read setup.shape lines) ≡ regs.root)
slots-sound setup lines regs watch durable no_group = search (rules, length-slots_read, lines-equal, line_at-slots_read)

-- the law: the recovered engine is sound
pub IsSound-recovered : (setup : Setup) (engine : TreeState) (lines : List Line) (regs : Regs) (watch : WatchState) → IsShape setup.shape → IsTreeDurable setup lines regs watch → regs.group.items ≡ [] → IsTreeRecovered setup (slots_read setup.shape lines) engine → IsTreeSound setup engine lines regs watch
IsSound-recovered setup engine lines regs watch shape durable no_group recovered =
    let before : IsTreeMendable setup lines regs watch = subst (λ group. IsTreeMendable setup (redone group lines) regs watch) no_group durable.mendable in
    let same = (slots-sound setup lines regs watch durable no_group).0 in
    let moved : IsTreeRecovered setup watch.slots engine = subst (λ slots. IsTreeRecovered setup slots engine) same recovered in
    let anchored = before.anchored in
    record {
      trusted = IsTrusted-recovered setup engine regs watch shape anchored no_group moved;
      durable = durable;
      true_or_dirty =
          λ x in_x.
          elim (before.true_or_named x in_x) [
            | inl stored ↦ inl stored
            | inr line ↦
                let inside = slot_of-inside setup.shape x shape in_x in
                let names : NamesTrueNode setup.shape watch (slot_of setup.shape x) = record { x = x; on_tree = in_x; its_slot = refl; line = line } in
                inr (record {
                  held = record { x = x; node = node_at watch.nodes x; dirty = true };
                  stands = moved.cache (slot_of setup.shape x) (omega (arith, inside, anchored.of_setup.slot_count)) ∙ slot-named setup regs watch (slot_of setup.shape x) shape anchored names;
                  position = refl;
                  dirty = refl;
                })
          ];
    }
