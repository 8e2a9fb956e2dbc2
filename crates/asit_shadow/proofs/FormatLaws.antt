-- A formatted device, watch and engine are sound.
use Rattle.std.proofs.Common.{ℕ, zero, suc, ◌≡◌, ◌<◌, ◌^◌, ◌≢◌, List, length, replicate, Some, None, refl, sym, ap, subst, inl, inr, ◌∙◌, arith, lit<, rules}
use Rattle.asit_shadow.proofs.Common.{cases_eq, Option, slice_index_or, length-replicate, length-set, get_or-set_same, get_or-set_other, same_Some, none-some, Line, Regs, line_at, tag_slot, IsGroup, Shape, IsShape, meta_lines, IsLine-zero_line, Formulas, AreInRange, cipher_of, Setup, cipher_of-IsLine, parent, child_slot, meta_lines-level, level_start-suc, redone, IsGroup-nil, Node, counter, zero_node, version_counter, node_line, tree_size, tree_slots, line_of_node, node_at, line_position, IsCounterTree, slot_line, WatchState, IsLineSeal, TreeState, cache_at, CachedNode, IsTrueCached, IsTreeTrusted, IsTreeMendable, IsTreeSound, IsTreeOver, first_tree_seal, first_held, IsChipFormatted, AreLinesFormatted}
use Rattle.pmem_base.specs.Lines.{zero_line}
use Rattle.counter_tree.specs.Shadow.{shadow_root}
use Rattle.asit_shadow.proofs.PutLaws.{tag_slot-tag_only}

-- a list of one value has it everywhere
pub replicate-default : {X : Type 0} (n i : ℕ) (d : X) → slice_index_or (replicate n d) i d ≡ d
replicate-default zero i d = refl
replicate-default (suc n) zero d = refl
replicate-default (suc n) (suc i) d = replicate-default n i d

zero_counters : (i : ℕ) → counter zero_node i ≡ 0
zero_counters zero = refl
zero_counters (suc zero) = refl
zero_counters (suc (suc zero)) = refl
zero_counters (suc (suc (suc zero))) = refl
zero_counters (suc (suc (suc (suc i)))) = refl

pub formatted-seal : (f : Formulas) (a : ℕ) → AreInRange f → IsLineSeal (first_tree_seal f a)
formatted-seal f a in_range =
    let low : 0 < 2 ^ 64 = lit< tt in
    let cipher = cipher_of-IsLine f a (version_counter 0) zero_line in_range (record { major = low; minor = omega arith }) IsLine-zero_line in
    record {
      counter = low;
      cipher = cipher;
      tag = in_range.tags a (version_counter 0) (cipher_of f a (version_counter 0) zero_line) (record { major = low; minor = omega arith }) cipher;
    }

formatted-tree : (g : Shape) (nodes : List Node) → nodes ≡ replicate (meta_lines g) zero_node → IsCounterTree g nodes
formatted-tree g nodes e = search (rules, replicate-default, length-replicate, zero_counters)

-- ---- the laws

pub IsTrusted-formatted : (setup : Setup) (engine : TreeState) (regs : Regs) (watch : WatchState) → IsShape setup.shape → AreInRange setup.formulas → IsChipFormatted setup engine regs watch → IsTreeTrusted setup engine regs watch
IsTrusted-formatted setup engine regs watch shape in_range made =
    let each : (x : ℕ) → node_at watch.nodes x ≡ zero_node = λ x. ap (λ (ns : List Node). node_at ns x) made.nodes ∙ replicate-default (meta_lines setup.shape) x zero_node in
    let positive : 0 < meta_lines setup.shape = omega (arith, meta_lines-level setup.shape, level_start-suc setup.shape.levels) in
    let slots_long : length (replicate (tree_slots setup.shape) zero_line) ≡ tree_slots setup.shape = length-replicate {A = Line} (tree_slots setup.shape) zero_line in
    let cache_long = length-replicate {A = Option CachedNode} (tree_slots setup.shape) None in
    let top_slot : line_at watch.slots 0 ≡ slot_line 0 zero_node =
    ap (λ (slots : List Line). line_at slots 0) made.slots ∙ get_or-set_same (replicate (tree_slots setup.shape) zero_line) 0 (slot_line 0 zero_node) zero_line (omega (arith, slots_long)) in
    let other_slots : (i : ℕ) → i ≢ 0 → line_at watch.slots i ≡ zero_line =
    λ i other.
    ap (λ (slots : List Line). line_at slots i) made.slots
    ∙ (get_or-set_other (replicate (tree_slots setup.shape) zero_line) 0 i (slot_line 0 zero_node) zero_line other ∙ replicate-default (tree_slots setup.shape) i zero_line) in
    let top_cached : cache_at engine.cache 0 ≡ Some first_held =
    ap (λ (cache : List (Option CachedNode)). cache_at cache 0) made.engine_new.cache ∙ get_or-set_same (replicate (tree_slots setup.shape) None) 0 (Some first_held) None (omega (arith, cache_long)) in
    let others_empty : (i : ℕ) → i ≢ 0 → cache_at engine.cache i ≡ None =
    λ i other.
    ap (λ (cache : List (Option CachedNode)). cache_at cache i) made.engine_new.cache
    ∙ (get_or-set_other (replicate (tree_slots setup.shape) None) 0 i (Some first_held) None other ∙ replicate-default {X = Option CachedNode} (tree_slots setup.shape) i None) in
    let top_line : line_at watch.slots 0 ≡ slot_line 0 (node_at watch.nodes 0) = top_slot ∙ ap (slot_line 0) (sym (each 0)) in
    record {
      its_shape = made.engine_new.shape;
      anchored =
          record {
            of_setup = made.of_setup;
            tree = formatted-tree setup.shape watch.nodes made.nodes;
            seals =
                λ a inside.
                record {
                  seal = first_tree_seal setup.formulas a;
                  last = made.seals a inside;
                  counter =
                      sym (ap (λ (n : Node). counter n (child_slot (line_position setup.shape a))) (each (parent (line_position setup.shape a)))
                      ∙ zero_counters (child_slot (line_position setup.shape a)));
                  tagged = refl;
                  in_range = formatted-seal setup.formulas a in_range;
                };
            slots =
                λ i inside.
                elim (cases_eq i 0) [
                  | inl top ↦
                      inr (record {
                        x = 0;
                        on_tree = positive;
                        its_slot = sym top;
                        line = ap (line_at watch.slots) top ∙ top_line;
                      })
                  | inr other ↦ inl (other_slots i other)
                ];
            top_named = top_line;
            root = ap (λ (r : Regs). r.root) made.its_regs ∙ ap (shadow_root setup.shape setup.formulas) (sym made.slots);
            group = subst (λ (r : Regs). IsGroup (tree_size setup.shape) r.group.items) (sym made.its_regs) (IsGroup-nil (tree_size setup.shape));
            no_exhibit = made.no_exhibit;
          };
      no_group = ap (λ (r : Regs). r.group.items) made.its_regs;
      not_down = made.engine_new.not_down;
      slot_count = ap length made.engine_new.cache ∙ (length-set (replicate (tree_slots setup.shape) None) 0 (Some first_held) ∙ cache_long);
      cached_true =
          λ i held here.
          elim (cases_eq i 0) [
            | inr other ↦ absurd (none-some held (sym (others_empty i other) ∙ here))
            | inl top ↦
                let one : first_held ≡ held = same_Some first_held held (sym top_cached ∙ (ap (cache_at engine.cache) (sym top) ∙ here)) in
                subst (IsTrueCached setup.shape watch i) one
                (let it : IsTrueCached setup.shape watch i first_held =
                record {
                  on_tree = positive;
                  its_slot = sym top;
                  true_node = sym (each 0);
                  named = λ _. ap (line_at watch.slots) top ∙ top_slot;
                } in
                it)
          ];
      top_cached = record { held = first_held; stands = top_cached; position = refl };
      tree_true = subst (λ (slots : List Line). IsTreeOver setup slots engine.tree) (sym made.slots) made.tree;
    }

pub IsSound-formatted : (setup : Setup) (engine : TreeState) (lines : List Line) (regs : Regs) (watch : WatchState) → IsShape setup.shape → AreInRange setup.formulas → IsChipFormatted setup engine regs watch → AreLinesFormatted setup lines → IsTreeSound setup engine lines regs watch
IsSound-formatted setup engine lines regs watch shape in_range made written =
    let each : (x : ℕ) → node_at watch.nodes x ≡ zero_node = λ x. ap (λ (ns : List Node). node_at ns x) made.nodes ∙ replicate-default (meta_lines setup.shape) x zero_node in
    let trusted = IsTrusted-formatted setup engine regs watch shape in_range made in
    let stored : (x : ℕ) → x < meta_lines setup.shape → line_at lines (line_of_node setup.shape x) ≡ node_line setup.formulas x (node_at watch.nodes x) =
    λ x inside. written.node_lines x inside ∙ ap (node_line setup.formulas x) (sym (each x)) in
    let mendable : IsTreeMendable setup lines regs watch =
    record {
      anchored = trusted.anchored;
      seals_stored =
          λ a inside.
          record {
            seal = first_tree_seal setup.formulas a;
            last = made.seals a inside;
            cipher = written.data_lines a inside;
            tag =
                ap (λ line. tag_slot line 0) (written.tag_lines a inside)
                ∙ tag_slot-tag_only (first_tree_seal setup.formulas a).tag (formatted-seal setup.formulas a in_range).tag;
          };
      slots_stored = λ i inside. written.slot_lines i inside ∙ ap (λ (slots : List Line). line_at slots i) (sym made.slots);
      true_or_named = λ x inside. inl (stored x inside);
    } in
    record {
      trusted = trusted;
      durable =
          record {
            device_whole = written.device_whole;
            mendable = subst (λ group. IsTreeMendable setup (redone group lines) regs watch) (sym trusted.no_group) mendable;
          };
      true_or_dirty = λ x inside. inl (stored x inside);
    }
