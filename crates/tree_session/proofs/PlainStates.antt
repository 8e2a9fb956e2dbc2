-- The plain state that a session's parts make: it is that of the plain machine, and there is one of a watch.
use Rattle.std.proofs.Common.{ℕ, ◌≡◌, ◌<◌, false, length, Option, Some, None, refl, sym, ap, subst, inl, inr, ◌∙◌, arith, zero-add, rules}
use Rattle.tree_session.proofs.Common.{option_map, slice_set, cases_lt, ext_get_or, length-map, get_or-map, get_or_past, length-map-range_with_len, get_or-map-range_with_len, same_Some, none-some, Line, Regs, IsLine, line_at, zero_line, Shape, IsShape, meta_lines, AreInRange, cipher_of, Setup, Node, LineSeal, IsNode, total, version_counter, tree_lines, tree_slots, node_at, line_counter, NamedNode, slot_of, slot_line, shadow_root, WatchState, tree-IsNode, IsTreeAnchored, NamesTrueNode, IsTreeArmed, tree_plain_line, PlainTree, IsPlainOf, true_count, true_slots, writes_made, named_at, slot_naming, after_tree_write, with_board, lines-equal, TreeParts, named_by, plain_of_parts}
use Rattle.bonsai_tree.proofs.Levels.{meta_lines-level, level_start-suc}
use Rattle.counter_tree.proofs.SlotLaws.{slot_read-slot_line, slot_read-zero}
use Rattle.counter_tree.proofs.Positions.{meta_lines-most}
use Rattle.asit_shadow.specs.Plain.{true_node}
use Rattle.asit_shadow.proofs.PlainLaws.{true_node-is, IsPlainOf-armed}
use Rattle.asit_shadow.proofs.SpentLaws.{true_version-top}

-- ---- what a slot line names

pub named-zero : named_by zero_line ≡ None
named-zero = ap (option_map (λ (named : NamedNode). named.x)) slot_read-zero

pub named-line : (g : Shape) (x : ℕ) (node : Node) → IsShape g → x < meta_lines g → IsNode node → named_by (slot_line x node) ≡ Some x
named-line g x node shape inside whole =
    ap (option_map (λ (named : NamedNode). named.x)) (slot_read-slot_line x node (omega (arith, meta_lines-most g shape.at_most_six_levels, inside)) whole)

-- ---- the state of the parts is the watch's

module _ (setup : Setup) (parts : TreeParts) (regs : Regs) (shape : IsShape setup.shape) (anchored : IsTreeAnchored setup regs parts.watch) where
  named_here : (i : ℕ) → i < tree_slots setup.shape → named_at (plain_of_parts setup parts).named i ≡ named_by (line_at parts.watch.slots i)
  named_here i inside = get_or-map named_by parts.watch.slots i zero_line None (omega (arith, inside, anchored.of_setup.slot_count))

  counts_are : (a : ℕ) → a < tree_lines setup.shape → true_count (plain_of_parts setup parts) a ≡ line_counter setup.shape parts.watch.nodes a
  counts_are a inside = get_or-map-range_with_len (line_counter setup.shape parts.watch.nodes) 0 (tree_lines setup.shape) a a 0 inside (zero-add a)

  nodes_are : (x : ℕ) → x < meta_lines setup.shape → true_node setup.shape (plain_of_parts setup parts) x ≡ node_at parts.watch.nodes x
  nodes_are x inside = true_node-is setup (plain_of_parts setup parts) parts.watch x shape anchored.tree counts_are inside

  named_true : (i : ℕ) (names : NamesTrueNode setup.shape parts.watch i) → named_by (line_at parts.watch.slots i) ≡ Some names.x
  named_true i names =
      ap named_by names.line
      ∙ named-line setup.shape names.x (node_at parts.watch.nodes names.x) shape names.on_tree (tree-IsNode setup.shape parts.watch.nodes names.x anchored.tree names.on_tree)

  placed : (i x : ℕ) → named_at (plain_of_parts setup parts).named i ≡ Some x → (slot_of setup.shape x ≡ i) × (x < meta_lines setup.shape)
  placed i x here =
      elim (cases_lt i (tree_slots setup.shape)) [
        | inr past ↦
            absurd (none-some x (sym (get_or_past (plain_of_parts setup parts).named i None
            (omega (arith, past, length-map parts.watch.slots named_by, anchored.of_setup.slot_count))) ∙ here))
        | inl inside ↦ elim (anchored.slots i inside) [
          | inl zeros ↦ absurd (none-some x (sym (named_here i inside ∙ (ap named_by zeros ∙ named-zero)) ∙ here))
          | inr names ↦
              let one : names.x ≡ x = same_Some names.x x (sym (named_here i inside ∙ named_true i names) ∙ here) in
              (ap (slot_of setup.shape) (sym one) ∙ names.its_slot, subst (λ y. y < meta_lines setup.shape) one names.on_tree)
        ]
      ]

  slots_are : (i : ℕ) → i < tree_slots setup.shape → slot_naming setup.shape (plain_of_parts setup parts) (named_at (plain_of_parts setup parts).named i) ≡ line_at parts.watch.slots i
  slots_are i inside =
      elim (anchored.slots i inside) [
        | inl zeros ↦ ap (slot_naming setup.shape (plain_of_parts setup parts)) (named_here i inside ∙ (ap named_by zeros ∙ named-zero)) ∙ sym zeros
        | inr names ↦
            ap (slot_naming setup.shape (plain_of_parts setup parts)) (named_here i inside ∙ named_true i names)
            ∙ (ap (slot_line names.x) (nodes_are names.x names.on_tree) ∙ sym names.line)
      ]

  pub plain_is : IsPlainOf setup (plain_of_parts setup parts) parts.watch
  plain_is =
      record {
        memory_count = length-map-range_with_len (tree_plain_line setup.formulas parts.watch) 0 (tree_lines setup.shape);
        count_count = length-map-range_with_len (line_counter setup.shape parts.watch.nodes) 0 (tree_lines setup.shape);
        named_count = length-map parts.watch.slots named_by ∙ anchored.of_setup.slot_count;
        memory = λ a inside. get_or-map-range_with_len (tree_plain_line setup.formulas parts.watch) 0 (tree_lines setup.shape) a a zero_line inside (zero-add a);
        counts = counts_are;
        placed = placed;
        slots = slots_are;
      }

-- ---- there is one plain state of a watch

module _ (setup : Setup) (watch : WatchState) (regs : Regs) (shape : IsShape setup.shape) (anchored : IsTreeAnchored setup regs watch) where
  pub true_slots-is : (p : PlainTree) → IsPlainOf setup p watch → true_slots setup.shape p ≡ watch.slots
  true_slots-is p its =
      let count = length-map p.named (slot_naming setup.shape p) in
      lines-equal (true_slots setup.shape p) watch.slots (count ∙ (its.named_count ∙ sym anchored.of_setup.slot_count))
      (λ i low.
      let inside : i < tree_slots setup.shape = omega (arith, low, count, its.named_count) in
      let here : i < length p.named = omega (arith, low, count) in
      get_or-map (slot_naming setup.shape p) p.named i None zero_line here ∙ its.slots i inside)

  pub root-is : (p : PlainTree) → IsPlainOf setup p watch → regs.root ≡ shadow_root setup.shape setup.formulas (true_slots setup.shape p)
  root-is p its = anchored.root ∙ ap (shadow_root setup.shape setup.formulas) (sym (true_slots-is p its))

  pub node-is : (p : PlainTree) → IsPlainOf setup p watch → (x : ℕ) → x < meta_lines setup.shape → true_node setup.shape p x ≡ node_at watch.nodes x
  node-is p its x inside = true_node-is setup p watch x shape anchored.tree its.counts inside

  pub top_inside : 0 < meta_lines setup.shape
  top_inside = omega (arith, meta_lines-level setup.shape, level_start-suc setup.shape.levels)

  pub writes-are : (p : PlainTree) → IsPlainOf setup p watch → writes_made p ≡ total (node_at watch.nodes 0)
  writes-are p its = sym (true_version-top setup.shape p shape its.count_count) ∙ ap total (node-is p its 0 top_inside)

  named-is : (p : PlainTree) → IsPlainOf setup p watch → (i : ℕ) → i < tree_slots setup.shape → named_at p.named i ≡ named_by (line_at watch.slots i)
  named-is p its i inside = go (named_at p.named i) refl
    where
      go : (o : Option ℕ) → named_at p.named i ≡ o → o ≡ named_by (line_at watch.slots i)
      go None is = sym named-zero ∙ ap named_by (ap (slot_naming setup.shape p) (sym is) ∙ its.slots i inside)
      go (Some x) is =
          let at = its.placed i x is in
          sym (named-line setup.shape x (true_node setup.shape p x) shape at.1
          (subst IsNode (sym (node-is p its x at.1)) (tree-IsNode setup.shape watch.nodes x anchored.tree at.1)))
          ∙ ap named_by (ap (slot_naming setup.shape p) (sym is) ∙ its.slots i inside)

  memory-one : (p q : PlainTree) → IsPlainOf setup p watch → IsPlainOf setup q watch → p.memory ≡ q.memory
  memory-one p q its other =
      lines-equal p.memory q.memory (its.memory_count ∙ sym other.memory_count)
      (λ a low. let inside : a < tree_lines setup.shape = omega (arith, low, its.memory_count) in its.memory a inside ∙ sym (other.memory a inside))

  counts-one : (p q : PlainTree) → IsPlainOf setup p watch → IsPlainOf setup q watch → p.counts ≡ q.counts
  counts-one p q its other =
      ext_get_or 0 p.counts q.counts (its.count_count ∙ sym other.count_count)
      (λ a low. let inside : a < tree_lines setup.shape = omega (arith, low, its.count_count) in its.counts a inside ∙ sym (other.counts a inside))

  named-one : (p q : PlainTree) → IsPlainOf setup p watch → IsPlainOf setup q watch → p.named ≡ q.named
  named-one p q its other =
      ext_get_or None p.named q.named (its.named_count ∙ sym other.named_count)
      (λ i low. let inside : i < tree_slots setup.shape = omega (arith, low, its.named_count) in named-is p its i inside ∙ sym (named-is q other i inside))

-- ---- after a call

plain-equal : (p q : PlainTree) → p.memory ≡ q.memory → p.counts ≡ q.counts → p.named ≡ q.named → p.tampered ≡ q.tampered → p.hurt ≡ q.hurt → p.board ≡ q.board → p ≡ q
plain-equal p q memory counts named tampered hurt board = grind arith

-- a watch that knows what it knew makes the same
pub plain-kept : (setup : Setup) (p : TreeParts) (q : TreeParts) → q.watch.seals ≡ p.watch.seals → q.watch.nodes ≡ p.watch.nodes → q.watch.slots ≡ p.watch.slots
    → q.tampered ≡ p.tampered → q.hurt ≡ p.hurt → plain_of_parts setup q ≡ with_board (plain_of_parts setup p) q.board
plain-kept setup p q seals nodes slots tampered hurt = search (rules, plain-equal)

-- an armed write of a line puts it into memory
pub plain-written : (setup : Setup) (p q : TreeParts) (a : ℕ) (line : Line) (seal : LineSeal) (old_regs armed_regs new_regs : Regs) → IsShape setup.shape → AreInRange setup.formulas
    → IsTreeAnchored setup old_regs p.watch → IsTreeAnchored setup new_regs q.watch → IsTreeArmed setup a seal old_regs armed_regs p.watch q.watch → IsLine line
    → seal.cipher ≡ cipher_of setup.formulas a (version_counter seal.counter) line → q.tampered ≡ p.tampered → q.hurt ≡ slice_set p.hurt a false
    → plain_of_parts setup q ≡ with_board (after_tree_write setup.shape (plain_of_parts setup p) a line) q.board
plain-written setup p q a line seal old_regs armed_regs new_regs shape in_range before after armed whole cipher tampered hurt =
    let it = plain_is setup q new_regs shape after in
    let made = IsPlainOf-armed setup a line seal old_regs armed_regs p.watch q.watch (plain_of_parts setup p) shape in_range before armed whole cipher
    (plain_is setup p old_regs shape before) in
    plain-equal (plain_of_parts setup q) (with_board (after_tree_write setup.shape (plain_of_parts setup p) a line) q.board)
    (memory-one setup q.watch new_regs shape after (plain_of_parts setup q) (after_tree_write setup.shape (plain_of_parts setup p) a line) it made)
    (counts-one setup q.watch new_regs shape after (plain_of_parts setup q) (after_tree_write setup.shape (plain_of_parts setup p) a line) it made)
    (named-one setup q.watch new_regs shape after (plain_of_parts setup q) (after_tree_write setup.shape (plain_of_parts setup p) a line) it made)
    tampered hurt refl
