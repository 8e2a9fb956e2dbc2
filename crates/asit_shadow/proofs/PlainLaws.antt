-- The plain machine's truth is the watch's: its nodes are the sums of the writes made below them, and a
-- write changes both alike.
use Rattle.std.proofs.Common.{ℕ, zero, suc, ◌≡◌, ◌<◌, ◌≤◌, ◌+◌, ◌-◌, List, [], ◌∷◌, length, true, false, Some, None, refl, sym, ap, subst, inl, inr, ◌∙◌, arith, rules}
use Rattle.asit_shadow.proofs.Common.{Option, slice_set, ◌==◌, ◌||◌, list_any, cases_Bool, cases_eq, or_parts, or_right, eqb-false, eqb-true, ne_eqb, false_from_ne_true, false≢true, length-set, get_or-set_same, get_or-set_other, same_Some, Line, Regs, IsLine, line_at, Shape, IsShape, meta_lines, level_start, AreInRange, cipher_of, Setup, child_position, IsAtLevel, parent-child, child-IsAtLevel, IsAtLevel-inner, level_start-suc, meta_lines-level, level_of-IsAtLevel, level_of-le, child_slot-child, Node, counter, version_counter, tree_lines, node_at, entry_for, line_counter, is_on_line_path, IsCounterTree, IsRaised, slot_of, slot_line, WatchState, LineSeal, its_counters, lines-are_children, IsTreeAnchored, line_path, is_path_slot, PlainTree, writes_below, node_above_lines, true_count, slot_naming, names_with, named_at, after_tree_write, IsPlainOf, IsTreeArmed, tree_plain_line}
use Rattle.pmem_base.specs.Lines.{zero_line}
use Rattle.bonsai_tree.specs.Positions.{level_of}
use Rattle.asit_shadow.specs.Plain.{true_node}
use Rattle.asit_shadow.proofs.ArmLaws.{armed-IsRaised}
use Rattle.asit_shadow.proofs.ReadLaws.{armed-plain}
use Rattle.asit_shadow.proofs.SlotPlaces.{slot_of-inside, on_path-inside, path_slots-apart, any_from, path_slot-of, path_slot-from}

-- ---- true nodes

-- the counts are the counters of the data lines
abbrev AreCounts : Shape → List ℕ → List Node → Type 0
AreCounts g counts nodes = (a : ℕ) → a < tree_lines g → Rattle.std.specs.Prelude.slice_index counts a ≡ line_counter g nodes a

entry_for-child : (nodes : List Node) (x i : ℕ) → i < 4 → entry_for nodes (child_position x i) ≡ counter (node_at nodes x) i
entry_for-child nodes x i small = search (rules, parent-child, child_slot-child)

-- the writes made below a position are its parent's counter for it
writes_below-is : (g : Shape) (counts : List ℕ) (nodes : List Node) (j d y : ℕ) → 1 ≤ g.levels → IsCounterTree g nodes → AreCounts g counts nodes → 1 ≤ d → d + j ≡ suc g.levels → IsAtLevel d y → writes_below g counts j y ≡ entry_for nodes y
writes_below-is g counts nodes zero d y some tree same low sum at =
    let last : d ≡ suc g.levels = omega (arith, sum) in
    let at_last = subst (λ n. IsAtLevel n y) last at in
    let size = meta_lines-level g in
    let back : meta_lines g + (y - meta_lines g) ≡ y = omega (arith, at_last.from, size) in
    same (y - meta_lines g) (omega (arith, at_last.below, at_last.from, lines-are_children g some, size))
    ∙ ap (entry_for nodes) back
writes_below-is g counts nodes (suc j) d y some tree same low sum at =
    let inside : y < meta_lines g = omega (arith, IsAtLevel-inner (suc g.levels) d y (omega (arith, sum)) at, meta_lines-level g) in
    let start = level_start-suc (d - 1) in
    let is : suc (d - 1) ≡ d = omega (arith, low) in
    let positive : 1 ≤ y = omega (arith, at.from, ap level_start is, start) in
    let child = λ (i : ℕ) (small : i < 4).
    writes_below-is g counts nodes j (suc d) (child_position y i) some tree same (omega arith) (omega (arith, sum)) (child-IsAtLevel d y i at small) in
    let zeroth = child 0 (omega arith) ∙ entry_for-child nodes y 0 (omega arith) in
    let first = child 1 (omega arith) ∙ entry_for-child nodes y 1 (omega arith) in
    let second = child 2 (omega arith) ∙ entry_for-child nodes y 2 (omega arith) in
    let third = child 3 (omega arith) ∙ entry_for-child nodes y 3 (omega arith) in
    omega (arith, zeroth, first, second, third, tree.versions y positive inside)

node_above-is : (g : Shape) (counts : List ℕ) (nodes : List Node) (j d x : ℕ) → 1 ≤ g.levels → IsCounterTree g nodes → AreCounts g counts nodes → d + j ≡ g.levels → IsAtLevel d x → x < meta_lines g → node_above_lines g counts j x ≡ node_at nodes x
node_above-is g counts nodes j d x some tree same sum at inside =
    let child = λ (i : ℕ) (small : i < 4).
    writes_below-is g counts nodes j (suc d) (child_position x i) some tree same (omega arith) (omega (arith, sum)) (child-IsAtLevel d x i at small)
    ∙ entry_for-child nodes x i small in
    let zeroth = child 0 (omega arith) in
    let first = child 1 (omega arith) in
    let second = child 2 (omega arith) in
    let third = child 3 (omega arith) in
    let numbers : writes_below g counts j (child_position x 0) ∷ writes_below g counts j (child_position x 1) ∷ writes_below g counts j (child_position x 2) ∷ writes_below g counts j (child_position x 3) ∷ []
    ≡ counter (node_at nodes x) 0 ∷ counter (node_at nodes x) 1 ∷ counter (node_at nodes x) 2 ∷ counter (node_at nodes x) 3 ∷ [] = cc (zeroth, first, second, third) in
    ap (λ (ns : List ℕ). let n : Node = record { 0 = ns } in n) numbers
    ∙ sym (its_counters (node_at nodes x) (tree.four x inside))

-- the law: the plain machine's true nodes are the watch's
pub true_node-is : (setup : Setup) (plain : PlainTree) (watch : WatchState) (x : ℕ) → IsShape setup.shape → IsCounterTree setup.shape watch.nodes → ((a : ℕ) → a < tree_lines setup.shape → true_count plain a ≡ line_counter setup.shape watch.nodes a) → x < meta_lines setup.shape → true_node setup.shape plain x ≡ node_at watch.nodes x
unfolding true_node
true_node-is setup plain watch x shape tree counts inside =
    let g = setup.shape in
    let level = level_of-le setup.shape x shape.at_most_six_levels inside in
    node_above-is setup.shape plain.counts watch.nodes (setup.shape.levels - level_of x) (level_of x) x shape.at_least_one_level tree counts
    (omega (arith, level)) (level_of-IsAtLevel setup.shape x shape.at_most_six_levels inside) inside

-- ---- named nodes

names_none : (g : Shape) (xs : List ℕ) (named : List (Option ℕ)) (i : ℕ) → list_any (λ x. slot_of g x == i) xs ≡ false → named_at (names_with g xs named) i ≡ named_at named i
names_none g [] named i none = refl
names_none g (x ∷ xs) named i none =
    let parts = or_parts (slot_of g x == i) (list_any (λ x. slot_of g x == i) xs) none in
    names_none g xs (slice_set named (slot_of g x) (Some x)) i parts.1
    ∙ get_or-set_other named (slot_of g x) i (Some x) None (λ e. eqb-false (slot_of g x) i parts.0 (sym e))

names_one : (g : Shape) (xs : List ℕ) (named : List (Option ℕ)) (y : ℕ) → list_any (λ z. z == y) xs ≡ true → slot_of g y < length named → ((x : ℕ) → list_any (λ z. z == x) xs ≡ true → slot_of g x ≡ slot_of g y → x ≡ y) → named_at (names_with g xs named) (slot_of g y) ≡ Some y
names_one g [] named y here room apart = absurd cc
names_one g (x ∷ xs) named y here room apart =
    let count = length-set named (slot_of g x) (Some x) in
    let more : (z : ℕ) → list_any (λ w. w == z) xs ≡ true → slot_of g z ≡ slot_of g y → z ≡ y =
    λ z on same. apart z (or_right (x == z) (list_any (λ w. w == z) xs) on) same in
    elim (cases_Bool (list_any (λ z. z == y) xs)) [
      | inl later ↦ names_one g xs (slice_set named (slot_of g x) (Some x)) y later (omega (arith, room, count)) more
      | inr last ↦
          let first : x ≡ y =
          elim (cases_eq x y) [
            | inl same ↦ same
            | inr other ↦ absurd (false≢true (sym (ap (λ b. b || list_any (λ z. z == y) xs) (ne_eqb x y other) ∙ last) ∙ here))
          ] in
          let none : list_any (λ z. slot_of g z == slot_of g y) xs ≡ false =
          false_from_ne_true (list_any (λ z. slot_of g z == slot_of g y) xs)
          (λ t.
          let found = any_from (λ z. slot_of g z == slot_of g y) xs t in
          let same = more found.0 found.1 (eqb-true (slot_of g found.0) (slot_of g y) found.2) in
          false≢true (sym last ∙ subst (λ w. list_any (λ z. z == w) xs ≡ true) same found.1)) in
          names_none g xs (slice_set named (slot_of g x) (Some x)) (slot_of g y) none
          ∙ (ap (λ p. named_at (slice_set named (slot_of g x) (Some x)) p) (ap (slot_of g) (sym first))
          ∙ (get_or-set_same named (slot_of g x) (Some x) None (subst (λ w. slot_of g w < length named) (sym first) room) ∙ ap Some first))
    ]

length-names_with : (g : Shape) (xs : List ℕ) (named : List (Option ℕ)) → length (names_with g xs named) ≡ length named
length-names_with g [] named = refl
length-names_with g (x ∷ xs) named = length-names_with g xs (slice_set named (slot_of g x) (Some x)) ∙ length-set named (slot_of g x) (Some x)

-- ---- a write

-- the law: a write that is armed is one of the plain machine
pub IsPlainOf-armed : (setup : Setup) (a : ℕ) (line : Line) (seal : LineSeal) (old_regs new_regs : Regs) (old new : WatchState) (plain : PlainTree) → IsShape setup.shape → AreInRange setup.formulas → IsTreeAnchored setup old_regs old → IsTreeArmed setup a seal old_regs new_regs old new → IsLine line → seal.cipher ≡ cipher_of setup.formulas a (version_counter seal.counter) line → IsPlainOf setup plain old → IsPlainOf setup (after_tree_write setup.shape plain a line) new
IsPlainOf-armed setup a line seal old_regs new_regs old new plain shape in_range anchored armed good cipher its =
    let g = setup.shape in
    let after = after_tree_write setup.shape plain a line in
    let raised : IsRaised setup.shape a old.nodes new.nodes = armed-IsRaised setup a seal old_regs new_regs old new shape anchored armed in
    let memory = armed-plain setup a line seal old_regs new_regs old new in_range anchored armed good cipher in
    let inside = armed.its_line in
    let named = armed.slots in
    let counts : (b : ℕ) → b < tree_lines setup.shape → true_count (after_tree_write setup.shape plain a line) b ≡ line_counter setup.shape new.nodes b =
    λ b in_b.
    elim (cases_eq b a) [
      | inl same ↦
          ap (true_count (after_tree_write setup.shape plain a line)) same
          ∙ (get_or-set_same plain.counts a (true_count plain a + 1) 0 (omega (arith, inside, its.count_count))
          ∙ (ap (λ n. n + 1) (its.counts a inside) ∙ (sym raised.own ∙ ap (line_counter setup.shape new.nodes) (sym same))))
      | inr other ↦
          get_or-set_other plain.counts a b (true_count plain a + 1) 0 other
          ∙ (its.counts b in_b ∙ sym (raised.others b in_b other))
    ] in
    let own : (x : ℕ) → is_on_line_path setup.shape a x ≡ true → named_at (names_with setup.shape (line_path setup.shape a) plain.named) (slot_of setup.shape x) ≡ Some x =
    λ x on.
    names_one setup.shape (line_path setup.shape a) plain.named x on (omega (arith, its.named_count, slot_of-inside setup.shape x shape (on_path-inside setup.shape a x inside on)))
    (λ y on_y same. path_slots-apart setup.shape a y x shape inside on_y on same) in
    let truth : (x : ℕ) → x < meta_lines setup.shape → true_node setup.shape (after_tree_write setup.shape plain a line) x ≡ node_at new.nodes x =
    λ x in_x. true_node-is setup (after_tree_write setup.shape plain a line) new x shape raised.tree counts in_x in
    let before : (x : ℕ) → x < meta_lines setup.shape → true_node setup.shape plain x ≡ node_at old.nodes x =
    λ x in_x. true_node-is setup plain old x shape anchored.tree its.counts in_x in
    let placed : (i x : ℕ) → named_at (names_with setup.shape (line_path setup.shape a) plain.named) i ≡ Some x → (slot_of setup.shape x ≡ i) × (x < meta_lines setup.shape) =
    λ i x here.
    elim (cases_Bool (is_path_slot setup.shape a i)) [
      | inl on ↦
          let found = path_slot-from setup.shape a i on in
          let one : found.0 ≡ x = same_Some found.0 x (sym (own found.0 found.1) ∙ (ap (named_at (names_with setup.shape (line_path setup.shape a) plain.named)) found.2 ∙ here)) in
          (ap (slot_of setup.shape) (sym one) ∙ found.2, subst (λ z. z < meta_lines setup.shape) one (on_path-inside setup.shape a found.0 inside found.1))
      | inr off ↦ its.placed i x (sym (names_none setup.shape (line_path setup.shape a) plain.named i off) ∙ here)
    ] in
    record {
      memory_count = length-set plain.memory a line ∙ its.memory_count;
      count_count = length-set plain.counts a (true_count plain a + 1) ∙ its.count_count;
      named_count = length-names_with setup.shape (line_path setup.shape a) plain.named ∙ its.named_count;
      memory =
          λ b in_b.
          elim (cases_eq b a) [
            | inl same ↦
                ap (line_at (slice_set plain.memory a line)) same
                ∙ (get_or-set_same plain.memory a line zero_line (omega (arith, inside, its.memory_count))
                ∙ (sym memory.0 ∙ ap (tree_plain_line setup.formulas new) (sym same)))
            | inr other ↦
                get_or-set_other plain.memory a b line zero_line other
                ∙ (its.memory b in_b ∙ sym (memory.1 b other))
          ];
      counts = counts;
      placed = placed;
      slots =
          λ i in_i.
          elim (cases_Bool (is_path_slot setup.shape a i)) [
            | inl on ↦
                let found = path_slot-from setup.shape a i on in
                ap (slot_naming setup.shape (after_tree_write setup.shape plain a line)) (ap (named_at (names_with setup.shape (line_path setup.shape a) plain.named)) (sym found.2) ∙ own found.0 found.1)
                ∙ (ap (slot_line found.0) (truth found.0 (on_path-inside setup.shape a found.0 inside found.1))
                ∙ (sym (named.on_path found.0 found.1) ∙ ap (line_at new.slots) found.2))
            | inr off ↦
                let same = names_none setup.shape (line_path setup.shape a) plain.named i off in
                ap (slot_naming setup.shape (after_tree_write setup.shape plain a line)) same
                ∙ (elsewhere setup a line plain old new i shape off its.placed raised truth before ∙ (its.slots i in_i ∙ sym (named.others i off)))
          ];
    }
  where
    elsewhere : (setup : Setup) (a : ℕ) (line : Line) (plain : PlainTree) (old new : WatchState) (i : ℕ) → IsShape setup.shape → is_path_slot setup.shape a i ≡ false
        → ((i x : ℕ) → named_at plain.named i ≡ Some x → (slot_of setup.shape x ≡ i) × (x < meta_lines setup.shape)) → IsRaised setup.shape a old.nodes new.nodes
        → ((x : ℕ) → x < meta_lines setup.shape → true_node setup.shape (after_tree_write setup.shape plain a line) x ≡ node_at new.nodes x)
        → ((x : ℕ) → x < meta_lines setup.shape → true_node setup.shape plain x ≡ node_at old.nodes x)
        → slot_naming setup.shape (after_tree_write setup.shape plain a line) (named_at plain.named i) ≡ slot_naming setup.shape plain (named_at plain.named i)
    elsewhere setup a line plain old new i shape off placed raised truth before = go (named_at plain.named i) refl
      where
        go : (o : Option ℕ) → named_at plain.named i ≡ o → slot_naming setup.shape (after_tree_write setup.shape plain a line) o ≡ slot_naming setup.shape plain o
        go None is = refl
        go (Some x) is =
            let at = placed i x is in
            let off_path : is_on_line_path setup.shape a x ≡ false =
            false_from_ne_true (is_on_line_path setup.shape a x)
            (λ t. false≢true (sym off ∙ subst (λ n. is_path_slot setup.shape a n ≡ true) at.0 (path_slot-of setup.shape a x t))) in
            ap (slot_line x) (truth x at.1 ∙ (raised.off_path x off_path ∙ sym (before x at.1)))
