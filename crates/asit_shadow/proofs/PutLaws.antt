-- Lines put at the places of a list of positions.
use Rattle.std.proofs.Common.{ℕ, ◌≡◌, ◌≢◌, ◌<◌, ◌+◌, ◌/◌, List, [], ◌∷◌, length, map, Bool, true, false, refl, sym, ap, subst, inl, inr, ◌∙◌, arith, replicate, lit<, rules}
use Rattle.std.proofs.lemmas.List.Kept.{AllPairs-cons}
use Rattle.asit_shadow.proofs.Common.{◌==◌, ◌||◌, slice_set, All, list_any, AllPairs, cases_Bool, cases_eq, or_parts, or_left, or_right, eqb-false, eqb-true, eq-eqb, ne_eqb, false_from_ne_true, false≢true, length-set, length-map, get_or-map, length-append, length-replicate, take_at, All-nil, All-cons, All-append, All-replicate, Line, IsLine, IsTag, line_at, put_lines, tag_slot, IsGroup, length-put_lines, line_at-set_same, line_at-set_other, put_lines-AreLines, Shape, IsShape, meta_lines, path_of, length-path_of, path_of-level, path_of-on_path, Node, tree_lines, tree_slots, tree_size, line_of_tag, line_of_node, line_of_slot, node_at, is_on_line_path, slot_of, slot_line, IsLineSeal, LineSeal, slot_line-IsLine, line_path, is_path_slot, path_entries, tag_only, HasPathNamed}
use Rattle.asit_shadow.specs.Paths.{slots_with, write_group}
use Rattle.asit_shadow.proofs.SlotPlaces.{slot_of-inside, slot_of-level, page_of_line, on_path-inside, path_slots-apart, any_from, path_slot-of}

abbrev pub entries_at : (ℕ → ℕ) → (ℕ → Line) → List ℕ → List (ℕ × Line)
entries_at place value xs = map (λ x. (place x, value x)) xs

pub none_of : (q : ℕ → Bool) (xs : List ℕ) → ((x : ℕ) → q x ≡ false) → list_any q xs ≡ false
none_of q [] never = refl
none_of q (x ∷ xs) never = ap (λ b. b || list_any q xs) (never x) ∙ none_of q xs never

-- a place that no position has is as it was
pub put_none : (place : ℕ → ℕ) (value : ℕ → Line) (xs : List ℕ) (lines : List Line) (p : ℕ) → list_any (λ x. place x == p) xs ≡ false → line_at (put_lines (entries_at place value xs) lines) p ≡ line_at lines p
put_none place value [] lines p none = refl
put_none place value (x ∷ xs) lines p none =
    let parts = or_parts (place x == p) (list_any (λ x. place x == p) xs) none in
    put_none place value xs (slice_set lines (place x) (value x)) p parts.1
    ∙ line_at-set_other lines (place x) p (value x) (λ e. eqb-false (place x) p parts.0 (sym e))

-- the place of one that no other has holds its line
pub put_one : (place : ℕ → ℕ) (value : ℕ → Line) (xs : List ℕ) (lines : List Line) (y : ℕ) → list_any (λ z. z == y) xs ≡ true → place y < length lines
    → ((x : ℕ) → list_any (λ z. z == x) xs ≡ true → place x ≡ place y → x ≡ y) → line_at (put_lines (entries_at place value xs) lines) (place y) ≡ value y
put_one place value [] lines y here room apart = absurd cc
put_one place value (x ∷ xs) lines y here room apart =
    let next = slice_set lines (place x) (value x) in
    let count = length-set lines (place x) (value x) in
    let more : (z : ℕ) → list_any (λ w. w == z) xs ≡ true → place z ≡ place y → z ≡ y =
    λ z on same. apart z (or_right (x == z) (list_any (λ w. w == z) xs) on) same in
    elim (cases_Bool (list_any (λ z. z == y) xs)) [
      | inl later ↦ put_one place value xs (slice_set lines (place x) (value x)) y later (omega (arith, room, count)) more
      | inr last ↦
          let first : x ≡ y =
          elim (cases_eq x y) [
            | inl same ↦ same
            | inr other ↦ absurd (false≢true (sym (ap (λ b. b || list_any (λ z. z == y) xs) (ne_eqb x y other) ∙ last) ∙ here))
          ] in
          let none : list_any (λ z. place z == place y) xs ≡ false =
          false_from_ne_true (list_any (λ z. place z == place y) xs)
          (λ t.
          let found = any_from (λ z. place z == place y) xs t in
          let same = more found.0 found.1 (eqb-true (place found.0) (place y) found.2) in
          false≢true (sym last ∙ subst (λ w. list_any (λ z. z == w) xs ≡ true) same found.1)) in
          put_none place value xs (slice_set lines (place x) (value x)) (place y) none
          ∙ (ap (λ p. line_at (slice_set lines (place x) (value x)) p) (ap place (sym first))
          ∙ (line_at-set_same lines (place x) (value x) (subst (λ w. place w < length lines) (sym first) room) ∙ ap value first))
    ]

pub entries-AreLines : (place : ℕ → ℕ) (value : ℕ → Line) (xs : List ℕ) → ((x : ℕ) → IsLine (value x)) → All (λ entry. IsLine entry.1) (entries_at place value xs)
entries-AreLines place value [] good = All-nil (λ (entry : ℕ × Line). IsLine entry.1)
entries-AreLines place value (x ∷ xs) good = search (rules, All-cons, (entries-AreLines place value xs good))

entries-on : (place : ℕ → ℕ) (value : ℕ → Line) (xs : List ℕ) (n : ℕ) → ((x : ℕ) → list_any (λ z. z == x) xs ≡ true → place x < n) → All (λ entry. entry.0 < n) (entries_at place value xs)
entries-on place value [] n within = All-nil (λ (entry : ℕ × Line). entry.0 < n)
entries-on place value (x ∷ xs) n within =
    All-cons (λ (entry : ℕ × Line). entry.0 < n) (place x, value x) (entries_at place value xs)
    (within x (or_left (x == x) (list_any (λ z. z == x) xs) (eq-eqb x x refl)))
    (entries-on place value xs n (λ y on. within y (or_right (x == y) (list_any (λ z. z == y) xs) on)))

entries-past : (place : ℕ → ℕ) (value : ℕ → Line) (xs : List ℕ) (p : ℕ) → ((x : ℕ) → p < place x) → All (λ entry. p ≢ entry.0) (entries_at place value xs)
entries-past place value [] p past = All-nil (λ (entry : ℕ × Line). p ≢ entry.0)
entries-past place value (x ∷ xs) p past = search (rules, All-cons, (entries-past place value xs p past))

-- ---- the slot lines with a path named

pub slots_with-HasPathNamed : (g : Shape) (a : ℕ) (nodes : List Node) (slots : List Line) → IsShape g → a < tree_lines g → length slots ≡ tree_slots g → HasPathNamed g a nodes slots (slots_with g a nodes slots)
unfolding slots_with
slots_with-HasPathNamed g a nodes slots shape inside size =
    let value = λ (x : ℕ). slot_line x (node_at nodes x) in
    record {
      count = length-put_lines (path_entries g (λ i. i) a nodes) slots;
      whole =
          λ good.
          put_lines-AreLines (path_entries g (λ i. i) a nodes) slots
          (entries-AreLines (slot_of g) (λ x. slot_line x (node_at nodes x)) (line_path g a) (λ x. slot_line-IsLine x (node_at nodes x))) good;
      on_path =
          λ x on.
          put_one (slot_of g) (λ x. slot_line x (node_at nodes x)) (line_path g a) slots x on
          (omega (arith, size, slot_of-inside g x shape (on_path-inside g a x inside on)))
          (λ y on_y same. path_slots-apart g a y x shape inside on_y on same);
      others = λ i off. put_none (slot_of g) (λ x. slot_line x (node_at nodes x)) (line_path g a) slots i off;
    }

-- ---- a write's group

pub tag_only-IsLine : (tag : List ℕ) → IsTag tag → IsLine (tag_only tag)
tag_only-IsLine tag its =
    record {
      long = length-append tag (replicate 48 0) ∙ omega (arith, its.long, length-replicate {A = ℕ} 48 0);
      bytes = All-append (λ b. b < 256) tag (replicate 48 0) its.bytes (All-replicate (λ b. b < 256) 48 0 (lit< tt));
    }

pub tag_slot-tag_only : (tag : List ℕ) → IsTag tag → tag_slot (tag_only tag) 0 ≡ tag
tag_slot-tag_only tag its = take_at tag (replicate 48 0) 16 its.long

path-AllPairs : (g : Shape) (a : ℕ) (nodes : List Node) → IsShape g → a < tree_lines g → AllPairs (λ e f. e.0 ≢ f.0) (path_entries g (line_of_slot g) a nodes)
path-AllPairs g a nodes shape inside i j d less within =
    let F : ℕ → ℕ × Line = λ x. (line_of_slot g (slot_of g x), slot_line x (node_at nodes x)) in
    let count : length (path_entries g (line_of_slot g) a nodes) ≡ g.levels + 1 = length-map (line_path g a) F ∙ length-path_of g (a / 4) in
    let long = length-path_of g (a / 4) in
    let page = page_of_line g a inside in
    let is_i = get_or-map F (line_path g a) i 0 d (omega (arith, less, within, count, long)) in
    let is_j = get_or-map F (line_path g a) j 0 d (omega (arith, within, count, long)) in
    let on_i = path_of-on_path g (a / 4) i (omega (arith, less, within, count)) in
    let on_j = path_of-on_path g (a / 4) j (omega (arith, within, count)) in
    let level_i = path_of-level g (a / 4) i shape.at_most_six_levels page (omega (arith, less, within, count)) in
    let level_j = path_of-level g (a / 4) j shape.at_most_six_levels page (omega (arith, within, count)) in
    λ e.
    let places = sym (ap (λ (p : ℕ × Line). p.0) is_i) ∙ (e ∙ ap (λ (p : ℕ × Line). p.0) is_j) in
    let slots : slot_of g (Rattle.std.specs.Prelude.slice_index (path_of g (a / 4)) i) ≡ slot_of g (Rattle.std.specs.Prelude.slice_index (path_of g (a / 4)) j) = omega (arith, places) in
    let one = slot_of-level g _ _ shape (on_path-inside g a _ inside on_i) (on_path-inside g a _ inside on_j) slots in
    omega (arith, level_i, level_j, one, less)

pub write_group-IsGroup : (g : Shape) (a : ℕ) (seal : LineSeal) (nodes : List Node) → IsShape g → a < tree_lines g → IsLineSeal seal → IsGroup (tree_size g) (write_group g a seal nodes)
unfolding write_group
write_group-IsGroup g a seal nodes shape inside good =
    let value = λ (x : ℕ). slot_line x (node_at nodes x) in
    let place = λ (x : ℕ). line_of_slot g (slot_of g x) in
    let rest = path_entries g (line_of_slot g) a nodes in
    let apart = λ (e : ℕ × Line) (f : ℕ × Line). e.0 ≢ f.0 in
    let second : ℕ × Line = (line_of_tag g a, tag_only seal.tag) in
    record {
      distinct =
          AllPairs-cons (λ (e : ℕ × Line) (f : ℕ × Line). e.0 ≢ f.0) (a, seal.cipher) (second ∷ rest)
          (All-cons (λ (f : ℕ × Line). a ≢ f.0) second rest (λ e. omega (arith, inside, e))
          (entries-past (λ x. line_of_slot g (slot_of g x)) (λ x. slot_line x (node_at nodes x)) (line_path g a) a (λ x. omega (arith, inside))))
          (AllPairs-cons (λ (e : ℕ × Line) (f : ℕ × Line). e.0 ≢ f.0) second rest
          (entries-past (λ x. line_of_slot g (slot_of g x)) (λ x. slot_line x (node_at nodes x)) (line_path g a) (line_of_tag g a) (λ x. omega (arith, inside)))
          (path-AllPairs g a nodes shape inside));
      on_device =
          All-cons (λ (e : ℕ × Line). e.0 < tree_size g) (a, seal.cipher) (second ∷ rest) (omega (arith, inside))
          (All-cons (λ (e : ℕ × Line). e.0 < tree_size g) second rest (omega (arith, inside))
          (entries-on (λ x. line_of_slot g (slot_of g x)) (λ x. slot_line x (node_at nodes x)) (line_path g a) (tree_size g)
          (λ x on. omega (arith, slot_of-inside g x shape (on_path-inside g a x inside on)))));
      lines_range =
          All-cons (λ (e : ℕ × Line). IsLine e.1) (a, seal.cipher) (second ∷ rest) good.cipher
          (All-cons (λ (e : ℕ × Line). IsLine e.1) second rest (tag_only-IsLine seal.tag good.tag)
          (entries-AreLines (λ x. line_of_slot g (slot_of g x)) (λ x. slot_line x (node_at nodes x)) (line_path g a) (λ x. slot_line-IsLine x (node_at nodes x))));
    }

-- what it makes of a device's lines
pub record IsGroupMade (g : Shape) (a : ℕ) (seal : LineSeal) (nodes : List Node) (old new : List Line) : Type 0 where
  pub count : length new ≡ length old
  pub data_here : line_at new a ≡ seal.cipher
  pub data_else : (b : ℕ) → b < tree_lines g → b ≢ a → line_at new b ≡ line_at old b
  pub tag_here : line_at new (line_of_tag g a) ≡ tag_only seal.tag
  pub tag_else : (b : ℕ) → b < tree_lines g → b ≢ a → line_at new (line_of_tag g b) ≡ line_at old (line_of_tag g b)
  pub node_lines : (x : ℕ) → x < meta_lines g → line_at new (line_of_node g x) ≡ line_at old (line_of_node g x)
  pub slot_here : (x : ℕ) → is_on_line_path g a x ≡ true → line_at new (line_of_slot g (slot_of g x)) ≡ slot_line x (node_at nodes x)
  pub slot_else : (i : ℕ) → is_path_slot g a i ≡ false → line_at new (line_of_slot g i) ≡ line_at old (line_of_slot g i)

pub write_group-made : (g : Shape) (a : ℕ) (seal : LineSeal) (nodes : List Node) (lines : List Line) → IsShape g → a < tree_lines g → length lines ≡ tree_size g → IsGroupMade g a seal nodes lines (put_lines (write_group g a seal nodes) lines)
unfolding write_group
write_group-made g a seal nodes lines shape inside size =
    let place = λ (x : ℕ). line_of_slot g (slot_of g x) in
    let value = λ (x : ℕ). slot_line x (node_at nodes x) in
    let one = slice_set lines a seal.cipher in
    let two = slice_set (slice_set lines a seal.cipher) (line_of_tag g a) (tag_only seal.tag) in
    let n1 = length-set lines a seal.cipher in
    let n2 = length-set (slice_set lines a seal.cipher) (line_of_tag g a) (tag_only seal.tag) in
    let before : (p : ℕ) → p < line_of_slot g 0 → line_at (put_lines (entries_at (λ x. line_of_slot g (slot_of g x)) (λ x. slot_line x (node_at nodes x)) (line_path g a)) (slice_set (slice_set lines a seal.cipher) (line_of_tag g a) (tag_only seal.tag))) p ≡ line_at (slice_set (slice_set lines a seal.cipher) (line_of_tag g a) (tag_only seal.tag)) p =
    λ p low.
    put_none (λ x. line_of_slot g (slot_of g x)) (λ x. slot_line x (node_at nodes x)) (line_path g a) (slice_set (slice_set lines a seal.cipher) (line_of_tag g a) (tag_only seal.tag)) p
    (none_of (λ x. line_of_slot g (slot_of g x) == p) (line_path g a) (λ x. ne_eqb (line_of_slot g (slot_of g x)) p (λ e. omega (arith, low, e)))) in
    let untouched : (p : ℕ) → p ≢ a → p ≢ line_of_tag g a → line_at (slice_set (slice_set lines a seal.cipher) (line_of_tag g a) (tag_only seal.tag)) p ≡ line_at lines p =
    λ p off_a off_tag.
    line_at-set_other (slice_set lines a seal.cipher) (line_of_tag g a) p (tag_only seal.tag) off_tag
    ∙ line_at-set_other lines a p seal.cipher off_a in
    record {
      count = length-put_lines (path_entries g (line_of_slot g) a nodes) (slice_set (slice_set lines a seal.cipher) (line_of_tag g a) (tag_only seal.tag)) ∙ (n2 ∙ n1);
      data_here =
          before a (omega (arith, inside))
          ∙ (line_at-set_other (slice_set lines a seal.cipher) (line_of_tag g a) a (tag_only seal.tag) (λ e. omega (arith, inside, e))
          ∙ line_at-set_same lines a seal.cipher (omega (arith, inside, size)));
      data_else = λ b in_b apart. before b (omega (arith, in_b)) ∙ untouched b apart (λ e. omega (arith, in_b, e));
      tag_here =
          before (line_of_tag g a) (omega (arith, inside))
          ∙ line_at-set_same (slice_set lines a seal.cipher) (line_of_tag g a) (tag_only seal.tag) (omega (arith, inside, size, n1));
      tag_else =
          λ b in_b apart.
          before (line_of_tag g b) (omega (arith, in_b))
          ∙ untouched (line_of_tag g b) (λ e. omega (arith, inside, e)) (λ e. apart (omega (arith, e)));
      node_lines =
          λ x in_x.
          before (line_of_node g x) (omega (arith, in_x))
          ∙ untouched (line_of_node g x) (λ e. omega (arith, inside, e)) (λ e. omega (arith, inside, e));
      slot_here =
          λ x on.
          put_one (λ x. line_of_slot g (slot_of g x)) (λ x. slot_line x (node_at nodes x)) (line_path g a) (slice_set (slice_set lines a seal.cipher) (line_of_tag g a) (tag_only seal.tag)) x on
          (omega (arith, size, n1, n2, slot_of-inside g x shape (on_path-inside g a x inside on)))
          (λ y on_y same. path_slots-apart g a y x shape inside on_y on (omega (arith, same)));
      slot_else =
          λ i off.
          put_none (λ x. line_of_slot g (slot_of g x)) (λ x. slot_line x (node_at nodes x)) (line_path g a) (slice_set (slice_set lines a seal.cipher) (line_of_tag g a) (tag_only seal.tag)) (line_of_slot g i)
          (false_from_ne_true (list_any (λ x. line_of_slot g (slot_of g x) == line_of_slot g i) (line_path g a))
          (λ t.
          let found = any_from (λ x. line_of_slot g (slot_of g x) == line_of_slot g i) (line_path g a) t in
          let places = eqb-true (line_of_slot g (slot_of g found.0)) (line_of_slot g i) found.2 in
          let slot : slot_of g found.0 ≡ i = omega (arith, places) in
          false≢true (sym off ∙ subst (λ n. is_path_slot g a n ≡ true) slot (path_slot-of g a found.0 found.1))))
          ∙ untouched (line_of_slot g i) (λ e. omega (arith, inside, e)) (λ e. omega (arith, inside, e));
    }
