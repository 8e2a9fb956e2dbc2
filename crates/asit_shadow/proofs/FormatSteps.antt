-- The steps of formatting: what is at each place that was set.
use Rattle.std.proofs.Common.{ℕ, zero, suc, ◌≡◌, ◌≢◌, ◌<◌, ◌≤◌, ◌+◌, ◌*◌, List, length, replicate, Some, None, refl, sym, ap, subst, inl, inr, ◌∙◌, arith, rules}
use Rattle.asit_shadow.proofs.Common.{Option, slice_set, slice_index_or, is_some, option_map, IfSome, cases_eq, same_Some, none-some, ext_get_or, length-set, length-replicate, get_or-replicate, get_or-set_same, get_or-set_other, Line, meta_lines, line_at, Shape, Formulas, Setup, AreLinesOf, AreToldLines, with_line, Node, LineSeal, tree_lines, tree_slots, tree_size, line_of_tag, line_of_node, line_of_slot, node_line, zero_node, WatchState, HasSealNoted, HasNodeNoted, HasSlotNoted, tag_only, IsSealMade, first_tree_seal, first_slots, set_first, tree_sealed_lines, node_lines_written, slot_lines_written, AreSealsTold, AreNodesTold, AreSlotsTold, AreLinesFormatted, IsFormatTold}
use Rattle.pmem_base.specs.Lines.{zero_line}

-- ---- places set in order

pub length-set_first : {X : Type 0} (place : ℕ → ℕ) (value : ℕ → X) (n : ℕ) (list : List X) → length (set_first place value n list) ≡ length list
length-set_first place value zero list = refl
length-set_first place value (suc n) list =
    length-set (set_first place value n list) (place n) (value n) ∙ length-set_first place value n list

set_first-other : {X : Type 0} (place : ℕ → ℕ) (value : ℕ → X) (n : ℕ) (list : List X) (p : ℕ) (d : X) → ((k : ℕ) → k < n → place k ≢ p) → slice_index_or (set_first place value n list) p d ≡ slice_index_or list p d
set_first-other place value zero list p d apart = refl
set_first-other place value (suc n) list p d apart =
    get_or-set_other (set_first place value n list) (place n) p (value n) d (λ same. apart n (omega arith) (sym same))
    ∙ set_first-other place value n list p d (λ k low. apart k (omega (arith, low)))

-- each place that no other of the family has holds its value
set_first-at : {X : Type 0} (place : ℕ → ℕ) (value : ℕ → X) (n : ℕ) (list : List X) (k : ℕ) (d : X) → k < n → ((i : ℕ) → i < n → place i < length list) → ((i j : ℕ) → place i ≡ place j → i ≡ j) → slice_index_or (set_first place value n list) (place k) d ≡ value k
set_first-at place value zero list k d low room apart = absurd (omega (arith, low))
set_first-at place value (suc n) list k d low room apart =
    elim (cases_eq k n) [
      | inl same ↦
          subst (λ m. slice_index_or (slice_set (set_first place value n list) (place n) (value n)) (place m) d ≡ value m) (sym same)
          (get_or-set_same (set_first place value n list) (place n) (value n) d (omega (arith, room n (omega arith), length-set_first place value n list)))
      | inr other ↦
          get_or-set_other (set_first place value n list) (place n) (place k) (value n) d (λ same. other (apart k n same))
          ∙ set_first-at place value n list k d (omega (arith, low, other)) (λ i less. room i (omega (arith, less))) apart
    ]

-- a whole list set
set_first-all : {X : Type 0} (value : ℕ → X) (list whole : List X) (d : X) → length list ≡ length whole → ((i : ℕ) → i < length whole → value i ≡ slice_index_or whole i d) → set_first (λ i. i) value (length whole) list ≡ whole
set_first-all value list whole d same each =
    ext_get_or d (set_first (λ i. i) value (length whole) list) whole (length-set_first (λ i. i) value (length whole) list ∙ same)
    (λ i inside.
    let low : i < length whole = omega (arith, inside, length-set_first (λ i. i) value (length whole) list, same) in
    set_first-at (λ i. i) value (length whole) list i d low (λ k less. omega (arith, less, same)) (λ i j e. e) ∙ each i low)

-- ---- the device's lines

length-sealed_lines : (setup : Setup) (n : ℕ) (lines : List Line) → length (tree_sealed_lines setup n lines) ≡ length lines
length-sealed_lines setup zero lines = refl
length-sealed_lines setup (suc n) lines =
    length-set (slice_set (tree_sealed_lines setup n lines) n (first_tree_seal setup.formulas n).cipher) (line_of_tag setup.shape n) (tag_only (first_tree_seal setup.formulas n).tag)
    ∙ (length-set (tree_sealed_lines setup n lines) n (first_tree_seal setup.formulas n).cipher ∙ length-sealed_lines setup n lines)

-- the cipher of a line, and its tag line
pub record IsFirstStored (setup : Setup) (a : ℕ) (lines : List Line) : Type 0 where
  pub cipher : line_at lines a ≡ (first_tree_seal setup.formulas a).cipher
  pub tags : line_at lines (line_of_tag setup.shape a) ≡ tag_only (first_tree_seal setup.formulas a).tag

sealed_lines-at : (setup : Setup) (n : ℕ) (lines : List Line) (a : ℕ) → a < n → n ≤ tree_lines setup.shape → tree_lines setup.shape + tree_lines setup.shape ≤ length lines → IsFirstStored setup a (tree_sealed_lines setup n lines)
sealed_lines-at setup zero lines a low most room = absurd (omega (arith, low))
sealed_lines-at setup (suc n) lines a low most room =
    let long = length-sealed_lines setup n lines in
    let longer = length-set (tree_sealed_lines setup n lines) n (first_tree_seal setup.formulas n).cipher in
    elim (cases_eq a n) [
      | inl same ↦
          subst (λ m. IsFirstStored setup m (tree_sealed_lines setup (suc n) lines)) (sym same)
          (record {
            cipher =
                get_or-set_other (slice_set (tree_sealed_lines setup n lines) n (first_tree_seal setup.formulas n).cipher) (line_of_tag setup.shape n) n (tag_only (first_tree_seal setup.formulas n).tag) zero_line (λ e. omega (arith, e, most))
                ∙ get_or-set_same (tree_sealed_lines setup n lines) n (first_tree_seal setup.formulas n).cipher zero_line (omega (arith, most, room, long));
            tags =
                get_or-set_same (slice_set (tree_sealed_lines setup n lines) n (first_tree_seal setup.formulas n).cipher) (line_of_tag setup.shape n) (tag_only (first_tree_seal setup.formulas n).tag) zero_line (omega (arith, most, room, long, longer));
          })
      | inr other ↦
          let was = sealed_lines-at setup n lines a (omega (arith, low, other)) (omega (arith, most)) room in
          record {
            cipher =
                get_or-set_other (slice_set (tree_sealed_lines setup n lines) n (first_tree_seal setup.formulas n).cipher) (line_of_tag setup.shape n) a (tag_only (first_tree_seal setup.formulas n).tag) zero_line (λ e. omega (arith, e, low, most))
                ∙ (get_or-set_other (tree_sealed_lines setup n lines) n a (first_tree_seal setup.formulas n).cipher zero_line other ∙ was.cipher);
            tags =
                get_or-set_other (slice_set (tree_sealed_lines setup n lines) n (first_tree_seal setup.formulas n).cipher) (line_of_tag setup.shape n) (line_of_tag setup.shape a) (tag_only (first_tree_seal setup.formulas n).tag) zero_line (λ e. other (omega (arith, e)))
                ∙ (get_or-set_other (tree_sealed_lines setup n lines) n (line_of_tag setup.shape a) (first_tree_seal setup.formulas n).cipher zero_line (λ e. omega (arith, e, most)) ∙ was.tags);
          }
    ]

-- all lines written, the slot lines last
unfoldable pub lines_formatted : Setup → List Line → List Line
lines_formatted setup lines =
    slot_lines_written setup.shape (first_slots setup.shape) (tree_slots setup.shape)
    (node_lines_written setup (meta_lines setup.shape) (tree_sealed_lines setup (tree_lines setup.shape) lines))

formatted-at : (setup : Setup) (lines : List Line) → length lines ≡ tree_size setup.shape → AreLinesOf (tree_size setup.shape) (lines_formatted setup lines) → AreLinesFormatted setup (lines_formatted setup lines)
unfolding lines_formatted
formatted-at setup lines count whole =
    let first : length (tree_sealed_lines setup (tree_lines setup.shape) lines) ≡ tree_size setup.shape = length-sealed_lines setup (tree_lines setup.shape) lines ∙ count in
    let second : length (node_lines_written setup (meta_lines setup.shape) (tree_sealed_lines setup (tree_lines setup.shape) lines)) ≡ tree_size setup.shape =
    length-set_first (line_of_node setup.shape) (λ x. node_line setup.formulas x zero_node) (meta_lines setup.shape) (tree_sealed_lines setup (tree_lines setup.shape) lines) ∙ first in
    -- what stands below the nodes
    let below : (d : ℕ) → d < 2 * tree_lines setup.shape → line_at (lines_formatted setup lines) d ≡ line_at (tree_sealed_lines setup (tree_lines setup.shape) lines) d =
    λ d low.
    set_first-other (line_of_slot setup.shape) (line_at (first_slots setup.shape)) (tree_slots setup.shape) (node_lines_written setup (meta_lines setup.shape) (tree_sealed_lines setup (tree_lines setup.shape) lines)) d zero_line (λ k less e. omega (arith, e, low))
    ∙ set_first-other (line_of_node setup.shape) (λ x. node_line setup.formulas x zero_node) (meta_lines setup.shape) (tree_sealed_lines setup (tree_lines setup.shape) lines) d zero_line (λ k less e. omega (arith, e, low)) in
    let stored : (a : ℕ) → a < tree_lines setup.shape → IsFirstStored setup a (tree_sealed_lines setup (tree_lines setup.shape) lines) =
    λ a inside. sealed_lines-at setup (tree_lines setup.shape) lines a inside (omega arith) (omega (arith, count)) in
    record {
      device_whole = whole;
      data_lines = λ a inside. below a (omega (arith, inside)) ∙ (stored a inside).cipher;
      tag_lines = λ a inside. below (line_of_tag setup.shape a) (omega (arith, inside)) ∙ (stored a inside).tags;
      node_lines =
          λ x inside.
          set_first-other (line_of_slot setup.shape) (line_at (first_slots setup.shape)) (tree_slots setup.shape) (node_lines_written setup (meta_lines setup.shape) (tree_sealed_lines setup (tree_lines setup.shape) lines)) (line_of_node setup.shape x) zero_line (λ k less e. omega (arith, e, inside))
          ∙ set_first-at (line_of_node setup.shape) (λ y. node_line setup.formulas y zero_node) (meta_lines setup.shape) (tree_sealed_lines setup (tree_lines setup.shape) lines) x zero_line inside (λ i less. omega (arith, less, first)) (λ i j e. omega (arith, e));
      slot_lines =
          λ i inside.
          set_first-at (line_of_slot setup.shape) (line_at (first_slots setup.shape)) (tree_slots setup.shape) (node_lines_written setup (meta_lines setup.shape) (tree_sealed_lines setup (tree_lines setup.shape) lines)) i zero_line inside (λ k less. omega (arith, less, second)) (λ k j e. omega (arith, e));
    }

-- where the lines are told
pub formatted-told : (setup : Setup) (old new : Option (List Line)) → AreToldLines (tree_size setup.shape) old → AreToldLines (tree_size setup.shape) new → new ≡ option_map (lines_formatted setup) old → IfSome new (AreLinesFormatted setup)
formatted-told setup None None before after e = tt
formatted-told setup None (Some lines) before after e = absurd (none-some lines (sym e))
formatted-told setup (Some old) None before after e = absurd (none-some (lines_formatted setup old) e)
formatted-told setup (Some old) (Some lines) before after e = search (rules, same_Some, formatted-at)

pub told-mapped : (F : List Line → List Line) (old new : Option (List Line)) → new ≡ option_map F old → is_some new ≡ is_some old
told-mapped F None new e = ap is_some e
told-mapped F (Some old) new e = ap is_some e

-- one set after another
pub mapped-then : (F G H : List Line → List Line) (old mid new : Option (List Line)) → mid ≡ option_map F old → new ≡ option_map G mid → ((lines : List Line) → G (F lines) ≡ H lines) → new ≡ option_map H old
mapped-then F G H None mid new first second each = second ∙ ap (option_map G) first
mapped-then F G H (Some old) mid new first second each = second ∙ (ap (option_map G) first ∙ ap Some (each old))

pub mapped-line : (told : Option (List Line)) (at : ℕ) (line : Line) → with_line told at line ≡ option_map (λ lines. slice_set lines at line) told
mapped-line None at line = refl
mapped-line (Some lines) at line = refl

one-more : (n : ℕ) → suc n ≡ n + 1
one-more n = omega arith

-- a line more, of a family
pub written-more : (place : ℕ → ℕ) (value : ℕ → Line) (n : ℕ) (old mid new : Option (List Line)) → mid ≡ option_map (set_first place value n) old → new ≡ with_line mid (place n) (value n) → new ≡ option_map (set_first place value (n + 1)) old
written-more place value n old mid new first second = search (rules, one-more, mapped-then, mapped-line)

-- a sealed line more
pub sealed-more : (setup : Setup) (n : ℕ) (old mid new : Option (List Line)) → mid ≡ option_map (tree_sealed_lines setup n) old → new ≡ with_line (with_line mid n (first_tree_seal setup.formulas n).cipher) (line_of_tag setup.shape n) (tag_only (first_tree_seal setup.formulas n).tag) → new ≡ option_map (tree_sealed_lines setup (n + 1)) old
sealed-more setup n old mid new first second = search (rules, one-more)

-- ---- what the watch is told

-- zeros sealed under counter 0
pub first-made : (f : Formulas) (a : ℕ) (seal : LineSeal) → IsSealMade f a 0 zero_line seal → seal ≡ first_tree_seal f a
first-made f a seal it = search rules

pub seals-more : (f : Formulas) (n : ℕ) (old mid new : WatchState) → AreSealsTold f n old mid → HasSealNoted mid new n (first_tree_seal f n) → AreSealsTold f (n + 1) old new
seals-more f n old mid new before it = search (rules, one-more)

pub nodes-more : (n : ℕ) (old mid new : WatchState) → AreNodesTold n old mid → HasNodeNoted mid new n zero_node → AreNodesTold (n + 1) old new
nodes-more n old mid new before it = search (rules, one-more)

pub slots-told_more : (slots : List Line) (n : ℕ) (line : Line) (old mid new : WatchState) → line ≡ line_at slots n → AreSlotsTold slots n old mid → HasSlotNoted mid new n line → AreSlotsTold slots (n + 1) old new
slots-told_more slots n line old mid new is before it = search (rules, one-more)

pub first_slots-count : (g : Shape) → length (first_slots g) ≡ tree_slots g
first_slots-count g = search (rules, length-set, length-replicate)

-- in three turns
pub told-all : (setup : Setup) (old one two new : WatchState) → length old.seals ≡ tree_lines setup.shape → length old.nodes ≡ meta_lines setup.shape → length old.slots ≡ tree_slots setup.shape → AreSealsTold setup.formulas (tree_lines setup.shape) old one → AreNodesTold (meta_lines setup.shape) one two
    → AreSlotsTold (first_slots setup.shape) (tree_slots setup.shape) two new → IsFormatTold setup old new
told-all setup old one two new seal_count node_count slot_count seals nodes slots =
    let seals_are : new.seals ≡ set_first (λ a. a) (λ a. Some (first_tree_seal setup.formulas a)) (tree_lines setup.shape) old.seals = slots.seals ∙ (nodes.seals ∙ seals.seals) in
    let node_size : length (replicate (meta_lines setup.shape) zero_node) ≡ meta_lines setup.shape = length-replicate {A = Node} (meta_lines setup.shape) zero_node in
    let slot_size = first_slots-count setup.shape in
    record {
      its_setup = slots.setup ∙ (nodes.setup ∙ seals.setup);
      seal_count = ap length seals_are ∙ length-set_first (λ a. a) (λ a. Some (first_tree_seal setup.formulas a)) (tree_lines setup.shape) old.seals;
      seals =
          λ a inside.
          ap (λ (s : List (Option LineSeal)). slice_index_or s a None) seals_are
          ∙ set_first-at (λ b. b) (λ b. Some (first_tree_seal setup.formulas b)) (tree_lines setup.shape) old.seals a None inside (λ i less. omega (arith, less, seal_count)) (λ i j e. e);
      nodes =
          slots.nodes
          ∙ (nodes.nodes
          ∙ subst (λ n. set_first (λ x. x) (λ x. zero_node) n one.nodes ≡ replicate (meta_lines setup.shape) zero_node) node_size
          (set_first-all (λ x. zero_node) one.nodes (replicate (meta_lines setup.shape) zero_node) zero_node (ap length seals.nodes ∙ (node_count ∙ sym node_size)) (λ i inside. sym (get_or-replicate (meta_lines setup.shape) i zero_node zero_node (omega (arith, inside, node_size))))));
      slots =
          slots.slots
          ∙ subst (λ n. set_first (λ i. i) (line_at (first_slots setup.shape)) n two.slots ≡ first_slots setup.shape) slot_size
          (set_first-all (line_at (first_slots setup.shape)) two.slots (first_slots setup.shape) zero_line (ap length nodes.slots ∙ (ap length seals.slots ∙ (slot_count ∙ sym slot_size))) (λ i inside. refl));
      exhibit = slots.exhibit ∙ (nodes.exhibit ∙ seals.exhibit);
    }
