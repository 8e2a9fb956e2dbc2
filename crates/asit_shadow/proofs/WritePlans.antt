-- The plan of a write: what is raised, named and armed, level by level, and its ends.
use Rattle.std.proofs.Common.{ℕ, suc, ◌≡◌, ◌<◌, ◌+◌, ◌-◌, ◌^◌, ◌%◌, ◌++◌, ◌∷◌, [], true, false, List, Result, Ok, Err, length, take, get_or, refl, sym, ap, subst, ◌∙◌, arith, rules}
use Rattle.asit_shadow.proofs.Common.{Option, ◌==◌, ◌≤◌, slice_set, All, length-set, take_more, Cut, Line, Regs, put_lines, meta_lines, Shape, IsShape, Device, HasLatched, WasCut, Formulas, AreInRange, Setup, Follows, is_stopped, bind_ok, bind_err, mapped_follows, HasFinished, finish_plan, Node, LineSeal, counter, total, tree_slots, ChipTree, IsShadowTree, shadow_height, root_of, tree_with, tree_root_with, shadow_height-room, slot_line-IsLine, slot_of, slot_line, WatchState, chosen, not_chosen, CachedNode, TreeFault, top_node, KeepsOtherRegisters, armed_lines, pair_at, slot_entries, IsSealMade, IsTreeNamed, IsWriteTold, TreeChip, fetch_plan, raised_pair, seal_of, named_one, write_armed, told_write, named_chip, stored_chip, raise_plan}
use Rattle.commit_regs.proofs.GroupPlans.{group_cut, group_end}
use Rattle.counter_tree.proofs.ChipTree.{chip-with, chip-root_with}
use Rattle.asit_shadow.specs.declared.fault.TreeFault.TheVariants as Fail
use Rattle.asit_shadow.proofs.SlotPlaces.{slot_of-inside}
use Rattle.asit_shadow.specs.WritePlans.{raised_path, named_all, seal_plan, write_line_plan}

-- ---- the path's nodes

pub raised-first : (g : Shape) (cache : List (Option CachedNode)) (a : ℕ) → raised_path g cache a 0 ≡ []
unfolding raised_path
raised-first g cache a = refl

-- a level more
pub raised-step : (g : Shape) (cache : List (Option CachedNode)) (a n : ℕ) (old new : List (ℕ × Node)) (pair : ℕ × Node) → old ≡ raised_path g cache a n
    → pair ≡ raised_pair g cache a n → new ≡ old ++ pair ∷ [] → new ≡ raised_path g cache a (n + 1)
unfolding raised_path
raised-step g cache a n old new pair before is step = search rules

-- ---- the seal, the watch and the registers, as equations

pub seal_is : (f : Formulas) (a count : ℕ) (plain : Line) (seal : LineSeal) → IsSealMade f a count plain seal → seal ≡ seal_of f a count plain
seal_is f a count plain seal made = search rules

pub told_is : (g : Shape) (a : ℕ) (seal : LineSeal) (pairs : List (ℕ × Node)) (old new : WatchState) → IsWriteTold g a seal pairs old new
    → new ≡ told_write g a seal pairs old
told_is g a seal pairs old new it = search rules

pub armed_is : (g : Shape) (a : ℕ) (seal : LineSeal) (pairs : List (ℕ × Node)) (root : List ℕ) (old new : Regs) → KeepsOtherRegisters old new
    → new.root ≡ root → new.group.items ≡ armed_lines g a seal pairs → new ≡ write_armed g a seal pairs root old
armed_is g a seal pairs root old new others its_root group = search rules

-- ---- the shadow tree

pub named-none : (f : Formulas) (g : Shape) (at : ChipTree × List ℕ) → named_all f g [] at ≡ at
unfolding named_all
named-none f g at = refl

pub named-last : (f : Formulas) (g : Shape) (pairs : List (ℕ × Node)) (pair : ℕ × Node) (at : ChipTree × List ℕ)
    → named_all f g (pairs ++ pair ∷ []) at ≡ named_one f g pair (named_all f g pairs at)
unfolding named_all
named-last f g [] pair at = refl
named-last f g (first ∷ later) pair at = named-last f g later pair (named_one f g first at)

-- a node named more, as a loop over the pairs has seen it
pub named-step : (f : Formulas) (g : Shape) (pairs seen : List (ℕ × Node)) (i slot : ℕ) (line : Line) (d : ℕ × Node) (start : ChipTree × List ℕ)
    (mid new : ChipTree) (was root : List ℕ) → seen ≡ pairs → i < length seen → slot ≡ slot_of g (get_or seen i d).0
    → line ≡ slot_line (get_or seen i d).0 (get_or seen i d).1 → new.height ≡ mid.height → new.lines ≡ tree_with f mid.height mid.lines slot line
    → root ≡ tree_root_with f mid.height mid.lines slot line → (let at : ChipTree × List ℕ = (mid, was) in at ≡ named_all f g (take i pairs) start)
    → (let at : ChipTree × List ℕ = (new, root) in at ≡ named_all f g (take (i + 1) pairs) start)
named-step f g pairs seen i slot line d start mid new was root same inside at is height lines its_root before =
    let pair = get_or seen i d in
    let one : (let end : ChipTree × List ℕ = (new, root) in end ≡ named_one f g pair (mid, was)) =
    (λ j. (record { height = height j; lines = lines j }, its_root j)) ∙ (λ j. named_at f (at j) (is j) mid) in
    one ∙ (ap (named_one f g pair) before
    ∙ (sym (named-last f g (take i pairs) pair start)
    ∙ ap (λ (ps : List (ℕ × Node)). named_all f g ps start)
    (subst (λ (ps : List (ℕ × Node)). take i ps ++ pair ∷ [] ≡ take (i + 1) ps) same (sym (take_more seen i d inside)))))
  where
    named_at : Formulas → ℕ → Line → ChipTree → ChipTree × List ℕ
    named_at f slot line mid =
        (record { height = mid.height; lines = tree_with f mid.height mid.lines slot line }, tree_root_with f mid.height mid.lines slot line)

-- what naming makes of the tree over slot lines: the tree over those with the nodes' lines, and its root
module _ (f : Formulas) (g : Shape) (in_range : AreInRange f) (shape : IsShape g) where
  one-named : (pair : ℕ × Node) (at : ChipTree × List ℕ) (slots : List Line) → pair.0 < meta_lines g → at.0.height ≡ shadow_height g
      → length slots ≡ tree_slots g → IsShadowTree f at.0.height slots at.0.lines
      → IsShadowTree f at.0.height (slice_set slots (slot_of g pair.0) (slot_line pair.0 pair.1)) (named_one f g pair at).0.lines
      × ((named_one f g pair at).1 ≡ root_of f at.0.height (slice_set slots (slot_of g pair.0) (slot_line pair.0 pair.1)))
  one-named pair at slots inside height long it =
      let slot = slot_of-inside g pair.0 shape inside in
      let leaf = subst (λ h. slot_of g pair.0 < 4 ^ h) (sym height) (omega (arith, slot, shadow_height-room g shape)) in
      let room = subst (λ n. slot_of g pair.0 < n) (sym long) slot in
      let line = slot_line-IsLine pair.0 pair.1 in (
        chip-with f at.0.height slots at.0.lines (slot_of g pair.0) (slot_line pair.0 pair.1) in_range it leaf room line,
        chip-root_with f at.0.height slots at.0.lines (slot_of g pair.0) (slot_line pair.0 pair.1) in_range it leaf room line,
      )

  pub all-named : (pair : ℕ × Node) (later : List (ℕ × Node)) (at : ChipTree × List ℕ) (slots : List Line)
      → All (λ (one : ℕ × Node). one.0 < meta_lines g) (pair ∷ later) → at.0.height ≡ shadow_height g → length slots ≡ tree_slots g
      → IsShadowTree f at.0.height slots at.0.lines
      → IsShadowTree f at.0.height (put_lines (slot_entries g (λ i. i) (pair ∷ later)) slots) (named_all f g (pair ∷ later) at).0.lines
      × ((named_all f g (pair ∷ later) at).1 ≡ root_of f at.0.height (put_lines (slot_entries g (λ i. i) (pair ∷ later)) slots))
  unfolding named_all
  all-named pair [] at slots inside height long it = one-named pair at slots (inside 0 pair (omega arith)) height long it
  all-named pair (next ∷ rest) at slots inside height long it =
      all-named next rest (named_one f g pair at) (slice_set slots (slot_of g pair.0) (slot_line pair.0 pair.1))
      (λ i d low. inside (suc i) d (omega (arith, low))) height (length-set slots (slot_of g pair.0) (slot_line pair.0 pair.1) ∙ long)
      (one-named pair at slots (inside 0 pair (omega arith)) height long it).0

  pub tree-named : (pairs : List (ℕ × Node)) (old new : ChipTree) (was root : List ℕ) (slots : List Line) → 1 ≤ length pairs
      → All (λ (one : ℕ × Node). one.0 < meta_lines g) pairs → (let made : ChipTree × List ℕ = (new, root) in made ≡ named_all f g pairs (old, was))
      → old.height ≡ shadow_height g → length slots ≡ tree_slots g → IsShadowTree f old.height slots old.lines → IsTreeNamed f g pairs old new root slots
  tree-named [] old new was root slots some inside made height long it = absurd (omega (arith, some))
  tree-named (pair ∷ later) old new was root slots some inside made height long it =
      let its = all-named pair later (old, was) slots inside height long it in
      record {
        tree =
            subst (λ (t : ChipTree). IsShadowTree f old.height (put_lines (slot_entries g (λ i. i) (pair ∷ later)) slots) t.lines)
            (sym (ap (λ (at : ChipTree × List ℕ). at.0) made)) its.0;
        its_root = ap (λ (at : ChipTree × List ℕ). at.1) made ∙ its.1;
      }

-- ---- the ends

module _ (setup : Setup) (a : ℕ) (seal : LineSeal) (pairs : List (ℕ × Node)) (regs : Regs) (chip : TreeChip) where
  abbrev armed : Regs
  armed = write_armed setup.shape a seal pairs (named_all setup.formulas setup.shape pairs (chip.engine.tree, regs.root)).1 regs

  abbrev before : TreeChip
  before = named_chip setup pairs regs chip

  abbrev after : TreeChip
  after = stored_chip setup.shape a seal pairs before

  -- power was cut before the group was armed
  pub seal_cut : {old new : Device} → WasCut old new → Follows (seal_plan setup a seal pairs regs chip) old new (Err (before, Fail.Cut))
  unfolding seal_plan
  seal_cut was = mapped_follows _ _ (group_cut armed before after was)

  module _ (now : Regs) (is : now ≡ armed) {old mid new : Device} (was : HasLatched old now mid) where
    -- amid the group
    pub seal_kept : (cut : Cut) → Follows (finish_plan now) mid new (Err cut) → Follows (seal_plan setup a seal pairs regs chip) old new (Err (after, Fail.Cut))
    unfolding seal_plan
    seal_kept cut it = mapped_follows _ _ (group_end armed before after now after (Err cut) is refl was tt it)

    pub seal_done : HasFinished mid new → Follows (finish_plan now) mid new (Ok tt)
        → Follows (seal_plan setup a seal pairs regs chip) old new (Ok (after, seal.counter))
    unfolding seal_plan
    seal_done done it = mapped_follows _ _ (group_end armed before after now after (Ok tt) is refl was done it)

module _ (setup : Setup) (regs : Regs) (a : ℕ) (plain : Line) (chip : TreeChip) where
  pub write_spent : (d : Device) → (total (top_node chip.engine.cache) == 2 ^ 64 - 1) ≡ true
      → Follows (write_line_plan setup regs a plain chip) d d (Err (chip, Fail.Spent))
  unfolding write_line_plan
  write_spent d spent = chosen _ spent (is_stopped (chip, Fail.Spent) d)

  module _ (unspent : (total (top_node chip.engine.cache) == 2 ^ 64 - 1) ≡ false) where
    pub unfetched_write : {old new : Device} {left : TreeChip × TreeFault} → Follows (fetch_plan setup a chip) old new (Err left)
        → Follows (write_line_plan setup regs a plain chip) old new (Err left)
    unfolding write_line_plan
    unfetched_write it = not_chosen _ unspent (bind_err (raise_plan setup a plain regs) it)

    pub fetched_write : (fetched : TreeChip) (node : Node) (pairs : List (ℕ × Node)) (seal : LineSeal) {old mid new : Device} {end : Result (TreeChip × ℕ) (TreeChip × TreeFault)}
        → pairs ≡ raised_path setup.shape fetched.engine.cache a (suc setup.shape.levels)
        → seal ≡ seal_of setup.formulas a (counter (pair_at pairs setup.shape.levels).1 (a % 4)) plain
        → Follows (fetch_plan setup a chip) old mid (Ok (fetched, node)) → Follows (seal_plan setup a seal pairs regs fetched) mid new end
        → Follows (write_line_plan setup regs a plain chip) old new end
    unfolding write_line_plan
    fetched_write fetched node pairs seal {mid = mid} {new = new} {end = end} its made first second = search (rules, not_chosen, bind_ok)
