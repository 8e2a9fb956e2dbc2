-- The plans of a fetch, at each of their ends.
use Rattle.std.proofs.Common.{refl, ◌≡◌, ℕ, true, false, Option, Some, None, Result, Ok, Err, sym, subst, subst₂, rules}
use Rattle.asit_shadow.proofs.Common.{OnOk, OnErr, false≢true, Cut, Line, risen, Device, HasWritten, WasCut, Setup, Plan, lifted, mapped_end, ended, the_cut, Follows, is_done, write_then, write_cut, bind_ok, bind_err, mapped_follows, lifted_follows, Node, line_of_node, node_line, node_plan, slot_of, chosen, not_chosen, CachedNode, TreeFault, WatchState, TreeState, cache_at, IsCached, tree_parts_of, IsNodeTaken, HasNoNode, TreeChip, read_parts_of, with_engine, with_tags, with_read, fault_of_node, with_clean, node_in, level_plan}
use Rattle.asit_shadow.specs.declared.fault.TreeFault.TheVariants as Fail
use Rattle.asit_shadow.specs.Plans.{room_plan, place_plan, level_of}

-- a part's fault, in the words of the whole
pub lifted_err : {S P A F G : Type 0} (whole : S → P) (fault_of : F → G) {plan : Plan (S × F) (S × A)} {old new : Device} {left : S} {fault : F} (its : G)
    → fault_of fault ≡ its → Follows plan old new (Err (left, fault)) → Follows (lifted whole fault_of plan) old new (Err (whole left, its))
lifted_err {P = P} {A = A} {G = G} whole fault_of {plan = plan} {old = old} {new = new} {left = left} its is it =
    subst (λ (f : G). Follows {E = P × G} {T = P × A} (lifted whole fault_of plan) old new (Err (whole left, f))) is (lifted_follows whole fault_of it)

-- ---- room

module _ (setup : Setup) (slot : Option CachedNode) (tags : ℕ) where
  pub room_none : (d : Device) → slot ≡ None → Follows (room_plan setup slot tags) d d (Ok (tags, tt))
  unfolding room_plan
  room_none d is = subst (λ s. Follows (room_plan setup s tags) d d (Ok (tags, tt))) (sym is) (is_done (tags, tt) d)

  module _ (held : CachedNode) (is : slot ≡ Some held) where
    by_held : {old new : Device} {end : Result (ℕ × Unit {0}) (ℕ × Cut)} → Follows (room_plan setup (Some held) tags) old new end
        → Follows (room_plan setup slot tags) old new end
    by_held {old = old} {new = new} {end = end} it = subst (λ s. Follows (room_plan setup s tags) old new end) (sym is) it

    pub room_clean : (d : Device) → held.dirty ≡ false → Follows (room_plan setup slot tags) d d (Ok (tags, tt))
    unfolding room_plan
    room_clean d clean = by_held (not_chosen _ clean (is_done (tags, tt) d))

    module _ (old new : Device) (dirty : held.dirty ≡ true) where
      pub room_written : HasWritten old (line_of_node setup.shape held.x) (node_line setup.formulas held.x held.node) new
          → Follows (room_plan setup slot tags) old new (Ok (risen tags, tt))
      unfolding room_plan
      room_written was = by_held (chosen _ dirty (write_then (risen tags, the_cut) was (is_done (risen tags, tt) new)))

      pub room_cut : WasCut old new → Follows (room_plan setup slot tags) old new (Err (risen tags, the_cut))
      unfolding room_plan
      room_cut was = search (rules, by_held, chosen, write_cut)

    -- as the write answers it
    pub room_end : (place : ℕ) (line : Line) (old new : Device) (answer : Result (Unit {0}) Cut) → held.dirty ≡ true → place ≡ line_of_node setup.shape held.x
        → line ≡ node_line setup.formulas held.x held.node → OnOk answer (HasWritten old place line new) → OnErr answer (WasCut old new)
        → Follows (room_plan setup slot tags) old new (ended answer (risen tags))
    room_end place line old new (Ok value) dirty at its ok cut =
        room_written old new dirty (subst₂ (λ p (l : Line). HasWritten old p l new) at its ok)
    room_end place line old new (Err fault) dirty at its ok cut = room_cut old new dirty cut

-- ---- a node

module _ (setup : Setup) (x version : ℕ) (chip : TreeChip) where
  abbrev slot : Option CachedNode
  slot = cache_at chip.engine.cache (slot_of chip.engine.shape x)

  abbrev taking : Plan (TreeChip × TreeFault) (TreeChip × Node)
  taking = lifted (with_read chip) (fault_of_node x) (node_plan setup x version (read_parts_of chip))

  by_slot : (found : Option Node) {old new : Device} {end : Result (TreeChip × Node) (TreeChip × TreeFault)} → node_in slot x ≡ found
      → Follows (level_of setup x version chip found) old new end → Follows (level_plan setup x version chip) old new end
  by_slot found {old = old} {new = new} {end = end} is it = search rules

  pub level_cached : (d : Device) (node : Node) → node_in slot x ≡ Some node → Follows (level_plan setup x version chip) d d (Ok (chip, node))
  unfolding level_of
  level_cached d node is = by_slot (Some node) is (is_done (chip, node) d)

  module _ (absent : node_in slot x ≡ None) where
    -- its line wasn't had
    pub level_missed : {old new : Device} {left : TreeChip × TreeFault} → Follows taking old new (Err left) → Follows (level_plan setup x version chip) old new (Err left)
    unfolding level_of
    level_missed it = by_slot None absent (bind_err (place_plan setup x) it)

    -- it was, and room was to be made
    pub level_placed : (read : TreeChip) (node : Node) {old mid new : Device} {end : Result (ℕ × Unit {0}) (ℕ × Cut)} → Follows taking old mid (Ok (read, node))
        → Follows (room_plan setup (cache_at read.engine.cache (slot_of read.engine.shape x)) read.tags) mid new end
        → Follows (level_plan setup x version chip) old new
        (mapped_end (λ left. (with_tags read left.0, Fail.Cut))
        (λ end. (with_engine (with_tags read end.0) (with_clean read.engine x node), node)) end)
    unfolding level_of place_plan
    level_placed read node first second = by_slot None absent (bind_ok (place_plan setup x) first (mapped_follows _ _ second))

-- an engine is its parts
pub same_engine : (a b : TreeState) → a.shape ≡ b.shape → a.cache ≡ b.cache → a.tree ≡ b.tree → a.down ≡ b.down → a ≡ b
same_engine a b shape cache tree down = λ i. record { shape = shape i; cache = cache i; tree = tree i; down = down i }

-- why a node that isn't cached wasn't had, by why its line wasn't accepted
pub not_taken : (setup : Setup) (x version : ℕ) (engine : TreeState) (old new : Device) (watch after : WatchState) (fault : TreeFault)
    → (IsCached setup.shape engine.cache x → ⊥) → IsNodeTaken setup x version old new watch after (Err fault)
    → HasNoNode setup x version (tree_parts_of engine old watch) (tree_parts_of engine new after) fault
not_taken setup x version engine old new watch after Fail.Cut none it = search (rules, false≢true)
not_taken setup x version engine old new watch after Fail.Down none it = absurd it
not_taken setup x version engine old new watch after (Fail.Node y) none it = (it.0, none, refl, it.1)
not_taken setup x version engine old new watch after (Fail.Tag b) none it = absurd it
not_taken setup x version engine old new watch after Fail.Spent none it = absurd it
not_taken setup x version engine old new watch after Fail.Shown none it = (none, refl, it)
