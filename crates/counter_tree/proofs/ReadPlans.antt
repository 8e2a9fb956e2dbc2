-- The ends of reading a node and a data line, as their plans have them.
use Rattle.std.proofs.Common.{rules, refl, ◌≡◌, ◌≢◌, ℕ, Bool, true, false, List, Option, Some, None, Result, Ok, Err, sym, ap, subst}
use Rattle.counter_tree.proofs.Common.{IsSome, if◌then◌else◌, Line, Exhibit, Forged, risen, IsLine, tag_slot, same_bytes-from, HasRead, WasCut, Setup, other_bytes, same_line, other_line, unsealed, is_done, is_stopped, read_then, read_cut, Node, LineSeal, FetchFault, line_of_node, line_of_tag, version_counter, node_read, node_at, WatchState, last_seal_of, HasShown, forged_node, ReadParts, read_parts, with_exhibit, tags_of_node}
use Rattle.board.specs.Device.{Device}
use Rattle.call_plan.specs.Plans.{Plan, ended}
use Rattle.call_plan.specs.Following.{Follows}
use Rattle.counter_tree.specs.declared.accepted.FetchFault.TheVariants as Fail
use Rattle.counter_tree.specs.Nodes.{stored_node}
use Rattle.counter_tree.specs.Plans.{taken_node_plan, node_plan, known_line_plan, opened_line_plan, line_plan}

-- a watch that was shown something, as an equation
pub watch_shown : (old new : WatchState) (shown : Exhibit) → HasShown old new shown → new ≡ with_exhibit old shown
watch_shown old new shown it = search rules

-- ---- choices in a plan, and the state that an end leaves

pub chosen : {E T : Type 0} {first : Plan E T} (second : Plan E T) {old new : Device} {end : Result T E} {b : Bool} → b ≡ true
    → Follows first old new end → Follows (if b then first else second) old new end
chosen {first = first} second {old = old} {new = new} {end = end} is it = search rules

pub not_chosen : {E T : Type 0} (first : Plan E T) {second : Plan E T} {old new : Device} {end : Result T E} {b : Bool} → b ≡ false
    → Follows second old new end → Follows (if b then first else second) old new end
not_chosen first {second = second} {old = old} {new = new} {end = end} is it = search rules

pub leaving : {S A F : Type 0} {plan : Plan (S × F) (S × A)} {old new : Device} {state : S} (answer : Result A F) (after : S) → after ≡ state
    → Follows plan old new (ended answer state) → Follows plan old new (ended answer after)
leaving {S = S} {plan = plan} {old = old} {new = new} answer after is it = search rules

-- ---- a node

node_is : (a b : Node) → a.0 ≡ b.0 → a ≡ b
node_is a b e = ap (λ (counters : List ℕ). let n : Node = record { 0 = counters } in n) e

module _ (setup : Setup) (x version : ℕ) (at : ReadParts) where
  abbrev taken : Line → Plan (ReadParts × FetchFault) (ReadParts × Node)
  taken line =
      taken_node_plan x line (read_parts at.watch at.pads (tags_of_node line version at.tags)) (node_read setup.formulas x line version)

  pub node_cut : {old new : Device} → WasCut old new → old.live ≡ false → Follows (node_plan setup x version at) old new (Err (at, Fail.Cut))
  unfolding node_plan
  node_cut was off = read_cut (at, Fail.Cut) (line_of_node setup.shape x) taken was off

  module _ {old new : Device} {line : Line} (was : HasRead old (line_of_node setup.shape x) line new) (whole : IsLine line) where
    abbrev after : ReadParts
    after = read_parts at.watch at.pads (tags_of_node line version at.tags)

    by_node : (taken_as : Option Node) {end : Result (ReadParts × Node) (ReadParts × FetchFault)} → node_read setup.formulas x line version ≡ taken_as
        → Follows (taken_node_plan x line after taken_as) new new end → Follows (node_plan setup x version at) old new end
    unfolding node_plan
    by_node taken_as {end = end} is it =
        read_then (at, Fail.Cut) was whole (subst (λ n. Follows (taken_node_plan x line after n) new new end) (sym is) it)

    pub node_refused : node_read setup.formulas x line version ≡ None
        → Follows (node_plan setup x version at) old new (Err (after, Fail.Refused))
    unfolding taken_node_plan
    node_refused is = by_node None is (is_stopped (after, Fail.Refused) new)

    module _ (node : Node) (is : node_read setup.formulas x line version ≡ Some node) where
      pub node_accepted : stored_node line ≡ node_at at.watch.nodes x
          → Follows (node_plan setup x version at) old new (Ok (after, node))
      unfolding taken_node_plan
      node_accepted same =
          by_node (Some node) is
          (chosen _ (same_bytes-from (stored_node line).0 (node_at at.watch.nodes x).0 (ap (λ (n : Node). n.0) same)) (is_done (after, node) new))

      pub node_shown : stored_node line ≢ node_at at.watch.nodes x
          → Follows (node_plan setup x version at) old new
          (Err (read_parts (with_exhibit at.watch (forged_node at.watch x line)) at.pads after.tags, Fail.Shown))
      unfolding taken_node_plan
      node_shown differs = search (by_node, other_bytes, node_is, is_stopped)

-- ---- a data line

-- a seal that there is
pub seal_of : (last : Option LineSeal) → IsSome last → (seal : LineSeal) × (last ≡ Some seal)
seal_of (Some seal) some = (seal, refl)
seal_of None some = search rules

module _ (setup : Setup) (a counter : ℕ) (at : ReadParts) where
  abbrev opened : Line → Line → Plan (ReadParts × FetchFault) (ReadParts × Line)
  opened cipher tags =
      opened_line_plan a cipher tags (read_parts at.watch at.pads (risen at.tags))
      (unsealed setup.formulas a (version_counter counter) cipher (tag_slot tags 0))

  -- neither line was read
  pub line_unread : {old new : Device} → WasCut old new → old.live ≡ false → Follows (line_plan setup a counter at) old new (Err (at, Fail.Cut))
  unfolding line_plan
  line_unread was off = search read_cut

  module _ {old mid : Device} {cipher : Line} (first : HasRead old a cipher mid) (whole : IsLine cipher) where
    -- only the first was
    pub line_half_read : {new : Device} → WasCut mid new → mid.live ≡ false → Follows (line_plan setup a counter at) old new (Err (at, Fail.Cut))
    unfolding line_plan
    line_half_read was off = search (read_then, read_cut)

    module _ {new : Device} {tags : Line} (second : HasRead mid (line_of_tag setup.shape a) tags new) (tags_whole : IsLine tags) where
      by_plain : (plain : Option Line) {end : Result (ReadParts × Line) (ReadParts × FetchFault)}
          → unsealed setup.formulas a (version_counter counter) cipher (tag_slot tags 0) ≡ plain
          → Follows (opened_line_plan a cipher tags (read_parts at.watch at.pads (risen at.tags)) plain) new new end
          → Follows (line_plan setup a counter at) old new end
      unfolding line_plan
      by_plain plain {end = end} is it =
          read_then (at, Fail.Cut) first whole (read_then (at, Fail.Cut) second tags_whole
          (subst (λ p. Follows (opened_line_plan a cipher tags (read_parts at.watch at.pads (risen at.tags)) p) new new end) (sym is) it))

      pub line_refused : unsealed setup.formulas a (version_counter counter) cipher (tag_slot tags 0) ≡ None
          → Follows (line_plan setup a counter at) old new (Err (read_parts at.watch at.pads (risen at.tags), Fail.Refused))
      unfolding opened_line_plan
      line_refused is = by_plain None is (is_stopped (read_parts at.watch at.pads (risen at.tags), Fail.Refused) new)

      module _ (plain : Line) (seal : LineSeal) (is : unsealed setup.formulas a (version_counter counter) cipher (tag_slot tags 0) ≡ Some plain)
          (last : last_seal_of at.watch a ≡ Some seal) where
        abbrev unsealed_parts : ReadParts
        unsealed_parts = read_parts at.watch (risen at.pads) (risen at.tags)

        by_seal : {end : Result (ReadParts × Line) (ReadParts × FetchFault)} → Follows (known_line_plan a cipher tags plain unsealed_parts (Some seal)) new new end
            → Follows (line_plan setup a counter at) old new end
        unfolding opened_line_plan
        by_seal {end = end} it =
            by_plain (Some plain) is (subst (λ s. Follows (known_line_plan a cipher tags plain unsealed_parts s) new new end) (sym last) it)

        pub line_accepted : cipher ≡ seal.cipher → Follows (line_plan setup a counter at) old new (Ok (unsealed_parts, plain))
        unfolding known_line_plan
        line_accepted same = by_seal (chosen _ (same_line cipher seal.cipher same) (is_done (unsealed_parts, plain) new))

        pub line_shown : cipher ≢ seal.cipher
            → Follows (line_plan setup a counter at) old new
            (Err (read_parts (with_exhibit at.watch (Forged a (version_counter seal.counter) cipher (tag_slot tags 0))) unsealed_parts.pads unsealed_parts.tags, Fail.Shown))
        unfolding known_line_plan
        line_shown differs = search (by_seal, other_line, is_stopped)
