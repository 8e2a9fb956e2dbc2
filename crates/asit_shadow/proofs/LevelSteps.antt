-- One level of a path is fetched: a node is read, the node that is dirty in its slot is written back, and it
-- takes the slot.
use Rattle.std.proofs.Common.{ℕ, ◌≡◌, ◌≢◌, ◌<◌, ◌≤◌, ◌⊎◌, Bool, true, false, List, [], length, Some, None, refl, sym, ap, subst, subst₂, inl, inr, ◌∙◌, arith, rules}
use Rattle.asit_shadow.proofs.Common.{Option, is_some, slice_set, true≢false, same_Some, Line, Regs, Shape, IsShape, meta_lines, line_at-set_other, AreInRange, Setup, RisesBy-once, RisesBy, Device, AreToldLines, HasRead, with_line, going, HasPower, told_surely, whole_lines, Node, node_line, tree_lines, tree_size, line_of_node, node_at, entry_for, is_on_line_path, slot_of, WatchState, CachedNode, TreeState, cache_at, IsTreeTrusted, IsTreeSound, IsNodeStored, IsTreeSealStored, IsSlotStored, IsNodeHeldBy, ArePlacesKept, TreeEngineParts, AreTreeTrusted, AreTreeSound, IsFetched, GivesWay, KeepsTreePlaces, TreeCallEffect, WritesWhere, IsRoomMade, IsNodeFound, KeepsPathLines}
use Rattle.board.proofs.StepLemmas.{is_some-with_line}
use Rattle.asit_shadow.proofs.SlotPlaces.{path_slots-apart}
use Rattle.asit_shadow.proofs.FetchLaws.{IsTrusted-fetched, IsSound-written_back, written_back-stored, IsSound-fetched}
use Rattle.asit_shadow.proofs.PlaceLaws.{written_back-places, fetched-places}
use Rattle.asit_shadow.proofs.Chains.{held-told}

-- ---- what making room does to the device

-- the dirty node of the slot was written to its place
pub record IsWrittenBack (setup : Setup) (slot : Option CachedNode) (old new : Option (List Line)) : Type 0 where
  pub held : CachedNode
  pub stood : slot ≡ Some held
  pub dirty : held.dirty ≡ true
  pub written : new ≡ with_line old (line_of_node setup.shape held.x) (node_line setup.formulas held.x held.node)

-- nobody dirty stood in the slot, and no line was written
pub record IsRoomFree (slot : Option CachedNode) (old new : Option (List Line)) : Type 0 where
  pub clean : (held : CachedNode) → slot ≡ Some held → held.dirty ≡ true → ⊥
  pub same : new ≡ old

-- one line write at most
pub record IsRoomStep (setup : Setup) (slot : Option CachedNode) (old new : Device) : Type 0 where
  pub size : new.size ≡ old.size
  pub regs : new.regs ≡ old.regs
  pub latches : new.latches ≡ old.latches
  pub power : HasPower going old new
  pub count : ℕ
  pub at_most : count ≤ 1
  pub writes : RisesBy count old.writes new.writes
  pub lines : IsRoomFree slot old.lines new.lines ⊎ IsWrittenBack setup slot old.lines new.lines

no_rise : (n : ℕ) → RisesBy 0 n n
no_rise n = record { never_falls = omega arith; exact = λ _. omega arith }

still : (setup : Setup) (slot : Option CachedNode) (read : Device) → ((held : CachedNode) → slot ≡ Some held → held.dirty ≡ true → ⊥) → IsRoomStep setup slot read read
still setup slot read clean = search (rules, no_rise)

room-where : (setup : Setup) (held : CachedNode) (dirty : Bool) (old new : Device) → held.dirty ≡ dirty → WritesWhere dirty old (line_of_node setup.shape held.x) (node_line setup.formulas held.x held.node) new → IsRoomStep setup (Some held) old new
room-where setup held true old new is made =
    record {
      size = made.size;
      regs = made.regs;
      latches = made.latches;
      power = (λ was. made.steady ∙ was, λ was. made.live ∙ was, made.cuts);
      count = 1;
      at_most = omega arith;
      writes = RisesBy-once made.writes;
      lines = inr (record { held = held; stood = refl; dirty = is; written = made.lines });
    }
room-where setup held false old new is made = search (rules, still, true≢false, same_Some)

pub room-step : (setup : Setup) (slot : Option CachedNode) (old new : Device) → IsRoomMade setup slot old new → IsRoomStep setup slot old new
room-step setup None old new made = search (rules, still)
room-step setup (Some held) old new made = room-where setup held held.dirty old new refl made

-- a line was read before
after_read : (setup : Setup) (slot : Option CachedNode) (old between new : Device) (at : ℕ) (line : Line) → HasRead old at line between → IsRoomStep setup slot between new → IsRoomStep setup slot old new
after_read setup slot old between new at line read step = search rules

pub found-step : (setup : Setup) (x version : ℕ) (node : Node) (old new : TreeEngineParts) → IsNodeFound setup x version node old new → IsRoomStep setup (cache_at old.engine.cache (slot_of setup.shape x)) old.device new.device
found-step setup x version node old new found = search (rules, after_read, room-step)

pub step-told : (setup : Setup) (slot : Option CachedNode) (old new : Device) → IsRoomStep setup slot old new → is_some new.lines ≡ is_some old.lines
step-told setup slot old new step = search (rules, is_some-with_line)

-- ---- what the step keeps

-- what is known before a level, of an engine that is trusted
pub record IsLevelReady (setup : Setup) (x version : ℕ) (old : TreeEngineParts) : Type 0 where
  pub shape : IsShape setup.shape
  pub in_range : AreInRange setup.formulas
  pub told : AreToldLines old.device.size old.device.lines
  pub its_size : old.device.size ≡ tree_size setup.shape
  pub on_tree : x < meta_lines setup.shape
  pub not_top : x ≢ 0
  pub version_true : AreTreeTrusted setup old → version ≡ entry_for old.watch.nodes x

pub found-IsFetched : (setup : Setup) (x version : ℕ) (node : Node) (old new : TreeEngineParts) → IsLevelReady setup x version old → AreTreeTrusted setup old → (found : IsNodeFound setup x version node old new) → IsFetched setup x found.taken.line node old.engine new.engine old.watch
found-IsFetched setup x version node old new ready trusted found = search rules

-- the lines that are told, before and after
pub record IsLevelKept (setup : Setup) (old new : TreeState) (lines then : List Line) (regs : Regs) (watch : WatchState) : Type 0 where
  pub sound : IsTreeSound setup old lines regs watch → IsTreeSound setup new then regs watch
  pub places : ArePlacesKept setup old new lines then watch

places-both : (setup : Setup) (old mid new : TreeState) (a b c : List Line) (watch : WatchState) → ArePlacesKept setup old mid a b watch → ArePlacesKept setup mid new b c watch → ArePlacesKept setup old new a c watch
places-both setup old mid new a b c watch first second = search rules

kept-free : (setup : Setup) (x : ℕ) (line : Line) (node : Node) (old new : TreeState) (lines : List Line) (regs : Regs) (watch : WatchState) → IsShape setup.shape → IsFetched setup x line node old new watch
    → ((held : CachedNode) → cache_at old.cache (slot_of setup.shape x) ≡ Some held → held.dirty ≡ true → ⊥) → IsLevelKept setup old new lines lines regs watch
kept-free setup x line node old new lines regs watch shape fetched clean =
    let gives : GivesWay setup old lines watch (slot_of setup.shape x) = λ held here dirty. absurd (clean held here dirty) in
    record {
      sound = λ was. IsSound-fetched setup x line node old new lines regs watch shape was fetched gives;
      places = fetched-places setup x line node old new lines watch fetched gives;
    }

kept-back : (setup : Setup) (x : ℕ) (line : Line) (node : Node) (old new : TreeState) (lines : List Line) (regs : Regs) (watch : WatchState) (held : CachedNode) → IsShape setup.shape → AreInRange setup.formulas → length lines ≡ tree_size setup.shape → IsTreeTrusted setup old regs watch
    → IsFetched setup x line node old new watch → cache_at old.cache (slot_of setup.shape x) ≡ Some held
    → IsLevelKept setup old new lines (slice_set lines (line_of_node setup.shape held.x) (node_line setup.formulas held.x held.node)) regs watch
kept-back setup x line node old new lines regs watch held shape in_range size trusted fetched stands =
    let it = trusted.cached_true (slot_of setup.shape x) held stands in
    let back = slice_set lines (line_of_node setup.shape held.x) (node_line setup.formulas held.x (node_at watch.nodes held.x)) in
    let gives : GivesWay setup old (slice_set lines (line_of_node setup.shape held.x) (node_line setup.formulas held.x (node_at watch.nodes held.x))) watch (slot_of setup.shape x) =
    λ one here dirty.
    subst (λ (h : CachedNode). IsNodeStored setup (slice_set lines (line_of_node setup.shape held.x) (node_line setup.formulas held.x (node_at watch.nodes held.x))) watch h.x)
    (same_Some held one (sym stands ∙ here)) (written_back-stored setup lines watch held.x it.on_tree size) in
    subst (λ (n : Node). IsLevelKept setup old new lines (slice_set lines (line_of_node setup.shape held.x) (node_line setup.formulas held.x n)) regs watch) (sym it.true_node)
    (record {
      sound =
          λ was.
          IsSound-fetched setup x line node old new (slice_set lines (line_of_node setup.shape held.x) (node_line setup.formulas held.x (node_at watch.nodes held.x))) regs watch shape
          (IsSound-written_back setup old lines regs watch held.x shape in_range was it.on_tree) fetched gives;
      places =
          places-both setup old old new lines (slice_set lines (line_of_node setup.shape held.x) (node_line setup.formulas held.x (node_at watch.nodes held.x)))
          (slice_set lines (line_of_node setup.shape held.x) (node_line setup.formulas held.x (node_at watch.nodes held.x))) watch
          (written_back-places setup old lines watch held.x it.on_tree size)
          (fetched-places setup x line node old new (slice_set lines (line_of_node setup.shape held.x) (node_line setup.formulas held.x (node_at watch.nodes held.x))) watch fetched gives);
    })

pub level-kept : (setup : Setup) (x version : ℕ) (node : Node) (old new : TreeEngineParts) (lines then : List Line) → IsLevelReady setup x version old → AreTreeTrusted setup old → IsNodeFound setup x version node old new → old.device.lines ≡ Some lines → new.device.lines ≡ Some then
    → IsLevelKept setup old.engine new.engine lines then old.device.regs old.watch
level-kept setup x version node old new lines then ready trusted found told told_then =
    let fetched = found-IsFetched setup x version node old new ready trusted found in
    let size : length lines ≡ tree_size setup.shape = (whole_lines old.device.size old.device.lines lines ready.told told).count ∙ ready.its_size in
    elim (found-step setup x version node old new found).lines [
      | inl free ↦
          let one : lines ≡ then = same_Some lines then (sym told ∙ (sym free.same ∙ told_then)) in
          subst (λ ls. IsLevelKept setup old.engine new.engine lines ls old.device.regs old.watch) one
          (kept-free setup x found.taken.line node old.engine new.engine lines old.device.regs old.watch ready.shape fetched free.clean)
      | inr back ↦
          let one : slice_set lines (line_of_node setup.shape back.held.x) (node_line setup.formulas back.held.x back.held.node) ≡ then =
          same_Some (slice_set lines (line_of_node setup.shape back.held.x) (node_line setup.formulas back.held.x back.held.node)) then
          (ap (λ (o : Option (List Line)). with_line o (line_of_node setup.shape back.held.x) (node_line setup.formulas back.held.x back.held.node)) (sym told) ∙ (sym back.written ∙ told_then)) in
          subst (λ ls. IsLevelKept setup old.engine new.engine lines ls old.device.regs old.watch) one
          (kept-back setup x found.taken.line node old.engine new.engine lines old.device.regs old.watch back.held ready.shape ready.in_range size trusted fetched back.stood)
    ]

-- ---- the effect of a level

found-trusted : (setup : Setup) (x version : ℕ) (node : Node) (old new : TreeEngineParts) → IsLevelReady setup x version old → IsNodeFound setup x version node old new → AreTreeTrusted setup old → AreTreeTrusted setup new
found-trusted setup x version node old new ready found trusted =
    subst₂ (λ regs watch. IsTreeTrusted setup new.engine regs watch) (sym (found-step setup x version node old new found).regs) (sym found.taken.watch_kept)
    (IsTrusted-fetched setup x found.taken.line node old.engine new.engine old.device.regs old.watch ready.shape trusted
    (found-IsFetched setup x version node old new ready trusted found))

found-sound : (setup : Setup) (x version : ℕ) (node : Node) (old new : TreeEngineParts) → IsLevelReady setup x version old → IsNodeFound setup x version node old new → AreTreeSound setup old → AreTreeSound setup new
found-sound setup x version node old new ready found sound =
    let step = found-step setup x version node old new found in
    told_surely (λ lines. IsTreeSound setup old.engine lines old.device.regs old.watch) (λ lines. IsTreeSound setup new.engine lines new.device.regs new.watch)
    old.device.lines new.device.lines (step-told setup (cache_at old.engine.cache (slot_of setup.shape x)) old.device new.device step)
    (λ lines then told told_then was.
    subst₂ (λ regs watch. IsTreeSound setup new.engine then regs watch) (sym step.regs) (sym found.taken.watch_kept)
    ((level-kept setup x version node old new lines then ready was.trusted found told told_then).sound was))
    sound

found-places : (setup : Setup) (x version : ℕ) (node : Node) (old new : TreeEngineParts) → IsLevelReady setup x version old → IsNodeFound setup x version node old new → AreTreeTrusted setup old → KeepsTreePlaces setup going old new
found-places setup x version node old new ready found trusted =
    let step = found-step setup x version node old new found in
    let same = step-told setup (cache_at old.engine.cache (slot_of setup.shape x)) old.device new.device step in
    let none : new.device.regs.group.items ≡ [] = ap (λ (r : Regs). r.group.items) step.regs ∙ trusted.no_group in
    let kept = λ (lines then : List Line) (told : old.device.lines ≡ Some lines) (told_then : new.device.lines ≡ Some then).
    (level-kept setup x version node old new lines then ready trusted found told told_then).places in
    record {
      seals =
          λ a inside.
          held-told (λ lines. IsTreeSealStored setup.shape lines old.watch a) (λ lines. IsTreeSealStored setup.shape lines new.watch a) old new trusted.no_group none same
          (λ lines then told told_then it. subst (λ watch. IsTreeSealStored setup.shape then watch a) (sym found.taken.watch_kept) ((kept lines then told told_then).seals a inside it));
      slots =
          λ i inside.
          held-told (λ lines. IsSlotStored setup.shape lines old.watch i) (λ lines. IsSlotStored setup.shape lines new.watch i) old new trusted.no_group none same
          (λ lines then told told_then it. subst (λ watch. IsSlotStored setup.shape then watch i) (sym found.taken.watch_kept) ((kept lines then told told_then).slots i it));
      nodes =
          λ y inside.
          held-told (λ lines. IsNodeHeldBy setup old.engine lines old.watch y) (λ lines. IsNodeHeldBy setup new.engine lines new.watch y) old new trusted.no_group none same
          (λ lines then told told_then it. subst (λ watch. IsNodeHeldBy setup new.engine then watch y) (sym found.taken.watch_kept) ((kept lines then told told_then).nodes y inside it));
    }

pub found-effect : (setup : Setup) (x version : ℕ) (node : Node) (old new : TreeEngineParts) → IsLevelReady setup x version old → IsNodeFound setup x version node old new → TreeCallEffect setup going old new
found-effect setup x version node old new ready found =
    let step = found-step setup x version node old new found in
    record {
      shape = found.shape;
      size = step.size;
      power = step.power;
      trusted = found-trusted setup x version node old new ready found;
      sound = found-sound setup x version node old new ready found;
      places = found-places setup x version node old new ready found;
    }

-- no line of a node of a path is changed as one of the path is fetched
pub kept_lines : (g : Shape) (a : ℕ) (old new : Option (List Line)) → new ≡ old → KeepsPathLines g a old new
kept_lines g a None new same = same
kept_lines g a (Some lines) new same = subst (KeepsPathLines g a (Some lines)) (sym same) (λ x on. refl)

other_line : (g : Shape) (a place : ℕ) (line : Line) (old new : Option (List Line)) → new ≡ with_line old place line → ((x : ℕ) → is_on_line_path g a x ≡ true → line_of_node g x ≢ place) → KeepsPathLines g a old new
other_line g a place line None new written apart = written
other_line g a place line (Some lines) new written apart = search (rules, line_at-set_other)

pub found-path_lines : (setup : Setup) (a x version : ℕ) (node : Node) (old new : TreeEngineParts) → IsLevelReady setup x version old → a < tree_lines setup.shape → is_on_line_path setup.shape a x ≡ true → IsNodeFound setup x version node old new → AreTreeTrusted setup old → KeepsPathLines setup.shape a old.device.lines new.device.lines
found-path_lines setup a x version node old new ready inside on found trusted =
    elim (found-step setup x version node old new found).lines [
      | inl free ↦ kept_lines setup.shape a old.device.lines new.device.lines free.same
      | inr back ↦
          other_line setup.shape a (line_of_node setup.shape back.held.x) (node_line setup.formulas back.held.x back.held.node) old.device.lines new.device.lines back.written
          (λ y on_y same.
          let it = trusted.cached_true (slot_of setup.shape x) back.held back.stood in
          let is : y ≡ back.held.x = omega (arith, same) in
          let slots : slot_of setup.shape y ≡ slot_of setup.shape x = ap (slot_of setup.shape) is ∙ it.its_slot in
          let one = path_slots-apart setup.shape a y x ready.shape inside on_y on slots in
          found.uncached (record { held = back.held; stands = back.stood; position = sym is ∙ one }))
    ]
