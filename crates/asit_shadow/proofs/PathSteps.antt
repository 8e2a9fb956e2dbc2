-- The levels of a path that are fetched, one after another.
use Rattle.std.proofs.Common.{ℕ, suc, ◌≡◌, ◌≢◌, ◌<◌, ◌≤◌, ◌+◌, ◌/◌, true, false, List, length, Some, None, refl, sym, ap, subst, inl, inr, ◌∙◌, arith, rules}
use Rattle.asit_shadow.proofs.Common.{Option, slice_index, get_or-set_same, get_or-set_other, Line, Shape, IsShape, AreInRange, Setup, AreToldLines, Tells, parent, child_slot, path_of, counter_position, on_path-level, path_of-top, path_of-block, path_of-parent, going, Node, counter, total, node_read, tree_lines, tree_slots, tree_size, line_of_node, node_at, entry_for, is_on_line_path, slot_of, WatchState, CachedNode, cache_at, IsCached, IsCachedAs, TreeEngineParts, AreTreeTrusted, line_path, TreeCallEffect, IsNodeRead, IsNodeFound, HasFetchedNode, KeepsPathLines, IsPathFetchedTo}
use Rattle.bonsai_tree.specs.Positions.{level_of}
use Rattle.asit_shadow.proofs.SlotPlaces.{slot_of-inside, page_of_line, on_path-inside, path_slots-apart}
use Rattle.asit_shadow.proofs.Chains.{effect-then}
use Rattle.asit_shadow.proofs.LevelWork.{IsNextWork, next-on_path, next-level, at_level, up_to, is_cached-true, is_cached-false, levels-start, reads-start, levels-cached, reads-cached, levels-found, reads-found}
use Rattle.asit_shadow.proofs.LevelSteps.{IsLevelReady, found-step, found-effect, found-path_lines}

-- what is known as a fetch begins
pub record IsFetchReady (setup : Setup) (a : ℕ) (old : TreeEngineParts) : Type 0 where
  pub shape : IsShape setup.shape
  pub in_range : AreInRange setup.formulas
  pub its_line : a < tree_lines setup.shape
  pub its_size : old.device.size ≡ tree_size setup.shape
  pub slots : length old.engine.cache ≡ tree_slots setup.shape

-- the levels to j are fetched, and x is next
pub record IsNextLevel (setup : Setup) (a j x version : ℕ) (old now : TreeEngineParts) : Type 0 where
  pub ready : IsFetchReady setup a old
  pub before : IsPathFetchedTo setup a j old now
  pub told : AreToldLines now.device.size now.device.lines
  pub level : j < setup.shape.levels
  pub place : x ≡ slice_index (line_path setup.shape a) (suc j)
  pub version_true : AreTreeTrusted setup now → version ≡ entry_for now.watch.nodes x

-- ---- positions

pub next-low : (g : Shape) (a j x : ℕ) → IsShape g → a < tree_lines g → j < g.levels → x ≡ slice_index (line_path g a) (suc j) → x ≢ 0
next-low g a j x shape in_a inside place top =
    let level = next-level g a j x shape in_a inside place in
    let zero_level : level_of 0 ≡ 0 = refl in
    omega (arith, level, ap level_of top, zero_level)

pub level-ready : (setup : Setup) (a j x version : ℕ) (old now : TreeEngineParts) → IsNextLevel setup a j x version old now → IsLevelReady setup x version now
level-ready setup a j x version old now next =
    let on = next-on_path setup.shape a j x next.level next.place in
    record {
      shape = next.ready.shape;
      in_range = next.ready.in_range;
      told = next.told;
      its_size = next.before.effect.size ∙ next.ready.its_size;
      on_tree = on_path-inside setup.shape a x next.ready.its_line on;
      not_top = next-low setup.shape a j x next.ready.shape next.ready.its_line next.level next.place;
      version_true = next.version_true;
    }

-- ---- the first level

still_effect : (setup : Setup) (old : TreeEngineParts) → TreeCallEffect setup going old old
still_effect setup old = search rules

pub same_lines : (g : Shape) (a : ℕ) (told : Option (List Line)) → KeepsPathLines g a told told
same_lines g a None = refl
same_lines g a (Some lines) = λ x on. refl

top-cached : (setup : Setup) (a x : ℕ) (old : TreeEngineParts) → IsFetchReady setup a old → AreTreeTrusted setup old → is_on_line_path setup.shape a x ≡ true → level_of x ≤ 0 → IsCached setup.shape old.engine.cache x
top-cached setup a x old ready trusted on top =
    let page = page_of_line setup.shape a ready.its_line in
    let its = on_path-level setup.shape (a / 4) x ready.shape.at_most_six_levels page on in
    let level : level_of x ≡ 0 = omega (arith, top) in
    let zero : x ≡ 0 = sym its.1 ∙ (ap (slice_index (line_path setup.shape a)) level ∙ path_of-top setup.shape (a / 4) page) in
    subst (IsCached setup.shape old.engine.cache) (sym zero)
    (record { held = trusted.top_cached.held; stands = trusted.top_cached.stands; position = trusted.top_cached.position })

pub path-start : (setup : Setup) (a : ℕ) (old : TreeEngineParts) → IsFetchReady setup a old → IsPathFetchedTo setup a 0 old old
path-start setup a old ready =
    record {
      effect = still_effect setup old;
      tree = refl;
      down = refl;
      done = levels-start setup a old;
      reads = reads-start setup.shape old.engine.cache a old.device.reads;
      watch = refl;
      path_lines = λ trusted. same_lines setup.shape a old.device.lines;
      cached = λ trusted x on top. top-cached setup a x old ready trusted on top;
      read = λ trusted x on top. inl (top-cached setup a x old ready trusted on top);
    }

-- the top, where the engine is trusted
pub top-in : (setup : Setup) (old : TreeEngineParts) → AreTreeTrusted setup old → IsCachedAs setup.shape old.engine.cache 0 (Rattle.asit_shadow.specs.State.top_node old.engine.cache)
top-in setup old trusted = search rules

-- ---- what was read stays on the device

tells-kept : (g : Shape) (a x : ℕ) (line : Line) (old new : Option (List Line)) → is_on_line_path g a x ≡ true → KeepsPathLines g a old new → Tells old (line_of_node g x) line → Tells new (line_of_node g x) line
tells-kept g a x line None new on kept tells = subst (λ told. Tells told (line_of_node g x) line) (sym kept) tt
tells-kept g a x line (Some old) None on kept tells = absurd kept
tells-kept g a x line (Some old) (Some new) on kept tells = tells ∙ sym (kept x on)

pub lines-then : (g : Shape) (a : ℕ) (old mid new : Option (List Line)) → KeepsPathLines g a old mid → KeepsPathLines g a mid new → KeepsPathLines g a old new
lines-then g a None mid new first second = search rules
lines-then g a (Some old) None new first second = absurd first
lines-then g a (Some old) (Some mid) None first second = absurd second
lines-then g a (Some old) (Some mid) (Some new) first second = λ x on. second x on ∙ first x on

pub read-kept : (setup : Setup) (a x : ℕ) (old mid new : TreeEngineParts) → KeepsPathLines setup.shape a mid.device.lines new.device.lines → IsNodeRead setup a x old mid → IsNodeRead setup a x old new
read-kept setup a x old mid new kept it = search (rules, tells-kept)

-- ---- a level that was cached

-- the slot of the next level is as it was before
slot_below : (setup : Setup) (a j x version : ℕ) (old now : TreeEngineParts) → IsNextLevel setup a j x version old now → cache_at now.engine.cache (slot_of setup.shape x) ≡ cache_at old.engine.cache (slot_of setup.shape x)
slot_below setup a j x version old now next =
    let on = next-on_path setup.shape a j x next.level next.place in
    let level = next-level setup.shape a j x next.ready.shape next.ready.its_line next.level next.place in
    next.before.done.cache.elsewhere (slot_of setup.shape x)
    (λ y on_y low high same. omega (arith, high, level, ap level_of (path_slots-apart setup.shape a x y next.ready.shape next.ready.its_line on on_y same)))

cached-before : (setup : Setup) (a j x version : ℕ) (old now : TreeEngineParts) → IsNextLevel setup a j x version old now → IsCached setup.shape now.engine.cache x → IsCached setup.shape old.engine.cache x
cached-before setup a j x version old now next it =
    record { held = it.held; stands = sym (slot_below setup a j x version old now next) ∙ it.stands; position = it.position }

pub cached-after : (setup : Setup) (a j x version : ℕ) (old now : TreeEngineParts) → IsNextLevel setup a j x version old now → IsCached setup.shape old.engine.cache x → IsCached setup.shape now.engine.cache x
cached-after setup a j x version old now next it =
    record { held = it.held; stands = slot_below setup a j x version old now next ∙ it.stands; position = it.position }

-- what the levels so far did, as the next one's work asks
pub next-work : (setup : Setup) (a j x version : ℕ) (old now : TreeEngineParts) → IsNextLevel setup a j x version old now → IsNextWork setup a j x old now
next-work setup a j x version old now next = search (rules, slot_below)

next-cached : (setup : Setup) (a j x version : ℕ) (node : Node) (old now : TreeEngineParts) → IsNextLevel setup a j x version old now → IsCachedAs setup.shape now.engine.cache x node → IsPathFetchedTo setup a (suc j) old now
next-cached setup a j x version node old now next in_slot =
    let before = next.before in
    let it : IsCached setup.shape now.engine.cache x = record { held = in_slot.held; stands = in_slot.stands; position = in_slot.position } in
    let work = next-work setup a j x version old now next in
    let was = is_cached-true setup.shape old.engine.cache x (cached-before setup a j x version old now next it) in
    record {
      effect = before.effect;
      tree = before.tree;
      down = before.down;
      done = levels-cached setup a j x old now work was;
      reads = reads-cached setup a j x old now work was;
      watch = before.watch;
      path_lines = before.path_lines;
      cached =
          λ trusted y on most.
          elim (up_to (level_of y) j most) [
            | inl above ↦ before.cached trusted y on above
            | inr here ↦
                subst (IsCached setup.shape now.engine.cache)
                (sym (at_level setup.shape a j x y next.ready.shape next.ready.its_line next.place on here)) it
          ];
      read =
          λ trusted y on most.
          elim (up_to (level_of y) j most) [
            | inl above ↦ before.read trusted y on above
            | inr here ↦
                inl (subst (IsCached setup.shape old.engine.cache)
                (sym (at_level setup.shape a j x y next.ready.shape next.ready.its_line next.place on here))
                (cached-before setup a j x version old now next it))
          ];
    }

-- ---- a level that was found

-- the slots of the other nodes of the path are as they were
other_slot : (setup : Setup) (a j x version : ℕ) (node : Node) (old now new : TreeEngineParts) (y : ℕ) → IsNextLevel setup a j x version old now → IsNodeFound setup x version node now new → is_on_line_path setup.shape a y ≡ true → level_of y ≢ suc j
    → cache_at new.engine.cache (slot_of setup.shape y) ≡ cache_at now.engine.cache (slot_of setup.shape y)
other_slot setup a j x version node old now new y next found on_y other =
    let on = next-on_path setup.shape a j x next.level next.place in
    let level = next-level setup.shape a j x next.ready.shape next.ready.its_line next.level next.place in
    let apart : slot_of setup.shape y ≢ slot_of setup.shape x =
    λ same. other (ap level_of (path_slots-apart setup.shape a y x next.ready.shape next.ready.its_line on_y on same) ∙ level) in
    ap (λ (c : List (Option CachedNode)). cache_at c (slot_of setup.shape y)) found.cache
    ∙ get_or-set_other now.engine.cache (slot_of setup.shape x) (slot_of setup.shape y) (Some (record { x = x; node = node; dirty = false })) None apart

next-room : (setup : Setup) (a j x version : ℕ) (old now : TreeEngineParts) → IsNextLevel setup a j x version old now → slot_of setup.shape x < length now.engine.cache
next-room setup a j x version old now next = search (rules, next-on_path, slot_of-inside, on_path-inside)

found-in : (setup : Setup) (a j x version : ℕ) (node : Node) (old now new : TreeEngineParts) → IsNextLevel setup a j x version old now → IsNodeFound setup x version node now new → IsCachedAs setup.shape new.engine.cache x node
found-in setup a j x version node old now new next found =
    let room = next-room setup a j x version old now next in
    record {
      held = record { x = x; node = node; dirty = false };
      stands =
          ap (λ (c : List (Option CachedNode)). cache_at c (slot_of setup.shape x)) found.cache
          ∙ get_or-set_same now.engine.cache (slot_of setup.shape x) (Some (record { x = x; node = node; dirty = false })) None room;
      position = refl;
      its_node = refl;
    }

found-read : (setup : Setup) (a j x version : ℕ) (node : Node) (old now new : TreeEngineParts) → IsNextLevel setup a j x version old now → IsNodeFound setup x version node now new → AreTreeTrusted setup now → IsNodeRead setup a x old new
found-read setup a j x version node old now new next found trusted =
    let on = next-on_path setup.shape a j x next.level next.place in
    let ready = level-ready setup a j x version old now next in
    let low : 1 ≤ x = omega (arith, ready.not_top) in
    let is_version : version ≡ total (node_at now.watch.nodes x) =
    next.version_true trusted ∙ sym (trusted.anchored.tree.versions x low ready.on_tree) in
    record {
      line = found.taken.line;
      its =
          record {
            on_path = on;
            below_top = low;
            uncached = λ it. found.uncached (cached-after setup a j x version old now next it);
            read =
                tells-kept setup.shape a x found.taken.line now.device.lines new.device.lines on
                (found-path_lines setup a x version node now new ready next.ready.its_line on found trusted) found.taken.read.tells;
          };
      accepted =
          subst (λ (watch : WatchState). node_read setup.formulas x found.taken.line (total (node_at watch.nodes x)) ≡ Some (node_at watch.nodes x)) next.before.watch
          (ap (node_read setup.formulas x found.taken.line) (sym is_version) ∙ (found.taken.accepted ∙ ap Some found.taken.seen));
    }

next-found : (setup : Setup) (a j x version : ℕ) (node : Node) (old now new : TreeEngineParts) → IsNextLevel setup a j x version old now → IsNodeFound setup x version node now new → IsPathFetchedTo setup a (suc j) old new
next-found setup a j x version node old now new next found =
    let before = next.before in
    let ready = level-ready setup a j x version old now next in
    let on = next-on_path setup.shape a j x next.level next.place in
    let step = found-step setup x version node now new found in
    let kept = λ (trusted : AreTreeTrusted setup now). found-path_lines setup a x version node now new ready next.ready.its_line on found trusted in
    let work = next-work setup a j x version old now next in
    let wasnt = is_cached-false setup.shape old.engine.cache x (λ it. found.uncached (cached-after setup a j x version old now next it)) in
    let room : slot_of setup.shape x < length now.engine.cache = next-room setup a j x version old now next in
    record {
      effect = effect-then setup going old now new before.effect (found-effect setup x version node now new ready found);
      tree = found.tree ∙ before.tree;
      down = found.down ∙ before.down;
      done = levels-found setup a j x version node old now new work wasnt room step.latches step.regs found;
      reads = reads-found setup a j x version node old now new work wasnt found;
      watch = found.taken.watch_kept ∙ before.watch;
      path_lines =
          λ trusted.
          lines-then setup.shape a old.device.lines now.device.lines new.device.lines (before.path_lines trusted) (kept (before.effect.trusted trusted));
      cached =
          λ trusted y on_y most.
          elim (up_to (level_of y) j most) [
            | inl above ↦
                let it = before.cached trusted y on_y above in
                record {
                  held = it.held;
                  stands = other_slot setup a j x version node old now new y next found on_y (λ e. omega (arith, above, e)) ∙ it.stands;
                  position = it.position;
                }
            | inr here ↦
                let it = found-in setup a j x version node old now new next found in
                subst (IsCached setup.shape new.engine.cache)
                (sym (at_level setup.shape a j x y next.ready.shape next.ready.its_line next.place on_y here))
                (record { held = it.held; stands = it.stands; position = it.position })
          ];
      read =
          λ trusted y on_y most.
          elim (up_to (level_of y) j most) [
            | inl above ↦ elim (before.read trusted y on_y above) [
              | inl cached ↦ inl cached
              | inr it ↦ inr (read-kept setup a y old now new (kept (before.effect.trusted trusted)) it)
            ]
            | inr here ↦
                inr (subst (λ z. IsNodeRead setup a z old new)
                (sym (at_level setup.shape a j x y next.ready.shape next.ready.its_line next.place on_y here))
                (found-read setup a j x version node old now new next found (before.effect.trusted trusted)))
          ];
    }

-- ---- a level that was had

pub path-next : (setup : Setup) (a j x version : ℕ) (node : Node) (old now new : TreeEngineParts) → IsNextLevel setup a j x version old now → HasFetchedNode setup x version now new node → IsPathFetchedTo setup a (suc j) old new
path-next setup a j x version node old now new next had =
    elim had [
      | inl (in_slot, same) ↦
          subst (IsPathFetchedTo setup a (suc j) old) (sym same) (next-cached setup a j x version node old now next in_slot)
      | inr found ↦ next-found setup a j x version node old now new next found
    ]

pub had-in : (setup : Setup) (a j x version : ℕ) (node : Node) (old now new : TreeEngineParts) → IsNextLevel setup a j x version old now → HasFetchedNode setup x version now new node → IsCachedAs setup.shape new.engine.cache x node
had-in setup a j x version node old now new next had =
    elim had [
      | inl (in_slot, same) ↦
          subst (λ (parts : TreeEngineParts). IsCachedAs setup.shape parts.engine.cache x node) (sym same) in_slot
      | inr found ↦ found-in setup a j x version node old now new next found
    ]

-- a cached node is the true one, and has the counter under which its child is read
pub in-true : (setup : Setup) (x : ℕ) (node : Node) (parts : TreeEngineParts) → AreTreeTrusted setup parts → IsCachedAs setup.shape parts.engine.cache x node → node ≡ node_at parts.watch.nodes x
in-true setup x node parts trusted it =
    it.its_node ∙ ((trusted.cached_true (slot_of setup.shape x) it.held it.stands).true_node ∙ ap (node_at parts.watch.nodes) it.position)

pub in-entry : (setup : Setup) (y : ℕ) (node : Node) (parts : TreeEngineParts) → AreTreeTrusted setup parts → IsCachedAs setup.shape parts.engine.cache (parent y) node → counter node (child_slot y) ≡ entry_for parts.watch.nodes y
in-entry setup y node parts trusted it =
    ap (λ (n : Node). counter n (child_slot y)) (in-true setup (parent y) node parts trusted it)

-- ---- the code's places and versions

-- the position that the code takes from the path
pub place-is : (g h : Shape) (a level from : ℕ) (items seen : List ℕ) → seen ≡ items → items ≡ path_of h (a / 4) → h ≡ g → from ≡ level → slice_index seen (from + 1) ≡ slice_index (line_path g a) (suc level)
place-is g h a level from items seen of_items of_path same at = search rules

-- the version that the code takes from the node above
pub version-is : (setup : Setup) (a j x version : ℕ) (node : Node) (now : TreeEngineParts) → j < setup.shape.levels → x ≡ slice_index (line_path setup.shape a) (suc j) → version ≡ counter node (child_slot x)
    → (AreTreeTrusted setup now → IsCachedAs setup.shape now.engine.cache (slice_index (line_path setup.shape a) j) node) → AreTreeTrusted setup now → version ≡ entry_for now.watch.nodes x
version-is setup a j x version node now inside place is last trusted = search (rules, path_of-parent, in-entry)

-- the top as the fetch begins
pub last-start : (setup : Setup) (a : ℕ) (node : Node) (old : TreeEngineParts) → IsFetchReady setup a old → node ≡ Rattle.asit_shadow.specs.State.top_node old.engine.cache → AreTreeTrusted setup old → IsCachedAs setup.shape old.engine.cache (slice_index (line_path setup.shape a) 0) node
last-start setup a node old ready is trusted =
    let top : 0 ≡ slice_index (line_path setup.shape a) 0 = sym (path_of-top setup.shape (a / 4) (page_of_line setup.shape a ready.its_line)) in
    subst (λ p. IsCachedAs setup.shape old.engine.cache p node) top
    (subst (IsCachedAs setup.shape old.engine.cache 0) (sym is) (top-in setup old trusted))

-- the last node as it ends
pub last-end : (setup : Setup) (a : ℕ) (node : Node) (old now : TreeEngineParts) → IsPathFetchedTo setup a setup.shape.levels old now → (AreTreeTrusted setup now → IsCachedAs setup.shape now.engine.cache (slice_index (line_path setup.shape a) setup.shape.levels) node) → AreTreeTrusted setup old
    → node ≡ node_at old.watch.nodes (counter_position setup.shape (a / 4))
last-end setup a node old now path last trusted =
    let here = path.effect.trusted trusted in
    in-true setup (slice_index (line_path setup.shape a) setup.shape.levels) node now here (last here)
    ∙ (ap (λ (w : WatchState). node_at w.nodes (slice_index (line_path setup.shape a) setup.shape.levels)) path.watch
    ∙ ap (node_at old.watch.nodes) (path_of-block setup.shape (a / 4)))
