-- What the levels fetched so far did, exactly, and what the next one does.
use Rattle.std.proofs.Common.{ℕ, zero, suc, ◌≡◌, ◌≢◌, ◌<◌, ◌≤◌, ◌+◌, ◌/◌, ◌⊎◌, Bool, true, false, List, [], ◌++◌, append-nil, length, Some, None, refl, sym, ap, subst, inl, inr, ◌∙◌, arith, rules}
use Rattle.asit_shadow.proofs.Common.{Option, cases_Bool, cases_eq, cond-true, cond-false, eq-eqb, length-append, length-set, get_or-set_same, get_or-set_other, Line, Shape, IsShape, Setup, RisesBy, Device, RisesBy-then, RisesBy-once, on_path-level, path_of-on_path, path_of-level, redone_told, redone-cons, redone-nil, Node, node_line, tree_lines, line_of_node, node_at, is_on_line_path, slot_of, WatchState, CachedNode, cache_at, IsCached, TreeEngineParts, path_node, IsNodePathCached, WritesWhere, IsRoomMade, IsNodeFound, is_node_cached, write_back, node_level_write, node_level_reads, slot_fetched, spilled_nodes, absent_nodes, HasFetchedNodes}
use Rattle.bonsai_tree.specs.Positions.{level_of}
use Rattle.commit_regs.proofs.GroupLemmas.{redone_told-append}
use Rattle.asit_shadow.proofs.SlotPlaces.{page_of_line, path_slots-apart}

-- ---- positions

pub next-on_path : (g : Shape) (a j x : ℕ) → j < g.levels → x ≡ path_node g a (suc j) → is_on_line_path g a x ≡ true
next-on_path g a j x inside place = search (rules, path_of-on_path)

pub next-level : (g : Shape) (a j x : ℕ) → IsShape g → a < tree_lines g → j < g.levels → x ≡ path_node g a (suc j) → level_of x ≡ suc j
next-level g a j x shape in_a inside place = search (rules, path_of-level, page_of_line)

-- a node of the path at its level is the next one
pub at_level : (g : Shape) (a j x y : ℕ) → IsShape g → a < tree_lines g → x ≡ path_node g a (suc j) → is_on_line_path g a y ≡ true → level_of y ≡ suc j → y ≡ x
at_level g a j x y shape in_a place on level = search (rules, on_path-level, page_of_line)

-- a level is one before, or the next
pub up_to : (n j : ℕ) → n ≤ suc j → (n ≤ j) ⊎ (n ≡ suc j)
up_to n j most = elim (cases_eq n (suc j)) [ inl same ↦ inr same | inr other ↦ inl (omega (arith, most, other)) ]

-- ---- whether a node is cached

pub is_cached-true : (g : Shape) (cache : List (Option CachedNode)) (x : ℕ) → IsCached g cache x → is_node_cached g cache x ≡ true
is_cached-true g cache x it = search (rules, eq-eqb)

pub is_cached-false : (g : Shape) (cache : List (Option CachedNode)) (x : ℕ) → (IsCached g cache x → ⊥) → is_node_cached g cache x ≡ false
is_cached-false g cache x none = search rules

-- ---- room is made

no_rise : (n : ℕ) → RisesBy 0 n n
no_rise n = record { never_falls = omega arith; exact = λ _. omega arith }

pub record IsRoomWritten (setup : Setup) (slot : Option CachedNode) (old new : Device) : Type 0 where
  pub lines : new.lines ≡ redone_told (write_back setup slot) old.lines
  pub writes : RisesBy (length (write_back setup slot)) old.writes new.writes
  pub reads : new.reads ≡ old.reads

room_still : (setup : Setup) (slot : Option CachedNode) (old new : Device) → write_back setup slot ≡ [] → new ≡ old → IsRoomWritten setup slot old new
room_still setup slot old new none same = search (rules, redone-nil, no_rise)

room_where : (setup : Setup) (held : CachedNode) (dirty : Bool) (old new : Device) → held.dirty ≡ dirty → WritesWhere dirty old (line_of_node setup.shape held.x) (node_line setup.formulas held.x held.node) new → IsRoomWritten setup (Some held) old new
room_where setup held true old new is made = search (rules, cond-true, redone-cons, redone-nil, RisesBy-once)
room_where setup held false old new is made = search (rules, room_still, cond-false)

pub room-written : (setup : Setup) (slot : Option CachedNode) (old new : Device) → IsRoomMade setup slot old new → IsRoomWritten setup slot old new
room-written setup None old new made = room_still setup None old new refl made
room-written setup (Some held) old new made = room_where setup held held.dirty old new refl made

-- ---- the levels so far

pub record IsNextWork (setup : Setup) (a j x : ℕ) (old now : TreeEngineParts) : Type 0 where
  pub shape : IsShape setup.shape
  pub inside : a < tree_lines setup.shape
  pub level : j < setup.shape.levels
  pub place : x ≡ path_node setup.shape a (suc j)
  pub slot : cache_at now.engine.cache (slot_of setup.shape x) ≡ cache_at old.engine.cache (slot_of setup.shape x)
  pub watch : now.watch ≡ old.watch
  pub done : HasFetchedNodes setup a j old now
  pub reads : RisesBy (absent_nodes setup.shape old.engine.cache a j) old.device.reads now.device.reads

pub reads-start : (g : Shape) (cache : List (Option CachedNode)) (a n : ℕ) → RisesBy (absent_nodes g cache a 0) n n
reads-start g cache a n = no_rise n

pub levels-start : (setup : Setup) (a : ℕ) (old : TreeEngineParts) → HasFetchedNodes setup a 0 old old
levels-start setup a old = search (rules, redone-nil, no_rise)

-- nothing else was written since
pub levels-kept : (setup : Setup) (a n : ℕ) (old mid new : TreeEngineParts) → new.engine.cache ≡ mid.engine.cache → new.device.lines ≡ mid.device.lines → new.device.writes ≡ mid.device.writes → new.device.latches ≡ mid.device.latches → new.device.regs ≡ mid.device.regs
    → HasFetchedNodes setup a n old mid → HasFetchedNodes setup a n old new
levels-kept setup a n old mid new cache lines writes latches regs it = search rules

-- ---- the next level was cached

spilled-cached : (setup : Setup) (cache : List (Option CachedNode)) (a j x : ℕ) → x ≡ path_node setup.shape a (suc j) → is_node_cached setup.shape cache x ≡ true → spilled_nodes setup cache a (suc j) ≡ spilled_nodes setup cache a j
spilled-cached setup cache a j x place is = search (rules, cond-true, append-nil)

absent-cached : (g : Shape) (cache : List (Option CachedNode)) (a j x : ℕ) → x ≡ path_node g a (suc j) → is_node_cached g cache x ≡ true → absent_nodes g cache a (suc j) ≡ absent_nodes g cache a j
absent-cached g cache a j x place is = search (rules, cond-true)

pub levels-cached : (setup : Setup) (a j x : ℕ) (old now : TreeEngineParts) → IsNextWork setup a j x old now → is_node_cached setup.shape old.engine.cache x ≡ true → HasFetchedNodes setup a (suc j) old now
levels-cached setup a j x old now next is =
    let same : spilled_nodes setup old.engine.cache a (suc j) ≡ spilled_nodes setup old.engine.cache a j = spilled-cached setup old.engine.cache a j x next.place is in
    let before = next.done in
    record {
      on_path = omega (arith, next.level);
      cache =
          record {
            count = before.cache.count;
            fetched =
                λ y on low high.
                elim (up_to (level_of y) j high) [
                  | inl above ↦ before.cache.fetched y on low above
                  | inr here ↦
                      subst (λ z. cache_at now.engine.cache (slot_of setup.shape z) ≡ slot_fetched setup.shape old.watch.nodes old.engine.cache z)
                      (sym (at_level setup.shape a j x y next.shape next.inside next.place on here))
                      (next.slot
                      ∙ sym (cond-true (is_node_cached setup.shape old.engine.cache x) (cache_at old.engine.cache (slot_of setup.shape x)) (Some (record { x = x; node = node_at old.watch.nodes x; dirty = false })) is))
                ];
            elsewhere = λ i apart. before.cache.elsewhere i (λ y on low high. apart y on low (omega (arith, high)));
          };
      lines = before.lines ∙ ap (λ (group : List (ℕ × Line)). redone_told group old.device.lines) (sym same);
      writes = subst (λ (group : List (ℕ × Line)). RisesBy (length group) old.device.writes now.device.writes) (sym same) before.writes;
      latches = before.latches;
      regs = before.regs;
    }

pub reads-cached : (setup : Setup) (a j x : ℕ) (old now : TreeEngineParts) → IsNextWork setup a j x old now → is_node_cached setup.shape old.engine.cache x ≡ true → RisesBy (absent_nodes setup.shape old.engine.cache a (suc j)) old.device.reads now.device.reads
reads-cached setup a j x old now next is = search (rules, absent-cached)

-- ---- the next level was found

spilled-found : (setup : Setup) (cache : List (Option CachedNode)) (a j x : ℕ) → x ≡ path_node setup.shape a (suc j) → is_node_cached setup.shape cache x ≡ false
    → spilled_nodes setup cache a (suc j) ≡ spilled_nodes setup cache a j ++ write_back setup (cache_at cache (slot_of setup.shape x))
spilled-found setup cache a j x place is = search (rules, cond-false)

absent-found : (g : Shape) (cache : List (Option CachedNode)) (a j x : ℕ) → x ≡ path_node g a (suc j) → is_node_cached g cache x ≡ false → absent_nodes g cache a (suc j) ≡ absent_nodes g cache a j + 1
absent-found g cache a j x place is = search (rules, cond-false)

pub levels-found : (setup : Setup) (a j x version : ℕ) (node : Node) (old now new : TreeEngineParts) → IsNextWork setup a j x old now → is_node_cached setup.shape old.engine.cache x ≡ false → slot_of setup.shape x < length now.engine.cache → new.device.latches ≡ now.device.latches → new.device.regs ≡ now.device.regs
    → IsNodeFound setup x version node now new → HasFetchedNodes setup a (suc j) old new
levels-found setup a j x version node old now new next is room latches regs found =
    let before = next.done in
    let on_x = next-on_path setup.shape a j x next.level next.place in
    let level = next-level setup.shape a j x next.shape next.inside next.level next.place in
    let made = room-written setup (cache_at now.engine.cache (slot_of setup.shape x)) found.between new.device found.room in
    let whose : write_back setup (cache_at now.engine.cache (slot_of setup.shape x)) ≡ write_back setup (cache_at old.engine.cache (slot_of setup.shape x)) =
    ap (write_back setup) next.slot in
    let all : spilled_nodes setup old.engine.cache a (suc j) ≡ spilled_nodes setup old.engine.cache a j ++ write_back setup (cache_at old.engine.cache (slot_of setup.shape x)) =
    spilled-found setup old.engine.cache a j x next.place is in
    let seen : node ≡ node_at old.watch.nodes x = found.taken.seen ∙ ap (λ (w : WatchState). node_at w.nodes x) next.watch in
    let other : (i : ℕ) → i ≢ slot_of setup.shape x → cache_at new.engine.cache i ≡ cache_at now.engine.cache i =
    λ i apart.
    ap (λ (c : List (Option CachedNode)). cache_at c i) found.cache
    ∙ get_or-set_other now.engine.cache (slot_of setup.shape x) i (Some (record { x = x; node = node; dirty = false })) None apart in
    record {
      on_path = omega (arith, next.level);
      cache =
          record {
            count = ap length found.cache ∙ (length-set now.engine.cache (slot_of setup.shape x) (Some (record { x = x; node = node; dirty = false })) ∙ before.cache.count);
            fetched =
                λ y on low high.
                elim (up_to (level_of y) j high) [
                  | inl above ↦
                      other (slot_of setup.shape y)
                      (λ same. omega (arith, above, level, ap level_of (path_slots-apart setup.shape a y x next.shape next.inside on on_x same)))
                      ∙ before.cache.fetched y on low above
                  | inr at ↦
                      subst (λ z. cache_at new.engine.cache (slot_of setup.shape z) ≡ slot_fetched setup.shape old.watch.nodes old.engine.cache z)
                      (sym (at_level setup.shape a j x y next.shape next.inside next.place on at))
                      (ap (λ (c : List (Option CachedNode)). cache_at c (slot_of setup.shape x)) found.cache
                      ∙ (get_or-set_same now.engine.cache (slot_of setup.shape x) (Some (record { x = x; node = node; dirty = false })) None room
                      ∙ (ap (λ n. Some (record { x = x; node = n; dirty = false })) seen
                      ∙ sym (cond-false (is_node_cached setup.shape old.engine.cache x) (cache_at old.engine.cache (slot_of setup.shape x)) (Some (record { x = x; node = node_at old.watch.nodes x; dirty = false })) is))))
                ];
            elsewhere =
                λ i apart.
                other i (apart x on_x (omega (arith, level)) (omega (arith, level)))
                ∙ before.cache.elsewhere i (λ y on low high. apart y on low (omega (arith, high)));
          };
      lines =
          made.lines
          ∙ (ap (λ (group : List (ℕ × Line)). redone_told group found.between.lines) whose
          ∙ (ap (λ (told : Option (List Line)). redone_told (write_back setup (cache_at old.engine.cache (slot_of setup.shape x))) told) (found.taken.read.lines ∙ before.lines)
          ∙ (sym (redone_told-append (spilled_nodes setup old.engine.cache a j) (write_back setup (cache_at old.engine.cache (slot_of setup.shape x))) old.device.lines)
          ∙ ap (λ (group : List (ℕ × Line)). redone_told group old.device.lines) (sym all))));
      writes =
          subst (λ n. RisesBy n old.device.writes new.device.writes)
          (sym (ap length all ∙ length-append (spilled_nodes setup old.engine.cache a j) (write_back setup (cache_at old.engine.cache (slot_of setup.shape x)))))
          (RisesBy-then (length (spilled_nodes setup old.engine.cache a j)) (length (write_back setup (cache_at old.engine.cache (slot_of setup.shape x)))) old.device.writes now.device.writes new.device.writes before.writes
          (subst (λ (group : List (ℕ × Line)). RisesBy (length group) now.device.writes new.device.writes) whose
          (subst (λ n. RisesBy (length (write_back setup (cache_at now.engine.cache (slot_of setup.shape x)))) n new.device.writes) found.taken.read.writes made.writes)));
      latches = latches ∙ before.latches;
      regs = regs ∙ before.regs;
    }

pub reads-found : (setup : Setup) (a j x version : ℕ) (node : Node) (old now new : TreeEngineParts) → IsNextWork setup a j x old now → is_node_cached setup.shape old.engine.cache x ≡ false
    → IsNodeFound setup x version node now new → RisesBy (absent_nodes setup.shape old.engine.cache a (suc j)) old.device.reads new.device.reads
reads-found setup a j x version node old now new next is found = search (rules, room-written, absent-found, RisesBy-then, RisesBy-once)

-- ---- how much it is at most

write_back-few : (setup : Setup) (slot : Option CachedNode) → length (write_back setup slot) ≤ 1
write_back-few setup None = omega arith
write_back-few setup (Some held) = search (rules, cases_Bool, cond-true, cond-false)

level-few : (setup : Setup) (cache : List (Option CachedNode)) (x : ℕ) → length (node_level_write setup cache x) ≤ node_level_reads setup.shape cache x
level-few setup cache x = search (rules, cases_Bool, cond-true, cond-false, write_back-few)

pub spilled-few : (setup : Setup) (cache : List (Option CachedNode)) (a n : ℕ) → length (spilled_nodes setup cache a n) ≤ absent_nodes setup.shape cache a n
spilled-few setup cache a zero = omega arith
spilled-few setup cache a (suc n) =
    omega (
      arith,
      length-append (spilled_nodes setup cache a n) (node_level_write setup cache (path_node setup.shape a (suc n))),
      spilled-few setup cache a n,
      level-few setup cache (path_node setup.shape a (suc n)),
    )

level_reads-few : (g : Shape) (cache : List (Option CachedNode)) (x : ℕ) → node_level_reads g cache x ≤ 1
level_reads-few g cache x = search (rules, cases_Bool, cond-true, cond-false)

pub absent-few : (g : Shape) (cache : List (Option CachedNode)) (a n : ℕ) → absent_nodes g cache a n ≤ n
absent-few g cache a zero = omega arith
absent-few g cache a (suc n) = omega (arith, absent-few g cache a n, level_reads-few g cache (path_node g a (suc n)))

pub absent-none : (g : Shape) (cache : List (Option CachedNode)) (a n : ℕ) → n ≤ g.levels → IsNodePathCached g a cache → absent_nodes g cache a n ≡ 0
absent-none g cache a zero within cached = refl
absent-none g cache a (suc n) within cached =
    let here = is_cached-true g cache (path_node g a (suc n)) (cached.each (path_node g a (suc n)) (path_of-on_path g (a / 4) (suc n) within)) in
    let none : node_level_reads g cache (path_node g a (suc n)) ≡ 0 = cond-true (is_node_cached g cache (path_node g a (suc n))) 0 1 here in
    omega (arith, none, absent-none g cache a n (omega (arith, within)) cached)
