-- One node of a path more: what is told, stored and named of it.
use Rattle.std.proofs.Common.{ℕ, suc, ◌*◌, ◌≡◌, ◌<◌, ◌++◌, ◌∷◌, ◌+◌, List, [], length, take, get_or, Some, true, sym, ap, subst, subst₂, ◌∙◌, arith, rules}
use Rattle.asit_shadow.proofs.Common.{Option, slice_set, map-append, take_more, Line, risen_times, put_lines, Shape, put_lines-append, Node, LineSeal, line_of_slot, line_of_tag, slot_of, slot_line, WatchState, HasNodeNoted, HasSlotNoted, HasSealNoted, CachedNode, tag_only, armed_lines, set_pairs, slot_entries, dirty_entries, IsWriteTold}
use Rattle.pmem_base.proofs.CountLemmas.{risen_times-add}
use Rattle.asit_shadow.proofs.PairSets.{set_pairs-append}

-- a slot line more
pub entries-more : (g : Shape) (place : ℕ → ℕ) (pairs : List (ℕ × Node)) (x : ℕ) (node : Node) → slot_entries g place (pairs ++ (x, node) ∷ []) ≡ slot_entries g place pairs ++ (place (slot_of g x), slot_line x node) ∷ []
entries-more g place pairs x node = search (rules, map-append)

pub slots-more : (g : Shape) (pairs : List (ℕ × Node)) (x : ℕ) (node : Node) (slots : List Line) → put_lines (slot_entries g (λ i. i) (pairs ++ (x, node) ∷ [])) slots ≡ slice_set (put_lines (slot_entries g (λ i. i) pairs) slots) (slot_of g x) (slot_line x node)
slots-more g pairs x node slots = search (rules, entries-more, put_lines-append)

-- what the watch is told
pub told-none : (g : Shape) (a : ℕ) (seal : LineSeal) (old new : WatchState) → HasSealNoted old new a seal → IsWriteTold g a seal [] old new
told-none g a seal old new it = search rules

pub told-more : (g : Shape) (a : ℕ) (seal : LineSeal) (pairs : List (ℕ × Node)) (x : ℕ) (node : Node) (old mid between new : WatchState) → IsWriteTold g a seal pairs old mid → HasNodeNoted mid between x node → HasSlotNoted between new (slot_of g x) (slot_line x node)
    → IsWriteTold g a seal (pairs ++ (x, node) ∷ []) old new
told-more g a seal pairs x node old mid between new before first second = search (rules, set_pairs-append, slots-more)

-- what the cache holds
pub stored-more : (g : Shape) (pairs : List (ℕ × Node)) (x : ℕ) (node : Node) (old mid new : List (Option CachedNode)) → mid ≡ set_pairs (dirty_entries g pairs) old → new ≡ slice_set mid (slot_of g x) (Some (record { x = x; node = node; dirty = true }))
    → new ≡ set_pairs (dirty_entries g (pairs ++ (x, node) ∷ [])) old
stored-more g pairs x node old mid new before step = search (rules, map-append, set_pairs-append)

-- ---- the next node that a loop over the pairs has seen

pub told-next : (g : Shape) (a : ℕ) (seal : LineSeal) (pairs seen : List (ℕ × Node)) (i slot : ℕ) (line : Line) (d : ℕ × Node) (old mid between new : WatchState) → seen ≡ pairs → i < length seen → slot ≡ slot_of g (get_or seen i d).0 → line ≡ slot_line (get_or seen i d).0 (get_or seen i d).1 → IsWriteTold g a seal (take i pairs) old mid
    → HasNodeNoted mid between (get_or seen i d).0 (get_or seen i d).1 → HasSlotNoted between new slot line → IsWriteTold g a seal (take (i + 1) pairs) old new
told-next g a seal pairs seen i slot line d old mid between new same inside at is before first second =
    subst (λ (ps : List (ℕ × Node)). IsWriteTold g a seal (take (i + 1) ps) old new) same
    (subst (λ (ps : List (ℕ × Node)). IsWriteTold g a seal ps old new) (sym (take_more seen i d inside))
    (told-more g a seal (take i seen) (get_or seen i d).0 (get_or seen i d).1 old mid between new
    (subst (λ (ps : List (ℕ × Node)). IsWriteTold g a seal (take i ps) old mid) (sym same) before) first
    (subst₂ (λ n l. HasSlotNoted between new n l) at is second)))

pub stored-next : (g : Shape) (pairs seen : List (ℕ × Node)) (i slot : ℕ) (d : ℕ × Node) (old mid new : List (Option CachedNode)) → seen ≡ pairs → i < length seen → slot ≡ slot_of g (get_or seen i d).0 → mid ≡ set_pairs (dirty_entries g (take i pairs)) old
    → new ≡ slice_set mid slot (Some (record { x = (get_or seen i d).0; node = (get_or seen i d).1; dirty = true })) → new ≡ set_pairs (dirty_entries g (take (i + 1) pairs)) old
stored-next g pairs seen i slot d old mid new same inside at before step =
    subst (λ (ps : List (ℕ × Node)). new ≡ set_pairs (dirty_entries g (take (i + 1) ps)) old) same
    (subst (λ (ps : List (ℕ × Node)). new ≡ set_pairs (dirty_entries g ps) old) (sym (take_more seen i d inside))
    (stored-more g (take i seen) (get_or seen i d).0 (get_or seen i d).1 old mid new
    (subst (λ (ps : List (ℕ × Node)). mid ≡ set_pairs (dirty_entries g (take i ps)) old) (sym same) before)
    (step ∙ ap (λ n. slice_set mid n (Some (record { x = (get_or seen i d).0; node = (get_or seen i d).1; dirty = true }))) at)))

-- the group
pub armed-none : (g : Shape) (a tags_place : ℕ) (seal : LineSeal) (tags : Line) (none one two : List (ℕ × Line)) → none ≡ [] → tags_place ≡ line_of_tag g a → tags ≡ tag_only seal.tag → one ≡ none ++ (a, seal.cipher) ∷ [] → two ≡ one ++ (tags_place, tags) ∷ [] → two ≡ armed_lines g a seal []
armed-none g a tags_place seal tags none one two empty place line first second = search rules

pub armed-next : (g : Shape) (a place slot : ℕ) (seal : LineSeal) (pairs seen : List (ℕ × Node)) (i : ℕ) (line : Line) (d : ℕ × Node) (old new : List (ℕ × Line)) → seen ≡ pairs → i < length seen → place ≡ line_of_slot g slot → slot ≡ slot_of g (get_or seen i d).0 → line ≡ slot_line (get_or seen i d).0 (get_or seen i d).1
    → old ≡ armed_lines g a seal (take i pairs) → new ≡ old ++ (place, line) ∷ [] → new ≡ armed_lines g a seal (take (i + 1) pairs)
armed-next g a place slot seal pairs seen i line d old new same inside at here is before step =
    let entry : (place, line) ≡ (line_of_slot g (slot_of g (get_or seen i d).0), slot_line (get_or seen i d).0 (get_or seen i d).1) =
    ap (λ (n : ℕ). (n, line)) (at ∙ ap (line_of_slot g) here) ∙ ap (λ (l : Line). (line_of_slot g (slot_of g (get_or seen i d).0), l)) is in
    subst (λ (ps : List (ℕ × Node)). new ≡ armed_lines g a seal (take (i + 1) ps)) same
    (subst (λ (ps : List (ℕ × Node)). new ≡ armed_lines g a seal ps) (sym (take_more seen i d inside))
    (step
    ∙ (ap (λ (ls : List (ℕ × Line)). ls ++ (place, line) ∷ []) (before ∙ ap (λ (ps : List (ℕ × Node)). armed_lines g a seal (take i ps)) (sym same))
    ∙ (ap (λ (e : ℕ × Line). armed_lines g a seal (take i seen) ++ e ∷ []) entry
    ∙ sym (ap (λ (rest : List (ℕ × Line)). (a, seal.cipher) ∷ (line_of_tag g a, tag_only seal.tag) ∷ rest)
    (entries-more g (line_of_slot g) (take i seen) (get_or seen i d).0 (get_or seen i d).1))))))

-- ---- the digests of naming nodes

pub path-digests : (n height same start count made : ℕ) → same ≡ height → count ≡ risen_times (n * suc height) start → made ≡ risen_times (suc same) count → made ≡ risen_times ((n + 1) * suc height) start
path-digests n height same start count made is before next =
    let all : n * suc height + suc height ≡ (n + 1) * suc height = omega arith in
    next
    ∙ (ap (λ h. risen_times (suc h) count) is
    ∙ (ap (risen_times (suc height)) before
    ∙ (sym (risen_times-add (n * suc height) (suc height) start) ∙ ap (λ k. risen_times k start) all)))
