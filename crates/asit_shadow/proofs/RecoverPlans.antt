-- The plans of recovery, at each of their ends.
use Rattle.std.proofs.Common.{◌≡◌, ◌≢◌, ◌<◌, ℕ, length, map, arith, true, false, List, [], ◌∷◌, Result, Ok, Err, refl, sym, ap, subst, subst₂, ◌∙◌, rules}
use Rattle.asit_shadow.proofs.Common.{Option, None, slice_set, ◌&&◌, ext_get_or, length-map, get_or-map, cases_Bool, false≢true, and_parts, Line, Regs, risen_times, IsLine, line_at, same_bytes, Shape, Device, HasRead, WasCut, Setup, the_cut, done, Follows, is_done, is_stopped, read_then, read_cut, bind_ok, bind_err, mapped_follows, Work, line_of_slot, with_exhibit, clash_of, shadow_digests, chosen, not_chosen, TreeRec, slot_read, CachedNode, TreeState, cache_at, RecoverParts, recover_parts, slots_plan, cached_named, recovered_engine, recovery_work, same_lines}
use Rattle.pmem_base.specs.Lines.{zero_line, line_of}
use Rattle.pmem_base.proofs.ByteLaws.{same_bytes-from, same_bytes-true}
use Rattle.seal_ledger.proofs.NoteLemmas.{other_bytes, same_line}
use Rattle.commit_regs.specs.Plans.{redo_plan}
use Rattle.counter_tree.specs.Shadow.{shadow_root}
use Rattle.asit_shadow.specs.declared.recovery.TreeRec.TheVariants as Fail
use Rattle.asit_shadow.specs.RecoverPlans.{slot_turn, cache_named, seen_plan, root_plan, fill_plan}

-- ---- a slot's line

module _ (g : Shape) (at : RecoverParts) (i : ℕ) (slots : List Line) {old new : Device} where
  pub slot_was_read : {line : Line} → HasRead old (line_of_slot g i) line new → IsLine line
      → Follows (slot_turn g at i slots) old new (Ok (slice_set slots i line))
  unfolding slot_turn
  slot_was_read {line = line} was whole = read_then (at, Fail.Cut) was whole (is_done (slice_set slots i line) new)

  pub slot_unread : WasCut old new → old.live ≡ false → Follows (slot_turn g at i slots) old new (Err (at, Fail.Cut))
  unfolding slot_turn
  slot_unread was off = read_cut (at, Fail.Cut) (line_of_slot g i) (λ line. done (slice_set slots i line)) was off

-- each slot of the cache has what its line names
pub cache_named-is : (g : Shape) (slots : List Line) (cache : List (Option CachedNode)) → length cache ≡ length slots
    → ((i : ℕ) → i < length cache → cache_at cache i ≡ cached_named g (slot_read (line_at slots i))) → cache ≡ cache_named g slots
unfolding cache_named
cache_named-is g slots cache long each =
    let named : Line → Option CachedNode = λ line. cached_named g (slot_read line) in
    ext_get_or None cache (map named slots) (long ∙ sym (length-map slots named))
    (λ i low. each i low ∙ sym (get_or-map named slots i zero_line None (omega (arith, low, long))))

-- ---- what they are compared with

same_lines-from : (first second : List Line) → first ≡ second → same_lines first second ≡ true
same_lines-from first second e = subst (λ l. same_lines first l ≡ true) e (itself first)
  where
    itself : (lines : List Line) → same_lines lines lines ≡ true
    itself [] = refl
    itself (line ∷ lines) = subst₂ (λ a b. (a && b) ≡ true) (sym (same_line line line refl)) (sym (itself lines)) refl

same_lines-to : (first second : List Line) → same_lines first second ≡ true → first ≡ second
same_lines-to [] [] e = refl
same_lines-to [] (other ∷ second) e = absurd (false≢true e)
same_lines-to (line ∷ first) [] e = absurd (false≢true e)
same_lines-to (line ∷ first) (other ∷ second) e =
    let parts = and_parts (same_bytes line.0 other.0) (same_lines first second) e in
    let here : line ≡ other = ap line_of (same_bytes-true line.0 other.0 parts.0) in
    let rest = same_lines-to first second parts.1 in
    λ i. here i ∷ rest i

other_lines : (first second : List Line) → first ≢ second → same_lines first second ≡ false
other_lines first second differ = search (rules, cases_Bool, same_lines-to)

module _ (setup : Setup) (kept : List ℕ) (at : RecoverParts) (slots : List Line) (d : Device) where
  abbrev made : RecoverParts
  made = recover_parts at.watch (risen_times (shadow_digests setup.shape) at.digests)

  abbrev found : List ℕ
  found = shadow_root setup.shape setup.formulas slots

  pub root_refused : kept ≢ found → Follows (root_plan setup kept at slots) d d (Err (made, Fail.Shadow kept found))
  unfolding root_plan
  root_refused differ = not_chosen _ (other_bytes kept found differ) (is_stopped (made, Fail.Shadow kept found) d)

  module _ (is : kept ≡ found) where
    pub slots_accepted : slots ≡ at.watch.slots
        → Follows (root_plan setup kept at slots) d d (Ok (made, (recovered_engine setup slots, recovery_work setup.shape)))
    unfolding root_plan seen_plan
    slots_accepted same = search (rules, chosen, same_bytes-from, same_lines-from, is_done)

    pub slots_shown : slots ≢ at.watch.slots
        → Follows (root_plan setup kept at slots) d d (Err (recover_parts (with_exhibit at.watch (clash_of at.watch slots)) made.digests, Fail.Shown))
    unfolding root_plan seen_plan
    slots_shown differ = search (rules, chosen, same_bytes-from, not_chosen, other_lines, is_stopped)

-- ---- the whole

module _ (setup : Setup) (regs : Regs) (start : List Line) (at : RecoverParts) {old : Device} where
  pub fill_cut : {new : Device} → Follows (redo_plan regs) old new (Err the_cut) → Follows (fill_plan setup regs start at) old new (Err (at, Fail.Cut))
  unfolding fill_plan
  fill_cut it = bind_err _ (mapped_follows _ _ it)

  module _ {mid : Device} (redone : Follows (redo_plan regs) old mid (Ok tt)) where
    pub fill_unread : {new : Device} → Follows (slots_plan setup.shape at start) mid new (Err (at, Fail.Cut))
        → Follows (fill_plan setup regs start at) old new (Err (at, Fail.Cut))
    unfolding fill_plan
    fill_unread it = bind_ok _ (mapped_follows _ _ redone) (bind_err (root_plan setup regs.root at) it)

    pub fill_read : {new : Device} (slots : List Line) {end : Result (RecoverParts × (TreeState × Work)) (RecoverParts × TreeRec)}
        → Follows (slots_plan setup.shape at start) mid new (Ok slots) → Follows (root_plan setup regs.root at slots) new new end
        → Follows (fill_plan setup regs start at) old new end
    unfolding fill_plan
    fill_read slots first second = bind_ok _ (mapped_follows _ _ redone) (bind_ok (root_plan setup regs.root at) first second)
