-- A block is written back and slot_marked clean.
use Rattle.std.proofs.Common.{rules, ◌≡◌, ◌≢◌, ℕ, ◌+◌, ◌<◌, ◌≤◌, Bool, true, false, cond, List, [], ◌∷◌, get_or, map, refl, sym, ap, ap₂, subst, ◌∙◌, ◌⊎◌, inl, inr, arith, mod-lt}
use Rattle.std.specs.Prelude.{◌==◌, ◌&&◌, ◌||◌, Contains}
use Rattle.std.specs.List.{list_any}
use Rattle.std.proofs.lemmas.Bool.{cases_eq, cases_Bool, cond-true, cond-false, eq-eqb, eqb-true, ne_eqb, and_parts, false≢true}
use Rattle.std.proofs.lemmas.List.{map-id}
use Rattle.std.proofs.lemmas.List.Sums.{sum_by-cons}
use Rattle.std.proofs.lemmas.List.Elements.{All-contains}
use Rattle.std.proofs.lemmas.List.Folds.{Any-from_list_any, map_fixed}
use Rattle.pmem_base.specs.declared.lines.Line.{Line}
use Rattle.pmem_base.specs.Shape.{Shape}
use Rattle.pmem_base.specs.Layout.{meta_lines}
use Rattle.pmem_base.specs.Lines.{line_at}
use Rattle.pmem_base.proofs.ListLaws.{AllPairs-tail, AllPairs-head}
use Rattle.bonsai_tree.specs.Positions.{level_of}
use Rattle.meta_cache.specs.declared.slot.Slot.{Slot}
use Rattle.meta_cache.specs.Banks.{Banks, set_of, set_index, is_cached, is_cached_dirty}
use Rattle.meta_cache.specs.Sets.{holds, slot_marked, with_mark, ArePositionsApart}
use Rattle.meta_cache.specs.State.{CacheState, ChangesSet}
use Rattle.meta_path.specs.Blocks.{slots_at, dirty_in, dirty_count, IsOfItsBank, AreInTheirBanks, AreCachedTrue}
use Rattle.meta_path.specs.Storing.{IsCleanedSlot, KeepsCleaned}
use Rattle.meta_path.proofs.SetFacts.{holds_slot, map_contains, slots_from, slots_to}
use Rattle.meta_path.proofs.PathFacts.{its_bank_of, AreSets}
use Rattle.meta_path.proofs.KeepLemmas.{sum_below-one, sum_below-same}
use Rattle.meta_path.proofs.KeepLaws.{all_of}

-- ---- a dirty position

-- the dirty slot of a position
pub record IsDirtyAt (g : Shape) (banks : Banks) (bank x : ℕ) : Type 0 where
  pub slot : Slot
  pub stands : Contains (slots_at g banks bank x) slot
  pub position : slot.position ≡ x
  pub dirty : slot.dirty ≡ true

pub dirty_at : (g : Shape) (banks : Banks) (bank x : ℕ) → is_cached_dirty g banks bank x ≡ true → IsDirtyAt g banks bank x
dirty_at g banks bank x dirty = search (rules, Any-from_list_any, and_parts, eqb-true)

pub dirty_is_cached : (g : Shape) (banks : Banks) (bank x : ℕ) → is_cached_dirty g banks bank x ≡ true
    → is_cached g banks bank x ≡ true
dirty_is_cached g banks bank x dirty =
    let at : IsDirtyAt g banks bank x = dirty_at g banks bank x dirty in
    ap (holds (slots_at g banks bank x)) (sym at.position) ∙ holds_slot (slots_at g banks bank x) at.slot at.stands

pub dirty_on_tree : (g : Shape) (banks : Banks) (bank x : ℕ) → AreInTheirBanks g banks
    → is_cached_dirty g banks bank x ≡ true → x < meta_lines g
dirty_on_tree g banks bank x its dirty =
    let at : IsDirtyAt g banks bank x = dirty_at g banks bank x dirty in
    subst (λ y. y < meta_lines g) at.position (its_bank_of g banks bank (set_index g x) at.slot its at.stands).on_tree

-- ---- what a mark changes

-- a slot after its position was slot_marked
abbrev pub mark_at : ℕ → Bool → Slot → Slot
mark_at x dirty slot = cond (slot.position == x) (slot_marked slot dirty) slot

pub mark_at-position : (x : ℕ) (dirty : Bool) (slot : Slot) → (mark_at x dirty slot).position ≡ slot.position
mark_at-position x dirty slot = search rules

pub mark_at-line : (x : ℕ) (dirty : Bool) (slot : Slot) → (mark_at x dirty slot).line ≡ slot.line
mark_at-line x dirty slot = search rules

-- a slot after a mark was one before
pub with_mark_contains : (slots : List Slot) (x : ℕ) (dirty : Bool) (slot : Slot) → Contains (with_mark slots x dirty) slot
    → (before : Slot) × Contains slots before × (mark_at x dirty before ≡ slot)
unfolding with_mark
with_mark_contains slots x dirty slot found = map_contains (mark_at x dirty) slots slot found

-- ---- what holds of positions and lines

-- one set changes, and each of its slots has the position and the line of one from before
pub record IsMarkedSet (old new : CacheState) (bank set : ℕ) (slots : List Slot) : Type 0 where
  pub changes : ChangesSet old new bank set slots
  pub from : (slot : Slot) → Contains slots slot
      → (before : Slot) × Contains (set_of old.banks bank set) before × (before.position ≡ slot.position) × (before.line ≡ slot.line)

-- a slot now is at the position and has the line of one from before
pub marked_from : (old new : CacheState) (bank set : ℕ) (slots : List Slot) → IsMarkedSet old new bank set slots
    → (bank' set' : ℕ) (slot : Slot) → Contains (set_of new.banks bank' set') slot
    → (before : Slot) × Contains (set_of old.banks bank' set') before × (before.position ≡ slot.position) × (before.line ≡ slot.line)
marked_from old new bank set slots h bank' set' slot found = by (cases_eq bank' bank) (cases_eq set' set)
  where
    Goal : Type 0
    Goal = (before : Slot) × Contains (set_of old.banks bank' set') before × (before.position ≡ slot.position) × (before.line ≡ slot.line)

    same : ((bank' ≡ bank) × (set' ≡ set) → ⊥) → Goal
    same apart = (slot, subst (λ s. Contains s slot) (h.changes.elsewhere bank' set' apart) found, refl, refl)

    by : (bank' ≡ bank) ⊎ (bank' ≡ bank → ⊥) → (set' ≡ set) ⊎ (set' ≡ set → ⊥) → Goal
    by (inl here) (inl there) =
        let place : set_of new.banks bank' set' ≡ slots = ap₂ (set_of new.banks) here there ∙ h.changes.here in
        let before = h.from slot (subst (λ s. Contains s slot) place found) in
        (before.0, subst (λ s. Contains s before.0) (sym (ap₂ (set_of old.banks) here there)) before.1, before.2, before.3)
    by (inl here) (inr other) = same (λ e. other e.1)
    by (inr other) which = same (λ e. other e.0)

pub AreInTheirBanks-marked : (g : Shape) (old new : CacheState) (bank set : ℕ) (slots : List Slot)
    → IsMarkedSet old new bank set slots → AreInTheirBanks g old.banks → AreInTheirBanks g new.banks
AreInTheirBanks-marked g old new bank set slots h its =
    record {
      each = λ bank' set'.
          all_of (IsOfItsBank g bank') (set_of new.banks bank' set')
          (λ slot found. moved bank' set' slot (marked_from old new bank set slots h bank' set' slot found));
    }
  where
    moved : (bank' set' : ℕ) (slot : Slot)
        → ((before : Slot) × Contains (set_of old.banks bank' set') before × (before.position ≡ slot.position) × (before.line ≡ slot.line))
        → IsOfItsBank g bank' slot
    moved bank' set' slot before =
        let was : IsOfItsBank g bank' before.0 = its_bank_of g old.banks bank' set' before.0 its before.1 in
        record {
          on_tree = subst (λ y. y < meta_lines g) before.2 was.on_tree;
          its_bank = ap level_of (sym before.2) ∙ was.its_bank;
        }

pub AreCachedTrue-marked : (old new : CacheState) (bank set : ℕ) (slots : List Slot) (truth : List Line)
    → IsMarkedSet old new bank set slots → AreCachedTrue old.banks truth → AreCachedTrue new.banks truth
AreCachedTrue-marked old new bank set slots truth h is_true =
    record {
      each = λ bank' set'.
          all_of (λ slot. slot.line ≡ line_at truth slot.position) (set_of new.banks bank' set')
          (λ slot found. moved bank' set' slot (marked_from old new bank set slots h bank' set' slot found));
    }
  where
    moved : (bank' set' : ℕ) (slot : Slot)
        → ((before : Slot) × Contains (set_of old.banks bank' set') before × (before.position ≡ slot.position) × (before.line ≡ slot.line))
        → slot.line ≡ line_at truth slot.position
    moved bank' set' slot before =
        sym before.3
        ∙ All-contains (λ (s : Slot). s.line ≡ line_at truth s.position) (set_of old.banks bank' set') before.0
        (is_true.each bank' set') before.1
        ∙ ap (line_at truth) before.2

pub IsMarkedSet-with_mark : (old new : CacheState) (bank set x : ℕ) (dirty : Bool)
    → ChangesSet old new bank set (with_mark (set_of old.banks bank set) x dirty)
    → IsMarkedSet old new bank set (with_mark (set_of old.banks bank set) x dirty)
IsMarkedSet-with_mark old new bank set x dirty changes =
    record {
      changes = changes;
      from = λ slot found.
          let before = with_mark_contains (set_of old.banks bank set) x dirty slot found in (
            before.0,
            before.1,
            sym (mark_at-position x dirty before.0) ∙ ap (λ (s : Slot). s.position) before.2,
            sym (mark_at-line x dirty before.0) ∙ ap (λ (s : Slot). s.line) before.2,
          );
    }

-- ---- one dirty slot less

abbrev marks : Slot → ℕ
marks slot = cond slot.dirty 1 0

-- the other slots of a set aren't at its first one's position
rest_marked : (slot : Slot) (slots : List Slot) (x : ℕ) → slot.position ≡ x → ArePositionsApart (slot ∷ slots)
    → map (mark_at x false) slots ≡ slots
rest_marked slot slots x here apart =
    map_fixed (mark_at x false) slots
    (λ k d h.
    cond-false ((get_or slots k d).position == x) (slot_marked (get_or slots k d) false) (get_or slots k d)
    (ne_eqb (get_or slots k d).position x
    (λ e. AllPairs-head (λ (a b : Slot). a.position ≢ b.position) slot slots apart k d h (here ∙ sym e))))

rest_clean : (slot : Slot) (slots : List Slot) (x : ℕ) → slot.position ≡ x → ArePositionsApart (slot ∷ slots)
    → list_any (λ (s : Slot). s.position == x && s.dirty) slots ≡ true → ⊥
rest_clean slot slots x here apart dirty =
    let found = Any-from_list_any (λ (s : Slot). s.position == x && s.dirty) slots dirty in
    let parts : (found.1.position == x ≡ true) × (found.1.dirty ≡ true) = search (rules, and_parts) in
    AllPairs-head (λ (a b : Slot). a.position ≢ b.position) slot slots apart found.0 found.1 found.2
    (here ∙ sym (eqb-true found.1.position x parts.0) ∙ ap (λ (s : Slot). s.position) (sym found.3))

pub dirty_in-cleaned : (slots : List Slot) (x : ℕ) → ArePositionsApart slots
    → list_any (λ (s : Slot). s.position == x && s.dirty) slots ≡ true
    → dirty_in (with_mark slots x false) + 1 ≡ dirty_in slots
unfolding with_mark
dirty_in-cleaned [] x apart dirty = absurd (false≢true dirty)
dirty_in-cleaned (slot ∷ slots) x apart dirty =
    by_test (cases_Bool (slot.position == x)) dirty
    (λ rest. dirty_in-cleaned slots x (AllPairs-tail (λ (a b : Slot). a.position ≢ b.position) slot slots apart) rest)
  where
    Rest : Type 0
    Rest = list_any (λ (s : Slot). s.position == x && s.dirty) slots ≡ true
        → dirty_in (map (mark_at x false) slots) + 1 ≡ dirty_in slots

    first : (mark : Bool) → slot.dirty ≡ mark → slot.position ≡ x
        → (mark || list_any (λ (s : Slot). s.position == x && s.dirty) slots) ≡ true → marks slot ≡ 1
    first true is here any = ap (λ (b : Bool). cond b 1 0) is
    first false is here any = absurd (rest_clean slot slots x here apart any)

    by_test : ((slot.position == x) ≡ true) ⊎ ((slot.position == x) ≡ false)
        → ((slot.position == x && slot.dirty) || list_any (λ (s : Slot). s.position == x && s.dirty) slots) ≡ true → Rest
        → dirty_in (mark_at x false slot ∷ map (mark_at x false) slots) + 1 ≡ dirty_in (slot ∷ slots)
    by_test (inl same) any rest =
        let here : slot.position ≡ x = eqb-true slot.position x same in
        let one : marks slot ≡ 1 =
        first slot.dirty refl here (ap (λ (b : Bool). (b && slot.dirty) || list_any (λ (s : Slot). s.position == x && s.dirty) slots) (sym same) ∙ any) in
        let none : marks (mark_at x false slot) ≡ 0 = search (rules, cond-true) in
        omega (
          arith,
          one,
          none,
          ap dirty_in (rest_marked slot slots x here apart),
          sum_by-cons marks slot slots,
          sum_by-cons marks (mark_at x false slot) (map (mark_at x false) slots),
        )
    by_test (inr other) any rest =
        let kept : marks (mark_at x false slot) ≡ marks slot = search (rules, cond-false) in
        let more : dirty_in (map (mark_at x false) slots) + 1 ≡ dirty_in slots = search rules in
        omega (
          arith,
          kept,
          more,
          sum_by-cons marks slot slots,
          sum_by-cons marks (mark_at x false slot) (map (mark_at x false) slots),
        )

-- so of the whole cache
pub dirty_count-cleaned : (g : Shape) (old new : CacheState) (bank x : ℕ) → AreSets g old.banks → 1 ≤ g.sets
    → bank ≤ g.levels → is_cached_dirty g old.banks bank x ≡ true
    → ChangesSet old new bank (set_index g x) (with_mark (slots_at g old.banks bank x) x false)
    → dirty_count g new.banks + 1 ≡ dirty_count g old.banks
unfolding dirty_count
dirty_count-cleaned g old new bank x sets some low dirty changes =
    sum_below-one _ _ (g.levels + 1) bank 1 (omega arith)
    (sum_below-one (λ set. dirty_in (set_of new.banks bank set)) (λ set. dirty_in (set_of old.banks bank set)) g.sets
    _ 1 (mod-lt x (omega (arith, some))) (ap (λ slots. dirty_in slots + 1) changes.here
    ∙ dirty_in-cleaned _ x (sets.each bank _).distinct_positions dirty) (λ set h other. ap dirty_in (changes.elsewhere bank set (λ e. other e.1))))
    (λ other h apart.
    sum_below-same (λ set. dirty_in (set_of new.banks other set)) (λ set. dirty_in (set_of old.banks other set)) g.sets
    (λ set l. ap dirty_in (changes.elsewhere other set (λ e. apart e.0))))

-- ---- each slot

mark_at-is : (cleaned x bank : ℕ) (slot : Slot) → bank ≡ cleaned → IsCleanedSlot cleaned x bank slot (mark_at x false slot)
mark_at-is cleaned x bank slot here = search (rules, cases_Bool, cond-true, eqb-true, cond-false, false≢true, eq-eqb)

-- a slot of any other set
kept_slot : (g : Shape) (cleaned x bank set : ℕ) (slot : Slot) → set_index g slot.position ≡ set
    → ((bank ≡ cleaned) × (set ≡ set_index g x) → ⊥) → IsCleanedSlot cleaned x bank slot slot
kept_slot g cleaned x bank set slot its apart = search rules

pub KeepsCleaned-from : (g : Shape) (cleaned x : ℕ) (old new : CacheState) → AreSets g old.banks
    → ChangesSet old new cleaned (set_index g x) (with_mark (slots_at g old.banks cleaned x) x false)
    → KeepsCleaned cleaned x old.banks new.banks
unfolding with_mark
KeepsCleaned-from g cleaned x old new sets changes =
    record {
      slots_now = slots_from (IsCleanedSlot cleaned x) (set_of old.banks) (set_of new.banks) each;
      slots_before = slots_to (IsCleanedSlot cleaned x) (set_of old.banks) (set_of new.banks) each;
    }
  where
    kept : (bank set : ℕ) → ((bank ≡ cleaned) × (set ≡ set_index g x) → ⊥)
        → (f : Slot → Slot) × (set_of new.banks bank set ≡ map f (set_of old.banks bank set))
        × ((slot : Slot) → Contains (set_of old.banks bank set) slot → IsCleanedSlot cleaned x bank slot (f slot))
    kept bank set apart = (
      λ slot. slot,
      changes.elsewhere bank set apart ∙ sym (map-id (set_of old.banks bank set)),
      λ slot found.
          kept_slot g cleaned x bank set slot
          (All-contains (λ (s : Slot). set_index g s.position ≡ set) (set_of old.banks bank set) slot (sets.each bank set).its_positions found)
          apart,
    )

    each : (bank set : ℕ) → (f : Slot → Slot) × (set_of new.banks bank set ≡ map f (set_of old.banks bank set))
        × ((slot : Slot) → Contains (set_of old.banks bank set) slot → IsCleanedSlot cleaned x bank slot (f slot))
    each bank set =
        elim (cases_eq bank cleaned) [
          | inr other ↦ kept bank set (λ e. other e.0)
          | inl here ↦
              elim (cases_eq set (set_index g x)) [
                | inr other ↦ kept bank set (λ e. other e.1)
                | inl there ↦ (
                  mark_at x false,
                  ap₂ (set_of new.banks) here there ∙ changes.here
                      ∙ ap (λ slots. map (mark_at x false) slots) (sym (ap₂ (set_of old.banks) here there)),
                  λ slot found. mark_at-is cleaned x bank slot here,
                )
              ]
        ]
