-- New lines are stored, level by level.
use Rattle.std.proofs.lemmas.Grind.{common_steps}
use Rattle.std.proofs.Common.{rules, ◌≡◌, ◌≢◌, ℕ, ◌+◌, ◌<◌, ◌≤◌, Bool, true, cond, List, [], ◌∷◌, ◌++◌, length, get_or, take, map, set, sym, ap, subst, ◌∙◌, inl, inr, arith}
use Rattle.std.specs.Prelude.{◌==◌, ◌-◌, nat_lt, Contains}
use Rattle.std.proofs.lemmas.Bool.{cases_eq, cases_Bool, cond-true, cond-false, eq-eqb, eqb-true, false≢true}
use Rattle.std.proofs.lemmas.List.{map-id, length-map, take_more, get_or-map}
use Rattle.std.proofs.lemmas.List.Elements.{All-contains}
use Rattle.std.proofs.lemmas.Simd.{map-map}
use Rattle.pmem_base.specs.declared.lines.Line.{Line}
use Rattle.pmem_base.specs.Shape.{Shape}
use Rattle.pmem_base.specs.Layout.{meta_lines}
use Rattle.pmem_base.specs.Lines.{put_lines}
use Rattle.bonsai_tree.specs.Positions.{level_of}
use Rattle.pmem_base.proofs.LineSets.{put_lines-append}
use Rattle.bonsai_tree.proofs.PathPositions.{length-path_of}
use Rattle.seal_ledger.specs.Ledger.{LedgerState}
use Rattle.seal_ledger.specs.Notes.{HasMeta, with_truth}
use Rattle.seal_ledger.proofs.NoteLemmas.{same_ledger}
use Rattle.meta_cache.specs.declared.slot.Slot.{Slot}
use Rattle.meta_cache.specs.Banks.{Banks, set_of, set_index, is_cached}
use Rattle.meta_cache.specs.Sets.{lined, with_slot_line, with_mark}
use Rattle.meta_cache.specs.State.{CacheState, ChangesSet}
use Rattle.meta_cache.proofs.CacheLemmas.{with_slots-twice}
use Rattle.meta_cache.proofs.WayLemmas.{KeepsWays-with_slot_line, KeepsWays-with_mark}
use Rattle.meta_path.specs.Blocks.{path_at, slots_at, IsPathCached, IsOfItsBank, AreInTheirBanks}
use Rattle.meta_path.specs.Storing.{new_line, IsPathOf, stored_set, stored_mark, IsStoredTo, HasMetaLines, IsStoredSlot, KeepsSlots}
use Rattle.meta_path.proofs.SetFacts.{slots_from, slots_to, holds-with_line, holds-with_mark}
use Rattle.meta_path.proofs.PathFacts.{AreSets, its_bank_of, path_at-lt}
use Rattle.meta_path.proofs.KeepLemmas.{path_set_or_not}
use Rattle.meta_path.proofs.WriteLemmas.{mark_at}
use Rattle.meta_path.proofs.KeepLaws.{all_of}

-- ---- one level

-- a line and a mark are one change
pub stored_twice : (old mid new : CacheState) (bank x : ℕ) (line : Line) (dirty : Bool)
    → ChangesSet old mid bank (set_index old.shape x) (with_slot_line (slots_at old.shape old.banks bank x) x line)
    → ChangesSet mid new bank (set_index mid.shape x) (with_mark (slots_at mid.shape mid.banks bank x) x dirty)
    → ChangesSet old new bank (set_index old.shape x) (stored_set (slots_at old.shape old.banks bank x) x line dirty)
stored_twice old mid new bank x line dirty one two = search (rules, with_slots-twice, KeepsWays-with_mark, holds-with_line, KeepsWays-with_slot_line)

-- the position is still cached
pub lined_cached : (old mid : CacheState) (bank x : ℕ) (line : Line)
    → ChangesSet old mid bank (set_index old.shape x) (with_slot_line (slots_at old.shape old.banks bank x) x line)
    → is_cached old.shape old.banks bank x ≡ true → is_cached mid.shape mid.banks bank x ≡ true
lined_cached old mid bank x line one cached = search (rules, holds-with_line)

-- ---- the path's lines

pub length-path_lines : (g : Shape) (page : ℕ) (lines : List (ℕ × Line)) → IsPathOf g page lines → length lines ≡ g.levels + 1
length-path_lines g page lines path = search (rules, length-map, length-path_of)

pub position_of : (g : Shape) (page : ℕ) (lines : List (ℕ × Line)) (j : ℕ) (d : ℕ × Line) → IsPathOf g page lines
    → j < length lines → (get_or lines j d).0 ≡ path_at g page j
position_of g page lines j d path h = search (rules, get_or-map)

-- ---- level by level

pub IsStoredTo-none : (g : Shape) (page : ℕ) (grouped : ℕ) (lines : List (ℕ × Line)) (cache : CacheState)
    → IsStoredTo g page grouped lines 0 cache cache
IsStoredTo-none g page grouped lines cache = search rules

pub IsStoredTo-more : {g : Shape} {page : ℕ} {grouped : ℕ} {lines : List (ℕ × Line)} {n : ℕ} {old mid new : CacheState}
    → IsStoredTo g page grouped lines n old mid
    → ChangesSet mid new n (set_index g (path_at g page n))
    (stored_set (slots_at g mid.banks n (path_at g page n)) (path_at g page n) (new_line lines n) (stored_mark g grouped n))
    → IsStoredTo g page grouped lines (n + 1) old new
IsStoredTo-more {g} {page} {grouped} {lines} {n} {old} {mid} {new} before level =
    record {
      exact = search rules;
      shape = level.shape ∙ before.shape;
      stored = λ j h.
          elim (cases_eq j n) [
            | inl same ↦ search rules
            | inr other ↦
                level.elsewhere j (set_index g (path_at g page j)) (λ e. other e.0) ∙ before.stored j (omega arith)
          ];
      elsewhere =
          λ bank set apart.
          level.elsewhere bank set
          (λ e. apart (omega (arith, e.0), e.1 ∙ ap (λ k. set_index g (path_at g page k)) (sym e.0)))
          ∙ before.elsewhere bank set (λ e. apart (omega (arith, e.0), e.1));
    }

-- the change of a level, in the path's words
pub level_stored : (g : Shape) (page : ℕ) (grouped : ℕ) (lines : List (ℕ × Line)) (n : ℕ) (entry d : ℕ × Line) (mark : Bool)
    (mid new : CacheState) → IsPathOf g page lines → n < length lines → mid.shape ≡ g → entry ≡ get_or lines n d
    → mark ≡ stored_mark g grouped n
    → ChangesSet mid new n (set_index mid.shape entry.0) (stored_set (slots_at mid.shape mid.banks n entry.0) entry.0 entry.1 mark)
    → ChangesSet mid new n (set_index g (path_at g page n))
    (stored_set (slots_at g mid.banks n (path_at g page n)) (path_at g page n) (new_line lines n) (stored_mark g grouped n))
level_stored g page grouped lines n entry d mark mid new path h its is mark_is changes = grind (arith, common_steps)

-- the next position is cached still
pub next_cached : (g : Shape) (page : ℕ) (grouped : ℕ) (lines : List (ℕ × Line)) (n : ℕ) (entry d : ℕ × Line)
    (old mid : CacheState) → IsPathOf g page lines → n < length lines → old.shape ≡ g → entry ≡ get_or lines n d
    → IsStoredTo g page grouped lines n old mid → IsPathCached g old.banks page
    → is_cached mid.shape mid.banks n entry.0 ≡ true
next_cached g page grouped lines n entry d old mid path h its is stored cached = search (rules, position_of, length-path_lines)

-- and on the tree
pub next_on_tree : (g : Shape) (page : ℕ) (lines : List (ℕ × Line)) (n : ℕ) (entry d : ℕ × Line)
    → IsPathOf g page lines → n < length lines → entry ≡ get_or lines n d → entry.0 < meta_lines g
next_on_tree g page lines n entry d path h is =
    subst (λ x. x < meta_lines g) (sym (ap (λ (e : ℕ × Line). e.0) is ∙ position_of g page lines n d path h))
    (path_at-lt g page n path.its_page (omega (arith, h, length-path_lines g page lines path)))

-- the mark that the code computes
pub mark_is : (levels n count grouped : ℕ) (mark : Bool) → count ≡ levels + 1 → mark ≡ nat_lt n (count - grouped)
    → mark ≡ nat_lt n (levels + 1 - grouped)
mark_is levels n count grouped mark same is = is ∙ ap (λ k. nat_lt n (k - grouped)) same

-- ---- the ledger

-- the ledger is known whole
pub HasMetaLines-is : (lines : List (ℕ × Line)) (old new : LedgerState) → HasMetaLines lines old new
    → new ≡ with_truth old (put_lines lines old.truth)
HasMetaLines-is lines old new it = search (rules, same_ledger)

pub HasMetaLines-none : (ledger : LedgerState) → HasMetaLines [] ledger ledger
HasMetaLines-none ledger = search rules

pub HasMetaLines-more : (lines : List (ℕ × Line)) (n x : ℕ) (line : Line) (d : ℕ × Line) (old mid new : LedgerState)
    → n < length lines → get_or lines n d ≡ (x, line) → HasMetaLines (take n lines) old mid → HasMeta mid new x line
    → HasMetaLines (take (n + 1) lines) old new
HasMetaLines-more lines n x line d old mid new h is before more =
    record {
      truth =
          more.truth ∙ ap (λ truth. set truth x line) before.truth
          ∙ sym (ap (λ entries. put_lines entries old.truth) (take_more lines n d h ∙ ap (λ (e : ℕ × Line). take n lines ++ e ∷ []) is)
          ∙ put_lines-append (take n lines) ((x, line) ∷ []) old.truth);
      count = more.count ∙ before.count;
      marks = more.marks ∙ before.marks;
      data_lines = more.data_lines ∙ before.data_lines;
      exhibit = more.exhibit ∙ before.exhibit;
    }

-- ---- what is kept

-- a slot after its position got a line and a mark
abbrev pub line_of_at : ℕ → Line → Slot → Slot
line_of_at x line slot = cond (slot.position == x) (lined slot line) slot

abbrev pub store_at : ℕ → Line → Bool → Slot → Slot
store_at x line dirty slot = mark_at x dirty (line_of_at x line slot)

-- it is the position's with the line and the mark, or is as it was
pub record IsStoreOf (x : ℕ) (line : Line) (dirty : Bool) (before now : Slot) : Type 0 where
  pub way : now.way ≡ before.way
  pub position : now.position ≡ before.position
  pub same : now.position ≢ x → now ≡ before
  pub its_line : now.position ≡ x → now.line ≡ line
  pub its_mark : now.position ≡ x → now.dirty ≡ dirty

pub store_at-is : (x : ℕ) (line : Line) (dirty : Bool) (slot : Slot) → IsStoreOf x line dirty slot (store_at x line dirty slot)
store_at-is x line dirty slot = search (rules, cases_Bool, mark_at, cond-true, eqb-true, cond-false, false≢true, eq-eqb)

stored_map : (slots : List Slot) (x : ℕ) (line : Line) (dirty : Bool) → stored_set slots x line dirty ≡ map (store_at x line dirty) slots
unfolding with_slot_line with_mark
stored_map slots x line dirty = map-map (mark_at x dirty) (line_of_at x line) slots

-- a slot of a set that is stored
stored_slot : (g : Shape) (page : ℕ) (grouped : ℕ) (lines : List (ℕ × Line)) (bank : ℕ) (before now : Slot)
    → IsStoreOf (path_at g page bank) (new_line lines bank) (stored_mark g grouped bank) before now
    → bank ≤ g.levels → IsStoredSlot g page grouped lines bank before now
stored_slot g page grouped lines bank before now of low = search rules

-- a slot of any other set
kept_slot : (g : Shape) (page : ℕ) (grouped : ℕ) (lines : List (ℕ × Line)) (bank set : ℕ) (slot : Slot)
    → set_index g slot.position ≡ set → ((bank < g.levels + 1) × (set ≡ set_index g (path_at g page bank)) → ⊥)
    → IsStoredSlot g page grouped lines bank slot slot
kept_slot g page grouped lines bank set slot its apart = search rules

module _ {g : Shape} {page : ℕ} {grouped : ℕ} {lines : List (ℕ × Line)} {old new : CacheState}
    (stored : IsStoredTo g page grouped lines (g.levels + 1) old new) where
  pub KeepsSlots-stored : AreSets g old.banks → KeepsSlots g page grouped lines old.banks new.banks
  KeepsSlots-stored sets =
      record {
        slots_now = slots_from (IsStoredSlot g page grouped lines) (set_of old.banks) (set_of new.banks) each;
        slots_before = slots_to (IsStoredSlot g page grouped lines) (set_of old.banks) (set_of new.banks) each;
      }
    where
      each : (bank set : ℕ) → (f : Slot → Slot) × (set_of new.banks bank set ≡ map f (set_of old.banks bank set))
          × ((slot : Slot) → Contains (set_of old.banks bank set) slot → IsStoredSlot g page grouped lines bank slot (f slot))
      each bank set =
          let x : ℕ = path_at g page bank in
          let line = new_line lines bank in
          let mark = stored_mark g grouped bank in
          elim (path_set_or_not g page (g.levels + 1) bank set) [
            | inl at ↦ (
              store_at x line mark,
              ap (set_of new.banks bank) at.its_set ∙ stored.stored bank at.reached
                  ∙ ap (λ slots. stored_set slots x line mark) (ap (set_of old.banks bank) (sym at.its_set))
                  ∙ stored_map (set_of old.banks bank set) x line mark,
              λ slot found. stored_slot g page grouped lines bank slot _ (store_at-is x line mark slot) (omega (arith, at.reached)),
            )
            | inr apart ↦ (
              λ slot. slot,
              stored.elsewhere bank set apart ∙ sym (map-id (set_of old.banks bank set)),
              λ slot found.
                  kept_slot g page grouped lines bank set slot
                  (All-contains (λ (s : Slot). set_index g s.position ≡ set) (set_of old.banks bank set) slot
                  (sets.each bank set).its_positions found)
                  apart,
            )
          ]

  -- each position is cached as it was
  is_cached-stored : (bank x : ℕ) → is_cached g new.banks bank x ≡ is_cached g old.banks bank x
  is_cached-stored bank x = search (rules, path_set_or_not, holds-with_mark, holds-with_line)

  pub IsPathCached-stored : {other : ℕ} → IsPathCached g old.banks other → IsPathCached g new.banks other
  IsPathCached-stored {other} cached =
      record { each = λ j le. is_cached-stored j (path_at g other j) ∙ cached.each j le }

pub AreInTheirBanks-stored : {g : Shape} {page : ℕ} {grouped : ℕ} {lines : List (ℕ × Line)} {old new : Banks}
    → KeepsSlots g page grouped lines old new → AreInTheirBanks g old → AreInTheirBanks g new
AreInTheirBanks-stored {g} {page} {grouped} {lines} {old} {new} keeps its =
    record {
      each = λ bank set.
          all_of (IsOfItsBank g bank) (set_of new bank set)
          (λ now found.
          let from = keeps.slots_now bank set now found in
          let was : IsOfItsBank g bank from.0 = its_bank_of g old bank set from.0 its from.1 in
          record {
            on_tree = subst (λ x. x < meta_lines g) (sym from.2.position) was.on_tree;
            its_bank = ap level_of from.2.position ∙ was.its_bank;
          });
    }
