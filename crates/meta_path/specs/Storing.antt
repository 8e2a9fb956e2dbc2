-- New lines of a page's path are stored in the cache and told to the audit; a block is written back.
use Rattle.std.specs.Prelude.{ℕ, zero, suc, ◌≡◌, ◌≤◌, ◌<◌, ◌+◌, ◌-◌, nat_lt, Bool, false, List, length, map, Option, Some, None, slice_index_or, Contains}
use Rattle.pmem_base.specs.declared.lines.Line.{Line}
use Rattle.pmem_base.specs.Shape.{Shape}
use Rattle.pmem_base.specs.Layout.{pages, meta_line}
use Rattle.pmem_base.specs.Lines.{zero_line, line_at, put_lines}
use Rattle.suite.specs.Formulas.{Formulas}
use Rattle.bonsai_tree.specs.Positions.{path_of}
use Rattle.bonsai_tree.specs.Paths.{path_with, root_with}
use Rattle.board.specs.Device.{Device}
use Rattle.board.specs.Steps.{HasWritten}
use Rattle.seal_ledger.specs.Ledger.{LedgerState}
use Rattle.meta_cache.specs.declared.slot.Slot.{Slot}
use Rattle.meta_cache.specs.Banks.{Banks, set_of, set_index}
use Rattle.meta_cache.specs.Sets.{with_slot_line, with_mark}
use Rattle.meta_cache.specs.State.{CacheState, with_slots, ChangesSet}
use Rattle.meta_path.specs.Blocks.{path_at, slots_at, line_in, IsPathCached, dirty_count}

-- ---- storing

-- line j of a path's new lines, or zeros past the last
abbrev pub new_line : List (ℕ × Line) → ℕ → Line
new_line lines j = (slice_index_or lines j (0, zero_line)).1

-- these are lines of the page's path, from the top down
pub record IsPathOf (g : Shape) (page : ℕ) (lines : List (ℕ × Line)) : Type 0 where
  pub its_page : page < pages g
  pub positions : map (λ entry. entry.0) lines ≡ path_of g page

-- they are so of a page whose path is cached
pub record IsOfCachedPath (g : Shape) (banks : Banks) (lines : List (ℕ × Line)) : Type 0 where
  pub page : ℕ
  pub path : IsPathOf g page lines
  pub cached : IsPathCached g banks page

-- the lines and the root digest are those of the page's path made again over the true lines
pub record IsRenewed (g : Shape) (f : Formulas) (truth : List Line) (page : ℕ) (block : Line)
    (renewed : List (ℕ × Line)) (digest : List ℕ) : Type 0 where
  pub lines : renewed ≡ path_with g f (line_at truth) page block
  pub root : digest ≡ root_with g f (line_at truth) page block

-- a set in which position x has this line and this mark
abbrev pub stored_set : List Slot → ℕ → Line → Bool → List Slot
stored_set slots x line dirty = with_mark (with_slot_line slots x line) x dirty

-- the mark of level j after its new line was stored: the path's lowest lines, as many as stood in the group, are clean,
-- and those above dirty
abbrev pub stored_mark : Shape → ℕ → ℕ → Bool
stored_mark g grouped j = nat_lt j (g.levels + 1 - grouped)

-- the cache once the path's first n levels have their new lines
abbrev pub stored_levels : Shape → ℕ → ℕ → List (ℕ × Line) → ℕ → CacheState → CacheState
stored_levels g page grouped lines zero cache = cache
stored_levels g page grouped lines (suc n) cache =
    let below = stored_levels g page grouped lines n cache in
    with_slots below n (set_index g (path_at g page n))
    (stored_set (slots_at g below.banks n (path_at g page n)) (path_at g page n) (new_line lines n) (stored_mark g grouped n))

-- the path's first n levels have their new lines, and every other set is as it was
pub record IsStoredTo (g : Shape) (page : ℕ) (grouped : ℕ) (lines : List (ℕ × Line)) (n : ℕ)
    (old new : CacheState) : Type 0 where
  pub exact : new ≡ stored_levels g page grouped lines n old
  pub shape : new.shape ≡ old.shape
  pub stored :
      (j : ℕ) → j < n
      → slots_at g new.banks j (path_at g page j)
      ≡ stored_set (slots_at g old.banks j (path_at g page j)) (path_at g page j) (new_line lines j)
      (stored_mark g grouped j)
  pub elsewhere :
      (bank set : ℕ) → ((bank < n) × (set ≡ set_index g (path_at g page bank)) → ⊥)
      → set_of new.banks bank set ≡ set_of old.banks bank set

-- these lines are the true ones of their positions now
pub record HasMetaLines (lines : List (ℕ × Line)) (old new : LedgerState) : Type 0 where
  pub truth : new.truth ≡ put_lines lines old.truth
  pub count : length new.truth ≡ length old.truth
  pub marks : new.marks ≡ old.marks
  pub data_lines : new.data_lines ≡ old.data_lines
  pub exhibit : new.exhibit ≡ old.exhibit

-- a slot of a bank, before and now: it keeps its way and position; that of the path's position has the
-- new line and its mark, and every other one is unchanged
pub record IsStoredSlot (g : Shape) (page : ℕ) (grouped : ℕ) (lines : List (ℕ × Line)) (bank : ℕ)
    (before now : Slot) : Type 0 where
  pub way : now.way ≡ before.way
  pub position : now.position ≡ before.position
  pub off_path : ((bank ≤ g.levels) × (now.position ≡ path_at g page bank) → ⊥) → now ≡ before
  pub line : bank ≤ g.levels → now.position ≡ path_at g page bank → now.line ≡ new_line lines bank
  pub mark : bank ≤ g.levels → now.position ≡ path_at g page bank → now.dirty ≡ stored_mark g grouped bank

-- what storing a path keeps: each slot now is one from before, and each one from before is there
pub record KeepsSlots (g : Shape) (page : ℕ) (grouped : ℕ) (lines : List (ℕ × Line)) (old new : Banks) :
    Type 0 where
  pub slots_now :
      (bank set : ℕ) (now : Slot) → Contains (set_of new bank set) now
      → (before : Slot) × Contains (set_of old bank set) before
      × IsStoredSlot g page grouped lines bank before now
  pub slots_before :
      (bank set : ℕ) (before : Slot) → Contains (set_of old bank set) before
      → (now : Slot) × Contains (set_of new bank set) now
      × IsStoredSlot g page grouped lines bank before now

-- ---- writing back

-- the block at x of a bank was written to its place, and is clean
pub record IsCleaned (g : Shape) (bank x : ℕ) (old_cache new_cache : CacheState) (old new : Device) : Type 0 where
  pub cache :
      ChangesSet old_cache new_cache bank (set_index g x)
      (with_mark (slots_at g old_cache.banks bank x) x false)
  pub board : HasWritten old (meta_line g x) (line_in g old_cache.banks bank x) new

-- a slot of a bank, before and now, if the block at x of bank `cleaned` was written back: its slot is clean, and every other one is
-- unchanged
pub record IsCleanedSlot (cleaned x bank : ℕ) (before now : Slot) : Type 0 where
  pub way : now.way ≡ before.way
  pub position : now.position ≡ before.position
  pub line : now.line ≡ before.line
  pub same : ((bank ≡ cleaned) × (now.position ≡ x) → ⊥) → now ≡ before
  pub clean : bank ≡ cleaned → now.position ≡ x → now.dirty ≡ false

-- what writing a block back keeps: each slot now is one from before, and each one from before is there
pub record KeepsCleaned (cleaned x : ℕ) (old new : Banks) : Type 0 where
  pub slots_now :
      (bank set : ℕ) (now : Slot) → Contains (set_of new bank set) now
      → (before : Slot) × Contains (set_of old bank set) before × IsCleanedSlot cleaned x bank before now
  pub slots_before :
      (bank set : ℕ) (before : Slot) → Contains (set_of old bank set) before
      → (now : Slot) × Contains (set_of new bank set) now × IsCleanedSlot cleaned x bank before now

-- the oldest dirty block, by bank and position, was written back, and one block less is dirty; where
-- none is dirty the cache is as it was
abbrev pub IsOneWrittenBack : Shape → Option (ℕ × ℕ) → CacheState → CacheState → Device → Device → Type 0
IsOneWrittenBack g None old_cache new_cache old new = (new_cache ≡ old_cache) × (new ≡ old)
IsOneWrittenBack g (Some found) old_cache new_cache old new =
    IsCleaned g found.0 found.1 old_cache new_cache old new
    × KeepsCleaned found.0 found.1 old_cache.banks new_cache.banks
    × (dirty_count g new_cache.banks + 1 ≡ dirty_count g old_cache.banks)
