-- What a read and a write do of the page's path before all else, and what they leave of it wherever they end.
use Rattle.std.specs.Prelude.{ℕ, zero, suc, Bool, ◌≡◌, ◌<◌, ◌≤◌, ◌+◌, ◌*◌, ◌%◌, ◌==◌, ◌&&◌, ◌⊎◌, true, false, List, length, Some, IsOk, Result, Ok, Err, ⊤}
use Rattle.std.specs.List.{list_any}
use Rattle.pmem_base.specs.declared.lines.Line.{Line}
use Rattle.pmem_base.specs.declared.lines.Ctr.{Ctr}
use Rattle.pmem_base.specs.declared.commands.Posted.{Posted}
use Rattle.pmem_base.specs.declared.registers.Regs.{Regs}
use Rattle.pmem_base.specs.Layout as layout
use Rattle.pmem_base.specs.Layout.{page_of, index_in_page}
use Rattle.pmem_base.specs.Counts.{risen_times}
use Rattle.pmem_base.specs.Registers.{IsValidRegs, not_done, without_group}
use Rattle.pmem_base.specs.declared.answers.Mark.{Mark}
use Rattle.pmem_base.specs.declared.answers.Mark.TheVariants.{Begin, Seal}
use Rattle.bonsai_tree.specs.Positions.{counter_position}
use Rattle.pmem_base.specs.Shape.{IsShape}
use Rattle.board.specs.Counts.{RisesBy}
use Rattle.board.specs.Device.{Device}
use Rattle.call_plan.specs.Bounds.{IsFront}
use Rattle.call_plan.specs.Following.{Follows}
use Rattle.commit_regs.specs.Groups.{redone_told}
use Rattle.meta_cache.specs.Banks.{is_cached}
use Rattle.meta_cache.specs.State.{IsCacheOf}
use Rattle.meta_path.specs.Blocks.{path_at, slots_at, AreInTheirBanks, IsPathCached}
use Rattle.meta_path.specs.Fetching.{spilled, HasFetchedSets}
use Rattle.meta_path.specs.Levels.{HasDirtyVictim}
use Rattle.meta_path.specs.Work.{told_line}
use Rattle.suite.specs.Formulas.{Formulas}
use Rattle.suite.specs.Setup.{Setup}
use Rattle.pmem_engine.specs.declared.fault.Fault.{Fault}
use Rattle.pmem_engine.specs.declared.fault.Fault.TheVariants as Fail
use Rattle.pmem_engine.specs.Engine.{ChipState}
use Rattle.pmem_engine.specs.Flushed.{cache_of}
use Rattle.pmem_engine.specs.KeptLaws.{left_at}
use Rattle.pmem_engine.specs.Plans.{Chip, read_plan, register_at}
use Rattle.pmem_engine.specs.CallFacts.{KeepsButPath}
use Rattle.pmem_engine.specs.Inner.{cached_block}
use Rattle.pmem_engine.specs.Writing.{overflow_of, register_to_finish}
use Rattle.pmem_engine.specs.WritePlans.{with_next_done, write_plan}

-- ---- what a fetch asks of the cache: what each engine has

-- the geometry's numbers are in their ranges, and each cached block lies in its set and in the bank of its level
pub record HasWholeCache (engine : ChipState) : Type 0 where
  pub geometry : IsShape engine.shape
  pub form : IsCacheOf engine.shape engine.cache
  pub its_banks : AreInTheirBanks engine.shape engine.cache

-- ---- how far the path was fetched

-- That many levels of the path, the first ones, were fetched, by the cache as it was: of the lines, those of the dirty blocks that were
-- evicted were written, one line write each. Nothing was latched, and the registers are as they were.
pub record HasFetchedLevels (page levels : ℕ) (before : Chip) (after : ChipState) (old new : Device) : Type 0 where
  pub on_path : levels ≤ before.engine.shape.levels + 1
  pub cache :
      HasFetchedSets before.engine.shape before.ledger.truth page levels (cache_of before.engine) (cache_of after)
  pub lines : new.lines ≡ redone_told (spilled before.engine.shape before.engine.cache page levels) old.lines
  pub writes :
      RisesBy (length (spilled before.engine.shape before.engine.cache page levels)) old.writes new.writes
  pub latches : new.latches ≡ old.latches
  pub regs : new.regs ≡ old.regs

-- the path's next level isn't cached
pub record IsNextAbsent (page levels : ℕ) (before : ChipState) : Type 0 where
  pub on_path : levels ≤ before.shape.levels
  pub absent : is_cached before.shape before.cache levels (path_at before.shape page levels) ≡ false

-- nor is it, and a dirty block has to give way to it
pub record IsWriteBackDue (page levels : ℕ) (before : ChipState) : Type 0 where
  pub next : IsNextAbsent page levels before
  pub victim : HasDirtyVictim before.shape (slots_at before.shape before.cache levels (path_at before.shape page levels))

-- all of them
abbrev pub IsWholePath : ℕ → ChipState → Type 0
IsWholePath levels before = levels ≡ before.shape.levels + 1

-- how many, by the fault: those above the line that is refused or clashes; if power that was on is cut, those before a write-back; and else
-- all of them
abbrev pub AreLevelsOf : ℕ → ℕ → ChipState → Bool → Fault → Type 0
AreLevelsOf page levels before live (Fail.Meta x) = IsNextAbsent page levels before × (x ≡ path_at before.shape page levels)
AreLevelsOf page levels before live Fail.Shown = IsNextAbsent page levels before ⊎ IsWholePath levels before
AreLevelsOf page levels before live Fail.Cut = live ≡ true → IsWriteBackDue page levels before
AreLevelsOf page levels before live (Fail.Tag at) = IsWholePath levels before
AreLevelsOf page levels before live (Fail.Spent spent) = IsWholePath levels before
AreLevelsOf page levels before live Fail.Down = ⊥

abbrev pub AreLevelsAt : {A : Type 0} → ℕ → ℕ → ChipState → Bool → Result (Chip × A) (Chip × Fault) → Type 0
AreLevelsAt page levels before live (Ok end) = IsWholePath levels before
AreLevelsAt page levels before live (Err left) = AreLevelsOf page levels before live left.1

-- ---- a read

-- some of the path's levels were fetched, and nothing else was written
pub record FetchesFirst {A : Type 0} (page : ℕ) (before : Chip) (old new : Device) (end : Result (Chip × A) (Chip × Fault)) : Type 0 where
  pub levels : ℕ
  pub fetched : HasFetchedLevels page levels before (left_at end).engine old new
  pub as_far : AreLevelsAt page levels before.engine old.live end

abbrev pub ReadsFetchFirst : Type 0
ReadsFetchFirst =
    (setup : Setup) (a : ℕ) (chip : Chip) (old new : Device) (end : Result (Chip × Line) (Chip × Fault))
    → HasWholeCache chip.engine → page_of a < layout.pages chip.engine.shape
    → Follows (read_plan setup old.regs a chip) old new end
    → FetchesFirst (page_of a) chip old new end

-- ---- a read whose path is cached

-- no line was written, no register latched and no digest made, and power that was on is on
pub record TakesNoStep (before after : Chip) (old new : Device) : Type 0 where
  pub lines : new.lines ≡ old.lines
  pub regs : new.regs ≡ old.regs
  pub writes : new.writes ≡ old.writes
  pub latches : new.latches ≡ old.latches
  pub digests : after.digests ≡ before.digests
  pub uncut : old.live ≡ true → new.live ≡ true

abbrev pub CachedReadsTakeNoStep : Type 0
CachedReadsTakeNoStep =
    (setup : Setup) (regs : Regs) (a : ℕ) (chip : Chip) (old new : Device) (end : Result (Chip × Line) (Chip × Fault))
    → IsPathCached chip.engine.shape chip.engine.cache (page_of a) → Follows (read_plan setup regs a chip) old new end
    → TakesNoStep chip (left_at end) old new

-- ---- a write that is refused, shown or cut

-- no block of the path is named: the copy of the shadow lines is as it was, and so are the shadow lines, if exposed
pub record NamesNothing (before after : ChipState) (old new : Device) : Type 0 where
  pub mirror : after.mirror ≡ before.mirror
  pub shadow : (at : ℕ) → layout.shadow_line before.shape 0 ≤ at → told_line new.lines at ≡ told_line old.lines at

-- some of the path's levels were fetched, nothing else was written, and no mark was made
pub record IsStoppedInFetch (page : ℕ) (before after : Chip) (old new : Device) (fault : Fault) : Type 0 where
  pub levels : ℕ
  pub fetched : HasFetchedLevels page levels before after.engine old new
  pub as_far : AreLevelsOf page levels before.engine old.live fault
  pub marks : after.ledger.marks ≡ before.ledger.marks
  pub unnamed : NamesNothing before.engine after.engine old new

-- the registers once that many lines of register n's page are resealed, from the lowest that isn't done
abbrev pub with_resealed : ℕ → ℕ → Regs → Regs
with_resealed n zero regs = regs
with_resealed n (suc lines) regs = without_group (with_next_done n (with_resealed n lines regs))

-- Some lines of the page that must be finished first were resealed, not all, by a mark and two latches each. No other mark was made, and
-- nothing else was latched.
pub record HasResealedSome (page : ℕ) (before after : Chip) (old new : Device) : Type 0 where
  pub lines : ℕ
  pub register : ℕ
  pub found : 0 < lines → register_to_finish old.regs.progress.items page ≡ Some register
  pub fewer : 0 < lines → lines < length (not_done (register_at old.regs register))
  pub marks : length after.ledger.marks ≡ length before.ledger.marks + lines
  pub latches : new.latches ≡ risen_times (2 * lines) old.latches
  pub regs : new.regs ≡ with_resealed register lines old.regs

-- The whole path was fetched, and no block came in or was evicted since, or is named; of the metadata lines those that the fetch wrote back
-- were written, and no other. The line writes are the fetch's, and two for each line resealed.
pub record IsStoppedUnnamed (page : ℕ) (before after : Chip) (old new : Device) : Type 0 where
  pub cache :
      HasFetchedSets before.engine.shape before.ledger.truth page (before.engine.shape.levels + 1) (cache_of before.engine)
      (cache_of after.engine)
  pub metadata :
      (at : ℕ) → layout.meta_line before.engine.shape 0 ≤ at
      → told_line new.lines at
      ≡ told_line (redone_told (spilled before.engine.shape before.engine.cache page (before.engine.shape.levels + 1)) old.lines) at
  pub unnamed : NamesNothing before.engine after.engine old new
  pub resealed : HasResealedSome page before after old new
  pub writes :
      RisesBy
      (length (spilled before.engine.shape before.engine.cache page (before.engine.shape.levels + 1)) + 2 * resealed.lines)
      old.writes new.writes

-- the whole path was fetched, the line's counter isn't used up, and no block came in or gave way since
pub record IsCutPastFetch (write : Posted) (before after : ChipState) (truth : List Line) : Type 0 where
  pub fetched : ChipState
  pub path_fetched :
      HasFetchedSets before.shape truth (page_of write.at) (before.shape.levels + 1) (cache_of before) (cache_of fetched)
  pub path_cached : IsPathCached before.shape fetched.cache (page_of write.at)
  pub unspent :
      IsOk
      (overflow_of (cached_block before.shape fetched (page_of write.at)) (page_of write.at) (index_in_page write.at))
  pub kept : KeepsButPath before.shape (page_of write.at) fetched.cache after.cache

-- by the fault
abbrev pub IsStoppedBy : Posted → Chip → Chip → Device → Device → Fault → Type 0
IsStoppedBy write before after old new (Fail.Meta x) =
    IsStoppedInFetch (page_of write.at) before after old new (Fail.Meta x)
IsStoppedBy write before after old new (Fail.Spent page) =
    IsStoppedInFetch (page_of write.at) before after old new (Fail.Spent page)
IsStoppedBy write before after old new (Fail.Tag at) =
    IsStoppedUnnamed (page_of write.at) before after old new
IsStoppedBy write before after old new Fail.Shown =
    IsStoppedInFetch (page_of write.at) before after old new Fail.Shown
    ⊎ IsStoppedUnnamed (page_of write.at) before after old new
IsStoppedBy write before after old new Fail.Cut =
    IsStoppedInFetch (page_of write.at) before after old new Fail.Cut
    ⊎ IsCutPastFetch write before.engine after.engine before.ledger.truth
IsStoppedBy write before after old new Fail.Down = ⊥

abbrev pub StopsAsTold : Posted → Chip → Device → Device → Result (Chip × Ctr) (Chip × Fault) → Type 0
StopsAsTold write before old new (Ok end) = ⊤
StopsAsTold write before old new (Err left) = IsStoppedBy write before left.0 old new left.1

-- of the engine's geometry
abbrev pub setup_of_chip : Chip → Formulas → Setup
setup_of_chip chip formulas = record { shape = chip.engine.shape; formulas = formulas }

abbrev pub StoppedWritesAreTold : Type 0
StoppedWritesAreTold =
    (formulas : Formulas) (write : Posted) (chip : Chip) (old new : Device) (end : Result (Chip × Ctr) (Chip × Fault))
    → HasWholeCache chip.engine → IsValidRegs chip.engine.shape old.regs → page_of write.at < layout.pages chip.engine.shape
    → Follows (write_plan (setup_of_chip chip formulas) old.regs write chip) old new end
    → StopsAsTold write chip old new end

-- ---- the page's counter block, wherever a write ends

-- whether a mark begins a page, or seals this line under a minor that the stop-loss number divides: then its page's
-- counter block is written
abbrev pub is_persisting : ℕ → ℕ → Mark → Bool
is_persisting loss a (Begin page) = true
is_persisting loss a (Seal at ctr cipher tag) = at == a && ctr.minor % loss == 0

-- marks were made, and unless one of them begins a page, or seals the line under a minor that the stop-loss number
-- divides, the counter block's line is as it was, if exposed; under a policy with lazy counter blocks
pub record IsBlockWrittenWhereDue (write : Posted) (loss : ℕ) (before after : Chip) (old new : Device) : Type 0 where
  pub made : IsFront before.ledger.marks after.ledger.marks
  pub kept :
      before.engine.shape.persist ≡ 0 → list_any (is_persisting loss write.at) made.later ≡ false
      → told_line new.lines (layout.meta_line before.engine.shape (counter_position before.engine.shape (page_of write.at)))
      ≡ told_line old.lines (layout.meta_line before.engine.shape (counter_position before.engine.shape (page_of write.at)))

abbrev pub BlocksAreWrittenWhereDue : Type 0
BlocksAreWrittenWhereDue =
    (formulas : Formulas) (write : Posted) (chip : Chip) (old new : Device) (end : Result (Chip × Ctr) (Chip × Fault))
    → HasWholeCache chip.engine → IsValidRegs chip.engine.shape old.regs → page_of write.at < layout.pages chip.engine.shape
    → Follows (write_plan (setup_of_chip chip formulas) old.regs write chip) old new end
    → IsBlockWrittenWhereDue write old.regs.loss chip (left_at end) old new
