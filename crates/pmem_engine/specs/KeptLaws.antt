-- What a read, a flush and another stop-loss number leave as it was, wherever they end; and which lines a turn writes.
use Rattle.std.specs.Prelude.{ℕ, List, [], ◌∷◌, length, ◌≡◌, ◌≢◌, ◌<◌, ◌≤◌, ◌⊎◌, ◌==◌, Option, Result, Ok, Err, if◌then◌else◌}
use Rattle.pmem_base.specs.declared.faults.Cut.{Cut}
use Rattle.pmem_base.specs.declared.lines.Line.{Line}
use Rattle.pmem_base.specs.declared.registers.Regs.{Regs}
use Rattle.pmem_base.specs.Counts.{risen_times}
use Rattle.pmem_base.specs.Layout as layout
use Rattle.pmem_base.specs.Layout.{page_of}
use Rattle.pmem_base.specs.Shape.{Shape}
use Rattle.board.specs.Device.{Device}
use Rattle.call_plan.specs.Bounds.{IsFront}
use Rattle.call_plan.specs.Following.{Follows}
use Rattle.commit_regs.specs.Groups.{redone_told}
use Rattle.meta_path.specs.Blocks.{AreInTheirBanks, line_in}
use Rattle.meta_path.specs.Plans.{cleaned}
use Rattle.meta_path.specs.Work.{told_line}
use Rattle.suite.specs.Setup.{Setup}
use Rattle.pmem_engine.specs.declared.fault.Fault.{Fault}
use Rattle.pmem_engine.specs.Engine.{ChipState}
use Rattle.pmem_engine.specs.Flushed.{cache_of, with_loss}
use Rattle.pmem_engine.specs.Plans.{Chip, with_cache, read_plan, turn_plan, flush_plan, dirty_counter_blocks, counter_blocks_plan, set_loss_plan, register_at, held_of}

-- the state at an end
abbrev pub left_at : {S A F : Type 0} → Result (S × A) (S × F) → S
left_at (Ok end) = end.0
left_at (Err left) = left.0

-- ---- a read, a flush and another number write metadata lines alone

-- the lines of data, of tags and of the shadow tables are as they were, if exposed
abbrev pub KeepsOtherLines : Shape → Device → Device → Type 0
KeepsOtherLines g old new =
    (at : ℕ) → (at < layout.meta_line g 0) ⊎ (layout.shadow_line g 0 ≤ at)
    → told_line new.lines at ≡ told_line old.lines at

-- so are the copy of the shadow lines and the geometry
pub record KeepsMirror (old new : ChipState) : Type 0 where
  pub mirror : new.mirror ≡ old.mirror
  pub shape : new.shape ≡ old.shape

-- and the registers, and no latch was counted
pub record WritesMetadataAlone (old new : Device) (before after : ChipState) : Type 0 where
  pub lines : KeepsOtherLines before.shape old new
  pub engine : KeepsMirror before after
  pub regs : new.regs ≡ old.regs
  pub latches : new.latches ≡ old.latches

abbrev pub ReadsWriteMetadataAlone : Type 0
ReadsWriteMetadataAlone =
    (setup : Setup) (regs : Regs) (a : ℕ) (chip : Chip) (old new : Device) (end : Result (Chip × Line) (Chip × Fault))
    → AreInTheirBanks chip.engine.shape chip.engine.cache → page_of a < layout.pages chip.engine.shape
    → Follows (read_plan setup regs a chip) old new end
    → WritesMetadataAlone old new chip.engine (left_at end).engine

abbrev pub FlushesWriteMetadataAlone : Type 0
FlushesWriteMetadataAlone =
    (engine : ChipState) (old new : Device) (end : Result (ChipState × Option ℕ) (ChipState × Fault))
    → AreInTheirBanks engine.shape engine.cache → Follows (flush_plan engine) old new end
    → WritesMetadataAlone old new engine (left_at end)

-- of the registers the number alone is another one, if that is answered; else they are as they were
abbrev pub NumberAt : ℕ → Regs → Regs → Result (ChipState × ℕ) (ChipState × Fault) → Type 0
NumberAt n before after (Ok end) = after ≡ (if n == before.loss then before else with_loss before n)
NumberAt n before after (Err left) = after ≡ before

pub record SetsNumberAlone (n : ℕ) (before : ChipState) (old new : Device)
    (end : Result (ChipState × ℕ) (ChipState × Fault)) : Type 0 where
  pub lines : KeepsOtherLines before.shape old new
  pub engine : KeepsMirror before (left_at end)
  pub regs : NumberAt n old.regs new.regs end

abbrev pub LossesWriteMetadataAlone : Type 0
LossesWriteMetadataAlone =
    (n : ℕ) (engine : ChipState) (old new : Device) (end : Result (ChipState × ℕ) (ChipState × Fault))
    → AreInTheirBanks engine.shape engine.cache → Follows (set_loss_plan n old.regs engine) old new end
    → SetsNumberAlone n engine old new end

-- ---- a turn writes the line that it seals

-- the lowest line not done of the page that was begun first
abbrev pub turned_line : Regs → ℕ
turned_line regs = (held_of (register_at regs 0)).at

abbrev pub TurnsWriteTheirLine : Type 0
TurnsWriteTheirLine =
    (setup : Setup) (regs : Regs) (chip : Chip) (old new : Device) (end : Result (Chip × Option (ℕ × ℕ)) (Chip × Fault))
    → Follows (turn_plan setup regs chip) old new end → (at : ℕ) → at ≢ turned_line regs
    → at ≢ layout.tag_line setup.shape (turned_line regs) → told_line new.lines at ≡ told_line old.lines at

abbrev pub TurnsKeepMirror : Type 0
TurnsKeepMirror =
    (setup : Setup) (regs : Regs) (chip : Chip) (old new : Device) (end : Result (Chip × Option (ℕ × ℕ)) (Chip × Fault))
    → Follows (turn_plan setup regs chip) old new end → KeepsMirror chip.engine (left_at end).engine

-- ---- another number writes the dirty counter blocks, the oldest first

-- the engine once these counter blocks are clean
abbrev pub with_clean : List ℕ → ChipState → ChipState
with_clean [] engine = engine
with_clean (x ∷ xs) engine = with_clean xs (with_cache engine (cleaned (cache_of engine) engine.shape.levels x))

-- their places, and their lines as they are cached
abbrev pub block_entries : List ℕ → ChipState → List (ℕ × Line)
block_entries [] engine = []
block_entries (x ∷ xs) engine =
    (layout.meta_line engine.shape x, line_in engine.shape engine.cache engine.shape.levels x)
    ∷ block_entries xs (with_cache engine (cleaned (cache_of engine) engine.shape.levels x))

-- these blocks were written, in order, by one line write each, and are clean, and nothing else changed
pub record AreWrittenBack (blocks : List ℕ) (engine left : ChipState) (old new : Device) : Type 0 where
  pub lines : new.lines ≡ redone_told (block_entries blocks engine) old.lines
  pub writes : new.writes ≡ risen_times (length blocks) old.writes
  pub engine_left : left ≡ with_clean blocks engine
  pub regs : new.regs ≡ old.regs
  pub reads : new.reads ≡ old.reads

-- all of them, or if power is cut the first of them
abbrev pub IsWrittenInOrder : ChipState → Device → Device → Result (ChipState × ℕ) (ChipState × Cut) → Type 0
IsWrittenInOrder engine old new (Ok end) = AreWrittenBack (dirty_counter_blocks engine) engine end.0 old new
IsWrittenInOrder engine old new (Err left) =
    (front : List ℕ) × IsFront front (dirty_counter_blocks engine) × AreWrittenBack front engine left.0 old new

abbrev pub BlocksAreWrittenInOrder : Type 0
BlocksAreWrittenInOrder =
    (engine : ChipState) (old new : Device) (end : Result (ChipState × ℕ) (ChipState × Cut))
    → Follows (counter_blocks_plan engine) old new end → IsWrittenInOrder engine old new end
