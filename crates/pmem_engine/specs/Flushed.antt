-- Dirty blocks are written to their places, and another stop-loss number is latched.
use Rattle.std.specs.Prelude.{ℕ, ◌≡◌, ◌≢◌, ◌<◌, ◌≤◌, ◌+◌, ◌⊎◌, true, false, [], Option, Some, None, Result, Ok, Err}
use Rattle.pmem_base.specs.declared.faults.Cut.{Cut}
use Rattle.pmem_base.specs.declared.registers.Regs.{Regs}
use Rattle.pmem_base.specs.Registers.{without_group}
use Rattle.pmem_base.specs.Layout.{meta_lines}
use Rattle.bonsai_tree.specs.Positions.{level_of}
use Rattle.board.specs.Counts.{RisesBy}
use Rattle.board.specs.Device.{Device}
use Rattle.board.specs.Steps.{WasCut, HasLatched}
use Rattle.seal_ledger.specs.Ledger.{LedgerState}
use Rattle.meta_cache.specs.Banks.{is_cached, is_cached_dirty}
use Rattle.meta_cache.specs.State.{CacheState}
use Rattle.meta_path.specs.Blocks.{bank_dirty_count}
use Rattle.meta_path.specs.Storing.{IsCleaned}
use Rattle.suite.specs.Setup.{Setup}
use Rattle.pmem_engine.specs.Engine.{ChipState}
use Rattle.pmem_engine.specs.Parts.{parts_with}
use Rattle.call_effects.specs.Outcomes.{going}
use Rattle.pmem_engine.specs.Outcomes.{OneLossEffect}

-- the engine's cache
abbrev pub cache_of : ChipState → CacheState
cache_of engine = record { shape = engine.shape; banks = engine.cache }

-- the block at x, which was dirty in this bank, was written to its place, and is clean
pub record HasWrittenBack (bank x : ℕ) (old new : ChipState) (before after : Device) : Type 0 where
  pub its_bank : bank ≤ old.shape.levels
  pub its_level : level_of x ≡ bank
  pub on_tree : x < meta_lines old.shape
  pub was_dirty : is_cached_dirty old.shape old.cache bank x ≡ true
  pub cleaned : IsCleaned old.shape bank x (cache_of old) (cache_of new) before after
  pub mirror : new.mirror ≡ old.mirror

-- no block of a bank is dirty
abbrev pub IsBankClean : ChipState → ℕ → Type 0
IsBankClean engine bank = (x : ℕ) → is_cached_dirty engine.shape engine.cache bank x ≡ false

-- the oldest dirty block was written back, if one is dirty
abbrev pub HasWrittenOldest : ChipState → ChipState → Device → Device → Result (Option ℕ) Cut → Type 0
HasWrittenOldest old new before after (Ok None) =
    (new ≡ old) × (after ≡ before) × ((bank : ℕ) → IsBankClean old bank)
HasWrittenOldest old new before after (Ok (Some x)) = HasWrittenBack (level_of x) x old new before after
HasWrittenOldest old new before after (Err cut) =
    (new ≡ old) × WasCut before after
    × ((bank : ℕ) × (x : ℕ) × (is_cached_dirty old.shape old.cache bank x ≡ true))

-- ---- the stop-loss number

-- that many dirty counter blocks were written back
pub record HasWrittenBlocks (count : ℕ) (old new : ChipState) (before after : Device) : Type 0 where
  pub shape : new.shape ≡ old.shape
  pub mirror : new.mirror ≡ old.mirror
  pub dirty :
      bank_dirty_count old.shape new.cache old.shape.levels + count
      ≡ bank_dirty_count old.shape old.cache old.shape.levels
  pub cached :
      (bank x : ℕ) → is_cached old.shape new.cache bank x ≡ is_cached old.shape old.cache bank x
  pub size : after.size ≡ before.size
  pub regs : after.regs ≡ before.regs
  pub reads : after.reads ≡ before.reads
  pub latches : after.latches ≡ before.latches
  pub writes : RisesBy count before.writes after.writes
  pub none : count ≡ 0 → new.cache ≡ old.cache
  pub done :
      (setup : Setup) (ledger : LedgerState) (tags digests : ℕ) → setup.shape ≡ old.shape
      → OneLossEffect setup going [] (parts_with old before ledger tags digests) (parts_with new after ledger tags digests)

-- what a new number asks for was written: nothing for a greater one, every dirty counter block for a
-- smaller one
pub record HasMadeWay (n count : ℕ) (old new : ChipState) (before after : Device) : Type 0 where
  pub written : HasWrittenBlocks count old new before after
  pub greater : before.regs.loss < n → count ≡ 0
  pub smaller :
      n < before.regs.loss
      → IsBankClean new new.shape.levels × (count ≡ bank_dirty_count old.shape old.cache old.shape.levels)

-- the registers with another number, and no group
abbrev pub with_loss : Regs → ℕ → Regs
with_loss regs n = record (without_group regs) { loss = n }

-- the number was latched once that was written
pub record IsLossLatched (n steps : ℕ) (old new : ChipState) (before after : Device) : Type 0 where
  pub count : ℕ
  pub mid : Device
  pub steps_are : steps ≡ count + 1
  pub way : HasMadeWay n count old new before mid
  pub latched : HasLatched mid (with_loss mid.regs n) after

-- it was so already, or is latched, or a cut came before the latch or one of these writes
abbrev pub HasChangedLoss : ℕ → ChipState → ChipState → Device → Device → Result ℕ Cut → Type 0
HasChangedLoss n old new before after (Ok steps) =
    ((n ≡ before.regs.loss) × (steps ≡ 0) × (new ≡ old) × (after ≡ before))
    ⊎ ((n ≢ before.regs.loss) × IsLossLatched n steps old new before after)
HasChangedLoss n old new before after (Err cut) =
    (n ≢ before.regs.loss)
    × ((count : ℕ) × (mid : Device) × HasWrittenBlocks count old new before mid × (before.regs.loss < n → count ≡ 0)
    × WasCut mid after)
