-- The plain machine's flags: of lines that were tampered with, and of blocks that may be dirty.
use Rattle.std.specs.Prelude.{ℕ, ◌≡◌, false, Bool, List, length, Option, Some, None, if◌then◌else◌}
use Rattle.pmem_base.specs.declared.answers.Mark.{Mark}
use Rattle.pmem_base.specs.Shape.{Shape}
use Rattle.pmem_base.specs.Layout as layout
use Rattle.plain_model.specs.State.{PlainState, no_flags, without_flag}
use Rattle.pmem_engine.specs.Outcomes.{is_sealed_by}

-- device lines that were changed, data lines that this bears on, those that surely differ from what was
-- sealed, and whether the device was powered on over such changes
pub record Tampering : Type 0 where
  pub named : List Bool
  pub hurt : List Bool
  pub spoiled : List Bool
  pub loose : Bool

-- pages that may have dirty blocks, and positions that were written back since
pub record Dirtying : Type 0 where
  pub touched : List Bool
  pub flushed : List Bool

-- a state with these
abbrev pub with_tampering : PlainState → Tampering → PlainState
with_tampering state flags =
    record state { named = flags.named; hurt = flags.hurt; spoiled = flags.spoiled; loose = flags.loose }

abbrev pub with_dirtying : PlainState → Dirtying → PlainState
with_dirtying state flags = record state { touched = flags.touched; flushed = flags.flushed }

-- no flag is set
abbrev pub no_tampering : Shape → Tampering
no_tampering g =
    record {
      named = no_flags (layout.device_lines g);
      hurt = no_flags (layout.data_lines g);
      spoiled = no_flags (layout.data_lines g);
      loose = false;
    }

abbrev pub no_dirtying : Shape → Dirtying
no_dirtying g = record { touched = no_flags (layout.pages g); flushed = no_flags (layout.meta_lines g) }

-- there is a flag for each device line and each data line
pub record HasTamperingOf (g : Shape) (flags : Tampering) : Type 0 where
  pub named : length flags.named ≡ layout.device_lines g
  pub hurt : length flags.hurt ≡ layout.data_lines g
  pub spoiled : length flags.spoiled ≡ layout.data_lines g

-- there is a flag for each page and each position
pub record HasDirtyingOf (g : Shape) (flags : Dirtying) : Type 0 where
  pub touched : length flags.touched ≡ layout.pages g
  pub flushed : length flags.flushed ≡ layout.meta_lines g

-- ---- a write's line

-- without the line's flag, if one of these marks seals it
abbrev pub healed_flags : Option ℕ → List Mark → List Bool → List Bool
healed_flags None made flags = flags
healed_flags (Some at) made flags = if is_sealed_by made at then without_flag flags at else flags

abbrev pub healed : Option ℕ → List Mark → Tampering → Tampering
healed line made flags =
    record flags { hurt = healed_flags line made flags.hurt; spoiled = healed_flags line made flags.spoiled }
