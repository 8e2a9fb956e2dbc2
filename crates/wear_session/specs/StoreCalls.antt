-- Levelled lines as the store of a session: what they keep and do.
use Rattle.std.specs.Prelude.{ℕ, Bool, false, List, Result, Err}
use Rattle.pmem_base.specs.declared.answers.Mark.{Mark}
use Rattle.pmem_base.specs.declared.lines.Line.{Line}
use Rattle.suite.specs.Setup.{Setup}
use Rattle.plain_model.specs.View.{plain_memory}
use Rattle.pmem_engine.specs.declared.fault.Fault.{Fault}
use Rattle.pmem_engine.specs.Parts.{Parts}
use Rattle.start_gap.specs.declared.gapped.Gapped.{Gapped}
use Rattle.start_gap.specs.declared.gapped.Moved.{Moved}
use Rattle.start_gap.specs.declared.gapped.WriteFault.{WriteFault}
use Rattle.start_gap.specs.Logical.{IsLevelled}
use Rattle.start_gap.specs.Gapped.{HasWear, logical_lines}
use Rattle.start_gap.specs.Promised.{IsLevelledRead}
use Rattle.line_session.specs.Kept.{is_fault_cut}
use Rattle.wear_session.specs.State.{wear_in, levelled_memory}
use Rattle.wear_session.specs.declared.calls.LevelledLines.{LevelledLines}

abbrev pub levelled_lines : Gapped → LevelledLines
levelled_lines gapped = record { gapped = gapped }

-- the marks say a memory that is levelled
abbrev pub HoldsLevelled : Setup → List Mark → Type 0
HoldsLevelled setup marks =
    let memory = plain_memory setup marks in
    IsLevelled (logical_lines setup.shape) memory (wear_in setup memory) (levelled_memory setup memory)

-- a logical line is read at its place, and wear and count stay
pub record HasReadAt (setup : Setup) (a : ℕ) (old new : Gapped) (from to : Parts) (answer : Result Line Fault) : Type 0 where
  pub read : IsLevelledRead setup a old new from to answer
  pub its_wear : HasWear old.wear old.count old new

-- whether power was cut in a write
abbrev pub is_write_cut : Result Moved WriteFault → Bool
is_write_cut (Err fault) = is_fault_cut fault.fault
is_write_cut answer = false
