-- The data lines of an engine, as they were last sealed, and answers of its calls.
use Rattle.std.specs.Prelude.{Result, Ok, Err, List, ⊤}
use Rattle.pmem_base.specs.declared.lines.Line.{Line}
use Rattle.pmem_base.specs.declared.lines.Ctr.{Ctr}
use Rattle.pmem_base.specs.Layout.{data_lines}
use Rattle.suite.specs.Setup.{Setup}
use Rattle.board.specs.Device.{AreLinesOf}
use Rattle.pmem_engine.specs.declared.fault.Fault.{Fault}
use Rattle.pmem_engine.specs.declared.fault.Fault.TheVariants as Fail
use Rattle.pmem_engine.specs.Parts.{Parts}
use Rattle.pmem_engine.specs.Calls.{IsMemory}

-- these are the data lines as they were last sealed
pub record HasLines (setup : Setup) (lines : List Line) (parts : Parts) : Type 0 where
  pub whole : AreLinesOf (data_lines setup.shape) lines
  pub sealed : IsMemory setup lines parts

-- an engine's write, without the counter
abbrev pub done_as : Result Ctr Fault → Result (Unit {0}) Fault
done_as (Ok ctr) = Ok tt
done_as (Err fault) = Err fault

abbrev pub IsUnspent : Fault → Type 0
IsUnspent (Fail.Spent page) = ⊥
IsUnspent fault = ⊤

-- over a sound device a call is done, or cut, or the counter of its line is used up
abbrev pub IsCutOrSpent : Fault → Type 0
IsCutOrSpent Fail.Cut = ⊤
IsCutOrSpent (Fail.Spent page) = ⊤
IsCutOrSpent fault = ⊥
