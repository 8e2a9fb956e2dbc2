-- The last line and the status of each ending.
use Rattle.std.specs.Prelude.{ℕ, List, codes}
use Rattle.plain_model.specs.Run.{stop_text, status_of}
use Rattle.plain_model.specs.Texts.{as_line}
use Rattle.pmem_cli.specs.declared.ending.Ending.{Ending}
use Rattle.pmem_cli.specs.declared.ending.Ending.TheVariants.{Stopped, Holds, Fails}

-- what is printed at the end
abbrev pub ending_text : Ending → List ℕ
ending_text (Stopped stop) = stop_text stop
ending_text Holds = as_line (codes "holds")
ending_text Fails = as_line (codes "fails")

-- the program's status
abbrev pub ending_status : Ending → ℕ
ending_status (Stopped stop) = status_of stop
ending_status Holds = 0
ending_status Fails = 8
