-- A register with one more line done.
use Rattle.std.specs.Prelude.{ℕ, nat_lt, length, Option, Some, None, if◌then◌else◌}
use Rattle.pmem_base.specs.declared.registers.Progress.{Progress}
use Rattle.pmem_base.specs.Registers.{not_done, with_done}

-- the register with line i done, or nothing after its last line
abbrev pub marked : Progress → ℕ → Option Progress
marked register i =
    if nat_lt 0 (length (not_done (with_done register i))) then Some (with_done register i) else None
