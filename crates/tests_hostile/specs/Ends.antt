-- Ends of a recovery that refuses nothing.
use Rattle.std.specs.Prelude.{Result, Err, ⊤}
use Rattle.pmem_recovery.specs.declared.faults.RecFault.{RecFault}
use Rattle.pmem_recovery.specs.declared.faults.RecFault.TheVariants.{NoCounter, Root}

-- it went through, was cut or stopped by a twin, or memory was wanting: no counter and no root was refused
abbrev pub IsUnrefusedRecovery : {T : Type 0} → Result T RecFault → Type 0
IsUnrefusedRecovery (Err (NoCounter at)) = ⊥
IsUnrefusedRecovery (Err (Root kept found)) = ⊥
IsUnrefusedRecovery answer = ⊤
