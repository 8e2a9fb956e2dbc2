-- What a `?` hands on, and what a part's answer says of the engine's.
use Rattle.std.proofs.Common.{rules, Err}
use Rattle.std.specs.Prelude.{Result, IfOk, IsOk}
use Rattle.pmem_base.specs.declared.faults.Cut.{Cut}
use Rattle.meta_path.specs.declared.faults.PathFault.{PathFault}
use Rattle.pmem_engine.specs.declared.fault.Fault.{Fault}
use Rattle.pmem_engine.specs.declared.fault.LineFault.{LineFault}
use Rattle.pmem_engine.specs.Outcomes.{fault_of_path, fault_of_line, faulted, of_cut}
use Rattle.pmem_engine.specs.CallFacts.{IsDownAnswer, IsUnrefused}

-- a part's value is the engine's, ..
pub ok_faulted : {T E : Type 0} (its_fault : E → Fault) (r : Result T E) (P : T → Type 0) → IfOk r P → IfOk (faulted its_fault r) P
ok_faulted its_fault v1 P it = search rules

-- .. and the other way round
pub ok_before : {T E : Type 0} (its_fault : E → Fault) (r : Result T E) → IsOk (faulted its_fault r) → IsOk r
ok_before its_fault v1 it = search rules

-- no part answers Down
pub cut_not_down : {T : Type 0} (answer : Result T Cut) → IsDownAnswer (of_cut answer) → ⊥
cut_not_down v0 is = search rules

pub path_not_down : (T : Type 0) (fault : PathFault) → IsDownAnswer {T = T} (Err (fault_of_path fault)) → ⊥
path_not_down T v1 is = search rules

pub line_not_down : (T : Type 0) (fault : LineFault) → IsDownAnswer {T = T} (Err (fault_of_line fault)) → ⊥
line_not_down T v1 is = search rules

-- a cut is no refusal; another fault is one or not, whatever was asked for
pub cut_unrefused : {T : Type 0} (answer : Result T Cut) → IsUnrefused (of_cut answer)
cut_unrefused v0 = search rules

pub path_unrefused : (T U : Type 0) (fault : PathFault) → IsUnrefused {T = T} (Err (fault_of_path fault))
    → IsUnrefused {T = U} (Err (fault_of_path fault))
path_unrefused T U v2 it = search rules

pub line_unrefused : (T U : Type 0) (fault : LineFault) → IsUnrefused {T = T} (Err (fault_of_line fault))
    → IsUnrefused {T = U} (Err (fault_of_line fault))
line_unrefused T U v2 it = search rules
