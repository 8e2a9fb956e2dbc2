-- A whole answer is that of a call in which nothing failed.
use Rattle.std.proofs.Common.{◌≡◌, ◌≢◌, ◌⊎◌, ℕ, List, [], refl, arith}
use Rattle.pmem_cli.specs.Causes.{Rose}
use Rattle.pmem_cli.specs.Determined.{IsUndisturbed}
use Rattle.pmem_c.specs.Answered.{HasAnswered, answering}
use Rattle.pmem_c.specs.Determined.{IsWholeAnswer}

no_fault : (faults status : ℕ) → (faults ≢ 0 → (status ≡ 4) ⊎ (status ≡ 2)) → status ≢ 4 → status ≢ 2 → ¬ Rose 0 faults
no_fault faults status failed whole task = grind (arith, failed, whole, task)

pub undisturbed : (words trace : List ℕ) (status : ℕ) (put : List ℕ) (its : IsWholeAnswer words trace status put)
    → IsUndisturbed trace [] (answering trace status put its.answered.left its.answered.faults)
undisturbed words trace status put its =
    record {
      trace_told = refl;
      put_told = refl;
      pulled = grind arith;
      pushed = no_fault its.answered.faults status its.answered.failed its.whole its.a_task;
      had_memory = its.had_memory;
    }
