-- When a fault may be answered, and what a count of faults says of it.
use Rattle.std.specs.Prelude.{ℕ, ◌≡◌, ◌≤◌, ◌+◌, ◌⊎◌, Result, OnOk, OnErr}
use Rattle.pmem_base.specs.Counts.{risen}

-- a count of faults has risen, or stands at its end
abbrev pub Rose : ℕ → ℕ → Type 0
Rose before now = risen before ≤ now

-- the count of a source or that of a sink has, between two states of each
abbrev pub AnyRose : {S K : Type 0} → (S → ℕ) → S → S → (K → ℕ) → K → K → Type 0
AnyRose pulls trace_old trace_new pushes out_old out_new =
    Rose (pulls trace_old) (pulls trace_new) ⊎ Rose (pushes out_old) (pushes out_new)

-- a count stays if none failed, and has risen by one if a fault was answered
pub record HasCause {T E : Type 0} (before now : ℕ) (result : Result T E) : Type 0 where
  pub kept : OnOk result (now ≡ before)
  pub failed : OnErr result (Rose before now)
  pub later : before ≤ now
  pub once : now ≤ before + 1

-- the same by a fault that a proposition states
pub record CountsFault (fault : Type 0) (before now : ℕ) : Type 0 where
  pub kept : ¬ fault → now ≡ before
  pub failed : fault → Rose before now
  pub later : before ≤ now
  pub once : now ≤ before + 1
