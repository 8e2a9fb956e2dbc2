-- Counts of faults, and the stops that faults cause.
use Rattle.std.proofs.Common.{rules, ◌≡◌, ◌≢◌, ℕ, arith}
use Rattle.std.specs.Prelude.{Option, Some, Err}
use Rattle.plain_model.specs.declared.Stop.{Stop}
use Rattle.plain_model.specs.declared.Stop.TheVariants.{Words, ReadFault, WriteFault}
use Rattle.pmem_cli.specs.Causes.{Rose, HasCause, CountsFault}
use Rattle.pmem_cli.specs.Turns.{StopsByCause}

-- a count that stays has no fault
pub CountsFault-none : (fault : Type 0) (before now : ℕ) → (fault → ⊥) → now ≡ before → CountsFault fault before now
CountsFault-none fault before now none same = search rules

-- what was answered by a fault counts it
pub CountsFault-err : {T E : Type 0} (fault : Type 0) (before now : ℕ) (e : E) → fault → HasCause {T = T} before now (Err e) → CountsFault fault before now
CountsFault-err fault before now e some cause = search rules

-- the same fault in other words, from a count that was the same before
pub CountsFault-map : (fault other : Type 0) (before between now : ℕ) → (fault → other) → (other → fault) → between ≡ before
    → CountsFault fault between now → CountsFault other before now
CountsFault-map fault other before between now there back same counts = search rules

-- ---- stops

-- nothing failed
pub stops_unfailed : (stop : Option Stop) (reads reads_now writes writes_now : ℕ) → stop ≢ Some ReadFault → stop ≢ Some WriteFault → stop ≢ Some Words
    → reads_now ≡ reads → writes_now ≡ writes → StopsByCause stop reads reads_now writes writes_now
stops_unfailed stop reads reads_now writes writes_now read write words reads_kept writes_kept = search rules

-- a pull failed
pub stops_unread : {T E : Type 0} (reads reads_now writes writes_now : ℕ) (e : E) → HasCause {T = T} reads reads_now (Err e) → writes_now ≡ writes
    → StopsByCause (Some ReadFault) reads reads_now writes writes_now
stops_unread reads reads_now writes writes_now e cause kept = search rules

-- a push failed
pub stops_unwritten : {T E : Type 0} (reads reads_now writes writes_now : ℕ) (e : E) → reads_now ≡ reads → HasCause {T = T} writes writes_now (Err e)
    → StopsByCause (Some WriteFault) reads reads_now writes writes_now
stops_unwritten reads reads_now writes writes_now e kept cause = search rules

-- only the sink was used since the counts stood so
pub stops_after : (stop : Option Stop) (reads reads_now writes writes_now : ℕ) → StopsByCause stop 0 0 writes writes_now → reads_now ≡ reads
    → StopsByCause stop reads reads_now writes writes_now
stops_after stop reads reads_now writes writes_now cause kept = record {
  reads = CountsFault-none (stop ≡ Some ReadFault) reads reads_now (λ fault. absurd (unrisen (cause.reads.failed fault))) kept;
  writes = cause.writes;
  words = cause.words;
}
  where
    unrisen : Rose 0 0 → ⊥
    unrisen rose = omega (arith, rose)
