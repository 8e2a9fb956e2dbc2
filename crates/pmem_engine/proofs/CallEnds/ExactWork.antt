-- Exact work: of one part after another, of a part that does nothing, of a fetch, and of an unsealing.
use Rattle.std.proofs.Common.{rules, ℕ, ◌≡◌, ◌+◌, ◌*◌, Ok, ap, arith}
use Rattle.pmem_base.specs.declared.lines.Ctr.{Ctr}
use Rattle.board.specs.Counts.{RisesBy}
use Rattle.board.proofs.CountLemmas.{RisesBy-then}
use Rattle.pmem_base.proofs.CountLemmas.{risen_times-add}
use Rattle.suite.specs.Setup.{Setup}
use Rattle.pmem_engine.specs.declared.reading.Unsealed.{Unsealed}
use Rattle.pmem_engine.specs.Parts.{Parts}
use Rattle.pmem_engine.specs.CallFacts.{IsLeftAlone, Work, then_work, IsWork, fetch_work, unseal_work, reseal_work}
use Rattle.pmem_engine.specs.Inner.{HasFetched, HasUnsealed}

-- a count that is as it was
pub still_rise : (n old new : ℕ) → n ≡ 0 → new ≡ old → RisesBy n old new
still_rise n old new none same =
    record { never_falls = omega (arith, same); exact = λ below. omega (arith, none, same) }

-- two parts
pub work_then : (first second : Work) (old mid new : Parts) → IsWork first old mid → IsWork second mid new
    → IsWork (then_work first second) old new
work_then first second old mid new one two = search (rules, RisesBy-then, risen_times-add)

-- a part that was left out
pub work_alone : (work : Work) (old new : Parts) → work.reads ≡ 0 → work.writes ≡ 0 → work.latches ≡ 0 → work.tags ≡ 0
    → work.digests ≡ 0 → IsLeftAlone old new → IsWork work old new
work_alone work old new reads writes latches tags digests it = search (rules, still_rise)

-- ---- parts of a call

pub fetch_worked : (setup : Setup) (page : ℕ) (old new : Parts) → HasFetched setup page old new (Ok tt)
    → IsWork (fetch_work setup.shape old page) old new
fetch_worked setup page old new it = search (rules, still_rise)

pub unseal_worked : (setup : Setup) (a : ℕ) (ctr : Ctr) (old new : Parts) (unsealed : Unsealed)
    → HasUnsealed setup a ctr old new (Ok unsealed) → IsWork (unseal_work 1) old new
unseal_worked setup a ctr old new unsealed it = search (rules, still_rise)

-- one line more sealed anew
pub reseal_more : (n : ℕ) → then_work (reseal_work n) (reseal_work 1) ≡ reseal_work (n + 1)
reseal_more n =
    let more : 2 * n + 2 * 1 ≡ 2 * (n + 1) = omega arith in
    ap (λ k. record { reads = k; writes = k; latches = k; tags = k; digests = 0 }) more
