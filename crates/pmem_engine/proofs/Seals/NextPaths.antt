-- What a page's next block and its path come to.
use Rattle.std.proofs.Common.{rules, ℕ, zero, suc, ◌≡◌, Some, arith}
use Rattle.split_counters.specs.declared.Block.{Block}
use Rattle.split_counters.specs.Blocks.{rolled, next_block}
use Rattle.pmem_base.specs.Counts.{risen_times}
use Rattle.pmem_engine.specs.Outcomes.{NeverFalls}

-- a block that rolls over comes to the next one
pub rolled-next : (old new : Block) → rolled old ≡ Some new → new ≡ next_block old
rolled-next old new it = search rules

-- a count that rises some times doesn't fall
pub times_never_fall : (n count : ℕ) → NeverFalls count (risen_times n count)
times_never_fall zero count within = (omega (arith, within), within)
times_never_fall (suc n) count within =
    let before = times_never_fall n count within in
    (omega (arith, before.0, before.1), omega arith)
