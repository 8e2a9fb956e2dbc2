use Rattle.std.proofs.Common.{rules}
use Rattle.split_counters.proofs.Packing.{unpacked-packed}
use Rattle.split_counters.proofs.bytes.block_is_kept.Goals as goal

pub returns-clause-kept : goal.returns-clause-kept
returns-clause-kept c = search (rules, unpacked-packed)
