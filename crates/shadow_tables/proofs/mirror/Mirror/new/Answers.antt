-- Zero lines are lines.
use Rattle.std.proofs.Common.{rules}
use Rattle.pmem_base.proofs.LineLemmas.{All-zero_lines}
use Rattle.shadow_tables.proofs.mirror.Mirror.new.Goals as goal

pub invariant_of-result : goal.invariant_of-result
invariant_of-result c = search (rules, All-zero_lines)
