use Rattle.std.proofs.Common.{rules}
use Rattle.call_plan.proofs.Determined.{determined_by_fuse}
use Rattle.call_plan.proofs.laws.runs_are_determined.Goals as goal

pub returns : goal.returns
returns g c = search (rules, determined_by_fuse)
