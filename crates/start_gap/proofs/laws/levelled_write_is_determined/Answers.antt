-- Two runs of one write end alike, and all else is by the end.
use Rattle.std.proofs.Common.{rules}
use Rattle.call_plan.proofs.DeterminedCalls.{call_is_determined}
use Rattle.start_gap.proofs.laws.levelled_write_is_determined.Goals as goal

pub returns : goal.returns
returns c = search (rules, call_is_determined)
