-- Two runs of one plan end alike, and the answer is by the end.
use Rattle.std.proofs.Common.{rules}
use Rattle.line_txn.proofs.Common.{call_is_determined}
use Rattle.line_txn.proofs.laws.commit_is_determined.Goals as goal

pub returns : goal.returns
returns c = search (rules, call_is_determined)
