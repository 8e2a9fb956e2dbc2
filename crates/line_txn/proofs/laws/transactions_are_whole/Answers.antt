use Rattle.std.proofs.Common.{arith}
use Rattle.line_txn.proofs.LoggedLaws.{whole_at_each_stage, kept_by_redo, kept_by_target, kept_by_opening, read_from}
use Rattle.line_txn.proofs.laws.transactions_are_whole.Goals as goal

pub returns-clause-each : goal.returns-clause-each
returns-clause-each c = whole_at_each_stage c.args.n

pub returns-clause-redo : goal.returns-clause-redo
returns-clause-redo c = kept_by_redo c.args.n

pub returns-clause-target : goal.returns-clause-target
returns-clause-target c = kept_by_target c.args.n

pub returns-clause-opening : goal.returns-clause-opening
returns-clause-opening c = kept_by_opening c.args.n (omega arith)

pub returns-clause-read : goal.returns-clause-read
returns-clause-read c = read_from c.args.n
