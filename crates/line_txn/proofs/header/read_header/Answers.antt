use Rattle.std.proofs.Common.{rules, arith}
use Rattle.line_txn.proofs.Common.{false≢true}
use Rattle.line_txn.proofs.Headers.{too_many, read_of_header}
use Rattle.line_txn.proofs.header.read_header.Goals as goal
use Rattle.line_txn.proofs.header.read_header.Goals.{else-are_targets-via-then-are_targets+else-eq, else-are_targets-via-else-are_targets}

pub returns-then-count-gt15-clause-none : goal.returns-then-count-gt15-clause-none
returns-then-count-gt15-clause-none c = λ _ targets its. too_many c.args.n c.args.line.now targets (omega arith) its

pub returns-else-are_targets-clause-none : goal.returns-else-are_targets-clause-none
returns-else-are_targets-clause-none c = λ _ targets its.
    let read = read_of_header c.args.n c.args.line.now c.numbers-targets.result.items targets (omega arith) c.numbers-targets.ensures.numbers its in
    elim c.else-are_targets.branch [
      | else-are_targets-via-then-are_targets+else-eq w ↦ search rules
      | else-are_targets-via-else-are_targets w ↦ search (rules, false≢true)
    ]
