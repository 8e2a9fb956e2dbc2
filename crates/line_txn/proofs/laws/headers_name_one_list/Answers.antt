use Rattle.std.proofs.Common.{arith}
use Rattle.line_txn.proofs.Headers.{one_header}
use Rattle.line_txn.proofs.laws.headers_name_one_list.Goals as goal

pub returns : goal.returns
returns c = λ line targets others its other. one_header c.args.n line targets others (omega arith) its other
