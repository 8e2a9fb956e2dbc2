use Rattle.std.proofs.Common.{arith}
use Rattle.line_txn.proofs.Headers.{numbers_step}
use Rattle.line_txn.proofs.header.numbers.Goals as goal

pub loop-i-preserved : goal.loop-i-preserved
loop-i-preserved c =
    numbers_step c.args.line.now c.loop-i.numbers.items c.push.new.self.items c.from_be_bytes.result c.loop-i.i c.is_whole.ensures (omega arith)
    c.loop-i.invariant.0 c.push.ensures.items c.from_be_bytes.ensures
    (omega (arith, c.push.ensures.len, c.loop-i.invariant.1))
