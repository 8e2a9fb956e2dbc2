-- One body more.
use Rattle.std.proofs.Common.{◌+◌, refl, arith}
use Rattle.line_txn.proofs.EditLists.{bodies_more, whole_more}
use Rattle.line_txn.proofs.edits.deciding.Goals as goal

pub entries-preserved : goal.entries-preserved
entries-preserved c = (
  bodies_more (c.args.n + 1) c.args.txn.now c.entries.i (c.args.n + 1 + c.entries.i) _ c.entries.edits.items c.push.new.self.items
      c.entries-test.true refl c.entries.invariant.0 c.push.ensures.items,
  omega (arith, c.push.ensures.len, c.entries.invariant.1),
  whole_more c.args.txn.now c.entries.i _ c.entries-test.true c.entries.invariant.2 c.is_whole.ensures,
)
