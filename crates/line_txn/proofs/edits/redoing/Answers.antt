-- One target more.
use Rattle.std.proofs.Common.{◌+◌, refl, arith}
use Rattle.line_txn.proofs.EditLists.{copies_more}
use Rattle.line_txn.proofs.edits.redoing.Goals as goal

pub targets-preserved : goal.targets-preserved
targets-preserved c = (
  copies_more (c.args.n + 1) c.args.targets.now c.targets.i (c.args.n + 1 + c.targets.i) _ c.targets.edits.items c.push.new.self.items
      c.targets-test.true refl c.targets.invariant.0 c.push.ensures.items,
  omega (arith, c.push.ensures.len, c.targets.invariant.1),
)
