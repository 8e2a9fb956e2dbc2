-- The nodes told so far.
use Rattle.std.proofs.Common.{take}
use Rattle.asit_shadow.proofs.Common.{IsWriteTold}
use Rattle.asit_shadow.proofs.engine.TreeEngine.tell.Given as goal

abbrev pub invariant-levels : goal.invariant-levels
invariant-levels g l =
    IsWriteTold l.fn.self.shape l.fn.at l.fn.seal (take l.x-index l.fn.nodes.items) (g.W.Watch.watched l.fn.watch) (g.W.Watch.watched l.watch)
