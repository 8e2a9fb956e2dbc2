use Rattle.std.proofs.Common.{rules, arith, ◌<◌, length}
use Rattle.suite.proofs.WeakLemmas.{weak_pad-is}
use Rattle.suite.proofs.weak.WeakSuiteSuite.pad.Goals as goal

pub returns-clause-pad : goal.returns-clause-pad
returns-clause-pad c =
    let suite = c.args.self.now in
    let some : 0 < length suite.key = search rules in
    weak_pad-is suite.key suite.tag_key.items suite.blur c.args.at _ c.args.ctr c.loop-j.pad some
    c.loop-j.invariant.long (omega (arith, c.from.ensures, c.from-2.ensures))
    (λ k below. c.loop-j.invariant.done k (omega (arith, below)))
