use Rattle.std.proofs.Common.{subst, sym}
use Rattle.stop_loss.specs.Windows.{minors_within}
use Rattle.stop_loss.specs.Trials.{matching_minors}
use Rattle.pmem_recovery.specs.Parts.{IsDecided}
use Rattle.pmem_recovery.proofs.TryLaws.{decided_is}
use Rattle.pmem_recovery.proofs.counters.try_window.Goals as goal

pub returns-clause-decided : goal.returns-clause-decided
returns-clause-decided g c =
    let f = g.S.Suite.formulas_of (g.S.Suite.keys c.args.suite.now) in
    let candidates = minors_within c.args.ends.0 c.args.ends.1 in
    subst (IsDecided f c.args.at c.args.major c.args.cipher.now c.args.tag.now (matching_minors f c.args.at c.args.major c.args.cipher.now c.args.tag.now candidates)) (sym c.decided.ensures)
    (decided_is f c.args.at c.args.major c.args.cipher.now c.args.tag.now candidates c.args.ends.0 c.args.ends.1 c.find-found.result c.requires c.find-found.ensures.found c.find-found.ensures.inside)
