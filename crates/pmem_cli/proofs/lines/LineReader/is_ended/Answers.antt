use Rattle.std.proofs.Common.{rules, ◌≡◌, [], inr}
use Rattle.pmem_cli.proofs.WholeLemmas.{left_remembered}
use Rattle.pmem_cli.proofs.lines.LineReader.is_ended.Goals as goal

pub returns-in_err-count-clause-last_pull : goal.returns-in_err-count-clause-last_pull
returns-in_err-count-clause-last_pull g c =
    let none : c.args.self.now ≡ [] = search rules in
    λ whole may. inr (none, left_remembered g.S.Source.known c.args.source.now c.refill.new.source whole c.in_err-count.ensures.remembers)

pub returns-clause-last_pull : goal.returns-clause-last_pull
returns-clause-last_pull g c =
    let none : c.args.self.now ≡ [] = search rules in
    λ whole may. inr (none, left_remembered g.S.Source.known c.args.source.now c.refill.new.source whole c.in_ok-count.ensures.remembers)
