use Rattle.std.proofs.Common.{◌≡◌}
use Rattle.plain_model.specs.declared.Stop.TheVariants as Stop
use Rattle.pmem_cli.specs.Keys.{formulas_of}
use Rattle.pmem_cli.specs.Wholes.{left_in}
use Rattle.pmem_cli.proofs.CheckLemmas.{IsChecked-stopped}
use Rattle.pmem_cli.proofs.WholeLemmas.{some_whole}
use Rattle.pmem_cli.proofs.checking.check.Goals as goal

pub returns-in_default-clause-checked : goal.returns-in_default-clause-checked
returns-in_default-clause-checked g c = λ whole may.
    IsChecked-stopped (formulas_of c.args.choices.now) _ (left_in g.S.Source.known whole c.args.trace.now) (left_in g.S.Source.known whole c.look.new.trace) c.look.new.found
    c.in_default.not-Finished (c.look.ensures.looked whole may)

-- which stops there are is known of each whole, and there is one

pub returns-in_default-clause-words : goal.returns-in_default-clause-words
returns-in_default-clause-words g c = λ same.
    let some = some_whole (g.S.Source.known c.look.new.trace) in
    let is : c.look.result ≡ Stop.Words = cc in
    (c.look.ensures.looked some.0 some.1).0 is

pub returns-in_default-clause-write : goal.returns-in_default-clause-write
returns-in_default-clause-write g c = λ same.
    let some = some_whole (g.S.Source.known c.look.new.trace) in
    let is : c.look.result ≡ Stop.WriteFault = cc in
    (c.look.ensures.looked some.0 some.1).1 is
