use Rattle.std.proofs.Common.{rules, ◌≡◌, ◌<◌, ◌++◌, length, sym, subst}
use Rattle.std.proofs.lemmas.List.Elements.{All-from_get_or}
use Rattle.pmem_base.specs.Lines.{AreBytes}
use Rattle.suite.specs.Formulas.{AreInRange}
use Rattle.suite.specs.Aes.{aes_formulas}
use Rattle.suite.proofs.AesLemmas.{aes_in_range}
use Rattle.suite.proofs.aes.AesSuite.new.Goals as goal

pub invariant_of-result-clause-in_range : goal.invariant_of-result-clause-in_range
invariant_of-result-clause-in_range c =
    let key = c.args.key.now in
    let long : length key ≡ 16 = search rules in
    let small : AreBytes key = All-from_get_or (λ b. b < 256) key 0 (λ i inside. c.fits-key i) in
    subst (λ k. AreInRange (aes_formulas (k ++ c.new-2.result))) (sym c.new.ensures)
    (aes_in_range key c.new-2.result long small)
