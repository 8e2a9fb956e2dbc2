use Rattle.std.proofs.Common.{rules, ◌≡◌, ◌<◌, sym, subst}
use Rattle.std.proofs.lemmas.List.Elements.{All-from_get_or}
use Rattle.pmem_base.specs.Lines.{AreBytes}
use Rattle.suite.proofs.WeakLemmas.{weak_in_range, weak_keys-AreBytes}
use Rattle.suite.proofs.weak.WeakSuite.new.Goals as goal

pub invariant_of-result-clause-in_range : goal.invariant_of-result-clause-in_range
invariant_of-result-clause-in_range c =
    let key = c.args.key.now in
    let tag_key = c.args.tag_key.now in
    let kept = c.try_extend_from_slice.new.self.items in
    let small : AreBytes key = All-from_get_or (λ b. b < 256) key 0 (λ i inside. c.fits-key i) in
    let tag_small : AreBytes tag_key = All-from_get_or (λ b. b < 256) tag_key 0 (λ i inside. search (rules, c.type_inv.tag_key i)) in
    let same : kept ≡ tag_key = search rules in
    weak_in_range _ (weak_keys-AreBytes key kept c.args.blur small (subst AreBytes (sym same) tag_small))
