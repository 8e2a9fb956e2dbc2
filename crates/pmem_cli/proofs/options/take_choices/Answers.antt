use Rattle.std.proofs.Common.{arith, ◌≡◌, ◌∙◌, ◌∷◌, sym, ap}
use Rattle.std.proofs.lemmas.Grind.{common_steps}
use Rattle.std.specs.Prelude.{map, string_bytes}
use Rattle.pmem_cli.specs.Words.{take_options}
use Rattle.pmem_cli.proofs.WordLemmas.{one_first}
use Rattle.pmem_cli.proofs.options.take_choices.Goals as goal

pub returns-in-None-clause-choices : goal.returns-in-None-clause-choices
returns-in-None-clause-choices c =
    let cut = one_first c.options.rest.now c.word-item.result c.in-len1-up.len_at_least c.word-item.is in
    let first = ap (λ words. take_options c.args.allowed c.options.choices (map (string_bytes {Z = Rattle.std.proofs.Common.Global}) words)) cut in
    sym (sym c.options.invariant.same ∙ first ∙ (rw c.as_str.ensures.value at c.in-None.ensures.none))

pub options-preserved : goal.options-preserved
options-preserved c = grind (arith, common_steps)
