use Rattle.std.proofs.Common.{◌∙◌, sym}
use Rattle.pmem_cli.proofs.SampleLemmas.{told-shown}
use Rattle.pmem_cli.proofs.sampling.tell_sample.Goals as goal

pub returns-then-is_shown-clause-told : goal.returns-then-is_shown-clause-told
returns-then-is_shown-clause-told g c =
    told-shown _ _ _ _ _ c.in-Ok.ensures.reached (sym c.is_shown.ensures ∙ c.if-is_shown.true) c.in-Ok-print_answer.ensures.ok
