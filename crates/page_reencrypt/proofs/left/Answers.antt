use Rattle.std.proofs.Common.{sym, ◌∙◌, rules}
use Rattle.page_reencrypt.proofs.LinesLeft.{number_left}
use Rattle.page_reencrypt.proofs.left.Goals as goal

pub returns-clause-number : goal.returns-clause-number
returns-clause-number c = c.count_zeros.ensures.value ∙ sym (number_left c.args.progress.now (search rules))
