use Rattle.std.proofs.Common.{refl}
use Rattle.page_reencrypt.proofs.LinesLeft.{all_left}
use Rattle.page_reencrypt.proofs.begin.Goals as goal

pub returns-clause-all_left : goal.returns-clause-all_left
returns-clause-all_left c = all_left _ refl
