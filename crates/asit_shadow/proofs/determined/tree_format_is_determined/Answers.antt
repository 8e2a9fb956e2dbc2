use Rattle.asit_shadow.proofs.FormatPlans.{formats_alike}
use Rattle.asit_shadow.proofs.determined.tree_format_is_determined.Goals as goal

pub returns : goal.returns
returns c = formats_alike
