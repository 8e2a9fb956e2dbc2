use Rattle.asit_shadow.proofs.Common.{call_is_determined}
use Rattle.asit_shadow.proofs.determined.tree_write_is_determined.Goals as goal

pub returns : goal.returns
returns c = λ setup a line chip old first_board second_board x y first second left other on it its. call_is_determined on it its
