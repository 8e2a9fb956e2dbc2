-- One line of the shadow tree is another.
use Rattle.std.proofs.Common.{rules}
use Rattle.asit_shadow.proofs.Common.{shadow_height-room}
use Rattle.asit_shadow.proofs.engine.TreeEngine.name.Goals as goal

pub put-root-requires : goal.put-root-requires
put-root-requires g c = search (rules, shadow_height-room)
