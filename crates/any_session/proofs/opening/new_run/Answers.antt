use Rattle.pmem_cli.specs.Standing.{IsFirstWorld}
use Rattle.any_session.proofs.Setups.{begun, first_world}
use Rattle.any_session.proofs.opening.new_run.Goals as goal

pub returns-in-Ok-clause-opened : goal.returns-in-Ok-clause-opened
returns-in-Ok-clause-opened c =
    let new = c.in-Ok.ensures.new in
    rw c.new-in-Ok.ensures.world
    (begun IsFirstWorld c.args.choices.now c.args.logged c.geometry.ensures c.chosen_suite.ensures.keys
    (first_world _ _ c.in-Ok.world c.chosen_suite.ensures.unused new c.in-Ok.ensures.work) new.its_shape c.in-Ok.ensures.keys c.new-in-Ok.ensures.log new.not_shown)
