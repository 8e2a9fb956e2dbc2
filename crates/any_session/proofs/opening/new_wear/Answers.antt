use Rattle.std.proofs.Common.{◌∙◌}
use Rattle.suite.specs.Setup.{Setup}
use Rattle.wear_session.specs.State.{WearState}
use Rattle.pmem_cli.specs.Keys.{every_chosen}
use Rattle.pmem_cli.specs.Wear.{IsFirstWear}
use Rattle.any_session.specs.Opened.{keys_chosen}
use Rattle.any_session.proofs.Setups.{begun, first_wear}
use Rattle.any_session.proofs.opening.new_wear.Goals as goal

pub returns-in-Ok-clause-opened : goal.returns-in-Ok-clause-opened
returns-in-Ok-clause-opened c =
    let new = rw c.every.ensures.every at c.in-Ok.ensures.new in
    rw c.new-in-Ok.ensures.session
    (begun (λ (setup : Setup) (state : WearState). IsFirstWear setup (keys_chosen c.args.choices.now) (every_chosen c.args.choices.now) state) c.args.choices.now c.args.choices.now.log
    c.geometry.ensures c.chosen_suite-suite.ensures.keys
    (first_wear _ _ _ _ _ c.chosen_suite-suite.ensures.unused new c.in-Ok.ensures.opened (c.in-Ok.ensures.keys ∙ c.chosen_suite-suite.ensures.keys)) new.session.shape
    c.in-Ok.ensures.keys c.new-in-Ok.ensures.log c.new-in-Ok.ensures.goes_on)
