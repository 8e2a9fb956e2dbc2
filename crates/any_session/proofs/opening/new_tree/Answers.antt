use Rattle.std.proofs.Common.{◌∙◌}
use Rattle.suite.specs.Setup.{Setup}
use Rattle.tree_session.specs.State.{SessionState}
use Rattle.pmem_cli.specs.Tree.{IsFirstTree}
use Rattle.any_session.specs.Opened.{keys_chosen}
use Rattle.any_session.proofs.Setups.{begun, first_tree}
use Rattle.any_session.proofs.opening.new_tree.Goals as goal

pub returns-in-Ok-clause-opened : goal.returns-in-Ok-clause-opened
returns-in-Ok-clause-opened c =
    let new = c.in-Ok.ensures.new in
    rw c.new-in-Ok.ensures.session
    (begun (λ (setup : Setup) (state : SessionState). IsFirstTree setup (keys_chosen c.args.choices.now) state) c.args.choices.now c.args.choices.now.log
    c.geometry.ensures c.chosen_suite-suite.ensures.keys
    (first_tree _ _ _ _ c.chosen_suite-suite.ensures.unused new c.in-Ok.ensures.formatted (c.in-Ok.ensures.keys ∙ c.chosen_suite-suite.ensures.keys)) new.shape
    c.in-Ok.ensures.keys c.new-in-Ok.ensures.log c.new-in-Ok.ensures.goes_on)
