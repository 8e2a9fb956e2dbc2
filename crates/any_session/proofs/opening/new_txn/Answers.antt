use Rattle.std.proofs.Common.{◌∙◌}
use Rattle.suite.specs.Setup.{Setup}
use Rattle.txn_session.specs.State.{TxnState}
use Rattle.pmem_cli.specs.Txn.{IsFirstTxn}
use Rattle.any_session.specs.Opened.{keys_chosen}
use Rattle.any_session.proofs.Setups.{begun, first_txn}
use Rattle.any_session.proofs.opening.new_txn.Goals as goal

pub returns-in-Ok-clause-opened : goal.returns-in-Ok-clause-opened
returns-in-Ok-clause-opened c =
    let new = c.in-Ok.ensures.new in
    rw c.new-in-Ok.ensures.session
    (begun (λ (setup : Setup) (state : TxnState). IsFirstTxn setup (keys_chosen c.args.choices.now) state) c.args.choices.now c.args.choices.now.log c.geometry.ensures
    c.chosen_suite.ensures.keys
    (first_txn _ _ _ _ c.chosen_suite.ensures.unused new c.in-Ok.ensures.opened (c.in-Ok.ensures.keys ∙ c.chosen_suite.ensures.keys)) new.session.shape
    c.in-Ok.ensures.keys c.new-in-Ok.ensures.log c.new-in-Ok.ensures.goes_on)
