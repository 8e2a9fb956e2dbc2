-- A new session.
use Rattle.std.proofs.Common.{◌∙◌, ap, ap₂, Err}
use Rattle.txn_session.proofs.Common.{option_map, setup_under, TxnStore, on_chip}
use Rattle.txn_session.proofs.NewLaws.{holds_zeros, new_outcome, new_opened, new_session_held}
use Rattle.txn_session.proofs.world.TxnWorld.new.Goals as goal

pub new-requires-clause-zeros : goal.new-requires-clause-zeros
new-requires-clause-zeros g c = holds_zeros _

pub unreachable-requires : goal.unreachable-requires
unreachable-requires g c =
    let it = rw c.in-Err-Opening.field-0-is at c.in-Err-Opening.ensures.fault in
    new_outcome (record { setup = _; tags = _; digests = _; answer = Err c.in-Err-Opening._fault; left = it.0; it = it.1 })

pub invariant_of-result : goal.invariant_of-result
invariant_of-result g c =
    let it = c.in-Ok.ensures.new in
    (new_session_held g.S.Suite.formulas_of _ _ _ c.in-Ok.session it.0.0 it.0.1 it.1
    (ap₂ (λ s k. setup_under g.S.Suite.formulas_of s k) c.in-Ok.ensures.shape c.in-Ok.ensures.keys) c.in-Ok.ensures.shape it.2).0

pub returns-in-Ok-clause-new : goal.returns-in-Ok-clause-new
returns-in-Ok-clause-new g c =
    let it = c.in-Ok.ensures.new in
    (new_session_held g.S.Suite.formulas_of _ _ _ c.in-Ok.session it.0.0 it.0.1 it.1
    (ap₂ (λ s k. setup_under g.S.Suite.formulas_of s k) c.in-Ok.ensures.shape c.in-Ok.ensures.keys) c.in-Ok.ensures.shape it.2).1

pub returns-in-Ok-clause-opened : goal.returns-in-Ok-clause-opened
returns-in-Ok-clause-opened g c =
    let it = c.in-Ok.ensures.new in
    new_opened _ _ _ c.in-Ok.session.state it.0.0 it.0.1
    (it.3.its_engine ∙ ap (option_map (λ (s : TxnStore). on_chip s.inner.engine)) it.1) it.2
