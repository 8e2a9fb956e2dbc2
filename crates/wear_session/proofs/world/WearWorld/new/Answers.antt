-- A new session.
use Rattle.std.proofs.Common.{rules, ◌∙◌, ap, ap₂, Option}
use Rattle.std.specs.Prelude.{option_map}
use Rattle.wear_session.proofs.Common.{setup_under, LevelledLines, on_chip}
use Rattle.wear_session.proofs.NewLaws.{holds_zeros, opens_always, new_opened, new_session_held}
use Rattle.wear_session.proofs.world.WearWorld.new.Goals as goal

pub new-requires-clause-zeros : goal.new-requires-clause-zeros
new-requires-clause-zeros g c = holds_zeros _

pub unreachable-requires : goal.unreachable-requires
unreachable-requires g c =
    opens_always _ c.args.every _ _ c.requires c.new.result c.new.ensures.fault c.in-Err-Opening._fault
    (let h = c.in-Err-Opening.is in let k = c.in-Err-Opening.field-0-is in search rules)

pub invariant_of-result : goal.invariant_of-result
invariant_of-result g c =
    let it = c.in-Ok.ensures.new in
    (new_session_held g.S.Suite.formulas_of _ c.args.every _ _ c.in-Ok.session it.0 c.requires it.1
    (ap₂ (λ s k. setup_under g.S.Suite.formulas_of s k) c.in-Ok.ensures.shape c.in-Ok.ensures.keys) c.in-Ok.ensures.shape it.2).0

pub returns-in-Ok-clause-new : goal.returns-in-Ok-clause-new
returns-in-Ok-clause-new g c =
    let it = c.in-Ok.ensures.new in
    (new_session_held g.S.Suite.formulas_of _ c.args.every _ _ c.in-Ok.session it.0 c.requires it.1
    (ap₂ (λ s k. setup_under g.S.Suite.formulas_of s k) c.in-Ok.ensures.shape c.in-Ok.ensures.keys) c.in-Ok.ensures.shape it.2).1

pub returns-in-Ok-clause-opened : goal.returns-in-Ok-clause-opened
returns-in-Ok-clause-opened g c =
    let it = c.in-Ok.ensures.new in
    new_opened _ c.args.every _ _ c.in-Ok.session.state it.0
    (it.3.its_engine ∙ ap (option_map (λ (s : LevelledLines). on_chip s.gapped.engine)) it.1) it.2
