-- The engine is down, or the changes are made.
use Rattle.std.proofs.Common.{refl, sym, ◌∙◌}
use Rattle.pmem_engine.proofs.CallEnds.EngineCalls.{was_up, was_down}
use Rattle.engine_lines.proofs.edits.edit_all.Goals as goal

pub returns-then-is_down-clause-edited : goal.returns-then-is_down-clause-edited
returns-then-is_down-clause-edited g c = was_down _ _ _ _ (sym c.is_down.ensures ∙ c.if-is_down.true) refl

pub returns-clause-edited : goal.returns-clause-edited
returns-clause-edited g c =
    was_up _ _ _ _ _ _ (sym c.is_down.ensures ∙ c.if-is_down.false) c.edit_each.ensures.down
    (record { edited = c.edit_each.ensures.edited; plan = c.edit_each.ensures.plan })

pub edit_each-requires-clause-up : goal.edit_each-requires-clause-up
edit_each-requires-clause-up g c = sym c.is_down.ensures ∙ c.if-is_down.false
