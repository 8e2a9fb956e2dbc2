-- The changes of a move are made in order.
use Rattle.std.proofs.lemmas.Grind.{common_steps}
use Rattle.std.proofs.Common.{List, Result, Ok, Err, sym, subst, rules, arith}
use Rattle.start_gap.proofs.Common.{Follows, Setup, Fault, Parts, parts_at, setup_at, ended_with, chip_in, down_after, Edit, AreEdited, edits_plan, edits_as, move_edits}
use Rattle.call_effects.proofs.ResultLaws.{is_err_of}
use Rattle.start_gap.proofs.LevelledWrites.{move_fits}
use Rattle.start_gap.proofs.gapped.Gapped.move_gap.Given.{Over}
use Rattle.start_gap.proofs.gapped.Gapped.move_gap.Goals.{After-edit_all}
use Rattle.start_gap.proofs.gapped.Gapped.move_gap.Goals as goal

pub edit_all-requires-clause-places : goal.edit_all-requires-clause-places
edit_all-requires-clause-places g c = search (rules, move_fits)

-- once the changes were made, or ended
module _ (g : Over) (c : After-edit_all g) where
  abbrev setup : Setup
  setup = setup_at g.S.Suite c.args.self.now.engine c.args.suite.now

  abbrev from : Parts
  from = parts_at g.B.Board g.S.Suite g.A.Audit c.args.self.now.engine c.args.board.now c.args.suite.now c.args.audit.now

  abbrev to : Parts
  to = parts_at g.B.Board g.S.Suite g.A.Audit c.edit_all.new.engine c.edit_all.new.board c.edit_all.new.suite c.edit_all.new.audit

  abbrev its_edits : List Edit
  its_edits = move_edits c.args.self.now.lines c.args.self.now.wear

  moved : (answer : Result (Unit {0}) Fault) → AreEdited setup c.moving-edits.result from to answer → AreEdited setup its_edits from to answer
  moved answer it = subst (λ (edits : List Edit). AreEdited setup edits from to answer) c.moving-edits.ensures it

  followed : (answer : Result (Unit {0}) Fault)
      → Follows (edits_plan setup c.moving-edits.result (chip_in from, from.device.regs)) from.device to.device (ended_with answer (chip_in to) to.device.regs)
      → Follows (edits_plan setup its_edits (chip_in from, from.device.regs)) from.device to.device (ended_with answer (chip_in to) to.device.regs)
  followed answer it = edits_as setup c.moving-edits.result its_edits (chip_in from, from.device.regs) c.moving-edits.ensures it

pub returns-clause-moved : goal.returns-clause-moved
returns-clause-moved g c = moved g (goal.at.returns-clause-moved g c).After-edit_all (Ok tt) (c.in_ok-edit_all.ensures.edited.did c.requires.up).edited

pub returns-clause-plan : goal.returns-clause-plan
returns-clause-plan g c = followed g (goal.at.returns-clause-plan g c).After-edit_all (Ok tt) (c.in_ok-edit_all.ensures.edited.did c.requires.up).plan

pub returns-clause-down : goal.returns-clause-down
returns-clause-down g c = down_after c.in_ok-edit_all.ensures.edited c.requires.up

-- what the function answers then is the fault
pub returns-in_err-edit_all-clause-moved : goal.returns-in_err-edit_all-clause-moved
returns-in_err-edit_all-clause-moved g c =
    let place = (goal.at.returns-in_err-edit_all-clause-moved g c).After-edit_all in
    subst (λ (answer : Result (Unit {0}) Fault). AreEdited (setup g place) (its_edits g place) (from g place) (to g place) answer)
    (sym (is_err_of c.from_residual.result c.in_err-edit_all.field-0.0 c.from_residual.ensures.1))
    (moved g place (Err c.in_err-edit_all.field-0.0) (c.in_err-edit_all.ensures.edited.did c.requires.up).edited)

pub returns-in_err-edit_all-clause-plan : goal.returns-in_err-edit_all-clause-plan
returns-in_err-edit_all-clause-plan g c = grind (arith, common_steps, is_err_of, followed)

pub returns-in_err-edit_all-clause-down : goal.returns-in_err-edit_all-clause-down
returns-in_err-edit_all-clause-down g c = search (rules, down_after, is_err_of)
