-- A line is written, or copied, with few marks.
use Rattle.std.proofs.Common.{ℕ, ◌≤◌, ◌+◌, length, Ok, Err, refl, sym, subst}
use Rattle.std.specs.Prelude.{IfOk}
use Rattle.suite.specs.Setup.{Setup}
use Rattle.pmem_engine.specs.Engine.{EngineState}
use Rattle.pmem_engine.specs.Parts.{Parts, parts_at}
use Rattle.pmem_engine.specs.Plans.{Chip, chip_of}
use Rattle.pmem_engine.proofs.CallEnds.EngineCalls.{down_after, up_after}
use Rattle.engine_lines.specs.declared.edits.Edit.{Edit}
use Rattle.engine_lines.specs.declared.edits.Edit.TheVariants as Make
use Rattle.engine_lines.specs.Edits.{HasEdited}
use Rattle.engine_lines.proofs.EditLaws.{edit_under}
use Rattle.engine_lines.proofs.EngineLines.{no_marks}
use Rattle.engine_lines.proofs.EditPlans.{as_put, copy_stopped, copied, edit_as, put_follows_under}
use Rattle.engine_lines.proofs.edits.edit_line.Given.{Over}
use Rattle.engine_lines.proofs.edits.edit_line.Goals as goal

abbrev setup_at : (g : Over) → EngineState → g.row.S.Denot → Setup
setup_at g engine suite = record { shape = engine.shape; formulas = g.S.Suite.formulas_of (g.S.Suite.keys suite) }

abbrev chip : (g : Over) → EngineState → g.row.S.Denot → g.row.A.Denot → Chip
chip g engine suite audit = chip_of engine (g.A.Audit.ledger audit) (g.S.Suite.tags suite) (g.S.Suite.digests suite)

abbrev at : (g : Over) → EngineState → g.row.B.Denot → g.row.S.Denot → g.row.A.Denot → Parts
at g = parts_at g.B.Board g.S.Suite g.A.Audit

pub returns-in-Ok-clause-few : goal.returns-in-Ok-clause-few
returns-in-Ok-clause-few g c =
    subst (λ (n : ℕ). IfOk c.put_line-in-Ok.result (λ done. length (g.A.Audit.ledger c.put_line-in-Ok.new.audit).marks ≤ n + 66))
    (no_marks _ _ _ _ _ (c.in-Ok.ensures.read.did c.requires.up)) c.put_line-in-Ok.ensures.few

pub returns-in-Put-clause-plan : goal.returns-in-Put-clause-plan
returns-in-Put-clause-plan g c =
    edit_as (setup_at g c.args.engine.now c.args.suite.now) c.args.edit.now (Make.Put c.in-Put.at c.in-Put.line) _ c.in-Put.is
    (as_put (setup_at g c.args.engine.now c.args.suite.now) (chip g c.args.engine.now c.args.suite.now c.args.audit.now) c.in-Put.at c.in-Put.line
    c.put_line.result (chip g c.put_line.new.engine c.put_line.new.suite c.put_line.new.audit) c.put_line.ensures.plan)

pub returns-in-Err-clause-plan : goal.returns-in-Err-clause-plan
returns-in-Err-clause-plan g c =
    edit_as (setup_at g c.args.engine.now c.args.suite.now) c.args.edit.now (Make.Copy c.in-Copy.from c.in-Copy.at) _ c.in-Copy.is
    (copy_stopped (setup_at g c.args.engine.now c.args.suite.now) (chip g c.args.engine.now c.args.suite.now c.args.audit.now) c.in-Copy.from
    c.in-Copy.at c.in-Err.fault (chip g c.read.new.self c.read.new.suite c.read.new.audit) (c.in-Err.ensures.read.did c.requires.up).plan)

pub returns-in-Ok-clause-plan : goal.returns-in-Ok-clause-plan
returns-in-Ok-clause-plan g c =
    edit_as (setup_at g c.args.engine.now c.args.suite.now) c.args.edit.now (Make.Copy c.in-Copy.from c.in-Copy.at) _ c.in-Copy.is
    (copied (setup_at g c.args.engine.now c.args.suite.now) (chip g c.args.engine.now c.args.suite.now c.args.audit.now) c.in-Copy.from
    c.in-Copy.at c.in-Ok.line (chip g c.read.new.self c.read.new.suite c.read.new.audit) c.put_line-in-Ok.result
    (chip g c.put_line-in-Ok.new.engine c.put_line-in-Ok.new.suite c.put_line-in-Ok.new.audit) (c.in-Ok.ensures.read.did c.requires.up).plan
    (put_follows_under g.S.Suite.formulas_of c.args.engine.now.shape c.read.new.self.shape (g.S.Suite.keys c.args.suite.now) (g.S.Suite.keys c.read.new.suite)
    c.in-Ok.ensures.shape c.in-Ok.ensures.keys _ _ _ _ c.put_line-in-Ok.ensures.plan))

pub returns-in-Err-clause-edited : goal.returns-in-Err-clause-edited
returns-in-Err-clause-edited g c =
    let old = at g c.args.engine.now c.args.board.now c.args.suite.now c.args.audit.now in
    let between = at g c.read.new.self c.read.new.board c.read.new.suite c.read.new.audit in
    subst (λ (e : Edit). HasEdited (setup_at g c.args.engine.now c.args.suite.now) e old between (Err c.in-Err.fault)) (sym c.in-Copy.is)
    (record { read = Err c.in-Err.fault; between = between; was_read = c.in-Err.ensures.read.did c.requires.up; then = (refl, refl) })

pub returns-in-Ok-clause-edited : goal.returns-in-Ok-clause-edited
returns-in-Ok-clause-edited g c =
    let old = at g c.args.engine.now c.args.board.now c.args.suite.now c.args.audit.now in
    let between = at g c.read.new.self c.read.new.board c.read.new.suite c.read.new.audit in
    let new = at g c.put_line-in-Ok.new.engine c.put_line-in-Ok.new.board c.put_line-in-Ok.new.suite c.put_line-in-Ok.new.audit in
    subst (λ (e : Edit). HasEdited (setup_at g c.args.engine.now c.args.suite.now) e old new c.put_line-in-Ok.result) (sym c.in-Copy.is)
    (record {
      read = Ok c.in-Ok.line;
      between = between;
      was_read = c.in-Ok.ensures.read.did c.requires.up;
      then =
          edit_under g.S.Suite.formulas_of c.args.engine.now.shape c.read.new.self.shape (g.S.Suite.keys c.args.suite.now)
          (g.S.Suite.keys c.read.new.suite) c.in-Ok.ensures.shape c.in-Ok.ensures.keys (Make.Put c.in-Copy.at c.in-Ok.line) between new
          c.put_line-in-Ok.result c.put_line-in-Ok.ensures.put;
    })

pub returns-in-Err-clause-down : goal.returns-in-Err-clause-down
returns-in-Err-clause-down g c = down_after c.in-Err.ensures.read c.requires.up

pub put_line-requires-in-Ok-clause-up : goal.put_line-requires-in-Ok-clause-up
put_line-requires-in-Ok-clause-up g c = up_after c.in-Ok.ensures.read c.requires.up refl
