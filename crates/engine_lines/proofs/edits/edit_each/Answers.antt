-- One change more, or the one that isn't made.
use Rattle.std.proofs.Common.{[], refl, sym, ◌∙◌, arith}
use Rattle.call_plan.proofs.Loops.{reached_start, item_ok, item_err, items_end}
use Rattle.suite.specs.Setup.{Setup}
use Rattle.pmem_engine.specs.Plans.{Chip, chip_of}
use Rattle.engine_lines.specs.declared.edits.Edit.{Edit}
use Rattle.engine_lines.specs.declared.edits.Edit.TheVariants as Make
use Rattle.engine_lines.specs.Plans.{edit_plan}
use Rattle.engine_lines.proofs.EditPlans.{edit_follows_under}
use Rattle.engine_lines.proofs.EngineLines.{usable_as}
use Rattle.pmem_engine.specs.Engine.{EngineState}
use Rattle.pmem_engine.specs.Parts.{Parts, parts_of}
use Rattle.engine_lines.proofs.EditLaws.{edit_under, edits_more, edits_stop}
use Rattle.engine_lines.proofs.edits.edit_each.Given.{Over}
use Rattle.engine_lines.proofs.edits.edit_each.Goals as goal

abbrev at : (g : Over) → EngineState → g.row.B.Denot → g.row.S.Denot → g.row.A.Denot → Parts
at g engine board suite audit =
    parts_of engine (g.B.Board.device board) (g.A.Audit.ledger audit) (g.S.Suite.tags suite) (g.S.Suite.digests suite)

abbrev setup_at : (g : Over) → EngineState → g.row.S.Denot → Setup
setup_at g engine suite = record { shape = engine.shape; formulas = g.S.Suite.formulas_of (g.S.Suite.keys suite) }

abbrev chip : (g : Over) → EngineState → g.row.S.Denot → g.row.A.Denot → Chip
chip g engine suite audit = chip_of engine (g.A.Audit.ledger audit) (g.S.Suite.tags suite) (g.S.Suite.digests suite)

abbrev no_edit : Edit
no_edit = Make.Put 0 (record { 0 = [] })

pub returns-in-Err-clause-edited : goal.returns-in-Err-clause-edited
returns-in-Err-clause-edited g c =
    edits_stop _ c.args.edits.now c.edits.edit-index _ _ _ _ c.in-Err.fault c.edits-test.true c.edits.invariant.edited
    (edit_under g.S.Suite.formulas_of c.args.engine.now.shape c.edits.engine.shape (g.S.Suite.keys c.args.suite.now)
    (g.S.Suite.keys c.edits.suite) c.edits.invariant.shape c.edits.invariant.keys _ _ _ _ c.in-Err.ensures.edited)

pub edits-preserved : goal.edits-preserved
edits-preserved g c =
    record {
      edited =
          edits_more _ c.args.edits.now c.edits.edit-index _ _ _ _ c.edits-test.true c.edits.invariant.edited
          (edit_under g.S.Suite.formulas_of c.args.engine.now.shape c.edits.engine.shape (g.S.Suite.keys c.args.suite.now)
          (g.S.Suite.keys c.edits.suite) c.edits.invariant.shape c.edits.invariant.keys _ _ _ _ c.in_default.ensures.edited);
      few = omega (arith, c.in_default.ensures.few, c.edits.invariant.few);
      capacity = c.edit_line.ensures.capacity ∙ c.edits.invariant.capacity;
      keys = c.in_default.ensures.keys ∙ c.edits.invariant.keys;
      usable =
          usable_as c.edits.engine.shape c.args.engine.now.shape c.edit_line.new.engine
          (g.B.Board.device c.edit_line.new.board) (g.A.Audit.ledger c.edit_line.new.audit) (sym c.edits.invariant.shape)
          c.in_default.ensures.usable;
      shape = c.in_default.ensures.shape ∙ c.edits.invariant.shape;
      up = c.in_default.ensures.down;
      reached =
          item_ok (edit_plan (setup_at g c.args.engine.now c.args.suite.now)) c.args.edits.now c.edits.edit-index _ c.edits.invariant.reached no_edit
          c.edits-test.true
          (edit_follows_under g.S.Suite.formulas_of c.args.engine.now.shape c.edits.engine.shape (g.S.Suite.keys c.args.suite.now) (g.S.Suite.keys c.edits.suite)
          c.edits.invariant.shape c.edits.invariant.keys _ _ c.in_default.ensures.plan);
    }

pub edits-init : goal.edits-init
edits-init g c =
    record {
      edited = (refl, refl);
      reached = reached_start _ _;
      few = omega arith;
      capacity = refl;
      keys = refl;
      usable = c.requires.usable;
      shape = refl;
      up = c.requires.up;
    }

pub returns-in-Err-clause-plan : goal.returns-in-Err-clause-plan
returns-in-Err-clause-plan g c =
    item_err (edit_plan (setup_at g c.args.engine.now c.args.suite.now)) c.args.edits.now c.edits.edit-index _ c.edits.invariant.reached no_edit
    c.edits-test.true
    (edit_follows_under g.S.Suite.formulas_of c.args.engine.now.shape c.edits.engine.shape (g.S.Suite.keys c.args.suite.now) (g.S.Suite.keys c.edits.suite)
    c.edits.invariant.shape c.edits.invariant.keys _ _ c.in-Err.ensures.plan)

pub returns-clause-plan : goal.returns-clause-plan
returns-clause-plan g c =
    items_end (edit_plan (setup_at g c.args.engine.now c.args.suite.now)) c.args.edits.now c.edits.edit-index _ c.edits.invariant.reached
    c.edits-test.false
