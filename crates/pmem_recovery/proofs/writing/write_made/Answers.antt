use Rattle.std.proofs.Common.{[], false}
use Rattle.call_plan.proofs.Steps.{answered_err}
use Rattle.call_plan.proofs.Loops.{reached_start, item_ok, item_err, items_end}
use Rattle.pmem_base.specs.Geo.{shape_of}
use Rattle.pmem_recovery.specs.declared.entries.MadeEntry.{MadeEntry}
use Rattle.pmem_recovery.specs.Plans.{entry_turn, entries_plan}
use Rattle.pmem_recovery.proofs.writing.write_made.Goals as goal

pub entries-init : goal.entries-init
entries-init g c = record { reached = reached_start (entries_plan (shape_of c.args.geo.now) c.args.made.now) (g.B.Board.device c.args.board.now) }

abbrev no_entry : MadeEntry
no_entry = record { at = 0; line = record { 0 = [] }; changed = false }

pub entries-preserved : goal.entries-preserved
entries-preserved g c =
    record {
      reached =
          item_ok (entry_turn (shape_of c.args.geo.now)) c.args.made.now c.entries.entry-index tt c.entries.invariant.reached no_entry c.entries-test.true
          (rw c.meta_line.ensures.value at c.in_ok-write_changed.ensures.plan);
    }

pub returns-in_err-write_changed : goal.returns-in_err-write_changed
returns-in_err-write_changed g c =
    record {
      plan =
          answered_err c.from_residual.result c.from_residual.ensures.1
          (item_err (entry_turn (shape_of c.args.geo.now)) c.args.made.now c.entries.entry-index tt c.entries.invariant.reached no_entry c.entries-test.true
          (rw c.meta_line.ensures.value at c.in_err-write_changed.ensures.plan));
    }

pub returns : goal.returns
returns g c = record { plan = items_end (entry_turn (shape_of c.args.geo.now)) c.args.made.now c.entries.entry-index tt c.entries.invariant.reached c.entries-test.false }
