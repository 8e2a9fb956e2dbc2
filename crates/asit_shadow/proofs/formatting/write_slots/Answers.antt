-- A slot line written more.
use Rattle.std.proofs.Common.{[], get_or, arith, rules}
use Rattle.asit_shadow.proofs.Common.{get_or_default, shape_of, line_at, line_of_slot, turn_ok, turns_end, written_so, StaysSteady-then, StaysSteady-written}
use Rattle.pmem_base.specs.Lines.{zero_line}
use Rattle.asit_shadow.proofs.FormatSteps.{length-set_first, written-more, slots-told_more}
use Rattle.asit_shadow.proofs.formatting.write_slots.Goals as goal

pub note_slot-requires : goal.note_slot-requires
note_slot-requires g c = search (rules, length-set_first)

pub slots-preserved : goal.slots-preserved
slots-preserved g c =
    let line = get_or_default c.args.slots.now c.slots.i (record { 0 = [] }) zero_line (omega (arith, c.requires.long, c.slots-test.true, c.tree_slots-i-end.ensures.value)) in
    record {
      steady = search (rules, StaysSteady-then, StaysSteady-written, get_or);
      reached =
          turn_ok c.slots.invariant.reached (omega (arith, c.slots-test.true, c.tree_slots-i-end.ensures.value))
          (written_so c.slot_place.result (line_of_slot (shape_of c.args.geo.now) c.slots.i) (get_or c.args.slots.now c.slots.i (record { 0 = [] }))
          (line_at c.args.slots.now c.slots.i) (g.B.Board.device c.slots.board) (g.B.Board.device c.write_steady.new.board) c.slot_place.ensures.value line
          c.write_steady.ensures);
      lines = search (rules, written-more, get_or);
      told = search (rules, slots-told_more);
    }

pub returns-clause-plan : goal.returns-clause-plan
returns-clause-plan g c = turns_end c.slots.invariant.reached (omega (arith, c.slots-test.false, c.tree_slots-i-end.ensures.value))
