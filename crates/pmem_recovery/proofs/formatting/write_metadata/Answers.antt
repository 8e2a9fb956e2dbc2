use Rattle.std.proofs.Common.{◌≡◌, ◌<◌, [], get_or, ◌∙◌, arith}
use Rattle.std.proofs.lemmas.List.{get_or_default}
use Rattle.pmem_base.specs.declared.lines.Line.{Line}
use Rattle.pmem_base.specs.Geo.{shape_of}
use Rattle.pmem_base.specs.Layout.{meta_lines}
use Rattle.pmem_base.specs.Lines.{line_at, zero_line}
use Rattle.call_plan.proofs.Loops.{turn_ok, turns_end}
use Rattle.call_effects.proofs.SteadyLaws.{StaysSteady-then, StaysSteady-written}
use Rattle.pmem_recovery.proofs.FormatSteps.{HasToldMeta-more, HasWrittenMeta-more}
use Rattle.call_plan.proofs.Steps.{written_so}
use Rattle.pmem_recovery.proofs.formatting.write_metadata.Goals as goal

pub lines-preserved : goal.lines-preserved
lines-preserved g c =
    let none : Line = record { 0 = [] } in
    let inside : c.lines.x < meta_lines (shape_of c.args.geo.now) = omega (arith, c.lines-test, c.metas-x-end.ensures.value) in
    let value : get_or c.args.truth.now c.lines.x none ≡ line_at c.args.truth.now c.lines.x =
    get_or_default c.args.truth.now c.lines.x none zero_line (omega (arith, inside, c.requires.long)) in
    record {
      steady = StaysSteady-then c.lines.x 1 _ _ _ c.lines.invariant.steady (StaysSteady-written _ c.meta_line.result (get_or c.args.truth.now c.lines.x none) _ c.write_steady.ensures);
      capacity = c.note_meta.ensures.capacity ∙ c.lines.invariant.capacity;
      ledger =
          HasToldMeta-more (shape_of c.args.geo.now) c.args.truth.now c.lines.x _ _ _ _ value (omega (arith, inside, c.requires.truth)) c.lines.invariant.ledger
          c.note_meta.ensures.line;
      reached =
          turn_ok c.lines.invariant.reached inside
          (written_so c.meta_line.result _ (get_or c.args.truth.now c.lines.x none) _ _ _ c.meta_line.ensures.value value c.write_steady.ensures);
      lines =
          HasWrittenMeta-more (shape_of c.args.geo.now) c.args.truth.now c.lines.x c.meta_line.result _ _ _ _ c.meta_line.ensures.value value inside
          c.lines.invariant.lines c.write_steady.ensures;
    }

pub returns-clause-plan : goal.returns-clause-plan
returns-clause-plan g c = turns_end c.lines.invariant.reached (omega (arith, c.lines-test, c.metas-x-end.ensures.value))
