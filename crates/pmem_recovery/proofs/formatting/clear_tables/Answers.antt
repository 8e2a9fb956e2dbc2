use Rattle.std.proofs.Common.{◌<◌, arith}
use Rattle.pmem_base.specs.Geo.{shape_of}
use Rattle.call_plan.proofs.Loops.{turn_ok, turns_end}
use Rattle.call_effects.proofs.SteadyLaws.{StaysSteady-then, StaysSteady-written}
use Rattle.pmem_recovery.proofs.FormatSteps.{HasClearedTables-more}
use Rattle.call_plan.proofs.Steps.{written_so}
use Rattle.pmem_base.specs.Layout.{shadow_lines}
use Rattle.pmem_recovery.proofs.formatting.clear_tables.Goals as goal

pub lines-preserved : goal.lines-preserved
lines-preserved g c =
    let inside : c.lines.n < shadow_lines (shape_of c.args.geo.now) = omega (arith, c.lines-test, c.shadows-n-end.ensures.value) in
    record {
      steady = StaysSteady-then c.lines.n 1 _ _ _ c.lines.invariant.steady (StaysSteady-written _ c.shadow_line.result c.default-zero.result _ c.write_steady.ensures);
      reached =
          turn_ok c.lines.invariant.reached inside
          (written_so c.shadow_line.result _ c.default-zero.result _ _ _ c.shadow_line.ensures.value c.default-zero.ensures c.write_steady.ensures);
      lines =
          HasClearedTables-more (shape_of c.args.geo.now) c.lines.n c.shadow_line.result c.default-zero.result _ _ _ c.shadow_line.ensures.value c.default-zero.ensures inside
          c.lines.invariant.lines c.write_steady.ensures;
    }

pub returns-clause-plan : goal.returns-clause-plan
returns-clause-plan g c = turns_end c.lines.invariant.reached (omega (arith, c.lines-test, c.shadows-n-end.ensures.value))
