use Rattle.std.proofs.Common.{◌≡◌, ◌<◌, [], get_or, ap, ◌∙◌, arith}
use Rattle.std.proofs.lemmas.List.{get_or_default}
use Rattle.pmem_base.specs.declared.lines.Line.{Line}
use Rattle.pmem_base.specs.Geo.{shape_of}
use Rattle.pmem_base.specs.Layout.{shadow_lines}
use Rattle.pmem_base.specs.Lines.{line_at, zero_line}
use Rattle.call_plan.proofs.Steps.{answered_err}
use Rattle.call_plan.proofs.Loops.{turn_ok, turn_err, turns_end}
use Rattle.pmem_recovery.specs.Upward.{is_other}
use Rattle.pmem_recovery.proofs.WritePlans.{changed_as}
use Rattle.pmem_recovery.proofs.writing.clear_shadow.Given.{Over}
use Rattle.pmem_recovery.proofs.writing.clear_shadow.Goals.{After-is_other-changed}
use Rattle.pmem_recovery.proofs.writing.clear_shadow.Goals as goal

-- one shadow line
module _ (g : Over) (c : After-is_other-changed g) where
  inside : c.lines.n < shadow_lines (shape_of c.args.geo.now)
  inside = omega (arith, c.lines-test.true, c.shadows-n-end.ensures.value)

  other : c.is_other-changed.result ≡ is_other (line_at c.args.shadow.now c.lines.n) zero_line
  other =
      let none : Line = record { 0 = [] } in
      let read : get_or c.args.shadow.now c.lines.n none ≡ line_at c.args.shadow.now c.lines.n =
      get_or_default c.args.shadow.now c.lines.n none zero_line (omega (arith, inside, c.requires.shadow)) in
      c.is_other-changed.ensures ∙ ap (λ l. is_other l c.default-zero.result) read
      ∙ ap (is_other (line_at c.args.shadow.now c.lines.n)) c.default-zero.ensures

pub lines-preserved : goal.lines-preserved
lines-preserved g c =
    let here = (goal.at.lines-preserved g c).After-is_other-changed in
    record {
      reached =
          turn_ok c.lines.invariant.reached (inside g here)
          (changed_as c.shadow_line.ensures.value c.default-zero.ensures (other g here) c.in_ok-write_changed.ensures.plan);
    }

pub returns-in_err-write_changed : goal.returns-in_err-write_changed
returns-in_err-write_changed g c =
    let here = (goal.at.returns-in_err-write_changed g c).After-is_other-changed in
    record {
      plan =
          answered_err c.from_residual.result c.from_residual.ensures.1
          (turn_err c.lines.invariant.reached (inside g here)
          (changed_as c.shadow_line.ensures.value c.default-zero.ensures (other g here) c.in_err-write_changed.ensures.plan));
    }

pub returns : goal.returns
returns g c = record { plan = turns_end c.lines.invariant.reached (omega (arith, c.lines-test.false, c.shadows-n-end.ensures.value)) }
