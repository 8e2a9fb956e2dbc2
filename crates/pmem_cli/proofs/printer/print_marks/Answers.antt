use Rattle.std.proofs.Common.{◌∙◌, [], ◌++◌, get_or, refl, subst, arith}
use Rattle.pmem_base.specs.declared.answers.Mark.{Mark}
use Rattle.plain_model.specs.Texts.{as_line, mark_text}
use Rattle.pmem_cli.specs.Printed.{Prints, PrintsFront, with_waiting}
use Rattle.std.proofs.lemmas.Result.{err_from_is_err_and}
use Rattle.pmem_cli.proofs.PrintLemmas.{Prints-nil, Prints-trans}
use Rattle.pmem_cli.proofs.MarkLines.{marks-step, marks-front, marks-whole}
use Rattle.pmem_cli.proofs.printer.print_marks.Goals as goal

pub each-init : goal.each-init
each-init g c = record { so_far = []; printed = Prints-nil _; rest = refl; writes = refl }

pub each-preserved : goal.each-preserved
each-preserved g c =
    let before = c.each.invariant in
    let from = with_waiting (g.K.Sink.put c.each.out) c.each.printer in
    let to = with_waiting (g.K.Sink.put c.print_mark.new.out) c.print_mark.new.self in
    let line = as_line (mark_text (get_or c.args.marks.now c.each.mark-index c.mark-item.result)) in record {
      so_far = before.so_far ++ line;
      printed =
          Prints-trans _ _ _ before.so_far line before.printed
          (subst (λ (mark : Mark). Prints from to (as_line (mark_text mark))) c.mark-item.is c.in_ok-print_mark.ensures.ok);
      rest = marks-step before.so_far c.args.marks.now c.each.mark-index c.mark-item.result c.each-test.true before.rest;
      writes = c.in_ok-print_mark.ensures.cause.kept ∙ before.writes;
    }

pub returns-in_err-print_mark-clause-err : goal.returns-in_err-print_mark-clause-err
returns-in_err-print_mark-clause-err g c =
    let before = c.each.invariant in
    let from = with_waiting (g.K.Sink.put c.each.out) c.each.printer in
    let to = with_waiting (g.K.Sink.put c.print_mark.new.out) c.print_mark.new.self in
    rw (err_from_is_err_and c.from_residual.result c.from_residual.ensures.1).1
    (marks-front _ _ to before.so_far c.args.marks.now c.each.mark-index c.mark-item.result c.each-test.true before.rest before.printed
    (subst (λ (mark : Mark). PrintsFront from to (as_line (mark_text mark))) c.mark-item.is c.in_err-print_mark.ensures.err))

pub returns-in_err-print_mark-clause-cause : goal.returns-in_err-print_mark-clause-cause
returns-in_err-print_mark-clause-cause g c =
    rw (err_from_is_err_and c.from_residual.result c.from_residual.ensures.1).1 (rw c.each.invariant.writes at c.in_err-print_mark.ensures.cause)

pub returns-clause-ok : goal.returns-clause-ok
returns-clause-ok g c =
    let before = c.each.invariant in
    marks-whole _ _ before.so_far c.args.marks.now c.each.mark-index (omega (arith, c.each-test.false)) before.rest before.printed
