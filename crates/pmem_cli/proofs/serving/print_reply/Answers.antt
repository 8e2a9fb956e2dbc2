use Rattle.std.specs.Prelude.{slice_range}
use Rattle.plain_model.specs.Texts.{as_line, answer_text, marks_text}
use Rattle.pmem_cli.specs.Printed.{with_waiting}
use Rattle.std.proofs.lemmas.Result.{err_from_is_err_and, on_err_weaker, on_ok_weaker}
use Rattle.pmem_cli.proofs.PrintLemmas.{Prints-trans, PrintsFront-trans, PrintsFront-more}
use Rattle.pmem_cli.proofs.serving.print_reply.Goals as goal

pub returns-in_err-print_marks-clause-err : goal.returns-in_err-print_marks-clause-err
returns-in_err-print_marks-clause-err g c =
    let reply = c.args.reply.now in
    let from = with_waiting (g.K.Sink.put c.args.out.now) c.args.printer.now in
    let to = with_waiting (g.K.Sink.put c.print_marks.new.out) c.print_marks.new.printer in
    rw (err_from_is_err_and c.from_residual.result c.from_residual.ensures.1).1
    (PrintsFront-more from to (marks_text (slice_range c.args.world.now.ledger.marks reply.from reply.to)) (as_line (answer_text reply.answer))
    (rw c.marks.ensures at c.in_err-print_marks.ensures.err))

pub returns-clause-ok : goal.returns-clause-ok
returns-clause-ok g c = on_ok_weaker c.print_answer.result (Prints-trans _ _ _ _ _ (rw c.marks.ensures at c.in_ok-print_marks.ensures.ok)) c.print_answer.ensures.ok

pub returns-clause-err : goal.returns-clause-err
returns-clause-err g c =
    let to = with_waiting (g.K.Sink.put c.print_answer.new.out) c.print_answer.new.self in
    on_err_weaker c.print_answer.result (PrintsFront-trans _ _ to _ _ (rw c.marks.ensures at c.in_ok-print_marks.ensures.ok)) c.print_answer.ensures.err
