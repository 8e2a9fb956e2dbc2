use Rattle.plain_model.specs.Texts.{as_line}
use Rattle.pmem_cli.specs.Logged.{log_text}
use Rattle.pmem_cli.specs.Printed.{with_waiting}
use Rattle.std.proofs.lemmas.Result.{err_from_is_err_and, on_err_weaker, on_ok_weaker}
use Rattle.pmem_cli.proofs.PrintLemmas.{Prints-trans, PrintsFront-trans, PrintsFront-more}
use Rattle.pmem_cli.proofs.telling.print_told.Goals as goal

pub returns-in_err-print_log-clause-err : goal.returns-in_err-print_log-clause-err
returns-in_err-print_log-clause-err g c =
    let from = with_waiting (g.K.Sink.put c.args.out.now) c.args.printer.now in
    let to = with_waiting (g.K.Sink.put c.print_log.new.out) c.print_log.new.printer in
    rw (err_from_is_err_and c.from_residual.result c.from_residual.ensures.1).1
    (PrintsFront-more from to (log_text c.args.accesses.now c.args.tags c.args.digests) (as_line c.args.text.now) c.in_err-print_log.ensures.err)

pub returns-clause-ok : goal.returns-clause-ok
returns-clause-ok g c = on_ok_weaker c.print_line.result (Prints-trans _ _ _ _ _ c.in_ok-print_log.ensures.ok) c.print_line.ensures.ok

pub returns-clause-err : goal.returns-clause-err
returns-clause-err g c =
    let to = with_waiting (g.K.Sink.put c.print_line.new.out) c.print_line.new.self in
    on_err_weaker c.print_line.result (PrintsFront-trans _ _ to _ _ c.in_ok-print_log.ensures.ok) c.print_line.ensures.err
