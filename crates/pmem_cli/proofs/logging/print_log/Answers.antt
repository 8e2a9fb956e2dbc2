use Rattle.plain_model.specs.Texts.{as_line}
use Rattle.pmem_cli.specs.Logged.{accesses_text, work_text}
use Rattle.pmem_cli.specs.Printed.{with_waiting}
use Rattle.std.proofs.lemmas.Result.{err_from_is_err_and, on_err_weaker, on_ok_weaker}
use Rattle.pmem_cli.proofs.PrintLemmas.{Prints-trans, PrintsFront-trans, PrintsFront-more}
use Rattle.pmem_cli.proofs.logging.print_log.Goals as goal

pub returns-in_err-print_accesses-clause-err : goal.returns-in_err-print_accesses-clause-err
returns-in_err-print_accesses-clause-err g c =
    let from = with_waiting (g.K.Sink.put c.args.out.now) c.args.printer.now in
    let to = with_waiting (g.K.Sink.put c.print_accesses.new.out) c.print_accesses.new.printer in
    rw (err_from_is_err_and c.from_residual.result c.from_residual.ensures.1).1
    (PrintsFront-more from to (accesses_text c.args.accesses.now) (as_line (work_text c.args.tags c.args.digests)) c.in_err-print_accesses.ensures.err)

pub returns-clause-ok : goal.returns-clause-ok
returns-clause-ok g c = on_ok_weaker c.print_work.result (Prints-trans _ _ _ _ _ c.in_ok-print_accesses.ensures.ok) c.print_work.ensures.ok

pub returns-clause-err : goal.returns-clause-err
returns-clause-err g c =
    let to = with_waiting (g.K.Sink.put c.print_work.new.out) c.print_work.new.self in
    on_err_weaker c.print_work.result (PrintsFront-trans _ _ to _ _ c.in_ok-print_accesses.ensures.ok) c.print_work.ensures.err
