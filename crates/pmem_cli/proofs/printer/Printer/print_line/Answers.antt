use Rattle.std.proofs.lemmas.Result.{err_from_is_err_and, on_err_weaker, on_ok_weaker}
use Rattle.std.specs.Prelude.{[], ◌∷◌}
use Rattle.pmem_cli.specs.Printed.{with_waiting}
use Rattle.pmem_cli.proofs.PrintLemmas.{Prints-trans, PrintsFront-trans, PrintsFront-more}
use Rattle.pmem_cli.proofs.printer.Printer.print_line.Goals as goal

pub returns-in_err-print-clause-err : goal.returns-in_err-print-clause-err
returns-in_err-print-clause-err g c =
    rw (err_from_is_err_and c.from_residual.result c.from_residual.ensures.1).1
    (PrintsFront-more (with_waiting (g.K.Sink.put c.args.out.now) c.args.self.now) (with_waiting (g.K.Sink.put c.print.new.out) c.print.new.self)
    c.args.text.now (10 ∷ []) c.in_err-print.ensures.err)

pub returns-clause-ok : goal.returns-clause-ok
returns-clause-ok g c = on_ok_weaker c.print-2.result (Prints-trans _ _ _ _ _ c.in_ok-print.ensures.ok) c.print-2.ensures.ok

pub returns-clause-err : goal.returns-clause-err
returns-clause-err g c =
    let to = with_waiting (g.K.Sink.put c.print-2.new.out) c.print-2.new.self in
    on_err_weaker c.print-2.result (PrintsFront-trans _ _ to _ _ c.in_ok-print.ensures.ok) c.print-2.ensures.err
