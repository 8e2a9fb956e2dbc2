use Rattle.plain_model.specs.Texts.{reply_text}
use Rattle.pmem_replay.specs.Stepped.{reply_in}
use Rattle.pmem_cli.specs.Logged.{log_text}
use Rattle.pmem_cli.specs.Printed.{with_waiting}
use Rattle.std.proofs.lemmas.Result.{err_from_is_err_and, on_err_weaker, on_ok_weaker}
use Rattle.pmem_cli.proofs.PrintLemmas.{Prints-trans, PrintsFront-trans, PrintsFront-more}
use Rattle.pmem_cli.proofs.logging.print_told.Goals as goal

pub returns-in_err-print_log-clause-err : goal.returns-in_err-print_log-clause-err
returns-in_err-print_log-clause-err g c =
    let from = with_waiting (g.K.Sink.put c.args.out.now) c.args.printer.now in
    let to = with_waiting (g.K.Sink.put c.print_log.new.out) c.print_log.new.printer in
    rw (err_from_is_err_and c.from_residual.result c.from_residual.ensures.1).1
    (PrintsFront-more from to (log_text c.args.accesses.now c.args.tags c.args.digests) (reply_text (reply_in c.args.world.now c.args.reply.now))
    c.in_err-print_log.ensures.err)

pub returns-clause-ok : goal.returns-clause-ok
returns-clause-ok g c = on_ok_weaker c.print_reply.result (Prints-trans _ _ _ _ _ c.in_ok-print_log.ensures.ok) c.print_reply.ensures.ok

pub returns-clause-err : goal.returns-clause-err
returns-clause-err g c =
    let to = with_waiting (g.K.Sink.put c.print_reply.new.out) c.print_reply.new.printer in
    on_err_weaker c.print_reply.result (PrintsFront-trans _ _ to _ _ c.in_ok-print_log.ensures.ok) c.print_reply.ensures.err
