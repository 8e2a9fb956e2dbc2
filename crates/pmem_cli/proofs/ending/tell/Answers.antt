use Rattle.std.proofs.Common.{arith, ◌∙◌, [], subst, append-nil}
use Rattle.std.proofs.lemmas.Grind.{common_steps}
use Rattle.pmem_cli.specs.Endings.{ending_text}
use Rattle.pmem_cli.specs.Printed.{PrintsFront, Prints, with_waiting}
use Rattle.std.proofs.lemmas.Result.{on_err_weaker}
use Rattle.pmem_cli.proofs.PrintLemmas.{PrintsFront-trans}
use Rattle.pmem_cli.proofs.ending.tell.Goals as goal

pub returns-clause-err : goal.returns-clause-err
returns-clause-err g c =
    let from = with_waiting (g.K.Sink.put c.args.out.now) c.args.printer.now in
    let between = with_waiting (g.K.Sink.put c.print.new.out) c.print.new.self in
    let to = with_waiting (g.K.Sink.put c.flush.new.out) c.flush.new.self in
    let text = ending_text c.args.ending in
    let printed : Prints from between text = subst (Prints from between) (c.as_slice.ensures.value ∙ c.write_ending.ensures) c.in_ok-print.ensures.ok in
    on_err_weaker c.flush.result
    (λ (front : PrintsFront between to []). rw append-nil at (PrintsFront-trans from between to text [] printed front)) c.flush.ensures.err

pub returns-clause-ok : goal.returns-clause-ok
returns-clause-ok g c = grind (arith, common_steps)
