use Rattle.std.proofs.Common.{◌∙◌, [], ◌++◌, get_or, refl, subst, arith}
use Rattle.board.specs.declared.access.Access.{Access}
use Rattle.plain_model.specs.Texts.{as_line}
use Rattle.pmem_cli.specs.Logged.{access_text}
use Rattle.pmem_cli.specs.Printed.{Prints, PrintsFront, with_waiting}
use Rattle.std.proofs.lemmas.Result.{err_from_is_err_and}
use Rattle.pmem_cli.proofs.PrintLemmas.{Prints-nil, Prints-trans}
use Rattle.pmem_cli.proofs.AccessLines.{accesses-step, accesses-front, accesses-whole}
use Rattle.pmem_cli.proofs.printer.print_accesses.Goals as goal

pub each-init : goal.each-init
each-init g c = record { so_far = []; printed = Prints-nil _; rest = refl; writes = refl }

pub each-preserved : goal.each-preserved
each-preserved g c =
    let before = c.each.invariant in
    let from = with_waiting (g.K.Sink.put c.each.out) c.each.printer in
    let to = with_waiting (g.K.Sink.put c.print_access.new.out) c.print_access.new.self in
    let line = as_line (access_text (get_or c.args.accesses.now c.each.access-index c.access-item.result)) in record {
      so_far = before.so_far ++ line;
      printed =
          Prints-trans _ _ _ before.so_far line before.printed
          (subst (λ (access : Access). Prints from to (as_line (access_text access))) c.access-item.is c.in_ok-print_access.ensures.ok);
      rest = accesses-step before.so_far c.args.accesses.now c.each.access-index c.access-item.result c.each-test.true before.rest;
      writes = c.in_ok-print_access.ensures.cause.kept ∙ before.writes;
    }

pub returns-in_err-print_access-clause-err : goal.returns-in_err-print_access-clause-err
returns-in_err-print_access-clause-err g c =
    let before = c.each.invariant in
    let from = with_waiting (g.K.Sink.put c.each.out) c.each.printer in
    let to = with_waiting (g.K.Sink.put c.print_access.new.out) c.print_access.new.self in
    rw (err_from_is_err_and c.from_residual.result c.from_residual.ensures.1).1
    (accesses-front _ _ to before.so_far c.args.accesses.now c.each.access-index c.access-item.result c.each-test.true before.rest before.printed
    (subst (λ (access : Access). PrintsFront from to (as_line (access_text access))) c.access-item.is c.in_err-print_access.ensures.err))

pub returns-in_err-print_access-clause-cause : goal.returns-in_err-print_access-clause-cause
returns-in_err-print_access-clause-cause g c =
    rw (err_from_is_err_and c.from_residual.result c.from_residual.ensures.1).1 (rw c.each.invariant.writes at c.in_err-print_access.ensures.cause)

pub returns-clause-ok : goal.returns-clause-ok
returns-clause-ok g c =
    let before = c.each.invariant in
    accesses-whole _ _ before.so_far c.args.accesses.now c.each.access-index (omega (arith, c.each-test.false)) before.rest before.printed
