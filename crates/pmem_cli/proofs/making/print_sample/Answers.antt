use Rattle.std.proofs.Common.{◌≡◌, ◌∙◌, ◌+◌, ◌%◌, ◌^◌, [], ◌++◌, refl, arith}
use Rattle.std.proofs.Math.Nat.{mod-eq_of_lt}
use Rattle.plain_model.specs.Texts.{as_line, command_text}
use Rattle.trace_text.specs.Samples.{sample_command, word_at}
use Rattle.pmem_cli.specs.Printed.{with_waiting}
use Rattle.std.proofs.lemmas.Result.{err_from_is_err_and, on_err_weaker, on_ok_weaker}
use Rattle.pmem_cli.proofs.PrintLemmas.{Prints-nil, Prints-trans}
use Rattle.pmem_cli.proofs.MakeLemmas.{one_more, sample-step, sample-whole, sample-front, sample-end_front}
use Rattle.pmem_cli.proofs.making.print_sample.Goals as goal

pub commands-init : goal.commands-init
commands-init g c = record {
  so_far = [];
  left = c.args.count;
  printed = Prints-nil _;
  counted = omega arith;
  number = rw c.new-maker.ensures refl;
  rest = rw c.new-maker.ensures refl;
  writes = refl;
}

pub commands-preserved : goal.commands-preserved
commands-preserved g c =
    let before = c.commands.invariant in
    let more = one_more before.left (omega (arith, before.counted, c.commands-test.true)) in
    let small : (c.commands.maker.number + 1) % 2 ^ 64 ≡ c.commands.maker.number + 1 = mod-eq_of_lt (omega (arith, before.number, c.commands-test.true, c.ranges.count.fits)) in
    let line = as_line (command_text (sample_command c.commands.maker.number (word_at c.commands.maker.state))) in record {
      so_far = before.so_far ++ line;
      left = more.0;
      printed = Prints-trans _ _ _ before.so_far line before.printed (rw c.next-command.ensures.command at c.in_ok-print_command.ensures.ok);
      counted = omega (arith, before.counted, more.1);
      number = c.next-command.ensures.number ∙ small ∙ omega (arith, before.number);
      rest =
          rw (c.next-command.ensures.state, c.next-command.ensures.number, small)
          (sample-step before.so_far _ c.commands.maker.state c.commands.maker.number before.left more.0 more.1 before.rest);
      writes = c.in_ok-print_command.ensures.cause.kept ∙ before.writes;
    }

pub returns-in_err-print_command-clause-err : goal.returns-in_err-print_command-clause-err
returns-in_err-print_command-clause-err g c =
    let before = c.commands.invariant in
    let more = one_more before.left (omega (arith, before.counted, c.commands-test.true)) in
    let to = with_waiting (g.K.Sink.put c.print_command.new.out) c.print_command.new.self in
    rw (err_from_is_err_and c.from_residual.result c.from_residual.ensures.1).1
    (sample-front _ _ to before.so_far c.args.seed c.args.count c.commands.maker.state c.commands.maker.number before.left more.0 more.1 before.rest before.printed
    (rw c.next-command.ensures.command at c.in_err-print_command.ensures.err))

pub returns-in_err-print_command-clause-cause : goal.returns-in_err-print_command-clause-cause
returns-in_err-print_command-clause-cause g c =
    rw (err_from_is_err_and c.from_residual.result c.from_residual.ensures.1).1 (rw c.commands.invariant.writes at c.in_err-print_command.ensures.cause)

pub returns-clause-ok : goal.returns-clause-ok
returns-clause-ok g c =
    let before = c.commands.invariant in
    on_ok_weaker c.print_command-2.result
    (sample-whole _ _ _ before.so_far c.args.seed c.args.count c.commands.maker.state c.commands.maker.number before.left
    (omega (arith, before.counted, c.commands-test.false)) before.rest before.printed) c.print_command-2.ensures.ok

pub returns-clause-err : goal.returns-clause-err
returns-clause-err g c =
    let before = c.commands.invariant in
    let to = with_waiting (g.K.Sink.put c.print_command-2.new.out) c.print_command-2.new.self in
    on_err_weaker c.print_command-2.result
    (sample-end_front _ _ to before.so_far c.args.seed c.args.count c.commands.maker.state c.commands.maker.number before.left
    (omega (arith, before.counted, c.commands-test.false)) before.rest before.printed) c.print_command-2.ensures.err
