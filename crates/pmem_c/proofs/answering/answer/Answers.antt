use Rattle.std.proofs.Common.{arith, inl, ap}
use Rattle.std.specs.Prelude.{Some}
use Rattle.pmem_cli.specs.Wholes.{left_in}
use Rattle.pmem_c.proofs.answering.answer.Goals as goal

pub returns-in-Ok : goal.returns-in-Ok
unfolding left_in
returns-in-Ok c =
    let (whole, may, was, is) = c.told_is_left.ensures.whole _ _ c.args.trace.now c.run.ensures.gave (ap Some c.new-source.ensures.rest) in
    let call = c.run.ensures.call whole may in
    let machine = c.run.ensures.machine whole may in
    let complete = c.run.ensures.complete whole may in
    inl (record {
      left = Some c.run.new.trace.rest.now;
      faults = c.run.new.out.faults;
      call = rw (was, is, c.as_slice.ensures.value, c.in-Ok.ensures.words, c.new-source.ensures.rest, c.requires.empty, c.requires.sound) at call;
      machine = rw (was, is, c.as_slice.ensures.value, c.in-Ok.ensures.words, c.new-source.ensures.rest, c.requires.empty) at machine;
      complete = rw (was, c.as_slice.ensures.value, c.in-Ok.ensures.words, c.new-source.ensures.rest, c.requires.sound) at complete;
      failed = rw c.requires.sound at c.run.ensures.failed_push;
      read = λ three. grind (arith, call.read three);
    })
