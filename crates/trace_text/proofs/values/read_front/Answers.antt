use Rattle.std.proofs.Common.{arith}
use Rattle.trace_text.proofs.PartLemmas.{front_line, front_part}
use Rattle.trace_text.proofs.values.read_front.Goals as goal

pub returns-in-Ok-clause-line : goal.returns-in-Ok-clause-line
returns-in-Ok-clause-line c =
    front_line c.args.word.now c.decode_to_slice.new.out c.split_at_mut-front.result.1.now c.args.count c.decode_to_slice.result
    (rw c.split_at_mut-front.ensures.front_len at c.decode_to_slice.ensures.value) c.in-Ok.is c.split_at_mut-front.ensures.back

pub returns-in-Ok-clause-part : goal.returns-in-Ok-clause-part
returns-in-Ok-clause-part c =
    front_part c.decode_to_slice.new.out c.split_at_mut-front.result.1.now c.args.count
    (omega (arith, c.decode_to_slice.auto.out, c.split_at_mut-front.ensures.front_len)) c.requires c.split_at_mut-front.ensures.back c.is_whole.ensures
