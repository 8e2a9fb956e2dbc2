use Rattle.std.proofs.Common.{arith}
use Rattle.trace_text.proofs.PartLemmas.{part_read}
use Rattle.trace_text.proofs.values.read_part.Goals as goal

pub returns-clause-part : goal.returns-clause-part
returns-clause-part c =
    part_read c.args.word.now c.in_ok-line.line (omega arith) (omega arith) c.in_ok-line.ensures.line
