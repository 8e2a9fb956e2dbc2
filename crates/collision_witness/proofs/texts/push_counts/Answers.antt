use Rattle.std.proofs.Common.{arith}
use Rattle.collision_witness.proofs.TextLemmas.{sentence-more_number}
use Rattle.collision_witness.proofs.texts.push_counts.Goals as goal

pub loop-number-preserved : goal.loop-number-preserved
loop-number-preserved c =
    let more = sentence-more_number c.args.text.now.items c.args.words.now c.args.numbers.now c.loop-number.number-index c.loop-number-test.true in
    (cc, omega arith)
