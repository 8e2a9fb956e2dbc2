use Rattle.std.proofs.Common.{arith, ◌+◌}
use Rattle.collision_witness.proofs.CounterLemmas.{rest-take, parts-none, parts-some, parts-many}
use Rattle.collision_witness.proofs.reading.parts_at_dot.Goals as goal

pub returns-then-at-word-clause-none : goal.returns-then-at-word-clause-none
returns-then-at-word-clause-none c =
    parts-none c.args.word.now c.dot_index-at.result c.dot_index-at.ensures.count (omega (arith, c.if-at-word.true))

pub returns-then-dot_index-second-clause-none : goal.returns-then-dot_index-second-clause-none
returns-then-dot_index-second-clause-none c =
    parts-many c.args.word.now _ c.dot_index-at.result c.dot_index.result (rest-take c.args.word.now (c.dot_index-at.result + 1)) c.dot_index-at.ensures.count (omega (arith, c.if-at-word.false, c.dot_index-at.ensures.within)) c.dot_index.ensures.count c.if-dot_index-second.true

pub returns-clause-some : goal.returns-clause-some
returns-clause-some c =
    parts-some c.args.word.now _ c.dot_index-at.result c.dot_index.result (rest-take c.args.word.now (c.dot_index-at.result + 1)) c.dot_index-at.ensures.count (omega (arith, c.if-at-word.false, c.dot_index-at.ensures.within)) c.dot_index.ensures.count c.if-dot_index-second.false
