use Rattle.std.proofs.Common.{arith, sym, length, eq-eqb}
use Rattle.std.proofs.lemmas.List.Sums.{position_or_len_is}
use Rattle.collision_witness.specs.Reading.{is_dot}
use Rattle.collision_witness.proofs.reading.dot_index.Goals as goal

pub returns-then-byte-eq46-clause-count : goal.returns-then-byte-eq46-clause-count
returns-then-byte-eq46-clause-count c =
    sym (position_or_len_is is_dot c.args.word.now c.loop-i.i 0 (omega arith) c.loop-i.invariant (λ _. eq-eqb _ 46 c.if-byte-eq46.true))

pub returns-clause-count : goal.returns-clause-count
returns-clause-count c =
    sym (position_or_len_is is_dot c.args.word.now (length c.args.word.now) 0 (omega arith) (λ k h. c.loop-i.invariant k (omega arith)) (λ h. absurd (omega arith)))
