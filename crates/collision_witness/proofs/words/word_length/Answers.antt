use Rattle.std.proofs.Common.{arith, sym, length}
use Rattle.std.proofs.lemmas.List.Sums.{position_or_len_is}
use Rattle.collision_witness.specs.Words.{is_gap}
use Rattle.collision_witness.proofs.words.word_length.Goals as goal

pub returns-then-is_space-clause-count : goal.returns-then-is_space-clause-count
returns-then-is_space-clause-count c =
    sym (position_or_len_is is_gap c.args.text.now c.loop-i.i 0 (omega arith) c.loop-i.invariant (λ _. sym (c.if-is_space.ensures {u = tt})))

pub returns-clause-count : goal.returns-clause-count
returns-clause-count c =
    sym (position_or_len_is is_gap c.args.text.now (length c.args.text.now) 0 (omega arith) (λ k h. c.loop-i.invariant k (omega arith)) (λ h. absurd (omega arith)))
