use Rattle.std.proofs.Common.{arith}
use Rattle.std.proofs.lemmas.Int.Digits.{digits_value_more}
use Rattle.collision_witness.proofs.NumberLemmas.{numeral_bound, numeral_digit}
use Rattle.collision_witness.proofs.values.value_of.Goals as goal

pub overflow_mul-value : goal.overflow_mul-value
overflow_mul-value c = omega (arith, c.loop-byte.invariant, numeral_bound c.args.word.now c.loop-byte.byte-index c.requires)

pub overflow_add-value : goal.overflow_add-value
overflow_add-value c =
    let digit = numeral_digit c.args.word.now c.loop-byte.byte-index c.requires c.loop-byte-test.true in
    omega (arith, digit.1, c.loop-byte.invariant, numeral_bound c.args.word.now c.loop-byte.byte-index c.requires)

pub loop-byte-preserved : goal.loop-byte-preserved
loop-byte-preserved c =
    let digit = numeral_digit c.args.word.now c.loop-byte.byte-index c.requires c.loop-byte-test.true in
    let next = digits_value_more 10 c.args.word.now c.loop-byte.byte-index c.loop-byte-test.true in
    rw next (omega (arith, digit.2, c.loop-byte.invariant))
