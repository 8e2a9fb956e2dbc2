use Rattle.std.proofs.Common.{arith, length-append}
use Rattle.collision_witness.proofs.NumberLemmas.{digits_of_word}
use Rattle.collision_witness.proofs.texts.push_number.Goals as goal

pub returns-clause-length : goal.returns-clause-length
returns-clause-length c = rw (c.push_digits.ensures, length-append) (omega (arith, digits_of_word c.args.number c.ranges.number.fits))
