use Rattle.std.proofs.Common.{arith}
use Rattle.split_counters.proofs.Groups.{number_of_minors-few}
use Rattle.split_counters.proofs.bytes.packed_group.Goals as goal

pub overflow_mul-number : goal.overflow_mul-number
overflow_mul-number c =
    omega (arith, number_of_minors-few c.args.minors.now c.loop-minor.minor-index (omega arith) c.requires.eight c.requires.seven_bits)

pub overflow_add-number : goal.overflow_add-number
overflow_add-number c =
    omega (arith, number_of_minors-few c.args.minors.now c.loop-minor.minor-index (omega arith) c.requires.eight c.requires.seven_bits)
