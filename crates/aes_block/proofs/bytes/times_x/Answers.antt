use Rattle.std.proofs.Common.{rules, ◌≡◌, ◌*◌, ◌-◌, arith}
use Rattle.aes_block.specs.Field.{times_x}
use Rattle.aes_block.proofs.bytes.times_x.Goals as goal

pub returns-then-byte-lt128 : goal.returns-then-byte-lt128
unfolding times_x
returns-then-byte-lt128 c = search rules

pub returns-else-byte-lt128 : goal.returns-else-byte-lt128
unfolding times_x
returns-else-byte-lt128 c = let e : 2 * (c.args.byte - 128) ≡ 2 * c.args.byte - 256 = omega arith in grind arith
