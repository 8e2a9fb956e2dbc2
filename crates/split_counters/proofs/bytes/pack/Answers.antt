use Rattle.std.proofs.Common.{◌≡◌, ◌+◌, ◌*◌, subst, arith, rules, take}
use Rattle.std.proofs.lemmas.List.{take_at, length-append}
use Rattle.split_counters.proofs.Groups.{packed_front, packed_front-none, to_eight, pack_step, bytes_long, pack_end}
use Rattle.split_counters.proofs.bytes.pack.Goals as goal

pub loop-group-init : goal.loop-group-init
loop-group-init c = search (rules, take_at, to_eight, packed_front-none, length-append)

pub loop-group-preserved : goal.loop-group-preserved
loop-group-preserved c = search (rules, pack_step, bytes_long)

pub returns : goal.returns
returns c =
    pack_end c.args.block.now c.loop-group.bytes (search rules) c.loop-group.invariant.1
    (let last : c.loop-group.group ≡ 8 = omega arith in
    subst (λ g. take (7 * g + 8) c.loop-group.bytes ≡ packed_front c.args.block.now.major c.args.block.now.minors g) last c.loop-group.invariant.0)
