use Rattle.std.proofs.Common.{rules, ◌≡◌, ◌*◌, refl, sym, subst, arith, take, drop}
use Rattle.split_counters.specs.Blocks.{IsBlock}
use Rattle.split_counters.proofs.Packing.{unpacked-IsBlock}
use Rattle.split_counters.proofs.Groups.{unpacked_front, unpacked_front-none, unpack_step, minors_long, unpack_end}
use Rattle.split_counters.proofs.bytes.unpack.Goals as goal

pub loop-group-init : goal.loop-group-init
loop-group-init c = (sym (unpacked_front-none _), refl)

pub loop-group-preserved : goal.loop-group-preserved
loop-group-preserved c = search (rules, unpack_step, minors_long)

pub returns-clause-value : goal.returns-clause-value
returns-clause-value c =
    unpack_end c.args.line.now c.copy_from_slice.new.self c.loop-group.minors c.from_be_bytes.result c.is_whole.ensures c.loop-group.invariant.1
    (let last : c.loop-group.group ≡ 8 = omega arith in
    subst (λ g. take (8 * g) c.loop-group.minors ≡ unpacked_front (drop 8 c.args.line.now.0) g) last c.loop-group.invariant.0)
    c.copy_from_slice.ensures.after c.from_be_bytes.ensures

pub returns-clause-valid : goal.returns-clause-valid
returns-clause-valid c =
    subst IsBlock (sym (returns-clause-value c)) (unpacked-IsBlock c.args.line.now c.is_whole.ensures)
