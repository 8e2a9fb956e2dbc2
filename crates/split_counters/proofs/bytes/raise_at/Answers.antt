-- A minor is raised within its group, and the other groups keep their bytes.
use Rattle.std.proofs.Common.{refl, sym, subst, ◌∙◌, arith}
use Rattle.pmem_base.specs.Lines.{IsCtr}
use Rattle.split_counters.specs.Blocks.{unpacked}
use Rattle.split_counters.proofs.Packing.{unpacked-IsBlock}
use Rattle.split_counters.proofs.Raising.{raised_counter, raised_small, raised_line}
use Rattle.split_counters.proofs.bytes.raise_at.Goals as goal

pub packed_group-group-requires-clause-seven_bits : goal.packed_group-group-requires-clause-seven_bits
packed_group-group-requires-clause-seven_bits c =
    raised_small c.args.line.now c.unpacked_group-minors.result c.args.i c.from.result c.from-place.result c.is_whole.ensures c.requires.place
    c.from.ensures c.from-place.ensures c.unpacked_group-minors.ensures c.requires.room

pub returns-clause-line : goal.returns-clause-line
returns-clause-line c =
    raised_line c.args.line.now _ c.unpacked_group-minors.result c.copy_from_slice-2.new.self c.args.i c.from.result c.from-place.result
    c.is_whole.ensures c.is_whole-2.ensures c.requires.place c.from.ensures c.from-place.ensures c.requires.room c.unpacked_group-minors.ensures
    (c.copy_from_slice-2.ensures.after ∙ c.packed_group-group.ensures) refl

pub returns-clause-value : goal.returns-clause-value
returns-clause-value c =
    raised_counter c.args.line.now c.unpacked_group-minors.result c.args.i c.from.result c.from-place.result c.is_whole.ensures c.requires.place
    c.from.ensures c.from-place.ensures c.unpacked_group-minors.ensures c.copy_from_slice.new.self c.from_be_bytes-major.result
    c.copy_from_slice.ensures.after c.from_be_bytes-major.ensures

pub returns-clause-range : goal.returns-clause-range
returns-clause-range c =
    subst IsCtr (sym (returns-clause-value c))
    (record { major = (unpacked-IsBlock c.args.line.now c.is_whole.ensures).major; minor = omega (arith, c.requires.room) })
