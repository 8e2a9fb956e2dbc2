-- A counter is read from its group, and has the range of those of a block.
use Rattle.std.proofs.Common.{sym, subst}
use Rattle.pmem_base.specs.Lines.{IsCtr}
use Rattle.split_counters.specs.Blocks.{unpacked}
use Rattle.split_counters.proofs.Packing.{unpacked-IsBlock}
use Rattle.split_counters.proofs.Groups.{counter_read}
use Rattle.split_counters.proofs.StoredLaws.{unpacked-small}
use Rattle.split_counters.proofs.bytes.counter_at.Goals as goal

pub returns-clause-value : goal.returns-clause-value
returns-clause-value c =
    counter_read c.args.line.now c.copy_from_slice.new.self c.unpacked_group-minors.result c.from_be_bytes-major.result c.args.i c.from.result
    c.from-2.result c.is_whole.ensures c.requires c.from.ensures c.from-2.ensures c.copy_from_slice.ensures.after c.from_be_bytes-major.ensures
    c.unpacked_group-minors.ensures

pub returns-clause-range : goal.returns-clause-range
returns-clause-range c =
    subst IsCtr (sym (returns-clause-value c))
    (record { major = (unpacked-IsBlock c.args.line.now c.is_whole.ensures).major; minor = unpacked-small c.args.line.now c.args.i c.requires })
