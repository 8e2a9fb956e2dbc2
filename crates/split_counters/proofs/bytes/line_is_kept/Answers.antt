use Rattle.split_counters.proofs.Packing.{packed-unpacked}
use Rattle.split_counters.proofs.bytes.line_is_kept.Goals as goal

pub returns : goal.returns
returns c = packed-unpacked c.args.line.now c.is_whole.ensures
