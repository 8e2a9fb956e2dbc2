-- A whole line is a posted write.
use Rattle.pmem_engine.proofs.PostedWrites.WriteEnds.{whole_posted}
use Rattle.pmem_engine.proofs.engine.Engine.write.Goals as goal

pub write_part-requires-clause-posted : goal.write_part-requires-clause-posted
write_part-requires-clause-posted g c = whole_posted c.args.at c.args.line.now c.ranges.at.fits c.is_whole.ensures
