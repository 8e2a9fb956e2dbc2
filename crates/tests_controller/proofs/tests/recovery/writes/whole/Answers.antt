-- A whole line is a posted write.
use Rattle.pmem_engine.proofs.PostedWrites.WriteEnds.{whole_posted}
use Rattle.tests_controller.proofs.tests.recovery.writes.whole.Goals as goal

pub returns : goal.returns
returns g = whole_posted g.args.at g.args.line.now g.ranges.at.fits g.is_whole.ensures
