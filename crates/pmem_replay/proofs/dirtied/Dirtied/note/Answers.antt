-- The flags keep their number.
use Rattle.pmem_replay.proofs.Boards.FlagLemmas.{touched-counts}
use Rattle.pmem_replay.proofs.dirtied.Dirtied.note.Goals as goal

pub returns-in-Begin-clause-flags : goal.returns-in-Begin-clause-flags
returns-in-Begin-clause-flags c = touched-counts _ _ _ _ c.requires.flags c.touch.ensures

pub returns-then-ctr-gt0-clause-flags : goal.returns-then-ctr-gt0-clause-flags
returns-then-ctr-gt0-clause-flags c = touched-counts _ _ _ _ c.requires.flags c.touch-then-ctr-gt0.ensures
