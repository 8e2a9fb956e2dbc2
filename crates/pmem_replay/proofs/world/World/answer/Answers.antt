-- What each command answers, as its own function says.
use Rattle.std.proofs.Common.{refl, inl}
use Rattle.pmem_replay.proofs.Steps.PartsOfWorld.{unmarked}
use Rattle.pmem_replay.proofs.world.World.answer.Goals as goal

pub returns-in-Post-clause-stepped : goal.returns-in-Post-clause-stepped
returns-in-Post-clause-stepped g c = rw c.in-Post.is (unmarked _ _ _ _ _ c.post.ensures)

pub returns-in-Post-clause-logged : goal.returns-in-Post-clause-logged
returns-in-Post-clause-logged g c = rw c.in-Post.is refl

pub returns-in-Part-clause-stepped : goal.returns-in-Part-clause-stepped
returns-in-Part-clause-stepped g c = rw c.in-Part.is (unmarked _ _ _ _ _ c.part.ensures)

pub returns-in-Part-clause-logged : goal.returns-in-Part-clause-logged
returns-in-Part-clause-logged g c = rw c.in-Part.is refl

pub returns-in-Read-clause-stepped : goal.returns-in-Read-clause-stepped
returns-in-Read-clause-stepped g c = rw c.in-Read.is (unmarked _ _ _ _ _ c.read.ensures.stepped)

pub returns-in-Read-clause-logged : goal.returns-in-Read-clause-logged
returns-in-Read-clause-logged g c = rw c.in-Read.is c.read.ensures.logged

pub returns-in-Flush-clause-stepped : goal.returns-in-Flush-clause-stepped
returns-in-Flush-clause-stepped g c = rw c.in-Flush.is (unmarked _ _ _ _ _ c.flush.ensures.stepped)

pub returns-in-Flush-clause-logged : goal.returns-in-Flush-clause-logged
returns-in-Flush-clause-logged g c = rw c.in-Flush.is c.flush.ensures.logged

pub returns-in-Cut-clause-stepped : goal.returns-in-Cut-clause-stepped
returns-in-Cut-clause-stepped g c = rw c.in-Cut.is (unmarked _ _ _ _ _ c.cut.ensures)

pub returns-in-Cut-clause-logged : goal.returns-in-Cut-clause-logged
returns-in-Cut-clause-logged g c = rw c.in-Cut.is refl

pub returns-in-Off-clause-stepped : goal.returns-in-Off-clause-stepped
returns-in-Off-clause-stepped g c = rw c.in-Off.is (unmarked _ _ _ _ _ c.off.ensures)

pub returns-in-Off-clause-logged : goal.returns-in-Off-clause-logged
returns-in-Off-clause-logged g c = rw c.in-Off.is refl

pub returns-in-Poke-clause-stepped : goal.returns-in-Poke-clause-stepped
returns-in-Poke-clause-stepped g c = rw c.in-Poke.is (unmarked _ _ _ _ _ c.poke.ensures)

pub returns-in-Poke-clause-logged : goal.returns-in-Poke-clause-logged
returns-in-Poke-clause-logged g c = rw c.in-Poke.is refl

pub returns-in-Flip-clause-stepped : goal.returns-in-Flip-clause-stepped
returns-in-Flip-clause-stepped g c = rw c.in-Flip.is (unmarked _ _ _ _ _ c.flip.ensures)

pub returns-in-Flip-clause-logged : goal.returns-in-Flip-clause-logged
returns-in-Flip-clause-logged g c = rw c.in-Flip.is refl

pub returns-in-Move-clause-stepped : goal.returns-in-Move-clause-stepped
returns-in-Move-clause-stepped g c = rw c.in-Move.is (unmarked _ _ _ _ _ c.move_line.ensures)

pub returns-in-Move-clause-logged : goal.returns-in-Move-clause-logged
returns-in-Move-clause-logged g c = rw c.in-Move.is refl

pub returns-in-Back-clause-stepped : goal.returns-in-Back-clause-stepped
returns-in-Back-clause-stepped g c = rw c.in-Back.is (unmarked _ _ _ _ _ c.back.ensures)

pub returns-in-Back-clause-logged : goal.returns-in-Back-clause-logged
returns-in-Back-clause-logged g c = rw c.in-Back.is refl

pub returns-in-Peek-clause-stepped : goal.returns-in-Peek-clause-stepped
returns-in-Peek-clause-stepped g c = rw c.in-Peek.is (unmarked _ _ _ _ _ c.peek.ensures)

pub returns-in-Peek-clause-logged : goal.returns-in-Peek-clause-logged
returns-in-Peek-clause-logged g c = rw c.in-Peek.is refl

pub returns-in-Stat-clause-stepped : goal.returns-in-Stat-clause-stepped
returns-in-Stat-clause-stepped g c = rw c.in-Stat.is (unmarked _ _ _ _ _ c.stat.ensures)

pub returns-in-Stat-clause-logged : goal.returns-in-Stat-clause-logged
returns-in-Stat-clause-logged g c = rw c.in-Stat.is refl

pub returns-in-Loss-clause-stepped : goal.returns-in-Loss-clause-stepped
returns-in-Loss-clause-stepped g c = rw c.in-Loss.is (unmarked _ _ _ _ _ c.loss.ensures.stepped)

pub returns-in-Loss-clause-logged : goal.returns-in-Loss-clause-logged
returns-in-Loss-clause-logged g c = rw c.in-Loss.is c.loss.ensures.logged

pub returns-in-Drain-clause-stepped : goal.returns-in-Drain-clause-stepped
returns-in-Drain-clause-stepped g c = rw c.in-Drain.is c.drain.ensures.stepped

pub returns-in-Fence-clause-stepped : goal.returns-in-Fence-clause-stepped
returns-in-Fence-clause-stepped g c = rw c.in-Fence.is c.fence.ensures.stepped

pub returns-in-Turn-clause-stepped : goal.returns-in-Turn-clause-stepped
returns-in-Turn-clause-stepped g c = rw c.in-Turn.is c.turn.ensures.stepped

pub returns-in-Drain-clause-err : goal.returns-in-Drain-clause-err
returns-in-Drain-clause-err g c = c.drain.ensures.err

pub returns-in-Drain-clause-wanting : goal.returns-in-Drain-clause-wanting
returns-in-Drain-clause-wanting g c = rw c.in-Drain.is c.drain.ensures.wanting

pub returns-in-Fence-clause-err : goal.returns-in-Fence-clause-err
returns-in-Fence-clause-err g c = c.fence.ensures.err

pub returns-in-Fence-clause-wanting : goal.returns-in-Fence-clause-wanting
returns-in-Fence-clause-wanting g c = rw c.in-Fence.is c.fence.ensures.wanting

pub returns-in-Turn-clause-err : goal.returns-in-Turn-clause-err
returns-in-Turn-clause-err g c = c.turn.ensures.err

pub returns-in-Turn-clause-wanting : goal.returns-in-Turn-clause-wanting
returns-in-Turn-clause-wanting g c = rw c.in-Turn.is c.turn.ensures.wanting

pub returns-in-On-clause-err : goal.returns-in-On-clause-err
returns-in-On-clause-err g c = c.on.ensures.err

pub returns-in-On-clause-wanting : goal.returns-in-On-clause-wanting
returns-in-On-clause-wanting g c = rw c.in-On.is c.on.ensures.wanting

pub returns-in-Snap-clause-err : goal.returns-in-Snap-clause-err
returns-in-Snap-clause-err g c = c.snap.ensures.err

pub returns-in-Snap-clause-wanting : goal.returns-in-Snap-clause-wanting
returns-in-Snap-clause-wanting g c = rw c.in-Snap.is c.snap.ensures.wanting

pub returns-in-Post-clause-kept : goal.returns-in-Post-clause-kept
returns-in-Post-clause-kept g c = inl refl

pub returns-in-Part-clause-kept : goal.returns-in-Part-clause-kept
returns-in-Part-clause-kept g c = inl refl

pub returns-in-Cut-clause-kept : goal.returns-in-Cut-clause-kept
returns-in-Cut-clause-kept g c = inl refl

pub returns-in-Off-clause-kept : goal.returns-in-Off-clause-kept
returns-in-Off-clause-kept g c = inl refl

pub returns-in-Poke-clause-kept : goal.returns-in-Poke-clause-kept
returns-in-Poke-clause-kept g c = inl refl

pub returns-in-Flip-clause-kept : goal.returns-in-Flip-clause-kept
returns-in-Flip-clause-kept g c = inl refl

pub returns-in-Move-clause-kept : goal.returns-in-Move-clause-kept
returns-in-Move-clause-kept g c = inl refl

pub returns-in-Snap-clause-kept : goal.returns-in-Snap-clause-kept
returns-in-Snap-clause-kept g c = inl refl

pub returns-in-Back-clause-kept : goal.returns-in-Back-clause-kept
returns-in-Back-clause-kept g c = inl refl

pub returns-in-Peek-clause-kept : goal.returns-in-Peek-clause-kept
returns-in-Peek-clause-kept g c = inl refl

pub returns-in-Stat-clause-kept : goal.returns-in-Stat-clause-kept
returns-in-Stat-clause-kept g c = inl refl

pub returns-in-Read-clause-kept : goal.returns-in-Read-clause-kept
returns-in-Read-clause-kept g c = rw c.in-Read.is c.read.ensures.kept

pub returns-in-Flush-clause-kept : goal.returns-in-Flush-clause-kept
returns-in-Flush-clause-kept g c = rw c.in-Flush.is c.flush.ensures.kept

pub returns-in-Loss-clause-kept : goal.returns-in-Loss-clause-kept
returns-in-Loss-clause-kept g c = rw c.in-Loss.is c.loss.ensures.kept

pub returns-in-Drain-clause-kept : goal.returns-in-Drain-clause-kept
returns-in-Drain-clause-kept g c = rw c.in-Drain.is c.drain.ensures.kept

pub returns-in-Fence-clause-kept : goal.returns-in-Fence-clause-kept
returns-in-Fence-clause-kept g c = rw c.in-Fence.is c.fence.ensures.kept

pub returns-in-Turn-clause-kept : goal.returns-in-Turn-clause-kept
returns-in-Turn-clause-kept g c = rw c.in-Turn.is c.turn.ensures.kept

pub returns-in-On-clause-kept : goal.returns-in-On-clause-kept
returns-in-On-clause-kept g c = rw c.in-On.is c.on.ensures.kept
