-- A snapshot is taken.
use Rattle.std.proofs.Common.{rules}
use Rattle.tree_session.proofs.Common.{from_no_error}
use Rattle.tree_session.proofs.DecidedAnswers.{quiet_in, snap_wanted, snap_held, snap_seen}
use Rattle.tree_session.proofs.world.TreeWorld.snap.Goals as goal

pub invariant_of-self-2 : goal.invariant_of-self-2
invariant_of-self-2 g c =
    snap_held (quiet_in g.S.Suite c.self.inside _ c.self.view_is c.self.invariant c.requires) _ (from_no_error c.snap.result (λ error. cc (error, c.if-is_err.false, c.is_err.ensures.value)) c.snap.ensures.ok)

pub returns-then-is_err-clause-halted : goal.returns-then-is_err-clause-halted
returns-then-is_err-clause-halted g c = search (rules, quiet_in, snap_wanted)

pub returns-clause-answered : goal.returns-clause-answered
returns-clause-answered g c =
    snap_seen (quiet_in g.S.Suite c.self.inside _ c.self.view_is c.self.invariant c.requires) _ (from_no_error c.snap.result (λ error. cc (error, c.if-is_err.false, c.is_err.ensures.value)) c.snap.ensures.ok)
