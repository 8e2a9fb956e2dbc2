-- Power goes off.
use Rattle.tree_session.proofs.DecidedAnswers.{quiet_in, as_now, none_found, some_found, off_off, off_held, off_seen}
use Rattle.tree_session.proofs.world.TreeWorld.off.Goals as goal

pub returns-then-is_none : goal.returns-then-is_none
returns-then-is_none g c = let q = quiet_in g.S.Suite c.self.inside _ c.self.view_is c.self.invariant c.requires in as_now q _ _ (off_off q (none_found _ _ c.is_none.ensures c.if-is_none.true))

pub invariant_of-self : goal.invariant_of-self
invariant_of-self g c = off_held (quiet_in g.S.Suite c.self.inside _ c.self.view_is c.self.invariant c.requires) _ _ (some_found _ _ c.is_none.ensures c.if-is_none.false).1 c.off.ensures

pub returns : goal.returns
returns g c = off_seen (quiet_in g.S.Suite c.self.inside _ c.self.view_is c.self.invariant c.requires) _ _ (some_found _ _ c.is_none.ensures c.if-is_none.false).1 c.off.ensures
