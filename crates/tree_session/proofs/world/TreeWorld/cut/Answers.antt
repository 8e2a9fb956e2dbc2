-- A cut is set.
use Rattle.tree_session.proofs.DecidedAnswers.{quiet_in, cut_held, cut_seen}
use Rattle.tree_session.proofs.world.TreeWorld.cut.Goals as goal

pub invariant_of-self : goal.invariant_of-self
invariant_of-self g c = cut_held (quiet_in g.S.Suite c.self.inside _ c.self.view_is c.self.invariant c.requires) _ _ c.arm.ensures

pub returns : goal.returns
returns g c = cut_seen (quiet_in g.S.Suite c.self.inside _ c.self.view_is c.self.invariant c.requires) _ _ c.arm.ensures
