-- A device line is changed.
use Rattle.std.proofs.Common.{arith}
use Rattle.tree_session.proofs.DecidedAnswers.{quiet_in, as_now, poke_past, poke_held, poke_seen}
use Rattle.tree_session.proofs.world.TreeWorld.poke.Goals as goal

pub returns-then-at-from : goal.returns-then-at-from
returns-then-at-from g c =
    let q = quiet_in g.S.Suite c.self.inside _ c.self.view_is c.self.invariant c.requires in as_now q _ _ (poke_past q _ _ (omega (arith, c.if-at-from.true, c.from.ensures, c.tree_size.ensures)))

pub invariant_of-self : goal.invariant_of-self
invariant_of-self g c =
    poke_held (quiet_in g.S.Suite c.self.inside _ c.self.view_is c.self.invariant c.requires) _ _ _
    (omega (arith, c.if-at-from.false, c.from.ensures, c.tree_size.ensures)) c.poke.ensures c.poke.new.self.each_line _ _ c.mark.ensures.tampered c.mark.ensures.hurt

pub returns : goal.returns
returns g c =
    poke_seen (quiet_in g.S.Suite c.self.inside _ c.self.view_is c.self.invariant c.requires) _ _ _
    (omega (arith, c.if-at-from.false, c.from.ensures, c.tree_size.ensures)) c.poke.ensures c.poke.new.self.each_line _ _ c.mark.ensures.tampered c.mark.ensures.hurt
