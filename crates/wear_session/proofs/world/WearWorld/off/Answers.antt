-- Power goes off.
use Rattle.std.proofs.Common.{rules}
use Rattle.wear_session.proofs.Worlds.{WearCall}
use Rattle.wear_session.proofs.Served.{off_served}
use Rattle.wear_session.proofs.world.WearWorld.off.Given.{Over}
use Rattle.wear_session.proofs.world.WearWorld.off.Goals.{After-off_answer}
use Rattle.wear_session.proofs.world.WearWorld.off.Goals as goal

abbrev call : (g : Over) → After-off_answer g → WearCall
call g c =
    record {
      formulas_of = g.S.Suite.formulas_of;
      every = c.self.inside.every;
      old = c.self.inside.session;
      new = c.off-on.new.self;
      held = c.self.invariant;
    }

pub invariant_of-self : goal.invariant_of-self
invariant_of-self g c =
    (off_served (call g ((goal.at.invariant_of-self g c).After-off_answer)) c.args.self.now c.self.view_is c.off-on.result c.off-on.ensures.was
    c.off-on.ensures.left c.off_answer.result c.off_answer.ensures).0

pub returns : goal.returns
returns g c = search (rules, off_served)
