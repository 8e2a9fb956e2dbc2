-- A cut is set.
use Rattle.std.proofs.Common.{rules}
use Rattle.wear_session.proofs.Worlds.{WearCall}
use Rattle.wear_session.proofs.Served.{cut_served}
use Rattle.wear_session.proofs.world.WearWorld.cut.Given.{Over}
use Rattle.wear_session.proofs.world.WearWorld.cut.Goals.{After-cut}
use Rattle.wear_session.proofs.world.WearWorld.cut.Goals as goal

abbrev call : (g : Over) → After-cut g → WearCall
call g c =
    record {
      formulas_of = g.S.Suite.formulas_of;
      every = c.self.inside.every;
      old = c.self.inside.session;
      new = c.cut.new.self;
      held = c.self.invariant;
    }

pub invariant_of-self : goal.invariant_of-self
invariant_of-self g c = search (rules, cut_served)

pub returns : goal.returns
returns g c = (cut_served (call g ((goal.at.returns g c).After-cut)) c.args.self.now c.self.view_is c.args.n c.cut.ensures).1
