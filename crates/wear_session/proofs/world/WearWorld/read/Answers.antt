-- A line is read, or power is cut.
use Rattle.std.proofs.Common.{Some, rules}
use Rattle.wear_session.proofs.Worlds.{WearCall}
use Rattle.wear_session.proofs.Served.{IsReadServed, read_served, always_done}
use Rattle.wear_session.proofs.world.WearWorld.read.Given.{Over}
use Rattle.wear_session.proofs.world.WearWorld.read.Goals.{After-read_answer}
use Rattle.wear_session.proofs.world.WearWorld.read.Goals as goal

module _ (g : Over) (c : After-read_answer g) where
  abbrev call : WearCall
  call =
      record {
        formulas_of = g.S.Suite.formulas_of;
        every = c.self.inside.every;
        old = c.self.inside.session;
        new = c.make-done.new.self;
        held = c.self.invariant;
      }

  served : IsReadServed call c.args.self.now c.self.view_is c.make-done.ensures.world c.args.at c.make-done.result c.read_answer.result
  served = search (rules, read_served)

pub read_answer-requires : goal.read_answer-requires
read_answer-requires g c = always_done (Some c.args.at) c.self.inside.session c.make-done.result c.make-done.ensures.wanting

pub invariant_of-self : goal.invariant_of-self
invariant_of-self g c = (served g ((goal.at.invariant_of-self g c).After-read_answer)).held

pub returns-clause-answered : goal.returns-clause-answered
returns-clause-answered g c = (served g ((goal.at.returns-clause-answered g c).After-read_answer)).answered

pub returns-clause-logged : goal.returns-clause-logged
returns-clause-logged g c = (served g ((goal.at.returns-clause-logged g c).After-read_answer)).logged _ _ c.make-done.ensures.logged
