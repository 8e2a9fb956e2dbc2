-- Power comes on; or it is cut, memory runs out, or a twin is shown.
use Rattle.std.proofs.Common.{rules}
use Rattle.line_session.specs.Turned.{unturned}
use Rattle.wear_session.specs.declared.commands.WearCommand.TheVariants as Do
use Rattle.wear_session.proofs.Worlds.{WearCall}
use Rattle.wear_session.proofs.Served.{IsServed, Halts, turn_served}
use Rattle.wear_session.proofs.world.WearWorld.on.Given.{Over}
use Rattle.wear_session.proofs.world.WearWorld.on.Goals.{After-opened_answer}
use Rattle.wear_session.proofs.world.WearWorld.on.Goals as goal

module _ (g : Over) (c : After-opened_answer g) where
  abbrev call : WearCall
  call =
      record {
        formulas_of = g.S.Suite.formulas_of;
        every = c.self.inside.every;
        old = c.self.inside.session;
        new = c.on-turned.new.self;
        held = c.self.invariant;
      }

  served : IsServed call c.args.self.now c.self.view_is c.on-turned.ensures.world Do.On (unturned c.on-turned.result) c.opened_answer.result
      (Halts call c.args.self.now c.self.view_is c.on-turned.ensures.world)
  served = search (rules, turn_served)

pub invariant_of-self : goal.invariant_of-self
invariant_of-self g c = (served g ((goal.at.invariant_of-self g c).After-opened_answer)).held

pub returns-clause-answered : goal.returns-clause-answered
returns-clause-answered g c = (served g ((goal.at.returns-clause-answered g c).After-opened_answer)).answered

pub returns-clause-halted : goal.returns-clause-halted
returns-clause-halted g c = (served g ((goal.at.returns-clause-halted g c).After-opened_answer)).halted

pub returns-clause-logged : goal.returns-clause-logged
returns-clause-logged g c = (served g ((goal.at.returns-clause-logged g c).After-opened_answer)).logged _ _ c.on-turned.ensures.logged
