-- Power comes on, and the store may be stuck; or it is cut, memory runs out, or a twin is shown.
use Rattle.std.proofs.Common.{Option, rules}
use Rattle.txn_session.proofs.Common.{option_map, Entries}
use Rattle.txn_session.proofs.Served.{IsTurnedOn, turned_served}
use Rattle.txn_session.proofs.world.TxnWorld.on.Given.{Over}
use Rattle.txn_session.proofs.world.TxnWorld.on.Goals.{After-opened_answer}
use Rattle.txn_session.proofs.world.TxnWorld.on.Goals as goal

module _ (g : Over) (c : After-opened_answer g) where
  abbrev txn : Option Entries
  txn = option_map (λ txn. txn.items) c.self.inside.txn

  its : IsTurnedOn g.S.Suite.formulas_of c.self.inside.session c.on-turned.new.self txn c.args.self.now c.self.view_is c.on-turned.ensures.world
      c.self.invariant c.opened_answer.result
  its = search (rules, turned_served)

pub invariant_of-self : goal.invariant_of-self
invariant_of-self g c = (its g ((goal.at.invariant_of-self g c).After-opened_answer)).held

pub returns-clause-answered : goal.returns-clause-answered
returns-clause-answered g c = (its g ((goal.at.returns-clause-answered g c).After-opened_answer)).answered

pub returns-clause-halted : goal.returns-clause-halted
returns-clause-halted g c = (its g ((goal.at.returns-clause-halted g c).After-opened_answer)).halted
