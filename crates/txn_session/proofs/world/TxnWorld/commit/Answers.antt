-- The open transaction is committed; or its store is stuck, it is spent, or power is cut.
use Rattle.std.proofs.Common.{Option, None, Ok, Result, sym, ap, ◌∙◌}
use Rattle.txn_session.proofs.Common.{option_map, Entries, Committed, CommitFault}
use Rattle.pmem_base.specs.declared.faults.MemFault.{MemFault}
use Rattle.line_session.specs.declared.making.Done.{Done}
use Rattle.line_session.specs.Made.{undone}
use Rattle.line_txn.proofs.Commits.{some_list}
use Rattle.txn_session.specs.declared.commands.TxnCommand.TheVariants as Do
use Rattle.txn_session.proofs.Served.{IsServed, commit_served, some_store}
use Rattle.txn_session.proofs.world.TxnWorld.commit.Given.{Over}
use Rattle.txn_session.proofs.world.TxnWorld.commit.Goals.{After-commit_answer}
use Rattle.txn_session.proofs.world.TxnWorld.commit.Goals as goal

module _ (g : Over) (c : After-commit_answer g) where
  abbrev txn : Option Entries
  txn = option_map (λ txn. txn.items) c.self.inside.txn

  abbrev done : Result (Done Committed CommitFault) MemFault
  done = Ok c.in_ok-done.done

  its : IsServed g.S.Suite.formulas_of c.self.inside.session c.make.new.self txn c.args.self.now c.self.view_is c.make.ensures.world c.self.invariant
      Do.Commit c.commit_answer.result None (undone done)
  its =
      commit_served g.S.Suite.formulas_of c.self.inside.session c.make.new.self txn c.args.self.now c.self.view_is c.make.ensures.world
      c.self.invariant c.in-Some.txn.items (ap (option_map (λ txn. txn.items)) c.in-Some.is)
      (some_list c.in-Some.txn.items (sym c.is_empty.ensures ∙ c.if-is_empty.false))
      (some_store (λ s. s.now) c.store.result c.self.inside.session.store c.is_none.result c.store.ensures.store c.is_none.ensures c.if-is_none.false)
      c.in_ok-done.done c.in_ok-done.ensures.done c.commit_answer.result c.commit_answer.ensures

pub invariant_of-self-2 : goal.invariant_of-self-2
invariant_of-self-2 g c = (its g ((goal.at.invariant_of-self-2 g c).After-commit_answer)).held

pub returns-clause-answered : goal.returns-clause-answered
returns-clause-answered g c = (its g ((goal.at.returns-clause-answered g c).After-commit_answer)).answered

pub returns-clause-logged : goal.returns-clause-logged
returns-clause-logged g c =
    (its g ((goal.at.returns-clause-logged g c).After-commit_answer)).logged c.args.log.now c.make.new.log c.in_ok-done.ensures.logged
