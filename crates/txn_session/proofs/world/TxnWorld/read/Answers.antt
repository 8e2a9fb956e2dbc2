-- A line is read, or power is cut.
use Rattle.std.proofs.Common.{◌≡◌, [], Option, Some, None, sym, ap, ◌∙◌, rules}
use Rattle.txn_session.proofs.Common.{option_map, unwrap_or, if◌then◌else◌, Entries, entry_in}
use Rattle.line_session.specs.Made.{undone}
use Rattle.txn_session.specs.declared.commands.TxnCommand.TheVariants as Do
use Rattle.txn_session.proofs.Served.{IsServed, read_all, held_seen, some_store, always_done}
use Rattle.txn_session.proofs.world.TxnWorld.read.Given.{Over}
use Rattle.txn_session.proofs.world.TxnWorld.read.Goals.{After-read_answer}
use Rattle.txn_session.proofs.world.TxnWorld.read.Goals as goal

pub returns-in-Some-clause-answered : goal.returns-in-Some-clause-answered
returns-in-Some-clause-answered g c =
    held_seen g.S.Suite.formulas_of c.self.inside.session c.self.inside.session (option_map (λ txn. txn.items) c.self.inside.txn) c.args.self.now
    c.self.view_is c.store.ensures.world c.self.invariant c.args.at c.in-Some.line
    (some_store (λ s. s.now) c.store.result c.self.inside.session.store c.is_none.result c.store.ensures.store c.is_none.ensures c.if-is_none.false)
    (sym c.line_held.ensures ∙ c.in-Some.is)

module _ (g : Over) (c : After-read_answer g) where
  abbrev txn : Option Entries
  txn = option_map (λ txn. txn.items) c.self.inside.txn

  unheld : entry_in (unwrap_or txn []) c.args.at ≡ None
  unheld = search (rules, c.line_held.ensures)

  its : IsServed g.S.Suite.formulas_of c.self.inside.session c.make-done.new.self txn c.args.self.now c.self.view_is c.make-done.ensures.world
      c.self.invariant (Do.Read c.args.at) c.read_answer.result (option_map (λ txn. txn.items) c.close_if.new.txn) (undone c.make-done.result)
  its =
      read_all _ _ _ txn _ _ c.make-done.ensures.world c.self.invariant c.args.at unheld _ c.make-done.ensures.done c.make-done.ensures.wanting _
      c.read_answer.ensures _ (c.close_if.ensures ∙ ap (λ b. if b then None else txn) c.is_read_cut.ensures)

pub read_answer-requires : goal.read_answer-requires
read_answer-requires g c = always_done (Some c.args.at) c.self.inside.session c.make-done.result c.make-done.ensures.wanting

pub invariant_of-self : goal.invariant_of-self
invariant_of-self g c = (its g ((goal.at.invariant_of-self g c).After-read_answer)).held

pub returns-clause-answered : goal.returns-clause-answered
returns-clause-answered g c = (its g ((goal.at.returns-clause-answered g c).After-read_answer)).answered

pub returns-clause-logged : goal.returns-clause-logged
returns-clause-logged g c =
    (its g ((goal.at.returns-clause-logged g c).After-read_answer)).logged c.args.log.now c.make-done.new.log c.make-done.ensures.logged
