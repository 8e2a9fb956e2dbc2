-- A call of the store was made.
use Rattle.std.proofs.Common.{rules, ◌≡◌, ◌<◌, length, cond, Some, None, ap, subst, subst₂, ◌∙◌}
use Rattle.std.specs.Prelude.{Result, IfSome, ◌&&◌, not, drop}
use Rattle.std.specs.List.{list_any}
use Rattle.line_session.proofs.Common.{shape_of, memory_of, ledger_of, LedgerState, is_own_seal}
use Rattle.line_session.specs.World.{StoreSession}
use Rattle.line_session.specs.Made.{IsDoneUnder}
use Rattle.line_session.specs.declared.making.Done.TheVariants.{Ended}
use Rattle.line_session.specs.Answered.{is_sealed_since}
use Rattle.line_session.proofs.MadeCalls.{MadeCall, held, has_made, left, dark_is}
use Rattle.line_session.proofs.session.LineSession.make.Given.{Over}
use Rattle.line_session.proofs.session.LineSession.make.Goals.{After-drop_if}
use Rattle.line_session.proofs.session.LineSession.make.Goals as goal

module _ (g : Over) (c : After-drop_if g) where
  abbrev call : MadeCall g.row.L.Denot (Result g.row.C-Value.Denot g.row.C-Fault.Denot)
  call =
      record {
        engine_of = g.L.LineStore.engine;
        effect = g.C.StoreCall.relation c.args.call.now;
        formulas_of = g.S.Suite.formulas_of;
        shape = shape_of c.self.inside.geo;
        keys = g.S.Suite.keys c.self.inside.suite;
        tags = g.S.Suite.tags c.self.inside.suite;
        digests = g.S.Suite.digests c.self.inside.suite;
        board = memory_of c.self.inside.board;
        ledger = ledger_of c.self.inside.ledger;
        found = c.self.inside.store;
        store = c.in-Some.store;
        there = c.in-Some.is;
        world = c.self.invariant;
        ledger_before = ledger_of c.reserve.new.self;
        same_ledger = c.reserve.ensures.ledger;
        after = c.call-done.new.store;
        keys_new = g.S.Suite.keys c.call-done.new.suite;
        same_keys = c.call-done.ensures.keys;
        tags_new = g.S.Suite.tags c.call-done.new.suite;
        digests_new = g.S.Suite.digests c.call-done.new.suite;
        board_new = memory_of c.call-done.new.board;
        ledger_new = ledger_of c.call-done.new.ledger;
        taken = c.call-done.result.taken;
        watched = c.call-done.ensures.watched;
        answer = c.call-done.result.answer;
        cut = g.C.StoreCall.is_cut c.call-done.result.answer;
        made = c.call-done.ensures.made;
        kept = c.call-done.ensures.kept;
      }

  -- the store is dropped where power was cut
  dropped : c.drop_if.new.store ≡ cond (g.C.StoreCall.is_cut c.call-done.result.answer) None (Some c.call-done.new.store)
  dropped = c.drop_if.ensures ∙ ap (λ b. cond b None (Some c.call-done.new.store)) c.is_cut-cut.ensures

  asked : IfSome (g.C.StoreCall.asked c.args.call.now) (λ at. at < g.L.LineStore.lines c.in-Some.store)
  asked =
      subst₂ (λ o n. IfSome o (λ at. at < n)) c.asked.ensures c.lines.ensures
      (c.has_asked.ensures.there (let h = c.if-not-has_asked.false in search (rules, h)))

  abbrev left_here : StoreSession g.row.L.Denot
  left_here = left call c.drop_if.new.store

  -- an own seal is asked for among the marks of this call
  sealed_is : (c.is_cut-cut.result && list_any (is_own_seal c.own-own.result) (drop (length c.marks-from.result.now) (ledger_of c.call-done.new.ledger).marks))
      ≡ (not left_here.state.board.powered && is_sealed_since (g.C.StoreCall.own c.args.call.now c.in-Some.store) (ledger_of c.self.inside.ledger).marks left_here.state)
  sealed_is =
      rw (c.is_cut-cut.ensures, dark_is call, c.own-own.ensures, c.marks-from.ensures, ap (λ (l : LedgerState). l.marks) c.reserve.ensures.ledger)

pub invariant_of-self-2 : goal.invariant_of-self-2
invariant_of-self-2 g c =
    let at = (goal.at.invariant_of-self-2 g c).After-drop_if in held (call g at) c.drop_if.new.store (dropped g at)

pub returns-clause-done : goal.returns-clause-done
returns-clause-done g c =
    let at = (goal.at.returns-clause-done g c).After-drop_if in
    subst (λ (s : StoreSession g.row.L.Denot). IsDoneUnder g.S.Suite.formulas_of g.L.LineStore.engine g.L.LineStore.lines
    (g.C.StoreCall.relation c.args.call.now) (g.C.StoreCall.asked c.args.call.now) (g.C.StoreCall.own c.args.call.now) s
    (Ended c.steps.result c.is_kept.result c.call-done.result.answer) (left_here g at)) c.self.view_is (
      c.in-Some.store,
      (c.in-Some.is, asked g at),
      has_made (call g at) c.drop_if.new.store (dropped g at) c.steps.result c.steps.ensures,
      c.is_kept.ensures ∙ sealed_is g at,
    )
