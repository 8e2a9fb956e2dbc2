use Rattle.std.proofs.Common.{◌≡◌, Ok, Err, refl, sym, ap, subst, ◌∙◌}
use Rattle.std.proofs.lemmas.Bool.{false≢true}
use Rattle.std.proofs.lemmas.Result.{err_from_is_err_and}
use Rattle.board.specs.Device.{Device}
use Rattle.suite.specs.Setup.{Setup}
use Rattle.seal_ledger.specs.Ledger.{LedgerState}
use Rattle.pmem_engine.specs.Engine.{EngineState}
use Rattle.pmem_recovery.specs.declared.faults.RecFault.{RecFault}
use Rattle.pmem_recovery.specs.declared.faults.RecFault.TheVariants.{Memory, Cut}
use Rattle.call_effects.specs.SuiteStates.{setup_of, SuiteState, suite_state, setup_with}
use Rattle.pmem_recovery.specs.Recovered.{Answer, HasRecovered}
use Rattle.pmem_recovery.proofs.PartLaws.{IsShape-geo}
use Rattle.pmem_recovery.proofs.RecoverLaws.{recovered_memory}
use Rattle.pmem_recovery.proofs.PlanRecovers.{plan_recovers}
use Rattle.pmem_engine.specs.Mendable.{new_engine}
use Rattle.call_plan.specs.Plans.{ended}
use Rattle.call_plan.specs.Following.{Follows}
use Rattle.commit_regs.specs.Plans.{redo_plan}
use Rattle.pmem_recovery.specs.Plans.{counts_at, counts_of, recover_plan}
use Rattle.commit_regs.proofs.GroupPlans.{redo_cut, redo_done}
use Rattle.pmem_recovery.proofs.RecoveryPlans.{recover_cut, recover_stopped, recover_done}
use Rattle.pmem_recovery.proofs.recovery.recover.Given.{Over}
use Rattle.pmem_recovery.proofs.recovery.recover.Goals.{After-mend}
use Rattle.pmem_recovery.proofs.recovery.recover.Goals as goal

-- the answer at the exit of a `?`
at_exit : (setup : Setup) (ledger : LedgerState) (old new : Device) (suite_old suite_new : SuiteState) (answer : Answer) (fault : RecFault) → (y : RecFault) × (answer ≡ Err y) × (y ≡ fault) → HasRecovered setup ledger old new suite_old suite_new (Err fault) → HasRecovered setup ledger old new suite_old suite_new answer
at_exit setup ledger old new suite_old suite_new answer fault (y, e, same) h =
    subst (HasRecovered setup ledger old new suite_old suite_new) (sym (e ∙ ap (λ (z : RecFault). Err z) same)) h

pub returns-in_err-cache : goal.returns-in_err-cache
returns-in_err-cache g c =
    at_exit _ _ _ _ _ _ c.from_residual.result Memory (err_from_is_err_and c.from_residual.result c.from_residual.ensures.1) (recovered_memory _ _ _ _ c.requires.regs)

pub returns-in_err-mirror : goal.returns-in_err-mirror
returns-in_err-mirror g c =
    at_exit _ _ _ _ _ _ c.from_residual-in_err-mirror.result Memory (err_from_is_err_and c.from_residual-in_err-mirror.result c.from_residual-in_err-mirror.ensures.1) (recovered_memory _ _ _ _ c.requires.regs)

pub returns-in_err-room : goal.returns-in_err-room
returns-in_err-room g c =
    at_exit _ _ _ _ _ _ c.from_residual-in_err-room.result Memory (err_from_is_err_and c.from_residual-in_err-room.result c.from_residual-in_err-room.ensures.1) (recovered_memory _ _ _ _ c.requires.regs)

pub returns-in_err-finish : goal.returns-in_err-finish
returns-in_err-finish g c =
    let old = g.B.Board.device c.args.board.now in
    at_exit _ _ _ _ _ _ c.from_residual-in_err-finish.result Cut (err_from_is_err_and c.from_residual-in_err-finish.result c.from_residual-in_err-finish.ensures.1)
    (plan_recovers _ _ old _ _ _ (IsShape-geo c.args.geo.now) c.requires.size c.requires.regs (g.met.B.Board.whole c.args.board.now)
    (g.met.B.Board.whole c.finish.new.board) refl refl (Err Cut)
    (recover_cut (setup_with g.S.Suite c.args.geo.now c.args.suite.now) old.regs (counts_at g.S.Suite c.args.suite.now)
    (redo_cut old.regs old.regs.group.items (λ none. false≢true (c.in_err-finish.ensures.empty none).0) c.in_err-finish.ensures.plan)))

module _ (g : Over) (c : After-mend g) where
  abbrev setup : Setup
  setup = setup_of c.args.geo.now (g.S.Suite.formulas_of (g.S.Suite.keys c.args.suite.now))

  abbrev suite_old : SuiteState
  suite_old = suite_state (g.S.Suite.keys c.args.suite.now) (g.S.Suite.pads c.args.suite.now) (g.S.Suite.tags c.args.suite.now) (g.S.Suite.digests c.args.suite.now)

  abbrev suite_new : SuiteState
  suite_new = suite_state (g.S.Suite.keys c.mend.new.suite) (g.S.Suite.pads c.mend.new.suite) (g.S.Suite.tags c.mend.new.suite) (g.S.Suite.digests c.mend.new.suite)

  abbrev old : Device
  old = g.B.Board.device c.args.board.now

  -- the group was redone
  redo_followed : Follows (redo_plan old.regs) old (g.B.Board.device c.finish.new.board) (Ok tt)
  redo_followed =
      redo_done old.regs old.regs.group.items (λ none. ap (λ board. g.B.Board.device board) (c.in_ok-finish.ensures.empty none).1) c.in_ok-finish.ensures.plan

  recovers : (answer : Answer) → Follows (recover_plan setup old.regs (counts_of suite_old)) old (g.B.Board.device c.mend.new.board) (ended answer (counts_of suite_new))
      → HasRecovered setup (g.A.Audit.ledger c.args.audit.now) old (g.B.Board.device c.mend.new.board) suite_old suite_new answer
  recovers answer it =
      plan_recovers setup (g.A.Audit.ledger c.args.audit.now) old (g.B.Board.device c.mend.new.board) suite_old suite_new (IsShape-geo c.args.geo.now) c.requires.size
      c.requires.regs (g.met.B.Board.whole c.args.board.now) (g.met.B.Board.whole c.mend.new.board) c.mend.ensures.keys c.mend.ensures.pads answer it

pub returns-in_err-work : goal.returns-in_err-work
returns-in_err-work g c =
    let place = (goal.at.returns-in_err-work g c).After-mend in
    let fault = c.in_err-work.field-0.0 in
    at_exit _ _ _ _ _ _ c.from_residual-in_err-work.result fault (err_from_is_err_and c.from_residual-in_err-work.result c.from_residual-in_err-work.ensures.1)
    (recovers g place (Err fault)
    (recover_stopped (setup g place) (old g place).regs (counts_at g.S.Suite c.args.suite.now) (redo_followed g place) (g.B.Board.device c.finish.new.board).regs
    c.in_ok-finish.ensures.ok.regs (counts_at g.S.Suite c.mend.new.suite) fault c.in_err-work.ensures.plan))

pub returns : goal.returns
returns g c =
    let place = (goal.at.returns g c).After-mend in
    subst (λ (e : EngineState). HasRecovered (setup g place) (g.A.Audit.ledger c.args.audit.now) (old g place) (g.B.Board.device c.mend.new.board) (suite_old g place)
    (suite_new g place) (Ok (e, c.in_ok-work.work))) (sym c.new-4.ensures)
    (recovers g place (Ok (new_engine (setup g place).shape, c.in_ok-work.work))
    (recover_done (setup g place) (old g place).regs (counts_at g.S.Suite c.args.suite.now) (redo_followed g place) (g.B.Board.device c.finish.new.board).regs
    c.in_ok-finish.ensures.ok.regs (counts_at g.S.Suite c.mend.new.suite) c.in_ok-work.work c.in_ok-work.ensures.plan))
