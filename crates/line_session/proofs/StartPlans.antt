-- Recovery and the opening of a store followed one plan.
use Rattle.std.proofs.Common.{◌≡◌, Result, Ok, Err, sym, subst₂}
use Rattle.line_session.proofs.Common.{Device, ended, Follows, LedgerState, Setup, EngineState, Chip, chip_of, Work, RecFault, SuiteCounts, recover_plan, CallPlan, started_as, new_chip, opening_end, SuiteState, counts_of, new_engine}
use Rattle.call_plan.proofs.Bind.{bind_ok, bind_err, mapped_follows}
use Rattle.engine_lines.proofs.RegisterPlans.{done_with_regs, stopped_with_regs}
use Rattle.line_session.specs.declared.starts.StartFault.TheVariants.{Recovery, Opening}
use Rattle.line_session.specs.Started.{start_plan}

module _ {F A : Type 0} (setup : Setup) (ledger : LedgerState) (opening : CallPlan F A) where
  -- the device was recovered, and then the lines were opened or not
  pub start_follows : (counts left : SuiteCounts) (done : EngineState × Work) (answer : Result A F) (after : Chip) {old between new : Device}
      → Follows (recover_plan setup old.regs counts) old between (Ok (left, done))
      → Follows (opening between.regs (chip_of done.0 ledger left.tags left.digests)) between new (ended answer after)
      → Follows (start_plan setup ledger opening old.regs counts) old new (ended (started_as answer) after)
  unfolding start_plan
  start_follows counts left done (Ok value) after it opens =
      bind_ok _ (mapped_follows (λ left. (new_chip setup ledger left.0, Recovery left.1)) (λ end. end) (done_with_regs it))
      (mapped_follows (λ left. (left.0, Opening left.1)) (λ end. end) opens)
  start_follows counts left done (Err fault) after it opens =
      bind_ok _ (mapped_follows (λ left. (new_chip setup ledger left.0, Recovery left.1)) (λ end. end) (done_with_regs it))
      (mapped_follows (λ left. (left.0, Opening left.1)) (λ end. end) opens)

  -- it wasn't recovered, so ledger and suite are as recovery left them
  pub start_stopped : (old new : Device) (counts : SuiteCounts) (left : SuiteState) (fault : RecFault) (ledger_new : LedgerState) (suite_new : SuiteState)
      → Follows (recover_plan setup old.regs counts) old new (Err (counts_of left, fault)) → ledger_new ≡ ledger → suite_new ≡ left
      → Follows (start_plan setup ledger opening old.regs counts) old new
      (Err (chip_of (new_engine setup.shape) ledger_new suite_new.tags suite_new.digests, Recovery fault))
  unfolding start_plan
  start_stopped old new counts left fault ledger_new suite_new it same suite =
      subst₂ (λ (l : LedgerState) (s : SuiteState). Follows (start_plan setup ledger opening old.regs counts) old new
      (Err (chip_of (new_engine setup.shape) l s.tags s.digests, Recovery fault))) (sym same) (sym suite) (bind_err (opening_end ledger opening)
      (mapped_follows (λ left. (new_chip setup ledger left.0, Recovery left.1)) (λ end. end) (stopped_with_regs it)))
