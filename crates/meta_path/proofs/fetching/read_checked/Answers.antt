-- A cut at the read; a line that is refused, shown, or the true one.
use Rattle.std.proofs.Common.{rules, ◌≡◌, true, Ok, Err, refl, sym, ap, subst, ◌∙◌}
use Rattle.std.proofs.lemmas.Bool.{false≢true}
use Rattle.pmem_base.specs.Layout.{meta_line}
use Rattle.pmem_base.specs.Lines.{same_bytes}
use Rattle.pmem_base.proofs.ByteLaws.{same_bytes-from}
use Rattle.board.specs.Device.{Device}
use Rattle.board.specs.Steps.{HasRead}
use Rattle.suite.specs.Formulas.{Formulas}
use Rattle.seal_ledger.proofs.NoteLemmas.{shown_is}
use Rattle.call_plan.specs.Following.{Follows}
use Rattle.call_plan.proofs.Steps.{ended_err}
use Rattle.meta_path.specs.declared.faults.PathFault.TheVariants as Fault
use Rattle.meta_path.specs.Levels.{expected_digest}
use Rattle.meta_path.specs.FetchPlans.{FetchParts, fetch_parts, check_plan}
use Rattle.meta_path.proofs.FetchPlans.{same_parts, check_cut, check_refused, check_known, check_shown}
use Rattle.meta_path.proofs.fetching.read_checked.Given.{Over}
use Rattle.meta_path.proofs.fetching.read_checked.Goals.{After-has_expected}
use Rattle.meta_path.proofs.fetching.read_checked.Goals as goal

module _ (g : Over) (c : After-has_expected g) where
  abbrev at : FetchParts
  at = fetch_parts c.args.cache.now (g.A.Audit.ledger c.args.audit.now) (g.S.Suite.digests c.args.suite.now)

  abbrev before : Device
  before = g.B.Board.device c.args.board.now

  abbrev after : Device
  after = g.B.Board.device c.read_line.new.self

  abbrev formulas : Formulas
  formulas = g.S.Suite.formulas_of (g.S.Suite.keys c.args.suite.now)

  was_read : HasRead before (meta_line at.cache.shape c.args.x) c.in_ok-line.line after
  was_read =
      subst (λ n. HasRead before n c.in_ok-line.line after)
      (c.meta_line.ensures.value ∙ ap (λ shape. meta_line shape c.args.x) (sym c.requires.shape)) c.in_ok-line.ensures.ok

  -- the board has the root as before the read
  root : expected_digest at.cache.shape after.regs.root at.cache.banks c.args.bank c.args.x
      ≡ expected_digest at.cache.shape before.regs.root at.cache.banks c.args.bank c.args.x
  root = ap (λ regs. expected_digest at.cache.shape regs.root at.cache.banks c.args.bank c.args.x) c.in_ok-line.ensures.ok.regs

  fits : formulas.digest_of c.args.x c.in_ok-line.line
      ≡ expected_digest at.cache.shape after.regs.root at.cache.banks c.args.bank c.args.x
      → same_bytes (formulas.digest_of c.args.x c.in_ok-line.line)
      (expected_digest at.cache.shape before.regs.root at.cache.banks c.args.bank c.args.x) ≡ true
  fits e = search (rules, same_bytes-from, root)

pub returns-in_err-line-clause-plan : goal.returns-in_err-line-clause-plan
returns-in_err-line-clause-plan g c =
    ended_err c.from_residual.result c.from_residual.ensures.1
    (check_cut (g.S.Suite.formulas_of (g.S.Suite.keys _)) (g.B.Board.device _).regs.root _ _ _
    (g.B.Board.device _) (g.B.Board.device c.read_line.new.self) c.in_err-line.ensures.cut c.in_err-line.ensures.only_off)

pub returns-then-not-has_expected-clause-plan : goal.returns-then-not-has_expected-clause-plan
returns-then-not-has_expected-clause-plan g c =
    let here = (goal.at.returns-then-not-has_expected-clause-plan g c).After-has_expected in
    subst (λ (end : FetchParts). Follows (check_plan (formulas g here) (before g here).regs.root c.args.bank c.args.x (at g here))
    (before g here) (after g here) (Err (end, Fault.Meta c.args.x))) (sym (same_parts c.args.cache.now refl c.has_expected.ensures.digests))
    (check_refused (formulas g here) (before g here).regs.root c.args.bank c.args.x (at g here) (before g here) (after g here)
    c.in_ok-line.line (was_read g here) c.is_whole.ensures
    (λ e. false≢true (sym c.if-not-has_expected.true ∙ c.has_expected.ensures.answer.1 (e ∙ sym (root g here)))))

pub returns-in-On-clause-plan : goal.returns-in-On-clause-plan
returns-in-On-clause-plan g c =
    let here = (goal.at.returns-in-On-clause-plan g c).After-has_expected in
    subst (λ (end : FetchParts). Follows (check_plan (formulas g here) (before g here).regs.root c.args.bank c.args.x (at g here))
    (before g here) (after g here) (Ok (end, c.in_ok-line.line))) (sym (same_parts _ c.in-On.ensures.line.1 c.has_expected.ensures.digests))
    (check_known (formulas g here) (before g here).regs.root _ _ (at g here) (before g here) (after g here)
    c.in_ok-line.line (was_read g here) c.is_whole.ensures
    (fits g here (c.has_expected.ensures.answer.0 c.if-not-has_expected.false)) c.in-On.ensures.line.0)

pub returns-in-Stop-clause-plan : goal.returns-in-Stop-clause-plan
returns-in-Stop-clause-plan g c =
    let here = (goal.at.returns-in-Stop-clause-plan g c).After-has_expected in
    subst (λ (end : FetchParts). Follows (check_plan (formulas g here) (before g here).regs.root c.args.bank c.args.x (at g here))
    (before g here) (after g here) (Err (end, Fault.Shown)))
    (sym (same_parts c.args.cache.now (shown_is _ _ _ c.in-Stop.ensures.line.1) c.has_expected.ensures.digests))
    (check_shown (formulas g here) (before g here).regs.root c.args.bank c.args.x (at g here) (before g here) (after g here)
    c.in_ok-line.line (was_read g here) c.is_whole.ensures
    (fits g here (c.has_expected.ensures.answer.0 c.if-not-has_expected.false)) c.in-Stop.ensures.line.0)
