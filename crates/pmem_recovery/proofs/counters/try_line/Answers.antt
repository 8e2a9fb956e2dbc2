use Rattle.std.proofs.Common.{ℕ, ◌≡◌, ◌+◌, ◌-◌, length, sym, ◌∙◌, arith}
use Rattle.std.proofs.lemmas.List.FromFn.{length-range_with_len}
use Rattle.page_reencrypt.specs.Registers.{register_held}
use Rattle.stop_loss.specs.Windows.{minors_within}
use Rattle.call_effects.specs.SuiteStates.{setup_with}
use Rattle.pmem_recovery.proofs.TryLaws.{none_left}
use Rattle.call_plan.proofs.Steps.{ended_err}
use Rattle.pmem_recovery.specs.Plans.{counts_at}
use Rattle.pmem_recovery.proofs.NodePlans.{same_counts}
use Rattle.pmem_recovery.proofs.TrialPlans.{window_found, window_refused, line_held, line_unread, line_tried}
use Rattle.pmem_recovery.proofs.counters.try_line.Goals as goal

-- the window has as many minors
width : (first last : ℕ) → length (minors_within first last) ≡ last + 1 - first
width first last = length-range_with_len first (last + 1 - first)

-- ---- the plan

pub returns-then-is_left-clause-plan : goal.returns-then-is_left-clause-plan
returns-then-is_left-clause-plan g c =
    line_held (setup_with g.S.Suite c.args.geo.now c.args.suite.now) c.args.regs.now.loss c.args.stored.now c.args.at (counts_at g.S.Suite c.args.suite.now)
    (register_held c.args.regs.now.progress.items c.args.at) (g.B.Board.device c.args.board.now) (sym c.is_left.ensures ∙ c.if-is_left.true)

pub returns-in_err-cipher-clause-plan : goal.returns-in_err-cipher-clause-plan
returns-in_err-cipher-clause-plan g c =
    let free = none_left (register_held c.args.regs.now.progress.items c.args.at) (sym c.is_left.ensures ∙ c.if-is_left.false) in
    ended_err c.from_residual.result c.from_residual.ensures.1
    (line_unread (setup_with g.S.Suite c.args.geo.now c.args.suite.now) c.args.regs.now.loss c.args.stored.now c.args.at (counts_at g.S.Suite c.args.suite.now)
    (register_held c.args.regs.now.progress.items c.args.at) free c.in_err-cipher.ensures.plan)

pub returns-in_err-found-clause-plan : goal.returns-in_err-found-clause-plan
returns-in_err-found-clause-plan g c =
    let setup = setup_with g.S.Suite c.args.geo.now c.args.suite.now in
    let free = none_left (register_held c.args.regs.now.progress.items c.args.at) (sym c.is_left.ensures ∙ c.if-is_left.false) in
    let w = c.in_err-found.ensures.worked in
    ended_err c.from_residual-in_err-found.result c.from_residual-in_err-found.ensures.1
    (line_tried setup c.args.regs.now.loss c.args.stored.now c.args.at (counts_at g.S.Suite c.args.suite.now)
    (register_held c.args.regs.now.progress.items c.args.at) free c.in_ok-cipher.cipher c.in_ok-cipher.tag c.in_ok-cipher.ensures.plan
    (window_refused setup.formulas c.args.at c.args.stored.now.major _ (minors_within c.window-ends.result.0 c.window-ends.result.1) c.in_ok-cipher.cipher c.in_ok-cipher.tag
    (counts_at g.S.Suite c.args.suite.now) (counts_at g.S.Suite c.try_window.new.suite) (g.B.Board.device c.read_sealed.new.board) c.window-ends.ensures.minors
    (same_counts w.tags w.digests) c.in_err-found.field-0.0 c.in_err-found.ensures.found))

pub returns-clause-plan : goal.returns-clause-plan
returns-clause-plan g c =
    let setup = setup_with g.S.Suite c.args.geo.now c.args.suite.now in
    let free = none_left (register_held c.args.regs.now.progress.items c.args.at) (sym c.is_left.ensures ∙ c.if-is_left.false) in
    let w = c.in_ok-found.ensures.worked in
    let count : c.from.result + 1 - c.from-2.result ≡ length (minors_within c.window-ends.result.0 c.window-ends.result.1) =
    omega (arith, width c.window-ends.result.0 c.window-ends.result.1, c.from.ensures, c.from-2.ensures) in
    line_tried setup c.args.regs.now.loss c.args.stored.now c.args.at (counts_at g.S.Suite c.args.suite.now)
    (register_held c.args.regs.now.progress.items c.args.at) free c.in_ok-cipher.cipher c.in_ok-cipher.tag c.in_ok-cipher.ensures.plan
    (window_found setup.formulas c.args.at c.args.stored.now.major _ (minors_within c.window-ends.result.0 c.window-ends.result.1) c.in_ok-cipher.cipher c.in_ok-cipher.tag
    (counts_at g.S.Suite c.args.suite.now) (counts_at g.S.Suite c.try_window.new.suite) (g.B.Board.device c.read_sealed.new.board) c.window-ends.ensures.minors
    (same_counts w.tags w.digests) c.in_ok-found.found (c.from.result + 1 - c.from-2.result) c.in_ok-found.ensures.found count)
