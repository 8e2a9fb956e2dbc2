-- One line more was sealed anew, or the page is finished, or not.
use Rattle.std.proofs.Common.{◌≡◌, ◌<◌, Ok, Err, [], get_or, refl, sym, ap, subst, ◌∙◌, length, arith}
use Rattle.std.proofs.lemmas.List.{get_or_default, length-append}
use Rattle.pmem_base.specs.declared.registers.Progress.{Progress}
use Rattle.pmem_base.specs.Registers.{not_done, empty_progress}
use Rattle.suite.specs.Setup.{Setup}
use Rattle.pmem_engine.specs.Parts.{Parts, parts_with, setup_with_at}
use Rattle.pmem_engine.specs.Resealing.{register_in, HasResealed}
use Rattle.pmem_engine.specs.Writing.{HasFinishedPage}
use Rattle.call_effects.proofs.ResultLaws.{is_err_of}
use Rattle.pmem_engine.proofs.PageLines.PageFinishes.{first_none, first_more, finished, still_usable}
use Rattle.pmem_engine.proofs.PageLines.PageStops.{unfinished}
use Rattle.pmem_engine.proofs.PostedWrites.WritePremises.{few_left}
use Rattle.call_plan.specs.Following.{Follows}
use Rattle.call_plan.proofs.Loops.{turn_ok, turn_err, turns_end}
use Rattle.pmem_engine.specs.Plans.{chip_with_at, reseal_plan}
use Rattle.pmem_engine.proofs.PlannedCalls.Chips.{ended_with_err}
use Rattle.pmem_engine.proofs.PlannedCalls.FinishPlans.{next_regs, turn_done, turn_stopped, page_start}
use Rattle.pmem_engine.proofs.engine.OnChip.finish_page.Given.{Over}
use Rattle.pmem_engine.proofs.engine.OnChip.finish_page.Goals.{After-left-lines}
use Rattle.pmem_engine.proofs.engine.OnChip.finish_page.Goals as goal

-- what a read past the registers' end gives
abbrev no_register : Progress
no_register = record { page = 0; old = record { 0 = [] }; done = 0 }

-- ---- after the page's lines are counted

module _ (g : Over) (c : After-left-lines g) where
  abbrev setup : Setup
  setup = setup_with_at g.S.Suite c.args.self.now c.args.suite.now

  -- the parts at a moment of the call
  abbrev at : g.row.B.Denot → g.row.S.Denot → g.row.A.Denot → Parts
  at board suite audit =
      parts_with c.args.self.now (g.B.Board.device board) (g.A.Audit.ledger audit) (g.S.Suite.tags suite) (g.S.Suite.digests suite)

  abbrev old : Parts
  old = at c.args.board.now c.args.suite.now c.args.audit.now

  number : c.left-lines.result ≡ length (not_done (register_in old c.args.n))
  number =
      c.left-lines.ensures.number
      ∙ ap (λ register. length (not_done register))
      (ap (λ list. get_or list c.args.n no_register) (c.deref.ensures.0 ∙ ap (λ regs. regs.progress.items) c.regs.ensures)
      ∙ get_or_default old.device.regs.progress.items c.args.n no_register empty_progress c.requires.register)

pub lines-init : goal.lines-init
lines-init g c =
    let place : After-left-lines g = (goal.at.lines-init g c).After-left-lines in
    record {
      resealed = first_none (setup g place) c.args.n (old g place) c.requires.usable.ready.valid_regs c.requires.register;
      reached =
          page_start (setup g place) c.args.n (old g place).device.regs
          (chip_with_at g.S.Suite g.A.Audit c.args.self.now c.args.suite.now c.args.audit.now) (old g place).device;
      capacity = refl;
      keys = refl;
    }

pub reseal-requires-clause-usable : goal.reseal-requires-clause-usable
reseal-requires-clause-usable g c =
    let place : After-left-lines g = (goal.at.reseal-requires-clause-usable g c).After-left-lines in
    still_usable (setup g place) c.args.n c.lines._line (old g place) (at g place c.lines.board c.lines.suite c.lines.audit)
    c.lines.invariant.resealed c.requires.usable

pub reseal-requires-clause-room : goal.reseal-requires-clause-room
reseal-requires-clause-room g c =
    let place : After-left-lines g = (goal.at.reseal-requires-clause-room g c).After-left-lines in
    let so_far = c.lines.invariant.resealed in
    omega (
      arith,
      ap length so_far.done.gone.marks,
      length-append (g.A.Audit.ledger c.args.audit.now).marks so_far.made,
      so_far.as_many,
      c.lines-test.true,
      number g place,
      few_left (register_in (old g place) c.args.n),
      c.requires.room,
      c.lines.invariant.capacity,
    )

pub returns-in_err-reseal-clause-finished : goal.returns-in_err-reseal-clause-finished
returns-in_err-reseal-clause-finished g c =
    let place : After-left-lines g = (goal.at.returns-in_err-reseal-clause-finished g c).After-left-lines in
    let mid : Parts = at g place c.lines.board c.lines.suite c.lines.audit in
    let new : Parts = at g place c.reseal.new.board c.reseal.new.suite c.reseal.new.audit in
    let some : c.lines._line < length (not_done (register_in (old g place) c.args.n)) = omega (arith, c.lines-test.true, number g place) in
    subst (HasFinishedPage (setup g place) c.args.n (old g place) new)
    (sym (is_err_of c.from_residual.result c.in_err-reseal.field-0.0 c.from_residual.ensures.1))
    (unfinished (setup g place) c.args.n c.lines._line (old g place) mid new c.requires.usable.ready.valid_regs c.requires.register
    c.lines.invariant.resealed some c.in_err-reseal.field-0.0
    (subst (λ f. HasResealed (record { shape = c.args.self.now.shape; formulas = f }) c.args.n mid new (Err c.in_err-reseal.field-0.0))
    (ap g.S.Suite.formulas_of c.lines.invariant.keys) c.in_err-reseal.ensures.resealed))

pub lines-preserved : goal.lines-preserved
lines-preserved g c =
    let place : After-left-lines g = (goal.at.lines-preserved g c).After-left-lines in
    let mid : Parts = at g place c.lines.board c.lines.suite c.lines.audit in
    let new : Parts = at g place c.reseal.new.board c.reseal.new.suite c.reseal.new.audit in
    let some : c.lines._line < length (not_done (register_in (old g place) c.args.n)) = omega (arith, c.lines-test.true, number g place) in
    record {
      resealed =
          first_more (setup g place) c.args.n c.lines._line (old g place) mid new c.requires.usable.ready.valid_regs c.requires.register
          c.lines.invariant.resealed some c.in_ok-reseal.field-0
          (subst (λ f. HasResealed (record { shape = c.args.self.now.shape; formulas = f }) c.args.n mid new (Ok c.in_ok-reseal.field-0))
          (ap g.S.Suite.formulas_of c.lines.invariant.keys) c.in_ok-reseal.ensures.resealed);
      reached =
          turn_ok c.lines.invariant.reached some
          (turn_done (setup g place) c.args.n mid.device.regs
          (chip_with_at g.S.Suite g.A.Audit c.args.self.now c.lines.suite c.lines.audit) c.lines._line new.device.regs
          (chip_with_at g.S.Suite g.A.Audit c.args.self.now c.reseal.new.suite c.reseal.new.audit) c.in_ok-reseal.field-0
          (next_regs (record { shape = c.args.self.now.shape; formulas = g.S.Suite.formulas_of (g.S.Suite.keys c.lines.suite) }) c.args.n mid new
          c.in_ok-reseal.field-0 c.in_ok-reseal.ensures.resealed)
          (subst (λ keys. Follows (reseal_plan (record { shape = c.args.self.now.shape; formulas = g.S.Suite.formulas_of keys }) c.args.n mid.device.regs
          (chip_with_at g.S.Suite g.A.Audit c.args.self.now c.lines.suite c.lines.audit)) mid.device new.device
          (Ok (chip_with_at g.S.Suite g.A.Audit c.args.self.now c.reseal.new.suite c.reseal.new.audit, c.in_ok-reseal.field-0))) c.lines.invariant.keys
          c.in_ok-reseal.ensures.plan));
      capacity = c.reseal.ensures.capacity ∙ c.lines.invariant.capacity;
      keys = c.reseal.ensures.keys ∙ c.lines.invariant.keys;
    }

pub returns-clause-finished : goal.returns-clause-finished
returns-clause-finished g c =
    let place : After-left-lines g = (goal.at.returns-clause-finished g c).After-left-lines in
    finished (setup g place) c.args.n c.lines._line (old g place) (at g place c.lines.board c.lines.suite c.lines.audit)
    c.lines.invariant.resealed (omega (arith, c.lines-test.false, number g place))

pub returns-in_err-reseal-clause-plan : goal.returns-in_err-reseal-clause-plan
returns-in_err-reseal-clause-plan g c =
    let place : After-left-lines g = (goal.at.returns-in_err-reseal-clause-plan g c).After-left-lines in
    let mid : Parts = at g place c.lines.board c.lines.suite c.lines.audit in
    let new : Parts = at g place c.reseal.new.board c.reseal.new.suite c.reseal.new.audit in
    let some : c.lines._line < length (not_done (register_in (old g place) c.args.n)) = omega (arith, c.lines-test.true, number g place) in
    ended_with_err new.device.regs c.from_residual.result c.from_residual.ensures.1
    (turn_err c.lines.invariant.reached some
    (turn_stopped (setup g place) c.args.n mid.device.regs (chip_with_at g.S.Suite g.A.Audit c.args.self.now c.lines.suite c.lines.audit) c.lines._line
    (subst (λ keys. Follows (reseal_plan (record { shape = c.args.self.now.shape; formulas = g.S.Suite.formulas_of keys }) c.args.n mid.device.regs
    (chip_with_at g.S.Suite g.A.Audit c.args.self.now c.lines.suite c.lines.audit)) mid.device new.device
    (Err (chip_with_at g.S.Suite g.A.Audit c.args.self.now c.reseal.new.suite c.reseal.new.audit, c.in_err-reseal.field-0.0))) c.lines.invariant.keys
    c.in_err-reseal.ensures.plan)))

pub returns-clause-plan : goal.returns-clause-plan
returns-clause-plan g c =
    let place : After-left-lines g = (goal.at.returns-clause-plan g c).After-left-lines in
    turns_end c.lines.invariant.reached (omega (arith, c.lines-test.false, number g place))
