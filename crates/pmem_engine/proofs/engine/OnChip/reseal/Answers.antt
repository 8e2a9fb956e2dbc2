-- The line isn't unsealed, or its group is cut, or it is sealed anew.
use Rattle.std.proofs.Common.{ℕ, ◌≡◌, ◌≤◌, ◌-◌, [], Result, Ok, Err, get_or, length, refl, sym, ap, ap₂, subst, subst₂, ◌∙◌, arith}
use Rattle.std.proofs.lemmas.List.{get_or_default}
use Rattle.pmem_base.specs.declared.faults.Cut.{Cut}
use Rattle.pmem_base.specs.declared.registers.Progress.{Progress}
use Rattle.pmem_base.specs.Counts.{risen}
use Rattle.pmem_base.specs.Layout.{pages}
use Rattle.pmem_base.specs.Registers.{not_done, empty_progress}
use Rattle.pmem_base.proofs.LayoutLemmas.{pages-most}
use Rattle.suite.specs.Setup.{Setup}
use Rattle.board.specs.Device.{Device}
use Rattle.seal_ledger.specs.Ledger.{LedgerState}
use Rattle.pmem_base.specs.declared.registers.Regs.{Regs}
use Rattle.call_plan.specs.Plans.{mapped_end}
use Rattle.call_plan.specs.Following.{Follows}
use Rattle.call_plan.proofs.Steps.{ended_err}
use Rattle.pmem_engine.specs.declared.fault.LineFault.TheVariants as AtLine
use Rattle.pmem_engine.specs.declared.resealing.HeldLine.{HeldLine}
use Rattle.pmem_engine.specs.declared.resealing.NextSeal.{NextSeal}
use Rattle.pmem_engine.specs.Parts.{Parts, parts_with, setup_with_at}
use Rattle.pmem_engine.specs.Committing.{next_seal_of}
use Rattle.pmem_engine.specs.Resealing.{IsNextHeld, HasResealEnded, HasResealed}
use Rattle.pmem_engine.specs.Plans.{Chip, chip_with, chip_with_at, held_of, register_at, unseal_plan, commit_plan, reseal_plan}
use Rattle.pmem_engine.proofs.PlannedCalls.Chips.{same_chip}
use Rattle.pmem_engine.proofs.PlannedCalls.ResealPlans.{held_is, reseal_unopened, reseal_cut, reseal_done}
use Rattle.call_effects.proofs.ResultLaws.{is_err_of}
use Rattle.pmem_engine.proofs.PageLines.ResealOutcomes.{not_unsealed, reseal_ended}
use Rattle.pmem_engine.proofs.engine.OnChip.reseal.Given.{Over}
use Rattle.pmem_engine.proofs.engine.OnChip.reseal.Goals.{After-held_line-held, After-commit_reseal}
use Rattle.pmem_engine.proofs.engine.OnChip.reseal.Goals as goal

-- what a read past the registers' end gives
abbrev no_register : Progress
no_register = record { page = 0; old = record { 0 = [] }; done = 0 }

pub held_line-held-requires-clause-page : goal.held_line-held-requires-clause-page
held_line-held-requires-clause-page g c =
    let registers = (g.B.Board.device c.args.board.now).regs.progress.items in
    let same : get_or c.deref.result.now c.args.n no_register ≡ get_or registers c.args.n empty_progress =
    ap (λ list. get_or list c.args.n no_register) (c.deref.ensures.0 ∙ ap (λ regs. regs.progress.items) c.regs.ensures)
    ∙ get_or_default registers c.args.n no_register empty_progress c.requires.register in
    let page : (get_or c.deref.result.now c.args.n no_register).page ≡ (get_or registers c.args.n empty_progress).page =
    ap (λ register. register.page) same in
    let inside = (c.requires.usable.ready.valid_regs.each_page c.args.n empty_progress c.requires.register).its_page in
    let few : pages c.args.self.now.shape ≤ 4096 = pages-most c.args.self.now.shape.levels c.has_shape.ensures.at_most_six_levels in
    omega (arith, page, inside, few)

pub returns-in_err-unsealed-clause-resealed : goal.returns-in_err-unsealed-clause-resealed
returns-in_err-unsealed-clause-resealed g c =
    let setup : Setup = record { shape = c.args.self.now.shape; formulas = g.S.Suite.formulas_of (g.S.Suite.keys c.args.suite.now) } in
    let old : Device = g.B.Board.device c.args.board.now in
    let new : Device = g.B.Board.device c.unseal_line.new.board in
    let before : LedgerState = g.A.Audit.ledger c.args.audit.now in
    let after : LedgerState = g.A.Audit.ledger c.unseal_line.new.audit in
    let same : get_or c.deref.result.now c.args.n no_register ≡ get_or old.regs.progress.items c.args.n empty_progress =
    ap (λ list. get_or list c.args.n no_register) (c.deref.ensures.0 ∙ ap (λ regs. regs.progress.items) c.regs.ensures)
    ∙ get_or_default old.regs.progress.items c.args.n no_register empty_progress c.requires.register in
    subst
    (HasResealed setup c.args.n (parts_with c.args.self.now old before (g.S.Suite.tags c.args.suite.now) (g.S.Suite.digests c.args.suite.now))
    (parts_with c.args.self.now new after (g.S.Suite.tags c.unseal_line.new.suite) (g.S.Suite.digests c.unseal_line.new.suite)))
    (sym (is_err_of c.from_residual.result c.in_err-unsealed.field-0.0 c.from_residual.ensures.1))
    (not_unsealed setup c.args.n c.args.self.now old before (g.S.Suite.tags c.args.suite.now) (g.S.Suite.digests c.args.suite.now)
    c.held_line-held.result c.requires.usable c.requires.register
    (subst (λ register. IsNextHeld register c.held_line-held.result) same c.held_line-held.ensures)
    new after (g.S.Suite.tags c.unseal_line.new.suite) (g.S.Suite.digests c.unseal_line.new.suite) c.in_err-unsealed.field-0.0
    c.in_err-unsealed.ensures.unsealed)

-- ---- after the commit

module _ (g : Over) (c : After-commit_reseal g) where
  abbrev setup : Setup
  setup = record { shape = c.args.self.now.shape; formulas = g.S.Suite.formulas_of (g.S.Suite.keys c.args.suite.now) }

  abbrev old : Parts
  old =
      parts_with c.args.self.now (g.B.Board.device c.args.board.now) (g.A.Audit.ledger c.args.audit.now) (g.S.Suite.tags c.args.suite.now)
      (g.S.Suite.digests c.args.suite.now)

  abbrev mid : Parts
  mid =
      parts_with c.args.self.now (g.B.Board.device c.unseal_line.new.board) (g.A.Audit.ledger c.unseal_line.new.audit)
      (g.S.Suite.tags c.unseal_line.new.suite) (g.S.Suite.digests c.unseal_line.new.suite)

  abbrev new : Parts
  new =
      parts_with c.args.self.now (g.B.Board.device c.commit_reseal.new.board) (g.A.Audit.ledger c.commit_reseal.new.audit)
      (g.S.Suite.tags c.next_seal-next.new.suite) (g.S.Suite.digests c.next_seal-next.new.suite)

  abbrev next : NextSeal
  next =
      next_seal_of setup.formulas c.held_line-held.result.at c.held_line-held.result.next c.in_ok-unsealed.unsealed.plain
      c.in_ok-unsealed.unsealed.tag_line

  same : get_or c.deref.result.now c.args.n no_register ≡ get_or old.device.regs.progress.items c.args.n empty_progress
  same =
      ap (λ list. get_or list c.args.n no_register) (c.deref.ensures.0 ∙ ap (λ regs. regs.progress.items) c.regs.ensures)
      ∙ get_or_default old.device.regs.progress.items c.args.n no_register empty_progress c.requires.register

  sealing : c.next_seal-next.result ≡ next
  sealing =
      c.next_seal-next.ensures.seal
      ∙ ap
      (λ keys. next_seal_of (g.S.Suite.formulas_of keys) c.held_line-held.result.at c.held_line-held.result.next
      c.in_ok-unsealed.unsealed.plain c.in_ok-unsealed.unsealed.tag_line)
      c.in_ok-unsealed.ensures.keys

  abbrev number : ℕ
  number = length (not_done (get_or old.device.regs.progress.items c.args.n empty_progress))

  resealed_so : (end : Result (Unit {0}) Cut)
      → HasResealEnded setup.shape c.next_seal-next.result mid.device new.device mid.ledger new.ledger end
      → HasResealed setup c.args.n old new (mapped_end (λ cut. AtLine.Cut) (λ value. (c.held_line-held.result.at, number - 1)) end)
  resealed_so end was =
      reseal_ended setup c.args.n old.engine old.device old.ledger old.tags old.digests c.held_line-held.result c.requires.usable
      c.requires.register
      (subst (λ register. IsNextHeld register c.held_line-held.result) same c.held_line-held.ensures)
      mid.device mid.ledger mid.tags mid.digests c.in_ok-unsealed.unsealed c.in_ok-unsealed.ensures.unsealed new.device new.ledger new.tags
      new.digests c.next_seal-next.ensures.tags c.next_seal-next.ensures.digests (g.met.S.Suite.in_range c.args.suite.now)
      c.next_seal-next.ensures.whole (g.met.B.Board.whole c.unseal_line.new.board) (g.met.B.Board.whole c.commit_reseal.new.board) end
      (subst (λ (next : NextSeal). HasResealEnded setup.shape next mid.device new.device mid.ledger new.ledger end) sealing was)

pub returns-in_err-commit_reseal-clause-resealed : goal.returns-in_err-commit_reseal-clause-resealed
returns-in_err-commit_reseal-clause-resealed g c =
    let end : After-commit_reseal g = (goal.at.returns-in_err-commit_reseal-clause-resealed g c).After-commit_reseal in
    subst (HasResealed (setup g end) c.args.n (old g end) (new g end))
    (sym (is_err_of c.from_residual-in_err-commit_reseal.result AtLine.Cut c.from_residual-in_err-commit_reseal.ensures.1))
    (resealed_so g end (Err c.in_err-commit_reseal.field-0.0) c.in_err-commit_reseal.ensures.ended)

pub returns-clause-resealed : goal.returns-clause-resealed
returns-clause-resealed g c =
    let end : After-commit_reseal g = (goal.at.returns-clause-resealed g c).After-commit_reseal in
    subst (λ (n : ℕ). HasResealed (setup g end) c.args.n (old g end) (new g end) (Ok (c.held_line-held.result.at, n - 1)))
    (sym (c.left.ensures.number ∙ ap (λ register. length (not_done register)) (same g end)))
    (resealed_so g end (Ok tt) c.in_ok-commit_reseal.ensures.ended)

-- ---- the plan

module _ (g : Over) (c : After-held_line-held g) where
  abbrev chip : Chip
  chip = chip_with_at g.S.Suite g.A.Audit c.args.self.now c.args.suite.now c.args.audit.now

  abbrev regs : Regs
  regs = (g.B.Board.device c.args.board.now).regs

  its_register : get_or c.deref.result.now c.args.n no_register ≡ register_at regs c.args.n
  its_register =
      ap (λ list. get_or list c.args.n no_register) (c.deref.ensures.0 ∙ ap (λ regs. regs.progress.items) c.regs.ensures)
      ∙ get_or_default regs.progress.items c.args.n no_register empty_progress c.requires.register

  its_line : c.held_line-held.result ≡ held_of (register_at regs c.args.n)
  its_line =
      held_is (register_at regs c.args.n) c.held_line-held.result
      (subst (λ register. IsNextHeld register c.held_line-held.result) its_register c.held_line-held.ensures)

pub returns-in_err-unsealed-clause-plan : goal.returns-in_err-unsealed-clause-plan
returns-in_err-unsealed-clause-plan g c =
    let here = (goal.at.returns-in_err-unsealed-clause-plan g c).After-held_line-held in
    let setup : Setup = setup_with_at g.S.Suite c.args.self.now c.args.suite.now in
    let end : Chip = chip_with_at g.S.Suite g.A.Audit c.args.self.now c.unseal_line.new.suite c.unseal_line.new.audit in
    ended_err c.from_residual.result c.from_residual.ensures.1
    (reseal_unopened setup c.args.n (regs g here) (chip g here)
    (subst (λ (h : HeldLine). Follows (unseal_plan setup h.at h.now (chip g here)) (g.B.Board.device c.args.board.now)
    (g.B.Board.device c.unseal_line.new.board) (Err (end, c.in_err-unsealed.field-0.0))) (its_line g here) c.in_err-unsealed.ensures.plan))

module _ (g : Over) (c : After-commit_reseal g) where
  abbrev register : Progress
  register = register_at (old g c).device.regs c.args.n

  abbrev was : Chip
  was = chip_with_at g.S.Suite g.A.Audit c.args.self.now c.args.suite.now c.args.audit.now

  abbrev after : Chip
  after = chip_with_at g.S.Suite g.A.Audit c.args.self.now c.unseal_line.new.suite c.unseal_line.new.audit

  at_place : c.held_line-held.result ≡ held_of register
  at_place =
      held_is register c.held_line-held.result
      (subst (λ register. IsNextHeld register c.held_line-held.result) (same g c) c.held_line-held.ensures)

  first : Follows (unseal_plan (setup g c) (held_of register).at (held_of register).now was) (old g c).device (mid g c).device
      (Ok (after, c.in_ok-unsealed.unsealed))
  first =
      subst (λ (h : HeldLine). Follows (unseal_plan (setup g c) h.at h.now was) (old g c).device (mid g c).device (Ok (after, c.in_ok-unsealed.unsealed)))
      at_place c.in_ok-unsealed.ensures.plan

  its_commit : (end : Result (LedgerState × Unit {0}) (LedgerState × Cut))
      → Follows (commit_plan (setup g c).shape c.next_seal-next.result (mid g c).device.regs (mid g c).ledger) (mid g c).device (new g c).device end
      → Follows (commit_plan (setup g c).shape (next_seal_of (setup g c).formulas (held_of register).at (held_of register).next
      c.in_ok-unsealed.unsealed.plain c.in_ok-unsealed.unsealed.tag_line) (old g c).device.regs (mid g c).ledger) (mid g c).device (new g c).device end
  its_commit end it =
      subst₂ (λ (next : NextSeal) (regs : Regs). Follows (commit_plan (setup g c).shape next regs (mid g c).ledger) (mid g c).device (new g c).device end)
      (sealing g c ∙ ap (λ (h : HeldLine). next_seal_of (setup g c).formulas h.at h.next c.in_ok-unsealed.unsealed.plain
      c.in_ok-unsealed.unsealed.tag_line) at_place) c.in_ok-unsealed.ensures.unsealed.regs it

  its_chip : chip_with_at g.S.Suite g.A.Audit c.args.self.now c.next_seal-next.new.suite c.commit_reseal.new.audit
      ≡ chip_with c.args.self.now (new g c).ledger (risen (mid g c).tags) (mid g c).digests
  its_chip = same_chip c.args.self.now (refl {a = (new g c).ledger}) c.next_seal-next.ensures.tags c.next_seal-next.ensures.digests

pub returns-in_err-commit_reseal-clause-plan : goal.returns-in_err-commit_reseal-clause-plan
returns-in_err-commit_reseal-clause-plan g c =
    let end : After-commit_reseal g = (goal.at.returns-in_err-commit_reseal-clause-plan g c).After-commit_reseal in
    ended_err c.from_residual-in_err-commit_reseal.result c.from_residual-in_err-commit_reseal.ensures.1
    (subst (λ (chip : Chip). Follows (reseal_plan (setup g end) c.args.n (old g end).device.regs (was g end)) (old g end).device (new g end).device
    (Err (chip, AtLine.Cut))) (sym (its_chip g end))
    (reseal_cut (setup g end) c.args.n (old g end).device.regs (was g end) (after g end) c.in_ok-unsealed.unsealed (first g end) (new g end).ledger
    c.in_err-commit_reseal.field-0.0 (its_commit g end _ c.in_err-commit_reseal.ensures.plan)))

pub returns-clause-plan : goal.returns-clause-plan
returns-clause-plan g c =
    let end : After-commit_reseal g = (goal.at.returns-clause-plan g c).After-commit_reseal in
    subst₂ (λ (chip : Chip) (answer : ℕ × ℕ). Follows (reseal_plan (setup g end) c.args.n (old g end).device.regs (was g end)) (old g end).device
    (new g end).device (Ok (chip, answer))) (sym (its_chip g end))
    (sym (ap₂ (λ (h : HeldLine) n. (h.at, n - 1)) (at_place g end) (c.left.ensures.number ∙ ap (λ register. length (not_done register)) (same g end))))
    (reseal_done (setup g end) c.args.n (old g end).device.regs (was g end) (after g end) c.in_ok-unsealed.unsealed (first g end) (new g end).ledger
    (its_commit g end _ c.in_ok-commit_reseal.ensures.plan))
