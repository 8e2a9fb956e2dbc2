-- The tag line isn't read, or the seal is cut, or done.
use Rattle.std.proofs.Common.{ℕ, ◌≡◌, ◌≤◌, ◌+◌, Result, Ok, Err, refl, sym, ap, ap₂, subst, subst₂, ◌∙◌}
use Rattle.pmem_base.specs.declared.lines.Line.{Line}
use Rattle.pmem_base.specs.declared.faults.Cut.{Cut}
use Rattle.pmem_base.specs.declared.lines.Ctr.{Ctr}
use Rattle.pmem_base.specs.Counts.{risen, risen_times}
use Rattle.pmem_base.specs.Layout as layout
use Rattle.pmem_base.specs.Layout.{page_of}
use Rattle.pmem_base.specs.Lines.{IsCtr}
use Rattle.pmem_base.specs.declared.registers.Regs.{Regs}
use Rattle.bonsai_tree.specs.Paths.{path_with, root_with}
use Rattle.call_plan.specs.Plans.{mapped_end}
use Rattle.call_plan.specs.Following.{Follows}
use Rattle.call_plan.proofs.Steps.{ended_err}
use Rattle.meta_path.specs.Blocks.{cached_line}
use Rattle.suite.specs.Setup.{Setup}
use Rattle.board.specs.Device.{Device}
use Rattle.board.specs.Steps.{HasRead}
use Rattle.plain_model.specs.Bounds.{path_length}
use Rattle.seal_ledger.specs.Ledger.{LedgerState}
use Rattle.split_counters.specs.Blocks.{packed}
use Rattle.meta_path.specs.Blocks.{AreCachedTrue}
use Rattle.meta_path.specs.Storing.{IsRenewed}
use Rattle.pmem_engine.specs.declared.resealing.NextSeal.{NextSeal}
use Rattle.pmem_engine.specs.Engine.{ChipState}
use Rattle.pmem_engine.specs.Outcomes.{NeverFalls}
use Rattle.pmem_engine.specs.Parts.{Parts, parts_with}
use Rattle.pmem_engine.specs.Plans.{Chip, chip_with, chip_with_at, with_tags}
use Rattle.pmem_engine.specs.SealPlans.{commit_seal_plan, seal_next_plan, with_path_digests}
use Rattle.pmem_engine.specs.CallFacts.{grouped_lines}
use Rattle.pmem_engine.specs.Committing.{next_seal_of}
use Rattle.pmem_engine.specs.Sealing.{next_counter_of, raised_block, HasSealEnded, HasSealedNext}
use Rattle.call_effects.proofs.ResultLaws.{is_err_of}
use Rattle.pmem_engine.proofs.Seals.NextPaths.{times_never_fall}
use Rattle.pmem_engine.proofs.Seals.SealOutcomes.{seal_unread, some_steps, seal_ended}
use Rattle.pmem_engine.proofs.PlannedCalls.Chips.{same_chip}
use Rattle.pmem_engine.proofs.PlannedCalls.SealPlans.{lines_over, root_over, seal_unread as tag_line_unread, seal_end}
use Rattle.pmem_engine.proofs.engine.OnChip.seal_next.Given.{Over}
use Rattle.pmem_engine.proofs.engine.OnChip.seal_next.Goals.{After-next_path-path, After-commit_seal}
use Rattle.pmem_engine.proofs.engine.OnChip.seal_next.Goals as goal

pub returns-in_err-tag_line-clause-sealed : goal.returns-in_err-tag_line-clause-sealed
returns-in_err-tag_line-clause-sealed g c =
    let setup : Setup = record { shape = c.args.self.now.shape; formulas = g.S.Suite.formulas_of (g.S.Suite.keys c.args.suite.now) } in
    let old : Device = g.B.Board.device c.args.board.now in
    let new : Device = g.B.Board.device c.read_line.new.self in
    let before : LedgerState = g.A.Audit.ledger c.args.audit.now in
    subst
    (HasSealedNext setup c.args.at c.args.plain.now
    (parts_with c.args.self.now old before (g.S.Suite.tags c.args.suite.now) (g.S.Suite.digests c.args.suite.now))
    (parts_with c.args.self.now new before (g.S.Suite.tags c.next_path-path.new.suite) (g.S.Suite.digests c.next_path-path.new.suite)))
    (sym (is_err_of c.from_residual.result c.in_err-tag_line.field-0.0 c.from_residual.ensures.1))
    (seal_unread setup c.args.at c.args.plain.now c.args.self.now old before (g.S.Suite.tags c.args.suite.now)
    (g.S.Suite.digests c.args.suite.now) c.requires.usable new (g.S.Suite.tags c.next_path-path.new.suite)
    (g.S.Suite.digests c.next_path-path.new.suite) c.next_path-path.ensures.tags
    (subst (λ (n : ℕ). NeverFalls (g.S.Suite.digests c.args.suite.now) n) (sym c.next_path-path.ensures.digests)
    (times_never_fall _ (g.S.Suite.digests c.args.suite.now)))
    c.in_err-tag_line.field-0.0 c.in_err-tag_line.ensures.cut
    (some_steps setup.shape old.regs.loss (next_counter_of setup.shape c.args.self.now c.args.at)))

-- ---- after the commit

module _ (g : Over) (c : After-commit_seal g) where
  abbrev setup : Setup
  setup = record { shape = c.args.self.now.shape; formulas = g.S.Suite.formulas_of (g.S.Suite.keys c.args.suite.now) }

  abbrev old : Parts
  old =
      parts_with c.args.self.now (g.B.Board.device c.args.board.now) (g.A.Audit.ledger c.args.audit.now) (g.S.Suite.tags c.args.suite.now)
      (g.S.Suite.digests c.args.suite.now)

  abbrev mid : Device
  mid = g.B.Board.device c.read_line.new.self

  abbrev new : Parts
  new =
      parts_with c.commit_seal.new.self (g.B.Board.device c.commit_seal.new.board) (g.A.Audit.ledger c.commit_seal.new.audit)
      (g.S.Suite.tags c.next_seal-next.new.suite) (g.S.Suite.digests c.next_seal-next.new.suite)

  abbrev next : NextSeal
  next =
      next_seal_of setup.formulas c.args.at (next_counter_of setup.shape c.args.self.now c.args.at) c.args.plain.now
      c.in_ok-tag_line.tag_line

  abbrev block : Line
  block = packed (raised_block setup.shape c.args.self.now c.args.at)

  ctr : c.next_counter.result.0 ≡ next_counter_of setup.shape c.args.self.now c.args.at
  ctr = c.next_counter.ensures.ctr

  block_is : c.next_counter.result.1 ≡ packed (raised_block setup.shape c.args.self.now c.args.at)
  block_is = c.next_counter.ensures.block

  read : HasRead old.device (layout.tag_line setup.shape c.args.at) c.in_ok-tag_line.tag_line mid
  read =
      subst (λ n. HasRead old.device n c.in_ok-tag_line.tag_line mid)
      (c.tag_line.ensures.value ∙ ap (λ (e : ChipState). layout.tag_line e.shape c.args.at) c.self.view_is) c.in_ok-tag_line.ensures.ok

  sealing : c.next_seal-next.result ≡ next
  sealing =
      c.next_seal-next.ensures.seal
      ∙ ap
      (λ keys. next_seal_of (g.S.Suite.formulas_of keys) c.args.at c.next_counter.result.0 c.args.plain.now c.in_ok-tag_line.tag_line)
      c.next_path-path.ensures.keys
      ∙ ap (λ x. next_seal_of setup.formulas c.args.at x c.args.plain.now c.in_ok-tag_line.tag_line) ctr

  grouping : c.grouped_lines-grouped.result ≡ grouped_lines setup.shape old.device.regs.loss (next_counter_of setup.shape c.args.self.now c.args.at).minor
  grouping =
      c.grouped_lines-grouped.ensures.value
      ∙ ap₂ (grouped_lines setup.shape) (ap (λ regs. regs.loss) (c.regs.ensures ∙ read.regs)) (ap (λ (x : Ctr). x.minor) ctr)

  sealed_so : (end : Result (Unit {0}) Cut)
      → HasSealEnded setup.shape c.next_seal-next.result c.grouped_lines-grouped.result c.next_path-path.result.lines.items
      c.next_path-path.result.root old.engine new.engine mid new.device old.ledger new.ledger end
      → HasSealedNext setup c.args.at c.args.plain.now old new
      (mapped_end (λ cut. cut) (λ value. next_counter_of setup.shape c.args.self.now c.args.at) end)
  sealed_so end was =
      seal_ended setup c.args.at c.args.plain.now c.in_ok-tag_line.tag_line c.grouped_lines-grouped.result old.engine new.engine old.device mid
      new.device old.ledger new.ledger old.tags old.digests new.tags new.digests c.next_path-path.result.lines.items
      c.next_path-path.result.root c.requires.usable
      (subst (λ (e : ChipState). e.shape.levels ≤ 6) c.self.view_is c.self.inside.geo.has_levels.1)
      (g.met.S.Suite.in_range c.args.suite.now) c.requires.line c.is_whole.ensures c.requires.cached c.requires.named c.requires.minor
      (subst IsCtr ctr c.next_counter.ensures.range)
      (λ truth is.
      subst
      (λ line. IsRenewed setup.shape setup.formulas truth (page_of c.args.at) line c.next_path-path.result.lines.items
      c.next_path-path.result.root)
      block_is
      (subst
      (λ (e : ChipState). AreCachedTrue e.cache truth → IsRenewed e.shape setup.formulas truth (page_of c.args.at)
      c.next_counter.result.1 c.next_path-path.result.lines.items c.next_path-path.result.root)
      c.self.view_is (c.next_path-path.ensures.on_truth truth) is))
      read grouping (subst (λ (e : ChipState). e.shape.persist ≤ e.shape.levels + 1) c.self.view_is c.self.inside.geo.has_persist)
      (c.next_seal-next.ensures.tags ∙ ap risen c.next_path-path.ensures.tags)
      (c.next_seal-next.ensures.digests ∙ c.next_path-path.ensures.digests
      ∙ ap (λ (e : ChipState). risen_times (path_length e.shape) (g.S.Suite.digests c.args.suite.now)) c.self.view_is)
      (g.met.B.Board.whole c.read_line.new.self) (g.met.B.Board.whole c.commit_seal.new.board) end
      (subst
      (λ (next : NextSeal). HasSealEnded setup.shape next c.grouped_lines-grouped.result c.next_path-path.result.lines.items
      c.next_path-path.result.root old.engine new.engine mid new.device old.ledger new.ledger end) sealing was)

pub returns-in_err-commit_seal-clause-sealed : goal.returns-in_err-commit_seal-clause-sealed
returns-in_err-commit_seal-clause-sealed g c =
    let end : After-commit_seal g = (goal.at.returns-in_err-commit_seal-clause-sealed g c).After-commit_seal in
    subst (HasSealedNext (setup g end) c.args.at c.args.plain.now (old g end) (new g end))
    (sym (is_err_of c.from_residual-in_err-commit_seal.result c.in_err-commit_seal.field-0.0 c.from_residual-in_err-commit_seal.ensures.1))
    (sealed_so g end (Err c.in_err-commit_seal.field-0.0) c.in_err-commit_seal.ensures.ended)

pub returns-clause-sealed : goal.returns-clause-sealed
returns-clause-sealed g c =
    let end : After-commit_seal g = (goal.at.returns-clause-sealed g c).After-commit_seal in
    subst (λ x. HasSealedNext (setup g end) c.args.at c.args.plain.now (old g end) (new g end) (Ok x)) (sym (ctr g end))
    (sealed_so g end (Ok tt) c.in_ok-commit_seal.ensures.ended)

-- ---- the plan

module _ (g : Over) (c : After-next_path-path g) where
  abbrev was : Chip
  was = chip_with_at g.S.Suite g.A.Audit c.args.self.now c.args.suite.now c.args.audit.now

  abbrev made : ℕ
  made = risen_times (path_length c.args.self.now.shape) (g.S.Suite.digests c.args.suite.now)

  digests_are : g.S.Suite.digests c.next_path-path.new.suite ≡ made
  digests_are =
      c.next_path-path.ensures.digests
      ∙ ap (λ (e : ChipState). risen_times (path_length e.shape) (g.S.Suite.digests c.args.suite.now)) c.self.view_is

pub returns-in_err-tag_line-clause-plan : goal.returns-in_err-tag_line-clause-plan
returns-in_err-tag_line-clause-plan g c =
    let here : After-next_path-path g = (goal.at.returns-in_err-tag_line-clause-plan g c).After-next_path-path in
    let setup : Setup = record { shape = c.args.self.now.shape; formulas = g.S.Suite.formulas_of (g.S.Suite.keys c.args.suite.now) } in
    let regs : Regs = (g.B.Board.device c.args.board.now).regs in
    let ledger : LedgerState = g.A.Audit.ledger c.args.audit.now in
    ended_err c.from_residual.result c.from_residual.ensures.1
    (subst (λ (chip : Chip). Follows (seal_next_plan setup c.args.at c.args.plain.now regs (was g here)) (g.B.Board.device c.args.board.now)
    (g.B.Board.device c.read_line.new.self) (Err (chip, c.in_err-tag_line.field-0.0)))
    (sym (same_chip c.args.self.now (refl {a = ledger}) c.next_path-path.ensures.tags (digests_are g here)))
    (tag_line_unread setup c.args.at c.args.plain.now regs (was g here) c.in_err-tag_line.ensures.cut c.in_err-tag_line.ensures.only_off))

module _ (g : Over) (c : After-commit_seal g) where
  abbrev start : Chip
  start = chip_with_at g.S.Suite g.A.Audit c.args.self.now c.args.suite.now c.args.audit.now

  abbrev digested : ℕ
  digested = risen_times (path_length c.args.self.now.shape) (g.S.Suite.digests c.args.suite.now)

  abbrev after : Chip
  after = chip_with c.commit_seal.new.self (new g c).ledger (risen (g.S.Suite.tags c.args.suite.now)) digested

  lines_are : c.next_path-path.result.lines.items ≡ lines_over (setup g c) start (page_of c.args.at) c.next_counter.result.1
  lines_are =
      subst
      (λ (e : ChipState). c.next_path-path.result.lines.items
      ≡ path_with e.shape (setup g c).formulas (cached_line e.shape e.cache) (page_of c.args.at) c.next_counter.result.1)
      c.self.view_is c.next_path-path.ensures.lines

  root_is : c.next_path-path.result.root ≡ root_over (setup g c) start (page_of c.args.at) c.next_counter.result.1
  root_is =
      subst
      (λ (e : ChipState). c.next_path-path.result.root
      ≡ root_with e.shape (setup g c).formulas (cached_line e.shape e.cache) (page_of c.args.at) c.next_counter.result.1)
      c.self.view_is c.next_path-path.ensures.root

  after_is : after ≡ chip_with_at g.S.Suite g.A.Audit c.commit_seal.new.self c.next_seal-next.new.suite c.commit_seal.new.audit
  after_is =
      sym (same_chip c.commit_seal.new.self (refl {a = (new g c).ledger}) (c.next_seal-next.ensures.tags ∙ ap risen c.next_path-path.ensures.tags)
      (c.next_seal-next.ensures.digests ∙ c.next_path-path.ensures.digests
      ∙ ap (λ (e : ChipState). risen_times (path_length e.shape) (g.S.Suite.digests c.args.suite.now)) c.self.view_is))

  its_end : (end : Result (Chip × Regs) (Chip × Cut))
      → Follows (commit_seal_plan c.args.self.now.shape c.next_seal-next.result c.grouped_lines-grouped.result
      c.next_path-path.result.lines.items c.next_path-path.result.root (mid g c).regs
      (with_tags (with_path_digests c.args.self.now.shape start) (risen start.tags))) (mid g c) (new g c).device end
      → Follows (seal_next_plan (setup g c) c.args.at c.args.plain.now (old g c).device.regs start) (old g c).device (new g c).device
      (mapped_end (λ left. left) (λ end. (end.0, next_counter_of (setup g c).shape c.args.self.now c.args.at)) end)
  its_end end it =
      seal_end (setup g c) c.args.at c.args.plain.now (old g c).device.regs start c.next_seal-next.result c.grouped_lines-grouped.result
      c.next_counter.result.1 c.next_path-path.result.lines.items c.next_path-path.result.root c.in_ok-tag_line.tag_line (sealing g c)
      (grouping g c) (block_is g c) lines_are root_is (read g c) c.is_whole-2.ensures end
      (subst (λ (regs : Regs). Follows (commit_seal_plan c.args.self.now.shape c.next_seal-next.result c.grouped_lines-grouped.result
      c.next_path-path.result.lines.items c.next_path-path.result.root regs
      (with_tags (with_path_digests c.args.self.now.shape start) (risen start.tags))) (mid g c) (new g c).device end) (read g c).regs it)

pub returns-in_err-commit_seal-clause-plan : goal.returns-in_err-commit_seal-clause-plan
returns-in_err-commit_seal-clause-plan g c =
    let end : After-commit_seal g = (goal.at.returns-in_err-commit_seal-clause-plan g c).After-commit_seal in
    ended_err c.from_residual-in_err-commit_seal.result c.from_residual-in_err-commit_seal.ensures.1
    (subst (λ (chip : Chip). Follows (seal_next_plan (setup g end) c.args.at c.args.plain.now (old g end).device.regs (start g end))
    (old g end).device (new g end).device (Err (chip, c.in_err-commit_seal.field-0.0))) (after_is g end)
    (its_end g end (Err (after g end, c.in_err-commit_seal.field-0.0))
    (c.in_err-commit_seal.ensures.plan (risen (g.S.Suite.tags c.args.suite.now)) (digested g end))))

pub returns-clause-plan : goal.returns-clause-plan
returns-clause-plan g c =
    let end : After-commit_seal g = (goal.at.returns-clause-plan g c).After-commit_seal in
    subst₂ (λ (chip : Chip) (ctr : Ctr). Follows (seal_next_plan (setup g end) c.args.at c.args.plain.now (old g end).device.regs (start g end))
    (old g end).device (new g end).device (Ok (chip, ctr))) (after_is g end) (sym (ctr g end))
    (its_end g end (Ok (after g end, (new g end).device.regs))
    (c.in_ok-commit_seal.ensures.plan (risen (g.S.Suite.tags c.args.suite.now)) (digested g end)))
