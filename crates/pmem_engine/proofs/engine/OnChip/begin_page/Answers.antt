-- The begin is cut, or done.
use Rattle.std.proofs.Common.{ℕ, ◌≡◌, ◌≤◌, ◌+◌, Result, Ok, Err, refl, sym, ap, subst, ◌∙◌}
use Rattle.pmem_base.specs.declared.faults.Cut.{Cut}
use Rattle.pmem_base.specs.declared.registers.Regs.{Regs}
use Rattle.call_plan.specs.Following.{Follows}
use Rattle.call_plan.specs.Plans.{mapped_end}
use Rattle.bonsai_tree.specs.Paths.{root_with}
use Rattle.pmem_engine.specs.Outcomes.{fault_of_cut, of_cut}
use Rattle.pmem_engine.specs.Plans.{Chip, chip_with, chip_with_at}
use Rattle.pmem_engine.specs.SealPlans.{commit_begin_plan, begin_page_plan, with_path_digests}
use Rattle.pmem_engine.proofs.PlannedCalls.Chips.{same_chip, ended_with_err}
use Rattle.pmem_engine.proofs.PlannedCalls.SealPlans.{lines_over, root_over, begin_end}
use Rattle.pmem_base.specs.Counts.{risen_times}
use Rattle.suite.specs.Setup.{Setup}
use Rattle.plain_model.specs.Bounds.{path_length}
use Rattle.split_counters.specs.declared.Block.{Block}
use Rattle.split_counters.specs.Blocks.{packed, next_block, IsBlock}
use Rattle.page_reencrypt.specs.Registers.{begun}
use Rattle.bonsai_tree.specs.Paths.{path_with}
use Rattle.meta_path.specs.Blocks.{AreCachedTrue, cached_line}
use Rattle.meta_path.specs.Storing.{IsRenewed}
use Rattle.pmem_engine.specs.declared.fault.Fault.TheVariants as Fail
use Rattle.pmem_engine.specs.Engine.{ChipState}
use Rattle.pmem_engine.specs.Parts.{Parts, parts_with}
use Rattle.pmem_engine.specs.Inner.{cached_block}
use Rattle.pmem_engine.specs.Sealing.{HasBeginEnded, HasBegunPage}
use Rattle.call_effects.proofs.ResultLaws.{is_err_of}
use Rattle.pmem_engine.proofs.Seals.NextPaths.{rolled-next}
use Rattle.pmem_engine.proofs.Seals.BegunBlocks.{rolled_block}
use Rattle.pmem_engine.proofs.Seals.BeginOutcomes.{begin_ended}
use Rattle.pmem_engine.proofs.engine.OnChip.begin_page.Given.{Over}
use Rattle.pmem_engine.proofs.engine.OnChip.begin_page.Goals.{After-commit_begin}
use Rattle.pmem_engine.proofs.engine.OnChip.begin_page.Goals as goal

module _ (g : Over) (c : After-commit_begin g) where
  abbrev setup : Setup
  setup = record { shape = c.args.self.now.shape; formulas = g.S.Suite.formulas_of (g.S.Suite.keys c.args.suite.now) }

  abbrev old : Parts
  old =
      parts_with c.args.self.now (g.B.Board.device c.args.board.now) (g.A.Audit.ledger c.args.audit.now) (g.S.Suite.tags c.args.suite.now)
      (g.S.Suite.digests c.args.suite.now)

  abbrev new : Parts
  new =
      parts_with c.commit_begin.new.self (g.B.Board.device c.commit_begin.new.board) (g.A.Audit.ledger c.commit_begin.new.audit)
      (g.S.Suite.tags c.next_path-path.new.suite) (g.S.Suite.digests c.next_path-path.new.suite)

  abbrev cached : Block
  cached = cached_block c.args.self.now.shape c.args.self.now c.args.page

  register_is : c.in_ok-block.register ≡ begun c.args.page (packed cached)
  register_is = c.in_ok-block.ensures.register ∙ ap (λ b. begun c.args.page (packed b)) c.block.ensures.cached

  block_is : c.pack-block.result ≡ packed (next_block cached)
  block_is =
      c.pack-block.ensures
      ∙ ap packed (rolled-next c.block.result c.in_ok-block.block c.in_ok-block.ensures.block ∙ ap next_block c.block.ensures.cached)

  begun_so : (end : Result (Unit {0}) Cut)
      → HasBeginEnded setup.shape c.args.page c.in_ok-block.register c.next_path-path.result.lines.items
      c.next_path-path.result.root old.engine new.engine old.device new.device old.ledger new.ledger end
      → HasBegunPage setup c.args.page old new (of_cut end)
  begun_so end was =
      begin_ended setup c.args.page old.engine new.engine old.device new.device old.ledger new.ledger old.tags old.digests new.tags
      new.digests c.next_path-path.result.lines.items c.next_path-path.result.root c.requires.usable
      (subst (λ (e : ChipState). e.shape.levels ≤ 6) c.self.view_is c.self.inside.geo.has_levels.1)
      (g.met.S.Suite.in_range c.args.suite.now) c.requires.page c.requires.cached c.requires.named c.requires.closed c.requires.major
      (subst (λ (e : ChipState). e.shape.persist ≤ e.shape.levels + 1) c.self.view_is c.self.inside.geo.has_persist)
      (subst IsBlock c.block.ensures.cached c.block.ensures.valid)
      (λ truth is.
      subst
      (λ line. IsRenewed setup.shape setup.formulas truth c.args.page line c.next_path-path.result.lines.items
      c.next_path-path.result.root)
      block_is
      (subst
      (λ (e : ChipState). AreCachedTrue e.cache truth → IsRenewed e.shape setup.formulas truth c.args.page c.pack-block.result
      c.next_path-path.result.lines.items c.next_path-path.result.root)
      c.self.view_is (c.next_path-path.ensures.on_truth truth) is))
      c.next_path-path.ensures.tags
      (c.next_path-path.ensures.digests
      ∙ ap (λ (e : ChipState). risen_times (path_length e.shape) (g.S.Suite.digests c.args.suite.now)) c.self.view_is)
      (g.met.B.Board.whole c.args.board.now) (g.met.B.Board.whole c.commit_begin.new.board) end
      (subst
      (λ r. HasBeginEnded setup.shape c.args.page r c.next_path-path.result.lines.items c.next_path-path.result.root
      old.engine new.engine old.device new.device old.ledger new.ledger end) register_is was)

pub returns-in_err-commit_begin-clause-begun : goal.returns-in_err-commit_begin-clause-begun
returns-in_err-commit_begin-clause-begun g c =
    let end : After-commit_begin g = (goal.at.returns-in_err-commit_begin-clause-begun g c).After-commit_begin in
    subst (HasBegunPage (setup g end) c.args.page (old g end) (new g end))
    (sym (is_err_of c.from_residual-in_err-commit_begin.result Fail.Cut c.from_residual-in_err-commit_begin.ensures.1))
    (begun_so g end (Err c.in_err-commit_begin.field-0.0) c.in_err-commit_begin.ensures.ended)

pub returns-clause-begun : goal.returns-clause-begun
returns-clause-begun g c =
    begun_so g (goal.at.returns-clause-begun g c).After-commit_begin (Ok tt) c.in_ok-commit_begin.ensures.ended

pub returns-clause-rolled : goal.returns-clause-rolled
returns-clause-rolled g c =
    let end : After-commit_begin g = (goal.at.returns-clause-rolled g c).After-commit_begin in
    rolled_block c.args.self.now.shape (setup g end).formulas (cached_line c.args.self.now.shape c.args.self.now.cache) c.args.page
    c.next_path-path.result.lines.items c.args.self.now c.commit_begin.new.self
    c.in_ok-commit_begin.ensures.ended.1.stored c.requires.major
    (subst
    (λ (e : ChipState). c.next_path-path.result.lines.items
    ≡ path_with e.shape (setup g end).formulas (cached_line e.shape e.cache) c.args.page c.pack-block.result)
    c.self.view_is c.next_path-path.ensures.lines
    ∙ ap (path_with c.args.self.now.shape (setup g end).formulas (cached_line c.args.self.now.shape c.args.self.now.cache) c.args.page)
    (block_is g end))

-- ---- the plan

module _ (g : Over) (c : After-commit_begin g) where
  abbrev was : Chip
  was = chip_with_at g.S.Suite g.A.Audit c.args.self.now c.args.suite.now c.args.audit.now

  abbrev made : ℕ
  made = risen_times (path_length c.args.self.now.shape) (g.S.Suite.digests c.args.suite.now)

  abbrev after : Chip
  after = chip_with c.commit_begin.new.self (new g c).ledger (g.S.Suite.tags c.args.suite.now) made

  lines_are : c.next_path-path.result.lines.items ≡ lines_over (setup g c) was c.args.page c.pack-block.result
  lines_are =
      subst
      (λ (e : ChipState). c.next_path-path.result.lines.items
      ≡ path_with e.shape (setup g c).formulas (cached_line e.shape e.cache) c.args.page c.pack-block.result)
      c.self.view_is c.next_path-path.ensures.lines

  root_is : c.next_path-path.result.root ≡ root_over (setup g c) was c.args.page c.pack-block.result
  root_is =
      subst
      (λ (e : ChipState). c.next_path-path.result.root
      ≡ root_with e.shape (setup g c).formulas (cached_line e.shape e.cache) c.args.page c.pack-block.result)
      c.self.view_is c.next_path-path.ensures.root

  after_is : after ≡ chip_with_at g.S.Suite g.A.Audit c.commit_begin.new.self c.next_path-path.new.suite c.commit_begin.new.audit
  after_is =
      sym (same_chip c.commit_begin.new.self (refl {a = (new g c).ledger}) c.next_path-path.ensures.tags
      (c.next_path-path.ensures.digests
      ∙ ap (λ (e : ChipState). risen_times (path_length e.shape) (g.S.Suite.digests c.args.suite.now)) c.self.view_is))

  its_end : (end : Result (Chip × Regs) (Chip × Cut))
      → Follows (commit_begin_plan c.args.self.now.shape c.args.page c.in_ok-block.register c.next_path-path.result.lines.items
      c.next_path-path.result.root (old g c).device.regs (with_path_digests c.args.self.now.shape was)) (old g c).device (new g c).device end
      → Follows (begin_page_plan (setup g c) c.args.page (old g c).device.regs was) (old g c).device (new g c).device
      (mapped_end (λ left. (left.0, fault_of_cut left.1)) (λ end. end) end)
  its_end =
      begin_end (setup g c) c.args.page (old g c).device.regs was c.in_ok-block.register c.pack-block.result c.next_path-path.result.lines.items
      c.next_path-path.result.root (register_is g c) (block_is g c) lines_are root_is

pub returns-in_err-commit_begin-clause-plan : goal.returns-in_err-commit_begin-clause-plan
returns-in_err-commit_begin-clause-plan g c =
    let end : After-commit_begin g = (goal.at.returns-in_err-commit_begin-clause-plan g c).After-commit_begin in
    ended_with_err (new g end).device.regs c.from_residual-in_err-commit_begin.result c.from_residual-in_err-commit_begin.ensures.1
    (subst (λ (chip : Chip). Follows (begin_page_plan (setup g end) c.args.page (old g end).device.regs (was g end)) (old g end).device
    (new g end).device (Err (chip, Fail.Cut))) (after_is g end)
    (its_end g end (Err (after g end, c.in_err-commit_begin.field-0.0))
    (c.in_err-commit_begin.ensures.plan (g.S.Suite.tags c.args.suite.now) (made g end))))

pub returns-clause-plan : goal.returns-clause-plan
returns-clause-plan g c =
    let end : After-commit_begin g = (goal.at.returns-clause-plan g c).After-commit_begin in
    subst (λ (chip : Chip). Follows (begin_page_plan (setup g end) c.args.page (old g end).device.regs (was g end)) (old g end).device
    (new g end).device (Ok (chip, (new g end).device.regs))) (after_is g end)
    (its_end g end (Ok (after g end, (new g end).device.regs))
    (c.in_ok-commit_begin.ensures.plan (g.S.Suite.tags c.args.suite.now) (made g end)))
