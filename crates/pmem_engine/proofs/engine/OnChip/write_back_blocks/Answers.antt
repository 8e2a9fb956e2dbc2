-- One block more was written back.
use Rattle.std.proofs.Common.{◌≡◌, ◌≤◌, refl, sym, subst, arith}
use Rattle.pmem_base.specs.Shape.{Shape}
use Rattle.pmem_base.specs.Geo.{shape_of}
use Rattle.meta_cache.specs.Banks.{set_of}
use Rattle.meta_cache.specs.Sets.{IsSetOf}
use Rattle.meta_path.specs.Blocks.{bank_dirty_count}
use Rattle.meta_path.proofs.PathFacts.{AreSets}
use Rattle.pmem_engine.specs.Engine.{ChipState}
use Rattle.pmem_engine.proofs.BlockWrites.DirtyCounts.{dirty_in_bank-few}
use Rattle.pmem_engine.proofs.BlockWrites.LossBlocks.{blocks_none, blocks_more}
use Rattle.call_plan.proofs.Steps.{ended_err}
use Rattle.call_plan.proofs.Loops.{reached_start}
use Rattle.pmem_engine.proofs.PlannedCalls.LossPlans.{blocks_left, block_more, block_stopped, blocks_over, blocks_written, blocks_cut}
use Rattle.pmem_engine.proofs.engine.OnChip.write_back_blocks.Goals as goal

pub blocks-2-init : goal.blocks-2-init
blocks-2-init g c =
    let shape : Shape = shape_of c.self.inside.geo in
    let sets : AreSets shape c.self.inside.cache.banks =
    record {
      each =
          λ bank set.
          subst (λ (s : Shape). IsSetOf s set (set_of c.self.inside.cache.banks bank set)) c.self.invariant.0
          (c.are_banks.ensures.cache.each_set bank set);
    } in
    record {
      written = blocks_none c.args.self.now (g.B.Board.device c.args.board.now);
      reached = reached_start (blocks_left c.args.self.now) (g.B.Board.device c.args.board.now);
      few =
          subst (λ (e : ChipState). bank_dirty_count e.shape e.cache e.shape.levels ≤ 512) c.self.view_is
          (dirty_in_bank-few shape c.self.inside.cache.banks shape.levels sets c.self.inside.geo.has_sets.1 c.self.inside.geo.has_ways.1);
    }

pub blocks-2-preserved : goal.blocks-2-preserved
blocks-2-preserved g c =
    record {
      written =
          blocks_more c.blocks-2.written c.in-Some.x c.args.self.now c.blocks-2.self c.write_back_block.new.self
          (g.B.Board.device c.args.board.now) (g.B.Board.device c.blocks-2.board) (g.B.Board.device c.write_back_block.new.board)
          c.requires.size (g.met.B.Board.whole c.blocks-2.board) c.blocks-2.invariant.written c.in_ok-write_back_block.ensures.ok
          c.in_ok-write_back_block.ensures.fewer;
      reached =
          block_more c.blocks-2.self c.blocks-2.invariant.reached c.in-Some.x c.write_back_block.new.self
          c.in_ok-write_back_block.ensures.ok.cleaned.cache.shape c.in_ok-write_back_block.ensures.order c.in_ok-write_back_block.ensures.plan;
      few = c.blocks-2.invariant.few;
    }

pub returns-in_err-write_back_block-clause-plan : goal.returns-in_err-write_back_block-clause-plan
returns-in_err-write_back_block-clause-plan g c =
    ended_err c.from_residual.result c.from_residual.ensures.1
    (blocks_cut c.args.self.now
    (block_stopped c.blocks-2.self c.blocks-2.invariant.reached c.in-Some.x (sym c.in-Some.ensures.oldest) c.in_err-write_back_block.ensures.plan))

pub returns-clause-plan : goal.returns-clause-plan
returns-clause-plan g c =
    let all = c.blocks-2.invariant.written.dirty in
    let shape = c.blocks-2.invariant.written.shape in
    let none : bank_dirty_count c.args.self.now.shape c.blocks-2.self.cache c.args.self.now.shape.levels ≡ 0 =
    subst (λ (s : Shape). bank_dirty_count s c.blocks-2.self.cache s.levels ≡ 0) shape (c.in_default.ensures.none refl) in
    blocks_written c.args.self.now c.blocks-2.self c.blocks-2.written (omega (arith, all, none))
    (blocks_over c.blocks-2.self c.blocks-2.invariant.reached (sym c.in_default.ensures.oldest))
