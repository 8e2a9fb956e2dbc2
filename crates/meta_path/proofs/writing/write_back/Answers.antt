-- The block was written and is clean, or a cut came before.
use Rattle.std.proofs.Common.{Ok, sym, ap, subst, ◌∙◌}
use Rattle.pmem_base.specs.Layout.{meta_line}
use Rattle.board.specs.Device.{Device}
use Rattle.meta_cache.specs.State.{CacheState}
use Rattle.call_plan.specs.Following.{Follows}
use Rattle.call_plan.proofs.Steps.{ended_err}
use Rattle.meta_path.specs.Plans.{write_back_plan}
use Rattle.meta_path.proofs.WritePlans.{block_written, block_cut}
use Rattle.meta_path.proofs.writing.write_back.Goals as goal

pub returns-in_err-write_line-clause-plan : goal.returns-in_err-write_line-clause-plan
returns-in_err-write_line-clause-plan g c =
    ended_err c.from_residual.result c.from_residual.ensures.1 (block_cut _ _ _ (g.B.Board.device _) (g.B.Board.device c.write_line.new.self)
    c.in_err-write_line.ensures.cut)

pub returns-clause-plan : goal.returns-clause-plan
returns-clause-plan g c =
    let before : Device = g.B.Board.device _ in
    let after : Device = g.B.Board.device c.write_line.new.self in
    subst (λ (now : CacheState). Follows (write_back_plan c.args.cache.now c.args.bank c.args.x) before after (Ok (now, tt)))
    (sym c.set_clean.ensures.exact) (block_written _ _ _ before after c.meta_line.result c.cached_line.result.now
    (c.meta_line.ensures.value ∙ ap (λ shape. meta_line shape c.args.x) (sym c.requires.shape)) c.cached_line.ensures c.in_ok-write_line.ensures.ok)
