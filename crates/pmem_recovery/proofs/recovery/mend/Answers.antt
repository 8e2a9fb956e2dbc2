use Rattle.std.proofs.Common.{◌≡◌, ◌<◌, All, length, ap, ◌∙◌}
use Rattle.pmem_base.specs.Geo.{shape_of}
use Rattle.pmem_base.specs.Layout.{shadow_lines, meta_lines, device_lines}
use Rattle.call_effects.specs.SuiteStates.{setup_with}
use Rattle.call_plan.proofs.Keeping.{follows_size}
use Rattle.call_plan.proofs.Steps.{ended_err}
use Rattle.pmem_recovery.specs.Plans.{MadeLines, counts_at}
use Rattle.pmem_recovery.proofs.PartLaws.{IsShape-geo}
use Rattle.pmem_recovery.proofs.MendEnds.{all_told, made_ready}
use Rattle.pmem_recovery.proofs.RecoveryPlans.{mend_refused, mend_unwritten, mend_uncleared, mend_done}
use Rattle.pmem_recovery.proofs.recovery.mend.Given.{Over}
use Rattle.pmem_recovery.proofs.recovery.mend.Goals.{In_ok-work}
use Rattle.pmem_recovery.proofs.recovery.mend.Goals as goal

-- all was made
module _ (g : Over) (c : In_ok-work g) where
  abbrev its_made : MadeLines
  its_made = record { shadow = c.make_lines.new.room.shadow.items; made = c.make_lines.new.room.made.entries; work = c.in_ok-work.work }

  ready : All (λ entry. entry.at < meta_lines (shape_of c.args.geo.now)) its_made.made × (length its_made.shadow ≡ shadow_lines (shape_of c.args.geo.now))
  ready =
      made_ready (setup_with g.S.Suite c.args.geo.now c.args.suite.now) (g.B.Board.device c.args.board.now).regs (counts_at g.S.Suite c.args.suite.now)
      (IsShape-geo c.args.geo.now) c.requires.loss (g.B.Board.device c.args.board.now)
      (all_told (g.B.Board.device c.args.board.now) (device_lines (shape_of c.args.geo.now)) (g.met.B.Board.whole c.args.board.now) c.requires.size)
      (rw (c.same-regs.ensures, c.regs.ensures) at c.in_ok-work.ensures.plan)

-- the size stays
pub write_made-requires-clause-size : goal.write_made-requires-clause-size
write_made-requires-clause-size g c = follows_size c.make_lines.ensures.plan ∙ c.requires.size

pub clear_shadow-requires-clause-size : goal.clear_shadow-requires-clause-size
clear_shadow-requires-clause-size g c = follows_size c.write_made.ensures.plan ∙ follows_size c.make_lines.ensures.plan ∙ c.requires.size

pub write_made-requires-clause-on_tree : goal.write_made-requires-clause-on_tree
write_made-requires-clause-on_tree g c =
    rw c.entries.ensures (ready g (goal.at.write_made-requires-clause-on_tree g c).In_ok-work).0

pub clear_shadow-requires-clause-shadow : goal.clear_shadow-requires-clause-shadow
clear_shadow-requires-clause-shadow g c =
    ap length c.deref.ensures.value ∙ (ready g (goal.at.clear_shadow-requires-clause-shadow g c).In_ok-work).1

-- ---- the plan, by the registers of the board

pub returns-in_err-work-clause-plan : goal.returns-in_err-work-clause-plan
returns-in_err-work-clause-plan g c =
    ended_err c.from_residual.result c.from_residual.ensures.1
    (mend_refused _ _ _ _ (rw (c.same-regs.ensures, c.regs.ensures) at c.in_err-work.ensures.plan))

pub returns-in_err-write_made-clause-plan : goal.returns-in_err-write_made-clause-plan
returns-in_err-write_made-clause-plan g c =
    ended_err c.from_residual-in_err-write_made.result c.from_residual-in_err-write_made.ensures.1
    (mend_unwritten _ _ _ _ _ (rw (c.same-regs.ensures, c.regs.ensures) at c.in_ok-work.ensures.plan)
    (rw c.entries.ensures at c.in_err-write_made.ensures.plan))

pub returns-in_err-clear_shadow-clause-plan : goal.returns-in_err-clear_shadow-clause-plan
returns-in_err-clear_shadow-clause-plan g c =
    ended_err c.from_residual-in_err-clear_shadow.result c.from_residual-in_err-clear_shadow.ensures.1
    (mend_uncleared _ _ _ _ _ (rw (c.same-regs.ensures, c.regs.ensures) at c.in_ok-work.ensures.plan)
    (rw c.entries.ensures at c.in_ok-write_made.ensures.plan) (rw c.deref.ensures.value at c.in_err-clear_shadow.ensures.plan))

pub returns-clause-plan : goal.returns-clause-plan
returns-clause-plan g c =
    mend_done _ _ _ _ _ (rw (c.same-regs.ensures, c.regs.ensures) at c.in_ok-work.ensures.plan)
    (rw c.entries.ensures at c.in_ok-write_made.ensures.plan) (rw c.deref.ensures.value at c.in_ok-clear_shadow.ensures.plan)
