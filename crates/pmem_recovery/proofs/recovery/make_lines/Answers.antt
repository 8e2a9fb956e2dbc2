use Rattle.std.proofs.Common.{◌≤◌, ◌+◌, List, ◌∙◌, arith}
use Rattle.pmem_base.specs.declared.lines.Line.{Line}
use Rattle.pmem_base.specs.declared.geometry.Geo.{Geo}
use Rattle.pmem_base.specs.Geo.{shape_of}
use Rattle.pmem_base.specs.Layout.{level_start}
use Rattle.plain_model.specs.Bounds.{most_blocks, most_nodes}
use Rattle.pmem_recovery.specs.Named.{count_doubted}
use Rattle.pmem_recovery.proofs.PartLaws.{IsShape-geo}
use Rattle.pmem_recovery.proofs.NamedLaws.{count_doubted-nodes, most_blocks-small, most_nodes-small}
use Rattle.call_plan.proofs.Keeping.{follows_size}
use Rattle.pmem_recovery.proofs.RecoveryPlans.{made_err, making_unread, making_undecided, making_cut, making_refused, making_done}
use Rattle.pmem_recovery.proofs.recovery.make_lines.Goals as goal

few_nodes : (geo : Geo) (shadow : List Line) → count_doubted (shape_of geo) shadow 0 (level_start (shape_of geo).levels) ≤ most_nodes (shape_of geo)
few_nodes geo shadow = count_doubted-nodes (shape_of geo) shadow (IsShape-geo geo)

-- reads leave the size as it is
pub fix_counters-requires-clause-size : goal.fix_counters-requires-clause-size
fix_counters-requires-clause-size g c = follows_size c.read_shadow.ensures.plan ∙ c.requires.size

pub fix_nodes-requires-clause-size : goal.fix_nodes-requires-clause-size
fix_nodes-requires-clause-size g c =
    follows_size c.fix_counters.ensures.plan ∙ follows_size c.read_shadow.ensures.plan ∙ c.requires.size

pub check_root-requires-clause-size : goal.check_root-requires-clause-size
check_root-requires-clause-size g c =
    follows_size c.fix_nodes.ensures.plan ∙ follows_size c.fix_counters.ensures.plan ∙ follows_size c.read_shadow.ensures.plan ∙ c.requires.size

-- the lines made are few
few_lines : (geo : Geo) → most_blocks (shape_of geo) + most_nodes (shape_of geo) ≤ 65535
few_lines geo = omega (arith, most_blocks-small (shape_of geo) (IsShape-geo geo), most_nodes-small (shape_of geo) (IsShape-geo geo))

pub fix_counters-requires-clause-room : goal.fix_counters-requires-clause-room
fix_counters-requires-clause-room g c = omega (arith, c.requires.made_room)

pub fix_counters-requires-clause-few : goal.fix_counters-requires-clause-few
fix_counters-requires-clause-few g c = omega (arith, c.requires.made_room, few_lines c.args.geo.now)

pub fix_nodes-requires-clause-few : goal.fix_nodes-requires-clause-few
fix_nodes-requires-clause-few g c = omega (arith, c.fix_counters.ensures.capacity, c.requires.made_room, few_lines c.args.geo.now)

pub fix_nodes-requires-clause-positions : goal.fix_nodes-requires-clause-positions
fix_nodes-requires-clause-positions g c = c.fix_counters.ensures.positions ∙ c.requires.positions

pub check_root-requires-clause-positions : goal.check_root-requires-clause-positions
check_root-requires-clause-positions g c = c.fix_nodes.ensures.positions ∙ c.fix_counters.ensures.positions ∙ c.requires.positions

pub fix_nodes-requires-clause-room : goal.fix_nodes-requires-clause-room
fix_nodes-requires-clause-room g c =
    let few = few_nodes c.args.geo.now c.deref-2.result.now in
    omega (arith, few, c.in_ok-trials.ensures.few_made, c.requires.made_room, c.fix_counters.ensures.capacity)

-- ---- the plan, by the shadow lines as read, from no line made, and under the keys as they were first

pub returns-in_err-read_shadow-clause-plan : goal.returns-in_err-read_shadow-clause-plan
returns-in_err-read_shadow-clause-plan g c =
    made_err c.from_residual.result c.read_shadow.new.shadow.items c.args.room.now.made.entries c.from_residual.ensures.1
    (making_unread _ _ _ _ c.in_err-read_shadow.ensures.plan)

pub returns-in_err-trials-clause-plan : goal.returns-in_err-trials-clause-plan
returns-in_err-trials-clause-plan g c =
    made_err c.from_residual-in_err-trials.result c.read_shadow.new.shadow.items c.fix_counters.new.made.entries c.from_residual-in_err-trials.ensures.1
    (making_undecided _ _ _ _ c.in_ok-read_shadow.ensures.plan _ _ (rw (c.deref.ensures.value, c.requires.made) at c.in_err-trials.ensures.plan))

pub returns-in_err-digests-clause-plan : goal.returns-in_err-digests-clause-plan
returns-in_err-digests-clause-plan g c =
    made_err c.from_residual-in_err-digests.result c.read_shadow.new.shadow.items c.fix_nodes.new.made.entries c.from_residual-in_err-digests.ensures.1
    (making_cut _ _ _ _ c.in_ok-read_shadow.ensures.plan _ _ (rw (c.deref.ensures.value, c.requires.made) at c.in_ok-trials.ensures.plan) _
    (rw (c.deref-2.ensures.value, c.fix_counters.ensures.keys) at c.in_err-digests.ensures.plan))

pub returns-in_err-check_root-clause-plan : goal.returns-in_err-check_root-clause-plan
returns-in_err-check_root-clause-plan g c =
    made_err c.from_residual-in_err-check_root.result c.read_shadow.new.shadow.items c.fix_nodes.new.made.entries c.from_residual-in_err-check_root.ensures.1
    (making_refused _ _ _ _ c.in_ok-read_shadow.ensures.plan _ _ (rw (c.deref.ensures.value, c.requires.made) at c.in_ok-trials.ensures.plan) _ _
    (rw (c.deref-2.ensures.value, c.fix_counters.ensures.keys) at c.in_ok-digests.ensures.plan) _ _
    (rw (c.fix_nodes.ensures.keys, c.fix_counters.ensures.keys) at c.in_err-check_root.ensures.plan))

pub returns-clause-plan : goal.returns-clause-plan
returns-clause-plan g c =
    making_done _ _ _ _ c.in_ok-read_shadow.ensures.plan _ _ (rw (c.deref.ensures.value, c.requires.made) at c.in_ok-trials.ensures.plan) _ _
    (rw (c.deref-2.ensures.value, c.fix_counters.ensures.keys) at c.in_ok-digests.ensures.plan) _
    (rw (c.fix_nodes.ensures.keys, c.fix_counters.ensures.keys) at c.in_ok-check_root.ensures.plan)
