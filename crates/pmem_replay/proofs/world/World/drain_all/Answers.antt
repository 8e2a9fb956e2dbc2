-- Writes are drained until none waits, or one ends it.
use Rattle.std.proofs.Common.{arith, refl, inl, inr}
use Rattle.pmem_replay.proofs.Drains.GivenWrites.{ends_with}
use Rattle.pmem_replay.proofs.Drains.FenceLaws.{fence_starts, still_waits, fence_next, fence_ended, fence_done}
use Rattle.pmem_replay.proofs.world.World.drain_all.Goals as goal

pub writes-init : goal.writes-init
writes-init g c = (
  fence_starts g.S.Suite.formulas_of c.args.self.now c.args.port c.args.count c.holds.ensures c.requires.shown c.requires.on c.requires.room,
  λ first leads. leads,
  inl refl,
)

pub give-requires-clause-some : goal.give-requires-clause-some
give-requires-clause-some g c =
    let waits = still_waits g.S.Suite.formulas_of c.args.self.now c.writes.self c.writes.self c.args.port c.args.count c.writes.done c.writes.steps
    c.requires.port c.holds.ensures c.requires.count c.requires.most c.writes.invariant.0 in
    omega (arith, waits, c.writes-test.true)

pub ended-requires : goal.ended-requires
ended-requires g c =
    let it = ends_with _ c.writes.self c.give.new.self c.args.port c.give.result c.give.ensures.given c.in_default.not-Drained in
    record { small = omega (arith, c.writes.invariant.0.fencing.few, c.writes.invariant.0.fencing.small); few = it.0; ends = it.1 }

pub overflow_add-steps : goal.overflow_add-steps
overflow_add-steps g c =
    let next = fence_next g.S.Suite.formulas_of c.args.self.now c.writes.self c.give.new.self c.args.port c.args.count c.writes.done c.writes.steps
    c.requires.port c.holds.ensures c.requires.count c.requires.most c.writes.invariant.0 c.in-Drained.steps c.in-Drained.ensures.given c.writes-test.true in
    omega (arith, next.fencing.few, next.fencing.small)

pub returns-in_default-clause-stepped : goal.returns-in_default-clause-stepped
returns-in_default-clause-stepped g c =
    fence_ended g.S.Suite.formulas_of c.args.self.now c.writes.self c.give.new.self c.args.port c.args.count c.writes.done c.writes.steps
    c.requires.port c.holds.ensures c.requires.count c.requires.most c.writes.invariant.0 c.give.result c.ended.result c.give.ensures.given c.ended.ensures

pub writes-preserved : goal.writes-preserved
writes-preserved g c = (
  fence_next g.S.Suite.formulas_of c.args.self.now c.writes.self c.give.new.self c.args.port c.args.count c.writes.done c.writes.steps
      c.requires.port c.holds.ensures c.requires.count c.requires.most c.writes.invariant.0 c.in-Drained.steps c.in-Drained.ensures.given c.writes-test.true,
  λ first leads. c.give.ensures.logged first (c.writes.invariant.1 first leads),
  inr (omega (arith, c.writes-test.true)),
)

pub returns-clause-stepped : goal.returns-clause-stepped
returns-clause-stepped g c =
    fence_done g.S.Suite.formulas_of c.args.self.now c.writes.self c.args.port c.args.count c.writes.done c.writes.steps c.requires.port
    c.holds.ensures c.requires.count c.requires.most c.writes.invariant.0 (omega (arith, c.writes-test.false))

pub returns-in_default-clause-kept : goal.returns-in_default-clause-kept
returns-in_default-clause-kept g c = inr (omega (arith, c.writes-test.true))

pub returns-clause-kept : goal.returns-clause-kept
returns-clause-kept g c = c.writes.invariant.2
