-- All writes of the port are drained.
use Rattle.std.proofs.Common.{arith, rules, inl, inr}
use Rattle.meta_path.proofs.NameLemmas.{on_err}
use Rattle.pmem_base.specs.declared.commands.Command.TheVariants as Do
use Rattle.pmem_replay.specs.Stepped.{CanWantMemory}
use Rattle.pmem_replay.proofs.Drains.FenceLaws.{fence_before, on_lit}
use Rattle.pmem_replay.proofs.world.World.fence.Goals as goal

pub returns-clause-stepped : goal.returns-clause-stepped
returns-clause-stepped g c =
    fence_before g.S.Suite.formulas_of c.args.self.now c.make_room.new.self c.drain_all.new.self c.args.port _ c.in_ok-make_room.ensures.ok
    (on_lit _ c.args.self.now c.holds.ensures (search (rules, c.is_on.ensures, c.if-not-is_on.false))) c.drain_all.result c.drain_all.ensures.stepped

pub returns-in_err-make_room-clause-wanting : goal.returns-in_err-make_room-clause-wanting
returns-in_err-make_room-clause-wanting g c =
    on_err _ (CanWantMemory c.args.self.now.state (Do.Fence c.args.port)) (
      on_lit _ c.args.self.now c.holds.ensures (search (rules, c.is_on.ensures, c.if-not-is_on.false)),
      omega (arith, c.in_err-make_room.ensures.some, c.waiting-count.ensures.value),
    )

pub returns-clause-kept : goal.returns-clause-kept
returns-clause-kept g c =
    elim c.drain_all.ensures.kept [
      | inl same ↦ inl same
      | inr some ↦ inr (
        on_lit _ c.args.self.now c.holds.ensures (search (rules, c.is_on.ensures, c.if-not-is_on.false)),
        omega (arith, some, c.waiting-count.ensures.value),
      )
    ]
