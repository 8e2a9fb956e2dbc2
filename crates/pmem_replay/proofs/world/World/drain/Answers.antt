-- The port's oldest write is drained.
use Rattle.std.proofs.Common.{arith, rules, inr}
use Rattle.meta_path.proofs.NameLemmas.{on_err}
use Rattle.pmem_base.specs.declared.commands.Command.TheVariants as Do
use Rattle.pmem_replay.specs.Stepped.{CanWantMemory}
use Rattle.pmem_replay.proofs.Drains.DrainSteps.{drained_as}
use Rattle.pmem_replay.proofs.Drains.FenceLaws.{on_lit}
use Rattle.pmem_replay.proofs.world.World.drain.Goals as goal

pub returns-clause-stepped : goal.returns-clause-stepped
returns-clause-stepped g c =
    drained_as g.S.Suite.formulas_of c.args.self.now c.make_room.new.self c.give.new.self c.args.port c.requires.port c.requires.shown
    c.holds.ensures c.in_ok-make_room.ensures.ok c.give.result c.give.ensures.given

pub returns-in_err-make_room-clause-wanting : goal.returns-in_err-make_room-clause-wanting
returns-in_err-make_room-clause-wanting g c =
    on_err _ (CanWantMemory c.args.self.now.state (Do.Drain c.args.port)) (
      on_lit _ c.args.self.now c.holds.ensures (search (rules, c.is_on.ensures, c.if-not-is_on.false)),
      omega (arith, c.waiting.ensures.value),
    )

pub returns-clause-kept : goal.returns-clause-kept
returns-clause-kept g c = inr (
  on_lit _ c.args.self.now c.holds.ensures (search (rules, c.is_on.ensures, c.if-not-is_on.false)),
  omega (arith, c.waiting.ensures.value),
)
