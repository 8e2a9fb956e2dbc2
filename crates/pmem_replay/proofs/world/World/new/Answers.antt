-- The first world.
use Rattle.std.proofs.Common.{false, length, ap, refl, sym, subst, ◌∙◌}
use Rattle.pmem_base.specs.Geo.{shape_of}
use Rattle.pmem_base.specs.Layout.{device_lines}
use Rattle.board.specs.MemBoard.{memory_of}
use Rattle.board.specs.Memory.{BoardMemory, device_of}
use Rattle.seal_ledger.specs.View.{capacity_of, ledger_of}
use Rattle.suite.specs.Setup.{Setup}
use Rattle.pmem_replay.specs.World.{WorldParts, IsWorld, world_of}
use Rattle.pmem_replay.specs.Stepped.{IsNewWorld}
use Rattle.pmem_replay.proofs.Power.NewWorlds.{IsJustMade, device_count, length-new, made_world, made_new}
use Rattle.pmem_replay.proofs.Steps.PartsOfWorld.{held, none_wait}
use Rattle.pmem_replay.proofs.world.World.new.Given.{Over}
use Rattle.pmem_replay.proofs.world.World.new.Goals.{After-new-2}
use Rattle.pmem_replay.proofs.world.World.new.Goals as goal

module _ (g : Over) (c : After-new-2 g) where
  abbrev q : WorldParts
  q =
      held (g.S.Suite.keys c.format.new.suite) (memory_of c.format.new.board) (ledger_of c.format.new.ledger) (capacity_of c.format.new.ledger) c.format.new.engine
      (g.S.Suite.tags c.format.new.suite) (g.S.Suite.digests c.format.new.suite) c.new-2.result c.in_ok-blank.blank.tampered
      c.in_ok-blank.blank.dirtied 0 c.counts_of-start.result false

  abbrev setup : Setup
  setup = record { shape = shape_of c.args.geo; formulas = g.S.Suite.formulas_of (g.S.Suite.keys c.args.suite) }

  made : IsJustMade setup q (device_of (memory_of c.in_ok-blank.blank.board))
  made =
      record {
        shape = c.layout_is_one_to_one.ensures.ranges;
        formulas = g.met.S.Suite.in_range c.args.suite;
        blank = ap device_of c.in_ok-blank.ensures.board;
        formatted = c.in_ok-format.ensures.formatted;
        count = device_count setup q (device_of (memory_of c.in_ok-blank.blank.board)) c.in_ok-format.ensures.formatted
            ∙ (ap (λ (m : BoardMemory). length m.lines) c.in_ok-blank.ensures.board ∙ length-new (device_lines (shape_of c.args.geo)) (device_lines (shape_of c.args.geo)) refl);
        each_line = c.format.ensures.each_line;
        no_snapshot = c.format.ensures.none;
        queues = none_wait c.new-2.result c.new-2.ensures;
        tampering = c.in_ok-blank.ensures.tampered;
        dirtying = c.in_ok-blank.ensures.dirtied;
        steps = refl;
        start = c.counts_of-start.ensures;
        shown = refl;
      }

pub invariant_of-result : goal.invariant_of-result
invariant_of-result g c =
    let place = (goal.at.invariant_of-result g c).After-new-2 in
    λ unshown. subst (λ k. IsWorld (record { shape = shape_of c.args.geo; formulas = g.S.Suite.formulas_of k })
    (world_of (record { shape = shape_of c.args.geo; formulas = g.S.Suite.formulas_of k }) (q g place)))
    (sym c.format.ensures.keys) (made_world (setup g place) (q g place) (device_of (memory_of c.in_ok-blank.blank.board)) (made g place))

pub returns-clause-new : goal.returns-clause-new
returns-clause-new g c =
    let place = (goal.at.returns-clause-new g c).After-new-2 in
    subst (λ k. IsNewWorld (setup g place) (world_of (record { shape = shape_of c.args.geo; formulas = g.S.Suite.formulas_of k }) (q g place)))
    (sym c.format.ensures.keys) (made_new (setup g place) (q g place) (device_of (memory_of c.in_ok-blank.blank.board)) (made g place))

pub returns-clause-work : goal.returns-clause-work
returns-clause-work g c =
    let made = c.in_ok-format.ensures.work in
    record { tags = made.its_tags; digests = made.its_digests }
