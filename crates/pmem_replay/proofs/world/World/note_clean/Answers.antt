-- Nothing is dirty.
use Rattle.std.proofs.Common.{◌≡◌, sym, ap, subst, ◌∙◌}
use Rattle.pmem_base.specs.Geo.{shape_of}
use Rattle.board.specs.MemBoard.{memory_of}
use Rattle.seal_ledger.specs.View.{capacity_of, ledger_of}
use Rattle.suite.specs.Setup.{Setup}
use Rattle.plain_model.specs.State.{PlainState}
use Rattle.plain_model.specs.After.{after_clean}
use Rattle.pmem_replay.specs.EngineCalls.{IsCleanIn}
use Rattle.pmem_replay.specs.Flagged.{with_dirtying}
use Rattle.pmem_replay.specs.World.{WorldParts, WorldState, IsWorld, state_in, world_of}
use Rattle.pmem_replay.proofs.Table.UnchangedSteps.{IsGoingOn}
use Rattle.pmem_replay.proofs.EngineCalls.NotedWorlds.{clean_noted}
use Rattle.pmem_replay.proofs.Steps.PartsOfWorld.{held, setup_in, going_in}
use Rattle.pmem_replay.proofs.world.World.note_clean.Given.{Over}
use Rattle.pmem_replay.proofs.world.World.note_clean.Goals.{After-clean}
use Rattle.pmem_replay.proofs.world.World.note_clean.Goals as goal

module _ (g : Over) (c : After-clean g) where
  abbrev p : WorldParts
  p =
      held (g.S.Suite.keys c.self.inside.suite) (memory_of c.self.inside.board) (ledger_of c.self.inside.ledger) (capacity_of c.self.inside.ledger) c.self.inside.engine
      (g.S.Suite.tags c.self.inside.suite) (g.S.Suite.digests c.self.inside.suite) c.self.inside.ports c.self.inside.tampered
      c.self.inside.dirtied c.self.inside.steps c.self.inside.start c.self.inside.shown

  abbrev setup : Setup
  setup = setup_in g.S.Suite.formulas_of (shape_of c.self.inside.geo) p

  going : IsGoingOn setup (world_of setup p)
  going = going_in g.S.Suite.formulas_of (shape_of c.self.inside.geo) p c.args.self.now c.self.view_is c.requires.shown c.self.invariant

  cleaned : with_dirtying (state_in setup p) c.clean.new.self ≡ after_clean setup.shape (state_in setup p)
  cleaned =
      c.clean.ensures setup.shape (state_in setup p) (record { touched = going.whole.flags.touched; flushed = going.whole.flags.flushed })

pub invariant_of-self : goal.invariant_of-self
invariant_of-self g c =
    let at = (goal.at.invariant_of-self g c).After-clean in
    (λ unshown.
    subst (λ (st : PlainState). IsWorld (setup g at) (record (world_of (setup g at) (p g at)) { state = st })) (sym (cleaned g at))
    (clean_noted (setup g at) (world_of (setup g at) (p g at)) (going g at).whole
    (subst (λ (w : WorldState). IsCleanIn w.shape w.engine) (sym c.self.view_is) c.requires.clean)))

pub returns : goal.returns
returns g c =
    let at = (goal.at.returns g c).After-clean in
    ap (λ (st : PlainState). record (world_of (setup g at) (p g at)) { state = st }) (cleaned g at)
    ∙ ap (λ (w : WorldState). record w { state = after_clean w.shape w.state }) c.self.view_is
