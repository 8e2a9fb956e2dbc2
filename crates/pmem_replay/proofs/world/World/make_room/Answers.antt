-- Room for marks is made.
use Rattle.std.proofs.Common.{ℕ, ◌+◌, ◌<◌, ◌≤◌, arith, sym, subst}
use Rattle.pmem_base.specs.Geo.{shape_of}
use Rattle.board.specs.MemBoard.{memory_of}
use Rattle.seal_ledger.specs.Ledger.{LedgerState}
use Rattle.seal_ledger.specs.Notes.{HasRoom}
use Rattle.seal_ledger.specs.View.{capacity_of, ledger_of}
use Rattle.meta_path.proofs.NameLemmas.{on_err}
use Rattle.suite.specs.Setup.{Setup}
use Rattle.pmem_replay.specs.World.{WorldParts, WorldState, IsWorld, setup_of_world, world_of}
use Rattle.pmem_replay.specs.Given.{HasMarkRoom}
use Rattle.pmem_replay.proofs.Steps.ReservedRoom.{roomy_world, room_made}
use Rattle.pmem_replay.proofs.Steps.PartsOfWorld.{held, setup_in, going_in}
use Rattle.pmem_replay.proofs.world.World.make_room.Goals as goal

pub invariant_of-self-2 : goal.invariant_of-self-2
invariant_of-self-2 g c =
    let formulas_of = g.S.Suite.formulas_of in
    let inside = c.self.inside in
    let geo = shape_of inside.geo in
    let p : WorldParts =
    held (g.S.Suite.keys inside.suite) (memory_of inside.board) (ledger_of inside.ledger) (capacity_of inside.ledger) inside.engine (g.S.Suite.tags inside.suite)
    (g.S.Suite.digests inside.suite) inside.ports inside.tampered inside.dirtied inside.steps inside.start inside.shown in
    let setup : Setup = setup_in formulas_of geo p in
    let going = going_in formulas_of geo p c.args.self.now c.self.view_is c.requires c.self.invariant in
    λ unshown.
    subst (λ (l : LedgerState). IsWorld setup (world_of setup (record p { ledger = l; capacity = capacity_of c.reserve.new.self }))) (sym c.reserve.ensures.ledger)
    (roomy_world setup (world_of setup p) (capacity_of c.reserve.new.self) going.whole)

pub returns-clause-ok : goal.returns-clause-ok
returns-clause-ok g c =
    let formulas_of = g.S.Suite.formulas_of in
    let inside = c.self.inside in
    let geo = shape_of inside.geo in
    let p : WorldParts =
    held (g.S.Suite.keys inside.suite) (memory_of inside.board) (ledger_of inside.ledger) (capacity_of inside.ledger) inside.engine (g.S.Suite.tags inside.suite)
    (g.S.Suite.digests inside.suite) inside.ports inside.tampered inside.dirtied inside.steps inside.start inside.shown in
    let setup : Setup = setup_in formulas_of geo p in
    let capacity = capacity_of c.reserve.new.self in
    let going = going_in formulas_of geo p c.args.self.now c.self.view_is c.requires c.self.invariant in
    let room = subst (λ (l : LedgerState). HasRoom l capacity c.args.more) c.reserve.ensures.ledger c.in_ok-reserve.ensures.ok in
    subst (λ (w : WorldState). HasMarkRoom (setup_of_world formulas_of w) w c.args.more (world_of setup (record p { ledger = ledger_of c.reserve.new.self; capacity = capacity }))) c.self.view_is
    (subst (λ (l : LedgerState). HasMarkRoom setup (world_of setup p) c.args.more (world_of setup (record p { ledger = l; capacity = capacity }))) (sym c.reserve.ensures.ledger)
    (room_made setup p capacity c.args.more c.reserve.ensures.never_falls room going))

-- where there is no room for so many, they are some
some_more : (marks capacity more : ℕ) → marks ≤ capacity → (marks + more ≤ capacity → ⊥) → 0 < more
some_more marks capacity more within wanting = omega (arith, within, wanting)

pub returns-in_err-reserve-clause-wanting : goal.returns-in_err-reserve-clause-wanting
returns-in_err-reserve-clause-wanting g c =
    on_err _ (HasRoom c.args.self.now.ledger c.args.self.now.capacity c.args.more → ⊥)
    (subst (λ (w : WorldState). HasRoom w.ledger w.capacity c.args.more → ⊥) c.self.view_is c.in_err-reserve.ensures.wanting)

pub returns-in_err-reserve-clause-some : goal.returns-in_err-reserve-clause-some
returns-in_err-reserve-clause-some g c =
    let marks = c.self.inside.ledger.marks in
    on_err _ (0 < c.args.more) (some_more marks.len marks.cap c.args.more marks.ok.1
    (subst (λ (n : ℕ). n + c.args.more ≤ marks.cap → ⊥) (sym marks.ok.0) c.in_err-reserve.ensures.wanting))
