-- Power comes on: the device is recovered, refused or shown, or power is cut.
use Rattle.std.proofs.Common.{arith, rules, ◌≡◌, ap, subst, sym, ◌∙◌, inr}
use Rattle.std.specs.Prelude.{false}
use Rattle.pmem_base.specs.Geo.{shape_of}
use Rattle.pmem_base.specs.WaitingWrites.{queues_after_loss}
use Rattle.board.specs.MemBoard.{memory_of}
use Rattle.board.specs.Memory.{BoardMemory}
use Rattle.seal_ledger.specs.View.{capacity_of, ledger_of}
use Rattle.call_effects.specs.SuiteStates.{suite_state}
use Rattle.pmem_replay.specs.World.{WorldParts, WorldState, IsWorld, world_of}
use Rattle.watched_board.specs.Watching.{none_taken, device_during, IsWatched}
use Rattle.pmem_replay.specs.During.{WasRecovered}
use Rattle.access_log.specs.Traced.{traced_of}
use Rattle.access_log.proofs.TraceLemmas.{goes_on-between}
use Rattle.pmem_replay.proofs.Power.OnLaws.{lit}
use Rattle.pmem_replay.proofs.Power.RecoveryCalls.{RecoveryCall, none_there}
use Rattle.pmem_replay.proofs.Power.OnSteps.{on-recovered, on-cut, on-counter, on-root, on-twin, on-memory}
use Rattle.pmem_replay.proofs.Steps.PartsOfWorld.{held, setup_in, going_in}
use Rattle.pmem_replay.proofs.Table.UnchangedSteps.{dark_in}
use Rattle.pmem_replay.proofs.world.World.on.Given.{Over}
use Rattle.pmem_replay.proofs.world.World.on.Goals.{After-saturating_add-self-inside}
use Rattle.pmem_replay.proofs.world.World.on.Goals as goal

-- once recovery has answered
module _ (g : Over) (c : After-saturating_add-self-inside g) where
  abbrev p : WorldParts
  p =
      held (g.S.Suite.keys c.self.inside.suite) (memory_of c.self.inside.board) (ledger_of c.self.inside.ledger) (capacity_of c.self.inside.ledger) c.self.inside.engine
      (g.S.Suite.tags c.self.inside.suite) (g.S.Suite.digests c.self.inside.suite) c.self.inside.ports c.self.inside.tampered
      c.self.inside.dirtied c.self.inside.steps c.self.inside.start c.self.inside.shown

  lights : memory_of c.power.new.self ≡ lit p.board
  lights = c.power.ensures

  abbrev call : RecoveryCall
  call =
      record {
        formulas_of = g.S.Suite.formulas_of;
        geometry = shape_of c.self.inside.geo;
        now = c.args.self.now;
        parts = p;
        is = c.self.view_is;
        keys = g.S.Suite.keys c.recover-done.new.suite;
        board = memory_of c.recover-done.new.board;
        pads = g.S.Suite.pads c.self.inside.suite;
        pads_new = g.S.Suite.pads c.recover-done.new.suite;
        tags = g.S.Suite.tags c.recover-done.new.suite;
        digests = g.S.Suite.digests c.recover-done.new.suite;
        steps = c.saturating_add-self-inside.result;
        taken = c.recover-done.result.taken;
        said = c.steps-steps.result;
        served =
            record {
              going = going_in g.S.Suite.formulas_of (shape_of c.self.inside.geo) p c.args.self.now c.self.view_is c.requires c.self.invariant;
              was_off = none_there p.engine c.is_some.result c.is_some.ensures c.if-is_some.false;
              watched = subst (λ (b : BoardMemory). IsWatched b (memory_of c.recover-done.new.board) c.recover-done.result.taken) lights c.recover-done.ensures.watched;
              counted = omega (arith, c.saturating_add-self-inside.ensures, c.steps-steps.ensures);
            };
        counted = c.steps-steps.ensures;
        engine = c.recover-done.new.engine;
        outcome = c.recover-done.result.answer;
        was =
            subst (λ (b : BoardMemory). WasRecovered (setup_in g.S.Suite.formulas_of (shape_of c.self.inside.geo) p) p.ledger (device_during b none_taken)
            (device_during (memory_of c.recover-done.new.board) c.recover-done.result.taken)
            (suite_state p.keys (g.S.Suite.pads c.self.inside.suite) p.tags p.digests)
            (suite_state (g.S.Suite.keys c.recover-done.new.suite) (g.S.Suite.pads c.recover-done.new.suite)
            (g.S.Suite.tags c.recover-done.new.suite) (g.S.Suite.digests c.recover-done.new.suite))
            c.recover-done.new.engine c.recover-done.result.answer) lights c.recover-done.ensures.recovered;
      }

  dark : c.args.self.now.state.power ≡ false
  dark =
      let setup = setup_in g.S.Suite.formulas_of (shape_of c.self.inside.geo) p in
      subst (λ (w : WorldState). w.state.power ≡ false) c.self.view_is
      (dark_in setup (world_of setup p) call.served.going.whole call.served.was_off)

pub invariant_of-self-in-Err-Memory : goal.invariant_of-self-in-Err-Memory
invariant_of-self-in-Err-Memory g c =
    let place = (goal.at.invariant_of-self-in-Err-Memory g c).After-saturating_add-self-inside in
    subst (λ (q : WorldParts). q.shown ≡ false → IsWorld (setup_in g.S.Suite.formulas_of (shape_of c.self.inside.geo) q)
    (world_of (setup_in g.S.Suite.formulas_of (shape_of c.self.inside.geo) q) q))
    (sym (on-memory (call g place) (memory_of c.rest.new.self) (let h = c.in-Err-Memory.is in search rules) c.rest.ensures)) c.self.invariant

pub returns-in-Err-Memory-clause-err : goal.returns-in-Err-Memory-clause-err
returns-in-Err-Memory-clause-err g c =
    let place = (goal.at.returns-in-Err-Memory-clause-err g c).After-saturating_add-self-inside in
    ap (λ (q : WorldParts). world_of (setup_in g.S.Suite.formulas_of (shape_of c.self.inside.geo) q) q)
    (on-memory (call g place) (memory_of c.rest.new.self) (let h = c.in-Err-Memory.is in search rules) c.rest.ensures) ∙ c.self.view_is

pub invariant_of-self : goal.invariant_of-self
invariant_of-self g c =
    let place = (goal.at.invariant_of-self g c).After-saturating_add-self-inside in
    (on-recovered (call g place) c.in-Ok.work c.loosen.new.self c.clean.new.self c.in-Ok.is c.loosen.ensures c.clean.ensures
    c.is_number.ensures c.is_number-in-Ok.ensures).holds

pub returns-in-Ok-clause-stepped : goal.returns-in-Ok-clause-stepped
returns-in-Ok-clause-stepped g c =
    let place = (goal.at.returns-in-Ok-clause-stepped g c).After-saturating_add-self-inside in
    (on-recovered (call g place) c.in-Ok.work c.loosen.new.self c.clean.new.self c.in-Ok.is c.loosen.ensures c.clean.ensures
    c.is_number.ensures c.is_number-in-Ok.ensures).stepped

pub invariant_of-self-in-Err-Cut : goal.invariant_of-self-in-Err-Cut
invariant_of-self-in-Err-Cut g c =
    let place = (goal.at.invariant_of-self-in-Err-Cut g c).After-saturating_add-self-inside in
    (on-cut (call g place) c.loosen-in-Err-Cut.new.self c.lose_power.new.self (let h = c.in-Err-Cut.is in search rules)
    c.loosen-in-Err-Cut.ensures (c.lose_power.ensures ∙ ap (λ b. queues_after_loss b c.self.inside.ports) c.is_durable.ensures)).holds

pub returns-in-Err-Cut-clause-stepped : goal.returns-in-Err-Cut-clause-stepped
returns-in-Err-Cut-clause-stepped g c =
    let place = (goal.at.returns-in-Err-Cut-clause-stepped g c).After-saturating_add-self-inside in
    (on-cut (call g place) c.loosen-in-Err-Cut.new.self c.lose_power.new.self (let h = c.in-Err-Cut.is in search rules)
    c.loosen-in-Err-Cut.ensures (c.lose_power.ensures ∙ ap (λ b. queues_after_loss b c.self.inside.ports) c.is_durable.ensures)).stepped

pub invariant_of-self-in-Err-NoCounter : goal.invariant_of-self-in-Err-NoCounter
invariant_of-self-in-Err-NoCounter g c =
    let place = (goal.at.invariant_of-self-in-Err-NoCounter g c).After-saturating_add-self-inside in
    (on-counter (call g place) (memory_of c.rest-in-Err-NoCounter.new.self) c.in-Err-NoCounter.at (let h = c.in-Err-NoCounter.is in search rules)
    c.rest-in-Err-NoCounter.ensures).holds

pub returns-in-Err-NoCounter-clause-stepped : goal.returns-in-Err-NoCounter-clause-stepped
returns-in-Err-NoCounter-clause-stepped g c =
    let place = (goal.at.returns-in-Err-NoCounter-clause-stepped g c).After-saturating_add-self-inside in
    (on-counter (call g place) (memory_of c.rest-in-Err-NoCounter.new.self) c.in-Err-NoCounter.at (let h = c.in-Err-NoCounter.is in search rules)
    c.rest-in-Err-NoCounter.ensures).stepped

pub invariant_of-self-in-Err-Root : goal.invariant_of-self-in-Err-Root
invariant_of-self-in-Err-Root g c =
    let place = (goal.at.invariant_of-self-in-Err-Root g c).After-saturating_add-self-inside in
    (on-root (call g place) (memory_of c.rest-in-Err-Root.new.self) c.in-Err-Root.kept c.in-Err-Root.found
    (let h = c.in-Err-Root.is in search rules) c.rest-in-Err-Root.ensures c.is_tag.ensures c.is_tag-in-Err-Root.ensures).holds

pub returns-in-Err-Root-clause-stepped : goal.returns-in-Err-Root-clause-stepped
returns-in-Err-Root-clause-stepped g c =
    let place = (goal.at.returns-in-Err-Root-clause-stepped g c).After-saturating_add-self-inside in
    (on-root (call g place) (memory_of c.rest-in-Err-Root.new.self) c.in-Err-Root.kept c.in-Err-Root.found
    (let h = c.in-Err-Root.is in search rules) c.rest-in-Err-Root.ensures c.is_tag.ensures c.is_tag-in-Err-Root.ensures).stepped

pub returns-in-Err-Twin-clause-stepped : goal.returns-in-Err-Twin-clause-stepped
returns-in-Err-Twin-clause-stepped g c =
    let place = (goal.at.returns-in-Err-Twin-clause-stepped g c).After-saturating_add-self-inside in
    (on-twin (call g place) (memory_of c.rest-in-Err-Twin.new.self) c.in-Err-Twin.at c.in-Err-Twin.major c.in-Err-Twin.low c.in-Err-Twin.high
    c.in-Err-Twin.cipher c.in-Err-Twin.tag (let h = c.in-Err-Twin.is in search rules) c.rest-in-Err-Twin.ensures c.is_number-in-Err-Twin.ensures
    c.is_whole.ensures c.is_tag-in-Err-Twin.ensures).stepped

pub returns-in-Err-Memory-clause-wanting : goal.returns-in-Err-Memory-clause-wanting
returns-in-Err-Memory-clause-wanting g c = dark g (goal.at.returns-in-Err-Memory-clause-wanting g c).After-saturating_add-self-inside

pub returns-in-Err-NoCounter-clause-logged : goal.returns-in-Err-NoCounter-clause-logged
returns-in-Err-NoCounter-clause-logged g c =
    goes_on-between c.args.log.now c.recover-done.new.log c.args.self.now.board (memory_of c.power.new.self) (memory_of c.recover-done.new.board)
    (memory_of c.rest-in-Err-NoCounter.new.self)
    (ap traced_of c.power.ensures ∙ ap (λ (w : WorldState). traced_of w.board) c.self.view_is) (ap traced_of c.rest-in-Err-NoCounter.ensures)
    c.recover-done.ensures.logged

pub returns-in-Err-Root-clause-logged : goal.returns-in-Err-Root-clause-logged
returns-in-Err-Root-clause-logged g c =
    goes_on-between c.args.log.now c.recover-done.new.log c.args.self.now.board (memory_of c.power.new.self) (memory_of c.recover-done.new.board)
    (memory_of c.rest-in-Err-Root.new.self)
    (ap traced_of c.power.ensures ∙ ap (λ (w : WorldState). traced_of w.board) c.self.view_is) (ap traced_of c.rest-in-Err-Root.ensures)
    c.recover-done.ensures.logged

pub returns-in-Err-Twin-clause-logged : goal.returns-in-Err-Twin-clause-logged
returns-in-Err-Twin-clause-logged g c =
    goes_on-between c.args.log.now c.recover-done.new.log c.args.self.now.board (memory_of c.power.new.self) (memory_of c.recover-done.new.board)
    (memory_of c.rest-in-Err-Twin.new.self)
    (ap traced_of c.power.ensures ∙ ap (λ (w : WorldState). traced_of w.board) c.self.view_is) (ap traced_of c.rest-in-Err-Twin.ensures)
    c.recover-done.ensures.logged

pub returns-in-Ok-clause-kept : goal.returns-in-Ok-clause-kept
returns-in-Ok-clause-kept g c = inr (dark g (goal.at.returns-in-Ok-clause-kept g c).After-saturating_add-self-inside)

pub returns-in-Err-Memory-clause-kept : goal.returns-in-Err-Memory-clause-kept
returns-in-Err-Memory-clause-kept g c = inr (dark g (goal.at.returns-in-Err-Memory-clause-kept g c).After-saturating_add-self-inside)

pub returns-in-Err-Cut-clause-kept : goal.returns-in-Err-Cut-clause-kept
returns-in-Err-Cut-clause-kept g c = inr (dark g (goal.at.returns-in-Err-Cut-clause-kept g c).After-saturating_add-self-inside)

pub returns-in-Err-NoCounter-clause-kept : goal.returns-in-Err-NoCounter-clause-kept
returns-in-Err-NoCounter-clause-kept g c = inr (dark g (goal.at.returns-in-Err-NoCounter-clause-kept g c).After-saturating_add-self-inside)

pub returns-in-Err-Root-clause-kept : goal.returns-in-Err-Root-clause-kept
returns-in-Err-Root-clause-kept g c = inr (dark g (goal.at.returns-in-Err-Root-clause-kept g c).After-saturating_add-self-inside)

pub returns-in-Err-Twin-clause-kept : goal.returns-in-Err-Twin-clause-kept
returns-in-Err-Twin-clause-kept g c = inr (dark g (goal.at.returns-in-Err-Twin-clause-kept g c).After-saturating_add-self-inside)
