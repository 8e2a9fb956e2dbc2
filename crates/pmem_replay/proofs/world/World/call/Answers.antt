-- A call of the engine was made over the world's parts: it went on, or was cut or shown.
use Rattle.std.proofs.Common.{ℕ, ◌≡◌, ◌<◌, ◌≤◌, arith, sym, ap, subst, ◌∙◌}
use Rattle.std.specs.Prelude.{List, Option, Some, true, IfSome, drop, length, false}
use Rattle.pmem_base.specs.declared.commands.Posted.{Posted}
use Rattle.pmem_base.specs.Geo.{shape_of}
use Rattle.pmem_base.specs.Layout as layout
use Rattle.pmem_base.specs.Shape.{Shape}
use Rattle.board.specs.MemBoard.{memory_of}
use Rattle.seal_ledger.specs.View.{capacity_of, ledger_of}
use Rattle.suite.specs.Setup.{Setup}
use Rattle.plain_model.specs.State.{PlainState}
use Rattle.plain_model.specs.After.{after_marks}
use Rattle.pmem_engine.specs.Engine.{EngineState}
use Rattle.pmem_engine.specs.Parts.{parts_of}
use Rattle.watched_board.specs.Watching.{none_taken, device_during}
use Rattle.pmem_replay.specs.During.{parts_in}
use Rattle.pmem_replay.specs.EngineCalls.{written_line, IsLawfulCall, HasCalledEngine}
use Rattle.pmem_replay.specs.Flagged.{Tampering, Dirtying, with_dirtying, healed}
use Rattle.pmem_replay.specs.World.{WorldParts, WorldState, IsWorld, world_of}
use Rattle.pmem_replay.proofs.Steps.PartsOfWorld.{held, setup_in, going_in, shape_in, moved}
use Rattle.pmem_replay.proofs.Steps.WorldsAfterCalls.{on_in}
use Rattle.pmem_replay.proofs.Steps.CallSurroundings.{called, IsServed}
use Rattle.pmem_replay.proofs.EngineCalls.CallEnds.{marks_longer, marks_whole, parts_made, was_called, was_shown}
use Rattle.pmem_replay.proofs.world.World.call.Given.{Over}
use Rattle.pmem_replay.proofs.world.World.call.Goals.{After-saturating_add-self-inside}
use Rattle.pmem_replay.proofs.world.World.call.Goals as goal

-- the engine is up
pub make-done-requires-clause-up : goal.make-done-requires-clause-up
make-done-requires-clause-up g c =
    let p : WorldParts =
    held (g.S.Suite.keys c.self.inside.suite) (memory_of c.self.inside.board) (ledger_of c.self.inside.ledger) (capacity_of c.self.inside.ledger) c.self.inside.engine
    (g.S.Suite.tags c.self.inside.suite) (g.S.Suite.digests c.self.inside.suite) c.self.inside.ports c.self.inside.tampered
    c.self.inside.dirtied c.self.inside.steps c.self.inside.start c.self.inside.shown in
    let going = going_in g.S.Suite.formulas_of (shape_of c.self.inside.geo) p c.args.self.now c.self.view_is c.requires.shown c.self.invariant in
    (on_in (setup_in g.S.Suite.formulas_of (shape_of c.self.inside.geo) p) (world_of (setup_in g.S.Suite.formulas_of (shape_of c.self.inside.geo) p) p)
    c.in-Some.engine going.whole c.in-Some.is).up

-- once the engine has answered
module _ (g : Over) (c : After-saturating_add-self-inside g) where
  abbrev p : WorldParts
  p =
      held (g.S.Suite.keys c.self.inside.suite) (memory_of c.self.inside.board) (ledger_of c.self.inside.ledger) (capacity_of c.self.inside.ledger) c.self.inside.engine
      (g.S.Suite.tags c.self.inside.suite) (g.S.Suite.digests c.self.inside.suite) c.self.inside.ports c.self.inside.tampered
      c.self.inside.dirtied c.self.inside.steps c.self.inside.start c.self.inside.shown

  abbrev setup : Setup
  setup = setup_in g.S.Suite.formulas_of (shape_of c.self.inside.geo) p

  served : IsServed setup p (g.S.Suite.keys c.make-done.new.suite) (memory_of c.make-done.new.board) c.saturating_add-self-inside.result c.in-Some.engine
      c.make-done.result.taken
  served =
      record {
        going = going_in g.S.Suite.formulas_of (shape_of c.self.inside.geo) p c.args.self.now c.self.view_is c.requires.shown c.self.invariant;
        was_on = c.in-Some.is;
        watched = c.make-done.ensures.watched;
        same_keys = c.make-done.ensures.keys;
        counted = omega (arith, c.saturating_add-self-inside.ensures, c.steps.ensures);
      }

  within : IfSome (g.C.Call.write c.args.call.now) (λ w. w.at < layout.data_lines setup.shape)
  within =
      subst (λ (world : WorldState). IfSome (g.C.Call.write c.args.call.now) (λ w. w.at < layout.data_lines world.shape)) (sym c.self.view_is)
      c.requires.within

  made : IsLawfulCall (g.C.Call.relation c.args.call.now) (g.C.Call.write c.args.call.now) setup (parts_in (world_of setup p) c.in-Some.engine none_taken)
      (parts_of c.make-done.new.engine (device_during (memory_of c.make-done.new.board) c.make-done.result.taken) (ledger_of c.make-done.new.ledger)
      (g.S.Suite.tags c.make-done.new.suite) (g.S.Suite.digests c.make-done.new.suite)) c.make-done.result.answer
  made =
      subst (λ (shape : Shape). IsLawfulCall (g.C.Call.relation c.args.call.now) (g.C.Call.write c.args.call.now) (record { shape = shape; formulas = setup.formulas })
      (parts_in (world_of setup p) c.in-Some.engine none_taken)
      (parts_of c.make-done.new.engine (device_during (memory_of c.make-done.new.board) c.make-done.result.taken) (ledger_of c.make-done.new.ledger)
      (g.S.Suite.tags c.make-done.new.suite) (g.S.Suite.digests c.make-done.new.suite)) c.make-done.result.answer)
      (sym (shape_in setup p c.in-Some.engine served.going c.in-Some.is)) c.make-done.ensures.made

  longer : length p.ledger.marks ≤ length (ledger_of c.make-done.new.ledger).marks
  longer =
      marks_longer setup p _ _ _ (capacity_of c.make-done.new.ledger) _ _ _ c.in-Some.engine c.make-done.new.engine c.make-done.result.taken served c.make-done.ensures.capacity (g.C.Call.relation c.args.call.now)
      (g.C.Call.write c.args.call.now) c.make-done.result.answer made within c.make-done.ensures.down

  -- the parts afterwards
  abbrev after : Option EngineState → List (List Posted) → Tampering → Dirtying → WorldParts
  after e queues tampering dirtying =
      parts_made p (g.S.Suite.keys c.make-done.new.suite) (memory_of c.make-done.new.board) (ledger_of c.make-done.new.ledger) (capacity_of c.make-done.new.ledger) e
      (g.S.Suite.tags c.make-done.new.suite) (g.S.Suite.digests c.make-done.new.suite) c.saturating_add-self-inside.result queues tampering dirtying

pub returns-then-is_shown-clause-called : goal.returns-then-is_shown-clause-called
returns-then-is_shown-clause-called g c =
    let at = (goal.at.returns-then-is_shown-clause-called g c).After-saturating_add-self-inside in
    moved (λ setup old new. HasCalledEngine setup (g.C.Call.relation c.args.call.now) (g.C.Call.write c.args.call.now) old c.make-done.result.taken c.make-done.result.answer new)
    g.S.Suite.formulas_of (shape_of c.self.inside.geo) (p g at)
    (record (called (p g at) (g.S.Suite.keys c.make-done.new.suite) (memory_of c.make-done.new.board) (ledger_of c.make-done.new.ledger) (capacity_of c.make-done.new.ledger) (Some c.make-done.new.engine)
    (g.S.Suite.tags c.make-done.new.suite) (g.S.Suite.digests c.make-done.new.suite) c.saturating_add-self-inside.result) { shown = true })
    c.args.self.now c.self.view_is c.make-done.ensures.keys
    (was_shown (setup g at) (p g at) _ _ _ (capacity_of c.make-done.new.ledger) _ _ _ c.in-Some.engine c.make-done.new.engine c.make-done.result.taken (served g at) c.make-done.ensures.capacity (g.C.Call.relation c.args.call.now)
    (g.C.Call.write c.args.call.now) c.make-done.result.answer (made g at) (within g at) c.make-done.ensures.down (sym c.is_shown.ensures ∙ c.if-is_shown.true))

pub note_since-requires-clause-from : goal.note_since-requires-clause-from
note_since-requires-clause-from g c =
    let at = (goal.at.note_since-requires-clause-from g c).After-saturating_add-self-inside in
    omega (arith, ap length c.marks-from.ensures, longer g at)

pub heal-requires-clause-from : goal.heal-requires-clause-from
heal-requires-clause-from g c =
    let at = (goal.at.heal-requires-clause-from g c).After-saturating_add-self-inside in
    omega (arith, ap length c.marks-from.ensures, longer g at)

pub note_since-requires-clause-marks : goal.note_since-requires-clause-marks
note_since-requires-clause-marks g c =
    let at = (goal.at.note_since-requires-clause-marks g c).After-saturating_add-self-inside in
    marks_whole (setup g at) (p g at) _ _ _ (capacity_of c.make-done.new.ledger) _ _ _ c.in-Some.engine c.make-done.new.engine c.make-done.result.taken (served g at) c.make-done.ensures.capacity (g.C.Call.relation c.args.call.now)
    (g.C.Call.write c.args.call.now) c.make-done.result.answer (made g at) (within g at) c.make-done.ensures.down (sym c.is_shown.ensures ∙ c.if-is_shown.false)

pub invariant_of-self-2 : goal.invariant_of-self-2
invariant_of-self-2 g c =
    let at = (goal.at.invariant_of-self-2 g c).After-saturating_add-self-inside in
    let n : length c.marks-from.result.now ≡ length (p g at).ledger.marks = ap length c.marks-from.ensures in
    subst (λ (k : List ℕ). c.self.inside.shown ≡ false → IsWorld (record { shape = shape_of c.self.inside.geo; formulas = g.S.Suite.formulas_of k })
    (world_of (record { shape = shape_of c.self.inside.geo; formulas = g.S.Suite.formulas_of k })
    (after g at c.lose_if.new.engine c.lose_if.new.ports c.heal.new.tampered c.note_since.new.self))) (sym c.make-done.ensures.keys)
    (was_called (setup g at) (p g at) _ _ _ (capacity_of c.make-done.new.ledger) _ _ _ c.in-Some.engine c.make-done.new.engine c.make-done.result.taken (served g at) c.make-done.ensures.capacity (g.C.Call.relation c.args.call.now)
    (g.C.Call.write c.args.call.now) c.make-done.result.answer (made g at) (within g at) c.make-done.ensures.down
    c.lose_if.new.engine c.lose_if.new.ports c.heal.new.tampered c.note_since.new.self
    c.is_cut.result (sym c.is_shown.ensures ∙ c.if-is_shown.false) c.is_cut.ensures c.lose_if.ensures.engine c.lose_if.ensures.ports
    (c.heal.ensures ∙ ap (λ l. healed l (drop (length c.marks-from.result.now) (ledger_of c.make-done.new.ledger).marks) (p g at).tampering) c.line.ensures
    ∙ ap (λ k. healed (written_line (g.C.Call.write c.args.call.now)) (drop k (ledger_of c.make-done.new.ledger).marks) (p g at).tampering) n)
    (subst (λ k. (s : PlainState) → with_dirtying s c.note_since.new.self
    ≡ after_marks (shape_of c.self.inside.geo) (with_dirtying s (p g at).dirtying) (drop k (ledger_of c.make-done.new.ledger).marks)) n c.note_since.ensures)
    c.has_banks.ensures.banks).holds

pub returns-clause-called : goal.returns-clause-called
returns-clause-called g c =
    let at = (goal.at.returns-clause-called g c).After-saturating_add-self-inside in
    let n : length c.marks-from.result.now ≡ length (p g at).ledger.marks = ap length c.marks-from.ensures in
    moved (λ setup old new. HasCalledEngine setup (g.C.Call.relation c.args.call.now) (g.C.Call.write c.args.call.now) old c.make-done.result.taken c.make-done.result.answer new)
    g.S.Suite.formulas_of (shape_of c.self.inside.geo) (p g at)
    (after g at c.lose_if.new.engine c.lose_if.new.ports c.heal.new.tampered c.note_since.new.self)
    c.args.self.now c.self.view_is c.make-done.ensures.keys
    (was_called (setup g at) (p g at) _ _ _ (capacity_of c.make-done.new.ledger) _ _ _ c.in-Some.engine c.make-done.new.engine c.make-done.result.taken (served g at) c.make-done.ensures.capacity (g.C.Call.relation c.args.call.now)
    (g.C.Call.write c.args.call.now) c.make-done.result.answer (made g at) (within g at) c.make-done.ensures.down
    c.lose_if.new.engine c.lose_if.new.ports c.heal.new.tampered c.note_since.new.self
    c.is_cut.result (sym c.is_shown.ensures ∙ c.if-is_shown.false) c.is_cut.ensures c.lose_if.ensures.engine c.lose_if.ensures.ports
    (c.heal.ensures ∙ ap (λ l. healed l (drop (length c.marks-from.result.now) (ledger_of c.make-done.new.ledger).marks) (p g at).tampering) c.line.ensures
    ∙ ap (λ k. healed (written_line (g.C.Call.write c.args.call.now)) (drop k (ledger_of c.make-done.new.ledger).marks) (p g at).tampering) n)
    (subst (λ k. (s : PlainState) → with_dirtying s c.note_since.new.self
    ≡ after_marks (shape_of c.self.inside.geo) (with_dirtying s (p g at).dirtying) (drop k (ledger_of c.make-done.new.ledger).marks)) n c.note_since.ensures)
    c.has_banks.ensures.banks)
