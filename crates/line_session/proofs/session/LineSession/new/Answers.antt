-- A new session: the device is formatted, and its store opened.
use Rattle.std.proofs.Common.{ℕ, ◌≡◌, Option, Some, None, Result, Ok, Err, refl, ap, subst, subst₂, ◌∙◌}
use Rattle.std.specs.Prelude.{is_none}
use Rattle.std.proofs.lemmas.Bool.{and_parts}
use Rattle.line_session.proofs.Common.{shape_of, memory_of, ledger_of, device_of, BoardMemory, LedgerState, Setup, EngineState, ChipState, on_chip, setup_under, parts_of, Parts, OpeningRelation, HasFormatted, LineSession}
use Rattle.board.specs.Memory.{new_memory}
use Rattle.pmem_base.specs.Layout.{device_lines}
use Rattle.line_session.specs.World.{StoreSession, session_of, IsLineWorld}
use Rattle.line_session.specs.Kept.{IsOpenedOn, OpensLines}
use Rattle.line_session.specs.New.{HasOpenedNew}
use Rattle.line_session.specs.Promised.{IsOpened}
use Rattle.line_session.proofs.Worlds.{on_of}
use Rattle.line_session.proofs.NewSessions.{zero_places}
use Rattle.line_session.proofs.session.LineSession.new.Given.{Over}
use Rattle.line_session.proofs.session.LineSession.new.Goals.{After-open}
use Rattle.line_session.proofs.session.LineSession.new.Goals as goal

module _ (g : Over) (c : After-open g) where
  abbrev setup : Setup
  setup = setup_under g.S.Suite.formulas_of (shape_of c.args.geo) (g.S.Suite.keys c.args.suite)

  abbrev middle : BoardMemory
  middle = memory_of c.format.new.board

  abbrev ledger : LedgerState
  ledger = ledger_of c.format.new.ledger

  abbrev engine : EngineState
  engine = c.in-Ok-format.engine

  formatted : HasFormatted setup ledger (device_of (memory_of c.in-Ok.board)) (device_of middle) engine
  formatted = c.in-Ok-format.ensures.formatted

  abbrev from : LedgerState → Parts
  from ledger = parts_of engine (device_of middle) ledger (g.S.Suite.tags c.format.new.suite) (g.S.Suite.digests c.format.new.suite)

  abbrev now : EngineState → Parts
  now later =
      parts_of later (device_of (memory_of c.open.new.board)) (ledger_of c.open.new.ledger) (g.S.Suite.tags c.open.new.suite)
      (g.S.Suite.digests c.open.new.suite)

  -- the device that was formatted
  blank : memory_of c.in-Ok.board ≡ new_memory (device_lines (shape_of c.args.geo))
  blank = c.in-Ok.ensures ∙ ap new_memory c.size.ensures.value

  -- of the geometry, the keys and the marks that formatting leaves
  here : (opens : Setup → OpeningRelation g.row.O-Opened.Denot g.row.O-Fault.Denot)
      → IsOpened g.S.Suite opens engine (device_of middle) c.format.new.suite c.reserve.new.self (device_of (memory_of c.open.new.board)) c.open.new.suite
      c.open.new.ledger c.open.result
      → opens setup engine (from ledger) now c.open.result
  here opens it =
      subst (λ s. opens (setup_under g.S.Suite.formulas_of s (g.S.Suite.keys c.args.suite)) engine (from ledger) now c.open.result)
      (ap (λ (e : EngineState). e.shape) formatted.engine_new)
      (subst (λ l. opens (setup_under g.S.Suite.formulas_of engine.shape (g.S.Suite.keys c.args.suite)) engine (from l) now c.open.result)
      c.reserve.ensures.ledger (rw c.format.ensures.keys at it))

  -- the session as the opening left it, with what is on the chip then
  abbrev left : Option ChipState → LineSession
  left chip =
      record {
        shape = shape_of c.args.geo;
        keys = g.S.Suite.keys c.open.new.suite;
        board = memory_of c.open.new.board;
        engine = chip;
        ledger = ledger_of c.open.new.ledger;
        tags = g.S.Suite.tags c.open.new.suite;
        digests = g.S.Suite.digests c.open.new.suite;
      }

  has_opened : (chip : Option ChipState) (answer : Result g.row.O-Opened.Denot g.row.O-Fault.Denot) → c.open.result ≡ answer
      → HasOpenedNew setup (g.O.StoreOpening.relation c.args.opening.now setup) (g.S.Suite.tags c.args.suite) (g.S.Suite.digests c.args.suite) answer
      (left chip)
  has_opened chip answer is =
      record {
        whole = c.layout_is_one_to_one.ensures.ranges;
        middle = middle;
        ledger = ledger;
        engine = engine;
        formatted = subst (λ (m : BoardMemory). HasFormatted setup ledger (device_of m) (device_of middle) engine) blank formatted;
        opened =
            subst₂ (λ (tags digests : ℕ).
            g.O.StoreOpening.relation c.args.opening.now setup engine (parts_of engine (device_of middle) ledger tags digests) now answer)
            c.in-Ok-format.ensures.counts.its_tags c.in-Ok-format.ensures.counts.its_digests
            (subst (g.O.StoreOpening.relation c.args.opening.now setup engine (from ledger) now) is
            (here (g.O.StoreOpening.relation c.args.opening.now) c.open.ensures.opened));
        unsnapped = c.open.ensures.none;
      }

  abbrev engine_in : g.row.O-Opened.Denot → EngineState
  engine_in opened = g.L.LineStore.engine (g.O.StoreOpening.store opened)

  opened_on : IsOpenedOn engine_in setup now c.open.result
  opened_on =
      here (OpensLines engine_in (g.O.StoreOpening.holds c.args.opening.now)) c.open.ensures.kept c.layout_is_one_to_one.ensures.ranges
      (ap (λ (e : EngineState). e.down) formatted.engine_new) (and_parts middle.powered (is_none middle.fuse) formatted.steady).0
      (formatted.sound _ refl) (c.requires.zeros c.layout_is_one_to_one.ensures.ranges ledger.marks
      (zero_places setup (device_of (memory_of c.in-Ok.board)) middle ledger engine formatted))

  abbrev session : g.row.L.Denot → StoreSession g.row.L.Denot
  session store =
      session_of g.L.LineStore.engine (shape_of c.args.geo) (g.S.Suite.keys c.open.new.suite) (g.S.Suite.tags c.open.new.suite)
      (g.S.Suite.digests c.open.new.suite) (memory_of c.open.new.board) (ledger_of c.open.new.ledger) (Some store)

  -- under the keys of before
  new_world : (opened : g.row.O-Opened.Denot) (store : g.row.L.Denot) → c.open.result ≡ Ok opened → store ≡ g.O.StoreOpening.store opened
      → IsLineWorld g.L.LineStore.engine setup (session store)
  new_world opened store is same =
      let lit = subst (IsOpenedOn engine_in setup now) is opened_on in
      rw same (on_of g.L.LineStore.engine setup (session (g.O.StoreOpening.store opened)) (g.O.StoreOpening.store opened) refl
      c.layout_is_one_to_one.ensures.ranges (g.met.S.Suite.in_range c.args.suite) refl lit.live lit.running lit.sound)

pub invariant_of-result : goal.invariant_of-result
invariant_of-result g c =
    let keys = c.open.ensures.keys ∙ c.format.ensures.keys in
    let world = new_world g ((goal.at.invariant_of-result g c).After-open) _ _ c.in-Ok-open.is c.split-store.ensures.store in
    rw (← keys) at world

pub returns-in-Err-open-clause-fault : goal.returns-in-Err-open-clause-fault
returns-in-Err-open-clause-fault g c =
    let at = (goal.at.returns-in-Err-open-clause-fault g c).After-open in
    (left g at None, has_opened g at None (Err c.in-Err-open.fault) c.in-Err-open.is)

pub returns-in-Ok-open-clause-new : goal.returns-in-Ok-open-clause-new
returns-in-Ok-open-clause-new g c =
    let at = (goal.at.returns-in-Ok-open-clause-new g c).After-open in (
      c.in-Ok-open.opened,
      ap (λ s. Some s) c.split-store.ensures.store,
      has_opened g at (Some (on_chip (g.L.LineStore.engine c.split-store.result.0))) (Ok c.in-Ok-open.opened) c.in-Ok-open.is,
      new_world g at c.in-Ok-open.opened c.split-store.result.0 c.in-Ok-open.is c.split-store.ensures.store,
    )
