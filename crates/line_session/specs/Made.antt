-- A call of a store in a session.
use Rattle.std.specs.Prelude.{ℕ, ◌≡◌, ◌<◌, ◌≤◌, ◌&&◌, not, List, Option, Some, None, IfSome, IsSomeAnd, Result, Ok, if◌then◌else◌}
use Rattle.pmem_base.specs.declared.faults.MemFault.{MemFault}
use Rattle.watched_board.specs.declared.taken.Taken.{Taken}
use Rattle.watched_board.specs.Watching.{IsWatched, device_during, none_taken, steps_in}
use Rattle.suite.specs.Formulas.{Formulas}
use Rattle.suite.specs.Setup.{Setup}
use Rattle.pmem_engine.specs.Engine.{EngineState}
use Rattle.pmem_engine.specs.Parts.{Parts, parts_of}
use Rattle.line_session.specs.declared.making.Done.{Done}
use Rattle.line_session.specs.declared.making.Done.TheVariants.{Off, Range, Ended}
use Rattle.line_session.specs.State.{LineSession, setup_in}
use Rattle.line_session.specs.World.{StoreSession, IsLineWorld}
use Rattle.line_session.specs.Promised.{CallEffect}
use Rattle.line_session.specs.Answered.{is_sealed_since}

-- the engine's parts as a call sees them that has taken so much of the board
abbrev pub parts_during : EngineState → LineSession → Taken → Parts
parts_during engine state taken = parts_of engine (device_during state.board taken) state.ledger state.tags state.digests

-- The session before and after a call that ended so: what the call did of the store and of the engine's parts. The store is dropped if
-- power was cut.
pub record HasMade {L R : Type 0} (engine_of : L → EngineState) (effect : CallEffect L R) (setup : Setup) (store : L) (steps : ℕ)
    (answer : R) (old new : StoreSession L) : Type 0 where
  pub after : L
  pub taken : Taken
  pub watched : IsWatched old.state.board new.state.board taken
  pub its_steps : steps ≡ steps_in taken
  pub made : effect setup store after (parts_during (engine_of store) old.state none_taken) (parts_during (engine_of after) new.state taken) answer
  pub its_store : new.store ≡ (if new.state.board.powered then Some after else None)
  pub world : IsLineWorld engine_of setup new
  pub shape : new.state.shape ≡ old.state.shape
  pub keys : new.state.keys ≡ old.state.keys

-- there is a store, which has the line that a call asks for
abbrev pub HasAsked : {L : Type 0} → (L → ℕ) → Option ℕ → StoreSession L → L → Type 0
HasAsked lines_of asked old store = (old.store ≡ Some store) × IfSome asked (λ at. at < lines_of store)

-- what a call comes to: without power, and if there is no such line, nothing is done
abbrev pub IsDone : {L V F : Type 0} → (L → EngineState) → (L → ℕ) → CallEffect L (Result V F) → Setup → Option ℕ → (L → ℕ) → StoreSession L → Done V F
    → StoreSession L → Type 0
IsDone engine_of lines_of effect setup asked own old Off new = (old.store ≡ None) × (new ≡ old)
IsDone {L = L} engine_of lines_of effect setup asked own old Range new =
    (store : L) × (old.store ≡ Some store) × IsSomeAnd asked (λ at. lines_of store ≤ at) × (new ≡ old)
IsDone {L = L} engine_of lines_of effect setup asked own old (Ended steps sealed answer) new =
    (store : L) × HasAsked lines_of asked old store × HasMade engine_of effect setup store steps answer old new
    × (sealed ≡ (not new.state.board.powered && is_sealed_since (own store) old.state.ledger.marks new.state))

-- the same of a session under a suite's formulas
abbrev pub IsDoneUnder : {L V F : Type 0} → (List ℕ → Formulas) → (L → EngineState) → (L → ℕ) → CallEffect L (Result V F) → Option ℕ → (L → ℕ)
    → StoreSession L → Done V F → StoreSession L → Type 0
IsDoneUnder formulas_of engine_of lines_of effect asked own old done new =
    IsDone engine_of lines_of effect (setup_in formulas_of old.state) asked own old done new

-- memory is needed for the marks of a call that asks for a line that is there
abbrev pub IsRoomWanted : {L : Type 0} → (L → ℕ) → Option ℕ → ℕ → StoreSession L → Type 0
IsRoomWanted {L = L} lines_of asked room old = (store : L) × HasAsked lines_of asked old store × (0 < room)

-- what no call was made for
abbrev pub undone : {V F : Type 0} → Result (Done V F) MemFault → Option (Unit {0})
undone (Ok (Ended steps sealed answer)) = None
undone answer = Some tt
