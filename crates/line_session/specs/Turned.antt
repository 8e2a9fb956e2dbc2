-- Power comes on in a session: recovery, and the opening of its store.
use Rattle.std.specs.Prelude.{ℕ, ◌≡◌, ◌<◌, ◌⊎◌, true, false, List, Option, Some, None, Result, Ok, Err}
use Rattle.pmem_base.specs.declared.lines.Line.{Line}
use Rattle.pmem_base.specs.declared.answers.Exhibit.TheVariants.{Twin}
use Rattle.pmem_base.specs.Layout.{data_lines}
use Rattle.board.specs.Device.{Device}
use Rattle.board.specs.Memory.{BoardMemory}
use Rattle.call_plan.specs.Following.{Follows}
use Rattle.watched_board.specs.declared.taken.Taken.{Taken}
use Rattle.watched_board.specs.Watching.{IsWatched, device_during, none_taken, steps_in}
use Rattle.suite.specs.Formulas.{Formulas}
use Rattle.suite.specs.Setup.{Setup}
use Rattle.collision_witness.specs.Exhibits.{IsExhibit}
use Rattle.plain_model.specs.Bounds.{recovery_bound}
use Rattle.plain_model.specs.Shown.{IsTwinOfSeal}
use Rattle.call_effects.specs.SuiteStates.{SuiteState, suite_state}
use Rattle.call_effects.specs.declared.recovery.Work.{Work}
use Rattle.pmem_engine.specs.Engine.{EngineState}
use Rattle.pmem_engine.specs.Parts.{parts_of}
use Rattle.pmem_recovery.specs.declared.faults.RecFault.{RecFault}
use Rattle.pmem_recovery.specs.declared.faults.RecFault.TheVariants as Rec
use Rattle.pmem_recovery.specs.Plans.{suite_counts, counts_of, recover_plan}
use Rattle.pmem_recovery.specs.Recovered.{HasRecovered}
use Rattle.trace_text.specs.declared.talk.Halt.{Halt}
use Rattle.trace_text.specs.declared.talk.Halt.TheVariants as Stop
use Rattle.line_session.specs.declared.powering.Turned.{Turned}
use Rattle.line_session.specs.declared.powering.Turned.TheVariants.{Already, On, Cut}
use Rattle.line_session.specs.State.{LineSession, setup_in, view_in, places_in, with_power, at_rest}
use Rattle.line_session.specs.World.{StoreSession, IsLineWorld}
use Rattle.line_session.specs.During.{OpeningRelation}

-- the session before and after a recovery that is done and the opening, which ended so
pub record HasTurned {O F : Type 0} (setup : Setup) (opens : OpeningRelation O F) (steps : ℕ) (answer : Result O F) (old new : LineSession) : Type 0 where
  pub taken : Taken
  pub watched : IsWatched (with_power old).board new.board taken
  pub its_steps : steps ≡ steps_in taken
  pub pads : ℕ
  pub between : Device
  pub suite_between : SuiteState
  pub engine : EngineState
  pub work : Work
  pub recovered :
      HasRecovered setup old.ledger (device_during (with_power old).board none_taken) between (suite_state old.keys pads old.tags old.digests) suite_between
      (Ok (engine, work))
  pub opened :
      opens engine (parts_of engine between old.ledger suite_between.tags suite_between.digests)
      (λ now. parts_of now (device_during new.board taken) new.ledger new.tags new.digests) answer
  pub shape : new.shape ≡ old.shape
  pub keys : new.keys ≡ old.keys

-- recovery was cut: it made no mark, and the stop-loss number is as it was
pub record IsCutInRecovery (setup : Setup) (steps : ℕ) (old new : LineSession) : Type 0 where
  pub taken : Taken
  pub watched : IsWatched (with_power old).board new.board taken
  pub its_steps : steps ≡ steps_in taken
  pub between : SuiteState
  pub follows :
      Follows (recover_plan setup old.board.regs (suite_counts old.tags old.digests)) (device_during (with_power old).board none_taken)
      (device_during new.board taken) (Err (counts_of between, Rec.Cut))
  pub tags : new.tags ≡ between.tags
  pub digests : new.digests ≡ between.digests
  pub ledger : new.ledger ≡ old.ledger
  pub dark : new.board.powered ≡ false
  pub loss : new.board.regs.loss ≡ old.board.regs.loss
  pub few : steps < recovery_bound setup.shape
  pub shape : new.shape ≡ old.shape
  pub keys : new.keys ≡ old.keys

-- what power on comes to
abbrev pub IsTurned : {L O F T : Type 0} → (O → L) → (O → T) → OpeningRelation O F → (L → EngineState) → Setup → StoreSession L → Turned T
    → StoreSession L → Type 0
IsTurned {L = L} store_of told_of opens engine_of setup old Already new = (store : L) × (old.store ≡ Some store) × (new ≡ old)
IsTurned {O = O} store_of told_of opens engine_of setup old (On steps told) new =
    (opened : O) × (told ≡ told_of opened) × (new.store ≡ Some (store_of opened)) × (old.store ≡ None)
    × HasTurned setup opens steps (Ok opened) old.state new.state × IsLineWorld engine_of setup new
IsTurned {F = F} store_of told_of opens engine_of setup old (Cut steps) new =
    (new.store ≡ None) × (old.store ≡ None)
    × (IsCutInRecovery setup steps old.state new.state ⊎ ((fault : F) × HasTurned setup opens steps (Err fault) old.state new.state))
    × IsLineWorld engine_of setup new

-- the same of a session under a suite's formulas
abbrev pub IsTurnedUnder : {L O F T : Type 0} → (List ℕ → Formulas) → (O → L) → (O → T) → (Setup → OpeningRelation O F) → (L → EngineState)
    → StoreSession L → Turned T → StoreSession L → Type 0
IsTurnedUnder formulas_of store_of told_of opens engine_of old turned new =
    IsTurned store_of told_of (opens (setup_in formulas_of old.state)) engine_of (setup_in formulas_of old.state) old turned new

-- the board followed a recovery that refused with power on, and then power went off
pub record HasRefused (setup : Setup) (old : LineSession) (fault : RecFault) (new : LineSession) : Type 0 where
  pub board : BoardMemory
  pub between : SuiteState
  pub taken : Taken
  pub watched : IsWatched (with_power old).board board taken
  pub powered : board.powered ≡ true
  pub follows :
      Follows (recover_plan setup old.board.regs (suite_counts old.tags old.digests)) (device_during (with_power old).board none_taken)
      (device_during board taken) (Err (counts_of between, fault))
  pub rests : new ≡ at_rest (record old { board = board; tags = between.tags; digests = between.digests })

-- a twin of the last seal of one of the data lines, which recovery finds first
pub record HasShownTwin (setup : Setup) (old : LineSession) (at major low high : ℕ) (cipher : Line) (tag : List ℕ) (new : LineSession) : Type 0 where
  pub within : at < data_lines setup.shape
  pub exhibit : IsExhibit setup.formulas (Twin at major low high cipher tag)
  pub twin : IsTwinOfSeal setup (places_in setup old) old.board.regs.loss (view_in old) at major low high cipher tag
  pub refused : HasRefused setup old (Rec.Twin at major low high cipher tag) new

-- why power on has no answer: memory is needed, and nothing was done; or a twin is shown
abbrev pub IsTurnHalt : {L : Type 0} → Setup → StoreSession L → Halt → StoreSession L → Type 0
IsTurnHalt setup old Stop.Memory new = (old.store ≡ None) × (new ≡ old)
IsTurnHalt setup old (Stop.Shown (Twin at major low high cipher tag)) new =
    (old.store ≡ None) × HasShownTwin setup old.state at major low high cipher tag new.state × (new.store ≡ None)
IsTurnHalt setup old halt new = ⊥

-- what no recovery was made for
abbrev pub unturned : {T : Type 0} → Result (Turned T) Halt → Option (Unit {0})
unturned (Ok Already) = Some tt
unturned answer = None
