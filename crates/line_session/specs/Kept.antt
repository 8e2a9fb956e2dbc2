-- What a call leaves of lines that were sound: they are sound still, with power on; or power was cut, and they are durable.
use Rattle.std.specs.Prelude.{◌≡◌, ◌≤◌, Bool, true, false, List, length, MatchBool, Result, Ok, Err}
use Rattle.pmem_base.specs.declared.answers.Mark.{Mark}
use Rattle.pmem_base.specs.Shape.{IsShape}
use Rattle.suite.specs.Setup.{Setup}
use Rattle.plain_model.specs.Bounds.{group_bound}
use Rattle.pmem_engine.specs.declared.fault.Fault.{Fault}
use Rattle.pmem_engine.specs.declared.fault.Fault.TheVariants as Fail
use Rattle.pmem_engine.specs.Engine.{EngineState}
use Rattle.pmem_engine.specs.Parts.{Parts, regs_of, AreSound, AreDurable}
use Rattle.line_session.specs.During.{OpeningRelation}

pub record IsLeftOn (setup : Setup) (engine : EngineState) (parts : Parts) : Type 0 where
  pub sound : AreSound setup parts
  pub live : parts.device.live ≡ true
  pub running : engine.down ≡ false

pub record IsLeftOff (setup : Setup) (parts : Parts) : Type 0 where
  pub durable : AreDurable setup parts
  pub dark : parts.device.live ≡ false
  pub small_group : length (regs_of parts).group.items ≤ group_bound setup.shape

pub record IsLeft (setup : Setup) (cut : Bool) (engine : EngineState) (old new : Parts) : Type 0 where
  pub marks : length old.ledger.marks ≤ length new.ledger.marks
  pub ends : MatchBool cut (IsLeftOff setup new) (IsLeftOn setup engine new)

-- what a call of a store leaves, by whether power was cut in it
abbrev pub KeepsLines : {T R : Type 0} → (T → EngineState) → (R → Bool) → Setup → T → T → Parts → Parts → R → Type 0
KeepsLines engine_of is_cut setup old new from to answer =
    (engine_of old).down ≡ false → from.device.live ≡ true → AreSound setup from
    → IsLeft setup (is_cut answer) (engine_of new) from to

-- a store is opened, or power was cut
abbrev pub IsOpenedOn : {O F : Type 0} → (O → EngineState) → Setup → (EngineState → Parts) → Result O F → Type 0
IsOpenedOn engine_of setup now (Ok opened) = IsLeftOn setup (engine_of opened) (now (engine_of opened))
IsOpenedOn engine_of setup now (Err fault) = (dropped : EngineState) × IsLeftOff setup (now dropped)

-- what an opening leaves of lines that hold what such a store keeps in them
abbrev pub OpensLines : {O F : Type 0} → (O → EngineState) → (Setup → List Mark → Type 0) → Setup → OpeningRelation O F
OpensLines engine_of holds setup engine old now answer =
    IsShape setup.shape → engine.down ≡ false → old.device.live ≡ true → AreSound setup old → holds setup old.ledger.marks
    → IsOpenedOn engine_of setup now answer

-- an opening that does one and the other
abbrev pub OpensBoth : {O F : Type 0} → (Setup → OpeningRelation O F) → (Setup → OpeningRelation O F) → Setup → OpeningRelation O F
OpensBoth one other setup engine old now answer = one setup engine old now answer × other setup engine old now answer

-- ---- by its fault

abbrev pub is_fault_cut : Fault → Bool
is_fault_cut Fail.Cut = true
is_fault_cut fault = false

-- whether power was cut in a call of the engine
abbrev pub is_call_cut : {T : Type 0} → Result T Fault → Bool
is_call_cut (Ok value) = false
is_call_cut (Err fault) = is_fault_cut fault
