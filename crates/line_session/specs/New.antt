-- A new session: a formatted device, and the opening of its store.
use Rattle.std.specs.Prelude.{ℕ, ◌≡◌, List, replicate, Some, None, Result, Ok, Err, ⊤}
use Rattle.pmem_base.specs.declared.answers.Mark.{Mark}
use Rattle.pmem_base.specs.Counts.{risen_times}
use Rattle.pmem_base.specs.Shape.{Shape, IsShape}
use Rattle.pmem_base.specs.Layout.{data_lines, device_lines, meta_lines}
use Rattle.pmem_base.specs.Lines.{zero_line}
use Rattle.board.specs.Device.{Device}
use Rattle.board.specs.Memory.{BoardMemory, device_of, new_memory}
use Rattle.call_plan.specs.Following.{Follows}
use Rattle.call_plan.specs.Plans.{ended}
use Rattle.seal_ledger.specs.Ledger.{LedgerState}
use Rattle.suite.specs.Setup.{Setup}
use Rattle.plain_model.specs.View.{plain_memory}
use Rattle.pmem_engine.specs.Engine.{ChipState, EngineState}
use Rattle.pmem_engine.specs.Mendable.{new_engine}
use Rattle.pmem_engine.specs.Parts.{parts_of}
use Rattle.pmem_engine.specs.Plans.{chip_of}
use Rattle.pmem_recovery.specs.Formatting.{HasFormatted}
use Rattle.line_session.specs.declared.session.NewFault.{NewFault}
use Rattle.line_session.specs.declared.session.NewFault.TheVariants.{Memory, Opening}
use Rattle.line_session.specs.State.{LineSession, chip_in}
use Rattle.line_session.specs.StoreCalls.{CallPlan}
use Rattle.line_session.specs.World.{StoreSession, IsLineWorld}
use Rattle.line_session.specs.During.{OpeningRelation}

-- what a store keeps in lines of zeros
abbrev pub HoldsZeros : (Setup → List Mark → Type 0) → Setup → Type 0
HoldsZeros holds setup =
    IsShape setup.shape → (marks : List Mark) → plain_memory setup marks ≡ replicate (data_lines setup.shape) zero_line → holds setup marks

-- a device before it is formatted
abbrev pub blank_device : Shape → Device
blank_device g = device_of (new_memory (device_lines g))

-- the tags and digests that were made, and those of formatting: a tag for each data line and a digest for each metadata line
abbrev pub tags_formatted : Shape → ℕ → ℕ
tags_formatted g tags = risen_times (data_lines g) tags

abbrev pub digests_formatted : Shape → ℕ → ℕ
digests_formatted g digests = risen_times (meta_lines g) digests

-- The device was formatted, and then the store's opening ended so. The suite had made that many tags and digests before.
pub record HasOpenedNew {O F : Type 0} (setup : Setup) (opens : OpeningRelation O F) (tags digests : ℕ) (answer : Result O F) (left : LineSession) :
    Type 0 where
  pub whole : IsShape setup.shape
  pub middle : BoardMemory
  pub ledger : LedgerState
  pub engine : EngineState
  pub formatted : HasFormatted setup ledger (blank_device setup.shape) (device_of middle) engine
  pub opened :
      opens engine
      (parts_of engine (device_of middle) ledger (tags_formatted setup.shape tags) (digests_formatted setup.shape digests))
      (λ now. parts_of now (device_of left.board) left.ledger left.tags left.digests) answer
  pub unsnapped : left.board.snapshot ≡ None

abbrev pub IsNewStore : {L O F : Type 0} → (O → L) → (Setup → OpeningRelation O F) → (L → EngineState) → Setup → ℕ → ℕ → StoreSession L → Type 0
IsNewStore {O = O} store_of opens engine_of setup tags digests new =
    (opened : O) × (new.store ≡ Some (store_of opened)) × HasOpenedNew setup (opens setup) tags digests (Ok opened) new.state
    × IsLineWorld engine_of setup new

abbrev pub IsNewFault : {O F : Type 0} → (Setup → OpeningRelation O F) → Setup → ℕ → ℕ → NewFault F → Type 0
IsNewFault opens setup tags digests Memory = ⊤
IsNewFault opens setup tags digests (Opening fault) = (left : LineSession) × HasOpenedNew setup (opens setup) tags digests (Err fault) left

-- ---- by the opening's plan

-- The device was formatted, and its lines were opened along this plan, with nothing cut and no snapshot taken.
pub record IsNewByPlan {F A : Type 0} (setup : Setup) (opening : CallPlan F A) (tags digests : ℕ) (session : LineSession) : Type 0 where
  pub middle : BoardMemory
  pub ledger : LedgerState
  pub formatted : HasFormatted setup ledger (blank_device setup.shape) (device_of middle) (new_engine setup.shape)
  pub after : ChipState
  pub end : Result A F
  pub follows :
      Follows
      (opening middle.regs
      (chip_of (new_engine setup.shape) ledger (tags_formatted setup.shape tags) (digests_formatted setup.shape digests)))
      (device_of middle) (device_of session.board) (ended end (chip_in session after))
  pub engine : session.engine ≡ Some after
  pub unsnapped : session.board.snapshot ≡ None
