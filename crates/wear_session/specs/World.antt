-- The state of a session over levelled lines, and what always holds of it.
use Rattle.std.specs.Prelude.{ℕ, ◌≡◌, ◌≤◌, List, Option, option_map, unwrap_or, IfSome}
use Rattle.pmem_base.specs.declared.answers.Mark.{Mark}
use Rattle.suite.specs.Setup.{Setup}
use Rattle.plain_model.specs.View.{plain_memory}
use Rattle.line_session.specs.World.{StoreSession}
use Rattle.wear_session.specs.State.{WearState, wear_left, wear_in}
use Rattle.wear_session.specs.StoreCalls.{HoldsLevelled}
use Rattle.wear_session.specs.declared.calls.LevelledLines.{LevelledLines}

abbrev pub count_in : Option LevelledLines → ℕ
count_in store = unwrap_or (option_map (λ store. store.gapped.count) store) 0

abbrev pub wear_of : Setup → ℕ → StoreSession LevelledLines → WearState
wear_of setup every session = wear_left setup every session.state (count_in session.store)

-- the levelled lines are those that the marks say
pub record IsLevelledAs (setup : Setup) (every : ℕ) (marks : List Mark) (store : LevelledLines) : Type 0 where
  pub its_every : store.gapped.every ≡ every
  pub its_wear : store.gapped.wear ≡ wear_in setup (plain_memory setup marks)

pub record IsWearWorld (setup : Setup) (every : ℕ) (session : StoreSession LevelledLines) : Type 0 where
  pub some_every : 1 ≤ every
  pub levelled : HoldsLevelled setup session.state.ledger.marks
  pub its_store : IfSome session.store (IsLevelledAs setup every session.state.ledger.marks)
