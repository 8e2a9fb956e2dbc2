-- What a session holds of its levelled lines, before and after a call.
use Rattle.std.proofs.Common.{◌<◌, ℕ, ◌≡◌, List, Some, None, ap, arith, rules, ◌∙◌}
use Rattle.wear_session.proofs.Common.{WearState, Mark, Formulas, Setup, EngineState, plain_memory, LevelledLines, wear_in, levelled_memory, IsWearWorld, wear_of, count_in, place_of, place_in, wear_lines_in, wear_of_line, IsWearAnswered, WearCommand, WearAnswer, IsLineOn, StoreSession, IsLineWorld, setup_in, line_on_in}
use Rattle.wear_session.specs.StoreCalls.{HoldsLevelled}
use Rattle.wear_session.specs.World.{IsLevelledAs}
use Rattle.wear_session.proofs.AnswerClauses.{of_line_is}

abbrev pub engine_of : LevelledLines → EngineState
engine_of store = store.gapped.engine

-- a session before and after a command
pub record WearCall : Type 0 where
  pub formulas_of : List ℕ → Formulas
  pub every : ℕ
  pub old : StoreSession LevelledLines
  pub new : StoreSession LevelledLines
  pub held : IsWearWorld (setup_in formulas_of old.state) every old

module _ (c : WearCall) where
  abbrev pub setup_of : Setup
  setup_of = setup_in c.formulas_of c.old.state

  abbrev pub before : WearState
  before = wear_of setup_of c.every c.old

  abbrev pub after : WearState
  after = wear_of setup_of c.every c.new

  abbrev pub IsHeld : Type 0
  IsHeld = IsWearWorld (setup_in c.formulas_of c.new.state) c.every c.new

  -- what is held, and what is answered
  abbrev pub Exit : WearCommand → WearAnswer → Type 0
  Exit command said = IsHeld × IsWearAnswered setup_of before command said after

  pub count_is : (store : LevelledLines) → c.new.store ≡ Some store → after.count ≡ store.gapped.count
  count_is store there = ap count_in there

  -- after a call with power on, and with power off
  module _ (shape : c.new.state.shape ≡ c.old.state.shape) (keys : c.new.state.keys ≡ c.old.state.keys)
      (levelled : HoldsLevelled setup_of c.new.state.ledger.marks) where
    pub on_after : (store : LevelledLines) → c.new.store ≡ Some store → store.gapped.every ≡ c.every
        → store.gapped.wear ≡ wear_in setup_of (plain_memory setup_of c.new.state.ledger.marks) → IsHeld
    on_after store there its wear = search rules

    pub off_after : c.new.store ≡ None → IsHeld
    off_after there = rw (shape, keys) (record { some_every = c.held.some_every; levelled = levelled; its_store = rw there tt })

  -- if no mark is made
  module _ (same : c.new.state.ledger.marks ≡ c.old.state.ledger.marks) where
    pub levelled_still : HoldsLevelled setup_of c.new.state.ledger.marks
    levelled_still = rw same c.held.levelled

    pub same_memory : after.memory ≡ before.memory
    same_memory = ap (λ (m : List Mark). levelled_memory setup_of (plain_memory setup_of m)) same

    pub same_wear : after.wear ≡ before.wear
    same_wear = ap (λ (m : List Mark). wear_in setup_of (plain_memory setup_of m)) same

  -- with power on before it
  module _ (world : IsLineWorld engine_of setup_of c.old) (store : LevelledLines) (there : c.old.store ≡ Some store) where
    pub on_before : IsLineOn setup_of c.old.state store.gapped.engine
    on_before = line_on_in engine_of setup_of c.old store world there

    pub levelled_as : IsLevelledAs setup_of c.every c.old.state.ledger.marks store
    levelled_as = rw there at c.held.its_store

    -- there are as many lines as the geometry says
    pub lines_are : store.gapped.lines ≡ wear_lines_in before
    lines_are = search rules

    pub count_before : before.count ≡ store.gapped.count
    count_before = ap count_in there

    pub place_is : (at : ℕ) → place_of store.gapped.lines store.gapped.wear at ≡ place_in before at
    place_is at =
        ap (λ k. place_of k store.gapped.wear at) lines_are ∙ ap (λ w. place_of (wear_lines_in before) w at) levelled_as.its_wear

    -- the state decides nothing of a line that there is
    pub undecided : (at : ℕ) → at < store.gapped.lines → wear_of_line before at None ≡ None
    undecided at low = let same = lines_are in of_line_is before at None on_before.powered (omega (arith, same, low))
