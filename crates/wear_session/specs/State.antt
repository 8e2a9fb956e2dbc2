-- The state of a levelled memory's session, which is plain data, and what it says of the memory.
use Rattle.std.specs.Prelude.{ℕ, ◌≡◌, ◌≤◌, ◌+◌, ◌==◌, nat_lt, Bool, not, List, [], ◌∷◌, map, replicate, unwrap_or, slice_set, if◌then◌else◌}
use Rattle.std.specs.List.{range_with_len}
use Rattle.pmem_base.specs.declared.lines.Line.{Line}
use Rattle.pmem_base.specs.declared.commands.Posted.{Posted}
use Rattle.pmem_base.specs.Lines.{line_at, zero_line}
use Rattle.suite.specs.Formulas.{Formulas}
use Rattle.suite.specs.Setup.{Setup}
use Rattle.plain_model.specs.State.{Memory, memory_with}
use Rattle.pmem_engine.specs.Calls.{whole_write}
use Rattle.line_session.specs.State.{LineSession, IsNewSession, setup_in, places_in, without_power}
use Rattle.start_gap.specs.declared.wear.Wear.{Wear}
use Rattle.start_gap.specs.Wear.{place_of, source_of, next_wear, first_wear}
use Rattle.start_gap.specs.Record.{wear_record, recorded}
use Rattle.start_gap.specs.Gapped.{logical_lines}

pub record WearState : Type 0 where
  -- geometry, keys, device, engine and marks
  pub session : LineSession
  -- the gap moves after each `every` writes since power came on
  pub every : ℕ
  -- the logical lines, and the wear that is recorded
  pub memory : Memory
  pub wear : Wear
  -- how many writes were done since power came on or a move was last due; 0 without power
  pub count : ℕ

-- ---- what it says

-- the geometry, and a suite's formulas under the session's keys
abbrev pub wear_setup_in : (List ℕ → Formulas) → WearState → Setup
wear_setup_in formulas_of state = setup_in formulas_of state.session

-- how many logical lines there are
abbrev pub wear_lines_in : WearState → ℕ
wear_lines_in state = logical_lines state.session.shape

abbrev pub place_in : WearState → ℕ → ℕ
place_in state a = place_of (wear_lines_in state) state.wear a

-- whether a move follows the next write
abbrev pub is_due : WearState → Bool
is_due state = not (nat_lt (state.count + 1) state.every)

-- the wear that is recorded
abbrev pub wear_in : Setup → Memory → Wear
wear_in setup places =
    let n = logical_lines setup.shape in unwrap_or (recorded n (line_at places (n + 1))) (first_wear n)

-- the logical lines, each at its place
abbrev pub levelled_memory : Setup → Memory → Memory
levelled_memory setup places =
    let n = logical_lines setup.shape in
    map (λ a. line_at places (place_of n (wear_in setup places) a)) (range_with_len 0 n)

-- the state of a session, after that many writes: memory and wear are what its marks say
abbrev pub wear_left : Setup → ℕ → LineSession → ℕ → WearState
wear_left setup every session count =
    let places = places_in setup session in
    record { session = session; every = every; memory = levelled_memory setup places; wear = wear_in setup places; count = count }

-- ---- the writes of the engine that a write is made of, in order

-- a move's: the line of the source into the gap, and the record of the next wear
abbrev pub moving_writes : ℕ → Wear → Memory → List Posted
moving_writes n wear places =
    whole_write wear.gap (line_at places (source_of n wear))
    ∷ whole_write (n + 1) (wear_record n (next_wear n wear)) ∷ []

-- the line's own, to its place
abbrev pub own_write : WearState → ℕ → Line → Posted
own_write state a plain = whole_write (place_in state a) plain

-- the line's own, and those of the move if one is due
abbrev pub engine_writes : Setup → WearState → ℕ → Line → List Posted
engine_writes setup state a plain =
    let own = own_write state a plain in
    own ∷ (if is_due state then moving_writes (wear_lines_in state) state.wear (memory_with (places_in setup state.session) own) else [])

-- ---- the state after

abbrev pub wear_without_power : WearState → WearState
wear_without_power state =
    record state { count = 0; session = without_power state.session }

-- So many of a write's engine writes were done: by the first the line is written, and by all three of a
-- write with its move the next wear is recorded.
abbrev pub with_writes : WearState → ℕ → Line → ℕ → WearState
with_writes state a plain done =
    if done == 0 then state
    else
    record state {
      memory = slice_set state.memory a plain;
      wear = if done == 3 then next_wear (wear_lines_in state) state.wear else state.wear;
      count = if is_due state then 0 else state.count + 1;
    }

-- ---- the beginning

-- A new session's device, whose lines are all zeros, of which none has moved.
pub record IsNewWear (setup : Setup) (every : ℕ) (state : WearState) : Type 0 where
  pub session : IsNewSession setup state.session
  pub its_every : state.every ≡ every
  pub some_every : 1 ≤ every
  pub memory : state.memory ≡ replicate (logical_lines setup.shape) zero_line
  pub wear : state.wear ≡ first_wear (logical_lines setup.shape)
  pub count : state.count ≡ 0
