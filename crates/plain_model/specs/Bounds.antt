-- How many persist steps, trials and digests an answer may show.
use Rattle.std.specs.Prelude.{ℕ, ◌≡◌, ◌<◌, ◌≤◌, ◌+◌, ◌-◌, ◌*◌, ◌==◌, nat_lt, nat_le, Bool, true, false, not, ◌&&◌, List, [], ◌∷◌, length, take, count_by, unwrap_or, min, is_none, Option, Some, None, IsTrue, MatchBool, ⊤, if◌then◌else◌}
use Rattle.std.specs.List.{list_any, range_with_len}
use Rattle.pmem_base.specs.declared.commands.Command.{Command}
use Rattle.pmem_base.specs.declared.commands.Command.TheVariants as Do
use Rattle.pmem_base.specs.declared.answers.Mark.{Mark}
use Rattle.pmem_base.specs.declared.answers.Mark.TheVariants.{Begin, Seal}
use Rattle.pmem_base.specs.declared.answers.Answer.{Answer}
use Rattle.pmem_base.specs.declared.answers.Answer.TheVariants as Say
use Rattle.pmem_base.specs.Shape.{Shape, lazy_levels, is_lazy}
use Rattle.pmem_base.specs.Layout as layout
use Rattle.pmem_base.specs.WaitingWrites.{queue_of}
use Rattle.bonsai_tree.specs.Positions.{level_of, is_on_path}
use Rattle.suite.specs.Setup.{Setup}
use Rattle.plain_model.specs.State.{PlainState, Reply, is_flagged}
use Rattle.plain_model.specs.View.{DeviceView}
use Rattle.plain_model.specs.Asked.{moment_of, marks_of_writes}

-- whether the block at x may be dirty: its level is lazy, it is on the path of a touched page, and `flush` hasn't named it
-- since
abbrev pub can_be_dirty : Shape → PlainState → ℕ → Bool
can_be_dirty g state x =
    is_lazy g (level_of x)
    && list_any (λ page. is_flagged state.touched page && is_on_path g page x)
    (range_with_len 0 (layout.pages g))
    && not (is_flagged state.flushed x)

-- how many blocks may be dirty
abbrev pub dirty_bound : Shape → PlainState → ℕ
dirty_bound g state = count_by (can_be_dirty g state) (range_with_len 0 (layout.meta_lines g))

abbrev pub is_seal : Mark → Bool
is_seal (Begin page) = false
is_seal (Seal at ctr cipher tag) = true

abbrev pub seal_count : List Mark → ℕ
seal_count marks = count_by is_seal marks

abbrev pub begin_count : List Mark → ℕ
begin_count marks = length marks - seal_count marks

-- the levels of a path
abbrev pub path_length : Shape → ℕ
path_length g = g.levels + 1

-- how many of a path's lowest lines stand in the group of a begin: those that the policy persists, and at least the
-- counter block
abbrev pub begun_lines : Shape → ℕ
begun_lines g = if g.persist == 0 then 1 else g.persist

-- the most lines of a group: a data line, its tag line, and the lowest lines of a path
abbrev pub group_bound : Shape → ℕ
group_bound g = 2 + begun_lines g

-- whether a mark is made by a group that may have lines of a path: a begin, or a seal with a minor above 0
abbrev pub is_path_mark : Mark → Bool
is_path_mark (Begin page) = true
is_path_mark (Seal at ctr cipher tag) = nat_lt 0 ctr.minor

abbrev pub path_mark_count : List Mark → ℕ
path_mark_count marks = count_by is_path_mark marks

-- n writes that make these marks
abbrev pub writing_bound : Shape → ℕ → List Mark → ℕ
writing_bound g n marks =
    n * (2 * path_length g + 1) + 4 * seal_count marks + 3 * begin_count marks
    + (begun_lines g - 1) * path_mark_count marks

-- one more write whose counter is used up
abbrev pub spent_bound : Shape → ℕ
spent_bound g = path_length g

-- the most counter blocks that a recovery makes again: one for each slot of their bank, and without shadow tables all
abbrev pub most_blocks : Shape → ℕ
most_blocks g =
    if g.persist == 0 then (if g.shadow then layout.slots g else layout.pages g) else 0

-- the most nodes: one for each slot of their banks, and without shadow tables all of lazy levels
abbrev pub most_nodes : Shape → ℕ
most_nodes g =
    if g.shadow then (if lazy_levels g == 0 then 0 else g.levels * layout.slots g)
    else layout.level_start (min (lazy_levels g) g.levels)

-- the most steps that redo an armed group: its lines, and the latch after them
abbrev pub redo_bound : Shape → ℕ
redo_bound g = group_bound g + 1

abbrev pub recovery_bound : Shape → ℕ
recovery_bound g = redo_bound g + (most_blocks g + most_nodes g) + layout.shadow_lines g

-- a step count that is at most, or at a cut less than, a bound
abbrev pub is_within : Bool → ℕ → ℕ → Bool
is_within cut steps bound = if cut then nat_lt steps bound else nat_le steps bound

-- a fetch alone writes back only blocks that may be dirty
abbrev pub IsFetchWithin : Bool → Shape → PlainState → ℕ → Type 0
IsFetchWithin cut g state steps =
    IsTrue (is_within cut steps (path_length g)) × IsTrue (is_within cut steps (dirty_bound g state))

-- the marks of the port's first n writes, none if one is spent
abbrev pub marks_of_first : Setup → PlainState → DeviceView → ℕ → ℕ → Option (List Mark)
marks_of_first setup state view port n =
    marks_of_writes setup.formulas (moment_of state view) (take n (queue_of state.queues port))

-- whether the write after n drained ones is spent
abbrev pub is_spent_in_flight : Setup → PlainState → DeviceView → ℕ → ℕ → Bool
is_spent_in_flight setup state view port n = is_none (marks_of_first setup state view port (n + 1))

-- the bound of a drain or fence that is cut in the write after n drained ones, with all marks asked
abbrev pub cut_bound : Setup → PlainState → DeviceView → ℕ → ℕ → ℕ
cut_bound setup state view port n =
    if is_spent_in_flight setup state view port n
    then
    writing_bound setup.shape n (unwrap_or (marks_of_first setup state view port n) [])
    + spent_bound setup.shape
    else
    writing_bound setup.shape (n + 1) (unwrap_or (marks_of_first setup state view port (n + 1)) [])

abbrev pub IsCutWriteWithin : Setup → PlainState → DeviceView → ℕ → Option ℕ → ℕ → Type 0
IsCutWriteWithin setup state view port None steps =
    (steps < cut_bound setup state view port 0)
    × MatchBool (is_spent_in_flight setup state view port 0)
    (steps < dirty_bound setup.shape state) ⊤
IsCutWriteWithin setup state view port (Some n) steps = steps < cut_bound setup state view port n

abbrev pub IsSpentWithin : Shape → PlainState → Option ℕ → List Mark → ℕ → Type 0
IsSpentWithin g state None marks steps = IsFetchWithin false g state steps
IsSpentWithin g state (Some n) marks steps = steps ≤ writing_bound g n marks + spent_bound g

-- A refusal, by the write after n drained ones: if that is spent, its steps are those of its path alone.
abbrev pub IsRefusedWriteWithin : Setup → PlainState → DeviceView → ℕ → Option ℕ → List Mark → ℕ → Type 0
IsRefusedWriteWithin setup state view port n marks steps =
    MatchBool (is_spent_in_flight setup state view port (unwrap_or n 0))
    (IsSpentWithin setup.shape state n marks steps)
    (steps ≤ writing_bound setup.shape (unwrap_or n 0 + 1) marks)

-- a drain or a fence, by its answer
abbrev pub IsWriteWithin : Setup → PlainState → DeviceView → ℕ → List Mark → Answer → Type 0
IsWriteWithin setup state view port marks (Say.Drained steps) =
    steps ≤ writing_bound setup.shape 1 marks
IsWriteWithin setup state view port marks (Say.Fenced n steps) =
    steps ≤ writing_bound setup.shape n marks
IsWriteWithin setup state view port marks (Say.Refused n place steps) =
    IsRefusedWriteWithin setup state view port n marks steps
IsWriteWithin setup state view port marks (Say.Spent n page steps) =
    IsSpentWithin setup.shape state n marks steps
IsWriteWithin setup state view port marks (Say.CutKept n steps) =
    IsCutWriteWithin setup state view port n steps
IsWriteWithin setup state view port marks (Say.CutLost n steps) =
    IsCutWriteWithin setup state view port n steps
IsWriteWithin setup state view port marks answer = ⊤

abbrev pub IsReadWithin : Shape → PlainState → Answer → Type 0
IsReadWithin g state (Say.Got line steps) = IsFetchWithin false g state steps
IsReadWithin g state (Say.Refused n place steps) = IsFetchWithin false g state steps
IsReadWithin g state (Say.Cut steps) = IsFetchWithin true g state steps
IsReadWithin g state answer = ⊤

abbrev pub IsTurnWithin : Answer → Type 0
IsTurnWithin (Say.Turned left steps) = steps ≡ 4
IsTurnWithin (Say.Refused n place steps) = steps ≡ 0
IsTurnWithin (Say.Cut steps) = steps < 4
IsTurnWithin answer = ⊤

abbrev pub IsFlushWithin : Answer → Type 0
IsFlushWithin (Say.Flushed x steps) = steps ≡ 1
IsFlushWithin (Say.Cut steps) = steps < 1
IsFlushWithin answer = ⊤

pub record IsRecoveryWithin (g : Shape) (loss trials digests steps : ℕ) : Type 0 where
  pub few_trials : trials ≤ 64 * loss * most_blocks g
  pub few_digests : digests ≤ 4 * most_nodes g + 1
  pub few_steps : steps ≤ recovery_bound g

abbrev pub IsOnWithin : Shape → PlainState → Answer → Type 0
IsOnWithin g state (Say.Recovered trials digests steps) =
    IsRecoveryWithin g state.loss trials digests steps
IsOnWithin g state (Say.NoCounter at steps) = steps ≤ redo_bound g
IsOnWithin g state (Say.WrongRoot kept found steps) = steps ≤ redo_bound g
IsOnWithin g state (Say.Cut steps) = steps < recovery_bound g
IsOnWithin g state answer = ⊤

-- the most counter blocks that can be dirty at once: one for each slot of their bank
abbrev pub dirty_blocks : Shape → ℕ
dirty_blocks g = if g.persist == 0 then layout.slots g else 0

-- the most steps that `loss n` takes
abbrev pub loss_bounds : Shape → PlainState → ℕ → List ℕ
loss_bounds g state n =
    if n == state.loss then 0 ∷ []
    else if nat_lt state.loss n then 1 ∷ []
    else (dirty_blocks g + 1) ∷ (dirty_bound g state + 1) ∷ []

abbrev pub AreAllWithin : Bool → ℕ → List ℕ → Type 0
AreAllWithin cut steps [] = ⊤
AreAllWithin cut steps (bound ∷ bounds) =
    IsTrue (is_within cut steps bound) × AreAllWithin cut steps bounds

abbrev pub IsLossWithin : Shape → PlainState → ℕ → Answer → Type 0
IsLossWithin g state n (Say.LossSet steps) = AreAllWithin false steps (loss_bounds g state n)
IsLossWithin g state n (Say.Cut steps) = AreAllWithin true steps (loss_bounds g state n)
IsLossWithin g state n answer = ⊤

abbrev pub IsWithinBounds : Setup → PlainState → DeviceView → Command → Reply → Type 0
IsWithinBounds setup state view (Do.Drain port) reply =
    IsWriteWithin setup state view port reply.marks reply.answer
IsWithinBounds setup state view (Do.Fence port) reply =
    IsWriteWithin setup state view port reply.marks reply.answer
IsWithinBounds setup state view (Do.Read port at) reply =
    IsReadWithin setup.shape state reply.answer
IsWithinBounds setup state view Do.Turn reply = IsTurnWithin reply.answer
IsWithinBounds setup state view Do.Flush reply = IsFlushWithin reply.answer
IsWithinBounds setup state view Do.On reply = IsOnWithin setup.shape state reply.answer
IsWithinBounds setup state view (Do.Loss n) reply =
    IsLossWithin setup.shape state n reply.answer
IsWithinBounds setup state view command reply = ⊤
