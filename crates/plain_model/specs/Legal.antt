-- When an answer other than an exhibit is legal.
use Rattle.std.specs.Prelude.{ℕ, zero, suc, ◌≡◌, ◌≢◌, ◌≤◌, ◌+◌, ◌==◌, nat_lt, Bool, true, not, ◌&&◌, ◌||◌, List, unwrap_or, slice_get, option_map, Option, Some, None, IsTrue, IsFalse, IfSome, MatchBool, MatchOption, ⊤}
use Rattle.pmem_base.specs.declared.lines.Line.{Line}
use Rattle.pmem_base.specs.declared.commands.Posted.{Posted}
use Rattle.pmem_base.specs.declared.commands.Command.{Command}
use Rattle.pmem_base.specs.declared.commands.Command.TheVariants as Do
use Rattle.pmem_base.specs.declared.answers.Answer.{Answer}
use Rattle.pmem_base.specs.declared.answers.Answer.TheVariants as Say
use Rattle.pmem_base.specs.declared.answers.Place.{Place}
use Rattle.pmem_base.specs.Layout as layout
use Rattle.pmem_base.specs.Layout.{page_of}
use Rattle.pmem_base.specs.WaitingWrites.{queue_of}
use Rattle.bonsai_tree.specs.Positions.{is_on_path, counter_position}
use Rattle.suite.specs.Setup.{Setup}
use Rattle.plain_model.specs.State.{PlainState, is_flagged, has_flags}
use Rattle.plain_model.specs.View.{DeviceView, true_line}
use Rattle.plain_model.specs.Bounds.{dirty_blocks}
use Rattle.plain_model.specs.After.{steps_of, is_cut, drained_of, after_drain, after_drains}
use Rattle.plain_model.specs.Answers.{seen_line, is_engine_answer}

-- a cut stands where the fuse does; other steps are within it
abbrev pub IsWithinFuse : Option ℕ → Answer → Type 0
IsWithinFuse fuse answer =
    MatchBool (is_cut answer)
    (fuse ≡ Some (steps_of answer))
    (IfSome fuse (λ n. steps_of answer ≤ n))

-- the first write of the port's queue
abbrev pub front_of : PlainState → ℕ → Option Posted
front_of state port = slice_get (queue_of state.queues port) 0

-- a write shorter than a line is put only into a line that isn't spoiled
abbrev pub can_put : PlainState → Option Posted → Bool
can_put state None = true
can_put state (Some write) = write.len == 64 || not (is_flagged state.spoiled write.at)

-- so it is for the port's first n writes, each at its turn
abbrev pub can_put_first : PlainState → ℕ → ℕ → Bool
can_put_first state port zero = true
can_put_first state port (suc n) =
    can_put state (front_of state port) && can_put_first (after_drain state port) port n

-- how many writes the answer puts into memory
abbrev pub put_count : Answer → ℕ
put_count (Say.Drained steps) = 1
put_count (Say.CutKept drained steps) = unwrap_or drained 0 + 1
put_count answer = drained_of answer

-- the metadata line x was tampered with, or the device was powered on over tampering
abbrev pub MayDiffer : Setup → PlainState → ℕ → Type 0
MayDiffer setup state x =
    IsTrue (is_flagged state.named (layout.meta_line setup.shape x) || state.loose)

-- the data line that the command is about, if the state is the one at its turn
abbrev pub line_at_turn : PlainState → Command → Option ℕ
line_at_turn state (Do.Read port at) = Some at
line_at_turn state (Do.Drain port) = option_map (λ write. write.at) (front_of state port)
line_at_turn state (Do.Fence port) = option_map (λ write. write.at) (front_of state port)
line_at_turn state command = None

-- the state once the writes that the answer counts are drained
abbrev pub state_at_turn : PlainState → Command → ℕ → PlainState
state_at_turn state (Do.Fence port) drained = after_drains state port drained
state_at_turn state command drained = state

-- in a read a refused data line is the line read
abbrev pub IsLineOfRead : Command → ℕ → Type 0
IsLineOfRead (Do.Read port at) b = b ≡ at
IsLineOfRead command b = ⊤

-- a refused data line is hurt; a refused metadata line may differ, and is on the path of the page
-- of the line read or written
abbrev pub IsRefusalCaused : Setup → PlainState → Command → Place → Type 0
IsRefusalCaused setup state command (Place.Line b) =
    IsTrue (is_flagged state.hurt b) × IsLineOfRead command b
IsRefusalCaused setup state command (Place.Meta x) =
    MatchOption (line_at_turn state command) ⊥
    (λ a. IsTrue (is_on_path setup.shape (page_of a) x) × MayDiffer setup state x)

-- a read prints what the port sees; memory's own part of it isn't spoiled
abbrev pub IsSeen : PlainState → Command → Line → Type 0
IsSeen state (Do.Read port at) line =
    (line ≡ seen_line state port at) × IsFalse (is_flagged state.spoiled at)
IsSeen state command line = ⊥

-- no counter fits only a hurt line, or one whose counter block may differ
abbrev pub IsNoCounterCaused : Setup → PlainState → ℕ → Type 0
IsNoCounterCaused setup state a =
    IsTrue
    (is_flagged state.hurt a
    || is_flagged state.named
    (layout.meta_line setup.shape (counter_position setup.shape (page_of a)))
    || state.loose)

-- the kept root is the true one, the found one is another, and some line was tampered with
pub record IsWrongRootCaused (setup : Setup) (state : PlainState) (view : DeviceView)
    (kept found : List ℕ) : Type 0 where
  pub tampered : IsTrue (has_flags state.named)
  pub kept_is_true : kept ≡ setup.formulas.digest_of 0 (true_line setup view 0)
  pub found_differs : found ≢ kept

-- a loss that isn't the present one takes one step if it is greater, and else one for each dirty block besides
abbrev pub IsLossSteps : Setup → PlainState → Command → ℕ → Type 0
IsLossSteps setup state (Do.Loss n) steps =
    MatchBool (nat_lt state.loss n) (steps ≡ 1)
    ((1 ≤ steps) × (steps ≤ dirty_blocks setup.shape + 1))
IsLossSteps setup state command steps = ⊥

-- what the answer needs next to the fuse
abbrev pub IsCaused : Setup → PlainState → DeviceView → Command → Answer → Type 0
IsCaused setup state view command (Say.Got line steps) = IsSeen state command line
IsCaused setup state view command (Say.Refused drained place steps) =
    IsRefusalCaused setup (state_at_turn state command (unwrap_or drained 0)) command place
IsCaused setup state view command (Say.NoCounter at steps) = IsNoCounterCaused setup state at
IsCaused setup state view command (Say.WrongRoot kept found steps) =
    IsWrongRootCaused setup state view kept found
IsCaused setup state view command (Say.LossSet steps) = IsLossSteps setup state command steps
IsCaused setup state view command answer = ⊤

-- the port whose writes the command drains: no other command drains one, and 0 stands for it
abbrev pub port_drained : Command → ℕ
port_drained (Do.Drain port) = port
port_drained (Do.Fence port) = port
port_drained command = 0

-- an answer that the engine decides, exhibits aside
pub record IsEngineLegal (setup : Setup) (state : PlainState) (view : DeviceView)
    (command : Command) (answer : Answer) : Type 0 where
  pub listed : IsTrue (is_engine_answer command answer)
  pub within_fuse : IsWithinFuse state.fuse answer
  pub writes_whole : IsTrue (can_put_first state (port_drained command) (put_count answer))
  pub caused : IsCaused setup state view command answer
