-- What a step leaves of a durable queue.
use Rattle.std.specs.Prelude.{ℕ, ◌≡◌, ◌<◌, ◌+◌, ◌-◌, ◌==◌, ◌⊎◌, true, List, slice_get, unwrap_or, Option, Some, None, if◌then◌else◌}
use Rattle.pmem_base.specs.declared.commands.Posted.{Posted}
use Rattle.pmem_base.specs.declared.commands.Command.{Command}
use Rattle.pmem_base.specs.declared.commands.Command.TheVariants as Do
use Rattle.pmem_base.specs.declared.answers.Answer.{Answer}
use Rattle.pmem_base.specs.declared.answers.Answer.TheVariants as Say
use Rattle.pmem_base.specs.Shape.{Shape}
use Rattle.pmem_base.specs.WaitingWrites.{queue_of, combined_place}
use Rattle.plain_model.specs.State.{PlainState, Reply}
use Rattle.plain_model.specs.After.{posted_line, posted_part, state_after}

-- How many of the oldest writes an answer answers for: they are in memory, or given up as refused or spent. A write that
-- was lost in a cut isn't among them.
abbrev pub answered_count : Answer → ℕ
answered_count (Say.Drained steps) = 1
answered_count (Say.Fenced drained steps) = drained
answered_count (Say.CutKept drained steps) = unwrap_or drained 0 + 1
answered_count (Say.CutLost drained steps) = unwrap_or drained 0
answered_count (Say.Refused drained place steps) = unwrap_or drained 0 + 1
answered_count (Say.Spent drained page steps) = unwrap_or drained 0 + 1
answered_count answer = 0

-- how many of them wait at this port: a drain or a fence answers for its own port's
abbrev pub answered_at : Command → Answer → ℕ → ℕ
answered_at (Do.Drain at) answer port = if at == port then answered_count answer else 0
answered_at (Do.Fence at) answer port = if at == port then answered_count answer else 0
answered_at command answer port = 0

-- the write that a command answered `ok` posts at this port
abbrev pub posted_at : Command → Answer → ℕ → Option Posted
posted_at (Do.Post at line bytes) Say.Ok port = if at == port then Some (posted_line line bytes) else None
posted_at (Do.Part at line from count bytes) Say.Ok port =
    if at == port then Some (posted_part line from count bytes) else None
posted_at command answer port = None

-- a posted write takes this place of the port's queue
pub record IsPlaceTaken (g : Shape) (state : PlainState) (command : Command) (answer : Answer) (port place : ℕ) : Type 0 where
  pub posted : Posted
  pub its_port : posted_at command answer port ≡ Some posted
  pub combined : combined_place g.combines (queue_of state.queues port) posted ≡ Some place

-- In a durable queue a write stays in its place until a drain or a fence answers for it, or a posted one takes its place.
-- So it is whatever the reply, also over a cut and while power is off.
abbrev pub DurableWritesStay : Type 0
DurableWritesStay =
    (g : Shape) (state : PlainState) (command : Command) (reply : Reply) (port place : ℕ) (write : Posted)
    → g.durable ≡ true → slice_get (queue_of state.queues port) place ≡ Some write
    → (place < answered_at command reply.answer port)
    ⊎ (IsPlaceTaken g state command reply.answer port place
    ⊎ (slice_get (queue_of (state_after g state command reply).queues port) (place - answered_at command reply.answer port)
    ≡ Some write))
