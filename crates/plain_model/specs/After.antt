-- The plain machine after a command and its reply.
use Rattle.std.specs.Prelude.{ℕ, zero, suc, ◌+◌, ◌-◌, ◌^◌, min, nat_lt, Bool, true, false, not, ◌&&◌, ◌||◌, List, [], ◌∷◌, ◌++◌, take, unwrap_or, Some, None, option_map, if◌then◌else◌, slice_set}
use Rattle.pmem_base.specs.declared.lines.Line.{Line}
use Rattle.pmem_base.specs.declared.commands.Posted.{Posted}
use Rattle.pmem_base.specs.declared.commands.Command.{Command}
use Rattle.pmem_base.specs.declared.commands.Command.TheVariants as Do
use Rattle.pmem_base.specs.declared.answers.Mark.{Mark}
use Rattle.pmem_base.specs.declared.answers.Mark.TheVariants.{Begin, Seal}
use Rattle.pmem_base.specs.declared.answers.Answer.{Answer}
use Rattle.pmem_base.specs.declared.answers.Answer.TheVariants as Say
use Rattle.pmem_base.specs.Shape.{Shape}
use Rattle.pmem_base.specs.Layout as layout
use Rattle.pmem_base.specs.Layout.{page_of, Content, data_line, tags_from, content_of}
use Rattle.pmem_base.specs.Lines.{zero_line, put_bytes}
use Rattle.pmem_base.specs.WaitingWrites.{queue_of, queue_posted, queues_after_loss}
use Rattle.plain_model.specs.State.{PlainState, Reply, no_flags, is_flagged, has_flags, with_flag, without_flag, memory_with}

-- ---- what an answer says

-- the persist steps of an answer, 0 if it names none
abbrev pub steps_of : Answer → ℕ
steps_of (Say.Drained steps) = steps
steps_of (Say.Fenced drained steps) = steps
steps_of (Say.Turned left steps) = steps
steps_of (Say.Flushed x steps) = steps
steps_of (Say.Got line steps) = steps
steps_of (Say.CutKept drained steps) = steps
steps_of (Say.CutLost drained steps) = steps
steps_of (Say.Cut steps) = steps
steps_of (Say.Refused drained place steps) = steps
steps_of (Say.Spent drained page steps) = steps
steps_of (Say.Recovered trials digests steps) = steps
steps_of (Say.NoCounter at steps) = steps
steps_of (Say.WrongRoot kept found steps) = steps
steps_of (Say.LossSet steps) = steps
steps_of answer = 0

abbrev pub is_cut : Answer → Bool
is_cut (Say.CutKept drained steps) = true
is_cut (Say.CutLost drained steps) = true
is_cut (Say.Cut steps) = true
is_cut answer = false

-- how many writes a drain or a fence put into memory before the one that decided its answer
abbrev pub drained_of : Answer → ℕ
drained_of (Say.Fenced drained steps) = drained
drained_of (Say.CutKept drained steps) = unwrap_or drained 0
drained_of (Say.CutLost drained steps) = unwrap_or drained 0
drained_of (Say.Refused drained place steps) = unwrap_or drained 0
drained_of (Say.Spent drained page steps) = unwrap_or drained 0
drained_of answer = 0

-- ---- parts of a step

-- the port's front write is put into memory, and its line is whole again
abbrev pub after_front : PlainState → ℕ → List Posted → PlainState
after_front state port [] = state
after_front state port (write ∷ later) =
    record state {
      memory = memory_with state.memory write;
      queues = slice_set state.queues port later;
      hurt = without_flag state.hurt write.at;
      spoiled = without_flag state.spoiled write.at;
    }

abbrev pub after_drain : PlainState → ℕ → PlainState
after_drain state port = after_front state port (queue_of state.queues port)

-- the port's first n writes are drained
abbrev pub after_drains : PlainState → ℕ → ℕ → PlainState
after_drains state port zero = state
after_drains state port (suc n) = after_drains (after_drain state port) port n

-- the port's front write is dropped
abbrev pub without_front : PlainState → ℕ → List Posted → PlainState
without_front state port [] = state
without_front state port (write ∷ later) = record state { queues = slice_set state.queues port later }

abbrev pub after_drop : PlainState → ℕ → PlainState
after_drop state port = without_front state port (queue_of state.queues port)

-- a drain or a fence of the port
abbrev pub after_writes : PlainState → ℕ → Answer → PlainState
after_writes state port (Say.Drained steps) = after_drain state port
after_writes state port (Say.Fenced drained steps) = after_drains state port drained
after_writes state port (Say.CutKept drained steps) = after_drains state port (unwrap_or drained 0 + 1)
after_writes state port (Say.CutLost drained steps) = after_drains state port (unwrap_or drained 0)
after_writes state port (Say.Refused drained place steps) =
    after_drop (after_drains state port (unwrap_or drained 0)) port
after_writes state port (Say.Spent drained page steps) =
    after_drop (after_drains state port (unwrap_or drained 0)) port
after_writes state port answer = state

abbrev pub after_post : Shape → PlainState → ℕ → Posted → PlainState
after_post g state port write =
    record state {
      queues = slice_set state.queues port (queue_posted g.combines (queue_of state.queues port) write);
    }

-- what waits is lost, unless the queues are durable
abbrev pub after_power_loss : Shape → PlainState → PlainState
after_power_loss g state =
    record state { queues = queues_after_loss g.durable state.queues; power = false; fuse = None }

-- nothing can be dirty
abbrev pub after_clean : Shape → PlainState → PlainState
after_clean g state =
    record state {
      touched = no_flags (layout.pages g);
      flushed = no_flags (layout.meta_lines g);
    }

abbrev pub after_loosening : PlainState → PlainState
after_loosening state = record state { loose = state.loose || has_flags state.named }

abbrev pub after_on : Shape → PlainState → Answer → PlainState
after_on g state (Say.Recovered trials digests steps) =
    after_clean g (record (after_loosening state) { power = true })
after_on g state (Say.Cut steps) = after_loosening state
after_on g state answer = state

abbrev pub after_flush : Shape → PlainState → Answer → PlainState
after_flush g state (Say.Flushed x steps) = record state { flushed = with_flag state.flushed x }
after_flush g state Say.Clean = after_clean g state
after_flush g state answer = state

abbrev pub with_four_flags : List Bool → ℕ → List Bool
with_four_flags flags a = with_flag (with_flag (with_flag (with_flag flags a) (a + 1)) (a + 2)) (a + 3)

-- A changed device line hurts the data lines that it bears on. A data line that wasn't hurt and is
-- flipped under power is spoiled; any other change of it may restore it.
abbrev pub after_hurting : PlainState → Bool → Content → PlainState
after_hurting state flipped (data_line a) =
    record state {
      hurt = with_flag state.hurt a;
      spoiled = slice_set state.spoiled a (flipped && state.power && not (is_flagged state.hurt a));
    }
after_hurting state flipped (tags_from a) = record state { hurt = with_four_flags state.hurt a }
after_hurting state flipped content = state

abbrev pub after_tampering : Shape → PlainState → Bool → ℕ → PlainState
after_tampering g state flipped d =
    record (after_hurting state flipped (content_of g d)) { named = with_flag state.named d }

-- a whole line as a posted write, and bytes at a place of a line: `line` holds them from its front
abbrev pub posted_line : ℕ → Line → Posted
posted_line at line = record { at = at; from = 0; len = 64; line = line }

abbrev pub posted_part : ℕ → ℕ → ℕ → Line → Posted
posted_part at from count line =
    record {
      at = at;
      from = from;
      len = count;
      line = put_bytes zero_line from (take count line.0);
    }

-- ---- a step

-- the command's effect, by its answer
abbrev pub after_command : Shape → PlainState → Command → Answer → PlainState
after_command g state (Do.Post port at line) Say.Ok =
    after_post g state port (posted_line at line)
after_command g state (Do.Part port at from count line) Say.Ok =
    after_post g state port (posted_part at from count line)
after_command g state (Do.Drain port) answer = after_writes state port answer
after_command g state (Do.Fence port) answer = after_writes state port answer
after_command g state Do.Flush answer = after_flush g state answer
after_command g state (Do.Cut n) Say.Ok = record state { fuse = Some n }
after_command g state Do.Off Say.Ok = after_power_loss g state
after_command g state Do.On answer = after_on g state answer
after_command g state (Do.Poke d line) Say.Ok = after_tampering g state false d
after_command g state (Do.Flip d bit) Say.Ok = after_tampering g state true d
after_command g state (Do.Move from to) Say.Ok = after_tampering g state false to
after_command g state Do.Snap Say.Ok = record state { snapped = true }
after_command g state (Do.Back d) Say.Ok = after_tampering g state false d
after_command g state (Do.Loss n) (Say.LossSet steps) = record state { loss = n }
after_command g state command answer = state

-- a sum of 64 bits, which stands still at its end
abbrev pub steps_with : ℕ → ℕ → ℕ
steps_with steps more = min (steps + more) (2 ^ 64 - 1)

-- the steps are summed and taken off the fuse; a cut ends the power
abbrev pub after_steps : Shape → PlainState → Answer → PlainState
after_steps g state answer =
    let counted =
    record state {
      steps = steps_with state.steps (steps_of answer);
      fuse = option_map (λ n. n - steps_of answer) state.fuse;
    } in
    if is_cut answer then after_power_loss g counted else counted

-- the page that a mark may leave with dirty blocks
abbrev pub after_mark : Shape → PlainState → Mark → PlainState
after_mark g state (Begin page) =
    record state { touched = with_flag state.touched page; flushed = no_flags (layout.meta_lines g) }
after_mark g state (Seal at ctr cipher tag) =
    if nat_lt 0 ctr.minor then
    record state {
      touched = with_flag state.touched (page_of at);
      flushed = no_flags (layout.meta_lines g);
    }
    else state

abbrev pub after_marks : Shape → PlainState → List Mark → PlainState
after_marks g state [] = state
after_marks g state (mark ∷ marks) = after_marks g (after_mark g state mark) marks

-- the state after a command and its reply
abbrev pub state_after : Shape → PlainState → Command → Reply → PlainState
state_after g state command reply =
    after_marks g (after_steps g (after_command g state command reply.answer) reply.answer) reply.marks
