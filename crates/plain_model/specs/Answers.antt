-- Which answers a command can have: those that the table of the machine decides, and those that
-- are left to the engine.
use Rattle.std.specs.Prelude.{ℕ, ◌+◌, ◌==◌, nat_lt, nat_le, Bool, true, false, ◌&&◌, ◌||◌, length, is_some, is_none, Option, Some, None, if◌then◌else◌}
use Rattle.std.specs.List.{list_all, list_any, range_with_len}
use Rattle.pmem_base.specs.declared.lines.Line.{Line}
use Rattle.pmem_base.specs.declared.commands.Posted.{Posted}
use Rattle.pmem_base.specs.declared.commands.Command.{Command}
use Rattle.pmem_base.specs.declared.commands.Command.TheVariants as Do
use Rattle.pmem_base.specs.declared.answers.Answer.{Answer}
use Rattle.pmem_base.specs.declared.answers.Answer.TheVariants as Say
use Rattle.pmem_base.specs.Shape.{Shape, is_loss}
use Rattle.pmem_base.specs.Layout as layout
use Rattle.pmem_base.specs.Lines.{line_at}
use Rattle.pmem_base.specs.WaitingWrites.{queue_of, put_writes, writes_to, has_byte, is_queue_full}
use Rattle.plain_model.specs.State.{PlainState}
use Rattle.plain_model.specs.After.{posted_line, posted_part}

-- ---- reads of waiting writes

-- what a read of the port sees of line a
abbrev pub seen_line : PlainState → ℕ → ℕ → Line
seen_line state port a = put_writes (line_at state.memory a) (writes_to (queue_of state.queues port) a)

-- whether the port's waiting writes to line a have all of its 64 bytes
abbrev pub is_covered : PlainState → ℕ → ℕ → Bool
is_covered state port a =
    list_all (λ i. list_any (λ write. has_byte write i) (writes_to (queue_of state.queues port) a))
    (range_with_len 0 64)

-- ---- the table

-- the answer, if power is on
abbrev pub powered : PlainState → Option Answer → Option Answer
powered state answer = if state.power then answer else Some Say.Off

-- the answer, if the places are on the device
abbrev pub in_range : Bool → Option Answer → Option Answer
in_range holds answer = if holds then answer else Some Say.Range

abbrev pub posting_answer : Shape → PlainState → ℕ → Posted → Option Answer
posting_answer g state port write =
    powered state
    (in_range (nat_lt write.at (layout.data_lines g) && nat_le (write.from + write.len) 64)
    (if is_queue_full g.combines (queue_of state.queues port) write then Some Say.Full else Some Say.Ok))

abbrev pub is_on_device : Shape → ℕ → Bool
is_on_device g d = nat_lt d (layout.device_lines g)

-- the answer that the state alone decides, by the first condition that holds; none if the engine decides
abbrev pub decided_answer : Shape → PlainState → Command → Option Answer
decided_answer g state (Do.Post port at line) = posting_answer g state port (posted_line at line)
decided_answer g state (Do.Part port at from count line) = posting_answer g state port (posted_part at from count line)
decided_answer g state (Do.Drain port) =
    powered state (if length (queue_of state.queues port) == 0 then Some Say.Empty else None)
decided_answer g state (Do.Fence port) = powered state None
decided_answer g state (Do.Read port at) =
    powered state
    (in_range (nat_lt at (layout.data_lines g))
    (if is_covered state port at then Some (Say.Got (seen_line state port at) 0) else None))
decided_answer g state Do.Turn = powered state None
decided_answer g state Do.Flush = powered state None
decided_answer g state (Do.Cut n) = Some Say.Ok
decided_answer g state Do.Off = powered state (Some Say.Ok)
decided_answer g state Do.On = if state.power then Some Say.Already else None
decided_answer g state (Do.Poke d line) = in_range (is_on_device g d) (Some Say.Ok)
decided_answer g state (Do.Flip d bit) = in_range (is_on_device g d && nat_le bit 511) (Some Say.Ok)
decided_answer g state (Do.Move from to) = in_range (is_on_device g from && is_on_device g to) (Some Say.Ok)
decided_answer g state Do.Snap = Some Say.Ok
decided_answer g state (Do.Back d) =
    in_range (is_on_device g d) (if state.snapped then Some Say.Ok else Some Say.NoSnap)
decided_answer g state (Do.Peek d) = in_range (is_on_device g d) None
decided_answer g state Do.Stat = None
decided_answer g state (Do.Loss n) =
    powered state (in_range (is_loss n) (if n == state.loss then Some (Say.LossSet 0) else None))

-- ---- the engine's answers

abbrev pub is_drain_answer : Answer → Bool
is_drain_answer (Say.Drained steps) = true
is_drain_answer (Say.CutKept drained steps) = is_none drained
is_drain_answer (Say.CutLost drained steps) = is_none drained
is_drain_answer (Say.Refused drained place steps) = is_none drained
is_drain_answer (Say.Spent drained page steps) = is_none drained
is_drain_answer (Say.Shown exhibit) = true
is_drain_answer answer = false

abbrev pub is_fence_answer : Answer → Bool
is_fence_answer (Say.Fenced drained steps) = true
is_fence_answer (Say.CutKept drained steps) = is_some drained
is_fence_answer (Say.CutLost drained steps) = is_some drained
is_fence_answer (Say.Refused drained place steps) = is_some drained
is_fence_answer (Say.Spent drained page steps) = is_some drained
is_fence_answer (Say.Shown exhibit) = true
is_fence_answer answer = false

abbrev pub is_read_answer : Answer → Bool
is_read_answer (Say.Got line steps) = true
is_read_answer (Say.Cut steps) = true
is_read_answer (Say.Refused drained place steps) = is_none drained
is_read_answer (Say.Shown exhibit) = true
is_read_answer answer = false

abbrev pub is_turn_answer : Answer → Bool
is_turn_answer (Say.Turned left steps) = true
is_turn_answer Say.Idle = true
is_turn_answer (Say.Cut steps) = true
is_turn_answer (Say.Refused drained place steps) = is_none drained
is_turn_answer (Say.Shown exhibit) = true
is_turn_answer answer = false

abbrev pub is_flush_answer : Answer → Bool
is_flush_answer (Say.Flushed x steps) = true
is_flush_answer Say.Clean = true
is_flush_answer (Say.Cut steps) = true
is_flush_answer answer = false

abbrev pub is_on_answer : Answer → Bool
is_on_answer (Say.Recovered trials digests steps) = true
is_on_answer (Say.Cut steps) = true
is_on_answer (Say.NoCounter at steps) = true
is_on_answer (Say.WrongRoot kept found steps) = true
is_on_answer (Say.Shown exhibit) = true
is_on_answer answer = false

abbrev pub is_loss_answer : Answer → Bool
is_loss_answer (Say.LossSet steps) = true
is_loss_answer (Say.Cut steps) = true
is_loss_answer answer = false

abbrev pub is_raw : Answer → Bool
is_raw (Say.Raw line) = true
is_raw answer = false

abbrev pub is_counts : Answer → Bool
is_counts (Say.Counts counts) = true
is_counts answer = false

-- whether the answer is one that the engine gives to such a command
abbrev pub is_engine_answer : Command → Answer → Bool
is_engine_answer (Do.Drain port) answer = is_drain_answer answer
is_engine_answer (Do.Fence port) answer = is_fence_answer answer
is_engine_answer (Do.Read port at) answer = is_read_answer answer
is_engine_answer Do.Turn answer = is_turn_answer answer
is_engine_answer Do.Flush answer = is_flush_answer answer
is_engine_answer Do.On answer = is_on_answer answer
is_engine_answer (Do.Peek d) answer = is_raw answer
is_engine_answer Do.Stat answer = is_counts answer
is_engine_answer (Do.Loss n) answer = is_loss_answer answer
is_engine_answer command answer = false

-- ---- all answers of a command

-- the words by which the table alone answers
abbrev pub is_ok : Answer → Bool
is_ok Say.Ok = true
is_ok answer = false

abbrev pub is_off : Answer → Bool
is_off Say.Off = true
is_off answer = false

abbrev pub is_range : Answer → Bool
is_range Say.Range = true
is_range answer = false

abbrev pub is_full : Answer → Bool
is_full Say.Full = true
is_full answer = false

abbrev pub is_empty : Answer → Bool
is_empty Say.Empty = true
is_empty answer = false

abbrev pub is_already : Answer → Bool
is_already Say.Already = true
is_already answer = false

abbrev pub is_no_snap : Answer → Bool
is_no_snap Say.NoSnap = true
is_no_snap answer = false

abbrev pub is_posting_answer : Answer → Bool
is_posting_answer answer = is_ok answer || is_full answer || is_off answer || is_range answer

-- whether the table may give this answer to the command
abbrev pub is_table_answer : Command → Answer → Bool
is_table_answer (Do.Post port at line) answer = is_posting_answer answer
is_table_answer (Do.Part port at from count line) answer = is_posting_answer answer
is_table_answer (Do.Drain port) answer = is_off answer || is_empty answer
is_table_answer (Do.Fence port) answer = is_off answer
is_table_answer (Do.Read port at) answer = is_off answer || is_range answer
is_table_answer Do.Turn answer = is_off answer
is_table_answer Do.Flush answer = is_off answer
is_table_answer (Do.Cut n) answer = is_ok answer
is_table_answer Do.Off answer = is_off answer || is_ok answer
is_table_answer Do.On answer = is_already answer
is_table_answer (Do.Poke d line) answer = is_ok answer || is_range answer
is_table_answer (Do.Flip d bit) answer = is_ok answer || is_range answer
is_table_answer (Do.Move from to) answer = is_ok answer || is_range answer
is_table_answer Do.Snap answer = is_ok answer
is_table_answer (Do.Back d) answer = is_ok answer || is_no_snap answer || is_range answer
is_table_answer (Do.Peek d) answer = is_range answer
is_table_answer Do.Stat answer = false
is_table_answer (Do.Loss n) answer = is_off answer || is_range answer

-- whether the command can have this answer
abbrev pub is_answer_to : Command → Answer → Bool
is_answer_to command answer = is_table_answer command answer || is_engine_answer command answer

-- whether the answer is an exhibit, which ends the run
abbrev pub is_shown : Answer → Bool
is_shown (Say.Shown exhibit) = true
is_shown answer = false
