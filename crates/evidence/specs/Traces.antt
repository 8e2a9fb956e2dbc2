-- Whole traces: each command with its reply.
use Rattle.std.specs.Prelude.{ℕ, ◌-◌, ◌*◌, ◌^◌, List, [], ◌∷◌, ◌++◌, map, replicate, Some, None, slice_set}
use Rattle.std.specs.List.{range_with_len}
use Rattle.pmem_base.specs.declared.lines.Line.{Line}
use Rattle.pmem_base.specs.declared.lines.Ctr.{Ctr}
use Rattle.pmem_base.specs.declared.commands.Command.{Command}
use Rattle.pmem_base.specs.declared.commands.Command.TheVariants as Do
use Rattle.pmem_base.specs.declared.answers.Mark.{Mark}
use Rattle.pmem_base.specs.declared.answers.Mark.TheVariants.{Begin, Seal}
use Rattle.pmem_base.specs.declared.answers.Answer.{Answer}
use Rattle.pmem_base.specs.declared.answers.Answer.TheVariants as Say
use Rattle.pmem_base.specs.declared.answers.Place.TheVariants as Place
use Rattle.pmem_base.specs.declared.answers.Exhibit.TheVariants.{Clash, Forged, Twin}
use Rattle.pmem_base.specs.Lines.{line_of, filled_line, zero_line}
use Rattle.suite.specs.Setup.{Setup}
use Rattle.plain_model.specs.Defaults.{default_shape}
use Rattle.plain_model.specs.State.{PlainState, Reply, start_state}
use Rattle.plain_model.specs.View.{DeviceView, start_view, view_after_marks}
use Rattle.plain_model.specs.Asked.{seal_mark}
use Rattle.plain_model.specs.After.{state_after}
use Rattle.evidence.specs.Chains.{IsChain}
use Rattle.evidence.specs.Samples.{weak, ctr, counting_line, short_tag, one_byte_line}
use Rattle.evidence.specs.Rows.{weak_setup, plain, zero_seal, zero_post}

abbrev pub Trace : Type 0
Trace = List (Command × Reply)

-- the trace is a chain of legal and fitting replies from a formatted machine
abbrev pub IsTraceOf : Setup → Trace → Type 0
IsTraceOf setup trace =
    IsChain setup (start_state setup.shape) (start_view setup.shape)
    (map (λ step. step.0) trace) (map (λ step. step.1) trace)

-- the state and the view that a trace's replies lead to
abbrev pub state_of_trace : Setup → PlainState → Trace → PlainState
state_of_trace setup state [] = state
state_of_trace setup state (step ∷ trace) =
    state_of_trace setup (state_after setup.shape state step.0 step.1) trace

abbrev pub view_of_trace : DeviceView → Trace → DeviceView
view_of_trace view [] = view
view_of_trace view (step ∷ trace) = view_of_trace (view_after_marks view step.1.marks) trace

-- the second trace is a chain after the first
abbrev pub IsTraceAfter : Setup → Trace → Trace → Type 0
IsTraceAfter setup before trace =
    IsChain setup
    (state_of_trace setup (start_state setup.shape) before)
    (view_of_trace (start_view setup.shape) before)
    (map (λ step. step.0) trace) (map (λ step. step.1) trace)

abbrev pub answered : Command → Answer → Command × Reply
answered command answer = (command, plain answer)

abbrev pub answered_with : Command → List Mark → Answer → Command × Reply
answered_with command marks answer = (command, record { marks = marks; answer = answer })

-- a seal whose cipher and tag the weak suite gives
abbrev pub weak_seal : ℕ → Ctr → Line → Mark
weak_seal at ctr plain = seal_mark weak at ctr plain

-- the marks of a drain that begins page 0 again and seals each of its lines
abbrev pub whole_page_seals : List Mark
whole_page_seals = Begin 0 ∷ weak_seal 0 (ctr 1 1) zero_line ∷ map (λ i. weak_seal i (ctr 1 0) zero_line) (range_with_len 1 63)

-- what lies on the device before and after one write
abbrev pub peeks : Trace
peeks =
    answered (Do.Peek 0) (Say.Raw (counting_line 0))
    ∷ answered zero_post Say.Ok
    ∷ answered_with (Do.Drain 0) (zero_seal ∷ []) (Say.Drained 7)
    ∷ answered (Do.Peek 0) (Say.Raw (counting_line 1))
    ∷ answered (Do.Peek 1024)
    (Say.Raw (line_of (short_tag 0x51 ++ short_tag 0x51 ++ short_tag 0x12 ++ short_tag 0x53)))
    ∷ answered Do.Stat
    (Say.Counts (record { reads = 4; writes = 5; latches = 2; tags = 1; digests = 6 }))
    ∷ []

abbrev pub post_11 : Command
post_11 = Do.Post 0 0 (filled_line 0x11)

-- a cut before the arming latch, and after it
abbrev pub cut_lost : Trace
cut_lost =
    answered post_11 Say.Ok
    ∷ answered (Do.Cut 0) Say.Ok
    ∷ answered (Do.Drain 0) (Say.CutLost None 0)
    ∷ answered Do.On (Say.Recovered 0 1 0)
    ∷ answered (Do.Read 0 0) (Say.Got zero_line 0)
    ∷ []

abbrev pub cut_kept : Trace
cut_kept =
    answered post_11 Say.Ok
    ∷ answered (Do.Cut 4) Say.Ok
    ∷ answered_with (Do.Drain 0) (weak_seal 0 (ctr 0 1) (filled_line 0x11) ∷ []) (Say.CutKept None 4)
    ∷ answered (Do.Cut 3) Say.Ok
    ∷ answered Do.On (Say.Cut 3)
    ∷ answered Do.On (Say.Recovered 256 9 5)
    ∷ answered (Do.Read 0 0) (Say.Got (filled_line 0x11) 0)
    ∷ answered post_11 Say.Ok
    ∷ answered_with (Do.Drain 0) (weak_seal 0 (ctr 0 2) (filled_line 0x11) ∷ []) (Say.Drained 7)
    ∷ []

-- a flipped line is refused until it is written again
abbrev pub flipped : Trace
flipped =
    answered (Do.Flip 5 0) Say.Ok
    ∷ answered (Do.Read 0 5) (Say.Refused None (Place.Line 5) 0)
    ∷ answered (Do.Post 0 5 (filled_line 0x77)) Say.Ok
    ∷ answered_with (Do.Drain 0) (weak_seal 5 (ctr 0 1) (filled_line 0x77) ∷ []) (Say.Drained 7)
    ∷ answered (Do.Read 0 5) (Say.Got (filled_line 0x77) 0)
    ∷ []

-- flipped back, it is read again
abbrev pub flipped_back : Trace
flipped_back =
    answered (Do.Flip 5 0) Say.Ok
    ∷ answered (Do.Flip 5 0) Say.Ok
    ∷ answered (Do.Read 0 5) (Say.Got zero_line 0)
    ∷ []

-- a replay of block, data and tag is found by the root
abbrev pub replayed : Trace
replayed =
    answered Do.Snap Say.Ok
    ∷ answered zero_post Say.Ok
    ∷ answered_with (Do.Drain 0) (zero_seal ∷ []) (Say.Drained 7)
    ∷ answered Do.Flush (Say.Flushed 0 1)
    ∷ answered Do.Flush (Say.Flushed 1 1)
    ∷ answered Do.Flush (Say.Flushed 5 1)
    ∷ answered Do.Flush Say.Clean
    ∷ answered (Do.Back 0) Say.Ok
    ∷ answered (Do.Back 1024) Say.Ok
    ∷ answered (Do.Back 1285) Say.Ok
    ∷ answered Do.Off Say.Ok
    ∷ answered Do.On (Say.WrongRoot (short_tag 0x17) (short_tag 0x15) 0)
    ∷ []

-- a changed node is refused on the paths that it is on
abbrev pub node_flipped : Trace
node_flipped =
    answered (Do.Flip 1281 0) Say.Ok
    ∷ answered (Do.Read 0 0) (Say.Refused None (Place.Meta 1) 0)
    ∷ answered (Do.Read 0 256) (Say.Got zero_line 0)
    ∷ []

-- three writes of one port, and an empty fence
abbrev pub fenced : Trace
fenced =
    answered (Do.Post 3 0 zero_line) Say.Ok
    ∷ answered (Do.Post 3 64 zero_line) Say.Ok
    ∷ answered (Do.Post 3 0 (filled_line 0x22)) Say.Ok
    ∷ answered_with (Do.Fence 3)
    (zero_seal ∷ weak_seal 64 (ctr 0 1) zero_line ∷ weak_seal 0 (ctr 0 2) (filled_line 0x22) ∷ [])
    (Say.Fenced 3 16)
    ∷ answered (Do.Fence 3) (Say.Fenced 0 0)
    ∷ []

-- a short write is read over memory's line, and drained into it
abbrev pub mixed_line : Line
mixed_line = line_of (0x11 ∷ 0x11 ∷ 0xaa ∷ 0xbb ∷ replicate 60 0x11)

abbrev pub parted : Trace
parted =
    answered post_11 Say.Ok
    ∷ answered_with (Do.Drain 0) (weak_seal 0 (ctr 0 1) (filled_line 0x11) ∷ []) (Say.Drained 7)
    ∷ answered (Do.Part 0 0 2 2 (line_of (0xaa ∷ 0xbb ∷ replicate 62 0))) Say.Ok
    ∷ answered (Do.Read 0 0) (Say.Got mixed_line 0)
    ∷ answered_with (Do.Drain 0) (weak_seal 0 (ctr 0 2) mixed_line ∷ []) (Say.Drained 4)
    ∷ answered (Do.Read 0 0) (Say.Got mixed_line 0)
    ∷ []

-- a smaller stop-loss number, and recovery by its windows
abbrev pub loss_lowered : Trace
loss_lowered =
    answered zero_post Say.Ok
    ∷ answered_with (Do.Drain 0) (zero_seal ∷ []) (Say.Drained 7)
    ∷ answered (Do.Loss 2) (Say.LossSet 2)
    ∷ answered Do.Off Say.Ok
    ∷ answered Do.On (Say.Recovered 127 9 4)
    ∷ []

-- a tag that fits a line never sealed under its counter
abbrev pub forged : Trace
forged =
    answered (Do.Flip 5 0) Say.Ok
    ∷ answered (Do.Flip 5 8) Say.Ok
    ∷ answered (Do.Read 0 5)
    (Say.Shown (Forged 5 (ctr 0 0) (line_of (4 ∷ 7 ∷ range_with_len 7 62)) (short_tag 0x55)))
    ∷ []

-- two lines with one digest
abbrev pub major_one : Setup
major_one = record { shape = record default_shape { major = 1 }; formulas = weak }

abbrev pub clashed : Trace
clashed =
    answered (Do.Poke 1285 (one_byte_line 1)) Say.Ok
    ∷ answered (Do.Read 0 0)
    (Say.Shown (Clash 5 (one_byte_line 1) (line_of (replicate 7 0 ++ 1 ∷ replicate 56 0))))
    ∷ []

-- under blur one tag fits two counters, with no tampering
abbrev pub twinned : Trace
twinned =
    answered zero_post Say.Ok
    ∷ answered_with (Do.Drain 0) (Seal 0 (ctr 0 1) (counting_line 1) (short_tag 0x50) ∷ []) (Say.Drained 7)
    ∷ answered Do.Off Say.Ok
    ∷ answered Do.On (Say.Shown (Twin 0 0 0 1 (counting_line 1) (short_tag 0x50)))
    ∷ []

-- ---- pages under re-encryption

-- the view in which these lines have the counter 0.127
abbrev pub view_at_end : List ℕ → DeviceView
view_at_end [] = start_view default_shape
view_at_end (a ∷ lines) =
    let view = view_at_end lines in
    record view { counters = slice_set view.counters a (ctr 0 127) }

abbrev pub IsTraceFrom : DeviceView → Trace → Type 0
IsTraceFrom view trace =
    IsChain weak_setup (start_state default_shape) view
    (map (λ step. step.0) trace) (map (λ step. step.1) trace)

-- an overflow begins its page and seals one line
abbrev pub overflowed : Trace
overflowed =
    answered zero_post Say.Ok
    ∷ answered_with (Do.Drain 0) (Begin 0 ∷ weak_seal 0 (ctr 1 1) zero_line ∷ []) (Say.Drained 7)
    ∷ []

-- the turns of page 0 after that, and then none is left
abbrev pub turn_of : ℕ → Command × Reply
turn_of i = answered_with Do.Turn (weak_seal i (ctr 1 0) zero_line ∷ []) (Say.Turned (63 - i) 4)

abbrev pub all_turned : Trace
all_turned = overflowed ++ map turn_of (range_with_len 1 63) ++ answered Do.Turn Say.Idle ∷ []

-- a write to a line not done, a cut turn and recovery, and the next turn
abbrev pub turn_cut : Trace
turn_cut =
    overflowed
    ++ turn_of 1
    ∷ answered (Do.Post 0 5 (filled_line 0x55)) Say.Ok
    ∷ answered_with (Do.Drain 0) (weak_seal 5 (ctr 1 1) (filled_line 0x55) ∷ []) (Say.Drained 4)
    ∷ answered (Do.Cut 0) Say.Ok
    ∷ answered Do.Turn (Say.Cut 0)
    ∷ answered Do.On (Say.Recovered 12 9 5)
    ∷ answered (Do.Read 0 1) (Say.Got zero_line 0)
    ∷ answered (Do.Read 0 5) (Say.Got (filled_line 0x55) 0)
    ∷ answered_with Do.Turn (weak_seal 2 (ctr 1 0) zero_line ∷ []) (Say.Turned 60 4)
    ∷ []

-- four pages open, and a fifth: the oldest is finished first
abbrev pub opened : ℕ → Trace
opened page =
    answered (Do.Post 0 (64 * page) zero_line) Say.Ok
    ∷ answered_with (Do.Drain 0) (Begin page ∷ weak_seal (64 * page) (ctr 1 1) zero_line ∷ []) (Say.Drained 7)
    ∷ []

abbrev pub five_opened : Trace
five_opened =
    opened 0 ++ opened 1 ++ opened 2 ++ opened 3
    ++ answered (Do.Post 0 256 zero_line) Say.Ok
    ∷ answered_with (Do.Drain 0)
    (map (λ i. weak_seal i (ctr 1 0) zero_line) (range_with_len 1 63)
    ++ Begin 4 ∷ weak_seal 256 (ctr 1 1) zero_line ∷ [])
    (Say.Drained 259)
    ∷ answered_with Do.Turn (weak_seal 65 (ctr 1 0) zero_line ∷ []) (Say.Turned 62 4)
    ∷ []

-- a flipped line refuses a read of its waiting part, and the part's drain
abbrev pub part_refused : Trace
part_refused =
    answered (Do.Flip 0 0) Say.Ok
    ∷ answered (Do.Part 0 0 0 1 (one_byte_line 0xff)) Say.Ok
    ∷ answered (Do.Read 0 0) (Say.Refused None (Place.Line 0) 0)
    ∷ answered (Do.Drain 0) (Say.Refused None (Place.Line 0) 0)
    ∷ answered (Do.Read 0 0) (Say.Refused None (Place.Line 0) 0)
    ∷ []

-- a short write into a flipped line refuses a fence, after a seal and an overflow of its page
abbrev pub fence_refused : Trace
fence_refused =
    answered (Do.Flip 1 0) Say.Ok
    ∷ answered (Do.Post 0 64 zero_line) Say.Ok
    ∷ answered zero_post Say.Ok
    ∷ answered (Do.Part 0 1 0 1 (one_byte_line 0xff)) Say.Ok
    ∷ answered_with (Do.Fence 0)
    (weak_seal 64 (ctr 0 1) zero_line ∷ Begin 0 ∷ weak_seal 0 (ctr 1 1) zero_line ∷ [])
    (Say.Refused (Some 2) (Place.Line 1) 15)
    ∷ answered (Do.Read 0 1) (Say.Refused None (Place.Line 1) 0)
    ∷ answered Do.Turn (Say.Refused None (Place.Line 1) 0)
    ∷ []

-- a counter that is used up
abbrev pub last_major : Setup
last_major = record { shape = record default_shape { major = 2 ^ 64 - 1 }; formulas = weak }

abbrev pub spent_view : DeviceView
spent_view =
    let view = start_view last_major.shape in
    record view { counters = slice_set view.counters 0 (ctr (2 ^ 64 - 1) 127) }

abbrev pub spent_trace : Trace
spent_trace =
    answered zero_post Say.Ok
    ∷ answered (Do.Drain 0) (Say.Spent None 0 0)
    ∷ answered (Do.Drain 0) Say.Empty
    ∷ []

abbrev pub IsSpentTrace : Trace → Type 0
IsSpentTrace trace =
    IsChain last_major (start_state last_major.shape) spent_view
    (map (λ step. step.0) trace) (map (λ step. step.1) trace)

-- ---- replies alone

-- ---- a refusal while a page is being finished

-- page 0 open with the lines 5 and 6 not done, and line 0 at the end of its minors
abbrev pub nearly_done : DeviceView
nearly_done =
    record {
      counters =
          ctr 1 127 ∷ replicate 4 (ctr 1 0) ++ ctr 0 0 ∷ ctr 0 0 ∷ replicate 57 (ctr 1 0)
          ++ replicate 960 (ctr 0 0);
      open_pages = record { page = 0; major = 1; left = 5 ∷ 6 ∷ [] } ∷ [];
    }

abbrev pub finish_refused : Trace
finish_refused =
    answered (Do.Flip 6 0) Say.Ok
    ∷ answered zero_post Say.Ok
    ∷ answered_with (Do.Drain 0) (weak_seal 5 (ctr 1 0) zero_line ∷ []) (Say.Refused None (Place.Line 6) 4)
    ∷ answered Do.Turn (Say.Refused None (Place.Line 6) 0)
    ∷ []

abbrev pub finished : Trace
finished =
    answered zero_post Say.Ok
    ∷ answered_with (Do.Drain 0)
    (weak_seal 5 (ctr 1 0) zero_line ∷ weak_seal 6 (ctr 1 0) zero_line ∷ Begin 0
    ∷ weak_seal 0 (ctr 2 1) zero_line ∷ [])
    (Say.Drained 15)
    ∷ answered_with Do.Turn (weak_seal 1 (ctr 2 0) zero_line ∷ []) (Say.Turned 62 4)
    ∷ []
