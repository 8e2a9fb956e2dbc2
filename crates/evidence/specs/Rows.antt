-- Traces with their replies, as lists of commands and replies.
use Rattle.std.specs.Prelude.{List, [], ◌∷◌}
use Rattle.pmem_base.specs.declared.commands.Command.{Command}
use Rattle.pmem_base.specs.declared.commands.Command.TheVariants as Do
use Rattle.pmem_base.specs.declared.answers.Mark.{Mark}
use Rattle.pmem_base.specs.declared.answers.Mark.TheVariants.{Begin, Seal}
use Rattle.pmem_base.specs.declared.answers.Answer.{Answer}
use Rattle.pmem_base.specs.declared.answers.Answer.TheVariants as Say
use Rattle.pmem_base.specs.Lines.{zero_line}
use Rattle.suite.specs.Setup.{Setup}
use Rattle.plain_model.specs.Defaults.{default_shape}
use Rattle.plain_model.specs.State.{PlainState, Reply, start_state}
use Rattle.plain_model.specs.View.{DeviceView, start_view, view_after_marks}
use Rattle.plain_model.specs.After.{state_after}
use Rattle.evidence.specs.Samples.{weak, blur, ctr, counting_line, short_tag}

abbrev pub weak_setup : Setup
weak_setup = record { shape = default_shape; formulas = weak }

abbrev pub blur_setup : Setup
blur_setup = record { shape = record default_shape { loss = 2 }; formulas = blur }

-- a reply without marks
abbrev pub plain : Answer → Reply
plain answer = record { marks = []; answer = answer }

-- a reply with these marks
abbrev pub marked : List Mark → Answer → Reply
marked marks answer = record { marks = marks; answer = answer }

-- the first seal of line 0 with 64 zero bytes, and of line 0 with 64 bytes 11
abbrev pub zero_seal : Mark
zero_seal = Seal 0 (ctr 0 1) (counting_line 1) (short_tag 0x51)

abbrev pub zero_post : Command
zero_post = Do.Post 0 0 zero_line

-- a formatted machine, and the machine with one write waiting
abbrev pub formatted : PlainState
formatted = start_state default_shape

abbrev pub formatted_view : DeviceView
formatted_view = start_view default_shape

abbrev pub one_waiting : PlainState
one_waiting = state_after default_shape formatted zero_post (plain Say.Ok)

-- and with that write drained
abbrev pub drained_reply : Reply
drained_reply = record { marks = zero_seal ∷ []; answer = Say.Drained 7 }

abbrev pub one_drained_view : DeviceView
one_drained_view = view_after_marks formatted_view drained_reply.marks

-- the machine after that drain, if the path of page 0 may be dirty, and once nothing is
abbrev pub one_drained : PlainState
one_drained = state_after default_shape one_waiting (Do.Drain 0) drained_reply

abbrev pub all_clean : PlainState
all_clean = state_after default_shape one_drained Do.Flush (plain Say.Clean)

-- a formatted machine with one bit of data line 5 flipped
abbrev pub flipped_state : PlainState
flipped_state = state_after default_shape formatted (Do.Flip 5 0) (plain Say.Ok)

-- with one bit of a node flipped, and with power off
abbrev pub node_flipped_state : PlainState
node_flipped_state = state_after default_shape formatted (Do.Flip 1281 0) (plain Say.Ok)

abbrev pub off_state : PlainState
off_state = state_after default_shape formatted Do.Off (plain Say.Ok)

abbrev pub blur_off : PlainState
blur_off = record off_state { loss = 2 }

-- page 0 open
abbrev pub page_open_view : DeviceView
page_open_view = view_after_marks formatted_view (Begin 0 ∷ [])
