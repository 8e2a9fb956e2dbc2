-- The texts of commands, marks, answers and replies.
use Rattle.std.specs.Prelude.{ℕ, ◌≡◌, List, [], ◌∷◌, ◌++◌, take, codes, decimal, Option, Some, None, IsTrue}
use Rattle.pmem_base.specs.declared.commands.Command.{Command}
use Rattle.pmem_base.specs.declared.commands.Command.TheVariants as Do
use Rattle.pmem_base.specs.declared.answers.Mark.{Mark}
use Rattle.pmem_base.specs.declared.answers.Mark.TheVariants.{Begin, Seal}
use Rattle.pmem_base.specs.declared.answers.Place.{Place}
use Rattle.pmem_base.specs.declared.answers.Answer.{Answer}
use Rattle.pmem_base.specs.declared.answers.Answer.TheVariants as Say
use Rattle.pmem_base.specs.Ranges.{IsAnswer}
use Rattle.plain_model.specs.State.{Reply}
use Rattle.collision_witness.specs.Words.{Word}
use Rattle.collision_witness.specs.Texts.{sentence, hex_text, line_text, counter_text, exhibit_text}
use Rattle.plain_model.specs.Answers.{is_answer_to}

-- ---- marks

unfoldable pub mark_text : Mark → List ℕ
mark_text (Begin page) = sentence (codes "begin" ∷ decimal page ∷ [])
mark_text (Seal at ctr cipher tag) =
    sentence (codes "seal" ∷ decimal at ∷ counter_text ctr ∷ hex_text tag ∷ [])

-- ---- answers

abbrev pub place_words : Place → List Word
place_words (Place.Line at) = codes "data" ∷ decimal at ∷ []
place_words (Place.Meta x) = codes "meta" ∷ decimal x ∷ []

-- the number of drained writes, in a fence's answer alone
abbrev pub drained_words : Option ℕ → List Word
drained_words None = []
drained_words (Some drained) = decimal drained ∷ []

abbrev pub answer_words : Answer → List Word
answer_words Say.Ok = codes "ok" ∷ []
answer_words (Say.Drained steps) = codes "ok" ∷ decimal steps ∷ []
answer_words (Say.Fenced drained steps) = codes "ok" ∷ decimal drained ∷ decimal steps ∷ []
answer_words (Say.Turned left steps) = codes "ok" ∷ decimal left ∷ decimal steps ∷ []
answer_words (Say.Flushed x steps) = codes "ok" ∷ decimal x ∷ decimal steps ∷ []
answer_words (Say.Got line steps) = codes "line" ∷ line_text line ∷ decimal steps ∷ []
answer_words (Say.CutKept drained steps) =
    codes "cut" ∷ codes "kept" ∷ drained_words drained ++ decimal steps ∷ []
answer_words (Say.CutLost drained steps) =
    codes "cut" ∷ codes "lost" ∷ drained_words drained ++ decimal steps ∷ []
answer_words (Say.Cut steps) = codes "cut" ∷ decimal steps ∷ []
answer_words (Say.Refused drained place steps) =
    codes "refused" ∷ drained_words drained ++ place_words place ++ decimal steps ∷ []
answer_words (Say.Spent drained page steps) =
    codes "spent" ∷ drained_words drained ++ decimal page ∷ decimal steps ∷ []
answer_words (Say.Recovered trials digests steps) =
    codes "on" ∷ decimal trials ∷ decimal digests ∷ decimal steps ∷ []
answer_words (Say.NoCounter at steps) =
    codes "refused" ∷ codes "counter" ∷ decimal at ∷ decimal steps ∷ []
answer_words (Say.WrongRoot kept found steps) =
    codes "refused" ∷ codes "root" ∷ hex_text kept ∷ hex_text found ∷ decimal steps ∷ []
answer_words (Say.Raw line) = codes "raw" ∷ line_text line ∷ []
answer_words (Say.Counts counts) =
    codes "stat" ∷ decimal counts.reads ∷ decimal counts.writes ∷ decimal counts.latches
    ∷ decimal counts.tags ∷ decimal counts.digests ∷ []
answer_words (Say.LossSet steps) = codes "ok" ∷ decimal steps ∷ []
answer_words Say.Full = codes "full" ∷ []
answer_words Say.Empty = codes "empty" ∷ []
answer_words Say.Idle = codes "idle" ∷ []
answer_words Say.Clean = codes "clean" ∷ []
answer_words Say.Off = codes "off" ∷ []
answer_words Say.Already = codes "already" ∷ []
answer_words Say.Range = codes "range" ∷ []
answer_words Say.NoSnap = codes "none" ∷ []
answer_words (Say.Shown exhibit) = exhibit_text exhibit ∷ []

unfoldable pub answer_text : Answer → List ℕ
answer_text answer = sentence (answer_words answer)

-- the text of an answer to the command, with numbers and bytes in their ranges
pub record IsAnswerText (command : Command) (text : List ℕ) (answer : Answer) : Type 0 where
  pub listed : IsTrue (is_answer_to command answer)
  pub in_range : IsAnswer answer
  pub its_text : answer_text answer ≡ text

-- ---- replies: each mark and then the answer, each with LF

abbrev pub as_line : List ℕ → List ℕ
as_line text = text ++ 10 ∷ []

abbrev pub marks_text : List Mark → List ℕ
marks_text [] = []
marks_text (mark ∷ marks) = as_line (mark_text mark) ++ marks_text marks

abbrev pub reply_text : Reply → List ℕ
reply_text reply = marks_text reply.marks ++ as_line (answer_text reply.answer)

-- ---- commands

abbrev pub command_words : Command → List Word
command_words (Do.Post port at line) = codes "post" ∷ decimal port ∷ decimal at ∷ line_text line ∷ []
command_words (Do.Part port at from count line) =
    codes "part" ∷ decimal port ∷ decimal at ∷ decimal from ∷ hex_text (take count line.0) ∷ []
command_words (Do.Drain port) = codes "drain" ∷ decimal port ∷ []
command_words (Do.Fence port) = codes "fence" ∷ decimal port ∷ []
command_words (Do.Read port at) = codes "read" ∷ decimal port ∷ decimal at ∷ []
command_words Do.Turn = codes "turn" ∷ []
command_words Do.Flush = codes "flush" ∷ []
command_words (Do.Cut n) = codes "cut" ∷ decimal n ∷ []
command_words Do.Off = codes "off" ∷ []
command_words Do.On = codes "on" ∷ []
command_words (Do.Poke at line) = codes "poke" ∷ decimal at ∷ line_text line ∷ []
command_words (Do.Flip at bit) = codes "flip" ∷ decimal at ∷ decimal bit ∷ []
command_words (Do.Move from to) = codes "move" ∷ decimal from ∷ decimal to ∷ []
command_words Do.Snap = codes "snap" ∷ []
command_words (Do.Back at) = codes "back" ∷ decimal at ∷ []
command_words (Do.Peek at) = codes "peek" ∷ decimal at ∷ []
command_words Do.Stat = codes "stat" ∷ []
command_words (Do.Loss n) = codes "loss" ∷ decimal n ∷ []

unfoldable pub command_text : Command → List ℕ
command_text command = sentence (command_words command)
