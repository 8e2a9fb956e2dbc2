-- Replies as contracts write them.
use Rattle.std.specs.Prelude.{[], length, drop}
use Rattle.pmem_base.specs.declared.answers.Answer.{Answer}
use Rattle.plain_model.specs.State.{Reply}
use Rattle.pmem_replay.specs.World.{WorldState}

-- an answer without marks
abbrev pub without_marks : Answer → Reply
without_marks answer = record { marks = []; answer = answer }

-- an answer with the marks that were made since
abbrev pub with_marks_since : WorldState → WorldState → Answer → Reply
with_marks_since old new answer =
    record { marks = drop (length old.ledger.marks) new.ledger.marks; answer = answer }
