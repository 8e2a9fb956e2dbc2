use Rattle.std.proofs.Common.{◌≡◌, ◌++◌, drop}
use Rattle.plain_model.specs.Texts.{marks_text}
use Rattle.any_session.proofs.replies.push_marks.Given as goal

abbrev pub invariant-each : goal.invariant-each
invariant-each l = record { text : l.reply.items ++ marks_text (drop l.mark-index l.marks) ≡ l.initial.reply.items ++ marks_text l.marks }
