-- A fault that isn't that a line is spent.
use Rattle.std.proofs.Common.{sym, ap, ◌∙◌}
use Rattle.start_gap.proofs.Common.{write_answer_by}
use Rattle.start_gap.proofs.LevelledCalls.{fault_of_move}
use Rattle.start_gap.proofs.gapped.Gapped.answer_of_move.Goals as goal

pub returns-in_default : goal.returns-in_default
returns-in_default c = sym (ap write_answer_by c.in-Err.is ∙ fault_of_move c.in-Err.fault c.in_default.not-Spent)
