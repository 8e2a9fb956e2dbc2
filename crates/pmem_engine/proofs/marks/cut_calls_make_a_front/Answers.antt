use Rattle.pmem_engine.proofs.PlannedCalls.RisingMarks.{write_front, turn_front, write_keeps, turn_keeps}
use Rattle.pmem_engine.proofs.marks.cut_calls_make_a_front.Goals as goal

pub returns-clause-write : goal.returns-clause-write
returns-clause-write c = write_front

pub returns-clause-turn : goal.returns-clause-turn
returns-clause-turn c = turn_front

pub returns-clause-kept_by_write : goal.returns-clause-kept_by_write
returns-clause-kept_by_write c = write_keeps

pub returns-clause-kept_by_turn : goal.returns-clause-kept_by_turn
returns-clause-kept_by_turn c = turn_keeps
