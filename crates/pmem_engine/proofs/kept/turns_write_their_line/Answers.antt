use Rattle.pmem_engine.proofs.PlannedCalls.TurnLines.{turn_writes, turn_keeps_mirror}
use Rattle.pmem_engine.proofs.kept.turns_write_their_line.Goals as goal

pub returns-clause-lines : goal.returns-clause-lines
returns-clause-lines c = turn_writes

pub returns-clause-mirror : goal.returns-clause-mirror
returns-clause-mirror c = turn_keeps_mirror
