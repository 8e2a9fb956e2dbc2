use Rattle.pmem_engine.proofs.PlannedCalls.KeptLines.{read_alone, flush_alone, loss_alone}
use Rattle.pmem_engine.proofs.kept.some_calls_write_metadata_alone.Goals as goal

pub returns-clause-read : goal.returns-clause-read
returns-clause-read c = read_alone

pub returns-clause-flush : goal.returns-clause-flush
returns-clause-flush c = flush_alone

pub returns-clause-loss : goal.returns-clause-loss
returns-clause-loss c = loss_alone
