use Rattle.std.proofs.Common.{rules}
use Rattle.plain_model.specs.Lines.{lines_of}
use Rattle.evidence.proofs.FirstRun.{first_run}
use Rattle.evidence.proofs.runs.finished_run.Goals as goal

pub returns : goal.returns
unfolding lines_of
returns c = record { run = first_run; counted = search rules }
