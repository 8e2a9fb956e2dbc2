-- A line is written, with few marks.
use Rattle.std.proofs.Common.{Ok, Err, refl}
use Rattle.pmem_engine.proofs.CallEnds.EngineCalls.{down_after}
use Rattle.engine_lines.proofs.EngineLines.{few_marks}
use Rattle.engine_lines.proofs.EditPlans.{put_follows}
use Rattle.engine_lines.proofs.edits.put_line.Goals as goal

pub returns-in-Ok-clause-few : goal.returns-in-Ok-clause-few
returns-in-Ok-clause-few g c = few_marks _ _ _ _ _ (c.in-Ok.ensures.written.did c.requires.up)

pub returns-in-Ok-clause-plan : goal.returns-in-Ok-clause-plan
returns-in-Ok-clause-plan g c = put_follows _ _ _ _ (Ok _) _ (c.in-Ok.ensures.written.did c.requires.up).plan

pub returns-in-Err-clause-plan : goal.returns-in-Err-clause-plan
returns-in-Err-clause-plan g c = put_follows _ _ _ _ (Err c.in-Err.fault) _ (c.in-Err.ensures.written.did c.requires.up).plan

pub returns-in-Ok-clause-put : goal.returns-in-Ok-clause-put
returns-in-Ok-clause-put g c = record { made = Ok _; was_written = c.in-Ok.ensures.written.did c.requires.up; its_answer = refl }

pub returns-in-Err-clause-put : goal.returns-in-Err-clause-put
returns-in-Err-clause-put g c =
    record { made = Err c.in-Err.fault; was_written = c.in-Err.ensures.written.did c.requires.up; its_answer = refl }

pub returns-in-Ok-clause-down : goal.returns-in-Ok-clause-down
returns-in-Ok-clause-down g c = down_after c.in-Ok.ensures.written c.requires.up

pub returns-in-Err-clause-down : goal.returns-in-Err-clause-down
returns-in-Err-clause-down g c = down_after c.in-Err.ensures.written c.requires.up
