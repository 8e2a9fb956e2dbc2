use Rattle.commit_regs.proofs.GroupLaws.{cut_fronts, done_written, steps_counted}
use Rattle.commit_regs.proofs.groups_are_written_in_order.Goals as goal

pub returns-clause-cut : goal.returns-clause-cut
returns-clause-cut c = cut_fronts

pub returns-clause-done : goal.returns-clause-done
returns-clause-done c = done_written

pub returns-clause-steps : goal.returns-clause-steps
returns-clause-steps c = steps_counted
