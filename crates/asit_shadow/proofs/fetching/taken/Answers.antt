-- The plan of a node's reading, in the words of a call.
use Rattle.std.proofs.Common.{rules}
use Rattle.asit_shadow.proofs.Common.{mapped_follows}
use Rattle.asit_shadow.proofs.FetchPlans.{lifted_err}
use Rattle.asit_shadow.proofs.fetching.taken.Goals as goal

pub returns-in-Ok-clause-plan : goal.returns-in-Ok-clause-plan
returns-in-Ok-clause-plan g c = λ chip. mapped_follows _ _ c.in-Ok.ensures.plan

pub returns-in-Err-Cut-clause-plan : goal.returns-in-Err-Cut-clause-plan
returns-in-Err-Cut-clause-plan g c = search (rules, lifted_err)

pub returns-in-Err-Refused-clause-plan : goal.returns-in-Err-Refused-clause-plan
returns-in-Err-Refused-clause-plan g c = search (rules, lifted_err)

pub returns-in-Err-Shown-clause-plan : goal.returns-in-Err-Shown-clause-plan
returns-in-Err-Shown-clause-plan g c = search (rules, lifted_err)
