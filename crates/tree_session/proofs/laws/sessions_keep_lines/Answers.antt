-- The laws of chains.
use Rattle.tree_session.proofs.Chains.{kept, shown, untouched}
use Rattle.tree_session.proofs.laws.sessions_keep_lines.Goals as goal

pub returns-clause-kept : goal.returns-clause-kept
returns-clause-kept g c = kept _

pub returns-clause-shown : goal.returns-clause-shown
returns-clause-shown g c = shown _

pub returns-clause-untouched : goal.returns-clause-untouched
returns-clause-untouched g c = untouched _
