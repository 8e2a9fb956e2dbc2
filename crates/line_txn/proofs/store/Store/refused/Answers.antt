-- A transaction without lines, or with some.
use Rattle.std.proofs.Common.{sym, subst, ◌∙◌, rules}
use Rattle.line_txn.proofs.Common.{IsWholeTxn}
use Rattle.line_txn.proofs.Commits.{empty_list, some_list, no_txn, refused_some}
use Rattle.line_txn.proofs.store.Store.refused.Goals as goal

pub returns-then-is_empty-clause-answer : goal.returns-then-is_empty-clause-answer
returns-then-is_empty-clause-answer c = search (rules, empty_list)

pub returns-then-is_empty-clause-whole : goal.returns-then-is_empty-clause-whole
returns-then-is_empty-clause-whole c =
    subst IsWholeTxn (sym (empty_list c.args.txn.now.items (sym c.is_empty.ensures ∙ c.if-is_empty.true))) no_txn

pub returns-clause-answer : goal.returns-clause-answer
returns-clause-answer c = search (rules, refused_some, some_list)

pub returns-clause-whole : goal.returns-clause-whole
returns-clause-whole c = subst IsWholeTxn c.deref.ensures.0 c.deciding-whole.ensures.whole
