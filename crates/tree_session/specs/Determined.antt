-- That the contract of a session's reply leaves nothing open: of two replies to one command, both are the same, and so
-- are two logs.
use Rattle.std.specs.Prelude.{ℕ, ◌≡◌, List, [], Some, Result, Ok, Err}
use Rattle.pmem_base.specs.declared.answers.Exhibit.{Exhibit}
use Rattle.board.specs.declared.access.Access.{Access}
use Rattle.suite.specs.Setup.{Setup}
use Rattle.tree_session.specs.declared.commands.TreeCommand.{TreeCommand}
use Rattle.tree_session.specs.declared.answers.TreeAnswer.{TreeAnswer}
use Rattle.tree_session.specs.State.{SessionState, IsNewTree, IsFormattedTree}
use Rattle.tree_session.specs.Answered.{IsTreeAnswered, IsTreeShownBy}
use Rattle.tree_session.specs.Logged.{IsTreeLogged}

-- the reply to a command: an answer, or an exhibit in its place
abbrev pub IsTreeReplied : Setup → SessionState → TreeCommand → Result TreeAnswer Exhibit → SessionState → Type 0
IsTreeReplied setup old command (Ok answer) new = IsTreeAnswered setup old command answer new
IsTreeReplied setup old command (Err exhibit) new = IsTreeShownBy setup old command exhibit new

abbrev pub TreeRepliesAreDetermined : Type 0
TreeRepliesAreDetermined =
    (setup : Setup) (command : TreeCommand) (first second : Result TreeAnswer Exhibit) (old one other : SessionState)
    → IsTreeReplied setup old command first one → IsTreeReplied setup old command second other → (first ≡ second) × (one ≡ other)

-- two new states of one setup, whose suites had made as many pads, tags and digests before, are the same
abbrev pub NewTreeIsDetermined : Type 0
NewTreeIsDetermined =
    (setup : Setup) (pads tags digests : ℕ) (a b : SessionState) → IsNewTree setup a → IsNewTree setup b → IsFormattedTree setup pads tags digests a
    → IsFormattedTree setup pads tags digests b → a.keys ≡ b.keys → a ≡ b

-- two logs of one command from one state are the same, if none was lost because memory ran out
abbrev pub TreeLogsAreDetermined : Type 0
TreeLogsAreDetermined =
    (setup : Setup) (command : TreeCommand) (first second : Result TreeAnswer Exhibit) (old one other : SessionState) (accesses others : List Access)
    → IsTreeReplied setup old command first one → IsTreeReplied setup old command second other
    → IsTreeLogged command (Some []) old (Some accesses) one → IsTreeLogged command (Some []) old (Some others) other
    → accesses ≡ others
