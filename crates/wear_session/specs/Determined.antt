-- That the relation of commands and replies leaves nothing open: of two replies to one command, both are the same, and so
-- are two logs.
use Rattle.std.specs.Prelude.{ℕ, ◌≡◌, List, [], Some, Result, Ok, Err}
use Rattle.pmem_base.specs.declared.answers.Exhibit.{Exhibit}
use Rattle.board.specs.declared.access.Access.{Access}
use Rattle.suite.specs.Setup.{Setup}
use Rattle.wear_session.specs.declared.commands.WearCommand.{WearCommand}
use Rattle.wear_session.specs.declared.answers.WearAnswer.{WearAnswer}
use Rattle.line_session.specs.New.{IsNewByPlan}
use Rattle.wear_session.specs.Planned.{open_call}
use Rattle.wear_session.specs.State.{WearState, IsNewWear}
use Rattle.wear_session.specs.Logged.{IsWearLogged}
use Rattle.wear_session.specs.Answered.{IsWearAnswered, IsWearShownBy}

-- the reply to a command: an answer, or an exhibit in its place
abbrev pub IsWearReplied : Setup → WearState → WearCommand → Result WearAnswer Exhibit → WearState → Type 0
IsWearReplied setup old command (Ok answer) new = IsWearAnswered setup old command answer new
IsWearReplied setup old command (Err exhibit) new = IsWearShownBy setup old command exhibit new

-- two replies to one command from one state are the same, and leave the same state
abbrev pub WearRepliesAreDetermined : Setup → Type 0
WearRepliesAreDetermined setup =
    (old one other : WearState) (command : WearCommand) (first second : Result WearAnswer Exhibit) → IsWearReplied setup old command first one
    → IsWearReplied setup old command second other → (first ≡ second) × (one ≡ other)

-- two new states of one setup, whose suites had made as many tags and digests before, are the same
abbrev pub NewWearIsDetermined : Setup → Type 0
NewWearIsDetermined setup =
    (every tags digests : ℕ) (a b : WearState) → IsNewWear setup every a → IsNewWear setup every b
    → IsNewByPlan setup (open_call setup) tags digests a.session → IsNewByPlan setup (open_call setup) tags digests b.session
    → a.session.keys ≡ b.session.keys → a ≡ b

-- two logs of one command from one state are the same, if none was lost because memory ran out
abbrev pub WearLogsAreDetermined : Setup → Type 0
WearLogsAreDetermined setup =
    (old one other : WearState) (command : WearCommand) (first second : Result WearAnswer Exhibit) (accesses others : List Access)
    → IsWearReplied setup old command first one → IsWearReplied setup old command second other
    → IsWearLogged command (Some []) old (Some accesses) one → IsWearLogged command (Some []) old (Some others) other
    → accesses ≡ others
