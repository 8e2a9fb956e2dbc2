-- Two logs of one command from one world have the same accesses, in the same order.
use Rattle.std.proofs.Common.{◌≡◌, List, [], Some, sym, subst, ◌∙◌}
use Rattle.std.proofs.lemmas.Option.{same_Some}
use Rattle.pmem_base.specs.declared.commands.Command.{Command}
use Rattle.pmem_base.specs.declared.commands.Command.TheVariants as Do
use Rattle.board.specs.declared.access.Access.{Access}
use Rattle.board.specs.Memory.{BoardMemory}
use Rattle.access_log.proofs.TraceLemmas.{same_log}
use Rattle.pmem_replay.specs.Determined.{LoggedStepIsDetermined}
use Rattle.pmem_replay.specs.Logged.{IsLogged}
use Rattle.pmem_replay.proofs.SameSteps.StepsAlike.{step_alike}

-- between one board and another
pub same_logged : (command : Command) (old new : BoardMemory) (accesses others : List Access) → IsLogged command (Some []) old (Some accesses) new
    → IsLogged command (Some []) old (Some others) new → accesses ≡ others
same_logged (Do.Drain port) old new accesses others it its = same_log old new accesses others it its
same_logged (Do.Fence port) old new accesses others it its = same_log old new accesses others it its
same_logged (Do.Read port at) old new accesses others it its = same_log old new accesses others it its
same_logged Do.Turn old new accesses others it its = same_log old new accesses others it its
same_logged Do.Flush old new accesses others it its = same_log old new accesses others it its
same_logged (Do.Loss n) old new accesses others it its = same_log old new accesses others it its
same_logged Do.On old new accesses others it its = same_log old new accesses others it its
same_logged command old new accesses others it its = same_Some accesses others (it ∙ sym its)

pub logged_alike : LoggedStepIsDetermined
logged_alike setup old a b command reply other accesses others whole it its log its_log =
    let both = step_alike setup old a b command reply other whole it its in
    same_logged command old.board a.board accesses others log
    (subst (λ (m : BoardMemory). IsLogged command (Some []) old.board (Some others) m) (sym both.1.alike.parts.board) its_log)
