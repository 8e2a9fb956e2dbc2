-- A log that goes on by a command's call, and one that stays.
use Rattle.std.proofs.Common.{◌≡◌, List, [], Option, Some, None, refl, sym, subst, ◌∙◌}
use Rattle.std.proofs.lemmas.Option.{same_Some}
use Rattle.board.specs.Memory.{BoardMemory}
use Rattle.board.specs.declared.access.Access.{Access}
use Rattle.access_log.specs.Traced.{GoesOn}
use Rattle.access_log.proofs.TraceLemmas.{same_log}
use Rattle.trace_text.specs.Logged.{IsLoggedBy}

-- the state decides nothing, and the log goes on
pub logged_by : {W : Type 0} (decided : Option W) (log log_new : Option (List Access)) (old new : BoardMemory) → decided ≡ None → GoesOn log old log_new new
    → IsLoggedBy decided log old log_new new
logged_by decided log log_new old new none it = subst (λ d. IsLoggedBy d log old log_new new) (sym none) it

-- nothing was done
pub still_logged : {W : Type 0} (decided : Option W) (log : Option (List Access)) (board : BoardMemory) → IsLoggedBy decided log board log board
still_logged (Some fixed) log board = refl
still_logged None log board = λ first it. it

-- two logs of a command from one board to another are the same
pub same_logged : {W : Type 0} (decided : Option W) (old new : BoardMemory) (accesses others : List Access) → IsLoggedBy decided (Some []) old (Some accesses) new
    → IsLoggedBy decided (Some []) old (Some others) new → accesses ≡ others
same_logged (Some fixed) old new accesses others it its = same_Some accesses others (it ∙ sym its)
same_logged None old new accesses others it its = same_log old new accesses others it its
