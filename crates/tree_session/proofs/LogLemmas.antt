-- A command that did nothing leaves the log as it was.
use Rattle.std.proofs.Common.{◌≡◌, List, Option, refl, sym, subst}
use Rattle.tree_session.proofs.Common.{Access, still_logged, TreeCommand, tree_decided, IsTreeLogged, SessionState}
use Rattle.tree_session.specs.declared.commands.TreeCommand.TheVariants as Do

stays : (command : TreeCommand) (log : Option (List Access)) (state : SessionState) → IsTreeLogged command log state log state
stays (Do.Write a line) log state = still_logged (tree_decided state.shape state.plain (Do.Write a line)) log state.plain.board
stays (Do.Read a) log state = still_logged (tree_decided state.shape state.plain (Do.Read a)) log state.plain.board
stays Do.On log state = still_logged (tree_decided state.shape state.plain Do.On) log state.plain.board
stays command log state = refl

pub not_logged : (command : TreeCommand) (log : Option (List Access)) (old new : SessionState) → new ≡ old → IsTreeLogged command log old log new
not_logged command log old new same = subst (λ (state : SessionState). IsTreeLogged command log old log state) (sym same) (stays command log old)
