-- That a step leaves nothing open: of two replies, worlds after it and logs, that its clauses allow from one world for
-- one command, both are the same. And so are two new worlds.
use Rattle.std.specs.Prelude.{◌≡◌, false, List, [], Some}
use Rattle.pmem_base.specs.declared.commands.Command.{Command}
use Rattle.board.specs.declared.access.Access.{Access}
use Rattle.suite.specs.Setup.{Setup}
use Rattle.plain_model.specs.State.{Reply}
use Rattle.pmem_replay.specs.World.{WorldState, IsWorld}
use Rattle.pmem_replay.specs.Stepped.{HasStepped, IsNewWorld}
use Rattle.pmem_replay.specs.Logged.{IsLogged}

-- the world's own parts
pub record AreSameParts (a b : WorldState) : Type 0 where
  pub board : a.board ≡ b.board
  pub engine : a.engine ≡ b.engine
  pub ledger : a.ledger ≡ b.ledger
  pub tags : a.tags ≡ b.tags
  pub digests : a.digests ≡ b.digests

-- All of the world that a reply depends on: all but the keys, of which the suite's formulas stand in the setup, and how many marks there is
-- room for. If an exhibit ended the run, the state of the plain machine tells nothing any more.
pub record AreAlike (a b : WorldState) : Type 0 where
  pub shape : a.shape ≡ b.shape
  pub start : a.start ≡ b.start
  pub shown : a.shown ≡ b.shown
  pub state : a.shown ≡ false → a.state ≡ b.state
  pub parts : AreSameParts a b

-- all of the world but how many marks there is room for
pub record AreSameWorlds (a b : WorldState) : Type 0 where
  pub keys : a.keys ≡ b.keys
  pub alike : AreAlike a b

abbrev pub StepIsDetermined : Type 0
StepIsDetermined =
    (setup : Setup) (old a b : WorldState) (command : Command) (reply other : Reply) → IsWorld setup old
    → HasStepped setup old command reply a → HasStepped setup old command other b → (reply ≡ other) × AreSameWorlds a b

-- two logs of one command from one world have the same accesses, in the same order
abbrev pub LoggedStepIsDetermined : Type 0
LoggedStepIsDetermined =
    (setup : Setup) (old a b : WorldState) (command : Command) (reply other : Reply) (accesses others : List Access)
    → IsWorld setup old → HasStepped setup old command reply a → HasStepped setup old command other b
    → IsLogged command (Some []) old.board (Some accesses) a.board
    → IsLogged command (Some []) old.board (Some others) b.board → accesses ≡ others

-- two new worlds of one geometry, whose suites have the same keys and counts
abbrev pub NewWorldIsDetermined : Type 0
NewWorldIsDetermined =
    (setup : Setup) (a b : WorldState) → IsNewWorld setup a → IsNewWorld setup b → a.keys ≡ b.keys → a.tags ≡ b.tags
    → a.digests ≡ b.digests → AreSameWorlds a b
