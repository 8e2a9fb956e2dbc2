-- The session that a task of the program begins with, as the program's own definitions have it.
use Rattle.std.specs.Prelude.{ℕ, ◌≡◌, ⊤, Bool, true, false, List, [], ◌∷◌, ◌++◌, unwrap_or}
use Rattle.suite.specs.Setup.{Setup}
use Rattle.suite.specs.Weak.{blur_flag}
use Rattle.any_suite.specs.Kinds.{any_formulas}
use Rattle.pmem_replay.specs.World.{setup_of_world}
use Rattle.wear_session.specs.State.{wear_setup_in}
use Rattle.txn_session.specs.State.{txn_setup_in}
use Rattle.tree_session.specs.State.{tree_setup_in}
use Rattle.pmem_cli.specs.declared.options.Choices.{Choices}
use Rattle.pmem_cli.specs.declared.options.SuiteName.{SuiteName}
use Rattle.pmem_cli.specs.declared.options.SuiteName.TheVariants as Name
use Rattle.pmem_cli.specs.declared.options.Task.{Task}
use Rattle.pmem_cli.specs.Keys.{chosen_key, chosen_tag_key, setup_chosen, every_chosen}
use Rattle.pmem_cli.specs.Standing.{IsFirstWorld}
use Rattle.pmem_cli.specs.Wear.{IsFirstWear}
use Rattle.pmem_cli.specs.Txn.{IsFirstTxn}
use Rattle.pmem_cli.specs.Tree.{IsFirstTree}
use Rattle.any_session.specs.declared.kinds.AnySession.{AnySession}
use Rattle.any_session.specs.declared.kinds.AnySession.TheVariants.{Run, Wear, Txn, Tree}

-- the keys of the suite that is chosen, as a suite of any kind has them
abbrev pub keys_named : SuiteName → List ℕ → List ℕ
keys_named Name.Aes keys = 0 ∷ keys
keys_named Name.Weak keys = 1 ∷ keys ++ blur_flag false ∷ []
keys_named Name.Blur keys = 1 ∷ keys ++ blur_flag true ∷ []

abbrev pub keys_chosen : Choices → List ℕ
keys_chosen c = keys_named (unwrap_or c.suite Name.Aes) (chosen_key c ++ chosen_tag_key c)

-- A new session: it is in a state that the program begins with, its answers are those under the chosen setup, it prints its log if that is
-- asked for, and no exhibit ended it.
pub record IsBegun {S : Type 0} (begins : S → Type 0) (c : Choices) (logged : Bool) (state : S) (its_setup : Setup) (its_logged over : Bool) : Type 0 where
  pub new : begins state
  pub setup : its_setup ≡ setup_chosen c
  pub log : its_logged ≡ logged
  pub goes_on : over ≡ false

-- the session of a run
abbrev pub IsRunOpened : Choices → Bool → AnySession → Type 0
IsRunOpened c logged (Run its) =
    IsBegun (IsFirstWorld (setup_chosen c)) c logged its.world (setup_of_world any_formulas its.world) its.logged its.world.shown
IsRunOpened c logged any = ⊥

-- the session of any task
abbrev pub IsOpened : Task → AnySession → Type 0
IsOpened (Task.Run c) any = IsRunOpened c false any
IsOpened (Task.Log c) any = IsRunOpened c true any
IsOpened (Task.Wear c) (Wear its) =
    IsBegun (IsFirstWear (setup_chosen c) (keys_chosen c) (every_chosen c)) c c.log its.session (wear_setup_in any_formulas its.session) its.logged
    its.over
IsOpened (Task.Txn c) (Txn its) =
    IsBegun (IsFirstTxn (setup_chosen c) (keys_chosen c)) c c.log its.session (txn_setup_in any_formulas its.session) its.logged its.over
IsOpened (Task.Tree c) (Tree its) =
    IsBegun (IsFirstTree (setup_chosen c) (keys_chosen c)) c c.log its.session (tree_setup_in any_formulas its.session) its.logged its.over
IsOpened task any = ⊥

-- the task is a run or a session, which answers lines
abbrev pub IsSession : Task → Type 0
IsSession (Task.Run c) = ⊤
IsSession (Task.Log c) = ⊤
IsSession (Task.Wear c) = ⊤
IsSession (Task.Txn c) = ⊤
IsSession (Task.Tree c) = ⊤
IsSession task = ⊥
