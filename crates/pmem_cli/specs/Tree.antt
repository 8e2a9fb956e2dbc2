-- A memory over a counter tree, as the session of a command.
use Rattle.std.specs.Prelude.{◌≡◌, ⊤, ℕ, List, [], Some, Ok, All}
use Rattle.pmem_base.specs.declared.answers.Exhibit.{Exhibit}
use Rattle.pmem_base.specs.declared.geometry.Geo.{Geo}
use Rattle.suite.specs.Formulas.{Formulas}
use Rattle.suite.specs.Setup.{Setup}
use Rattle.collision_witness.specs.Exhibits.{IsExhibit}
use Rattle.tree_session.specs.declared.commands.TreeCommand.{TreeCommand}
use Rattle.tree_session.specs.Answered.{IsTreeAnswered, IsEngineShown, IsTreeStarvedOf}
use Rattle.tree_session.specs.Answers.{tree_text}
use Rattle.tree_session.specs.Commands.{reading_of_tree, sort_of_tree}
use Rattle.tree_session.specs.Guarantees.{TreeReply, AreAllowed, History, first_history, history_after, MayShow, IsNoTampering, IsTreeAnswerUnrefused}
use Rattle.tree_session.specs.Logged.{IsTreeLogOf}
use Rattle.tree_session.specs.State.{SessionState, IsNewTree, IsFormattedTree}
use Rattle.pmem_cli.specs.declared.options.Choices.{Choices}
use Rattle.pmem_cli.specs.Keys.{setup_made, setup_chosen, suite_keys_chosen}
use Rattle.pmem_cli.specs.Sessions.{Language, Session, Said, replies_among, exhibits_among}

-- an exhibit that ends the session instead of an answer to the line's command, and the state after it
pub record IsExhibitOf (setup : Setup) (old : SessionState) (line : List ℕ) (exhibit : Exhibit) (new : SessionState) : Type 0 where
  pub command : TreeCommand
  pub its_reading : reading_of_tree line ≡ Ok (Some command)
  pub shown : IsEngineShown setup old command exhibit new

-- an exhibit that holds, and that a command may show after these commands and answers
abbrev pub IsShownAfter : Setup → History → Exhibit → Type 0
IsShownAfter setup history exhibit =
    IsExhibit setup.formulas exhibit × ((command : TreeCommand) × MayShow setup.shape history command exhibit)

-- nothing was refused, and nothing shown
abbrev pub IsAllServed : List (Said TreeReply) → Type 0
IsAllServed said =
    All (λ (reply : TreeReply). IsTreeAnswerUnrefused reply.answer) (replies_among said) × (exhibits_among said ≡ [])

-- What a session says promises: each answer is one that the commands and answers before it allow, and so is an exhibit, which holds. If
-- nobody tampered with the device, nothing is refused or shown.
pub record IsAsPromised (setup : Setup) (said : List (Said TreeReply)) : Type 0 where
  pub allowed : AreAllowed setup.shape (first_history setup.shape) (replies_among said)
  pub shown :
      All (IsShownAfter setup (history_after setup.shape (first_history setup.shape) (replies_among said)))
      (exhibits_among said)
  pub untouched :
      All (λ (reply : TreeReply). IsNoTampering reply.command reply.answer) (replies_among said) → IsAllServed said

-- what it says to its user, of this setup
abbrev pub counter_tree_language : Setup → Language TreeReply
counter_tree_language setup =
    record {
      sort_of = sort_of_tree;
      replies = λ line reply. reading_of_tree line ≡ Ok (Some reply.command);
      text_of = λ reply. tree_text reply.answer;
      promises = IsAsPromised setup;
    }

-- The state that a session begins with: a new one under these keys, whose device was formatted along its plan by a suite
-- that had made nothing before.
pub record IsFirstTree (setup : Setup) (keys : List ℕ) (state : SessionState) : Type 0 where
  pub new : IsNewTree setup state
  pub formatted : IsFormattedTree setup 0 0 0 state
  pub its_keys : state.keys ≡ keys

abbrev pub counter_tree_session : Setup → List ℕ → Session SessionState TreeReply
counter_tree_session setup keys =
    record {
      language = counter_tree_language setup;
      begins = IsFirstTree setup keys;
      answers = λ old reply new. IsTreeAnswered setup old reply.command reply.answer new;
      shows = IsExhibitOf setup;
      wants_memory = IsTreeStarvedOf;
      logs = λ old line log_old log_new new. IsTreeLogOf (reading_of_tree line) log_old old log_new new;
      work = λ state. (state.tags, state.digests);
      keeps = λ first said. ⊤;
    }

-- of a geometry and a suite
abbrev pub tree_made : {U : Type 0} → Geo → (List ℕ → Formulas) → (U → List ℕ) → U → Session SessionState TreeReply
tree_made geo formulas_of keys suite = counter_tree_session (setup_made geo formulas_of keys suite) (keys suite)

-- as it is chosen
abbrev pub tree_language : Choices → Language TreeReply
tree_language c = counter_tree_language (setup_chosen c)

abbrev pub tree_chosen : Choices → Session SessionState TreeReply
tree_chosen c = counter_tree_session (setup_chosen c) (suite_keys_chosen c)
