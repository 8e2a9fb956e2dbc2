-- A levelled memory, as the session of a command.
use Rattle.std.specs.Prelude.{◌≡◌, ℕ, List, Some, Ok}
use Rattle.pmem_base.specs.declared.geometry.Geo.{Geo}
use Rattle.suite.specs.Formulas.{Formulas}
use Rattle.suite.specs.Setup.{Setup}
use Rattle.line_session.specs.New.{IsNewByPlan}
use Rattle.start_gap.specs.Gapped.{logical_lines}
use Rattle.wear_session.specs.Answered.{IsWearAnswered, IsWearShownOf, IsWearStarvedOf}
use Rattle.wear_session.specs.Answers.{wear_text}
use Rattle.wear_session.specs.Commands.{reading_of_wear, sort_of_wear}
use Rattle.wear_session.specs.Guarantees.{WearReply, AreWearReplies, AreWearSpentAsUsedUp}
use Rattle.wear_session.specs.Logged.{IsWearLogOf}
use Rattle.wear_session.specs.Planned.{open_call}
use Rattle.wear_session.specs.State.{WearState, IsNewWear}
use Rattle.pmem_cli.specs.declared.options.Choices.{Choices}
use Rattle.pmem_cli.specs.Keys.{setup_made, setup_chosen, suite_keys_chosen, every_chosen}
use Rattle.pmem_cli.specs.Sessions.{Language, Session, replies_among}

-- what it says to its user: of this setup, whose gap moves after that many writes
abbrev pub levelled_language : Setup → ℕ → Language WearReply
levelled_language setup every =
    record {
      sort_of = sort_of_wear;
      replies = λ line reply. reading_of_wear line ≡ Ok (Some reply.command);
      text_of = λ reply. wear_text reply.answer;
      promises = λ said. AreWearReplies (logical_lines setup.shape) every (replies_among said);
    }

-- The state that a session begins with: a new one under these keys, whose device was formatted and its lines opened along
-- their plans, by a suite that had made nothing before.
pub record IsFirstWear (setup : Setup) (keys : List ℕ) (every : ℕ) (state : WearState) : Type 0 where
  pub new : IsNewWear setup every state
  pub opened : IsNewByPlan setup (open_call setup) 0 0 state.session
  pub its_keys : state.session.keys ≡ keys

abbrev pub levelled_session : Setup → List ℕ → ℕ → Session WearState WearReply
levelled_session setup keys every =
    record {
      language = levelled_language setup every;
      begins = IsFirstWear setup keys every;
      answers = λ old reply new. IsWearAnswered setup old reply.command reply.answer new;
      shows = IsWearShownOf setup;
      wants_memory = IsWearStarvedOf;
      logs = λ old line log_old log_new new. IsWearLogOf (reading_of_wear line) log_old old log_new new;
      work = λ state. (state.session.tags, state.session.digests);
      keeps = λ first said. AreWearSpentAsUsedUp setup first (replies_among said);
    }

-- of a geometry and a suite
abbrev pub wear_made : {U : Type 0} → Geo → (List ℕ → Formulas) → (U → List ℕ) → U → ℕ → Session WearState WearReply
wear_made geo formulas_of keys suite every = levelled_session (setup_made geo formulas_of keys suite) (keys suite) every

-- as it is chosen
abbrev pub wear_language : Choices → Language WearReply
wear_language c = levelled_language (setup_chosen c) (every_chosen c)

abbrev pub wear_chosen : Choices → Session WearState WearReply
wear_chosen c = levelled_session (setup_chosen c) (suite_keys_chosen c) (every_chosen c)
