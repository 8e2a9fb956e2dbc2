-- A levelled memory, from its lines and texts to its commands and answers.
use Rattle.std.proofs.Common.{◌≡◌, ℕ, List, [], ◌∷◌, refl, sym, ap, subst, subst₂, inl, inr}
use Rattle.pmem_base.specs.Shape.{Shape}
use Rattle.suite.specs.Formulas.{Formulas}
use Rattle.suite.specs.Setup.{Setup}
use Rattle.wear_session.specs.declared.commands.WearCommand.{WearCommand}
use Rattle.wear_session.specs.declared.answers.WearAnswer.{WearAnswer}
use Rattle.wear_session.specs.Answered.{IsWearAnswered, IsWearTalkedOf, IsWearShownOf, IsWearStarvedOf}
use Rattle.wear_session.specs.Commands.{sort_of_wear}
use Rattle.wear_session.proofs.AnswerClauses.{kept_always}
use Rattle.wear_session.specs.Guarantees.{WearReply, AreWearAnswered, IsWearKept, IsWearSpent}
use Rattle.wear_session.specs.State.{WearState, IsNewWear, wear_setup_in}
use Rattle.plain_model.specs.Texts.{as_line}
use Rattle.trace_text.specs.Conversations.{Protocol, talk_protocol, AreRepliesGiven}
use Rattle.pmem_cli.specs.Sessions.{Said, reply, exhibit, session_protocol, replies_among}
use Rattle.line_session.specs.New.{IsNewByPlan}
use Rattle.wear_session.specs.Planned.{open_call}
use Rattle.pmem_cli.specs.Wear.{IsFirstWear, levelled_session}
use Rattle.pmem_cli.proofs.FollowedTalks.{Follows}
use Rattle.pmem_cli.proofs.SessionLemmas.{KeepsPromise}

-- the setup of a state stays
setup_stays : (f : List ℕ → Formulas) (setup : Setup) (old : WearState) (command : WearCommand) (answer : WearAnswer) (new : WearState)
    → wear_setup_in f old ≡ setup → IsWearAnswered setup old command answer new → wear_setup_in f new ≡ setup
setup_stays f setup old command answer new is answered =
    let same = kept_always setup old new command answer answered in rw (same.shape, same.keys) is

-- ---- lines and texts

-- a levelled memory as it talks
abbrev pub wear_protocol : (List ℕ → Formulas) → Protocol WearState (List ℕ)
wear_protocol f =
    talk_protocol sort_of_wear (λ old line text new. IsWearTalkedOf (wear_setup_in f old) old line text new)
    (λ old line its new. IsWearShownOf (wear_setup_in f old) old line its new) IsWearStarvedOf

-- what a session of this setup says is said by its commands and answers
pub follows_wear : (f : List ℕ → Formulas) (setup : Setup) (keys : List ℕ) (every : ℕ)
    → Follows (wear_protocol f) (session_protocol (levelled_session setup keys every)) (λ state. wear_setup_in f state ≡ setup)
follows_wear f setup keys every =
    record {
      sorts = λ line. refl;
      wants = λ old line is wants. wants;
      answered = λ old new line text is talked.
          let answered = subst (λ (u : Setup). IsWearAnswered u old talked.command talked.answer new) is talked.answered in (
            reply (record { command = talked.command; answer = talked.answer }),
            (talked.its_reading, answered),
            ap as_line (sym talked.its_text),
            setup_stays f setup old talked.command talked.answer new is answered,
          );
      shown = λ old new line text is shown.
          (exhibit shown.0, subst (λ (u : Setup). IsWearShownOf u old line shown.0 new) is shown.2, ap as_line (sym shown.1));
    }

-- ---- what its replies promise

answered_of_given : (setup : Setup) (keys : List ℕ) (every : ℕ) (first : WearState) (said : List (Said WearReply))
    → AreRepliesGiven (session_protocol (levelled_session setup keys every)) first said → (last : WearState) × AreWearAnswered setup first (replies_among said) last
answered_of_given setup keys every first [] given = (first, refl)
answered_of_given setup keys every first (reply its ∷ said) (line, its_sort, inl (next, answered, more)) =
    let rest = answered_of_given setup keys every next said more in (rest.0, (next, answered.1, rest.1))
answered_of_given setup keys every first (reply its ∷ said) (line, its_sort, inr (next, shown, none)) = absurd shown
answered_of_given setup keys every first (exhibit its ∷ said) (line, its_sort, inl (next, answered, more)) = absurd answered
answered_of_given setup keys every first (exhibit its ∷ said) (line, its_sort, inr (next, shown, none)) =
    (first, subst (λ (zs : List (Said WearReply)). AreWearAnswered setup first (replies_among zs) first) (sym none) refl)

pub keeps_wear : (setup : Setup) (keys : List ℕ) (every : ℕ) → IsWearKept setup → IsWearSpent setup → KeepsPromise (levelled_session setup keys every)
keeps_wear setup keys every kept spent first said begins given =
    let chain = answered_of_given setup keys every first said given in (
      kept every (replies_among said) chain.0 (record { first = first; is_new = begins.new; answered = chain.1 }),
      spent every first chain.0 (replies_among said) begins.new chain.1,
    )

-- a new one of a suite that had made nothing
pub first_wear : (setup : Setup) (keys : List ℕ) (every tags digests : ℕ) (state : WearState) → tags ≡ 0 → digests ≡ 0 → IsNewWear setup every state
    → IsNewByPlan setup (open_call setup) tags digests state.session → state.session.keys ≡ keys → IsFirstWear setup keys every state
first_wear setup keys every tags digests state no_tags no_digests new opened same =
    record {
      new = new;
      opened = subst₂ (λ t d. IsNewByPlan setup (open_call setup) t d state.session) no_tags no_digests opened;
      its_keys = same;
    }

-- the setup of a new one
pub setup_begins : (f : List ℕ → Formulas) (shape : Shape) (keys : List ℕ) (every : ℕ) (state : WearState)
    → IsNewWear (record { shape = shape; formulas = f keys }) every state → state.session.keys ≡ keys
    → ◌≡◌ {A = Setup} (wear_setup_in f state) (record { shape = shape; formulas = f keys })
setup_begins f shape keys every state is same = rw (is.session.shape, same) refl
