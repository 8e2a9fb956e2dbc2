-- A memory over a counter tree, from its lines and texts to its commands and answers.
use Rattle.std.proofs.Common.{◌≡◌, ◌∙◌, ℕ, List, [], ◌∷◌, refl, sym, ap, subst, subst₂, inl, inr}
use Rattle.std.specs.Prelude.{All, None}
use Rattle.std.proofs.lemmas.List.Elements.{All-cons, All-head, All-nil, All-weaker}
use Rattle.pmem_base.specs.declared.answers.Exhibit.{Exhibit}
use Rattle.pmem_base.specs.Shape.{Shape}
use Rattle.suite.specs.Formulas.{Formulas}
use Rattle.suite.specs.Setup.{Setup}
use Rattle.plain_model.specs.Texts.{as_line}
use Rattle.trace_text.specs.Conversations.{Protocol, talk_protocol, AreRepliesGiven}
use Rattle.tree_session.specs.declared.commands.TreeCommand.{TreeCommand}
use Rattle.tree_session.specs.declared.answers.TreeAnswer.{TreeAnswer}
use Rattle.tree_session.specs.Answered.{IsTreeAnswered, IsEngineShown, IsTreeShownBy, IsTreeTalkedOf, IsTreeShownOf, IsTreeStarvedOf}
use Rattle.tree_session.specs.Commands.{sort_of_tree}
use Rattle.tree_session.specs.Guarantees.{TreeReply, AreTreeAnswered, IsTreeSession, first_history, history_after, IsTreeKept, IsTreeShown, IsTreeUntouched}
use Rattle.tree_session.specs.State.{SessionState, IsNewTree, IsFormattedTree, tree_setup_in}
use Rattle.pmem_cli.specs.Sessions.{Said, reply, exhibit, session_protocol, replies_among, exhibits_among}
use Rattle.pmem_cli.specs.Tree.{IsShownAfter, IsFirstTree, counter_tree_session}
use Rattle.pmem_cli.proofs.FollowedTalks.{Follows}
use Rattle.pmem_cli.proofs.SessionLemmas.{KeepsPromise}

-- ---- states in a run

-- of this setup, before an exhibit
pub record IsOpen (f : List ℕ → Formulas) (setup : Setup) (state : SessionState) : Type 0 where
  pub its_setup : tree_setup_in f state ≡ setup
  pub not_shown : state.shown ≡ None

stays_open : (f : List ℕ → Formulas) (setup : Setup) (old : SessionState) (command : TreeCommand) (answer : TreeAnswer) (new : SessionState)
    → IsOpen f setup old → IsTreeAnswered setup old command answer new → IsOpen f setup new
stays_open f setup old command answer new before answered =
    record {
      its_setup = rw (answered.kept.shape, answered.kept.keys) before.its_setup;
      not_shown = answered.kept.shown ∙ before.not_shown;
    }

-- the exhibit is the engine's
first_shown : (setup : Setup) (old : SessionState) (command : TreeCommand) (its : Exhibit) (new : SessionState) → old.shown ≡ None
    → IsTreeShownBy setup old command its new → IsEngineShown setup old command its new
first_shown setup old command its new none (inl shown) = shown
first_shown setup old command its new none (inr again) = absurd (cc (none, again.0))

-- ---- lines and texts

-- a memory over a counter tree as it talks
abbrev pub tree_protocol : (List ℕ → Formulas) → Protocol SessionState (List ℕ)
tree_protocol f =
    talk_protocol sort_of_tree (λ old line text new. IsTreeTalkedOf (tree_setup_in f old) old line text new)
    (λ old line its new. IsTreeShownOf (tree_setup_in f old) old line its new) IsTreeStarvedOf

-- what a session of this setup says is said by its commands and answers
pub follows_tree : (f : List ℕ → Formulas) (setup : Setup) (keys : List ℕ)
    → Follows (tree_protocol f) (session_protocol (counter_tree_session setup keys)) (IsOpen f setup)
follows_tree f setup keys =
    record {
      sorts = λ line. refl;
      wants = λ old line is wants. wants;
      answered = λ old new line text before talked.
          let answered = subst (λ (u : Setup). IsTreeAnswered u old talked.command talked.answer new) before.its_setup talked.answered in (
            reply (record { command = talked.command; answer = talked.answer }),
            (talked.its_reading, answered),
            ap as_line (sym talked.its_text),
            stays_open f setup old talked.command talked.answer new before answered,
          );
      shown = λ old new line text before shown.
          let its = subst (λ (u : Setup). IsTreeShownOf u old line shown.0 new) before.its_setup shown.2 in (
            exhibit shown.0,
            record {
              command = its.command;
              its_reading = its.its_reading;
              shown = first_shown setup old its.command shown.0 new before.not_shown its.shown;
            },
            ap as_line (sym shown.1),
          );
    }

-- a new one is open
pub open_begins : (f : List ℕ → Formulas) (shape : Shape) (keys : List ℕ) (state : SessionState)
    → IsNewTree (record { shape = shape; formulas = f keys }) state → state.keys ≡ keys
    → IsOpen f (record { shape = shape; formulas = f keys }) state
open_begins f shape keys state is same = record { its_setup = rw (is.shape, same) refl; not_shown = is.shown }

-- and the first one, of a suite that had made nothing
pub first_tree : (setup : Setup) (keys : List ℕ) (pads tags digests : ℕ) (state : SessionState) → pads ≡ 0 → tags ≡ 0 → digests ≡ 0
    → IsNewTree setup state → IsFormattedTree setup pads tags digests state → state.keys ≡ keys → IsFirstTree setup keys state
first_tree setup keys pads tags digests state no_pads no_tags no_digests new formatted same =
    record {
      new = new;
      formatted =
          subst (λ p. IsFormattedTree setup p 0 0 state) no_pads
          (subst₂ (λ t d. IsFormattedTree setup pads t d state) no_tags no_digests formatted);
      its_keys = same;
    }

-- ---- what it promises

abbrev IsShownBefore : Setup → SessionState → Exhibit → Type 0
IsShownBefore setup last its = (command : TreeCommand) × ((new : SessionState) × IsEngineShown setup last command its new)

-- the replies are a chain, and an exhibit comes after them
record IsTreeChain (setup : Setup) (first : SessionState) (said : List (Said TreeReply)) : Type 0 where
  last : SessionState
  answered : AreTreeAnswered setup first (replies_among said) last
  shown : All (IsShownBefore setup last) (exhibits_among said)

chain_of_given : (setup : Setup) (keys : List ℕ) (first : SessionState) (said : List (Said TreeReply))
    → AreRepliesGiven (session_protocol (counter_tree_session setup keys)) first said → IsTreeChain setup first said
chain_of_given setup keys first [] given = record { last = first; answered = refl; shown = All-nil _ }
chain_of_given setup keys first (reply its ∷ said) (line, its_sort, inl (next, answered, more)) =
    let rest = chain_of_given setup keys next said more in
    record { last = rest.last; answered = (next, answered.1, rest.answered); shown = rest.shown }
chain_of_given setup keys first (reply its ∷ said) (line, its_sort, inr (next, shown, none)) = absurd shown
chain_of_given setup keys first (exhibit its ∷ said) (line, its_sort, inl (next, answered, more)) = absurd answered
chain_of_given setup keys first (exhibit its ∷ said) (line, its_sort, inr (next, shown, none)) =
    subst (λ (zs : List (Said TreeReply)). IsTreeChain setup first (exhibit its ∷ zs)) (sym none)
    (record { last = first; answered = refl; shown = All-cons (IsShownBefore setup first) its [] (shown.command, (next, shown.shown)) (All-nil _) })

-- what holds of none is none
none_of : {T : Type 0} (P : T → Type 0) (xs : List T) → All P xs → ((x : T) → P x → ⊥) → xs ≡ []
none_of P [] all none = refl
none_of P (x ∷ xs) all none = absurd (none x (All-head P x xs all))

pub keeps_tree : (setup : Setup) (keys : List ℕ) → IsTreeKept setup → IsTreeShown setup → IsTreeUntouched setup → KeepsPromise (counter_tree_session setup keys)
keeps_tree setup keys kept shown untouched first said begins given =
    let chain = chain_of_given setup keys first said given in
    let replies = replies_among said in
    let session : IsTreeSession setup replies chain.last = record { first = first; is_new = begins.new; answered = chain.answered } in (
      record {
        allowed = kept replies chain.last session;
        shown =
            All-weaker (IsShownBefore setup chain.last) (IsShownAfter setup (history_after setup.shape (first_history setup.shape) replies))
            (λ its at.
            let held = shown replies chain.last at.1.0 at.0 its session (inl at.1.1) in (held.0, (at.0, held.1)))
            (exhibits_among said) chain.shown;
        untouched = λ none.
            let quiet = untouched replies chain.last session none in
            (quiet.0, none_of (IsShownBefore setup chain.last) (exhibits_among said) chain.shown (λ its at. quiet.1 at.0 its at.1.0 (inl at.1.1)));
      },
      tt,
    )
