-- A session has one reply to a line in each state, and leaves one state; and its first states are the same.
use Rattle.std.proofs.Common.{◌≡◌, ◌≢◌, ◌∙◌, ℕ, Bool, true, false, List, [], ◌++◌, refl, sym, ap, subst, inl, inr}
use Rattle.std.specs.Prelude.{◌⊎◌, ◌-◌, Option, None, Some, IfSome, Result, Ok, Err}
use Rattle.pmem_base.specs.declared.answers.Exhibit.{Exhibit}
use Rattle.pmem_base.specs.declared.commands.Kind.{Kind}
use Rattle.board.specs.declared.access.Access.{Access}
use Rattle.suite.specs.Setup.{Setup}
use Rattle.plain_model.specs.declared.Stop.{Stop}
use Rattle.plain_model.specs.declared.Stop.TheVariants.{Memory}
use Rattle.trace_text.specs.Conversations.{Protocol, TalkEnds}
use Rattle.wear_session.proofs.DeterminedReplies as wear
use Rattle.wear_session.specs.Commands.{reading_of_wear}
use Rattle.wear_session.specs.Determined.{IsWearReplied}
use Rattle.wear_session.specs.Guarantees.{WearReply}
use Rattle.wear_session.specs.State.{WearState}
use Rattle.wear_session.specs.declared.answers.WearAnswer.{WearAnswer}
use Rattle.wear_session.specs.declared.commands.WearCommand.{WearCommand}
use Rattle.txn_session.proofs.DeterminedReplies as txn
use Rattle.txn_session.specs.Commands.{reading_of_txn}
use Rattle.txn_session.specs.Determined.{IsTxnReplied}
use Rattle.txn_session.specs.Guarantees.{TxnReply}
use Rattle.txn_session.specs.State.{TxnState}
use Rattle.txn_session.specs.declared.answers.TxnAnswer.{TxnAnswer}
use Rattle.txn_session.specs.declared.commands.TxnCommand.{TxnCommand}
use Rattle.tree_session.proofs.DeterminedReplies as tree
use Rattle.tree_session.specs.Commands.{reading_of_tree}
use Rattle.tree_session.specs.Determined.{IsTreeReplied}
use Rattle.tree_session.specs.Guarantees.{TreeReply}
use Rattle.tree_session.specs.State.{SessionState}
use Rattle.tree_session.specs.declared.answers.TreeAnswer.{TreeAnswer}
use Rattle.tree_session.specs.declared.commands.TreeCommand.{TreeCommand}
use Rattle.pmem_cli.specs.Sessions.{Session, Said, reply, exhibit, Replies, Shows, session_protocol, telling, Converses, IsConversation}
use Rattle.pmem_cli.specs.Telling.{Told, ReplyAs, told_protocol, voice}
use Rattle.pmem_cli.specs.Tree.{counter_tree_session}
use Rattle.pmem_cli.specs.Txn.{transactions_session}
use Rattle.pmem_cli.specs.Wear.{levelled_session}
use Rattle.pmem_cli.proofs.ReplaysAlike.{IsOfTrace, IsFrontRun}
use Rattle.pmem_cli.proofs.TalksAlike.{IsExact, talks_alike, talks_front}

-- ---- logs

-- a line's log between two states is one
abbrev pub HasOneLog : {S : Type 0} → (S → List ℕ → Option (List Access) → Option (List Access) → S → Type 0) → Type 0
HasOneLog {S} logs =
    (old new : S) (line : List ℕ) (accesses others : List Access) → logs old line (Some []) (Some accesses) new → logs old line (Some []) (Some others) new
    → accesses ≡ others

-- a reply with what its command took is its parts
pub same_told : {X : Type 0} (a b : Told X) → a.said ≡ b.said → a.accesses ≡ b.accesses → a.tags ≡ b.tags → a.digests ≡ b.digests → a ≡ b
same_told a b said accesses tags digests = λ i. record { said = said i; accesses = accesses i; tags = tags i; digests = digests i }

-- replies with what their commands took are exact too
module _ {S X : Type 0} (p : Protocol S X) (logs : S → List ℕ → Option (List Access) → Option (List Access) → S → Type 0) (work : S → ℕ × ℕ)
    (exact : IsExact p) (one : HasOneLog logs) where
  told_alike : (old a b : S) (line : List ℕ) (x y : Told X) → x.said ≡ y.said → a ≡ b → (told_protocol p logs work).answers old line x a → (told_protocol p logs work).answers old line y b
      → (x ≡ y) × (a ≡ b)
  told_alike old a b line x y said same it its = (
    same_told x y said
        (one old a line x.accesses y.accesses it.1.accessed
        (subst (λ (s : S). logs old line (Some []) (Some y.accesses) s) (sym same) its.1.accessed))
        (it.1.tags ∙ ap (λ (s : S). (work s).0 - (work old).0) same ∙ sym its.1.tags)
        (it.1.digests ∙ ap (λ (s : S). (work s).1 - (work old).1) same ∙ sym its.1.digests),
    same,
  )

  shown_told_alike : (old a b : S) (line : List ℕ) (x y : Told X) → x.said ≡ y.said → a ≡ b → (told_protocol p logs work).shows old line x a → (told_protocol p logs work).shows old line y b
      → (x ≡ y) × (a ≡ b)
  shown_told_alike old a b line x y said same it its = (
    same_told x y said
        (one old a line x.accesses y.accesses it.1.accessed
        (subst (λ (s : S). logs old line (Some []) (Some y.accesses) s) (sym same) its.1.accessed))
        (it.1.tags ∙ ap (λ (s : S). (work s).0 - (work old).0) same ∙ sym its.1.tags)
        (it.1.digests ∙ ap (λ (s : S). (work s).1 - (work old).1) same ∙ sym its.1.digests),
    same,
  )

  told_exact : IsExact (told_protocol p logs work)
  told_exact =
      record {
        answered = λ old a b line x y it its.
            let same = exact.answered old a b line x.said y.said it.0 its.0 in told_alike old a b line x y same.0 same.1 it its;
        shown = λ old a b line x y it its.
            let same = exact.shown old a b line x.said y.said it.0 its.0 in shown_told_alike old a b line x y same.0 same.1 it its;
        apart = λ old a b line x y it its. exact.apart old a b line x.said y.said it.0 its.0;
      }

  pub voice_exact : (logged : Bool) → IsExact (voice p logs work logged)
  voice_exact false = exact
  voice_exact true = told_exact

-- ---- the sessions

same_command : {C : Type 0} (a b : C) (reading : Result (Option C) Kind) → reading ≡ Ok (Some a) → reading ≡ Ok (Some b) → a ≡ b
same_command a b reading it its = cc

-- a session whose replies are told by its commands, answers and exhibits
module _ {S R C A : Type 0} (session : Session S R) (reading : List ℕ → Result (Option C) Kind) (command : R → C) (answer : R → A) (made : C → A → R)
    (is_made : (its : R) → its ≡ made (command its) (answer its)) (replied : S → C → Result A Exhibit → S → Type 0)
    (one : (old a b : S) (asked : C) (first second : Result A Exhibit) → replied old asked first a → replied old asked second b → (first ≡ second) × (a ≡ b))
    (replies : (old new : S) (line : List ℕ) (its : R) → Replies session old line (reply its) new
    → (reading line ≡ Ok (Some (command its))) × replied old (command its) (Ok (answer its)) new)
    (shows : (old new : S) (line : List ℕ) (its : Exhibit) → session.shows old line its new
    → (asked : C) × (reading line ≡ Ok (Some asked)) × replied old asked (Err its) new) where
  at_command : (old new : S) (line : List ℕ) (a b : C) (result : Result A Exhibit) → reading line ≡ Ok (Some a) → reading line ≡ Ok (Some b) → replied old b result new
      → replied old a result new
  at_command old new line a b result it its gave = subst (λ (c : C). replied old c result new) (same_command b a (reading line) its it) gave

  same_answer : (a b : A) → (let first : Result A Exhibit = Ok a in first ≡ Ok b) → a ≡ b
  same_answer a b e = cc

  same_exhibit : (a b : Exhibit) → (let first : Result A Exhibit = Err a in first ≡ Err b) → a ≡ b
  same_exhibit a b e = cc

  answered : (old a b : S) (line : List ℕ) (x y : Said R) → Replies session old line x a → Replies session old line y b → (x ≡ y) × (a ≡ b)
  answered old a b line (reply x) (reply y) it its =
      let first = replies old a line x it in
      let second = replies old b line y its in
      let same =
      one old a b (command x) (Ok (answer x)) (Ok (answer y)) first.1
      (at_command old b line (command x) (command y) (Ok (answer y)) first.0 second.0 second.1) in
      let asked : command x ≡ command y = same_command (command x) (command y) (reading line) first.0 second.0 in (
        ap (λ (r : R). reply r)
            (is_made x ∙ (ap (λ (c : C). made c (answer x)) asked ∙ (ap (λ (v : A). made (command y) v) (same_answer (answer x) (answer y) same.0) ∙ sym (is_made y)))),
        same.1,
      )
  answered old a b line (reply x) (exhibit y) it its = absurd its
  answered old a b line (exhibit x) y it its = absurd it

  shown : (old a b : S) (line : List ℕ) (x y : Said R) → Shows session old line x a → Shows session old line y b → (x ≡ y) × (a ≡ b)
  shown old a b line (exhibit x) (exhibit y) it its =
      let first = shows old a line x it in
      let second = shows old b line y its in
      let same = one old a b first.0 (Err x) (Err y) first.2 (at_command old b line first.0 second.0 (Err y) first.1 second.1 second.2) in
      (ap (λ (e : Exhibit). exhibit e) (same_exhibit x y same.0), same.1)
  shown old a b line (exhibit x) (reply y) it its = absurd its
  shown old a b line (reply x) y it its = absurd it

  apart : (old a b : S) (line : List ℕ) (x y : Said R) → Replies session old line x a → Shows session old line y b → ⊥
  apart old a b line (reply x) (exhibit y) it its =
      let first = replies old a line x it in
      let second = shows old b line y its in
      let same =
      one old a b (command x) (Ok (answer x)) (Err y) first.1 (at_command old b line (command x) second.0 (Err y) first.0 second.1 second.2) in
      cc (same.0)
  apart old a b line (reply x) (reply y) it its = absurd its
  apart old a b line (exhibit x) y it its = absurd it

  pub session_exact : IsExact (session_protocol session)
  session_exact = record { answered = answered; shown = shown; apart = apart }

pub wear_exact : (setup : Setup) (keys : List ℕ) (every : ℕ) (logged : Bool) → IsExact (telling (levelled_session setup keys every) logged)
wear_exact setup keys every logged =
    let session = levelled_session setup keys every in
    voice_exact (session_protocol session) session.logs session.work
    (session_exact session reading_of_wear (λ (r : WearReply). r.command) (λ (r : WearReply). r.answer) (λ c a. record { command = c; answer = a })
    (λ r. refl) (IsWearReplied setup) (wear.replies_are_determined setup) (λ old new line its it. it)
    (λ old new line its it. (it.command, it.its_reading, it.shown)))
    (λ old new line accesses others it its. wear.same_logs (reading_of_wear line) old new accesses others it its) logged

pub txn_exact : (setup : Setup) (keys : List ℕ) (logged : Bool) → IsExact (telling (transactions_session setup keys) logged)
txn_exact setup keys logged =
    let session = transactions_session setup keys in
    voice_exact (session_protocol session) session.logs session.work
    (session_exact session reading_of_txn (λ (r : TxnReply). r.command) (λ (r : TxnReply). r.answer) (λ c a. record { command = c; answer = a })
    (λ r. refl) (IsTxnReplied setup) (txn.replies_are_determined setup) (λ old new line its it. it)
    (λ old new line its it. (it.command, it.its_reading, it.shown)))
    (λ old new line accesses others it its. txn.same_logs (reading_of_txn line) old new accesses others it its) logged

pub tree_exact : (setup : Setup) (keys : List ℕ) (logged : Bool) → IsExact (telling (counter_tree_session setup keys) logged)
tree_exact setup keys logged =
    let session = counter_tree_session setup keys in
    voice_exact (session_protocol session) session.logs session.work
    (session_exact session reading_of_tree (λ (r : TreeReply). r.command) (λ (r : TreeReply). r.answer) (λ c a. record { command = c; answer = a })
    (λ r. refl) (IsTreeReplied setup)
    (λ old a b command first second it its. tree.replies_are_determined setup command first second old a b it its) (λ old new line its it. it)
    (λ old new line its it. (it.command, it.its_reading, inl it.shown)))
    (λ old new line accesses others it its. tree.same_logs (reading_of_tree line) old new accesses others it its) logged

-- ---- whole sessions

module _ {S R : Type 0} (session : Session S R) (logged : Bool) (exact : IsExact (telling session logged))
    (begun : (a b : S) → session.begins a → session.begins b → a ≡ b) where
  -- memory for it was had
  its_talk : (stop : Stop) (trace left : Option (List ℕ)) (xs : List (ReplyAs (Said R) logged)) → stop ≢ Memory → Converses session logged stop trace left xs
      → IsConversation session logged stop trace left xs
  its_talk stop trace left xs had (inl none) = absurd (had none.0)
  its_talk stop trace left xs had (inr talk) = talk

  ends_of : (stop : Stop) (trace : List ℕ) (source left : Option (List ℕ)) (xs : List (ReplyAs (Said R) logged)) → source ≡ Some trace
      → (talk : IsConversation session logged stop source left xs) → TalkEnds (telling session logged) talk.first 0 stop trace left xs
  ends_of stop trace source left xs told talk =
      subst (λ (o : Option (List ℕ)). IfSome o (λ bytes. TalkEnds (telling session logged) talk.first 0 stop bytes left xs)) told talk.ends

  module _ (trace : List ℕ) (source its_source left rest : Option (List ℕ)) (told : source ≡ Some trace) (its_told : its_source ≡ Some trace)
      (stop other : Stop) (xs ys : List (ReplyAs (Said R) logged)) (quiet : IsOfTrace other) (its : Converses session logged other its_source rest ys) where
    abbrev second : IsConversation session logged other its_source rest ys
    second = its_talk other its_source rest ys quiet.had_memory its

    finishes : (first : S) → session.begins first → TalkEnds (telling session logged) first 0 other trace rest ys
    finishes first begins =
        subst (λ (s : S). TalkEnds (telling session logged) s 0 other trace rest ys) (begun second.first first second.begins begins)
        (ends_of other trace its_source rest ys its_told second)

    pub conversations_alike : IsOfTrace stop → Converses session logged stop source left xs → (stop ≡ other) × (xs ≡ ys)
    conversations_alike calm it =
        let talk = its_talk stop source left xs calm.had_memory it in
        talks_alike (telling session logged) exact talk.first trace stop other left rest xs ys calm quiet (ends_of stop trace source left xs told talk)
        (finishes talk.first talk.begins)

    pub conversations_front : Converses session logged stop source left xs → IsFrontRun stop other xs ys
    conversations_front (inl none) = inr (inl none.0, ys, ap (λ (zs : List (ReplyAs (Said R) logged)). zs ++ ys) (sym none.1))
    conversations_front (inr talk) =
        talks_front (telling session logged) exact talk.first trace other left rest xs ys quiet (finishes talk.first talk.begins) stop
        (ends_of stop trace source left xs told talk)

-- ---- first states

pub wear_begun : (setup : Setup) (keys : List ℕ) (every : ℕ) (a b : WearState) → (levelled_session setup keys every).begins a
    → (levelled_session setup keys every).begins b → a ≡ b
wear_begun setup keys every a b first second =
    wear.begins_are_determined setup every 0 0 a b first.new second.new first.opened second.opened (first.its_keys ∙ sym second.its_keys)

pub txn_begun : (setup : Setup) (keys : List ℕ) (a b : TxnState) → (transactions_session setup keys).begins a → (transactions_session setup keys).begins b → a ≡ b
txn_begun setup keys a b first second =
    txn.begins_are_determined setup 0 0 a b first.new second.new first.opened second.opened (first.its_keys ∙ sym second.its_keys)

pub tree_begun : (setup : Setup) (keys : List ℕ) (a b : SessionState) → (counter_tree_session setup keys).begins a
    → (counter_tree_session setup keys).begins b → a ≡ b
tree_begun setup keys a b first second =
    tree.begins_are_determined setup 0 0 0 a b first.new second.new first.formatted second.formatted (first.its_keys ∙ sym second.its_keys)
