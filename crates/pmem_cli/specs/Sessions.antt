-- What the program says of a session that has its own command, whichever session that is.
use Rattle.std.specs.Prelude.{◌≡◌, ◌≢◌, ◌⊎◌, ◌++◌, ⊤, ℕ, Bool, List, [], ◌∷◌, Option, IfSome}
use Rattle.std.specs.Io.KnownBytes.{Appends}
use Rattle.pmem_base.specs.declared.answers.Exhibit.{Exhibit}
use Rattle.pmem_base.specs.declared.answers.Answer.TheVariants as Say
use Rattle.board.specs.declared.access.Access.{Access}
use Rattle.plain_model.specs.declared.Stop.{Stop}
use Rattle.plain_model.specs.declared.Stop.TheVariants.{Memory, ReadFault}
use Rattle.plain_model.specs.Run.{stop_text, status_of}
use Rattle.plain_model.specs.Texts.{as_line, answer_text}
use Rattle.trace_text.specs.Talks.{Sort}
use Rattle.trace_text.specs.Conversations.{Protocol, texts_of, AreRepliesGiven, TalkEnds}
use Rattle.pmem_cli.specs.declared.ending.Ending.{Ending}
use Rattle.pmem_cli.specs.declared.ending.Ending.TheVariants.{Stopped}
use Rattle.pmem_cli.specs.Printed.{Output, AppendsFront}
use Rattle.pmem_cli.specs.Sampled.{HasSaidText}
use Rattle.pmem_cli.specs.Talked.{HasToldFirst}
use Rattle.pmem_cli.specs.Telling.{ReplyAs, said_in, said_by, log_before, voice}

-- ---- a session

-- what a session says to a line that asks: a reply, which is a command with its answer, or an exhibit instead of one
pub data Said (R : Type 0) : Type 0 where
  reply : R → Said R
  exhibit : Exhibit → Said R

-- What a session says to its user, by definitions that know nothing of what it stands on.
pub record Language (R : Type 0) : Type 1 where
  -- what a line is to its grammar
  pub sort_of : List ℕ → Sort
  -- a line that asks, and a reply to its command
  pub replies : List ℕ → R → Type 0
  -- the text of a reply's answer, without its LF
  pub text_of : R → List ℕ
  -- what all that it says promises
  pub promises : List (Said R) → Type 0

-- What a session is, by its own definitions.
pub record Session (S R : Type 0) : Type 1 where
  pub language : Language R
  -- the states of a new one
  pub begins : S → Type 0
  -- the state before, a command with its answer, and the state after
  pub answers : S → R → S → Type 0
  -- the state before, a line that asks, an exhibit that ends the session instead of a reply, and the state after
  pub shows : S → List ℕ → Exhibit → S → Type 0
  -- the state before, and a line that asks, for which memory may be needed
  pub wants_memory : S → List ℕ → Type 0
  -- the state before, a line, the log of the board's accesses before and after, and the state after
  pub logs : S → List ℕ → Option (List Access) → Option (List Access) → S → Type 0
  -- how many tags and digests were made
  pub work : S → ℕ × ℕ
  -- what else holds of all that it says from a new state on
  pub keeps : S → List (Said R) → Type 0

abbrev pub Replies : {S R : Type 0} → Session S R → S → List ℕ → Said R → S → Type 0
Replies session old line (reply its) new = session.language.replies line its × session.answers old its new
Replies session old line (exhibit its) new = ⊥

abbrev pub Shows : {S R : Type 0} → Session S R → S → List ℕ → Said R → S → Type 0
Shows session old line (reply its) new = ⊥
Shows session old line (exhibit its) new = session.shows old line its new

abbrev pub said_text : {R : Type 0} → Language R → Said R → List ℕ
said_text language (reply its) = language.text_of its
said_text language (exhibit its) = answer_text (Say.Shown its)

-- a session, as what answers the lines of a trace
abbrev pub session_protocol : {S R : Type 0} → Session S R → Protocol S (Said R)
session_protocol session =
    record {
      sort_of = session.language.sort_of;
      answers = Replies session;
      shows = Shows session;
      text_of = λ said. as_line (said_text session.language said);
      wants_memory = session.wants_memory;
      runs = λ state. ⊤;
    }

-- the replies among what was answered, and the exhibits
abbrev pub replies_among : {R : Type 0} → List (Said R) → List R
replies_among [] = []
replies_among (reply its ∷ said) = its ∷ replies_among said
replies_among (exhibit its ∷ said) = replies_among said

abbrev pub exhibits_among : {R : Type 0} → List (Said R) → List Exhibit
exhibits_among [] = []
exhibits_among (reply its ∷ said) = exhibits_among said
exhibits_among (exhibit its ∷ said) = its ∷ exhibits_among said

-- the same as it is printed: each reply by itself, or with what its command took before it
abbrev pub telling : {S R : Type 0} → Session S R → (logged : Bool) → Protocol S (ReplyAs (Said R) logged)
telling session logged = voice (session_protocol session) session.logs session.work logged

-- ---- as its user sees it

-- a reply is to the command of a line, an exhibit is one
abbrev pub IsReplyTo : {R : Type 0} → Language R → List ℕ → Said R → Type 0
IsReplyTo language line (reply its) = language.replies line its
IsReplyTo language line (exhibit its) = ⊥

abbrev pub IsExhibitSaid : {R : Type 0} → Said R → Type 0
IsExhibitSaid (reply its) = ⊥
IsExhibitSaid (exhibit its) = ⊤

-- what answers lines in this language, whatever its states are
abbrev pub spoken : {R : Type 0} → Language R → (logged : Bool) → Protocol ⊤ (ReplyAs (Said R) logged)
spoken {R} language logged =
    record {
      sort_of = language.sort_of;
      answers = λ old line its new. IsReplyTo language line (said_in (Said R) logged its);
      shows = λ old line its new. IsExhibitSaid (said_in (Said R) logged its);
      text_of = λ its. log_before (Said R) logged its ++ as_line (said_text language (said_in (Said R) logged its));
      wants_memory = λ old line. ⊤;
      runs = λ state. ⊤;
    }

-- This was answered to the lines of the trace, up to the stop; and it is as the language promises.
pub record IsSpoken {R : Type 0} (language : Language R) (logged : Bool) (stop : Stop) (trace left : Option (List ℕ))
    (replies : List (ReplyAs (Said R) logged)) : Type 0 where
  pub ends : IfSome trace (λ bytes. TalkEnds (spoken language logged) tt 0 stop bytes left replies)
  pub given : AreRepliesGiven (spoken language logged) tt replies
  pub promised : language.promises (said_by (Said R) logged replies)

-- Memory was needed before the first line, and nothing was taken; or it came to the stop.
abbrev pub Speaks : {R : Type 0} → Language R → (logged : Bool) → Stop → Option (List ℕ) → Option (List ℕ)
    → List (ReplyAs (Said R) logged) → Type 0
Speaks language logged stop trace left replies =
    ((stop ≡ Memory) × (replies ≡ []) × (left ≡ trace)) ⊎ IsSpoken language logged stop trace left replies

-- The session came to a stop, and its replies and the stop's line were put: the whole of them, with the stop's own status, or a prefix of
-- them, with status 4. Whatever the status, the stop is a failed pull only if one failed.
pub record HasSession {R : Type 0} (language : Language R) (logged : Bool) (status : ℕ) (pull_failed : Type 0)
    (trace left put_before put_after : Option (List ℕ)) : Type 0 where
  pub stop : Stop
  pub replies : List (ReplyAs (Said R) logged)
  pub talked : Speaks language logged stop trace left replies
  pub read : stop ≡ ReadFault → pull_failed
  pub its_status : status ≢ 4 → status ≡ status_of stop
  pub whole : status ≢ 4 → Appends put_before put_after (texts_of (spoken language logged) replies ++ stop_text stop)
  pub front : AppendsFront put_before put_after (texts_of (spoken language logged) replies ++ stop_text stop)

-- The replies to all whole lines that the source had given before its last pull were put.
abbrev pub HasSpokenFirst : {R : Type 0} → Language R → Bool → Option (List ℕ) → Option (List ℕ) → Output → Option (List ℕ) → Type 0
HasSpokenFirst language logged trace left_before from put = HasToldFirst (spoken language logged) tt trace left_before from put

-- ---- by its states

-- A new session said this to the lines of the trace, up to the stop.
pub record IsConversation {S R : Type 0} (session : Session S R) (logged : Bool) (stop : Stop) (trace left : Option (List ℕ))
    (replies : List (ReplyAs (Said R) logged)) : Type 0 where
  pub first : S
  pub begins : session.begins first
  pub ends : IfSome trace (λ bytes. TalkEnds (telling session logged) first 0 stop bytes left replies)
  pub given : AreRepliesGiven (telling session logged) first replies
  pub kept : session.keeps first (said_by (Said R) logged replies)

-- Memory was needed for the session itself, and nothing was taken; or it came to the stop.
abbrev pub Converses : {S R : Type 0} (session : Session S R) (logged : Bool) → Stop → Option (List ℕ) → Option (List ℕ)
    → List (ReplyAs (Said R) logged) → Type 0
Converses session logged stop trace left replies =
    ((stop ≡ Memory) × (replies ≡ []) × (left ≡ trace)) ⊎ IsConversation session logged stop trace left replies

-- It came to this stop by these replies, each answered in the state that those before it left.
pub record IsSaidBySession {S R : Type 0} (session : Session S R) (logged : Bool) (status : ℕ) (pull_failed : Type 0)
    (trace left put_before put_after : Option (List ℕ)) : Type 0 where
  pub told : HasSession session.language logged status pull_failed trace left put_before put_after
  pub conversed : Converses session logged told.stop trace left told.replies

-- The replies of a new session to all whole lines that the source had given before its last pull were put.
abbrev pub HasSaidFirst : {S R : Type 0} → Session S R → Bool → Option (List ℕ) → Option (List ℕ) → Output → Option (List ℕ) → Type 0
HasSaidFirst {S} session logged trace left_before from put =
    (first : S) × session.begins first × HasToldFirst (telling session logged) first trace left_before from put

-- ---- before the last line

-- a session came to a stop, with all its replies printed
pub record HasConversed {S R : Type 0} (session : Session S R) (logged : Bool) (stop : Stop) (trace left : Option (List ℕ)) (from to : Output) : Type 0 where
  pub replies : List (ReplyAs (Said R) logged)
  pub spoken_so : Speaks session.language logged stop trace left replies
  pub talked : Converses session logged stop trace left replies
  pub printed : HasSaidText stop from to (texts_of (spoken session.language logged) replies)

pub record SessionEnds {S R : Type 0} (session : Session S R) (logged : Bool) (ending : Ending) (trace left : Option (List ℕ)) (from to : Output) : Type 0 where
  pub stop : Stop
  pub its_stop : ending ≡ Stopped stop
  pub conversed : HasConversed session logged stop trace left from to
