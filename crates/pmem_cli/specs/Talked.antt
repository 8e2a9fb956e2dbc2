-- What a session's status says of a trace in its language.
use Rattle.std.specs.Prelude.{◌≡◌, ◌≢◌, ◌≤◌, ◌⊎◌, ◌++◌, ⊤, ℕ, List, length, All, Option, IfSome}
use Rattle.std.specs.List.{flat_map}
use Rattle.std.specs.Io.KnownBytes.{Appends}
use Rattle.plain_model.specs.declared.Stop.{Stop}
use Rattle.plain_model.specs.declared.Stop.TheVariants.{ReadFault}
use Rattle.plain_model.specs.Lines.{lines_of, IsWithin, ended}
use Rattle.plain_model.specs.Run.{line_limit, stop_text, status_of}
use Rattle.trace_text.specs.declared.talk.Talk.{Ghosts}
use Rattle.trace_text.specs.Talks.{Sort, skipped, asked, faulty}
use Rattle.trace_text.specs.Conversations.{Protocol, talk_protocol, line_sort, texts_of, IsTalk, AreRepliesGiven, TalkEnds}
use Rattle.pmem_cli.specs.Printed.{Output, AppendsFront, PutsAtLeast}
use Rattle.pmem_cli.specs.Pulling.{IsUndecided}

-- a session by itself, as what answers the lines of a trace
abbrev pub talk_of : {T : Type 0} → Ghosts T → Protocol T (List ℕ)
talk_of session = talk_protocol session.sort_of session.answers session.shows session.wants_memory

-- The trace ends by a stop, and its replies and the stop's line were put: the whole of them, with the stop's own status, or a prefix of
-- them, with status 4. Whatever the status, the stop is a failed pull only if one failed.
pub record HasTalked {S X : Type 0} (protocol : Protocol S X) (first : S) (status : ℕ) (pull_failed : Type 0)
    (trace left put_before put_after : Option (List ℕ)) : Type 0 where
  pub stop : Stop
  pub replies : List X
  pub ends : IfSome trace (λ bytes. TalkEnds protocol first 0 stop bytes left replies)
  pub given : AreRepliesGiven protocol first replies
  pub read : stop ≡ ReadFault → pull_failed
  pub its_status : status ≢ 4 → status ≡ status_of stop
  pub whole : status ≢ 4 → Appends put_before put_after (texts_of protocol replies ++ stop_text stop)
  pub front : AppendsFront put_before put_after (texts_of protocol replies ++ stop_text stop)

-- ---- a trace without faults

abbrev pub IsNoFault : Sort → Type 0
IsNoFault skipped = ⊤
IsNoFault asked = ⊤
IsNoFault (faulty kind) = ⊥

-- all lines of these bytes are in the grammar, and there are no more of them than a trace may have
abbrev pub IsInLanguage : {S X : Type 0} → Protocol S X → List ℕ → Type 0
IsInLanguage protocol bytes = All (λ line. IsNoFault (line_sort protocol line)) (lines_of bytes) × (length (lines_of bytes) ≤ line_limit)

-- every command was answered, or the run ended by an exhibit, or memory was needed
abbrev pub IsRunThrough : ℕ → Type 0
IsRunThrough status = (status ≡ 0) ⊎ ((status ≡ 6) ⊎ (status ≡ 1))

-- it goes through if no fault came
abbrev pub IsTalkComplete : {S X : Type 0} → Protocol S X → ℕ → Option (List ℕ) → Type 0 → Type 0
IsTalkComplete protocol status trace fault = IfSome trace (λ bytes. IsInLanguage protocol bytes → ¬ fault → IsRunThrough status)

-- ---- replies before a pull

-- The whole lines of these bytes were answered, and all replies to them were put; what was given of the next line
-- decides no stop.
pub record AreRepliesTold {S X : Type 0} (protocol : Protocol S X) (first : S) (given : List ℕ) (from : Output) (put : Option (List ℕ)) : Type 0 where
  pub lines : List (List ℕ)
  pub part : List ℕ
  pub cut : given ≡ flat_map ended lines ++ part
  pub whole : All IsWithin lines
  pub undecided : IsUndecided (length lines) part
  pub replies : List X
  pub last : S
  pub talk : IsTalk protocol first lines replies last
  pub told : PutsAtLeast from put (texts_of protocol replies)

-- So it is of the bytes that the source had given before its last pull.
abbrev pub HasToldFirst : {S X : Type 0} → Protocol S X → S → Option (List ℕ) → Option (List ℕ) → Output → Option (List ℕ) → Type 0
HasToldFirst protocol first trace left_before from put =
    IfSome trace (λ bytes. IfSome left_before (λ behind. (given : List ℕ) × (bytes ≡ given ++ behind) × AreRepliesTold protocol first given from put))
