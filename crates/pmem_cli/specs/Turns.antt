-- What one call leaves of a run: the lines that it took, the replies that it printed, and how it stopped. Each definition holds for
-- whatever answers the lines.
use Rattle.std.specs.Prelude.{◌≡◌, ◌≢◌, ◌⊎◌, ℕ, List, [], ◌∷◌, All, IfSome, Option, Some, None}
use Rattle.std.specs.List.{flat_map}
use Rattle.std.specs.Io.KnownBytes.{Consumes, prepend_known}
use Rattle.plain_model.specs.declared.Stop.{Stop}
use Rattle.plain_model.specs.declared.Stop.TheVariants.{Finished, Memory, Words, ReadFault, WriteFault, Refused, Shown, TooManyLines}
use Rattle.plain_model.specs.Lines.{IsWithin, ended}
use Rattle.trace_text.specs.Talks.{skipped, asked, faulty}
use Rattle.trace_text.specs.Conversations.{Protocol, texts_of, IsTalk, AreRepliesGiven, TalkEnds}
use Rattle.pmem_cli.specs.Causes.{CountsFault}
use Rattle.pmem_cli.specs.declared.lines.Found.{Found}
use Rattle.pmem_cli.specs.Pieces.{Finds}
use Rattle.pmem_cli.specs.Printed.{Output, Prints, PrintsFront, PutsAtLeast}
use Rattle.pmem_cli.specs.Pulling.{PullsUndecided}

-- These lines were taken from what was ahead, and answered by these replies, which were printed.
pub record HasServed {S X : Type 0} (protocol : Protocol S X) (ahead behind : Option (List ℕ)) (before after : S) (from to : Output)
    (lines : List (List ℕ)) (replies : List X) : Type 0 where
  pub taken : Consumes ahead behind (flat_map ended lines)
  pub within : All IsWithin lines
  pub talk : IsTalk protocol before lines replies after
  pub running : protocol.runs after
  pub printed : Prints from to (texts_of protocol replies)

-- The run stops here, after that many lines, and so much is left of the source. If the sink didn't fail, all replies were printed.
pub record HasStopped {S X : Type 0} (protocol : Protocol S X) (stop : Stop) (ahead left : Option (List ℕ)) (before : S) (from to : Output)
    (served : ℕ) : Type 0 where
  pub replies : List X
  pub ends : IfSome ahead (λ bytes. TalkEnds protocol before served stop bytes left replies)
  pub given : AreRepliesGiven protocol before replies
  pub front : PrintsFront from to (texts_of protocol replies)
  pub whole : stop ≢ WriteFault → Prints from to (texts_of protocol replies)

-- how one line was answered, or why the run stops at it
abbrev pub AnswersLine : {S X : Type 0} → Protocol S X → Option Stop → List ℕ → ℕ → S → S → Output → Output → Type 0
AnswersLine {S} {X} protocol None line number before after from to =
    protocol.runs after
    × (((protocol.sort_of line ≡ skipped) × (after ≡ before) × (to ≡ from))
    ⊎ ((reply : X) × (protocol.sort_of line ≡ asked) × protocol.answers before line reply after × Prints from to (protocol.text_of reply)))
AnswersLine protocol (Some (Refused n kind)) line number before after from to =
    (n ≡ number) × (protocol.sort_of line ≡ faulty kind) × (to ≡ from)
AnswersLine protocol (Some Memory) line number before after from to = (protocol.sort_of line ≡ asked) × protocol.wants_memory before line × (to ≡ from)
AnswersLine {S} {X} protocol (Some WriteFault) line number before after from to =
    (reply : X) × (protocol.sort_of line ≡ asked) × (protocol.answers before line reply after ⊎ protocol.shows before line reply after)
    × PrintsFront from to (protocol.text_of reply)
AnswersLine {S} {X} protocol (Some Shown) line number before after from to =
    (reply : X) × (protocol.sort_of line ≡ asked) × protocol.shows before line reply after × Prints from to (protocol.text_of reply)
AnswersLine protocol (Some Finished) line number before after from to = ⊥
AnswersLine protocol (Some Words) line number before after from to = ⊥
AnswersLine protocol (Some ReadFault) line number before after from to = ⊥
AnswersLine protocol (Some TooManyLines) line number before after from to = ⊥

-- one turn: a line was served, or the run stopped
abbrev pub Turns : {S X : Type 0} → Protocol S X → Option Stop → Option (List ℕ) → Option (List ℕ) → Option (List ℕ) → S → S
    → Output → Output → ℕ → Type 0
Turns {S} {X} protocol None ahead behind left before after from to served =
    (line : List ℕ) × (replies : List X) × HasServed protocol ahead behind before after from to (line ∷ []) replies
Turns protocol (Some stop) ahead behind left before after from to served = HasStopped protocol stop ahead left before from to served

-- the turn of what was found, in whatever was ahead
abbrev pub TurnsFound : {S X : Type 0} → Protocol S X → Option Stop → Found → List ℕ → S → S → Output → Output → ℕ → Type 0
TurnsFound protocol stop found line before after from to served =
    (ahead behind left : Option (List ℕ)) → Finds found ahead behind line → Turns protocol stop ahead behind left before after from to served

-- the turn of a source of which a reader held bytes, and holds
abbrev pub TurnsRead : {S X : Type 0} → Protocol S X → Option Stop → ℕ → S → S → List ℕ → List ℕ → Option (List ℕ) → Option (List ℕ)
    → Output → Output → Type 0
TurnsRead protocol stop served before after held holds unread left from to =
    Turns protocol stop (prepend_known held unread) (prepend_known holds left) left before after from to served

-- before the last pull all that waited was put, and what was given decided no stop
abbrev pub PutsBeforePull : ℕ → List ℕ → Option (List ℕ) → Option (List ℕ) → Output → Option (List ℕ) → Type 0
PutsBeforePull served held unread left_before from put =
    PutsAtLeast from put [] × PullsUndecided served (prepend_known held unread) left_before

-- a whole trace was answered to a stop
abbrev pub HasAnswered : {S X : Type 0} → Protocol S X → Stop → S → Option (List ℕ) → Option (List ℕ) → Output → Output → Type 0
HasAnswered protocol stop first trace left from to = HasStopped protocol stop trace left first from to 0

-- A fault counts itself and causes a stop, no other stop counts one, and words aren't at fault.
pub record StopsByCause (stop : Option Stop) (reads_before reads_now writes_before writes_now : ℕ) : Type 0 where
  pub reads : CountsFault (stop ≡ Some ReadFault) reads_before reads_now
  pub writes : CountsFault (stop ≡ Some WriteFault) writes_before writes_now
  pub words : stop ≡ Some Words → ⊥
