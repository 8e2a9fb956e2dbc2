-- The lines of a trace, answered one after the other, and how that ends. Each definition holds from any state on, after that many lines.
use Rattle.std.specs.Prelude.{ℕ, ◌≡◌, ◌≤◌, ◌<◌, ◌+◌, ◌⊎◌, ⊤, List, [], ◌∷◌, ◌++◌, length, nat_lt, All, Option, Some, if◌then◌else◌}
use Rattle.std.specs.List.{flat_map}
use Rattle.std.specs.Io.KnownBytes.{Consumes}
use Rattle.pmem_base.specs.declared.commands.Kind.{Kind}
use Rattle.pmem_base.specs.declared.commands.Kind.TheVariants.{Long}
use Rattle.pmem_base.specs.declared.answers.Exhibit.{Exhibit}
use Rattle.pmem_base.specs.declared.answers.Answer.TheVariants as Say
use Rattle.plain_model.specs.declared.Stop.{Stop}
use Rattle.plain_model.specs.declared.Stop.TheVariants.{Finished, Memory, Words, ReadFault, WriteFault, Refused, Shown, TooManyLines}
use Rattle.plain_model.specs.Lines.{lines_of, ended, IsWithin}
use Rattle.plain_model.specs.Run.{line_limit}
use Rattle.plain_model.specs.Texts.{as_line, answer_text}
use Rattle.trace_text.specs.Talks.{Sort, skipped, asked, faulty}

-- ---- what the answers mean

-- What answers lines: its states are plain data, and so are its replies.
pub record Protocol (S X : Type 0) : Type 1 where
  -- what a line is to the grammar
  pub sort_of : List ℕ → Sort
  -- the state before, a line that asks, a reply to it, and the state after
  pub answers : S → List ℕ → X → S → Type 0
  -- the state before, a line that asks, a reply that is an exhibit and ends all, and the state after
  pub shows : S → List ℕ → X → S → Type 0
  -- what is printed of a reply, with each LF
  pub text_of : X → List ℕ
  -- the state before, and a line that asks, whose reply may run out of memory
  pub wants_memory : S → List ℕ → Type 0
  -- the states in which lines are answered
  pub runs : S → Type 0

-- a session by itself: a reply is the text of an answer, and is printed as a line
abbrev pub talk_protocol : {S : Type 0} → (List ℕ → Sort) → (S → List ℕ → List ℕ → S → Type 0) → (S → List ℕ → Exhibit → S → Type 0)
    → (S → List ℕ → Type 0) → Protocol S (List ℕ)
talk_protocol sort_of answers shows wants_memory =
    record {
      sort_of = sort_of;
      answers = answers;
      shows = λ old line text new. (exhibit : Exhibit) × (text ≡ answer_text (Say.Shown exhibit)) × shows old line exhibit new;
      text_of = as_line;
      wants_memory = wants_memory;
      runs = λ state. ⊤;
    }

-- what a line of a trace is: one of more than 1,024 bytes is faulty in every grammar
abbrev pub line_sort : {S X : Type 0} → Protocol S X → List ℕ → Sort
line_sort protocol line = if nat_lt 1024 (length line) then faulty Long else protocol.sort_of line

abbrev pub texts_of : {S X : Type 0} → Protocol S X → List X → List ℕ
texts_of protocol replies = flat_map protocol.text_of replies

-- ---- the answers to lines

-- a line was skipped, or it was answered, and all goes on
abbrev pub AnswersOne : {S X : Type 0} → Protocol S X → S → List ℕ → List X → S → Type 0
AnswersOne {S} {X} protocol first line replies next =
    ((line_sort protocol line ≡ skipped) × (replies ≡ []) × (next ≡ first))
    ⊎ ((reply : X) × (line_sort protocol line ≡ asked) × (replies ≡ reply ∷ []) × protocol.answers first line reply next)

-- so each of these was, in the state that those before it left, and these are the replies in order
abbrev pub IsTalk : {S X : Type 0} → Protocol S X → S → List (List ℕ) → List X → S → Type 0
IsTalk protocol first [] replies last = (replies ≡ []) × (last ≡ first)
IsTalk {S} {X} protocol first (line ∷ lines) replies last =
    (next : S) × (here : List X) × (later : List X) × AnswersOne protocol first line here next × (replies ≡ here ++ later)
    × IsTalk protocol next lines later last

-- Each of these replies was given to a line that asked, in the state that those before it left. Only the last
-- may be an exhibit.
abbrev pub AreRepliesGiven : {S X : Type 0} → Protocol S X → S → List X → Type 0
AreRepliesGiven protocol first [] = ⊤
AreRepliesGiven {S} protocol first (reply ∷ replies) =
    (line : List ℕ) × (line_sort protocol line ≡ asked)
    × (((next : S) × protocol.answers first line reply next × AreRepliesGiven protocol next replies)
    ⊎ ((next : S) × protocol.shows first line reply next × (replies ≡ [])))

-- ---- stops

-- the replies are those to a prefix of these lines
pub record IsTalkFront {S X : Type 0} (protocol : Protocol S X) (first : S) (lines : List (List ℕ)) (replies : List X) : Type 0 where
  pub before : List (List ℕ)
  pub behind : List (List ℕ)
  pub cut : lines ≡ before ++ behind
  pub last : S
  pub talk : IsTalk protocol first before replies last

-- all lines were answered, and there are no more than a trace may have
pub record IsFinishedTalk {S X : Type 0} (protocol : Protocol S X) (first : S) (served : ℕ) (lines : List (List ℕ)) (replies : List X) :
    Type 0 where
  pub last : S
  pub talk : IsTalk protocol first lines replies last
  pub counted : served + length lines ≤ line_limit

-- the first faulty line has this number and this kind, and those before it were answered
pub record IsRefusedTalk {S X : Type 0} (protocol : Protocol S X) (first : S) (served : ℕ) (lines : List (List ℕ)) (replies : List X)
    (number : ℕ) (kind : Kind) : Type 0 where
  pub before : List (List ℕ)
  pub line : List ℕ
  pub behind : List (List ℕ)
  pub cut : lines ≡ before ++ line ∷ behind
  pub last : S
  pub talk : IsTalk protocol first before replies last
  pub refused : line_sort protocol line ≡ faulty kind
  pub numbered : number ≡ served + length before + 1
  pub counted : number ≤ line_limit

-- the lines before one were answered, and the reply to that one is an exhibit, which is the last one
pub record IsShownTalk {S X : Type 0} (protocol : Protocol S X) (first : S) (served : ℕ) (lines : List (List ℕ)) (replies : List X) :
    Type 0 where
  pub before : List (List ℕ)
  pub line : List ℕ
  pub behind : List (List ℕ)
  pub cut : lines ≡ before ++ line ∷ behind
  pub earlier : List X
  pub middle : S
  pub talk : IsTalk protocol first before earlier middle
  pub last : X
  pub all : replies ≡ earlier ++ last ∷ []
  pub its_sort : line_sort protocol line ≡ asked
  pub after : S
  pub shown : protocol.shows middle line last after
  pub counted : served + length before < line_limit

-- the lines up to the limit were answered, and more lines follow
pub record IsCutOffTalk {S X : Type 0} (protocol : Protocol S X) (first : S) (served : ℕ) (lines : List (List ℕ)) (replies : List X) :
    Type 0 where
  pub front : IsTalkFront protocol first lines replies
  pub counted : served + length front.before ≡ line_limit
  pub more : 0 < length front.behind

-- The whole lines that the source gave were answered. What it gave of the next line decides no stop by itself: it is no longer than a line
-- may be, and nothing at the limit.
pub record IsCutShortTalk {S X : Type 0} (protocol : Protocol S X) (first : S) (served : ℕ) (trace : List ℕ)
    (left : Option (List ℕ)) (replies : List X) : Type 0 where
  pub before : List (List ℕ)
  pub part : List ℕ
  pub taken : Consumes (Some trace) left (flat_map ended before ++ part)
  pub whole : All IsWithin before
  pub unfinished : IsWithin part
  pub short : length part ≤ 1024
  pub last : S
  pub talk : IsTalk protocol first before replies last
  pub counted : served + length before ≤ line_limit
  pub at_limit : served + length before ≡ line_limit → part ≡ []

-- the lines before one were answered, and memory was needed for the reply to that one, which isn't past the limit
pub record IsStarvedTalk {S X : Type 0} (protocol : Protocol S X) (first : S) (served : ℕ) (lines : List (List ℕ)) (replies : List X) :
    Type 0 where
  pub before : List (List ℕ)
  pub line : List ℕ
  pub behind : List (List ℕ)
  pub cut : lines ≡ before ++ line ∷ behind
  pub last : S
  pub talk : IsTalk protocol first before replies last
  pub its_sort : line_sort protocol line ≡ asked
  pub wanted : protocol.wants_memory last line
  pub counted : served + length before < line_limit

-- a prefix of the lines was answered, of no more of them than a trace may have
pub record IsLimitedTalk {S X : Type 0} (protocol : Protocol S X) (first : S) (served : ℕ) (lines : List (List ℕ)) (replies : List X) :
    Type 0 where
  pub front : IsTalkFront protocol first lines replies
  pub counted : served + length front.before ≤ line_limit

-- What a stop says of the rest of a trace, of what is left of it, and of the replies.
abbrev pub TalkEnds : {S X : Type 0} → Protocol S X → S → ℕ → Stop → List ℕ → Option (List ℕ) → List X → Type 0
TalkEnds protocol first served Finished trace left replies = IsFinishedTalk protocol first served (lines_of trace) replies
TalkEnds protocol first served Memory trace left replies = IsStarvedTalk protocol first served (lines_of trace) replies
TalkEnds protocol first served Words trace left replies = ⊥
TalkEnds protocol first served ReadFault trace left replies = IsCutShortTalk protocol first served trace left replies
TalkEnds protocol first served WriteFault trace left replies =
    IsLimitedTalk protocol first served (lines_of trace) replies ⊎ IsShownTalk protocol first served (lines_of trace) replies
TalkEnds protocol first served (Refused number kind) trace left replies = IsRefusedTalk protocol first served (lines_of trace) replies number kind
TalkEnds protocol first served Shown trace left replies = IsShownTalk protocol first served (lines_of trace) replies
TalkEnds protocol first served TooManyLines trace left replies = IsCutOffTalk protocol first served (lines_of trace) replies
