-- Replies that are printed with what their commands took of the board and the suite.
use Rattle.std.specs.Prelude.{◌≡◌, ◌⊎◌, ◌-◌, ◌++◌, ℕ, Bool, true, false, List, [], map, Option, Some, None}
use Rattle.board.specs.declared.access.Access.{Access}
use Rattle.plain_model.specs.declared.Stop.{Stop}
use Rattle.plain_model.specs.declared.Stop.TheVariants.{Memory, WriteFault}
use Rattle.plain_model.specs.Texts.{as_line}
use Rattle.trace_text.specs.declared.talk.Talk.{Ghosts}
use Rattle.trace_text.specs.Conversations.{Protocol}
use Rattle.pmem_cli.specs.Logged.{log_text}
use Rattle.pmem_cli.specs.Printed.{Output, Prints, PrintsFront}
use Rattle.pmem_cli.specs.Talked.{talk_of}

-- a reply, the command's accesses of the board in their order, and the tags and digests that were made
pub record Told (X : Type 0) : Type 0 where
  pub said : X
  pub accesses : List Access
  pub tags : ℕ
  pub digests : ℕ

-- The accesses are the command's, as a log of it tells them, and the tags and digests are those that were counted.
pub record IsToldOf {S X : Type 0} (logs : S → List ℕ → Option (List Access) → Option (List Access) → S → Type 0) (work : S → ℕ × ℕ)
    (old : S) (line : List ℕ) (told : Told X) (new : S) : Type 0 where
  pub accessed : logs old line (Some []) (Some told.accesses) new
  pub tags : told.tags ≡ (work new).0 - (work old).0
  pub digests : told.digests ≡ (work new).1 - (work old).1

-- What answers lines, with what each command took printed before its reply. Memory may be needed for the log too, of a command whose log
-- may be lost.
abbrev pub told_protocol : {S X : Type 0} → Protocol S X → (S → List ℕ → Option (List Access) → Option (List Access) → S → Type 0) → (S → ℕ × ℕ)
    → Protocol S (Told X)
told_protocol {S} {X} protocol logs work =
    record {
      sort_of = protocol.sort_of;
      answers = λ old line told new. protocol.answers old line told.said new × IsToldOf logs work old line told new;
      shows = λ old line told new. protocol.shows old line told.said new × IsToldOf logs work old line told new;
      text_of = λ told. log_text told.accesses told.tags told.digests ++ protocol.text_of told.said;
      wants_memory = λ old line. protocol.wants_memory old line ⊎ ((new : S) × logs old line (Some []) None new);
      runs = protocol.runs;
    }

-- a reply by itself; or, if the log is printed too, with what its command took
abbrev pub ReplyAs : Type 0 → Bool → Type 0
ReplyAs X false = X
ReplyAs X true = Told X

-- what a reply answers, and what stands before it: its log, if that is printed
abbrev pub said_in : (X : Type 0) → (logged : Bool) → ReplyAs X logged → X
said_in X false said = said
said_in X true told = told.said

abbrev pub log_before : (X : Type 0) → (logged : Bool) → ReplyAs X logged → List ℕ
log_before X false said = []
log_before X true told = log_text told.accesses told.tags told.digests

-- what all of them answer
abbrev pub said_by : (X : Type 0) → (logged : Bool) → List (ReplyAs X logged) → List X
said_by X false said = said
said_by X true told = map (λ (its : Told X). its.said) told

-- what answers lines, each reply by itself or with what its command took before it
abbrev pub voice : {S X : Type 0} → Protocol S X → (S → List ℕ → Option (List Access) → Option (List Access) → S → Type 0) → (S → ℕ × ℕ)
    → (logged : Bool) → Protocol S (ReplyAs X logged)
voice protocol logs work false = protocol
voice protocol logs work true = told_protocol protocol logs work

-- of a session by itself
abbrev pub voice_of : {T : Type 0} → Ghosts T → (logged : Bool) → Protocol T (ReplyAs (List ℕ) logged)
voice_of session logged = voice (talk_of session) session.logs session.work logged

-- A line was answered with its log before it, or the sink failed at that; if the log was lost, nothing was.
abbrev pub TellsLine : Option Stop → Option (List Access) → ℕ → ℕ → List ℕ → Output → Output → Type 0
TellsLine None (Some accesses) tags digests text from to = Prints from to (log_text accesses tags digests ++ as_line text)
TellsLine (Some WriteFault) (Some accesses) tags digests text from to =
    PrintsFront from to (log_text accesses tags digests ++ as_line text)
TellsLine (Some Memory) None tags digests text from to = to ≡ from
TellsLine stop log tags digests text from to = ⊥

-- the same of how many tags and digests were made before the line and after it
abbrev pub TellsWork : Option Stop → Option (List Access) → ℕ × ℕ → ℕ × ℕ → List ℕ → Output → Output → Type 0
TellsWork stop log before after text from to = TellsLine stop log (after.0 - before.0) (after.1 - before.1) text from to
