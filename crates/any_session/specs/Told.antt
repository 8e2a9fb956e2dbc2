-- What became of a line that a session was given.
use Rattle.std.specs.Prelude.{ℕ, ◌≡◌, ◌++◌, Bool, true, false, List, [], Option, Some, None}
use Rattle.board.specs.declared.access.Access.{Access}
use Rattle.trace_text.specs.declared.talk.Talk.{Ghosts}
use Rattle.trace_text.specs.Talks.{skipped, asked, faulty}
use Rattle.trace_text.specs.Conversations.{Protocol}
use Rattle.pmem_cli.specs.Logged.{log_text}
use Rattle.pmem_cli.specs.Talked.{talk_of}
use Rattle.pmem_cli.specs.Telling as telling
use Rattle.pmem_cli.specs.Telling.{IsToldOf, told_protocol}
use Rattle.any_session.specs.declared.Told.{Told}
use Rattle.any_session.specs.declared.Told.TheVariants.{Skipped, Replied, NoMemory, Faulty, Over}

-- What answers lines: as the program has it, with what a log tells of a command, and the tags and digests that were made.
pub record Lines (S X : Type 0) : Type 1 where
  pub protocol : Protocol S X
  pub logs : S → List ℕ → Option (List Access) → Option (List Access) → S → Type 0
  pub work : S → ℕ × ℕ

-- a session by itself
abbrev pub lines_of : {T : Type 0} → Ghosts T → Lines T (List ℕ)
lines_of session = record { protocol = talk_of session; logs = session.logs; work = session.work }

-- a text that was kept, or nothing of it
abbrev pub kept_text : Bool → List ℕ → List ℕ
kept_text true text = text
kept_text false text = []

-- the reply leaves the new state; it goes on, or is an exhibit, which ends the session
abbrev pub IsReplyGoingOn : {S X : Type 0} → Protocol S X → Bool → S → List ℕ → X → S → Type 0
IsReplyGoingOn protocol false old line reply new = protocol.answers old line reply new
IsReplyGoingOn protocol true old line reply new = protocol.shows old line reply new

-- Whether the log is printed, whether the text is kept, and that text: the reply's, as the program prints it, with the command's log before
-- it if the log is printed.
abbrev pub IsKept : {S X : Type 0} → Lines S X → Bool → Bool → S → List ℕ → X → S → List ℕ → Type 0
IsKept lines logged false old line reply new text = text ≡ []
IsKept lines false true old line reply new text = text ≡ lines.protocol.text_of reply
IsKept {S} {X} lines true true old line reply new text =
    (told : telling.Told X) × (told.said ≡ reply) × IsToldOf lines.logs lines.work old line told new
    × (text ≡ (told_protocol lines.protocol lines.logs lines.work).text_of told)

-- What came of the line, the text that was kept, whether the session was over and its state, before and after. A line that
-- isn't answered leaves all as it was.
abbrev pub HasTold : {S X : Type 0} → Lines S X → Bool → Told → List ℕ → List ℕ → Bool → S → Bool → S → Type 0
HasTold lines logged Over line text was_over old is_over new =
    (was_over ≡ true) × (is_over ≡ true) × (new ≡ old) × (text ≡ [])
HasTold lines logged Skipped line text was_over old is_over new =
    (was_over ≡ false) × (is_over ≡ false) × (lines.protocol.sort_of line ≡ skipped) × (new ≡ old) × (text ≡ [])
HasTold lines logged (Faulty kind) line text was_over old is_over new =
    (was_over ≡ false) × (is_over ≡ false) × (lines.protocol.sort_of line ≡ faulty kind) × (new ≡ old) × (text ≡ [])
HasTold lines logged NoMemory line text was_over old is_over new =
    (was_over ≡ false) × (is_over ≡ false) × (lines.protocol.sort_of line ≡ asked) × lines.protocol.wants_memory old line × (new ≡ old) × (text ≡ [])
HasTold {S} {X} lines logged (Replied over kept) line text was_over old is_over new =
    (was_over ≡ false) × (is_over ≡ over) × (lines.protocol.sort_of line ≡ asked)
    × ((reply : X) × IsReplyGoingOn lines.protocol over old line reply new × IsKept lines logged kept old line reply new text)

-- ---- the log before a reply

-- a log that nothing was noted in, or none
abbrev pub begun_log : Bool → Option (List Access)
begun_log true = Some []
begun_log false = None

-- the text of a log that may be printed and may be lost, and of the tags and digests that were made
abbrev pub log_before : Bool → Option (List Access) → ℕ → ℕ → List ℕ
log_before false log tags digests = []
log_before true None tags digests = []
log_before true (Some accesses) tags digests = log_text accesses tags digests

-- Whether a reply is kept, and what is: its text, with the log before it if logs are printed. A reply whose log was lost isn't.
abbrev pub IsTextKept : Bool → Option (List Access) → ℕ → ℕ → List ℕ → Bool → List ℕ → Type 0
IsTextKept logged log tags digests text false kept = kept ≡ []
IsTextKept false log tags digests text true kept = kept ≡ text
IsTextKept true None tags digests text true kept = ⊥
IsTextKept true (Some accesses) tags digests text true kept = kept ≡ log_text accesses tags digests ++ text
