-- What a session's answers promise: in each chain of them from the beginning on a read shows the line that was
-- last written, start and gap change by moves alone, as `on` and `place` show, recovery that isn't cut succeeds,
-- and what is refused is refused as used up.
use Rattle.std.specs.Prelude.{ℕ, ◌≡◌, ◌<◌, ◌+◌, ◌%◌, ◌==◌, ◌⊎◌, Bool, true, List, [], ◌∷◌, replicate, slice_get, None, MatchOption, All, slice_set, ⊤, if◌then◌else◌}
use Rattle.pmem_base.specs.declared.lines.Line.{Line}
use Rattle.pmem_base.specs.Lines.{line_at, zero_line}
use Rattle.pmem_base.specs.Layout.{page_of}
use Rattle.suite.specs.Setup.{Setup}
use Rattle.plain_model.specs.State.{Memory}
use Rattle.plain_model.specs.Fits.{next_marks}
use Rattle.start_gap.specs.declared.wear.Wear.{Wear}
use Rattle.start_gap.specs.Wear.{place_of, next_wear, first_wear}
use Rattle.start_gap.specs.Gapped.{logical_lines}
use Rattle.wear_session.specs.declared.commands.WearCommand.{WearCommand}
use Rattle.wear_session.specs.declared.commands.WearCommand.TheVariants as Do
use Rattle.wear_session.specs.declared.answers.WearAnswer.{WearAnswer}
use Rattle.wear_session.specs.declared.answers.WearAnswer.TheVariants as Say
use Rattle.line_session.specs.State.{moment_in}
use Rattle.wear_session.specs.State.{WearState, IsNewWear, engine_writes}
use Rattle.wear_session.specs.Answered.{IsWearAnswered}

-- ---- chains of answers

-- a command and its answer
pub record WearReply : Type 0 where
  pub command : WearCommand
  pub answer : WearAnswer

-- each was answered in the state that those before it left
abbrev pub AreWearAnswered : Setup → WearState → List WearReply → WearState → Type 0
AreWearAnswered setup first [] last = last ≡ first
AreWearAnswered setup first (reply ∷ replies) last =
    (next : WearState) × IsWearAnswered setup first reply.command reply.answer next
    × AreWearAnswered setup next replies last

-- a chain from a new session on
pub record IsWearSession (setup : Setup) (every : ℕ) (replies : List WearReply) (last : WearState) : Type 0 where
  pub first : WearState
  pub is_new : IsNewWear setup every first
  pub answered : AreWearAnswered setup first replies last

-- ---- what is read

-- memory by the answers alone: a line changes by a write that was answered ok, held or kept
abbrev pub memory_with_reply : Memory → WearCommand → WearAnswer → Memory
memory_with_reply memory (Do.Write a plain) (Say.Written steps) = slice_set memory a plain
memory_with_reply memory (Do.Write a plain) (Say.Held page steps) = slice_set memory a plain
memory_with_reply memory (Do.Write a plain) (Say.CutKept steps) = slice_set memory a plain
memory_with_reply memory command answer = memory

-- a read shows this memory's line
abbrev pub IsWearReadOf : Memory → WearCommand → WearAnswer → Type 0
IsWearReadOf memory (Do.Read a) (Say.Got plain steps) = plain ≡ line_at memory a
IsWearReadOf memory command answer = ⊤

-- each read shows the line that was last written, or that of this memory
abbrev pub AreReadAsWritten : Memory → List WearReply → Type 0
AreReadAsWritten memory [] = ⊤
AreReadAsWritten memory (reply ∷ replies) =
    IsWearReadOf memory reply.command reply.answer
    × AreReadAsWritten (memory_with_reply memory reply.command reply.answer) replies

-- ---- start and gap

-- what the answers alone say of the wear: the wear, and how many lines were written since power came on; 0 if a cut or `off` turned it off
pub record Turning : Type 0 where
  pub wear : Wear
  pub written : ℕ

-- whether the next line that is written is an `every`th one
abbrev pub is_turn : ℕ → Turning → Bool
is_turn every turning = (turning.written + 1) % every == 0

abbrev pub wear_turned : ℕ → ℕ → Turning → Wear
wear_turned n every turning =
    if is_turn every turning then next_wear n turning.wear else turning.wear

-- An answer: a move is made at each `every`th line that is written, if that is answered ok. A cut may come before its end or not, and no
-- other move is made. `on` and `place` show the wear.
abbrev pub TurnsTo : ℕ → ℕ → Turning → WearCommand → WearAnswer → Turning → Type 0
TurnsTo n every old (Do.Write a plain) (Say.Written steps) new =
    (new.wear ≡ wear_turned n every old) × (new.written ≡ old.written + 1)
TurnsTo n every old (Do.Write a plain) (Say.Held page steps) new =
    (is_turn every old ≡ true) × (new.wear ≡ old.wear) × (new.written ≡ old.written + 1)
TurnsTo n every old (Do.Write a plain) (Say.CutKept steps) new =
    ((new.wear ≡ old.wear) ⊎ (new.wear ≡ wear_turned n every old)) × (new.written ≡ 0)
TurnsTo n every old command (Say.CutLost steps) new = (new.wear ≡ old.wear) × (new.written ≡ 0)
TurnsTo n every old command (Say.Cut steps) new = (new.wear ≡ old.wear) × (new.written ≡ 0)
TurnsTo n every old Do.Off Say.Ok new = (new.wear ≡ old.wear) × (new.written ≡ 0)
TurnsTo n every old Do.On (Say.Opened start gap steps) new =
    (start ≡ old.wear.start) × (gap ≡ old.wear.gap) × (new.wear ≡ old.wear) × (new.written ≡ 0)
TurnsTo n every old (Do.Place a) (Say.At place) new = (place ≡ place_of n old.wear a) × (new ≡ old)
TurnsTo n every old command answer new = (new.wear ≡ old.wear) × (new.written ≡ old.written)

abbrev pub AreTurned : ℕ → ℕ → Turning → List WearReply → Turning → Type 0
AreTurned n every first [] last = last ≡ first
AreTurned n every first (reply ∷ replies) last =
    (next : Turning) × TurnsTo n every first reply.command reply.answer next
    × AreTurned n every next replies last

-- nothing has moved, and nothing was written
abbrev pub no_turning : ℕ → Turning
no_turning n = record { wear = first_wear n; written = 0 }

-- ---- recovery

-- recovery ends with power on, unless it is cut; or it shows a twin
abbrev pub IsWearMendedAnswer : WearCommand → WearAnswer → Type 0
IsWearMendedAnswer Do.On Say.Already = ⊤
IsWearMendedAnswer Do.On (Say.Opened start gap steps) = ⊤
IsWearMendedAnswer Do.On (Say.Cut steps) = ⊤
IsWearMendedAnswer Do.On answer = ⊥
IsWearMendedAnswer command answer = ⊤

-- ---- used up

-- one of the command's engine writes was answered as used up: of the line's place, or after the line's own write
-- of the gap or of the record
pub record WasWearSpent (setup : Setup) (old : WearState) (a : ℕ) (plain : Line) (done page : ℕ) : Type 0 where
  pub used_up : next_marks setup.formulas (moment_in setup old.session) (engine_writes setup old a plain) done ≡ None
  pub its_page :
      MatchOption (slice_get (engine_writes setup old a plain) done) ⊥ (λ write. page_of write.at ≡ page)

-- a held move comes only so, and a line that is spent too, by which nothing is written
abbrev pub IsWearSpentAnswer : Setup → WearState → WearCommand → WearAnswer → WearState → Type 0
IsWearSpentAnswer setup old (Do.Write a plain) (Say.Held page steps) new =
    (done : ℕ) × (0 < done) × WasWearSpent setup old a plain done page
IsWearSpentAnswer setup old (Do.Write a plain) (Say.Spent page steps) new =
    WasWearSpent setup old a plain 0 page × (new.memory ≡ old.memory) × (new.wear ≡ old.wear)
    × (new.session.ledger.marks ≡ old.session.ledger.marks)
IsWearSpentAnswer setup old command answer new = ⊤

-- so it is of each answer of a chain
abbrev pub AreWearSpentAsUsedUp : Setup → WearState → List WearReply → Type 0
AreWearSpentAsUsedUp setup first [] = ⊤
AreWearSpentAsUsedUp setup first (reply ∷ replies) =
    (next : WearState) × IsWearAnswered setup first reply.command reply.answer next
    × IsWearSpentAnswer setup first reply.command reply.answer next × AreWearSpentAsUsedUp setup next replies

-- ---- the whole

-- What the replies of a session say by themselves, from zero lines, start 0 and gap n on: reads show what was
-- written, start and gap change by moves alone, and recovery that isn't cut succeeds.
pub record AreWearReplies (n every : ℕ) (replies : List WearReply) : Type 0 where
  pub reads : AreReadAsWritten (replicate n zero_line) replies
  pub turning : Turning
  pub turned : AreTurned n every (no_turning n) replies turning
  pub mended : All (λ reply. IsWearMendedAnswer reply.command reply.answer) replies

-- each session's replies do
abbrev pub IsWearKept : Setup → Type 0
IsWearKept setup =
    (every : ℕ) (replies : List WearReply) (last : WearState)
    → IsWearSession setup every replies last
    → AreWearReplies (logical_lines setup.shape) every replies

-- and each is held or spent only if a counter is exhausted
abbrev pub IsWearSpent : Setup → Type 0
IsWearSpent setup =
    (every : ℕ) (first last : WearState) (replies : List WearReply)
    → IsNewWear setup every first → AreWearAnswered setup first replies last
    → AreWearSpentAsUsedUp setup first replies
