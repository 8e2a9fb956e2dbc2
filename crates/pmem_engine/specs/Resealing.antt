-- What sealing a held line again makes of its parts.
use Rattle.std.specs.Prelude.{ℕ, ◌≡◌, ◌<◌, ◌≤◌, ◌+◌, ◌*◌, ◌⊎◌, List, [], ◌∷◌, length, slice_get, slice_index_or, Some, IfOk, IsOk, IsTrue, Result, Ok, Err, ⊤}
use Rattle.pmem_base.specs.declared.faults.Cut.{Cut}
use Rattle.pmem_base.specs.declared.registers.Progress.{Progress}
use Rattle.pmem_base.specs.declared.answers.Mark.{Mark}
use Rattle.pmem_base.specs.declared.answers.Mark.TheVariants.{Seal}
use Rattle.pmem_base.specs.Shape.{Shape}
use Rattle.pmem_base.specs.Layout as layout
use Rattle.pmem_base.specs.Counts.{risen}
use Rattle.pmem_base.specs.Registers.{IsGroup, not_done, old_major, empty_progress}
use Rattle.split_counters.specs.Blocks.{unpacked, block_counter}
use Rattle.board.specs.Counts.{RisesBy}
use Rattle.board.specs.Device.{Device}
use Rattle.seal_ledger.specs.Ledger.{LedgerState, IsSealValue}
use Rattle.seal_ledger.specs.Notes.{HasMark}
use Rattle.suite.specs.Formulas.{Formulas}
use Rattle.suite.specs.Setup.{Setup}
use Rattle.plain_model.specs.State.{Memory}
use Rattle.plain_model.specs.Bounds.{seal_count}
use Rattle.plain_model.specs.Asked.{Moment, reseal_mark}
use Rattle.pmem_engine.specs.declared.fault.LineFault.{LineFault}
use Rattle.pmem_engine.specs.declared.fault.LineFault.TheVariants as AtLine
use Rattle.pmem_engine.specs.declared.resealing.HeldLine.{HeldLine}
use Rattle.pmem_engine.specs.declared.resealing.NextSeal.{NextSeal}
use Rattle.pmem_engine.specs.Parts.{Parts, regs_of, AreTrusted, AreSound, HoldsSeal}
use Rattle.call_effects.specs.Outcomes.{shown}
use Rattle.pmem_engine.specs.Outcomes.{of_line, outcome_of, is_sealed_by, OneLossEffect, TakesSteps, TakesFewer}
use Rattle.pmem_engine.specs.Faults.{IsTagRefused, IsForgedShown}
use Rattle.pmem_engine.specs.CallFacts.{IsMemory, IsUnrefused, IsTurnWork, AreUnderMinorZero, KeepsMetaLines, moment_in}
use Rattle.pmem_engine.specs.Committing.{entries_of, HasLineDone, HasGroupEnded}

-- ---- a held line

-- register n
abbrev pub register_in : Parts → ℕ → Progress
register_in parts n = slice_index_or (regs_of parts).progress.items n empty_progress

-- the line at place i of the register's page
abbrev pub line_of_page : Progress → ℕ → ℕ
line_of_page register i = 64 * register.page + i

-- the lowest line not done of the register's page: its last counter, and the one that it gets
pub record IsNextHeld (register : Progress) (held : HeldLine) : Type 0 where
  pub place : ℕ
  pub lowest : slice_get (not_done register) 0 ≡ Some place
  pub inside : place < 64
  pub its_line : held.at ≡ line_of_page register place
  pub now : held.now ≡ block_counter (unpacked register.old) place
  pub next : held.next ≡ record { major = old_major register + 1; minor = 0 }

-- ---- the commit

-- the seal is in the ledger, and its line done; what its group writes are lines in places of their own
pub record HasLineSealed (g : Shape) (next : NextSeal) (old new : Device) (before after : LedgerState) :
    Type 0 where
  pub is_group : IsGroup (layout.device_lines g) (entries_of g next)
  pub line_done : HasLineDone next.at old.regs new.regs
  pub mark : HasMark before after (Seal next.at next.ctr next.cipher next.tag)
  pub fits : IsSealValue next.ctr next.cipher next.tag

-- how its group ended
abbrev pub HasResealEnded :
    Shape → NextSeal → Device → Device → LedgerState → LedgerState → Result (Unit {0}) Cut → Type 0
HasResealEnded g next old new before after =
    HasGroupEnded (entries_of g next) (after ≡ before) (HasLineSealed g next old new before after) old new

-- ---- the whole

-- the marks, if the line at place i of the page was to be sealed
abbrev pub HasResealMarks : Formulas → Moment → ℕ → ℕ → List Mark → Result (ℕ × ℕ) LineFault → Type 0
HasResealMarks f now page i made (Ok sealed) = made ≡ reseal_mark f now page i ∷ []
HasResealMarks f now page i made (Err AtLine.Cut) = (made ≡ []) ⊎ (made ≡ reseal_mark f now page i ∷ [])
HasResealMarks f now page i made (Err (AtLine.Tag b)) = made ≡ []
HasResealMarks f now page i made (Err AtLine.Shown) = made ≡ []

-- a line was sealed: which one, how many are left, and the registers with it done
pub record HasSealedHeld (a number : ℕ) (old new : Parts) (sealed : ℕ × ℕ) : Type 0 where
  pub at : sealed.0 ≡ a
  pub left : sealed.1 + 1 ≡ number
  pub line_done : HasLineDone a (regs_of old) (regs_of new)

-- what a refusal and an exhibit say, from a trusted chip on
abbrev pub AnswersReseal : Setup → ℕ → Parts → Parts → Result (ℕ × ℕ) LineFault → Type 0
AnswersReseal setup a old new (Err (AtLine.Tag b)) = (b ≡ a) × IsTagRefused setup b new
AnswersReseal setup a old new (Err AtLine.Shown) = IsForgedShown setup a new
AnswersReseal setup a old new answer = ⊤

-- steps, reads and tags
abbrev pub CountsReseal : Parts → Parts → Result (ℕ × ℕ) LineFault → Type 0
CountsReseal old new (Ok sealed) =
    TakesSteps 4 old.device new.device × RisesBy 2 old.device.reads new.device.reads
    × (new.tags ≡ risen (risen old.tags))
CountsReseal old new (Err AtLine.Cut) = TakesFewer 4 old.device new.device
CountsReseal old new (Err fault) = TakesSteps 0 old.device new.device

-- the lowest line not done of register n's page was resealed, under the page's new major and 0, or the answer says why not
pub record HasResealed (setup : Setup) (n : ℕ) (old new : Parts) (answer : Result (ℕ × ℕ) LineFault) : Type 0 where
  pub place : ℕ
  pub lowest : slice_get (not_done (register_in old n)) 0 ≡ Some place
  pub made : List Mark
  pub few : length made ≤ 1
  pub done : OneLossEffect setup (outcome_of (of_line answer)) made old new
  pub marks :
      AreTrusted setup old → (memory : Memory) → IsMemory setup memory old
      → HasResealMarks setup.formulas (moment_in setup memory old) (register_in old n).page place made answer
  pub memory_kept : AreTrusted setup old → (memory : Memory) → IsMemory setup memory old → IsMemory setup memory new
  pub line_sealed :
      IfOk answer
      (HasSealedHeld (line_of_page (register_in old n) place) (length (not_done (register_in old n))) old new)
  pub answered : AreTrusted setup old → AnswersReseal setup (line_of_page (register_in old n) place) old new answer
  pub unrefused : AreSound setup old → IsUnrefused (of_line answer)
  pub sealed_before :
      AreTrusted setup old → (a : ℕ) → a < layout.data_lines setup.shape → IsTrue (is_sealed_by made a)
      → HoldsSeal setup.shape old a
  pub counts : CountsReseal old new answer
  pub one_seal : IsOk answer → (length made ≡ 1) × (seal_count made ≡ 1)
  pub work : IsOk answer → IsTurnWork old new
  pub meta_lines : IsOk answer → KeepsMetaLines setup.shape old.device.lines new.device.lines
  pub minors : AreUnderMinorZero made
  pub engine : new.engine ≡ old.engine
  pub truth : (outcome_of (of_line answer) ≡ shown → ⊥) → new.ledger.truth ≡ old.ledger.truth
  pub root : (regs_of new).root ≡ (regs_of old).root
  pub digests : new.digests ≡ old.digests
