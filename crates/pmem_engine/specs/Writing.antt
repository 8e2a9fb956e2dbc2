-- Parts of a write: its overflow, its plain line, the page that is finished before, and its begin.
use Rattle.std.specs.Prelude.{ℕ, ◌≡◌, ◌<◌, ◌≤◌, ◌+◌, ◌∷◌, ◌-◌, ◌*◌, ◌^◌, ◌==◌, Bool, true, false, nat_lt, nat_le, List, [], ◌++◌, length, map, Option, Some, None, position, IfSome, IsOk, IsTrue, Result, Ok, Err, ⊤, if◌then◌else◌}
use Rattle.pmem_base.specs.declared.lines.Line.{Line}
use Rattle.pmem_base.specs.declared.commands.Posted.{Posted}
use Rattle.pmem_base.specs.declared.registers.Progress.{Progress}
use Rattle.pmem_base.specs.declared.answers.Mark.{Mark}
use Rattle.pmem_base.specs.Layout as layout
use Rattle.pmem_base.specs.Layout.{page_of}
use Rattle.pmem_base.specs.Registers.{not_done}
use Rattle.pmem_base.specs.WaitingWrites.{put_write}
use Rattle.split_counters.specs.declared.Block.{Block}
use Rattle.split_counters.specs.Blocks.{minor_of}
use Rattle.page_reencrypt.specs.Registers.{register_of}
use Rattle.suite.specs.Formulas.{Formulas}
use Rattle.suite.specs.Setup.{Setup}
use Rattle.meta_path.specs.Blocks.{IsPathCached}
use Rattle.plain_model.specs.State.{Memory}
use Rattle.plain_model.specs.View.{plain_line}
use Rattle.plain_model.specs.Bounds.{seal_count}
use Rattle.plain_model.specs.Asked.{Moment, reseal_mark}
use Rattle.pmem_engine.specs.declared.fault.Fault.{Fault}
use Rattle.pmem_engine.specs.declared.fault.Fault.TheVariants as Fail
use Rattle.pmem_engine.specs.declared.fault.LineFault.{LineFault}
use Rattle.pmem_engine.specs.declared.fault.LineFault.TheVariants as AtLine
use Rattle.pmem_engine.specs.Parts.{Parts, regs_of, AreTrusted, AreSound, HoldsSeal}
use Rattle.call_effects.specs.Outcomes.{shown}
use Rattle.pmem_engine.specs.Outcomes.{of_line, outcome_of, is_sealed_by, OneLossEffect, TakesSteps, TakesAtMost, TakesFewer, is_seal_of}
use Rattle.pmem_engine.specs.Faults.{IsTagRefused, IsForgedShown}
use Rattle.pmem_engine.specs.CallFacts.{IsMemory, IsUnrefused, IsLeftAlone, moment_in, AreUnderMinorZero, IsWork, unseal_work, reseal_work, unsealed_count, KeepsMetaLines}
use Rattle.pmem_engine.specs.Resealing.{register_in}
use Rattle.pmem_engine.specs.Sealing.{HasBegunPage}

-- whether the page has to be re-encrypted for line i of it; spent if its major is exhausted too
abbrev pub overflow_of : Block → ℕ → ℕ → Result Bool Fault
overflow_of block page i =
    if nat_lt (minor_of block i) 127 then Ok false
    else if block.major == 2 ^ 64 - 1 then Err (Fail.Spent page) else Ok true

-- a part that was left out: nothing was done
pub record HasLeftOut {E : Type 0} (old new : Parts) (answer : Result Unit E) : Type 0 where
  pub answered : answer ≡ Ok tt
  pub alone : IsLeftAlone old new

-- ---- the plain line

-- what the answer says, from a trusted chip with the path cached on: the line's plain line with the write's bytes in it; a refusal or an
-- exhibit only if the write is shorter than a line
abbrev pub AnswersPlain : Setup → Posted → Parts → Parts → Result Line LineFault → Type 0
AnswersPlain setup write old new (Ok plain) =
    IfSome (plain_line setup.formulas old.ledger.marks write.at) (λ line. plain ≡ put_write line write)
    × (write.len < 64 → HoldsSeal setup.shape new write.at)
AnswersPlain setup write old new (Err AtLine.Cut) = write.len < 64
AnswersPlain setup write old new (Err (AtLine.Tag b)) =
    (write.len < 64) × (b ≡ write.at) × IsTagRefused setup write.at new
AnswersPlain setup write old new (Err AtLine.Shown) = (write.len < 64) × IsForgedShown setup write.at new

-- the plain line of a write whose page's path is cached
pub record HasMadePlain (setup : Setup) (write : Posted) (old new : Parts) (answer : Result Line LineFault) :
    Type 0 where
  pub done : OneLossEffect setup (outcome_of (of_line answer)) [] old new
  pub answered :
      AreTrusted setup old → IsPathCached setup.shape old.engine.cache (page_of write.at)
      → AnswersPlain setup write old new answer
  pub unrefused :
      AreSound setup old → IsPathCached setup.shape old.engine.cache (page_of write.at)
      → IsUnrefused (of_line answer)
  pub whole : write.len ≡ 64 → (answer ≡ Ok write.line) × IsLeftAlone old new
  pub engine : new.engine ≡ old.engine
  pub lines : new.device.lines ≡ old.device.lines
  pub regs : regs_of new ≡ regs_of old
  pub digests : new.digests ≡ old.digests
  pub same_ledger : (outcome_of (of_line answer) ≡ shown → ⊥) → new.ledger ≡ old.ledger
  pub no_steps : TakesSteps 0 old.device new.device
  pub work : IsOk answer → IsWork (unseal_work (unsealed_count write)) old new
  pub cut_unpowered : answer ≡ Err AtLine.Cut → old.device.live ≡ false

-- ---- a page finished

-- the reseals of the lines not done of a register's page, upwards
abbrev pub reseals_of : Formulas → Moment → Progress → List Mark
reseals_of f now register = map (reseal_mark f now register.page) (not_done register)

-- made is a prefix of the marks asked
pub record IsFrontOf (asked made : List Mark) : Type 0 where
  pub left : List Mark
  pub front : asked ≡ made ++ left

-- the same, and the next mark asked is a seal of line b
pub record IsStoppedAt (asked made : List Mark) (b : ℕ) : Type 0 where
  pub next : Mark
  pub later : List Mark
  pub front : asked ≡ made ++ next ∷ later
  pub its_line : is_seal_of b next ≡ true

-- the marks, by the answer: all that are asked, or a prefix of them
abbrev pub HasFinishMarks : List Mark → List Mark → Result Unit LineFault → Type 0
HasFinishMarks asked made (Ok value) = made ≡ asked
HasFinishMarks asked made (Err AtLine.Cut) = IsFrontOf asked made
HasFinishMarks asked made (Err (AtLine.Tag b)) = IsStoppedAt asked made b
HasFinishMarks asked made (Err AtLine.Shown) = (b : ℕ) × IsStoppedAt asked made b

-- an exhibit is a forged seal of the line that was to be sealed next
pub record IsForgedInFinish (setup : Setup) (asked made : List Mark) (new : Parts) : Type 0 where
  pub at : ℕ
  pub stopped : IsStoppedAt asked made at
  pub forged : IsForgedShown setup at new

abbrev pub AnswersFinish : Setup → List Mark → List Mark → Parts → Result Unit LineFault → Type 0
AnswersFinish setup asked made new (Err (AtLine.Tag b)) = IsTagRefused setup b new
AnswersFinish setup asked made new (Err AtLine.Shown) = IsForgedInFinish setup asked made new
AnswersFinish setup asked made new answer = ⊤

-- four steps for each line sealed; a cut comes before the last of them
abbrev pub CountsFinish : ℕ → List Mark → Parts → Parts → Result Unit LineFault → Type 0
CountsFinish number made old new (Err AtLine.Cut) = TakesFewer (4 * number) old.device new.device
CountsFinish number made old new answer = TakesSteps (4 * length made) old.device new.device

-- every line not done of register n's page was resealed, upwards, and its register is gone; or the answer says why not
pub record HasFinishedPage (setup : Setup) (n : ℕ) (old new : Parts) (answer : Result Unit LineFault) : Type 0 where
  pub made : List Mark
  pub few : length made ≤ length (not_done (register_in old n))
  pub minors : AreUnderMinorZero made
  pub seals : IsOk answer → seal_count made ≡ length made
  pub work : IsOk answer → IsWork (reseal_work (length made)) old new
  pub meta_lines : IsOk answer → KeepsMetaLines setup.shape old.device.lines new.device.lines
  pub few_steps : TakesAtMost (4 * length (not_done (register_in old n))) old.device new.device
  pub done : OneLossEffect setup (outcome_of (of_line answer)) made old new
  pub marks :
      AreTrusted setup old → (memory : Memory) → IsMemory setup memory old
      → HasFinishMarks (reseals_of setup.formulas (moment_in setup memory old) (register_in old n)) made answer
  pub memory_kept : AreTrusted setup old → (memory : Memory) → IsMemory setup memory old → IsMemory setup memory new
  pub answered :
      AreTrusted setup old → (memory : Memory) → IsMemory setup memory old
      → AnswersFinish setup (reseals_of setup.formulas (moment_in setup memory old) (register_in old n)) made
      new answer
  pub unrefused : AreSound setup old → IsUnrefused (of_line answer)
  pub sealed_before :
      AreTrusted setup old → (a : ℕ) → a < layout.data_lines setup.shape → IsTrue (is_sealed_by made a)
      → HoldsSeal setup.shape old a
  pub closed : IsOk answer → register_of (regs_of new).progress.items (register_in old n).page ≡ None
  pub one_less : IsOk answer → length (regs_of new).progress.items + 1 ≡ length (regs_of old).progress.items
  pub others :
      IsOk answer → (page : ℕ) → register_of (regs_of old).progress.items page ≡ None
      → register_of (regs_of new).progress.items page ≡ None
  pub counts :
      AreTrusted setup old → (memory : Memory) → IsMemory setup memory old
      → CountsFinish (length (not_done (register_in old n))) made old new answer
  pub engine : new.engine ≡ old.engine
  pub truth : (outcome_of (of_line answer) ≡ shown → ⊥) → new.ledger.truth ≡ old.ledger.truth
  pub root : (regs_of new).root ≡ (regs_of old).root
  pub digests : new.digests ≡ old.digests

-- the place found, or the oldest if four registers are in use
abbrev pub register_found : Option ℕ → ℕ → Option ℕ
register_found (Some n) number = Some n
register_found None number = if nat_le 4 number then Some 0 else None

-- the register of the page that has to be finished before a page begins: its own if it is open, else the oldest if four are
abbrev pub register_to_finish : List Progress → ℕ → Option ℕ
register_to_finish registers page =
    register_found (position (λ register. register.page == page) registers) (length registers)

abbrev pub HasFinishedWhere : Setup → Option ℕ → Parts → Parts → Result Unit LineFault → Type 0
HasFinishedWhere setup None old new answer = HasLeftOut old new answer
HasFinishedWhere setup (Some n) old new answer = HasFinishedPage setup n old new answer

-- a page was finished if the write's page has to be re-encrypted
abbrev pub HasFinishedFor : Bool → Setup → ℕ → Parts → Parts → Result Unit LineFault → Type 0
HasFinishedFor true setup page old new answer =
    HasFinishedWhere setup (register_to_finish (regs_of old).progress.items page) old new answer
HasFinishedFor false setup page old new answer = HasLeftOut old new answer

-- ---- a page begun

-- a page was begun if it had to be
abbrev pub HasBegunFor : Bool → Setup → ℕ → Parts → Parts → Result Unit Fault → Type 0
HasBegunFor true setup page old new answer = HasBegunPage setup page old new answer
HasBegunFor false setup page old new answer = HasLeftOut old new answer
