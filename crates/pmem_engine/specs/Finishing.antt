-- A page half finished: the first lines not done of its register were resealed.
use Rattle.std.specs.Prelude.{ℕ, ◌≡◌, ◌<◌, ◌+◌, ◌*◌, List, [], ◌∷◌, ◌++◌, length, map, None, IsTrue}
use Rattle.pmem_base.specs.declared.answers.Mark.{Mark}
use Rattle.pmem_base.specs.Layout as layout
use Rattle.pmem_base.specs.Registers.{not_done}
use Rattle.page_reencrypt.specs.Registers.{register_of}
use Rattle.suite.specs.Setup.{Setup}
use Rattle.plain_model.specs.State.{Memory}
use Rattle.plain_model.specs.Bounds.{seal_count}
use Rattle.plain_model.specs.Asked.{reseal_mark}
use Rattle.pmem_engine.specs.Parts.{Parts, regs_of, AreTrusted, HoldsSeal}
use Rattle.call_effects.specs.Outcomes.{going}
use Rattle.pmem_engine.specs.Outcomes.{is_sealed_by, OneLossEffect, TakesSteps}
use Rattle.pmem_engine.specs.CallFacts.{IsMemory, moment_in, AreUnderMinorZero, IsWork, reseal_work, KeepsMetaLines}
use Rattle.pmem_engine.specs.Resealing.{register_in}

-- the register is the page's still, with these places not done
pub record IsStillOpen (old new : Parts) (n : ℕ) (left : List ℕ) : Type 0 where
  pub same_page : (register_in new n).page ≡ (register_in old n).page
  pub places : not_done (register_in new n) ≡ left
  pub as_many : length (regs_of new).progress.items ≡ length (regs_of old).progress.items

-- the register is gone with its page's last line
pub record IsClosed (old new : Parts) (n : ℕ) : Type 0 where
  pub gone : register_of (regs_of new).progress.items (register_in old n).page ≡ None
  pub one_less : length (regs_of new).progress.items + 1 ≡ length (regs_of old).progress.items

abbrev pub HasPlacesLeft : Parts → Parts → ℕ → List ℕ → Type 0
HasPlacesLeft old new n [] = IsClosed old new n
HasPlacesLeft old new n (i ∷ left) = IsStillOpen old new n (i ∷ left)

-- the lines at the first places not done of register n's page were resealed; the others are left
pub record HasResealedFirst (setup : Setup) (n number : ℕ) (old new : Parts) : Type 0 where
  pub made : List Mark
  pub sealed : List ℕ
  pub left : List ℕ
  pub places : not_done (register_in old n) ≡ sealed ++ left
  pub count : length sealed ≡ number
  pub as_many : length made ≡ number
  pub seals : seal_count made ≡ number
  pub work : IsWork (reseal_work number) old new
  pub meta_lines : KeepsMetaLines setup.shape old.device.lines new.device.lines
  pub minors : AreUnderMinorZero made
  pub done : OneLossEffect setup going made old new
  pub marks :
      AreTrusted setup old → (memory : Memory) → IsMemory setup memory old
      → made ≡ map (reseal_mark setup.formulas (moment_in setup memory old) (register_in old n).page) sealed
  pub memory_kept : AreTrusted setup old → (memory : Memory) → IsMemory setup memory old → IsMemory setup memory new
  pub sealed_before :
      AreTrusted setup old → (a : ℕ) → a < layout.data_lines setup.shape → IsTrue (is_sealed_by made a)
      → HoldsSeal setup.shape old a
  pub registers : HasPlacesLeft old new n left
  pub others :
      (page : ℕ) → register_of (regs_of old).progress.items page ≡ None
      → register_of (regs_of new).progress.items page ≡ None
  pub steps : TakesSteps (4 * number) old.device new.device
  pub engine : new.engine ≡ old.engine
  pub truth : new.ledger.truth ≡ old.ledger.truth
  pub root : (regs_of new).root ≡ (regs_of old).root
  pub digests : new.digests ≡ old.digests
