-- The page that was finished before another one begins: that one has no register, and four aren't in use.
use Rattle.std.proofs.Common.{rules, ℕ, ◌≡◌, ◌<◌, length, Option, Some, None, Result, refl, sym, ap, ◌∙◌}
use Rattle.std.specs.Prelude.{◌==◌, position, slice_get, IsOk, OnOk}
use Rattle.std.specs.Option.{option_and_then}
use Rattle.std.proofs.lemmas.Option.{slice_get-get_or}
use Rattle.pmem_base.specs.Registers.{empty_progress}
use Rattle.page_reencrypt.specs.Registers.{register_of}
use Rattle.page_reencrypt.proofs.Holding.{registered-All}
use Rattle.page_reencrypt.proofs.Places.{register_at}
use Rattle.suite.specs.Setup.{Setup}
use Rattle.pmem_engine.specs.declared.fault.LineFault.{LineFault}
use Rattle.pmem_engine.specs.Parts.{Parts, regs_of}
use Rattle.pmem_engine.specs.Resealing.{register_in}
use Rattle.pmem_engine.specs.Writing.{register_found, register_to_finish, HasFinishedPage}

-- what holds of an answer that is Ok
pub on_ok : {P : Type 0} (answer : Result Unit LineFault) → (IsOk answer → P) → OnOk answer P
on_ok v0 it = search rules

module _ (setup : Setup) (n page : ℕ) (old new : Parts) (answer : Result Unit LineFault)
    (inside : n < length (regs_of old).progress.items)
    (found : register_to_finish (regs_of old).progress.items page ≡ Some n)
    (it : HasFinishedPage setup n old new answer) where
  -- the page's own register, or that of another page
  closed_at : (place : Option ℕ) → position (λ register. register.page == page) (regs_of old).progress.items ≡ place
      → register_found place (length (regs_of old).progress.items) ≡ Some n → IsOk answer
      → register_of (regs_of new).progress.items page ≡ None
  closed_at (Some m) place its ok =
      ap (register_of (regs_of new).progress.items) (sym own) ∙ it.closed ok
    where
      here : register_of (regs_of old).progress.items page ≡ Some (register_in old n)
      here =
          sym (register_at (regs_of old).progress.items page)
          ∙ ap (option_and_then (λ k. slice_get (regs_of old).progress.items k)) (place ∙ its)
          ∙ slice_get-get_or (regs_of old).progress.items n empty_progress inside

      own : (register_in old n).page ≡ page
      own =
          (registered-All (λ register. Unit) (regs_of old).progress.items page (register_in old n) here (λ k d below. tt)).1
  closed_at None place its ok =
      it.others ok page
      (sym (register_at (regs_of old).progress.items page)
      ∙ ap (option_and_then (λ k. slice_get (regs_of old).progress.items k)) place)

  pub closed_for : IsOk answer → register_of (regs_of new).progress.items page ≡ None
  closed_for = closed_at (position (λ register. register.page == page) (regs_of old).progress.items) refl found
