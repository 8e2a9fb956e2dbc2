-- The registers beside the root and the group, and the group emptied.
use Rattle.std.proofs.Common.{◌≡◌, refl, sym, ap, subst, ◌∙◌, rules}
use Rattle.asit_shadow.proofs.Common.{Regs, without_group, KeepsOtherRegisters, IsTreeEmptied}

pub others-same : (old new : Regs) → new ≡ old → KeepsOtherRegisters old new
others-same old new is = subst (KeepsOtherRegisters old) (sym is) refl

pub others-then : (old mid new : Regs) → KeepsOtherRegisters old mid → KeepsOtherRegisters mid new → KeepsOtherRegisters old new
others-then old mid new first second = second ∙ ap (λ (r : Regs). record r { root = new.root; group = new.group }) first

pub others-emptied : (old new : Regs) → new ≡ without_group old → KeepsOtherRegisters old new
others-emptied old new is = subst (KeepsOtherRegisters old) (sym is) refl

pub finished-emptied : (old new : Regs) → new ≡ without_group old → IsTreeEmptied old new
finished-emptied old new is = search (rules, others-emptied)
