-- Registers by their place in the list: the one of a line's page, found, marked and removed.
use Rattle.std.proofs.Common.{rules}
use Rattle.std.proofs.Common.{ℕ, zero, suc, ◌≡◌, ◌≢◌, ◌<◌, ◌+◌, ◌-◌, inl, inr, ◌==◌, Bool, true, false, not, List, [], ◌∷◌, length, get_or, Some, None, cond, refl, sym, ap, ◌∙◌, arith, nat_lt}
use Rattle.std.specs.Prelude.{All, AllPairs, slice_get}
use Rattle.std.specs.List.{remove}
use Rattle.std.proofs.Math.ListN.{set}
use Rattle.std.proofs.lemmas.Bool.{cond-true, cond-false, cases_Bool, eqb-true, and_parts}
use Rattle.std.proofs.lemmas.Option.{none-some, same_Some, slice_get-get_or}
use Rattle.std.proofs.lemmas.Grind.{get_or_tail}
use Rattle.pmem_base.specs.declared.registers.Progress.{Progress}
use Rattle.pmem_base.specs.Layout.{page_of, index_in_page}
use Rattle.pmem_base.specs.Registers.{is_done, not_done, with_done}
use Rattle.page_reencrypt.specs.Registers.{register_of, register_held, registers_with_done, is_holding}
use Rattle.page_reencrypt.specs.Marked.{marked}
use Rattle.page_reencrypt.proofs.Holding.{registers_with_done-at, registers_with_done-free, registered-All, none_from_All, free_from_none}

-- a marked register has a line left
marked-left : (register next : Progress) (i : ℕ) → marked register i ≡ Some next
    → (nat_lt 0 (length (not_done (with_done register i))) ≡ true) × (next ≡ with_done register i)
marked-left register next i it = at (nat_lt 0 (length (not_done (with_done register i)))) refl
  where
    at : (b : Bool) → nat_lt 0 (length (not_done (with_done register i))) ≡ b
        → (nat_lt 0 (length (not_done (with_done register i))) ≡ true) × (next ≡ with_done register i)
    at true left = (
      left,
      sym (same_Some (with_done register i) next
          (sym (cond-true (nat_lt 0 (length (not_done (with_done register i)))) (Some (with_done register i)) None left) ∙ it)),
    )
    at false none =
        absurd (none-some next
        (sym (cond-false (nat_lt 0 (length (not_done (with_done register i)))) (Some (with_done register i)) None none) ∙ it))

-- a register that isn't marked has none
unmarked-left : (register : Progress) (i : ℕ) → marked register i ≡ None
    → nat_lt 0 (length (not_done (with_done register i))) ≡ false
unmarked-left register i it = at (nat_lt 0 (length (not_done (with_done register i)))) refl
  where
    at : (b : Bool) → nat_lt 0 (length (not_done (with_done register i))) ≡ b
        → nat_lt 0 (length (not_done (with_done register i))) ≡ false
    at false none = none
    at true left =
        absurd (none-some (with_done register i)
        (sym it ∙ cond-true (nat_lt 0 (length (not_done (with_done register i)))) (Some (with_done register i)) None left))

-- the register at a place that is its page's
module _ (registers : List Progress) (a n : ℕ) (d : Progress) (left : All (λ register. 0 < length (not_done register)) registers) (apart : AllPairs (λ x y. x.page ≢ y.page) registers) (inside : n < length registers) (found : slice_get registers n ≡ register_of registers (page_of a)) where
  its_page : (get_or registers n d).page ≡ page_of a
  its_page =
      (registered-All (λ register. 0 < length (not_done register)) registers (page_of a) (get_or registers n d)
      (sym found ∙ slice_get-get_or registers n d inside) left).1

  by_place : registers_with_done registers a
      ≡ cond (nat_lt 0 (length (not_done (with_done (get_or registers n d) (index_in_page a)))))
      (set registers n (with_done (get_or registers n d) (index_in_page a))) (remove registers n)
  by_place = registers_with_done-at registers a n d left apart inside its_page

  -- it is marked
  pub registers_with_done-marked : (next : Progress) → marked (get_or registers n d) (index_in_page a) ≡ Some next
      → set registers n next ≡ registers_with_done registers a
  registers_with_done-marked next it =
      let parts = marked-left (get_or registers n d) next (index_in_page a) it in
      ap (set registers n) parts.1
      ∙ sym (by_place
      ∙ cond-true (nat_lt 0 (length (not_done (with_done (get_or registers n d) (index_in_page a)))))
      (set registers n (with_done (get_or registers n d) (index_in_page a))) (remove registers n) parts.0)

  -- or removed, after its last line
  pub registers_with_done-removed : marked (get_or registers n d) (index_in_page a) ≡ None
      → remove registers n ≡ registers_with_done registers a
  registers_with_done-removed it =
      sym (by_place
      ∙ cond-false (nat_lt 0 (length (not_done (with_done (get_or registers n d) (index_in_page a)))))
      (set registers n (with_done (get_or registers n d) (index_in_page a))) (remove registers n)
      (unmarked-left (get_or registers n d) (index_in_page a) it))

-- a line whose page has no register
pub registers_with_done-closed : (registers : List Progress) (a : ℕ)
    → All (λ register. 0 < length (not_done register)) registers
    → All (λ register. register.page ≢ page_of a) registers → registers ≡ registers_with_done registers a
registers_with_done-closed registers a left closed =
    sym (registers_with_done-free registers a left
    (free_from_none registers a (none_from_All registers (page_of a) closed)))

holding-page : (register : Progress) (a : ℕ) → is_holding register a ≡ true → register.page ≡ page_of a
holding-page register a it = search rules

pairs-tail : (first : Progress) (registers : List Progress) → AllPairs (λ x y. x.page ≢ y.page) (first ∷ registers)
    → AllPairs (λ x y. x.page ≢ y.page) registers
pairs-tail first registers apart i j e before below same =
    apart (i + 1) (j + 1) e (omega (arith, before)) (omega (arith, below))
    (ap (λ r. r.page) (get_or_tail first registers (i + 1) e (omega arith) ∙ ap (λ m. get_or registers m e) (back i))
    ∙ same
    ∙ sym (ap (λ r. r.page) (get_or_tail first registers (j + 1) e (omega arith) ∙ ap (λ m. get_or registers m e) (back j))))
  where
    back : (k : ℕ) → k + 1 - 1 ≡ k
    back k = omega arith

-- the register at a place that holds a line is the one that holds it
pub register_held-at : (registers : List Progress) (a n : ℕ) (d : Progress)
    → AllPairs (λ x y. x.page ≢ y.page) registers → n < length registers
    → is_holding (get_or registers n d) a ≡ true → register_held registers a ≡ Some (get_or registers n d)
register_held-at [] a n d apart inside holds = absurd (omega (arith, inside))
register_held-at (first ∷ registers) a zero d apart inside holds =
    cond-true (is_holding first a) (Some first) (register_held registers a) holds
register_held-at (first ∷ registers) a (suc n) d apart inside holds =
    elim (cases_Bool (is_holding first a)) [
      | inl here ↦
          absurd
          (apart 0 (suc n) d (omega arith) inside
          (holding-page first a here ∙ sym (holding-page (get_or registers n d) a holds)))
      | inr other ↦
          cond-false (is_holding first a) (Some first) (register_held registers a) other
          ∙ register_held-at registers a n d (pairs-tail first registers apart) (omega (arith, inside)) holds
    ]
