-- Texts that were printed one after the other.
use Rattle.std.proofs.Common.{arith, ◌∙◌, List, ℕ, [], ◌++◌, sym, ap, append_assoc, append-nil}
use Rattle.std.proofs.lemmas.Grind.{common_steps}
use Rattle.std.proofs.KnownBytes.{Appends-nil, Appends-trans}
use Rattle.pmem_cli.specs.Printed.{Output, Prints, PrintsFront}

-- nothing was printed
pub Prints-nil : (a : Output) → Prints a a []
Prints-nil a = record { done = []; in_order = append-nil a.waiting; appended = Appends-nil a.put }

pub Prints-trans : (a b c : Output) (s t : List ℕ) → Prints a b s → Prints b c t → Prints a c (s ++ t)
Prints-trans a b c s t first second = record {
  done = first.done ++ second.done;
  in_order =
      sym (append_assoc a.waiting s t) ∙ ap (λ l. l ++ t) first.in_order ∙ append_assoc first.done b.waiting t
      ∙ ap (λ l. first.done ++ l) second.in_order ∙ sym (append_assoc first.done second.done c.waiting);
  appended = Appends-trans a.put b.put c.put first.done second.done first.appended second.appended;
}

-- what was printed is put in part
pub Prints-front : (a b : Output) (s : List ℕ) → Prints a b s → PrintsFront a b s
Prints-front a b s printed = record { done = printed.done; rest = b.waiting; cut = printed.in_order; appended = printed.appended }

pub PrintsFront-trans : (a b c : Output) (s t : List ℕ) → Prints a b s → PrintsFront b c t → PrintsFront a c (s ++ t)
PrintsFront-trans a b c s t first second = grind (arith, common_steps)

-- more text may follow
pub PrintsFront-more : (a b : Output) (s t : List ℕ) → PrintsFront a b s → PrintsFront a b (s ++ t)
PrintsFront-more a b s t front = grind (arith, common_steps)
