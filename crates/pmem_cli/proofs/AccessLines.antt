-- Accesses, printed one after the other.
use Rattle.std.proofs.Common.{◌≡◌, ◌∙◌, ◌+◌, ◌<◌, ◌≤◌, ℕ, List, [], ◌++◌, length, drop, get_or, sym, ap, subst, append_assoc, append-nil}
use Rattle.std.proofs.lemmas.List.{at_drop_more, drop_all}
use Rattle.board.specs.declared.access.Access.{Access}
use Rattle.plain_model.specs.Texts.{as_line}
use Rattle.pmem_cli.specs.Logged.{access_text, accesses_text}
use Rattle.pmem_cli.specs.Printed.{Output, Prints, PrintsFront}
use Rattle.pmem_cli.proofs.PrintLemmas.{PrintsFront-trans, PrintsFront-more}

-- one more access was printed
pub accesses-step : (so_far : List ℕ) (accesses : List Access) (i : ℕ) (blank : Access) → i < length accesses → so_far ++ accesses_text (drop i accesses) ≡ accesses_text accesses
    → (so_far ++ as_line (access_text (get_or accesses i blank))) ++ accesses_text (drop (i + 1) accesses) ≡ accesses_text accesses
accesses-step so_far accesses i blank inside same =
    append_assoc so_far (as_line (access_text (get_or accesses i blank))) (accesses_text (drop (i + 1) accesses))
    ∙ ap (λ l. so_far ++ l) (sym (at_drop_more accesses_text accesses i blank inside))
    ∙ same

-- the sink failed at an access
pub accesses-front : (a b c : Output) (so_far : List ℕ) (accesses : List Access) (i : ℕ) (blank : Access) → i < length accesses → so_far ++ accesses_text (drop i accesses) ≡ accesses_text accesses
    → Prints a b so_far → PrintsFront b c (as_line (access_text (get_or accesses i blank))) → PrintsFront a c (accesses_text accesses)
accesses-front a b c so_far accesses i blank inside same first second =
    let line = as_line (access_text (get_or accesses i blank)) in
    subst (PrintsFront a c) (accesses-step so_far accesses i blank inside same)
    (PrintsFront-more a c (so_far ++ line) (accesses_text (drop (i + 1) accesses)) (PrintsFront-trans a b c so_far line first second))

-- all were printed
pub accesses-whole : (a b : Output) (so_far : List ℕ) (accesses : List Access) (i : ℕ) → length accesses ≤ i → so_far ++ accesses_text (drop i accesses) ≡ accesses_text accesses
    → Prints a b so_far → Prints a b (accesses_text accesses)
accesses-whole a b so_far accesses i out same printed =
    let none : accesses_text (drop i accesses) ≡ [] = ap accesses_text (drop_all i accesses out) in
    subst (Prints a b) (sym (append-nil so_far) ∙ ap (λ l. so_far ++ l) (sym none) ∙ same) printed
