-- Marks, printed one after the other.
use Rattle.std.proofs.Common.{◌≡◌, ◌∙◌, ◌+◌, ◌<◌, ◌≤◌, ℕ, List, [], ◌++◌, length, drop, get_or, sym, ap, subst, append_assoc, append-nil}
use Rattle.std.proofs.lemmas.List.{at_drop_more, drop_all}
use Rattle.pmem_base.specs.declared.answers.Mark.{Mark}
use Rattle.plain_model.specs.Texts.{as_line, mark_text, marks_text}
use Rattle.pmem_cli.specs.Printed.{Output, Prints, PrintsFront}
use Rattle.pmem_cli.proofs.PrintLemmas.{PrintsFront-trans, PrintsFront-more}

-- one more mark was printed
pub marks-step : (so_far : List ℕ) (marks : List Mark) (i : ℕ) (blank : Mark) → i < length marks → so_far ++ marks_text (drop i marks) ≡ marks_text marks
    → (so_far ++ as_line (mark_text (get_or marks i blank))) ++ marks_text (drop (i + 1) marks) ≡ marks_text marks
marks-step so_far marks i blank inside same =
    append_assoc so_far (as_line (mark_text (get_or marks i blank))) (marks_text (drop (i + 1) marks))
    ∙ ap (λ l. so_far ++ l) (sym (at_drop_more marks_text marks i blank inside))
    ∙ same

-- the sink failed at a mark
pub marks-front : (a b c : Output) (so_far : List ℕ) (marks : List Mark) (i : ℕ) (blank : Mark) → i < length marks → so_far ++ marks_text (drop i marks) ≡ marks_text marks
    → Prints a b so_far → PrintsFront b c (as_line (mark_text (get_or marks i blank))) → PrintsFront a c (marks_text marks)
marks-front a b c so_far marks i blank inside same first second =
    let line = as_line (mark_text (get_or marks i blank)) in
    subst (PrintsFront a c) (marks-step so_far marks i blank inside same)
    (PrintsFront-more a c (so_far ++ line) (marks_text (drop (i + 1) marks)) (PrintsFront-trans a b c so_far line first second))

-- all were printed
pub marks-whole : (a b : Output) (so_far : List ℕ) (marks : List Mark) (i : ℕ) → length marks ≤ i → so_far ++ marks_text (drop i marks) ≡ marks_text marks
    → Prints a b so_far → Prints a b (marks_text marks)
marks-whole a b so_far marks i out same printed =
    let none : marks_text (drop i marks) ≡ [] = ap marks_text (drop_all i marks out) in
    subst (Prints a b) (sym (append-nil so_far) ∙ ap (λ l. so_far ++ l) (sym none) ∙ same) printed
