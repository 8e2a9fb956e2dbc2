-- Writes one after the other: their marks, the view after them, and the bounds of their work.
use Rattle.std.proofs.Common.{ℕ, ◌≡◌, ◌+◌, ◌-◌, ◌*◌, ◌++◌, cond, List, [], ◌∷◌, length, Option, Some, None, refl, sym, ap, ◌∙◌, mul-add, arith}
use Rattle.std.specs.Prelude.{unwrap_or, option_map, option_and_then}
use Rattle.std.proofs.lemmas.Option.{same_Some, none-some}
use Rattle.std.proofs.lemmas.List.{append-nil, append_assoc, length-append}
use Rattle.std.proofs.lemmas.List.Sums.{sum_by-append, count_by-le-length}
use Rattle.pmem_base.specs.declared.commands.Posted.{Posted}
use Rattle.pmem_base.specs.declared.answers.Mark.{Mark}
use Rattle.pmem_base.specs.Shape.{Shape}
use Rattle.suite.specs.Formulas.{Formulas}
use Rattle.plain_model.specs.View.{view_after_marks}
use Rattle.plain_model.proofs.Views.{view_after_marks-append}
use Rattle.plain_model.specs.Asked.{Moment, marks_of_write, marks_of_writes, moment_after, moment_after_writes}
use Rattle.plain_model.specs.Bounds.{is_seal, is_path_mark, seal_count, path_mark_count, begun_lines, writing_bound}

-- ---- marks of writes

one_more : (made : List Mark) (asked : Option (List Mark))
    → option_and_then (λ here. option_map (λ later. here ++ later) (Some [])) asked ≡ option_map (λ here. [] ++ here) asked
one_more made None = refl
one_more made (Some marks) = ap (λ (m : List Mark). Some m) (append-nil marks)

with_front : (here later : List Mark) (asked : Option (List Mark))
    → option_map (λ later. here ++ later) (option_map (λ h. later ++ h) asked) ≡ option_map (λ h. (here ++ later) ++ h) asked
with_front here later None = refl
with_front here later (Some marks) = ap (λ (m : List Mark). Some m) (sym (append_assoc here later marks))

-- the marks of writes and of one more
pub marks_of_writes-more : (f : Formulas) (now : Moment) (writes : List Posted) (write : Posted) (made : List Mark)
    → marks_of_writes f now writes ≡ Some made
    → marks_of_writes f now (writes ++ write ∷ []) ≡ option_map (λ here. made ++ here) (marks_of_write f (moment_after_writes f now writes) write)
marks_of_writes-more f now [] write made it =
    one_more made (marks_of_write f now write)
    ∙ ap (λ (m : List Mark). option_map (λ here. m ++ here) (marks_of_write f now write)) (same_Some [] made it)
marks_of_writes-more f now (first ∷ writes) write made it =
    by_first (marks_of_writes-more f (moment_after f now first) writes write) (marks_of_write f now first) refl it
  where
    next : Moment
    next = moment_after f now first

    asked : Option (List Mark)
    asked = marks_of_write f (moment_after_writes f next writes) write

    by_rest : ((later : List Mark) → marks_of_writes f next writes ≡ Some later
        → marks_of_writes f next (writes ++ write ∷ []) ≡ option_map (λ h. later ++ h) asked)
        → (here : List Mark) (rest : Option (List Mark)) → marks_of_writes f next writes ≡ rest
        → option_map (λ later. here ++ later) rest ≡ Some made
        → option_map (λ later. here ++ later) (marks_of_writes f next (writes ++ write ∷ [])) ≡ option_map (λ h. made ++ h) asked
    by_rest again here None none same = absurd (none-some made same)
    by_rest again here (Some later) there same =
        ap (option_map (λ later. here ++ later)) (again later there)
        ∙ with_front here later asked
        ∙ ap (λ (m : List Mark). option_map (λ h. m ++ h) asked) (same_Some (here ++ later) made same)

    by_first : ((later : List Mark) → marks_of_writes f next writes ≡ Some later
        → marks_of_writes f next (writes ++ write ∷ []) ≡ option_map (λ h. later ++ h) asked)
        → (one : Option (List Mark)) → marks_of_write f now first ≡ one
        → option_and_then (λ here. option_map (λ later. here ++ later) (marks_of_writes f next writes)) one ≡ Some made
        → option_and_then (λ here. option_map (λ later. here ++ later) (marks_of_writes f next (writes ++ write ∷ []))) (marks_of_write f now first)
        ≡ option_map (λ h. made ++ h) asked
    by_first again None none same = absurd (none-some made same)
    by_first again (Some here) there same =
        ap (option_and_then (λ here. option_map (λ later. here ++ later) (marks_of_writes f next (writes ++ write ∷ [])))) there
        ∙ by_rest again here (marks_of_writes f next writes) refl same

-- the view after writes is what their marks say
pub moment_view : (f : Formulas) (now : Moment) (writes : List Posted) (made : List Mark)
    → marks_of_writes f now writes ≡ Some made → (moment_after_writes f now writes).view ≡ view_after_marks now.view made
moment_view f now [] made it = ap (view_after_marks now.view) (same_Some [] made it)
moment_view f now (first ∷ writes) made it =
    by_first (moment_view f (moment_after f now first) writes) (marks_of_write f now first) refl it
  where
    next : Moment
    next = moment_after f now first

    by_rest : ((later : List Mark) → marks_of_writes f next writes ≡ Some later
        → (moment_after_writes f next writes).view ≡ view_after_marks next.view later)
        → (here : List Mark) (rest : Option (List Mark)) → next.view ≡ view_after_marks now.view here
        → marks_of_writes f next writes ≡ rest → option_map (λ later. here ++ later) rest ≡ Some made
        → (moment_after_writes f next writes).view ≡ view_after_marks now.view made
    by_rest again here None its none same = absurd (none-some made same)
    by_rest again here (Some later) its there same =
        again later there
        ∙ ap (λ view. view_after_marks view later) its
        ∙ sym (view_after_marks-append now.view here later)
        ∙ ap (view_after_marks now.view) (same_Some (here ++ later) made same)

    by_first : ((later : List Mark) → marks_of_writes f next writes ≡ Some later
        → (moment_after_writes f next writes).view ≡ view_after_marks next.view later)
        → (one : Option (List Mark)) → marks_of_write f now first ≡ one
        → option_and_then (λ here. option_map (λ later. here ++ later) (marks_of_writes f next writes)) one ≡ Some made
        → (moment_after_writes f next writes).view ≡ view_after_marks now.view made
    by_first again None none same = absurd (none-some made same)
    by_first again (Some here) there same =
        by_rest again here (marks_of_writes f next writes) (ap (λ o. view_after_marks now.view (unwrap_or o [])) there) refl same

-- ---- bounds

count-append : (a b : List Mark) → seal_count (a ++ b) ≡ seal_count a + seal_count b
count-append a b = sum_by-append (λ mark. cond (is_seal mark) 1 0) a b

-- the bounds of writes add up
pub writing_bound-append : (g : Shape) (n m : ℕ) (a b : List Mark) → writing_bound g (n + m) (a ++ b) ≡ writing_bound g n a + writing_bound g m b
writing_bound-append g n m a b =
    let lines : (begun_lines g - 1) * path_mark_count (a ++ b) ≡ (begun_lines g - 1) * path_mark_count a + (begun_lines g - 1) * path_mark_count b =
    ap (λ count. (begun_lines g - 1) * count) (sum_by-append (λ mark. cond (is_path_mark mark) 1 0) a b)
    ∙ mul-add (begun_lines g - 1) (path_mark_count a) (path_mark_count b) in
    omega (arith, count-append a b, lines, length-append a b, count_by-le-length is_seal a, count_by-le-length is_seal b)
