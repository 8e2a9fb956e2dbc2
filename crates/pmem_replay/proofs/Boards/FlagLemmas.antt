-- The numbers of flags, and the marks of a list one by one.
use Rattle.std.proofs.Common.{ℕ, suc, ◌≡◌, ◌<◌, ◌+◌, List, ◌∷◌, length, sym, ap, subst, ◌∙◌, drop, get_or, arith}
use Rattle.std.proofs.Math.Seq.{drop-cons}
use Rattle.std.proofs.lemmas.List.{length-set, length-replicate}
use Rattle.pmem_base.specs.Shape.{Shape}
use Rattle.pmem_base.specs.declared.answers.Mark.{Mark}
use Rattle.plain_model.specs.State.{PlainState, no_flags, with_flag}
use Rattle.plain_model.specs.After.{after_mark, after_marks}
use Rattle.pmem_replay.specs.Flagged.{Dirtying, HasDirtyingOf}

pub length-no_flags : (n : ℕ) → length (no_flags n) ≡ n
unfolding no_flags
length-no_flags n = length-replicate n _

-- a page touched leaves as many flags
pub touched-counts : (g : Shape) (old new : Dirtying) (page : ℕ) → HasDirtyingOf g old
    → new ≡ record { touched = with_flag old.touched page; flushed = no_flags (length old.flushed) } → HasDirtyingOf g new
touched-counts g old new page counts is =
    subst (HasDirtyingOf g) (sym is)
    (record {
      touched = length-set old.touched page _ ∙ counts.touched;
      flushed = length-no_flags (length old.flushed) ∙ counts.flushed;
    })

-- one mark more of a list is done
pub marks_step : (g : Shape) (s t end : PlainState) (marks : List Mark) (i : ℕ) (d : Mark) → i < length marks
    → t ≡ after_mark g s (get_or marks i d) → after_marks g s (drop i marks) ≡ end → after_marks g t (drop (i + 1) marks) ≡ end
marks_step g s t end marks i d within is so_far =
    let next : drop i marks ≡ get_or marks i d ∷ drop (i + 1) marks =
    drop-cons marks i d within ∙ ap (λ k. get_or marks i d ∷ drop k marks) {x = suc i} {y = i + 1} (omega arith) in
    ap (λ u. after_marks g u (drop (i + 1) marks)) is ∙ sym (ap (after_marks g s) next) ∙ so_far
