-- The marks of writes of which the last isn't done: those of the drained ones, and a part of its own.
use Rattle.std.proofs.Common.{ℕ, ◌≡◌, ◌++◌, List, [], length, drop, Option, Some, IsTrue, refl, sym, ap, ap₂, subst, ◌∙◌}
use Rattle.std.specs.Prelude.{IsSome, is_none, unwrap_or, slice_get, nat_lt, ◌||◌}
use Rattle.std.proofs.lemmas.Option.{slice_get_within}
use Rattle.std.proofs.lemmas.List.{drop_at}
use Rattle.pmem_base.specs.declared.commands.Posted.{Posted}
use Rattle.pmem_base.specs.declared.answers.Mark.{Mark}
use Rattle.suite.specs.Formulas.{Formulas}
use Rattle.plain_model.specs.Asked.{Moment}
use Rattle.plain_model.specs.Fits.{drained_marks, next_marks, marks_in_flight, marks_still_asked, IsStopped}
use Rattle.pmem_engine.specs.CallFacts.{IsPartOf}

module _ (f : Formulas) (now : Moment) (queue : List Posted) (n : ℕ) (made more : List Mark) (asked : Option (List Mark)) (write : Posted)
    (place : slice_get queue n ≡ Some write) (drained : drained_marks f now queue n ≡ Some made) (next : next_marks f now queue n ≡ asked) where
  pub in_flight : marks_in_flight f now queue n (made ++ more) ≡ more
  in_flight =
      ap (λ o. drop (length (unwrap_or o [])) (made ++ more)) drained ∙ drop_at made more (length made) refl

  pub still : (part : IsPartOf asked more) → marks_still_asked f now queue n (made ++ more) ≡ part.left
  still part =
      ap₂ (λ (m : List Mark) (o : Option (List Mark)). drop (length m) (unwrap_or o [])) in_flight next
      ∙ ap (drop (length more)) part.front
      ∙ drop_at more part.left (length more) refl

  -- the marks are those of the drained writes and a part of the next one's
  pub stopped : IsPartOf asked more → IsStopped f now queue n (made ++ more)
  stopped part =
      record {
        one_waits = slice_get_within queue n write place;
        none_spent = subst (λ o. IsSome o) (sym drained) refl;
        all_drained =
            ap₂ (λ (a b : List Mark). a ++ b) (sym (ap (λ o. unwrap_or o []) drained)) (sym in_flight);
        begun =
            ap (λ o. unwrap_or o []) next ∙ part.front
            ∙ ap₂ (λ (a b : List Mark). a ++ b) (sym in_flight) (sym (still part));
        not_done =
            subst (λ o. IsTrue (is_none o || nat_lt 0 (length (marks_still_asked f now queue n (made ++ more))))) (sym next)
            (subst (λ left. IsTrue (is_none asked || nat_lt 0 (length left))) (sym (still part)) part.not_all);
      }
