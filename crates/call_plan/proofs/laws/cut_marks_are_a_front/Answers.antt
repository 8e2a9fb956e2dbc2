use Rattle.call_plan.specs.Bounds.{IsFront}
use Rattle.call_plan.proofs.Ascents.{ends_above, cut_is_below, fronts}
use Rattle.call_plan.proofs.laws.cut_marks_are_a_front.Goals as goal

pub returns-clause-kept : goal.returns-clause-kept
returns-clause-kept g c = λ marks_of plan start old new end up it.
    ends_above (λ s t. IsFront (marks_of s) (marks_of t)) (λ left. left.0) (λ t. t.0) start (fronts marks_of) up it

pub returns-clause-front : goal.returns-clause-front
returns-clause-front g c = λ marks_of plan start lines old a b first second up told live off on it other.
    cut_is_below (λ s t. IsFront (marks_of s) (marks_of t)) (λ left. left.0) (λ t. t.0) start lines (fronts marks_of) up told live off on it other
