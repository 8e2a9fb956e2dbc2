-- Steps of a write's parts together, and its bound.
use Rattle.std.proofs.Common.{rules, ℕ, ◌≡◌, ◌≤◌, ◌+◌, ◌-◌, ◌*◌, ◌++◌, Bool, true, false, cond, List, [], ◌∷◌, length, mul-le-mul_left, ap, arith}
use Rattle.std.proofs.lemmas.List.{length-append}
use Rattle.std.proofs.lemmas.List.Sums.{sum_by-append}
use Rattle.pmem_base.specs.declared.answers.Mark.{Mark}
use Rattle.pmem_base.specs.declared.answers.Mark.TheVariants.{Begin}
use Rattle.pmem_base.specs.Shape.{Shape}
use Rattle.board.specs.Device.{Device}
use Rattle.plain_model.specs.Bounds.{path_length, begun_lines, is_seal, seal_count, is_path_mark, path_mark_count}
use Rattle.pmem_engine.specs.Outcomes.{TakesSteps, TakesAtMost, TakesFewer}
use Rattle.pmem_engine.specs.CallFacts.{write_bound}
use Rattle.pmem_engine.proofs.Laws.PolicyBounds.{begun_some}

pub most_then : (n m : ℕ) (old mid new : Device) → TakesAtMost n old mid → TakesAtMost m mid new → TakesAtMost (n + m) old new
most_then n m old mid new first second = search rules

pub fewer_then : (n m : ℕ) (old mid new : Device) → TakesAtMost n old mid → TakesFewer m mid new → TakesFewer (n + m) old new
fewer_then n m old mid new first second = search rules

pub steps_most : (n : ℕ) (old new : Device) → TakesSteps n old new → TakesAtMost n old new
steps_most n old new it = search rules

pub fewer_most : (n : ℕ) (old new : Device) → TakesFewer n old new → TakesAtMost n old new
fewer_most n old new it =
    record {
      writes = it.writes;
      latches = it.latches;
      sum = λ one two. let less = it.sum one two in omega (arith, less);
    }

pub more_most : (n m : ℕ) (old new : Device) → n ≤ m → TakesAtMost n old new → TakesAtMost m old new
more_most n m old new le it = search rules

pub more_fewer : (n m : ℕ) (old new : Device) → n ≤ m → TakesFewer n old new → TakesFewer m old new
more_fewer n m old new le it = search rules

-- ---- the bound

-- all marks of a write: seals, then a begin or none, then its own seal
abbrev pub begin_asked : Bool → ℕ → List Mark
begin_asked true page = Begin page ∷ []
begin_asked false page = []

-- the steps of a begin, or none
abbrev pub begin_steps : Shape → List Mark → ℕ
begin_steps g [] = 0
begin_steps g (mark ∷ marks) = 2 + begun_lines g

pub bound_whole : (g : Shape) (front : List Mark) (overflows : Bool) (page : ℕ) (own : Mark) → seal_count front ≡ length front
    → is_seal own ≡ true → is_path_mark own ≡ true
    → 2 * path_length g + 4 * length front + begin_steps g (begin_asked overflows page) + (4 + begun_lines g)
    ≤ write_bound g (front ++ (begin_asked overflows page ++ own ∷ []))
bound_whole g front overflows page own all its on_path = by overflows
  where
    some : 1 ≤ begun_lines g
    some = begun_some g

    by : (b : Bool)
        → 2 * path_length g + 4 * length front + begin_steps g (begin_asked b page) + (4 + begun_lines g)
        ≤ write_bound g (front ++ (begin_asked b page ++ own ∷ []))
    by true =
        let marks = Begin page ∷ own ∷ [] in
        let seals = sum_by-append (λ m. cond (is_seal m) 1 0) front marks in
        let one = ap {B = ℕ} (λ b. cond b 1 0) its in
        let paths = sum_by-append (λ m. cond (is_path_mark m) 1 0) front marks in
        let here = ap {B = ℕ} (λ b. cond b 1 0) on_path in
        let long = length-append front marks in
        let times : (begun_lines g - 1) * 2 ≤ (begun_lines g - 1) * path_mark_count (front ++ marks) =
        mul-le-mul_left (begun_lines g - 1) (omega (arith, paths, here)) in
        omega (arith, some, all, seals, one, long, times)
    by false =
        let marks = own ∷ [] in
        let seals = sum_by-append (λ m. cond (is_seal m) 1 0) front marks in
        let one = ap {B = ℕ} (λ b. cond b 1 0) its in
        let paths = sum_by-append (λ m. cond (is_path_mark m) 1 0) front marks in
        let here = ap {B = ℕ} (λ b. cond b 1 0) on_path in
        let long = length-append front marks in
        let times : (begun_lines g - 1) * 1 ≤ (begun_lines g - 1) * path_mark_count (front ++ marks) =
        mul-le-mul_left (begun_lines g - 1) (omega (arith, paths, here)) in
        omega (arith, some, all, seals, one, long, times)
