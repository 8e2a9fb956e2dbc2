-- The path has a position for each level.
use Rattle.std.proofs.Common.{ℕ, ◌/◌, List, length, ap, ◌∙◌, arith}
use Rattle.asit_shadow.proofs.Common.{shape_of, length-path_of}
use Rattle.asit_shadow.proofs.writing.position_below.Goals as goal

pub bounds-as_slice-from : goal.bounds-as_slice-from
bounds-as_slice-from c =
    omega (arith, ap (λ (xs : List ℕ). length xs) (c.as_slice.ensures.value ∙ c.requires.path), length-path_of (shape_of c.args.geo.now) (c.args.at / 4), c.from.ensures)
