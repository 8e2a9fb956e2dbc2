-- The writes of an engine that a command makes, in order: their steps, and how far the command has come.
use Rattle.std.specs.Prelude.{ℕ, ◌≡◌, ◌≤◌, ◌+◌, ◌*◌, ◌==◌, ◌&&◌, ◌⊎◌, nat_lt, Bool, false, List, length, Some}
use Rattle.pmem_base.specs.declared.commands.Posted.{Posted}
use Rattle.pmem_base.specs.declared.answers.Mark.{Mark}
use Rattle.pmem_base.specs.declared.answers.Mark.TheVariants.{Begin, Seal}
use Rattle.pmem_base.specs.Shape.{Shape}
use Rattle.suite.specs.Formulas.{Formulas}
use Rattle.plain_model.specs.Bounds.{path_length, begun_lines}
use Rattle.plain_model.specs.Asked.{Moment}
use Rattle.plain_model.specs.Fits.{drained_marks, IsStopped}

-- the most steps of an engine's write, which are those of 65 seals, a begin and its path, and of its read
abbrev pub write_steps : Shape → ℕ
write_steps g = 2 * path_length g + 262 + 2 * begun_lines g

abbrev pub read_steps : Shape → ℕ
read_steps g = path_length g

-- how many of a command's engine writes are done, and the marks that were made
pub record Writing : Type 0 where
  pub done : ℕ
  pub made : List Mark

-- whether a mark is a write's own seal of line a: a line that is only resealed gets the minor 0
abbrev pub is_own_seal : ℕ → Mark → Bool
is_own_seal a (Begin page) = false
is_own_seal a (Seal b ctr cipher tag) = b == a && nat_lt 0 ctr.minor

-- the marks are all those of the writes that are done
abbrev pub AreAllWritesMade : Formulas → Moment → List Posted → Writing → Type 0
AreAllWritesMade f now writes writing =
    (writing.done ≤ length writes) × (drained_marks f now writes writing.done ≡ Some writing.made)

-- power was cut as one of them ended, or in the next one
abbrev pub IsCutAmong : Formulas → Moment → List Posted → Writing → Type 0
IsCutAmong f now writes writing =
    AreAllWritesMade f now writes writing ⊎ IsStopped f now writes writing.done writing.made
