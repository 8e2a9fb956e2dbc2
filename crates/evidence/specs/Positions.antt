-- Where a position stands in its level, for the law of the positions on a page's path.
use Rattle.std.specs.Prelude.{ℕ, ◌+◌, ◌-◌, ◌/◌, ◌^◌}
use Rattle.pmem_base.specs.Shape.{Shape}
use Rattle.pmem_base.specs.Layout.{level_start}

-- the position of a level as far into it as there are whole subtrees of that level before the page
abbrev pub position_over : Shape → ℕ → ℕ → ℕ
position_over shape page level = level_start level + page / 4 ^ (shape.levels - level)
