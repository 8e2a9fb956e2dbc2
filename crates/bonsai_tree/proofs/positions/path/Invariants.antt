use Rattle.std.proofs.Common.{◌≡◌, ◌+◌, ◌-◌, ◌^◌, length}
use Rattle.pmem_base.specs.Geo.{shape_of}
use Rattle.bonsai_tree.specs.Positions.{path_down_to}
use Rattle.bonsai_tree.proofs.PathPositions.{path_position}
use Rattle.bonsai_tree.proofs.positions.path.Given as goal

abbrev pub invariant-loop-level : goal.invariant-loop-level
invariant-loop-level l = record {
  path : l.path.items ≡ path_down_to l._level (path_position (shape_of l.geo) l.page l._level);
  long : length l.path.items ≡ l._level + 1;
  last : l.x ≡ path_position (shape_of l.geo) l.page l._level;
  below : l.pages_below ≡ 4 ^ (l.geo.levels - l._level);
}
