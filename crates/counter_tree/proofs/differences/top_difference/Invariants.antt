-- The highest difference so far.
use Rattle.std.proofs.Common.{◌≡◌, ◌+◌}
use Rattle.counter_tree.proofs.Common.{level_start, up, IsTopDifference}
use Rattle.counter_tree.proofs.differences.top_difference.Given as goal

abbrev pub invariant-levels : goal.invariant-levels
invariant-levels l =
    record {
      place : l.x ≡ up l.level (level_start l.seen.height + l.i);
      highest : IsTopDifference l.level l.seen.lines l.kept.lines (level_start l.seen.height + l.i) l.found;
    }
