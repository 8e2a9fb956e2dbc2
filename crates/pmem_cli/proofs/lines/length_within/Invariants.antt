use Rattle.std.proofs.Common.{◌≡◌, ◌≤◌, ◌<◌, ◌-◌, ℕ, false, get_or, length}
use Rattle.plain_model.specs.Lines.{is_line_end}
use Rattle.pmem_cli.proofs.lines.length_within.Given as goal

abbrev pub invariant-loop-at : goal.invariant-loop-at
invariant-loop-at l = record {
  inside : l.at ≤ length l.bytes;
  none : (k : ℕ) → k < l.at → is_line_end (get_or l.bytes k 0) ≡ false;
}

abbrev pub decreases-loop-at : goal.decreases-loop-at
decreases-loop-at l = length l.bytes - l.at

abbrev pub invariant-loop-i : goal.invariant-loop-i
invariant-loop-i l = (k : ℕ) → k < l.i → is_line_end (get_or l.bytes k 0) ≡ false
