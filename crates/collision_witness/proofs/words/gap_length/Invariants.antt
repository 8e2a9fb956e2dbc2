use Rattle.std.proofs.Common.{◌≡◌, ℕ, ◌<◌, get_or, true}
use Rattle.collision_witness.specs.Words.{is_gap}
use Rattle.collision_witness.proofs.words.gap_length.Given as goal

abbrev pub invariant-loop-i : goal.invariant-loop-i
invariant-loop-i l = (k : ℕ) → k < l.i → is_gap (get_or l.text k 0) ≡ true
