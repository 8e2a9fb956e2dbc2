use Rattle.std.proofs.Common.{◌≡◌, ℕ, ◌<◌, get_or, false}
use Rattle.collision_witness.specs.Reading.{is_dot}
use Rattle.collision_witness.proofs.reading.dot_index.Given as goal

abbrev pub invariant-loop-i : goal.invariant-loop-i
invariant-loop-i l = (k : ℕ) → k < l.i → is_dot (get_or l.word k 0) ≡ false
