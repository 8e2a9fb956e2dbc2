use Rattle.std.proofs.Common.{◌≡◌, ℕ, ◌<◌, get_or, false}
use Rattle.pmem_cli.specs.Words.{is_equals}
use Rattle.pmem_cli.proofs.options.equals_index.Given as goal

abbrev pub invariant-loop-i : goal.invariant-loop-i
invariant-loop-i l = (k : ℕ) → k < l.i → is_equals (get_or l.text k 0) ≡ false
