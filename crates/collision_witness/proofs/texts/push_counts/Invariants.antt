use Rattle.std.proofs.Common.{◌≡◌, ◌≤◌, ◌+◌, ◌*◌, ◌++◌, ◌∷◌, length, take}
use Rattle.std.specs.Prelude.{decimal, map}
use Rattle.collision_witness.specs.Texts.{sentence}
use Rattle.collision_witness.proofs.texts.push_counts.Given as goal

abbrev pub invariant-loop-number : goal.invariant-loop-number
invariant-loop-number l =
    (l.text.items ≡ l.fn.text.items ++ sentence (l.words ∷ map decimal (take l.number-index l.numbers)))
    × (length l.text.items ≤ length l.fn.text.items + length l.words + 21 * l.number-index)
