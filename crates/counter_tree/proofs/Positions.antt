-- More on positions, and nodes over whole lines.
use Rattle.std.proofs.Common.{ℕ, ◌≡◌, ◌<◌, ◌≤◌, [], ◌++◌, length, refl, arith, length-append}
use Rattle.counter_tree.proofs.Common.{All-append, All-nil, Line, IsLine, IsTag, Formulas, AreInRange, parent, child_slot, child_position, node_over, child_digest_over}
pub use Rattle.pmem_base.proofs.LayoutLemmas.{meta_lines-most}

pub child_slot-child : (x i : ℕ) → i < 4 → child_slot (child_position x i) ≡ i
child_slot-child x i small = omega (arith, small)

pub parent-lt : (x : ℕ) → 1 ≤ x → parent x < x
parent-lt x below = omega (arith, below)

-- over whole lines a node is a whole line
pub node_over-IsLine : (f : Formulas) (x : ℕ) (line : ℕ → Line) → AreInRange f → ((i : ℕ) → i < 4 → IsLine (line (child_position x i))) → IsLine (node_over f x line)
node_over-IsLine f x line in_range whole =
    let D = child_digest_over f x line in
    let good0 : IsTag (D 0) = in_range.digests (child_position x 0) (line (child_position x 0)) (whole 0 (omega arith)) in
    let good1 : IsTag (D 1) = in_range.digests (child_position x 1) (line (child_position x 1)) (whole 1 (omega arith)) in
    let good2 : IsTag (D 2) = in_range.digests (child_position x 2) (line (child_position x 2)) (whole 2 (omega arith)) in
    let good3 : IsTag (D 3) = in_range.digests (child_position x 3) (line (child_position x 3)) (whole 3 (omega arith)) in
    let none : length {A = ℕ} [] ≡ 0 = refl in
    record {
      long =
          omega (
            arith,
            length-append (D 0) (D 1 ++ (D 2 ++ (D 3 ++ []))),
            length-append (D 1) (D 2 ++ (D 3 ++ [])),
            length-append (D 2) (D 3 ++ []),
            length-append (D 3) [],
            good0.long,
            good1.long,
            good2.long,
            good3.long,
            none,
          );
      bytes = search (All-append, All-nil);
    }
