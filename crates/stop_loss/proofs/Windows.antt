-- The windows of the stop-loss numbers.
use Rattle.std.proofs.Common.{rules, ℕ, ◌≡◌, ◌<◌, ◌≤◌, ◌+◌, ◌*◌, ◌/◌, ◌⊎◌, IsTrue, arith}
use Rattle.std.proofs.lemmas.Bool.Decides.{nat_tests}
use Rattle.pmem_base.specs.Shape.{is_loss}

-- the stop-loss numbers
pub is_loss_cases : (n : ℕ) → IsTrue (is_loss n) → (n ≡ 1) ⊎ ((n ≡ 2) ⊎ ((n ≡ 4) ⊎ ((n ≡ 8) ⊎ (n ≡ 16))))
is_loss_cases n loss = grind (arith, nat_tests)

pub is_loss_pos : (n : ℕ) → IsTrue (is_loss n) → 0 < n
is_loss_pos n loss = let cases = is_loss_cases n loss in omega arith

-- a window ends with a minor of 7 bits
pub window_in_range : (n m : ℕ) → IsTrue (is_loss n) → m ≤ 127 → (m / n) * n + n ≤ 128
window_in_range n m loss small = search (rules, is_loss_cases)
