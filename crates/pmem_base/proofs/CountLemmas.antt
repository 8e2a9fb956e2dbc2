-- Counts of 64 bits over one call after another.
use Rattle.std.proofs.Common.{ℕ, zero, suc, ◌≡◌, ◌+◌, ap, ◌∙◌, arith}
use Rattle.pmem_base.specs.Counts.{risen, risen_times}

pub risen_times-add : (m n count : ℕ) → risen_times (m + n) count ≡ risen_times n (risen_times m count)
risen_times-add m zero count = let none : m + 0 ≡ m = omega arith in ap (λ k. risen_times k count) none
risen_times-add m (suc n) count =
    let more : m + suc n ≡ suc (m + n) = omega arith in
    ap (λ k. risen_times k count) more ∙ ap risen (risen_times-add m n count)
