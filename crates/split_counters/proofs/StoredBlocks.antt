-- What a stored counter block keeps of the true one, also when a minor rises.
use Rattle.std.proofs.Common.{rules, ◌≡◌, ◌≢◌, ℕ, ◌+◌, ◌*◌, ◌/◌, ◌%◌, ◌≤◌, ◌<◌, length, mul-le-mul_right, refl, sym, ap, ◌∙◌, ◌⊎◌, inl, inr, arith}
use Rattle.std.proofs.lemmas.List.{get_or-set_same, get_or-set_other}
use Rattle.std.proofs.Math.Nat.{div-div-eq-div-mul}
use Rattle.std.proofs.lemmas.Bool.{cases_eq, cases_order}
use Rattle.split_counters.specs.declared.Block.{Block}
use Rattle.split_counters.specs.Blocks.{IsStoredBlock, IsBumpedBlock, minor_of, with_minor, bumped}

-- a block is stored as it is
pub IsStoredBlock-same : (loss : ℕ) (block : Block) → IsStoredBlock loss block block
IsStoredBlock-same loss block = record { same_major = refl; close_minors = λ i h. (omega arith, refl) }

-- a number and the one before it have one quotient, but where the divisor divides the number
pub div_before : (m n : ℕ) → 0 < n → (m + 1) % n ≢ 0 → m / n ≡ (m + 1) / n
div_before m n pos rest = search (rules, cases_order, mul-le-mul_right)

-- what was stored of the old block is stored of the bumped one, while the minor doesn't reach a
-- multiple of the stop-loss number
pub IsStoredBlock-bumped : (loss : ℕ) (stored old new : Block) (i : ℕ) → 0 < loss
    → IsStoredBlock loss stored old → IsBumpedBlock old new i → minor_of new i % loss ≢ 0
    → IsStoredBlock loss stored new
IsStoredBlock-bumped loss stored old new i pos kept bumped rest =
    record {
      same_major = kept.same_major ∙ sym bumped.major;
      close_minors = λ j h. at j h (cases_eq j i);
    }
  where
    at : (j : ℕ) → j < 64 → (j ≡ i) ⊎ (j ≡ i → ⊥)
        → (minor_of stored j ≤ minor_of new j) × (minor_of stored j / loss ≡ minor_of new j / loss)
    at j h (inl same) =
        let now : minor_of new j ≡ minor_of old j + 1 = search rules in
        let rest' : (minor_of old j + 1) % loss ≢ 0 =
        λ e. rest (ap (λ k. minor_of new k % loss) (sym same) ∙ ap (λ m. m % loss) now ∙ e) in (
          omega (arith, (kept.close_minors j h).0),
          (kept.close_minors j h).1 ∙ div_before (minor_of old j) loss pos rest' ∙ ap (λ m. m / loss) (sym now),
        )
    at j h (inr other) =
        let now : minor_of new j ≡ minor_of old j = bumped.others j h other in
        (omega (arith, (kept.close_minors j h).0), (kept.close_minors j h).1 ∙ ap (λ m. m / loss) (sym now))

-- what is stored by a window is stored by one that is some times as long
pub IsStoredBlock-coarser : (loss times : ℕ) (stored block : Block) → IsStoredBlock loss stored block
    → IsStoredBlock (loss * times) stored block
IsStoredBlock-coarser loss times stored block kept =
    record {
      same_major = kept.same_major;
      close_minors =
          λ i h. (
            (kept.close_minors i h).0,
            sym (div-div-eq-div-mul (minor_of stored i) loss times)
                ∙ ap (λ q. q / times) (kept.close_minors i h).1
                ∙ div-div-eq-div-mul (minor_of block i) loss times,
          );
    }

-- another minor for line i, one greater
pub IsBumpedBlock-with_minor : (block : Block) (i minor : ℕ) → i < length block.minors → minor ≡ minor_of block i + 1
    → IsBumpedBlock block (with_minor block i minor) i
IsBumpedBlock-with_minor block i minor h raised =
    record {
      major = refl;
      one_more = get_or-set_same block.minors i minor 0 h ∙ raised;
      others = λ j hj other. get_or-set_other block.minors i j minor 0 other;
    }
