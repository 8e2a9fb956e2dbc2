-- The bits of a block's minors in its line.
use Rattle.std.proofs.Common.{rules, ℕ, zero, suc, ◌≡◌, ◌<◌, ◌+◌, ◌-◌, ◌*◌, ◌/◌, ◌%◌, ◌^◌, get_or, refl, sym, ap, ◌∙◌, arith}
use Rattle.std.proofs.lemmas.List.{drop_at}
use Rattle.std.proofs.lemmas.Nat.{field_of, shr-shr, pow-add, mod-pow-add}
use Rattle.std.proofs.Math.Nat.{pow-suc}
use Rattle.pmem_base.specs.Lines.{big_endian}
use Rattle.pmem_base.proofs.ByteLaws.{length-big_endian}
use Rattle.pmem_base.proofs.Digits.{get_or-big_endian}
use Rattle.split_counters.specs.declared.Block.{Block}
use Rattle.split_counters.specs.Blocks.{IsBlock, packed, number_of_minors, minors_of_number}
use Rattle.split_counters.specs.Bits.{bit_of_bytes, bit_of_minor, HasMinorBits}
use Rattle.split_counters.proofs.MinorDigits.{get_or-minors_of_number, minors_of_number-number_of_minors}

-- the last bit of a number's low bits is the number's own
parity-low : (n r : ℕ) → (n % 2 ^ (r + 1)) % 2 ≡ n % 2
parity-low n r = ap (λ z. z % 2) (mod-pow-add n r 1) ∙ omega arith

-- a bit of a digit of w bits, which p digits follow, is a bit of the number
bit-digit : (w base p : ℕ) → base ≡ 2 ^ w → base ^ p ≡ 2 ^ (w * p) → (value s r : ℕ) → w ≡ r + 1 + s → (value / base ^ p % base / 2 ^ s) % 2 ≡ (value / 2 ^ (w * p + s)) % 2
bit-digit w base p one all value s r width = search (rules, field_of, parity-low, shr-shr)

bytes-power : (p : ℕ) → 256 ^ p ≡ 2 ^ (8 * p)
bytes-power zero = refl
bytes-power (suc p) =
    let longer : 8 * p + 8 ≡ 8 * suc p = omega arith in
    pow-suc 256 p ∙ (ap (λ z. z * 256) (bytes-power p) ∙ (sym (pow-add 2 (8 * p) 8) ∙ ap (λ z. 2 ^ z) longer))

minors-power : (p : ℕ) → 128 ^ p ≡ 2 ^ (7 * p)
minors-power zero = refl
minors-power (suc p) =
    let longer : 7 * p + 7 ≡ 7 * suc p = omega arith in
    pow-suc 128 p ∙ (ap (λ z. z * 128) (minors-power p) ∙ (sym (pow-add 2 (7 * p) 7) ∙ ap (λ z. 2 ^ z) longer))

bit_of_bytes-big_endian : (n value k : ℕ) → k < 8 * n → bit_of_bytes (big_endian n value) k ≡ (value / 2 ^ (8 * n - 1 - k)) % 2
bit_of_bytes-big_endian n value k inside =
    let rest = n - 1 - k / 8 in
    let place : 8 * (n - 1 - k / 8) + (7 - k % 8) ≡ 8 * n - 1 - k = omega arith in
    ap (λ z. (z / 2 ^ (7 - k % 8)) % 2) (get_or-big_endian n value (k / 8) rest (omega arith))
    ∙ (bit-digit 8 256 rest refl (bytes-power rest) value (7 - k % 8) (k % 8) (omega arith)
    ∙ ap (λ z. (value / 2 ^ z) % 2) place)

bit_of_minor-minors : (n value i j : ℕ) → i < n → j < 7 → bit_of_minor (get_or (minors_of_number n value) i 0) j ≡ (value / 2 ^ (7 * n - 1 - (7 * i + j))) % 2
bit_of_minor-minors n value i j inside seven =
    let rest = n - 1 - i in
    let place : 7 * (n - 1 - i) + (6 - j) ≡ 7 * n - 1 - (7 * i + j) = omega arith in
    ap (λ z. (z / 2 ^ (6 - j)) % 2) (get_or-minors_of_number n value i rest (omega arith))
    ∙ (bit-digit 7 128 rest refl (minors-power rest) value (6 - j) j (omega arith)
    ∙ ap (λ z. (value / 2 ^ z) % 2) place)

pub packed-HasMinorBits : (block : Block) → IsBlock block → HasMinorBits block (packed block)
unfolding packed
packed-HasMinorBits block valid i j inside seven =
    let value = number_of_minors block.minors in
    let place : 8 * 56 - 1 - (7 * i + j) ≡ 7 * 64 - 1 - (7 * i + j) = refl in
    ap (λ bytes. bit_of_bytes bytes (7 * i + j)) (drop_at (big_endian 8 block.major) (big_endian 56 value) 8 (length-big_endian 8 block.major))
    ∙ (bit_of_bytes-big_endian 56 value (7 * i + j) (omega arith)
    ∙ (sym (bit_of_minor-minors 64 value i j inside seven)
    ∙ (ap (λ n. bit_of_minor (get_or (minors_of_number n value) i 0) j) (sym valid.count)
    ∙ ap (λ minors. bit_of_minor (get_or minors i 0) j) (minors_of_number-number_of_minors block.minors valid.minors))))
