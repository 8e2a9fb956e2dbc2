-- A line combined with a pad; a cipher gives its plain line back.
use Rattle.std.proofs.Common.{ℕ, zero, suc, ◌≡◌, ◌<◌, List, [], ◌∷◌, length, get_or, refl, sym, ap, ◌∙◌, arith}
use Rattle.std.specs.Prelude.{bit_xor}
use Rattle.std.proofs.lemmas.Nat.{xor_of_8}
use Rattle.std.proofs.lemmas.Nat.Bits.{bit_at_xor, bit_at-lt, same_from_bits}
use Rattle.std.proofs.lemmas.List.{ext_get_or}
use Rattle.std.proofs.lemmas.List.Elements.{All-nil, All-cons, All-head, All-tail}
use Rattle.pmem_base.specs.declared.lines.Line.{Line}
use Rattle.pmem_base.specs.declared.lines.Ctr.{Ctr}
use Rattle.pmem_base.specs.Lines.{IsLine, IsCtr, AreBytes, line_of, xor_bytes, xor_lines}
use Rattle.suite.specs.Formulas.{Formulas, AreInRange, cipher_of}

xor_twice : (x k : ℕ) → bit_xor (bit_xor x k) k ≡ x
xor_twice x k =
    same_from_bits (bit_xor (bit_xor x k) k) x
    (λ i. omega (arith, bit_at_xor (bit_xor x k) k i, bit_at_xor x k i, bit_at-lt x i, bit_at-lt k i))

xor_bytes-twice : (xs ks : List ℕ) → length xs ≡ length ks → xor_bytes (xor_bytes xs ks) ks ≡ xs
xor_bytes-twice [] ks same = refl
xor_bytes-twice (x ∷ xs) [] same = absurd (omega (arith, same))
xor_bytes-twice (x ∷ xs) (k ∷ ks) same =
    ap (λ y. y ∷ xor_bytes (xor_bytes xs ks) ks) (xor_twice x k)
    ∙ ap (λ ys. x ∷ ys) (xor_bytes-twice xs ks (omega (arith, same)))

length-xor_bytes : (xs ks : List ℕ) → length xs ≡ length ks → length (xor_bytes xs ks) ≡ length xs
length-xor_bytes [] ks same = refl
length-xor_bytes (x ∷ xs) [] same = absurd (omega (arith, same))
length-xor_bytes (x ∷ xs) (k ∷ ks) same = ap suc (length-xor_bytes xs ks (omega (arith, same)))

xor_bytes-AreBytes : (xs ks : List ℕ) → AreBytes xs → AreBytes ks → AreBytes (xor_bytes xs ks)
xor_bytes-AreBytes [] ks one two = All-nil (λ b. b < 256)
xor_bytes-AreBytes (x ∷ xs) [] one two = All-nil (λ b. b < 256)
xor_bytes-AreBytes (x ∷ xs) (k ∷ ks) one two =
    All-cons (λ b. b < 256) (bit_xor x k) (xor_bytes xs ks)
    (xor_of_8 x k (All-head (λ b. b < 256) x xs one) (All-head (λ b. b < 256) k ks two))
    (xor_bytes-AreBytes xs ks (All-tail (λ b. b < 256) x xs one) (All-tail (λ b. b < 256) k ks two))

pub xor_lines-IsLine : (a b : Line) → IsLine a → IsLine b → IsLine (xor_lines a b)
xor_lines-IsLine a b one two =
    record {
      long = length-xor_bytes a.0 b.0 (one.long ∙ sym two.long) ∙ one.long;
      bytes = xor_bytes-AreBytes a.0 b.0 one.bytes two.bytes;
    }

-- combined twice with one line, a line is itself
pub xor_lines-twice : (a b : Line) → IsLine a → IsLine b → xor_lines (xor_lines a b) b ≡ a
xor_lines-twice a b one two = ap line_of (xor_bytes-twice a.0 b.0 (one.long ∙ sym two.long))

get_or-xor_bytes : (xs ks : List ℕ) (k : ℕ) → length xs ≡ length ks → k < length xs →
    get_or (xor_bytes xs ks) k 0 ≡ bit_xor (get_or xs k 0) (get_or ks k 0)
get_or-xor_bytes [] ks k same inside = absurd (omega (arith, inside))
get_or-xor_bytes (x ∷ xs) [] k same inside = absurd (omega (arith, same))
get_or-xor_bytes (x ∷ xs) (y ∷ ks) zero same inside = refl
get_or-xor_bytes (x ∷ xs) (y ∷ ks) (suc k) same inside =
    get_or-xor_bytes xs ks k (omega (arith, same)) (omega (arith, inside))

-- combined byte by byte, two lines are combined
pub xor_lines-is : (line pad out : Line) → length line.0 ≡ 64 → length pad.0 ≡ 64 → length out.0 ≡ 64 →
    ((k : ℕ) → k < 64 → get_or out.0 k 0 ≡ bit_xor (get_or line.0 k 0) (get_or pad.0 k 0)) →
    out ≡ xor_lines line pad
xor_lines-is line pad out line-long pad-long out-long each =
    let same : length line.0 ≡ length pad.0 = line-long ∙ sym pad-long in
    let combined-long : length (xor_bytes line.0 pad.0) ≡ 64 = length-xor_bytes line.0 pad.0 same ∙ line-long in
    ap line_of
    (ext_get_or 0 out.0 (xor_bytes line.0 pad.0) (out-long ∙ sym combined-long)
    (λ k inside.
    each k (omega (arith, inside, out-long))
    ∙ sym (get_or-xor_bytes line.0 pad.0 k same (omega (arith, inside, out-long, line-long)))))

pub cipher_of-IsLine : (f : Formulas) (at : ℕ) (ctr : Ctr) (plain : Line) → AreInRange f → IsCtr ctr → IsLine plain → IsLine (cipher_of f at ctr plain)
cipher_of-IsLine f at ctr plain in_range is_ctr is_line = xor_lines-IsLine plain (f.pad_of at ctr) is_line (in_range.pads at ctr is_ctr)

-- a cipher gives its plain line back
pub cipher_of-back : (f : Formulas) (at : ℕ) (ctr : Ctr) (plain : Line) → AreInRange f → IsCtr ctr → IsLine plain → xor_lines (cipher_of f at ctr plain) (f.pad_of at ctr) ≡ plain
cipher_of-back f at ctr plain in_range is_ctr is_line = xor_lines-twice plain (f.pad_of at ctr) is_line (in_range.pads at ctr is_ctr)
