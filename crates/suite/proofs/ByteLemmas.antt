-- Lists of bytes, and numbers as bytes.
use Rattle.std.proofs.Common.{ℕ, zero, suc, ◌<◌, List, [], ◌∷◌, get_or, arith}
use Rattle.std.proofs.lemmas.List.Elements.{All-head, All-tail}
use Rattle.pmem_base.specs.Lines.{AreBytes}

-- an element of a list of bytes, and 0 past its end
pub get_or-below : (bytes : List ℕ) (k : ℕ) → AreBytes bytes → get_or bytes k 0 < 256
get_or-below [] k small = omega arith
get_or-below (b ∷ bytes) zero small = All-head (λ x. x < 256) b bytes small
get_or-below (b ∷ bytes) (suc k) small = get_or-below bytes k (All-tail (λ x. x < 256) b bytes small)
