-- What holds of an answer that is an error, or none, and of what isn't there.
use Rattle.std.proofs.Common.{rules, ◌≡◌, Err, Bool, false, Option, Some, None, refl, sym, ◌∙◌}
use Rattle.std.specs.Prelude.{Result, IsErrAnd, Ok, IsErr, OnOk, is_some, IsNone}
use Rattle.std.proofs.lemmas.Bool.{true≢false}

-- an error of this value
pub is_err_of : {T E : Type 0} (r : Result T E) (e : E) → IsErrAnd r (λ (x : E). x ≡ e) → r ≡ Err e
is_err_of v0 e it = search rules

pub from_no_error : {T E P : Type 0} (answer : Result T E) → (IsErr answer → ⊥) → OnOk answer P → P
from_no_error (Ok value) fine holds = holds
from_no_error (Err error) fine holds = absurd (fine refl)

-- nothing is there
pub none_is : {X : Type 0} (found : Option X) → IsNone found → found ≡ None
none_is None none = refl
none_is (Some x) none = absurd (true≢false none)

-- the same, by a test of it
pub none_of : {X : Type 0} (found : Option X) (some : Bool) → some ≡ is_some found → some ≡ false → found ≡ None
none_of found some is none = none_is found (sym is ∙ none)
