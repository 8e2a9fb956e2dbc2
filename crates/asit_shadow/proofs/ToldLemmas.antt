-- A device's lines where they are told.
use Rattle.std.proofs.Common.{List, Some, None}
use Rattle.asit_shadow.proofs.Common.{Option, MatchOption, ⊤, Line}

-- lines of a device before and after: told of both or of none, and where told as said
abbrev pub AreToldWith : (List Line → List Line → Type 0) → Option (List Line) → Option (List Line) → Type 0
AreToldWith R None None = ⊤
AreToldWith R None (Some new) = ⊥
AreToldWith R (Some old) None = ⊥
AreToldWith R (Some old) (Some new) = R old new

-- another relation
pub told-as : (R S : List Line → List Line → Type 0) (old new : Option (List Line)) → ((a b : List Line) → R a b → S a b) → AreToldWith R old new → AreToldWith S old new
told-as R S None None each told = tt
told-as R S None (Some b) each told = absurd told
told-as R S (Some a) None each told = absurd told
told-as R S (Some a) (Some b) each told = each a b told

-- what holds of lines that are told
pub told-match : (P Q : List Line → Type 0) (old new : Option (List Line)) → AreToldWith (λ a b. P a → Q b) old new → MatchOption old ⊥ P → MatchOption new ⊥ Q
told-match P Q None None told was = was
told-match P Q None (Some b) told was = absurd told
told-match P Q (Some a) None told was = absurd told
told-match P Q (Some a) (Some b) told was = told was
