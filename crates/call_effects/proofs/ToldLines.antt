-- Lines that a board may not tell: what holds of them where they are told.
use Rattle.std.proofs.Common.{rules, ℕ, ◌≡◌, List, Option, Some, None}
use Rattle.std.specs.Prelude.{MatchOption, IfSome, option_map, is_some}
use Rattle.pmem_base.specs.declared.lines.Line.{Line}
use Rattle.board.specs.Device.{AreLinesOf, AreToldLines}

-- where both are told or neither is, what holds of the ones gives what holds of the others
pub told_cases : (P Q : List Line → Type 0) (old new : Option (List Line)) → is_some new ≡ is_some old
    → ((lines lines_now : List Line) → old ≡ Some lines → new ≡ Some lines_now → P lines → Q lines_now)
    → IfSome old P → IfSome new Q
told_cases v0 v1 v2 v3 same give it = search rules

-- the same where they have to be told
pub told_surely : (P Q : List Line → Type 0) (old new : Option (List Line)) → is_some new ≡ is_some old
    → ((lines lines_now : List Line) → old ≡ Some lines → new ≡ Some lines_now → P lines → Q lines_now)
    → MatchOption old ⊥ P → MatchOption new ⊥ Q
told_surely v0 v1 v2 new same give it = search rules

-- nothing is said of them
pub any_told : (told : Option (List Line)) → IfSome told (λ lines. Unit {0})
any_told None = tt
any_told (Some lines) = tt

-- where they are told, something follows
pub told_gives : (P : List Line → Type 0) (Q : Type 0) (told : Option (List Line))
    → ((lines : List Line) → told ≡ Some lines → P lines → Q) → MatchOption told ⊥ P → Q
told_gives v0 v1 v2 give it = search rules

-- what is seen of each is the same
pub told_same : {A : Type 0} (f : List Line → A) (old new : Option (List Line)) → is_some new ≡ is_some old
    → ((lines lines_now : List Line) → old ≡ Some lines → new ≡ Some lines_now → f lines_now ≡ f lines)
    → option_map f new ≡ option_map f old
told_same f v1 v2 same give = search rules

-- the lines that a board tells are as many as its size
pub whole_lines : (size : ℕ) (told : Option (List Line)) (lines : List Line) → AreToldLines size told → told ≡ Some lines
    → AreLinesOf size lines
whole_lines size v1 lines whole it = search rules
