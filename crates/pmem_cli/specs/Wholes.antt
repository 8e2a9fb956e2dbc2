-- What is known of the bytes of a source, and what all of them may be.
use Rattle.std.specs.Prelude.{ℕ, ◌≡◌, List, [], ◌++◌, length, take, drop, Result, Option, Some, IfSome, MatchResult, Bool, if◌then◌else◌}
use Rattle.std.specs.Io.KnownBytes.{Consumes}

-- The bytes that a source gave, those that it had given before the last pull, and those that are left, if these are known: the source exposes
-- them, or it gave its end.
pub record Known : Type 0 where
  pub given : List ℕ
  pub given_before : List ℕ
  pub left : Option (List ℕ)

-- It gave these bytes behind those that it had given. They are the first of those that were left, if these were known.
pub record Gave (before now : Known) (bytes : List ℕ) : Type 0 where
  pub given : now.given ≡ before.given ++ bytes
  pub left : Consumes before.left now.left bytes

abbrev pub HasGiven : Known → Known → Type 0
HasGiven before now = (bytes : List ℕ) × Gave before now bytes

-- a pull gave the bytes that it brought; if it failed it gave none
abbrev pub Gives : {E : Type 0} → Known → Known → Result ℕ E → List ℕ → Type 0
Gives before now r buf = MatchResult r (λ count. Gave before now (take count buf)) (λ _. Gave before now [])

-- All bytes of a source may be these: they begin with what it gave, and what follows is what is left, if that is known.
pub record MayBe (known : Known) (whole : List ℕ) : Type 0 where
  pub rest : List ℕ
  pub cut : whole ≡ known.given ++ rest
  pub left : IfSome known.left (λ bytes. rest ≡ bytes)

-- a fact of each list that may be all bytes of a source
abbrev pub ForEachWhole : Known → (List ℕ → Type 0) → Type 0
ForEachWhole known fact = (whole : List ℕ) → MayBe known whole → fact whole

-- what is left of these bytes behind those that were given
unfoldable pub left_in : {S : Type 0} → (S → Known) → List ℕ → S → Option (List ℕ)
left_in known whole source = Some (drop (length (known source).given) whole)

-- and what was left of them before the last pull
unfoldable pub left_before_in : {S : Type 0} → (S → Known) → List ℕ → S → Option (List ℕ)
left_before_in known whole source = Some (drop (length (known source).given_before) whole)

-- what is left if the end was given, or else what is exposed
abbrev pub left_or_end : Bool → Option (List ℕ) → Option (List ℕ)
left_or_end ended exposed = if ended then Some [] else exposed
