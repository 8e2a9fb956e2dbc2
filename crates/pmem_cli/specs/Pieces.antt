-- What a reader of lines takes of the bytes that are ahead of it.
use Rattle.std.specs.Prelude.{◌≡◌, ◌+◌, ◌<◌, ◌≤◌, ℕ, List, [], ◌∷◌, ◌++◌, length, Option}
use Rattle.std.specs.Io.KnownBytes.{Consumes, IsAtEnd}
use Rattle.pmem_cli.specs.declared.lines.Piece.{Piece}
use Rattle.pmem_cli.specs.declared.lines.Piece.TheVariants.{Ended, Part, TooLong}
use Rattle.pmem_cli.specs.declared.lines.Found.{Found}
use Rattle.pmem_cli.specs.declared.lines.Found.TheVariants.{Line, Last, Long, End}
use Rattle.plain_model.specs.Lines.{IsWithin, ended}

-- how a piece of a line leaves the front of the unread bytes and joins the line
abbrev pub Takes : Piece → List ℕ → List ℕ → List ℕ → List ℕ → Type 0
Takes Ended unread rest line longer = (part : List ℕ) × (unread ≡ part ++ 10 ∷ rest) × (longer ≡ line ++ part) × IsWithin part
Takes Part unread rest line longer = (rest ≡ []) × (longer ≡ line ++ unread) × IsWithin unread × (length longer ≤ 1024)
Takes TooLong unread rest line longer = (part : List ℕ) × (unread ≡ part ++ rest) × IsWithin part × (1024 < length line + length part)

-- what was found at the beginning of the bytes that were ahead
abbrev pub Finds : Found → Option (List ℕ) → Option (List ℕ) → List ℕ → Type 0
Finds Line ahead behind line = Consumes ahead behind (ended line) × IsWithin line
Finds Last ahead behind line = Consumes ahead behind line × IsWithin line × (0 < length line) × IsAtEnd behind
Finds End ahead behind line = Consumes ahead behind [] × IsAtEnd behind
Finds Long ahead behind line = (part : List ℕ) × Consumes ahead behind part × IsWithin part × (1024 < length part)

-- What a fault leaves: the front of a line was taken, and no byte is at hand.
abbrev pub IsUnfinished : Option (List ℕ) → Option (List ℕ) → List ℕ → Type 0
IsUnfinished ahead left part = Consumes ahead left part × IsWithin part × (length part ≤ 1024)
