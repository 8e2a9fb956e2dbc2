-- The lines that `check` reads: one is an exhibit, the others are skipped.
use Rattle.std.specs.Prelude.{ℕ, ◌≡◌, ◌≢◌, ◌≤◌, ◌<◌, ◌+◌, ◌⊎◌, nat_le, Bool, true, ◌&&◌, List, [], ◌∷◌, ◌++◌, length, All, IfSome, Option, Some, None, Result, Ok, Err, if◌then◌else◌}
use Rattle.std.specs.List.{flat_map}
use Rattle.std.specs.Io.KnownBytes.{Consumes}
use Rattle.pmem_base.specs.declared.commands.Kind.{Kind}
use Rattle.pmem_base.specs.declared.answers.Exhibit.{Exhibit}
use Rattle.suite.specs.Formulas.{Formulas}
use Rattle.collision_witness.specs.Words.{Word, words_of, without_return}
use Rattle.collision_witness.specs.Reading.{exhibit_of_line}
use Rattle.collision_witness.specs.Exhibits.{IsExhibit}
use Rattle.plain_model.specs.declared.Stop.{Stop}
use Rattle.plain_model.specs.declared.Stop.TheVariants.{Finished, Memory, Words, ReadFault, WriteFault, Refused, Shown, TooManyLines}
use Rattle.plain_model.specs.Lines.{lines_of, ended, IsWithin}
use Rattle.plain_model.specs.Grammar.{is_comment}
use Rattle.plain_model.specs.Run.{line_limit}
use Rattle.pmem_cli.specs.declared.ending.Ending.{Ending}
use Rattle.pmem_cli.specs.declared.ending.Ending.TheVariants.{Stopped, Holds, Fails}
use Rattle.pmem_cli.specs.Pulling.{IsUndecided}

-- ---- lines

-- a blank line and a comment ask for nothing
abbrev pub are_no_exhibit : List Word → Bool
are_no_exhibit [] = true
are_no_exhibit (name ∷ words) = is_comment name

-- they are skipped if they have at most 1,024 bytes
unfoldable pub is_skipped : List ℕ → Bool
is_skipped line = nat_le (length line) 1024 && are_no_exhibit (words_of (without_return line))

-- one exhibit is found, and a second one is one word too many
abbrev pub add_found : Option Exhibit → Result Exhibit Kind → Result (Option Exhibit) Kind
add_found found (Err kind) = Err kind
add_found None (Ok shown) = Ok (Some shown)
add_found (Some other) (Ok shown) = Err Kind.Count

-- what is found after a line, by what was found before
unfoldable pub found_with : Option Exhibit → List ℕ → Result (Option Exhibit) Kind
found_with found line = if is_skipped line then Ok found else add_found found (exhibit_of_line line)

-- and after several lines
abbrev pub found_on : Result (Option Exhibit) Kind → List (List ℕ) → Result (Option Exhibit) Kind
found_on (Err kind) lines = Err kind
found_on (Ok found) [] = Ok found
found_on (Ok found) (line ∷ lines) = found_on (found_with found line) lines

abbrev pub found_in_lines : Option Exhibit → List (List ℕ) → Result (Option Exhibit) Kind
found_in_lines found lines = found_on (Ok found) lines

-- ---- stops, from what was found before and after that many lines

-- all lines were read, and there are no more than a trace may have
pub record IsFoundIn (found : Option Exhibit) (served : ℕ) (lines : List (List ℕ)) (after : Option Exhibit) : Type 0 where
  pub read : found_in_lines found lines ≡ Ok after
  pub counted : served + length lines ≤ line_limit

-- the first line that is refused has this number and this kind
pub record IsRefusedIn (found : Option Exhibit) (served : ℕ) (lines : List (List ℕ)) (number : ℕ) (kind : Kind) : Type 0 where
  pub before : List (List ℕ)
  pub line : List ℕ
  pub behind : List (List ℕ)
  pub cut : lines ≡ before ++ line ∷ behind
  pub between : Option Exhibit
  pub read : found_in_lines found before ≡ Ok between
  pub refused : found_with between line ≡ Err kind
  pub numbered : number ≡ served + length before + 1
  pub counted : number ≤ line_limit

-- the lines up to the limit were read, and more lines follow
pub record IsPastLimit (found : Option Exhibit) (served : ℕ) (lines : List (List ℕ)) (after : Option Exhibit) : Type 0 where
  pub before : List (List ℕ)
  pub behind : List (List ℕ)
  pub cut : lines ≡ before ++ behind
  pub read : found_in_lines found before ≡ Ok after
  pub counted : served + length before ≡ line_limit
  pub more : 0 < length behind

-- the whole lines that the source gave were read, and what it gave of the next one decides no stop
pub record IsBrokenOff (found : Option Exhibit) (served : ℕ) (bytes : List ℕ) (left : Option (List ℕ)) (after : Option Exhibit) : Type 0 where
  pub before : List (List ℕ)
  pub part : List ℕ
  pub taken : Consumes (Some bytes) left (flat_map ended before ++ part)
  pub whole : All IsWithin before
  pub unfinished : IsWithin part
  pub short : length part ≤ 1024
  pub read : found_in_lines found before ≡ Ok after
  pub counted : served + length before ≤ line_limit
  pub at_limit : served + length before ≡ line_limit → part ≡ []

-- what a stop says of the bytes that were ahead, of those that are left, and of what was found
abbrev pub LooksTo : Option Exhibit → ℕ → Stop → List ℕ → Option (List ℕ) → Option Exhibit → Type 0
LooksTo found served Finished bytes left after = IsFoundIn found served (lines_of bytes) after
LooksTo found served Memory bytes left after = ⊥
LooksTo found served Words bytes left after = ⊥
LooksTo found served ReadFault bytes left after = IsBrokenOff found served bytes left after
LooksTo found served WriteFault bytes left after = ⊥
LooksTo found served (Refused number kind) bytes left after = IsRefusedIn found served (lines_of bytes) number kind
LooksTo found served Shown bytes left after = ⊥
LooksTo found served TooManyLines bytes left after = IsPastLimit found served (lines_of bytes) after

-- the same if the source may tell no bytes
abbrev pub HasCheckedLines : Stop → Option (List ℕ) → Option (List ℕ) → Option Exhibit → Option Exhibit → ℕ → Type 0
HasCheckedLines stop ahead left before after served = (stop ≢ Words) × (stop ≢ WriteFault) × IfSome ahead (λ bytes. LooksTo before served stop bytes left after)

-- one line was looked at, or it is refused
abbrev pub ChecksLine : Option Stop → List ℕ → ℕ → Option Exhibit → Option Exhibit → Type 0
ChecksLine None line number before after = found_with before line ≡ Ok after
ChecksLine (Some (Refused n kind)) line number before after = (n ≡ number) × (found_with before line ≡ Err kind)
ChecksLine (Some stop) line number before after = ⊥

-- the next line was looked at, or the check stops
abbrev pub ChecksNext : Option Stop → Option (List ℕ) → Option (List ℕ) → Option (List ℕ) → Option Exhibit → Option Exhibit → ℕ → Type 0
ChecksNext None ahead behind left before after served =
    (line : List ℕ) × Consumes ahead behind (ended line) × IsWithin line × (found_with before line ≡ Ok after)
ChecksNext (Some stop) ahead behind left before after served = HasCheckedLines stop ahead left before after served

-- ---- the whole check

-- one exhibit was found, and it holds
pub record IsHeld (formulas : Formulas) (bytes : List ℕ) : Type 0 where
  pub shown : Exhibit
  pub found : IsFoundIn None 0 (lines_of bytes) (Some shown)
  pub holds : IsExhibit formulas shown

-- one exhibit was found, and it doesn't hold
pub record IsFailed (formulas : Formulas) (bytes : List ℕ) : Type 0 where
  pub shown : Exhibit
  pub found : IsFoundIn None 0 (lines_of bytes) (Some shown)
  pub fails : ¬ IsExhibit formulas shown

-- no exhibit was found, which is reported as line 0
pub record IsMissing (bytes : List ℕ) (number : ℕ) (kind : Kind) : Type 0 where
  pub found : IsFoundIn None 0 (lines_of bytes) None
  pub its_number : number ≡ 0
  pub its_kind : kind ≡ Kind.Count

-- what the end of a check says of the bytes that were ahead and of those that are left
abbrev pub IsChecked : Formulas → Ending → List ℕ → Option (List ℕ) → Type 0
IsChecked formulas Holds bytes left = IsHeld formulas bytes
IsChecked formulas Fails bytes left = IsFailed formulas bytes
IsChecked formulas (Stopped Finished) bytes left = ⊥
IsChecked formulas (Stopped Memory) bytes left = ⊥
IsChecked formulas (Stopped Words) bytes left = ⊥
IsChecked formulas (Stopped WriteFault) bytes left = ⊥
IsChecked formulas (Stopped Shown) bytes left = ⊥
IsChecked formulas (Stopped ReadFault) bytes left =
    (after : Option Exhibit) × IsBrokenOff None 0 bytes left after
IsChecked formulas (Stopped (Refused number kind)) bytes left =
    IsRefusedIn None 0 (lines_of bytes) number kind ⊎ IsMissing bytes number kind
IsChecked formulas (Stopped TooManyLines) bytes left =
    (after : Option Exhibit) × IsPastLimit None 0 (lines_of bytes) after

-- ---- before a pull, from what was found before and after that many lines

-- The whole lines of these bytes were read, none is refused, and what was given of the next line decides no stop.
pub record IsLookedThrough (found : Option Exhibit) (served : ℕ) (given : List ℕ) : Type 0 where
  pub lines : List (List ℕ)
  pub part : List ℕ
  pub cut : given ≡ flat_map ended lines ++ part
  pub whole : All IsWithin lines
  pub undecided : IsUndecided (served + length lines) part
  pub after : Option Exhibit
  pub read : found_in_lines found lines ≡ Ok after

-- So it is of the bytes that the source had given before its last pull.
abbrev pub HasLookedFirst : Option Exhibit → ℕ → Option (List ℕ) → Option (List ℕ) → Type 0
HasLookedFirst found served trace left_before =
    IfSome trace (λ bytes. IfSome left_before (λ behind. (given : List ℕ) × (bytes ≡ given ++ behind) × IsLookedThrough found served given))
