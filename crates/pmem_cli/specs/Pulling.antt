-- How far the pulls of a source have come.
use Rattle.std.specs.Prelude.{ℕ, ◌≡◌, ◌≢◌, ◌==◌, ◌≤◌, nat_lt, Bool, true, ◌&&◌, List, [], length, Result, Ok, Err, Option, Some, None, IfSome, if◌then◌else◌}
use Rattle.std.specs.Io.KnownBytes.{Consumes}
use Rattle.plain_model.specs.declared.Stop.{Stop}
use Rattle.plain_model.specs.Lines.{IsWithin}
use Rattle.plain_model.specs.Run.{line_limit}
use Rattle.pmem_cli.specs.declared.pulls.Pulls.{Pulls}
use Rattle.pmem_cli.specs.declared.pulls.Pulls.TheVariants.{Open, Ended, Late}

-- a pull failed, or gave 0 bytes for a buffer with room
abbrev pub is_last : {E : Type 0} → Result ℕ E → ℕ → Bool
is_last (Err fault) room = true
is_last (Ok count) room = (count == 0) && nat_lt 0 room

-- after one more pull
abbrev pub pulls_after : Pulls → Bool → Pulls
pulls_after Open last = if last then Ended else Open
pulls_after Ended last = Late
pulls_after Late last = Late

-- more may follow, as before
abbrev pub StaysOpen : Pulls → Pulls → Type 0
StaysOpen before now = before ≡ Open → now ≡ Open

-- no pull followed one that failed or gave the end
abbrev pub IsInTime : Pulls → Pulls → Type 0
IsInTime before now = before ≡ Open → now ≢ Late

-- what is remembered, if anything, was left then
abbrev pub RemembersLeft : Option (List ℕ) → Option (List ℕ) → Type 0
RemembersLeft remembered left = IfSome remembered (λ bytes. left ≡ Some bytes)

-- if nothing stopped, more may follow
pub record PullsInTime (stop : Option Stop) (before now : Pulls) : Type 0 where
  pub may_pull : stop ≡ None → StaysOpen before now
  pub in_time : IsInTime before now

-- What was given of the line behind that many lines decides no stop: it is no longer than a line may be, and nothing behind as many lines
-- as a trace may have.
pub record IsUndecided (lines : ℕ) (part : List ℕ) : Type 0 where
  pub unfinished : IsWithin part
  pub short : length part ≤ 1024
  pub counted : lines ≤ line_limit
  pub at_limit : lines ≡ line_limit → part ≡ []

-- Before the last pull only so much had been taken of what was ahead behind that many lines. The source may not remember what was left
-- then.
abbrev pub PullsUndecided : ℕ → Option (List ℕ) → Option (List ℕ) → Type 0
PullsUndecided lines ahead left_before =
    IfSome left_before (λ behind. (part : List ℕ) × Consumes ahead (Some behind) part × IsUndecided lines part)

-- the same if the count of lines isn't looked at
abbrev pub PullsWithinLine : Option (List ℕ) → Option (List ℕ) → Type 0
PullsWithinLine ahead left_before =
    IfSome left_before (λ behind. (part : List ℕ) × Consumes ahead (Some behind) part × IsWithin part × (length part ≤ 1024))
