-- What recovery writes, in order: the lines made, and then zeros over the shadow lines.
use Rattle.std.specs.Prelude.{ℕ, zero, suc, ◌≡◌, ◌≢◌, ◌<◌, ◌+◌, Bool, true, false, List, [], ◌∷◌, length, filter, is_some, if◌then◌else◌}
use Rattle.std.specs.List.{range_with_len}
use Rattle.pmem_base.specs.declared.lines.Line.{Line}
use Rattle.pmem_base.specs.Shape.{Shape}
use Rattle.pmem_base.specs.Layout as layout
use Rattle.pmem_base.specs.Lines.{line_at, zero_line}
use Rattle.board.specs.Counts.{RisesBy}
use Rattle.board.specs.Device.{Device}
use Rattle.board.specs.Steps.{HasWritten}
use Rattle.pmem_recovery.specs.declared.entries.MadeEntry.{MadeEntry}
use Rattle.pmem_recovery.specs.Parts.{IfLinesTold}
use Rattle.pmem_recovery.specs.Upward.{is_other}

-- what holds of the lines before and after, if they are exposed
abbrev pub IfBothLinesTold : Device → Device → (List Line → List Line → Type 0) → Type 0
IfBothLinesTold old new P = IfLinesTold old.lines (λ lines. IfLinesTold new.lines (λ now. P lines now))

-- that many lines are written, and nothing else but lines is changed
pub record HasOnlyWritten (n : ℕ) (old new : Device) : Type 0 where
  pub size : new.size ≡ old.size
  pub regs : new.regs ≡ old.regs
  pub reads : new.reads ≡ old.reads
  pub latches : new.latches ≡ old.latches
  pub writes : RisesBy n old.writes new.writes
  pub none : n ≡ 0 → new.writes ≡ old.writes
  pub told : is_some new.lines ≡ is_some old.lines

-- a line is written if it is another one than the device's
abbrev pub HasWrittenIf : Bool → Device → ℕ → Line → Device → Type 0
HasWrittenIf true old at line new = HasWritten old at line new
HasWrittenIf false old at line new = new ≡ old

-- the number of lines in which two devices of one size differ
abbrev pub differing : List Line → List Line → ℕ
differing old new =
    length (filter (λ n. is_other (line_at old n) (line_at new n)) (range_with_len 0 (length old)))

-- ---- the writes that are due

-- a line for a place, which is written if it is another one than the line there
pub record DueWrite : Type 0 where
  pub place : ℕ
  pub line : Line
  pub changed : Bool

abbrev pub due_of_made : Shape → MadeEntry → DueWrite
due_of_made g entry =
    record { place = layout.meta_line g entry.at; line = entry.line; changed = entry.changed }

abbrev pub due_zeros : Shape → List Line → ℕ → DueWrite
due_zeros g shadow n =
    record { place = layout.shadow_line g n; line = zero_line; changed = is_other (line_at shadow n) zero_line }

-- the lines made, in order, and then zeros over the shadow lines, by numbers upwards
unfoldable pub writes_due : Shape → List Line → List MadeEntry → ℕ → DueWrite
writes_due g shadow [] k = due_zeros g shadow k
writes_due g shadow (entry ∷ made) zero = due_of_made g entry
writes_due g shadow (entry ∷ made) (suc k) = writes_due g shadow made k

-- how many of the first k are other lines than those there
unfoldable pub count_changed : (ℕ → DueWrite) → ℕ → ℕ
count_changed due zero = 0
count_changed due (suc k) = count_changed due k + (if (due k).changed then 1 else 0)

-- all of them are for lines of the device, each for another one, and compared with it
pub record AreDue (due : ℕ → DueWrite) (all : ℕ) (lines : List Line) : Type 0 where
  pub inside : (k : ℕ) → k < all → (due k).place < length lines
  pub distinct : (j k : ℕ) → j < k → k < all → (due j).place ≢ (due k).place
  pub compared : (k : ℕ) → k < all → (due k).changed ≡ is_other (line_at lines (due k).place) (due k).line

-- the first k stand at their places, and every other line is as it was
pub record AreWritten (due : ℕ → DueWrite) (k : ℕ) (old new : List Line) : Type 0 where
  pub count : length new ≡ length old
  pub each : (j : ℕ) → j < k → line_at new (due j).place ≡ (due j).line
  pub others : (n : ℕ) → ((j : ℕ) → j < k → (due j).place ≢ n) → line_at new n ≡ line_at old n
  pub differ : differing old new ≡ count_changed due k

-- the first k are written, if they are other lines
pub record HasWrittenTo (due : ℕ → DueWrite) (all k : ℕ) (old new : Device) : Type 0 where
  pub steps : HasOnlyWritten (count_changed due k) old new
  pub lines : IfBothLinesTold old new (λ lines now. AreDue due all lines → AreWritten due k lines now)
