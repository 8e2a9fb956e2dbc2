-- The blocks of a page's path are named in the shadow tables, level by level from the top.
use Rattle.std.specs.Prelude.{ℕ, zero, suc, ◌≡◌, ◌≢◌, ◌≤◌, ◌<◌, ◌+◌, ◌==◌, Bool, false, List, [], ◌∷◌, ◌++◌, length, if◌then◌else◌}
use Rattle.pmem_base.specs.declared.lines.Line.{Line}
use Rattle.pmem_base.specs.Counts.{HasRisen}
use Rattle.pmem_base.specs.Shape.{Shape, named_levels}
use Rattle.pmem_base.specs.Layout.{slots, shadow_line}
use Rattle.board.specs.Counts.{RisesBy}
use Rattle.board.specs.Device.{Device}
use Rattle.commit_regs.specs.Groups.{redone_told}
use Rattle.shadow_tables.specs.Entries.{slot_entry}
use Rattle.shadow_tables.specs.Naming.{entry_line, naming_line, with_named}
use Rattle.meta_cache.specs.Banks.{Banks}
use Rattle.meta_path.specs.Blocks.{path_at, number_in}
use Rattle.meta_path.specs.Work.{HasWorked}

-- the number of the slot of the path's block at level j, in its bank
abbrev pub path_number : Shape → Banks → ℕ → ℕ → ℕ
path_number g banks page j = number_in g banks j (path_at g page j)

-- whether the entry of slot n of a bank names position x
abbrev pub is_slot_named : Shape → List Line → ℕ → ℕ → ℕ → Bool
is_slot_named g shadow bank n x = slot_entry g shadow bank n == x + 1

-- the shadow lines once it does
abbrev pub named_slot : Shape → List Line → ℕ → ℕ → ℕ → List Line
named_slot g shadow bank n x =
    if is_slot_named g shadow bank n x then shadow else with_named g shadow bank n x

-- the line write that this takes, by place and line: none if it does already
abbrev pub naming_write : Shape → List Line → ℕ → ℕ → ℕ → List (ℕ × Line)
naming_write g shadow bank n x =
    if is_slot_named g shadow bank n x then []
    else (shadow_line g (entry_line g bank n), naming_line g shadow bank n x) ∷ []

-- the shadow lines once the slots of the path's first n blocks are named
abbrev pub named_path : Shape → Banks → ℕ → List Line → ℕ → List Line
named_path g banks page shadow zero = shadow
named_path g banks page shadow (suc n) =
    named_slot g (named_path g banks page shadow n) n (path_number g banks page n) (path_at g page n)

-- the line writes that this takes
abbrev pub naming_writes : Shape → Banks → ℕ → List Line → ℕ → List (ℕ × Line)
naming_writes g banks page shadow zero = []
naming_writes g banks page shadow (suc n) =
    naming_writes g banks page shadow n
    ++ naming_write g (named_path g banks page shadow n) n (path_number g banks page n) (path_at g page n)

-- the entries of the path's first n slots name its blocks, and every other slot's is as it was
pub record ArePathEntries (g : Shape) (banks : Banks) (page n : ℕ) (old new : List Line) : Type 0 where
  pub named :
      (j : ℕ) → j < n → slot_entry g new j (path_number g banks page j) ≡ path_at g page j + 1
  pub others :
      (bank m : ℕ) → m < slots g → ((bank < n) × (m ≡ path_number g banks page bank) → ⊥)
      → slot_entry g new bank m ≡ slot_entry g old bank m

-- the path's first n blocks are named, on the board as in the mirror
pub record IsNamedTo (g : Shape) (banks : Banks) (page n : ℕ) (old_mirror new_mirror : List Line)
    (old new : Device) : Type 0 where
  pub mirror : new_mirror ≡ named_path g banks page old_mirror n
  pub entries : ArePathEntries g banks page n old_mirror new_mirror
  pub work : HasWorked 0 (naming_writes g banks page old_mirror n) old new

-- the path's first n blocks are named, and a cut came before the entry of the next one was written,
-- which didn't name it; the mirror has it
pub record IsNamingCut (g : Shape) (banks : Banks) (page : ℕ) (old_mirror new_mirror : List Line)
    (old new : Device) : Type 0 where
  pub n : ℕ
  pub on_path : n < named_levels g
  pub mirror : new_mirror ≡ named_path g banks page old_mirror (n + 1)
  pub entries : ArePathEntries g banks page (n + 1) old_mirror new_mirror
  pub unnamed : slot_entry g old_mirror n (path_number g banks page n) ≢ path_at g page n + 1
  pub lines : new.lines ≡ redone_told (naming_writes g banks page old_mirror n) old.lines
  pub writes : RisesBy (length (naming_writes g banks page old_mirror n)) old.writes new.writes
  pub unsteady : old.steady ≡ false
  pub off : new.live ≡ false
  pub never_falls : old.cuts ≤ new.cuts
  pub rose : HasRisen old.cuts new.cuts
  pub size : new.size ≡ old.size
  pub regs : new.regs ≡ old.regs
  pub reads : new.reads ≡ old.reads
  pub latches : new.latches ≡ old.latches
