-- The fixed lines as recovery makes them, from the counter blocks upwards, and which are made so far.
use Rattle.std.specs.Prelude.{ℕ, suc, ◌≡◌, ◌≢◌, ◌≤◌, ◌<◌, ◌⊎◌, ◌==◌, Bool, true, not, List, find, option_map, unwrap_or, Option, All, AllPairs}
use Rattle.std.specs.List.{list_any}
use Rattle.pmem_base.specs.declared.lines.Line.{Line}
use Rattle.pmem_base.specs.declared.registers.Regs.{Regs}
use Rattle.pmem_base.specs.Shape.{Shape}
use Rattle.pmem_base.specs.Layout as layout
use Rattle.pmem_base.specs.Lines.{same_bytes}
use Rattle.pmem_base.specs.Layout.{level_start}
use Rattle.split_counters.specs.Blocks.{packed}
use Rattle.bonsai_tree.specs.Positions.{counter_position, level_of}
use Rattle.bonsai_tree.specs.Nodes.{node_over}
use Rattle.suite.specs.Setup.{Setup}
use Rattle.pmem_engine.specs.Invariants.{stored_meta, is_doubted}
use Rattle.pmem_recovery.specs.declared.entries.MadeEntry.{MadeEntry}
use Rattle.pmem_recovery.specs.Fixed.{fixed_block, fixed_line}

-- whether the line made is another one than the line read
abbrev pub is_other : Line → Line → Bool
is_other read line = not (same_bytes read.0 line.0)

-- the line made for x
abbrev pub line_made : List MadeEntry → ℕ → Option Line
line_made made x = option_map (λ entry. entry.line) (find (λ entry. entry.at == x) made)

-- the line made for x, or the device's if none was
abbrev pub made_or_stored : Shape → List Line → List MadeEntry → ℕ → Line
made_or_stored g lines made x = unwrap_or (line_made made x) (stored_meta g lines x)

-- whether a line was made for x
abbrev pub is_made : List MadeEntry → ℕ → Bool
is_made made x = list_any (λ entry. entry.at == x) made

-- a line made for position x of the device
abbrev pub made_entry : Shape → List Line → ℕ → Line → MadeEntry
made_entry g lines x line =
    record { at = x; line = line; changed = is_other (stored_meta g lines x) line }

abbrev pub block_made : Setup → List Line → Regs → ℕ → MadeEntry
block_made setup lines regs page =
    made_entry setup.shape lines (counter_position setup.shape page) (packed (fixed_block setup lines regs page))

abbrev pub node_made : Setup → List Line → List MadeEntry → ℕ → MadeEntry
node_made setup lines made x =
    made_entry setup.shape lines x (node_over setup.formulas x (made_or_stored setup.shape lines made))

-- a line made for a doubted position of the tree: the fixed line there
pub record IsMadeLine (setup : Setup) (lines : List Line) (regs : Regs) (entry : MadeEntry) :
    Type 0 where
  pub on_tree : entry.at < layout.meta_lines setup.shape
  pub named : is_doubted setup.shape lines entry.at ≡ true
  pub fixed : entry.line ≡ fixed_line setup lines regs entry.at
  pub compared : entry.changed ≡ is_other (stored_meta setup.shape lines entry.at) entry.line

-- position a comes before position b: it is on a lower level, or on the same one and before it
abbrev pub IsBefore : ℕ → ℕ → Type 0
IsBefore a b = (level_of b < level_of a) ⊎ ((level_of a ≡ level_of b) × (a < b))

-- of the positions that are done, each doubted one has one line made for it, in order, and no other position has one
pub record AreMade (setup : Setup) (lines : List Line) (regs : Regs) (done : ℕ → Type 0)
    (made : List MadeEntry) : Type 0 where
  pub each : All (IsMadeLine setup lines regs) made
  pub only_done : All (λ entry. done entry.at) made
  pub distinct : AllPairs (λ a b. a.at ≢ b.at) made
  pub in_order : AllPairs (λ a b. IsBefore a.at b.at) made
  pub every :
      (x : ℕ) → x < layout.meta_lines setup.shape → done x
      → is_doubted setup.shape lines x ≡ true → is_made made x ≡ true

-- the positions that are done once the levels below level i are, and level i before position m
abbrev pub IsDoneTo : ℕ → ℕ → ℕ → Type 0
IsDoneTo i m x = (level_start (suc i) ≤ x) ⊎ ((level_start i ≤ x) × (x < m))

-- as the loops over levels and positions go on
abbrev pub AreMadeTo : Setup → List Line → Regs → ℕ → ℕ → List MadeEntry → Type 0
AreMadeTo setup lines regs i m made = AreMade setup lines regs (IsDoneTo i m) made

-- at the end
abbrev pub AreAllMade : Setup → List Line → Regs → List MadeEntry → Type 0
AreAllMade setup lines regs made = AreMade setup lines regs (λ x. level_start 0 ≤ x) made
