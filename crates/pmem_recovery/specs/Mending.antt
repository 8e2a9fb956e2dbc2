-- What making and writing the doubted lines does to the device, so far as it comes.
use Rattle.std.specs.Prelude.{ℕ, ◌≡◌, ◌≤◌, ◌<◌, ◌+◌, ◌*◌, ◌⊎◌, true, List, length, is_some}
use Rattle.pmem_base.specs.declared.lines.Line.{Line}
use Rattle.pmem_base.specs.declared.registers.Regs.{Regs}
use Rattle.pmem_base.specs.Counts.{last_count}
use Rattle.pmem_base.specs.Shape.{Shape}
use Rattle.pmem_base.specs.Layout as layout
use Rattle.board.specs.Counts.{RisesBy}
use Rattle.board.specs.Device.{Device}
use Rattle.commit_regs.specs.Groups.{RisesAtMost}
use Rattle.shadow_tables.specs.Entries.{shadow_of}
use Rattle.suite.specs.Setup.{Setup}
use Rattle.plain_model.specs.Bounds.{most_blocks, most_nodes}
use Rattle.pmem_engine.specs.Mendable.{IsShadowZero}
use Rattle.pmem_recovery.specs.declared.entries.MadeEntry.{MadeEntry}
use Rattle.pmem_recovery.specs.declared.faults.RecFault.{RecFault}
use Rattle.pmem_recovery.specs.declared.faults.RecFault.TheVariants.{Cut}
use Rattle.pmem_recovery.specs.Upward.{AreAllMade}
use Rattle.pmem_recovery.specs.Writing.{IfBothLinesTold, AreWritten, differing, writes_due}
use Rattle.pmem_recovery.specs.Parts.{KeepsDevice, HasRoot}

-- all doubted lines are made, and the root is right
pub record HasMadeAll (setup : Setup) (lines : List Line) (regs : Regs) (shadow : List Line)
    (made : List MadeEntry) : Type 0 where
  pub its_shadow : shadow ≡ shadow_of setup.shape lines
  pub all_made : AreAllMade setup lines regs made
  pub has_root : HasRoot setup lines regs

-- the root is right, and of the writes that are due then the first k are made
pub record IsWrittenTo (setup : Setup) (lines : List Line) (regs : Regs) (shadow : List Line)
    (made : List MadeEntry) (k : ℕ) (now : List Line) : Type 0 where
  pub all : HasMadeAll setup lines regs shadow made
  pub few : k ≤ length made + layout.shadow_lines setup.shape
  pub are_written : AreWritten (writes_due setup.shape shadow made) k lines now

-- nothing is written, or so much
abbrev pub IsPartlyMended : Setup → List Line → Regs → List Line → Type 0
IsPartlyMended setup lines regs now =
    (now ≡ lines) ⊎ ((shadow : List Line) × (made : List MadeEntry) × (k : ℕ) × IsWrittenTo setup lines regs shadow made k now)

-- all that is due is written
pub record IsRecovered (setup : Setup) (lines : List Line) (regs : Regs) (now : List Line) : Type 0 where
  pub shadow : List Line
  pub made : List MadeEntry
  pub written : IsWrittenTo setup lines regs shadow made (length made + layout.shadow_lines setup.shape) now

-- the most lines that recovery writes after the redo: the most counter blocks and nodes that it makes, and the shadow
-- lines
abbrev pub most_writes : Shape → ℕ
most_writes g = most_blocks g + most_nodes g + layout.shadow_lines g

-- the most lines that it reads: the shadow lines, each doubted counter block with the lines of its page and
-- their tag lines, each doubted node with its children, and the top line
abbrev pub most_reads : Shape → ℕ
most_reads g =
    layout.shadow_lines g + 129 * most_blocks g + 5 * most_nodes g + 1

-- that many lines are written, each another one than before
pub record HasMadeWrites (setup : Setup) (regs : Regs) (old new : Device) : Type 0 where
  pub size : new.size ≡ old.size
  pub same_regs : new.regs ≡ old.regs
  pub latches : new.latches ≡ old.latches
  pub reads : RisesAtMost (most_reads setup.shape) old.reads new.reads
  pub told : is_some new.lines ≡ is_some old.lines
  pub count : ℕ
  pub few : count ≤ most_writes setup.shape
  pub writes : RisesBy count old.writes new.writes
  pub none : count ≡ 0 → new.writes ≡ old.writes
  pub lines :
      IfBothLinesTold old new
      (λ lines now.
      length lines ≡ layout.device_lines setup.shape
      → IsPartlyMended setup lines regs now × (differing lines now ≡ count)
      × (setup.shape.shadow ≡ true → IsShadowZero setup lines → count ≡ 0))

-- the device has power, or there are lines that may have to be written
abbrev pub MayLackSteps : Shape → Device → Type 0
MayLackSteps g device = (device.live ≡ true) ⊎ (0 < most_writes g)

-- a refusal leaves the device alone, and a cut comes before all is written
abbrev pub IsStoppedShort : Shape → RecFault → Device → Device → Type 0
IsStoppedShort g Cut old new = MayLackSteps g old → new.writes < last_count → new.writes < old.writes + most_writes g
IsStoppedShort g fault old new = KeepsDevice old new
