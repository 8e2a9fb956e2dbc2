-- How the metadata lines and the shadow lines stand while recovery writes: a prefix of its writes is done, in their order. First come the
-- doubted lines, from the lowest level upwards, and then the shadow lines.
use Rattle.std.specs.Prelude.{ℕ, ◌≡◌, ◌≤◌, ◌<◌, ◌⊎◌, true, false, List}
use Rattle.pmem_base.specs.declared.lines.Line.{Line}
use Rattle.pmem_base.specs.declared.registers.Regs.{Regs}
use Rattle.pmem_base.specs.Layout as layout
use Rattle.pmem_base.specs.Lines.{line_at, zero_line}
use Rattle.suite.specs.Setup.{Setup}
use Rattle.pmem_engine.specs.Invariants.{stored_meta, is_doubted}
use Rattle.pmem_recovery.specs.Fixed.{fixed_line}
use Rattle.pmem_recovery.specs.Upward.{IsBefore}
use Rattle.pmem_recovery.specs.Parts.{HasRoot}

-- the root is right, the metadata lines before the next one to be written are the fixed ones, and all
-- others and the shadow lines are as they were
pub record AreWrittenBefore (setup : Setup) (lines : List Line) (regs : Regs) (next : ℕ) (now : List Line) :
    Type 0 where
  pub root : HasRoot setup lines regs
  pub fixed :
      (x : ℕ) → x < layout.meta_lines setup.shape → IsBefore x next
      → stored_meta setup.shape now x ≡ fixed_line setup lines regs x
  pub others :
      (x : ℕ) → x < layout.meta_lines setup.shape → (IsBefore x next → ⊥)
      → stored_meta setup.shape now x ≡ stored_meta setup.shape lines x
  pub shadow_kept :
      (m : ℕ) → m < layout.shadow_lines setup.shape
      → line_at now (layout.shadow_line setup.shape m) ≡ line_at lines (layout.shadow_line setup.shape m)

-- the root is right, all metadata lines are the fixed ones, and that many shadow lines are zero
pub record AreClearedTo (setup : Setup) (lines : List Line) (regs : Regs) (n : ℕ) (now : List Line) :
    Type 0 where
  pub root : HasRoot setup lines regs
  pub fixed :
      (x : ℕ) → x < layout.meta_lines setup.shape
      → stored_meta setup.shape now x ≡ fixed_line setup lines regs x
  pub zero :
      (m : ℕ) → m < n → line_at now (layout.shadow_line setup.shape m) ≡ zero_line
  pub others :
      (m : ℕ) → n ≤ m → m < layout.shadow_lines setup.shape
      → line_at now (layout.shadow_line setup.shape m) ≡ line_at lines (layout.shadow_line setup.shape m)

-- nothing is written, or the lines before a doubted one, or all of them and some shadow lines
abbrev pub IsFrontWritten : Setup → List Line → Regs → List Line → Type 0
IsFrontWritten setup lines regs now =
    (now ≡ lines)
    ⊎ (((next : ℕ) × (is_doubted setup.shape lines next ≡ true) × AreWrittenBefore setup lines regs next now)
    ⊎ ((n : ℕ) × AreClearedTo setup lines regs n now))

-- each doubted metadata line is the fixed one, and every other one is as it was
pub record AreFixed (setup : Setup) (lines : List Line) (regs : Regs) (now : List Line) : Type 0 where
  pub named :
      (x : ℕ) → x < layout.meta_lines setup.shape → is_doubted setup.shape lines x ≡ true
      → stored_meta setup.shape now x ≡ fixed_line setup lines regs x
  pub others :
      (x : ℕ) → x < layout.meta_lines setup.shape → is_doubted setup.shape lines x ≡ false
      → stored_meta setup.shape now x ≡ stored_meta setup.shape lines x
