-- What arming and finishing a group makes of a device, and the registers and lines that a seal arms.
use Rattle.std.specs.Prelude.{ℕ, ◌≡◌, ◌⊎◌, true, List, [], ◌∷◌, length, Result, Ok, Err}
use Rattle.pmem_base.specs.declared.faults.Cut.{Cut}
use Rattle.pmem_base.specs.declared.lines.Line.{Line}
use Rattle.pmem_base.specs.declared.lines.Ctr.{Ctr}
use Rattle.pmem_base.specs.declared.registers.Regs.{Regs}
use Rattle.pmem_base.specs.Shape.{Shape}
use Rattle.pmem_base.specs.Layout.{tag_line}
use Rattle.board.specs.Counts.{RisesBy}
use Rattle.board.specs.Device.{Device}
use Rattle.board.specs.Steps.{HasLatched, WasCut}
use Rattle.commit_regs.specs.Groups.{IsInterrupted, redone_told}
use Rattle.line_seal.specs.Seals.{with_tag}
use Rattle.page_reencrypt.specs.Registers.{registers_with_done}
use Rattle.suite.specs.Formulas.{Formulas, cipher_of}
use Rattle.pmem_engine.specs.declared.resealing.NextSeal.{NextSeal}

-- the seal of a plain line, over its tag line as it was
abbrev pub next_seal_of : Formulas → ℕ → Ctr → Line → Line → NextSeal
next_seal_of f at ctr plain tags =
    let cipher = cipher_of f at ctr plain in
    record {
      at = at;
      ctr = ctr;
      cipher = cipher;
      tag = f.tag_of at ctr cipher;
      tag_line = with_tag tags at (f.tag_of at ctr cipher);
    }

-- what the seal's group writes
abbrev pub entries_of : Shape → NextSeal → List (ℕ × Line)
entries_of g next = (next.at, next.cipher) ∷ (tag_line g next.at, next.tag_line) ∷ []

-- the registers with line a done
pub record HasLineDone (a : ℕ) (old new : Regs) : Type 0 where
  pub root : new.root ≡ old.root
  pub progress : new.progress.items ≡ registers_with_done old.progress.items a
  pub loss : new.loss ≡ old.loss

-- a group was armed, its lines written, and emptied
pub record HasCommitted (group : List (ℕ × Line)) (old new : Device) : Type 0 where
  pub lines : new.lines ≡ redone_told group old.lines
  pub no_group : new.regs.group.items ≡ []
  pub writes : RisesBy (length group) old.writes new.writes
  pub latches : RisesBy 2 old.latches new.latches
  pub size : new.size ≡ old.size
  pub reads : new.reads ≡ old.reads
  pub cuts : new.cuts ≡ old.cuts
  pub steady : old.steady ≡ true → new.steady ≡ true
  pub live : old.live ≡ true → new.live ≡ true

-- How a group ended: with what goes with it done, or a cut came before it was armed, and left that undone, or while it
-- was armed.
abbrev pub HasGroupEnded : List (ℕ × Line) → Type 0 → Type 0 → Device → Device → Result (Unit {0}) Cut → Type 0
HasGroupEnded group Undone Done old new (Ok value) = HasCommitted group old new × Done
HasGroupEnded group Undone Done old new (Err cut) =
    (WasCut old new × Undone)
    ⊎ ((mid : Device) × HasLatched old new.regs mid × (new.regs.group.items ≡ group) × IsInterrupted group mid new × Done)
