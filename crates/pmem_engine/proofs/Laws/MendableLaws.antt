-- Laws of a device that can be mended: what redoing the group gives, and which line writes keep it.
use Rattle.std.proofs.lemmas.Grind.{common_steps}
use Rattle.std.proofs.Common.{rules, ℕ, ◌≡◌, ◌<◌, ◌≤◌, ◌+◌, ◌-◌, ◌*◌, true, false, List, [], length, take, drop, replicate, ap, sym, ◌∙◌, subst, ◌⊎◌, IsTrue, arith}
use Rattle.std.specs.Prelude.{◌||◌, not}
use Rattle.std.proofs.lemmas.Bool.{cases_lt, and_right}
use Rattle.std.proofs.lemmas.List.{get_or-drop, length-take, length-drop, length-replicate, get_or-replicate, ext_get_or}
use Rattle.pmem_base.specs.declared.lines.Line.{Line}
use Rattle.pmem_base.specs.declared.registers.Regs.{Regs}
use Rattle.pmem_base.specs.Shape.{Shape, is_lazy}
use Rattle.pmem_base.specs.Registers.{IsValidRegs}
use Rattle.pmem_base.specs.declared.answers.Mark.{Mark}
use Rattle.pmem_base.specs.Layout as layout
use Rattle.pmem_base.specs.Lines.{line_at, zero_line}
use Rattle.bonsai_tree.specs.Positions.{level_of, counter_position}
use Rattle.bonsai_tree.proofs.Levels.{counter_position-lt}
use Rattle.board.specs.Device.{AreLinesOf}
use Rattle.commit_regs.specs.Groups.{redone}
use Rattle.seal_ledger.specs.Ledger.{LedgerState}
use Rattle.shadow_tables.specs.Entries.{is_named_in, shadow_of}
use Rattle.shadow_tables.proofs.EntryLaws.{AreAllZero, is_named_in-zero}
use Rattle.suite.specs.Setup.{Setup}
use Rattle.pmem_engine.specs.Engine.{ChipState}
use Rattle.pmem_engine.specs.Invariants.{IsAnchored, IsSealStored, IsCounterStored, IsMendable, IsDurable, IsSound, stored_meta, is_doubted}
use Rattle.pmem_engine.specs.Mendable.{IsAllTrue, IsShadowZero}
use Rattle.pmem_engine.specs.Steps.{IsEmptied}
use Rattle.pmem_engine.specs.Recached.{IsNewEngine}
use Rattle.commit_regs.proofs.GroupLemmas.{AreLinesOf-redone}

-- ---- lists of lines

-- ---- durable, and mendable

-- with no group the two are one
pub IsDurable-no_group : (setup : Setup) (lines : List Line) (regs : Regs) (ledger : LedgerState) → regs.group.items ≡ [] → AreLinesOf (layout.device_lines setup.shape) lines → IsMendable setup lines regs ledger → IsDurable setup lines regs ledger
IsDurable-no_group setup lines regs ledger e whole d = search rules

pub IsMendable-no_group : (setup : Setup) (lines : List Line) (regs : Regs) (ledger : LedgerState) → regs.group.items ≡ [] → IsDurable setup lines regs ledger → IsMendable setup lines regs ledger
IsMendable-no_group setup lines regs ledger e d = search rules

-- ---- a change of metadata and shadow lines

-- lines that differ from a device's in metadata lines that are now true, and in shadow lines only where
-- every metadata line is true
pub record IsMendingOf (setup : Setup) (old new : List Line) (ledger : LedgerState) : Type 0 where
  pub same_data : (n : ℕ) → n < 80 * layout.pages setup.shape → line_at new n ≡ line_at old n
  pub same_or_true :
      (x : ℕ) → x < layout.meta_lines setup.shape
      → (stored_meta setup.shape new x ≡ stored_meta setup.shape old x)
      ⊎ (stored_meta setup.shape new x ≡ line_at ledger.truth x)
  pub same_names_or_true :
      (shadow_of setup.shape new ≡ shadow_of setup.shape old) ⊎ IsAllTrue setup new ledger

pub IsMendable-mending : (setup : Setup) (old new : List Line) (regs : Regs) (ledger : LedgerState) → IsMendingOf setup old new ledger → IsMendable setup old regs ledger → IsMendable setup new regs ledger
IsMendable-mending setup old new regs ledger m d =
    record {
      anchored = d.anchored;
      seals_stored = seals;
      true_or_doubted = λ x h. meta x h m.same_names_or_true (m.same_or_true x h) (d.true_or_doubted x h);
      counters_stored = λ page h. counter page (m.same_or_true (counter_position setup.shape page) (counter_position-lt setup.shape page h)) (d.counters_stored page h);
    }
  where
    seals : (a : ℕ) → a < layout.data_lines setup.shape → IsSealStored setup.shape new ledger.marks a
    seals a h = search rules

    meta : (x : ℕ) → x < layout.meta_lines setup.shape → (shadow_of setup.shape new ≡ shadow_of setup.shape old) ⊎ IsAllTrue setup new ledger → (stored_meta setup.shape new x ≡ stored_meta setup.shape old x) ⊎ (stored_meta setup.shape new x ≡ line_at ledger.truth x) → (stored_meta setup.shape old x ≡ line_at ledger.truth x) ⊎ IsTrue (is_doubted setup.shape old x) → (stored_meta setup.shape new x ≡ line_at ledger.truth x) ⊎ IsTrue (is_doubted setup.shape new x)
    meta x h v2 same was = search rules

    counter : (page : ℕ) → (stored_meta setup.shape new (counter_position setup.shape page) ≡ stored_meta setup.shape old (counter_position setup.shape page)) ⊎ (stored_meta setup.shape new (counter_position setup.shape page) ≡ line_at ledger.truth (counter_position setup.shape page)) → IsCounterStored setup old regs.loss ledger.truth page → IsCounterStored setup new regs.loss ledger.truth page
    counter page v1 was = search rules

-- ---- a fixed line is written

-- the shadow lines are the same where each line from their start on is
pub shadow_of-same : (g : Shape) (old new : List Line) → length new ≡ length old → ((n : ℕ) → layout.shadow_line g 0 ≤ n → line_at new n ≡ line_at old n) → shadow_of g new ≡ shadow_of g old
shadow_of-same g old new long same =
    ap (take (layout.device_lines g - layout.shadow_line g 0))
    (ext_get_or zero_line (drop (layout.shadow_line g 0) new) (drop (layout.shadow_line g 0) old)
    (length-drop (layout.shadow_line g 0) new ∙ ap (λ n. n - layout.shadow_line g 0) long ∙ sym (length-drop (layout.shadow_line g 0) old))
    (λ i h.
    get_or-drop (layout.shadow_line g 0) new i zero_line
    ∙ same (layout.shadow_line g 0 + i) (omega arith)
    ∙ sym (get_or-drop (layout.shadow_line g 0) old i zero_line)))

-- ---- a shadow line is zeroed

-- ---- the end

-- line n of the shadow lines
pub line_at-shadow_of : (g : Shape) (lines : List Line) (n : ℕ) → n < layout.shadow_lines g → line_at (shadow_of g lines) n ≡ line_at lines (layout.shadow_line g n)
line_at-shadow_of g lines n h = grind (arith, common_steps)

-- past them there is the zero line
line_at-shadow_past : (g : Shape) (lines : List Line) (n : ℕ) → layout.shadow_lines g ≤ n → line_at (shadow_of g lines) n ≡ zero_line
line_at-shadow_past g lines n h = grind (arith, common_steps)

pub AreAllZero-shadow_of : (setup : Setup) (lines : List Line) → IsShadowZero setup lines → AreAllZero (shadow_of setup.shape lines)
AreAllZero-shadow_of setup lines z = search (rules, cases_lt, line_at-shadow_of, line_at-shadow_past)

-- zero shadow lines name nothing
-- with shadow tables that are zero nothing is doubted
pub is_doubted-zero : (setup : Setup) (lines : List Line) (x : ℕ) → setup.shape.shadow ≡ true → IsShadowZero setup lines → is_doubted setup.shape lines x ≡ false
is_doubted-zero setup lines x tables z =
    and_right (is_lazy setup.shape (level_of x)) _
    (ap (λ b. not b || is_named_in setup.shape (shadow_of setup.shape lines) (level_of x) x) tables
    ∙ is_named_in-zero setup.shape (shadow_of setup.shape lines) (level_of x) x (AreAllZero-shadow_of setup lines z))

pub IsSound-new_engine : (setup : Setup) (engine : ChipState) (lines : List Line) (regs : Regs) (ledger : LedgerState) → IsNewEngine setup engine lines → AreLinesOf (layout.device_lines setup.shape) lines → IsMendable setup lines regs ledger → IsAllTrue setup lines ledger → regs.group.items ≡ [] → IsSound setup engine lines regs ledger
IsSound-new_engine setup engine lines regs ledger new whole d all none = search rules

-- zero shadow lines as a list, as a new engine's copy of them is made
pub shadow_of-zero : (setup : Setup) (lines : List Line) → AreLinesOf (layout.device_lines setup.shape) lines → IsShadowZero setup lines → shadow_of setup.shape lines ≡ replicate (layout.shadow_lines setup.shape) zero_line
shadow_of-zero setup lines whole z =
    ext_get_or zero_line (shadow_of setup.shape lines) (replicate (layout.shadow_lines setup.shape) zero_line) (long ∙ sym count)
    (λ i h. (AreAllZero-shadow_of setup lines z).zero_lines i
    ∙ sym (get_or-replicate (layout.shadow_lines setup.shape) i zero_line zero_line (within i h)))
  where
    low : ℕ
    low = layout.shadow_line setup.shape 0

    count : length (replicate (layout.shadow_lines setup.shape) zero_line) ≡ layout.shadow_lines setup.shape
    count = length-replicate {A = Line} (layout.shadow_lines setup.shape) zero_line

    long : length (shadow_of setup.shape lines) ≡ layout.shadow_lines setup.shape
    long =
        let taken = length-take (layout.device_lines setup.shape - low) (drop low lines) in
        let rest = length-drop low lines in
        let size = whole.count in
        omega arith

    within : (i : ℕ) → i < length (shadow_of setup.shape lines) → i < layout.shadow_lines setup.shape
    within i h = subst (λ n. i < n) long h

-- ---- the group is emptied

pub IsValidRegs-emptied : (g : Shape) (old new : Regs) → IsEmptied old new → IsValidRegs g old → IsValidRegs g new
IsValidRegs-emptied g old new e valid = search rules

pub IsAnchored-emptied : (setup : Setup) (old new : Regs) (ledger : LedgerState) → IsEmptied old new → IsAnchored setup old ledger → IsAnchored setup new ledger
IsAnchored-emptied setup old new ledger e d = search rules

pub IsMendable-emptied : (setup : Setup) (lines : List Line) (old new : Regs) (ledger : LedgerState) → IsEmptied old new → IsMendable setup lines old ledger → IsMendable setup lines new ledger
IsMendable-emptied setup lines old new ledger e d = search rules

-- so a durable device whose group is redone and emptied is durable, with its lines as they are
pub IsDurable-emptied : (setup : Setup) (lines : List Line) (old new : Regs) (ledger : LedgerState) → IsEmptied old new → IsDurable setup lines old ledger → IsDurable setup (redone old.group.items lines) new ledger
IsDurable-emptied setup lines old new ledger e d = search (rules, AreLinesOf-redone, IsDurable-no_group, IsMendable-emptied)

-- ---- the writes of recovery, where no group is armed

-- a seal on the device stays where data and tag lines stay, tampered with or not
pub IsSealStored-same : (g : Shape) (old new : List Line) (marks : List Mark) (a : ℕ) → a < layout.data_lines g → ((n : ℕ) → n < 80 * layout.pages g → line_at new n ≡ line_at old n) → IsSealStored g old marks a → IsSealStored g new marks a
IsSealStored-same g old new marks a h same stored = search rules
