-- What the parts of the device show after a write to one of its regions: metadata lines, names, data
-- lines and tags, each by itself and over any lines.
use Rattle.std.proofs.lemmas.Grind.{common_steps}
use Rattle.std.proofs.Common.{rules, ◌≡◌, ◌≢◌, ℕ, ◌<◌, List, length, Some, refl, arith}
use Rattle.std.specs.Prelude.{slice_set}
use Rattle.std.proofs.lemmas.Bool.{cases_eq}
use Rattle.pmem_base.specs.declared.lines.Line.{Line}
use Rattle.pmem_base.specs.declared.answers.Mark.{Mark}
use Rattle.pmem_base.specs.Shape.{Shape}
use Rattle.pmem_base.specs.Layout as layout
use Rattle.pmem_base.specs.Layout.{device_lines, data_lines, meta_lines, tag_line, meta_line, shadow_line}
use Rattle.pmem_base.specs.Lines.{line_at}
use Rattle.pmem_base.specs.Marks.{SealOf, last_seal}
use Rattle.pmem_base.proofs.LineSets.{line_at-set_same}
use Rattle.pmem_base.proofs.Regions.{tag_line≢data, tag_on_device, data_before_shadow, tag_before_shadow, meta_before_shadow}
use Rattle.line_seal.specs.Seals.{with_tag}
use Rattle.line_seal.proofs.TagSlots.{tag_slot-with_other}
use Rattle.board.specs.Device.{AreLinesOf}
use Rattle.board.proofs.LineLemmas.{line_at-long}
use Rattle.shadow_tables.specs.Entries.{shadow_of}
use Rattle.shadow_tables.proofs.ShadowLines.{shadow_of-set_before}
use Rattle.pmem_engine.specs.Invariants.{IsSealStored, stored_meta, is_doubted}
use Rattle.pmem_engine.specs.Steps.{IsPlaceKept, sealed_lines}

-- a data line lies in a page
pub page_within : (g : Shape) (a : ℕ) → a < layout.data_lines g → layout.page_of a < layout.pages g
page_within g a h = omega arith

-- ---- metadata lines

pub stored_meta-set_same : (g : Shape) (lines : List Line) (x : ℕ) (line : Line)
    → meta_line g x < length lines → stored_meta g (slice_set lines (meta_line g x) line) x ≡ line
stored_meta-set_same g lines x line h = line_at-set_same lines (meta_line g x) line h

pub stored_meta-set_other : (g : Shape) (lines : List Line) (x : ℕ) (line : Line) (y : ℕ) → y ≢ x
    → stored_meta g (slice_set lines (meta_line g x) line) y ≡ stored_meta g lines y
stored_meta-set_other g lines x line y other = search rules

pub stored_meta-set_shadow : (g : Shape) (lines : List Line) (n : ℕ) (line : Line) (x : ℕ)
    → x < meta_lines g → stored_meta g (slice_set lines (shadow_line g n) line) x ≡ stored_meta g lines x
stored_meta-set_shadow g lines n line x h = search rules

-- ---- names

-- a write before the shadow lines changes no name
pub is_doubted-set_before : (g : Shape) (lines : List Line) (at : ℕ) (line : Line) (x : ℕ)
    → at < shadow_line g 0 → is_doubted g (slice_set lines at line) x ≡ is_doubted g lines x
is_doubted-set_before g lines at line x h = search (rules, shadow_of-set_before)

pub is_doubted-set_meta : (g : Shape) (lines : List Line) (y : ℕ) (line : Line) (x : ℕ) → y < meta_lines g
    → is_doubted g (slice_set lines (meta_line g y) line) x ≡ is_doubted g lines x
is_doubted-set_meta g lines y line x h = search (rules, is_doubted-set_before, meta_before_shadow)

-- ---- data lines and tags

pub IsPlaceKept-same : (g : Shape) (lines : List Line) (a : ℕ) → IsPlaceKept g lines lines a
IsPlaceKept-same g lines a = record { its_line = refl; slot = refl }

pub IsPlaceKept-trans : (g : Shape) (first second third : List Line) (a : ℕ) → IsPlaceKept g first second a
    → IsPlaceKept g second third a → IsPlaceKept g first third a
IsPlaceKept-trans g first second third a one two = search rules

-- a metadata line or a shadow line is written
pub IsPlaceKept-set_meta : (g : Shape) (lines : List Line) (x : ℕ) (line : Line) (a : ℕ) → a < data_lines g
    → IsPlaceKept g lines (slice_set lines (meta_line g x) line) a
IsPlaceKept-set_meta g lines x line a h = search rules

pub IsPlaceKept-set_shadow : (g : Shape) (lines : List Line) (n : ℕ) (line : Line) (a : ℕ) → a < data_lines g
    → IsPlaceKept g lines (slice_set lines (shadow_line g n) line) a
IsPlaceKept-set_shadow g lines n line a h = search rules

-- a line whose last seal, data line and tag slot are as before has its seal stored as before
pub IsSealStored-kept : (g : Shape) (old new : List Line) (old_marks new_marks : List Mark) (a : ℕ)
    → last_seal new_marks a ≡ last_seal old_marks a → IsPlaceKept g old new a → IsSealStored g old old_marks a
    → IsSealStored g new new_marks a
IsSealStored-kept g old new old_marks new_marks a seal place stored = search rules

pub IsSealStored-set_meta : (g : Shape) (lines : List Line) (x : ℕ) (line : Line) (marks : List Mark) (a : ℕ)
    → a < data_lines g → IsSealStored g lines marks a → IsSealStored g (slice_set lines (meta_line g x) line) marks a
IsSealStored-set_meta g lines x line marks a h = search rules

-- ---- one line is sealed: the lines once its group is written

pub length-sealed_lines : (g : Shape) (lines : List Line) (a : ℕ) (seal : SealOf)
    → length (sealed_lines g lines a seal) ≡ length lines
length-sealed_lines g lines a seal = search rules

line_at-sealed_lines_tag : (g : Shape) (lines : List Line) (a : ℕ) (seal : SealOf)
    → tag_line g a < length lines
    → line_at (sealed_lines g lines a seal) (tag_line g a) ≡ with_tag (line_at lines (tag_line g a)) a seal.tag
line_at-sealed_lines_tag g lines a seal within = search rules

line_at-sealed_lines_other : (g : Shape) (lines : List Line) (a : ℕ) (seal : SealOf) (d : ℕ) → d ≢ a
    → d ≢ tag_line g a → line_at (sealed_lines g lines a seal) d ≡ line_at lines d
line_at-sealed_lines_other g lines a seal d h h' = search rules

-- what the sealed line's seal needs of the device: its lines are whole, and the tag has 16 bytes
pub record IsSealable (g : Shape) (lines : List Line) (a : ℕ) (seal : SealOf) : Type 0 where
  pub whole : AreLinesOf (device_lines g) lines
  pub its_line : a < data_lines g
  pub its_tag : length seal.tag ≡ 16

tag_within : (g : Shape) (lines : List Line) (a : ℕ) (seal : SealOf) → IsSealable g lines a seal
    → tag_line g a < length lines
tag_within g lines a seal it = omega (arith, it.whole.count, tag_on_device g a it.its_line)

tag_line_long : (g : Shape) (lines : List Line) (a : ℕ) (seal : SealOf) → IsSealable g lines a seal
    → length (line_at lines (tag_line g a)).0 ≡ 64
tag_line_long g lines a seal it = line_at-long (device_lines g) lines (tag_line g a) it.whole

-- the sealed line's own seal is stored, whatever stood there before
pub IsSealStored-sealed_here : (g : Shape) (lines : List Line) (marks : List Mark) (a : ℕ) (seal : SealOf)
    → IsSealable g lines a seal → last_seal marks a ≡ Some seal → IsSealStored g (sealed_lines g lines a seal) marks a
IsSealStored-sealed_here g lines marks a seal it here = grind (arith, common_steps)

-- every other line's data line and tag slot are as they were
pub IsPlaceKept-sealed : (g : Shape) (lines : List Line) (a : ℕ) (seal : SealOf) (b : ℕ) → IsSealable g lines a seal
    → b < data_lines g → b ≢ a → IsPlaceKept g lines (sealed_lines g lines a seal) b
IsPlaceKept-sealed g lines a seal b it hb other = search (rules, cases_eq, tag_line≢data, tag_slot-with_other, line_at-sealed_lines_tag, line_at-sealed_lines_other, tag_within, tag_line_long)

pub stored_meta-sealed_lines : (g : Shape) (lines : List Line) (a : ℕ) (seal : SealOf) (x : ℕ) → a < data_lines g
    → stored_meta g (sealed_lines g lines a seal) x ≡ stored_meta g lines x
stored_meta-sealed_lines g lines a seal x h = search rules

pub shadow_of-sealed_lines : (g : Shape) (lines : List Line) (a : ℕ) (seal : SealOf) → a < data_lines g
    → shadow_of g (sealed_lines g lines a seal) ≡ shadow_of g lines
shadow_of-sealed_lines g lines a seal h = search (rules, shadow_of-set_before, tag_before_shadow, data_before_shadow)
