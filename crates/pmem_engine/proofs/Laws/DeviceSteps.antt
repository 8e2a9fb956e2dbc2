-- What the group of one commit makes of the device's lines, whatever they are and whatever the chip is.
use Rattle.std.proofs.Common.{rules, ℕ, ◌≡◌, ◌<◌, ◌≤◌, ◌-◌, ◌++◌, Bool, true, false, List, [], ◌∷◌, length, drop, map, refl, sym, ap, subst, ◌∙◌, inl, inr, arith}
use Rattle.std.specs.Prelude.{◌||◌, ◌==◌, slice_set}
use Rattle.std.specs.List.{All, list_any}
use Rattle.std.proofs.lemmas.Bool.{true≢false, cases_eq, eqb-true, eqb-false, or_cases, or_parts}
use Rattle.std.proofs.lemmas.List.{length-set}
use Rattle.std.proofs.lemmas.List.Elements.{All-head, All-tail}
use Rattle.pmem_base.specs.declared.lines.Line.{Line}
use Rattle.pmem_base.specs.declared.lines.Ctr.{Ctr}
use Rattle.pmem_base.specs.declared.answers.Mark.{Mark}
use Rattle.pmem_base.specs.declared.answers.Mark.TheVariants.{Begin, Seal}
use Rattle.pmem_base.specs.Shape.{Shape}
use Rattle.pmem_base.specs.Layout.{data_lines, device_lines, meta_lines, page_of, tag_line, meta_line}
use Rattle.pmem_base.specs.Lines.{line_at, put_lines}
use Rattle.pmem_base.specs.Marks.{SealOf}
use Rattle.pmem_base.proofs.Regions.{meta_before_shadow, meta_on_device}
use Rattle.bonsai_tree.specs.Positions.{level_of}
use Rattle.line_seal.specs.Seals.{with_tag}
use Rattle.board.specs.Device.{AreLinesOf}
use Rattle.commit_regs.specs.Groups.{redone}
use Rattle.meta_path.specs.Storing.{IsPathOf, new_line}
use Rattle.plain_model.specs.Bounds.{path_length, begun_lines}
use Rattle.seal_ledger.proofs.MarkLemmas.{last_seal-sealed}
use Rattle.shadow_tables.specs.Entries.{shadow_of}
use Rattle.shadow_tables.proofs.ShadowLines.{shadow_of-set_before}
use Rattle.pmem_engine.specs.declared.resealing.NextSeal.{NextSeal}
use Rattle.pmem_engine.specs.Invariants.{IsSealStored, stored_meta}
use Rattle.pmem_engine.specs.Steps.{IsPlaceKept, sealed_lines}
use Rattle.pmem_engine.specs.Outcomes.{is_sealed_by}
use Rattle.pmem_engine.specs.CallFacts.{is_grouped}
use Rattle.pmem_engine.specs.Committing.{entries_of}
use Rattle.pmem_engine.specs.Sealing.{path_entries, seal_group, begin_group}
use Rattle.pmem_engine.proofs.Laws.PathEntries.{entered_is, entries_on_path}
use Rattle.pmem_engine.proofs.Laws.DeviceRegions.{IsSealable, IsPlaceKept-same, IsPlaceKept-trans, IsPlaceKept-set_meta, IsPlaceKept-sealed, IsSealStored-sealed_here, IsSealStored-set_meta, stored_meta-sealed_lines, shadow_of-sealed_lines, stored_meta-set_same, stored_meta-set_other}

-- one seal, and whether it is a line's
pub sealed_here : (at a : ℕ) (ctr : Ctr) (cipher : Line) (tag : List ℕ) → is_sealed_by (Seal at ctr cipher tag ∷ []) a ≡ true → a ≡ at
sealed_here at a ctr cipher tag it = search rules

pub unsealed_other : (at a : ℕ) (ctr : Ctr) (cipher : Line) (tag : List ℕ) → is_sealed_by (Seal at ctr cipher tag ∷ []) a ≡ false → a ≡ at → ⊥
unsealed_other at a ctr cipher tag it same = search rules

-- one mark's group over lines, and what they come to: the data line that the mark seals, every other one, the shadow
-- lines, and the metadata lines: it writes these, each with its entry
pub record IsDeviceStep (g : Shape) (mark : Mark) (marks : List Mark) (written : ℕ → Bool) (entry : ℕ → Line)
    (lines after : List Line) : Type 0 where
  pub own :
      (a : ℕ) → a < data_lines g → is_sealed_by (mark ∷ []) a ≡ true → IsSealStored g after (marks ++ mark ∷ []) a
  pub places : (a : ℕ) → a < data_lines g → is_sealed_by (mark ∷ []) a ≡ false → IsPlaceKept g lines after a
  pub shadow : shadow_of g after ≡ shadow_of g lines
  pub entries : (x : ℕ) → written x ≡ true → stored_meta g after x ≡ entry x
  pub others : (x : ℕ) → written x ≡ false → stored_meta g after x ≡ stored_meta g lines x

-- no metadata line
abbrev pub none_written : ℕ → Bool
none_written x = false

-- a line's seal
pub seal_step : (g : Shape) (marks : List Mark) (at : ℕ) (ctr : Ctr) (cipher : Line) (tag : List ℕ) (entry : ℕ → Line)
    (lines : List Line) → IsSealable g lines at (record { ctr = ctr; cipher = cipher; tag = tag })
    → IsDeviceStep g (Seal at ctr cipher tag) marks none_written entry lines
    (sealed_lines g lines at (record { ctr = ctr; cipher = cipher; tag = tag }))
seal_step g marks at ctr cipher tag entry lines it =
    record {
      own =
          λ a within made.
          subst (IsSealStored g (sealed_lines g lines at seal) (marks ++ Seal at ctr cipher tag ∷ []))
          (sym (sealed_here at a ctr cipher tag made))
          (IsSealStored-sealed_here g lines (marks ++ Seal at ctr cipher tag ∷ []) at seal it
          (last_seal-sealed marks at ctr cipher tag));
      places = λ a within un. IsPlaceKept-sealed g lines at seal a it within (unsealed_other at a ctr cipher tag un);
      shadow = shadow_of-sealed_lines g lines at seal it.its_line;
      entries = λ x none. absurd (true≢false (sym none));
      others = λ x un. stored_meta-sealed_lines g lines at seal x it.its_line;
    }
  where
    seal : SealOf
    seal = record { ctr = ctr; cipher = cipher; tag = tag }

-- a begin of a page, before its path's lines are written
begin_step : (g : Shape) (marks : List Mark) (page : ℕ) (entry : ℕ → Line) (lines : List Line)
    → IsDeviceStep g (Begin page) marks none_written entry lines lines
begin_step g marks page entry lines = search (rules, true≢false, IsPlaceKept-same)

-- the same metadata lines, by an equal test
written_same : (g : Shape) (mark : Mark) (marks : List Mark) (written now : ℕ → Bool) (entry : ℕ → Line) (lines after : List Line)
    → ((x : ℕ) → now x ≡ written x) → IsDeviceStep g mark marks written entry lines after
    → IsDeviceStep g mark marks now entry lines after
written_same g mark marks written now entry lines after same it =
    record {
      own = it.own;
      places = it.places;
      shadow = it.shadow;
      entries = λ x is. it.entries x (sym (same x) ∙ is);
      others = λ x un. it.others x (sym (same x) ∙ un);
    }

-- then one more metadata line
with_line : (g : Shape) (mark : Mark) (marks : List Mark) (written : ℕ → Bool) (entry : ℕ → Line) (lines mid : List Line) (y : ℕ)
    (line : Line) → y < meta_lines g → line ≡ entry y → length mid ≡ device_lines g
    → IsDeviceStep g mark marks written entry lines mid
    → IsDeviceStep g mark marks (λ x. written x || (y == x)) entry lines (slice_set mid (meta_line g y) line)
with_line g mark marks written entry lines mid y line low its size it =
    record {
      own = λ a within made. IsSealStored-set_meta g mid y line (marks ++ mark ∷ []) a within (it.own a within made);
      places =
          λ a within un.
          IsPlaceKept-trans g lines mid (slice_set mid (meta_line g y) line) a (it.places a within un)
          (IsPlaceKept-set_meta g mid y line a within);
      shadow = shadow_of-set_before g mid (meta_line g y) line (meta_before_shadow g y low) ∙ it.shadow;
      entries = entries;
      others =
          λ x un.
          let apart = or_parts (written x) (y == x) un in
          stored_meta-set_other g mid y line x (λ same. eqb-false y x apart.1 (sym same)) ∙ it.others x apart.0;
    }
  where
    entries : (x : ℕ) → (written x || (y == x)) ≡ true → stored_meta g (slice_set mid (meta_line g y) line) x ≡ entry x
    entries x is =
        elim (cases_eq x y) [
          | inl same ↦
              ap (stored_meta g (slice_set mid (meta_line g y) line)) same
              ∙ stored_meta-set_same g mid y line (omega (arith, size, meta_on_device g y low)) ∙ its ∙ ap entry (sym same)
          | inr other ↦
              stored_meta-set_other g mid y line x other
              ∙ it.entries x
              (elim (or_cases (written x) (y == x) is) [
                | inl was ↦ was
                | inr here ↦ absurd (other (sym (eqb-true y x here)))
              ])
        ]

-- entries of metadata lines, by position, in their places
abbrev pub placed : Shape → List (ℕ × Line) → List (ℕ × Line)
placed g entries = map (λ (e : ℕ × Line). (meta_line g e.0, e.1)) entries

-- whether one of them is of position x
abbrev pub is_entered : List (ℕ × Line) → ℕ → Bool
is_entered entries x = list_any (λ (e : ℕ × Line). e.0 == x) entries

-- then a list of them
with_lines : (g : Shape) (mark : Mark) (marks : List Mark) (written : ℕ → Bool) (entry : ℕ → Line) (lines mid : List Line)
    (entries : List (ℕ × Line)) → All (λ (e : ℕ × Line). (e.0 < meta_lines g) × (e.1 ≡ entry e.0)) entries
    → length mid ≡ device_lines g → IsDeviceStep g mark marks written entry lines mid
    → IsDeviceStep g mark marks (λ x. written x || is_entered entries x) entry lines (put_lines (placed g entries) mid)
with_lines g mark marks written entry lines mid [] all size it =
    written_same g mark marks written (λ x. written x || false) entry lines mid (λ x. or_none (written x)) it
  where
    or_none : (b : Bool) → (b || false) ≡ b
    or_none true = refl
    or_none false = refl
with_lines g mark marks written entry lines mid (e ∷ es) all size it =
    let first = All-head (λ (e : ℕ × Line). (e.0 < meta_lines g) × (e.1 ≡ entry e.0)) e es all in
    written_same g mark marks (λ x. (written x || (e.0 == x)) || is_entered es x) (λ x. written x || ((e.0 == x) || is_entered es x))
    entry lines (put_lines (placed g es) (slice_set mid (meta_line g e.0) e.1))
    (λ x. grouped (written x) (e.0 == x) (is_entered es x))
    (with_lines g mark marks (λ x. written x || (e.0 == x)) entry lines (slice_set mid (meta_line g e.0) e.1) es
    (All-tail (λ (e : ℕ × Line). (e.0 < meta_lines g) × (e.1 ≡ entry e.0)) e es all)
    (length-set mid (meta_line g e.0) e.1 ∙ size)
    (with_line g mark marks written entry lines mid e.0 e.1 first.0 first.1 size it))
  where
    grouped : (a b c : Bool) → (a || (b || c)) ≡ ((a || b) || c)
    grouped true b c = refl
    grouped false b c = refl

-- ---- the groups

-- the lowest lines of a page's path, over lines
pub path_step : (g : Shape) (mark : Mark) (marks : List Mark) (page grouped : ℕ) (path : List (ℕ × Line)) (lines mid : List Line)
    → g.levels ≤ 6 → IsPathOf g page path → length mid ≡ device_lines g
    → IsDeviceStep g mark marks none_written (λ x. new_line path (level_of x)) lines mid
    → IsDeviceStep g mark marks (is_grouped g page grouped) (λ x. new_line path (level_of x)) lines
    (redone (path_entries g grouped path) mid)
path_step g mark marks page grouped path lines mid few its size it =
    written_same g mark marks (is_entered (drop (path_length g - grouped) path)) (is_grouped g page grouped)
    (λ x. new_line path (level_of x)) lines (redone (path_entries g grouped path) mid) (λ x. sym (entered_is g page path few its grouped x))
    (with_lines g mark marks none_written (λ x. new_line path (level_of x)) lines mid (drop (path_length g - grouped) path)
    (entries_on_path g page path few its grouped) size it)

-- a reseal's
pub entries_step : (g : Shape) (next : NextSeal) (marks : List Mark) (entry : ℕ → Line) (lines : List Line)
    → AreLinesOf (device_lines g) lines → next.at < data_lines g → length next.tag ≡ 16
    → next.tag_line ≡ with_tag (line_at lines (tag_line g next.at)) next.at next.tag
    → IsDeviceStep g (Seal next.at next.ctr next.cipher next.tag) marks none_written entry lines
    (redone (entries_of g next) lines)
entries_step g next marks entry lines whole within long tags =
    subst
    (λ (tag_line : Line). IsDeviceStep g (Seal next.at next.ctr next.cipher next.tag) marks none_written entry lines
    (redone (entries_of g (record next { tag_line = tag_line })) lines))
    (sym tags)
    (seal_step g marks next.at next.ctr next.cipher next.tag entry lines
    (record { whole = whole; its_line = within; its_tag = long }))

-- a seal's, over lines whose tag line has its tag put in
pub seal_group_step : (g : Shape) (next : NextSeal) (marks : List Mark) (grouped : ℕ) (path : List (ℕ × Line)) (lines : List Line)
    → g.levels ≤ 6 → IsPathOf g (page_of next.at) path → AreLinesOf (device_lines g) lines → next.at < data_lines g
    → length next.tag ≡ 16 → next.tag_line ≡ with_tag (line_at lines (tag_line g next.at)) next.at next.tag
    → IsDeviceStep g (Seal next.at next.ctr next.cipher next.tag) marks (is_grouped g (page_of next.at) grouped)
    (λ x. new_line path (level_of x)) lines (redone (seal_group g next grouped path) lines)
seal_group_step g next marks grouped path lines few its whole within long tags =
    path_step g (Seal next.at next.ctr next.cipher next.tag) marks (page_of next.at) grouped path lines
    (redone (entries_of g next) lines) few its
    (length-set (slice_set lines next.at next.cipher) (tag_line g next.at) next.tag_line ∙ length-set lines next.at next.cipher ∙ whole.count)
    (entries_step g next marks (λ x. new_line path (level_of x)) lines whole within long tags)

-- a begin's
pub begin_group_step : (g : Shape) (marks : List Mark) (page : ℕ) (path : List (ℕ × Line)) (lines : List Line)
    → g.levels ≤ 6 → IsPathOf g page path → AreLinesOf (device_lines g) lines
    → IsDeviceStep g (Begin page) marks (is_grouped g page (begun_lines g)) (λ x. new_line path (level_of x)) lines
    (redone (begin_group g path) lines)
begin_group_step g marks page path lines few its whole =
    path_step g (Begin page) marks page (begun_lines g) path lines lines few its whole.count
    (begin_step g marks page (λ x. new_line path (level_of x)) lines)
