-- A path is named in the shadow tables, from the top down: what stays sound, and which lines change.
use Rattle.std.proofs.Common.{rules, ℕ, zero, suc, ◌≡◌, ◌<◌, ◌≤◌, ◌+◌, ◌^◌, true, false, List, [], ◌∷◌, length, refl, sym, ap, subst, subst₂, ◌∙◌, arith}
use Rattle.std.specs.Prelude.{All}
use Rattle.pmem_base.specs.declared.lines.Line.{Line}
use Rattle.pmem_base.specs.declared.registers.Regs.{Regs}
use Rattle.pmem_base.specs.Shape.{Shape, named_levels}
use Rattle.pmem_base.specs.Layout as layout
use Rattle.pmem_base.specs.Layout.{slots, shadow_lines, shadow_line, meta_lines, data_lines}
use Rattle.pmem_base.specs.Lines.{IsLine, line_at, put_lines}
use Rattle.pmem_base.proofs.LineSets.{put_lines-append}
use Rattle.pmem_base.proofs.LineLemmas.{IsLine-line_at}
use Rattle.board.proofs.LineLemmas.{AreLinesOf-set}
use Rattle.board.specs.Device.{AreLinesOf}
use Rattle.seal_ledger.specs.Ledger.{LedgerState}
use Rattle.shadow_tables.specs.Naming.{entry_line, entry_index, naming_line, with_named}
use Rattle.shadow_tables.proofs.ShadowLines.{IsLine-with_entry}
use Rattle.pmem_base.proofs.LayoutLemmas.{meta_lines-most, named-shadow, named-lazy}
use Rattle.pmem_engine.proofs.Laws.PolicyBounds.{lazy_on_path}
use Rattle.shadow_tables.proofs.NameLemmas.{Names-with_named}
use Rattle.meta_cache.specs.declared.slot.Slot.{Slot}
use Rattle.meta_cache.specs.Banks.{Banks, set_of, set_index, slot_number, IsBanksOf}
use Rattle.meta_cache.specs.State.{IsCacheOf}
use Rattle.meta_cache.proofs.SlotLemmas.{cached_slot}
use Rattle.std.specs.List.{Contains}
use Rattle.meta_path.specs.Blocks.{path_at, number_in, IsPathCached}
use Rattle.meta_path.specs.Naming.{path_number, is_slot_named, named_slot, naming_write, named_path, naming_writes}
use Rattle.meta_path.proofs.NameLemmas.{path_number_low}
use Rattle.meta_path.proofs.PathFacts.{path_at-lt}
use Rattle.suite.specs.Setup.{Setup}
use Rattle.pmem_engine.specs.Engine.{ChipState}
use Rattle.pmem_engine.specs.Invariants.{IsSound, stored_meta}
use Rattle.pmem_engine.specs.Steps.{IsPlaceKept}
use Rattle.pmem_engine.proofs.Laws.DeviceRegions.{stored_meta-set_shadow, IsPlaceKept-same, IsPlaceKept-trans, IsPlaceKept-set_shadow}
use Rattle.pmem_engine.proofs.Laws.PathSlots.{slot_number_at-own}
use Rattle.pmem_engine.proofs.Laws.NameLaws.{IsSound-named}
use Rattle.shadow_tables.proofs.EntryLemmas.{entry_index_below}

-- ---- which lines change

-- one write, where there is one
pub write_cases : (g : Shape) (shadow : List Line) (bank n x : ℕ) (P : List (ℕ × Line) → List Line → Type 0)
    → (is_slot_named g shadow bank n x ≡ true → P [] shadow)
    → (is_slot_named g shadow bank n x ≡ false
    → P ((shadow_line g (entry_line g bank n), naming_line g shadow bank n x) ∷ []) (with_named g shadow bank n x))
    → P (naming_write g shadow bank n x) (named_slot g shadow bank n x)
write_cases g shadow bank n x P named unnamed = search rules

-- no metadata line
pub meta_kept : (g : Shape) (cache : Banks) (page : ℕ) (mirror lines : List Line) (n x : ℕ) → x < meta_lines g
    → stored_meta g (put_lines (naming_writes g cache page mirror n) lines) x ≡ stored_meta g lines x
meta_kept g cache page mirror lines zero x within = refl
meta_kept g cache page mirror lines (suc n) x within =
    ap (λ z. stored_meta g z x)
    (put_lines-append (naming_writes g cache page mirror n)
    (naming_write g (named_path g cache page mirror n) n (path_number g cache page n) (path_at g page n)) lines)
    ∙ write_cases g (named_path g cache page mirror n) n (path_number g cache page n) (path_at g page n)
    (λ writes shadow. stored_meta g (put_lines writes (put_lines (naming_writes g cache page mirror n) lines)) x
    ≡ stored_meta g (put_lines (naming_writes g cache page mirror n) lines) x)
    (λ is. refl)
    (λ is.
    stored_meta-set_shadow g (put_lines (naming_writes g cache page mirror n) lines)
    (entry_line g n (path_number g cache page n))
    (naming_line g (named_path g cache page mirror n) n (path_number g cache page n) (path_at g page n)) x within)
    ∙ meta_kept g cache page mirror lines n x within

-- no data line, and no tag
pub place_kept : (g : Shape) (cache : Banks) (page : ℕ) (mirror lines : List Line) (n a : ℕ) → a < data_lines g
    → IsPlaceKept g lines (put_lines (naming_writes g cache page mirror n) lines) a
place_kept g cache page mirror lines zero a within = IsPlaceKept-same g lines a
place_kept g cache page mirror lines (suc n) a within =
    subst (λ z. IsPlaceKept g lines z a)
    (sym (put_lines-append (naming_writes g cache page mirror n)
    (naming_write g (named_path g cache page mirror n) n (path_number g cache page n) (path_at g page n)) lines))
    (IsPlaceKept-trans g lines (put_lines (naming_writes g cache page mirror n) lines)
    (put_lines (naming_write g (named_path g cache page mirror n) n (path_number g cache page n) (path_at g page n))
    (put_lines (naming_writes g cache page mirror n) lines)) a
    (place_kept g cache page mirror lines n a within)
    (write_cases g (named_path g cache page mirror n) n (path_number g cache page n) (path_at g page n)
    (λ writes shadow. IsPlaceKept g (put_lines (naming_writes g cache page mirror n) lines)
    (put_lines writes (put_lines (naming_writes g cache page mirror n) lines)) a)
    (λ is. IsPlaceKept-same g (put_lines (naming_writes g cache page mirror n) lines) a)
    (λ is.
    IsPlaceKept-set_shadow g (put_lines (naming_writes g cache page mirror n) lines)
    (entry_line g n (path_number g cache page n))
    (naming_line g (named_path g cache page mirror n) n (path_number g cache page n) (path_at g page n)) a within)))

-- ---- the copy of the shadow lines

pub record IsMirror (g : Shape) (mirror : List Line) : Type 0 where
  pub long : length mirror ≡ shadow_lines g
  pub whole : All IsLine mirror

naming_line-whole : (g : Shape) (mirror : List Line) (bank n x : ℕ) → All IsLine mirror → IsLine (naming_line g mirror bank n x)
naming_line-whole g mirror bank n x whole =
    IsLine-with_entry (line_at mirror (entry_line g bank n)) (entry_index g bank n) (x + 1)
    (IsLine-line_at mirror (entry_line g bank n) whole) (entry_index_below g bank n)

pub named_mirror : (g : Shape) (cache : Banks) (page : ℕ) (mirror : List Line) (n : ℕ) → IsMirror g mirror
    → IsMirror g (named_path g cache page mirror n)
named_mirror g cache page mirror zero it = it
named_mirror g cache page mirror (suc n) it =
    let before = named_mirror g cache page mirror n it in
    write_cases g (named_path g cache page mirror n) n (path_number g cache page n) (path_at g page n)
    (λ writes shadow. IsMirror g shadow) (λ is. before)
    (λ is.
    let lines : AreLinesOf (shadow_lines g)
    (with_named g (named_path g cache page mirror n) n (path_number g cache page n) (path_at g page n)) =
    AreLinesOf-set (shadow_lines g) (named_path g cache page mirror n) (entry_line g n (path_number g cache page n))
    (naming_line g (named_path g cache page mirror n) n (path_number g cache page n) (path_at g page n))
    (record { count = before.long; each = before.whole })
    (naming_line-whole g (named_path g cache page mirror n) n (path_number g cache page n) (path_at g page n) before.whole) in
    record { long = lines.count; whole = lines.each })

-- ---- sound

module _ (setup : Setup) (page : ℕ) (engine : ChipState) (lines : List Line) (regs : Regs) (ledger : LedgerState)
    (its_page : page < layout.pages setup.shape) (few_levels : setup.shape.levels ≤ 6) (some_sets : 1 ≤ setup.shape.sets)
    (cache_form : IsCacheOf setup.shape engine.cache) (form : IsBanksOf setup.shape engine.cache)
    (cached : IsPathCached setup.shape engine.cache page) (its_mirror : IsMirror setup.shape engine.mirror) where
  -- the engine and the device once the path's first n blocks are named
  abbrev engine_at : ℕ → ChipState
  engine_at n =
      record {
        shape = engine.shape;
        cache = engine.cache;
        mirror = named_path setup.shape engine.cache page engine.mirror n;
      }

  abbrev lines_at : ℕ → List Line
  lines_at n = put_lines (naming_writes setup.shape engine.cache page engine.mirror n) lines

  abbrev IsSoundAt : ℕ → Type 0
  IsSoundAt n = IsSound setup (engine_at n) (lines_at n) regs ledger

  -- with these shadow lines, after these writes
  abbrev IsSoundWith : ℕ → List (ℕ × Line) → List Line → Type 0
  IsSoundWith n writes shadow =
      IsSound setup (record { shape = engine.shape; cache = engine.cache; mirror = shadow })
      (put_lines writes (lines_at n)) regs ledger

  one_named : (n : ℕ) → n < named_levels setup.shape → IsSoundAt n
      → IsSoundWith n
      ((
        shadow_line setup.shape (entry_line setup.shape n (path_number setup.shape engine.cache page n)),
        naming_line setup.shape (engine_at n).mirror n (path_number setup.shape engine.cache page n) (path_at setup.shape page n),
      ) ∷ [])
      (with_named setup.shape (engine_at n).mirror n (path_number setup.shape engine.cache page n) (path_at setup.shape page n))
  one_named n named sound =
      subst₂ (λ k y. IsSoundWith n ((shadow_line g (entry_line g n k), naming_line g mirror n k y) ∷ []) (with_named g mirror n k y))
      (sym its_number) slot.2
      (IsSound-named setup (engine_at n)
      (record { shape = engine.shape; cache = engine.cache; mirror = with_named g mirror n number slot.0.position })
      (lines_at n) regs ledger n (set_index g x) slot.0 (naming_line g mirror n number slot.0.position) sound form slot.1
      (Names-with_named g mirror n number slot.0.position (named-shadow g n named) low
      (subst (λ k. k < slots g) its_number
      (path_number_low g (record { shape = g; banks = engine.cache }) page some_sets refl cache_form cached n low))
      now.long now.whole
      (subst (λ y. y + 1 < 2 ^ 32) (sym slot.2)
      (omega (arith, path_at-lt g page n its_page low, meta_lines-most g few_levels))))
      (naming_line-whole g mirror n number slot.0.position now.whole)
      (record { mirror = refl; shape = refl; cache = refl }))
    where
      g : Shape
      g = setup.shape

      low : n ≤ setup.shape.levels
      low = lazy_on_path setup.shape n (named-lazy setup.shape n named)

      x : ℕ
      x = path_at setup.shape page n

      mirror : List Line
      mirror = (engine_at n).mirror

      now : IsMirror setup.shape mirror
      now = named_mirror setup.shape engine.cache page engine.mirror n its_mirror

      slot : (s : Slot) × Contains (set_of engine.cache n (set_index setup.shape x)) s × (s.position ≡ x)
      slot = cached_slot setup.shape engine.cache n x (cached.each n low)

      number : ℕ
      number = slot_number setup.shape (set_index setup.shape x) slot.0

      its_number : path_number setup.shape engine.cache page n ≡ number
      its_number =
          ap (number_in setup.shape engine.cache n) (sym slot.2)
          ∙ slot_number_at-own setup.shape engine.cache n (set_index setup.shape x) slot.0 form
          (ap (set_index setup.shape) slot.2) slot.1

  -- Sound stays at each level
  pub sound_at : IsSound setup engine lines regs ledger → (n : ℕ) → n ≤ named_levels setup.shape → IsSoundAt n
  sound_at sound zero within = sound
  sound_at sound (suc n) within =
      let before = sound_at sound n (omega (arith, within)) in
      subst (λ z. IsSound setup (engine_at (suc n)) z regs ledger)
      (sym (put_lines-append (naming_writes setup.shape engine.cache page engine.mirror n)
      (naming_write setup.shape (engine_at n).mirror n (path_number setup.shape engine.cache page n) (path_at setup.shape page n)) lines))
      (write_cases setup.shape (engine_at n).mirror n (path_number setup.shape engine.cache page n) (path_at setup.shape page n)
      (IsSoundWith n) (λ is. before) (λ is. one_named n (omega (arith, within)) before))
