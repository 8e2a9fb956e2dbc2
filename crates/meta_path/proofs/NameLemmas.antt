-- Blocks of a path are named, level by level.
use Rattle.std.proofs.Common.{rules, ◌≡◌, ℕ, zero, suc, ◌+◌, ◌<◌, ◌≤◌, Bool, true, false, cond, List, [], ◌∷◌, ◌++◌, length, refl, sym, ap, subst, ◌∙◌, inl, inr, arith, mod-lt, Option, Some, None, Result, Ok, Err}
use Rattle.std.specs.Prelude.{◌↔◌, IsNone, OnErr, option_map, unwrap_or, is_some}
use Rattle.std.proofs.lemmas.Bool.{cases_eq, eq-eqb, false≢true, both_ways}
use Rattle.std.proofs.lemmas.List.{length-append}
use Rattle.pmem_base.proofs.LayoutLemmas.{number_low}
use Rattle.pmem_base.specs.declared.lines.Line.{Line}
use Rattle.pmem_base.specs.Counts.{HasRisen}
use Rattle.pmem_base.specs.Shape.{Shape, named_levels}
use Rattle.pmem_base.specs.Layout.{slots, shadow_line}
use Rattle.board.specs.Counts.{RisesBy}
use Rattle.board.proofs.CountLemmas.{HasRisen-once}
use Rattle.board.specs.Device.{Device}
use Rattle.board.specs.Steps.{WasCut}
use Rattle.call_plan.specs.Plans.{the_cut}
use Rattle.call_plan.specs.Following.{Follows}
use Rattle.shadow_tables.specs.Entries.{slot_entry}
use Rattle.shadow_tables.specs.Naming.{entry_line, naming_line, Names}
use Rattle.meta_cache.specs.declared.slot.Slot.{Slot}
use Rattle.meta_cache.specs.Banks.{Banks, set_index, slot_number, is_cached}
use Rattle.meta_cache.specs.Sets.{slot_with, IsSetOf}
use Rattle.meta_cache.specs.State.{CacheState, slots_of, IsCacheOf}
use Rattle.meta_cache.proofs.SetLemmas.{is_some-slot_with}
use Rattle.meta_cache.proofs.FormLemmas.{way_low}
use Rattle.meta_path.specs.Blocks.{path_at, slots_at, number_in, IsPathCached}
use Rattle.meta_path.specs.Work.{HasWorked}
use Rattle.meta_path.specs.Naming.{path_number, is_slot_named, named_slot, naming_write, named_path, naming_writes, ArePathEntries, IsNamedTo, IsNamingCut}
use Rattle.meta_path.specs.Plans.{slot_plan}
use Rattle.meta_path.proofs.NamePlans.{slot_named, slot_stopped}
use Rattle.meta_path.proofs.WorkLemmas.{not_steady, HasWorked-then}

-- ---- one slot

pub unnamed : {W : Type 0} (g : Shape) (shadow : List Line) (bank n x : ℕ) (answer : Option W) (write : W) → answer ≡ Some write
    → (IsNone answer ↔ (slot_entry g shadow bank n ≡ x + 1)) → is_slot_named g shadow bank n x ≡ false
unnamed g shadow bank n x answer write is already = search rules

-- what an answer that is an error has
pub on_err : {X E : Type 0} (answer : Result X E) (P : Type 0) → P → OnErr answer P
on_err (Ok value) P holds = tt
on_err (Err e) P holds = holds

-- ---- the path's slots, level by level

module _ {g : Shape} {banks : Banks} {page n : ℕ} {old_mirror mid_mirror new_mirror : List Line} {old mid : Device}
    (low : (j : ℕ) → j ≤ n → path_number g banks page j < slots g)
    (before : IsNamedTo g banks page n old_mirror mid_mirror old mid)
    (names : Names g mid_mirror new_mirror n (path_number g banks page n) (path_at g page n)) where
  -- one entry more
  entries_more : ArePathEntries g banks page (n + 1) old_mirror new_mirror
  entries_more =
      record {
        named = λ j h.
            elim (cases_eq j n) [
              | inl same ↦
                  subst (λ k. slot_entry g new_mirror k (path_number g banks page k) ≡ path_at g page k + 1) (sym same) names.entry
              | inr other ↦
                  names.others j _ (low j (omega arith)) (λ e. other e.0)
                  ∙ before.entries.named j (omega arith)
            ];
        others =
            λ bank m h apart.
            names.others bank m h (λ e. apart (omega (arith, e.0), e.1 ∙ ap (path_number g banks page) (sym e.0)))
            ∙ before.entries.others bank m h (λ e. apart (omega (arith, e.0), e.1));
      }

  mirror_more : new_mirror ≡ named_slot g mid_mirror n (path_number g banks page n) (path_at g page n)
      → new_mirror ≡ named_path g banks page old_mirror (n + 1)
  mirror_more is =
      let next : suc n ≡ n + 1 = omega arith in
      is ∙ ap (λ shadow. named_slot g shadow n (path_number g banks page n) (path_at g page n)) before.mirror
      ∙ ap (named_path g banks page old_mirror) next

  pub IsNamedTo-more : {new : Device} → Follows (slot_plan g n (path_number g banks page n) (path_at g page n) mid_mirror) mid new (Ok (new_mirror, tt))
      → IsNamedTo g banks page (n + 1) old_mirror new_mirror old new
  IsNamedTo-more {new} it =
      let level = slot_named g n _ _ mid_mirror mid new_mirror new it in
      let next : suc n ≡ n + 1 = omega arith in
      record {
        mirror = mirror_more level.0;
        entries = entries_more;
        work =
            subst (λ k. HasWorked 0 (naming_writes g banks page old_mirror k) old new) next (subst (λ shadow. HasWorked 0
            (naming_writes g banks page old_mirror n ++ naming_write g shadow n (path_number g banks page n) (path_at g page n))
            old new) before.mirror (HasWorked-then 0 0 _ _ old mid new before.work level.1));
      }

  pub IsNamingCut-at : {new : Device} → n < named_levels g
      → Follows (slot_plan g n (path_number g banks page n) (path_at g page n) mid_mirror) mid new (Err (new_mirror, the_cut))
      → IsNamingCut g banks page old_mirror new_mirror old new
  IsNamingCut-at {new} le it =
      let level = slot_stopped g n _ _ mid_mirror mid new_mirror the_cut new it in
      let cut : WasCut mid new = level.2 in
      record {
        n = n;
        on_path = le;
        mirror = mirror_more level.0;
        entries = entries_more;
        unnamed = λ e.
            both_ways _ level.1 (eq-eqb _ _ (before.entries.others n _ (low n (omega arith)) (λ h. omega (arith, h.0)) ∙ e));
        lines = cut.lines ∙ before.work.lines;
        writes = subst (RisesBy (length _) old.writes) (sym cut.writes) before.work.writes;
        unsteady = not_steady before.work.steady cut.unsteady;
        off = cut.off;
        never_falls = omega (arith, cut.cuts.never_falls, before.work.cuts);
        rose = subst (λ count. HasRisen count new.cuts) before.work.cuts (HasRisen-once cut.cuts);
        size = cut.size ∙ before.work.size;
        regs = cut.regs ∙ before.work.regs;
        reads = cut.reads ∙ before.work.no_read refl;
        latches = cut.latches ∙ before.work.latches;
      }

-- at most one write a level
pub length-naming_writes : (g : Shape) (banks : Banks) (page : ℕ) (shadow : List Line) (n : ℕ)
    → length (naming_writes g banks page shadow n) ≤ n
length-naming_writes g banks page shadow zero = omega arith
length-naming_writes g banks page shadow (suc n) =
    omega (
      arith,
      length-append (naming_writes g banks page shadow n)
          (naming_write g (named_path g banks page shadow n) n (path_number g banks page n) (path_at g page n)),
      length-naming_writes g banks page shadow n,
      at_most_one (is_slot_named g (named_path g banks page shadow n) n (path_number g banks page n) (path_at g page n))
          (shadow_line g (entry_line g n (path_number g banks page n)))
          (naming_line g (named_path g banks page shadow n) n (path_number g banks page n) (path_at g page n)),
    )
  where
    at_most_one : (test : Bool) (at : ℕ) (line : Line) → length {A = ℕ × Line} (cond test [] ((at, line) ∷ [])) ≤ 1
    at_most_one true at line = omega arith
    at_most_one false at line = omega arith

-- ---- the number of a slot

pub number_is : (g : Shape) (cache : CacheState) (bank x n : ℕ) → cache.shape ≡ g
    → option_map (slot_number cache.shape (set_index cache.shape x)) (slot_with (slots_of cache bank x) x) ≡ Some n
    → number_in g cache.banks bank x ≡ n
number_is g cache bank x n its is = search rules

pub number_in_low : (g : Shape) (banks : Banks) (bank x : ℕ) → 1 ≤ g.sets → IsSetOf g (set_index g x) (slots_at g banks bank x)
    → is_cached g banks bank x ≡ true → number_in g banks bank x < slots g
number_in_low g banks bank x some form cached =
    by (slot_with (slots_at g banks bank x) x) refl
    (is_some-slot_with (slots_at g banks bank x) x ∙ cached)
  where
    by : (found : Option Slot) → slot_with (slots_at g banks bank x) x ≡ found → is_some found ≡ true
        → unwrap_or (option_map (slot_number g (set_index g x)) found) 0 < slots g
    by None is there = absurd (false≢true there)
    by (Some slot) is there =
        number_low g.sets g.ways (set_index g x) slot.way (mod-lt x (omega (arith, some)))
        (way_low g (set_index g x) (slots_at g banks bank x) x slot.way form
        (ap (λ found. option_map (λ (s : Slot). s.way) found) is))

pub path_number_low : (g : Shape) (cache : CacheState) (page : ℕ) → 1 ≤ g.sets → cache.shape ≡ g
    → IsCacheOf cache.shape cache.banks → IsPathCached g cache.banks page
    → (j : ℕ) → j ≤ g.levels → path_number g cache.banks page j < slots g
path_number_low g cache page some its form cached j le = search (rules, number_in_low)
