-- A page's new path stored in the cache: the slots and their order of use stay, and off the path the lines and marks.
use Rattle.std.proofs.Common.{rules, ℕ, ◌≡◌, ◌+◌, Bool, List, [], ◌∷◌, map, refl, ◌∙◌}
use Rattle.std.proofs.lemmas.Bool.{cases_eq, cases_lt}
use Rattle.pmem_base.specs.declared.lines.Line.{Line}
use Rattle.pmem_base.specs.Shape.{Shape}
use Rattle.meta_cache.specs.declared.slot.Slot.{Slot}
use Rattle.meta_cache.specs.Banks.{Banks, IsBanksOf}
use Rattle.meta_cache.specs.Sets.{with_slot_line, with_mark}
use Rattle.meta_cache.specs.State.{CacheState}
use Rattle.meta_path.specs.Blocks.{IsPathCached}
use Rattle.meta_path.specs.Storing.{stored_set, IsStoredTo, IsPathOf, KeepsSlots}
use Rattle.pmem_engine.specs.CallFacts.{masked, KeepsButPath}
use Rattle.pmem_engine.specs.Sealing.{HasStoredPath}

-- another line in a position's slot isn't seen where that position is masked
masked_line : (slots : List Slot) (x : ℕ) (line : Line) → map (masked x) (with_slot_line slots x line) ≡ map (masked x) slots
unfolding with_slot_line
masked_line [] x line = refl
masked_line (slot ∷ slots) x line = search (rules, (masked_line slots x line))

-- nor is another mark
masked_mark : (slots : List Slot) (x : ℕ) (dirty : Bool) → map (masked x) (with_mark slots x dirty) ≡ map (masked x) slots
unfolding with_mark
masked_mark [] x dirty = refl
masked_mark (slot ∷ slots) x dirty = search (rules, (masked_mark slots x dirty))

pub masked_stored : (slots : List Slot) (x : ℕ) (line : Line) (dirty : Bool)
    → map (masked x) (stored_set slots x line dirty) ≡ map (masked x) slots
masked_stored slots x line dirty = masked_mark (with_slot_line slots x line) x dirty ∙ masked_line slots x line

-- a cache that stays
pub kept_same : (g : Shape) (page : ℕ) (old new : Banks) → new ≡ old → KeepsButPath g page old new
kept_same g page old new same bank set = search rules

pub kept_but_path : (g : Shape) (page : ℕ) (grouped : ℕ) (lines : List (ℕ × Line)) (old new : CacheState)
    → IsStoredTo g page grouped lines (g.levels + 1) old new → KeepsButPath g page old.banks new.banks
kept_but_path g page grouped lines old new it bank set = search (rules, cases_eq, cases_lt, masked_stored)

-- what storing a path makes of the cache, as the engine says it
pub stored_path : (g : Shape) (page : ℕ) (grouped : ℕ) (lines : List (ℕ × Line)) (old new : CacheState) (mirror : List Line)
    → old.shape ≡ g → new.shape ≡ old.shape → IsPathOf g page lines → IsPathCached g old.banks page
    → IsBanksOf old.shape old.banks → IsBanksOf new.shape new.banks
    → (IsPathOf old.shape page lines → IsStoredTo old.shape page grouped lines (old.shape.levels + 1) old new)
    → (IsPathOf old.shape page lines → KeepsSlots old.shape page grouped lines old.banks new.banks)
    → (IsPathCached old.shape old.banks page → IsPathCached old.shape new.banks page)
    → HasStoredPath g page grouped lines (record { shape = g; cache = old.banks; mirror = mirror })
    (record { shape = g; cache = new.banks; mirror = mirror })
stored_path g page grouped lines old new mirror its_shape same path cached before after stored slots still = search (rules, kept_but_path)
