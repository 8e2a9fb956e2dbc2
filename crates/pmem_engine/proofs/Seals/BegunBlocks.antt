-- A begun page's counter block as it is cached: the one that follows, whether the cache is trusted or not.
use Rattle.std.proofs.Common.{rules, ℕ, zero, suc, ◌≡◌, ◌<◌, ◌-◌, ◌^◌, List, [], ◌∷◌, length, refl, sym, ap, ◌∙◌, arith}
use Rattle.std.specs.Prelude.{option_map, unwrap_or, Contains}
use Rattle.std.proofs.lemmas.List.{length-append, get_or_at}
use Rattle.pmem_base.specs.declared.lines.Line.{Line}
use Rattle.pmem_base.specs.Shape.{Shape}
use Rattle.pmem_base.specs.Lines.{zero_line}
use Rattle.suite.specs.Formulas.{Formulas}
use Rattle.split_counters.specs.Blocks.{packed, unpacked, next_block}
use Rattle.split_counters.proofs.Packing.{unpacked-packed, next_block-IsBlock}
use Rattle.bonsai_tree.specs.Positions.{parent, counter_position}
use Rattle.bonsai_tree.specs.Paths.{node_above, new_path, path_with}
use Rattle.bonsai_tree.proofs.PathPositions.{path_of-block}
use Rattle.meta_cache.specs.declared.slot.Slot.{Slot}
use Rattle.meta_cache.specs.Banks.{set_of, set_index, is_cached}
use Rattle.meta_cache.specs.Sets.{slot_with}
use Rattle.meta_cache.proofs.SlotLemmas.{cached_slot, slot_with-is}
use Rattle.meta_path.specs.Blocks.{line_in}
use Rattle.meta_path.specs.Storing.{new_line}
use Rattle.meta_path.specs.Storing as storing
use Rattle.plain_model.specs.Bounds.{path_length, begun_lines}
use Rattle.pmem_engine.specs.Engine.{ChipState}
use Rattle.pmem_engine.specs.Inner.{cached_block}
use Rattle.pmem_engine.specs.Sealing.{HasStoredPath}

length-new_path : (f : Formulas) (old : ℕ → Line) (j x : ℕ) (line : Line) → length (new_path f old j x line) ≡ suc j
length-new_path f old zero x line = refl
length-new_path f old (suc j) x line =
    let all = length-append (new_path f old j (parent x) (node_above f old x line)) ((x, line) ∷ []) in
    let above = length-new_path f old j (parent x) (node_above f old x line) in
    omega (arith, all, above)

pub length-path_with : (g : Shape) (f : Formulas) (old : ℕ → Line) (page : ℕ) (block : Line)
    → length (path_with g f old page block) ≡ path_length g
unfolding path_with
length-path_with g f old page block =
    let all = length-new_path f old g.levels (counter_position g page) block in omega (arith, all)

-- the last line of a new path is the counter block's
last_line : (f : Formulas) (old : ℕ → Line) (j x : ℕ) (line : Line) → new_line (new_path f old j x line) j ≡ line
last_line f old j x line = search (rules, get_or_at, length-new_path)

path_last : (g : Shape) (f : Formulas) (old : ℕ → Line) (page : ℕ) (block : Line)
    → new_line (path_with g f old page block) g.levels ≡ block
unfolding path_with
path_last g f old page block = last_line f old g.levels (counter_position g page) block

-- the page's counter block as it is cached once its path is stored
pub stored_block : (g : Shape) (f : Formulas) (was : ℕ → Line) (page : ℕ) (grouped : ℕ) (block : Line) (lines : List (ℕ × Line))
    (old new : ChipState) → HasStoredPath g page grouped lines old new → lines ≡ path_with g f was page block
    → line_in g new.cache g.levels (counter_position g page) ≡ block
stored_block g f was page grouped block lines old new it is =
    at (cached_slot g new.cache g.levels (counter_position g page)
    (ap (is_cached g new.cache g.levels) (sym (path_of-block g page)) ∙ it.cached.each g.levels (omega arith)))
  where
    line_of : (slot : Slot) → slot.position ≡ counter_position g page
        → (before : Slot) × Contains (set_of old.cache g.levels (set_index g (counter_position g page))) before
        × storing.IsStoredSlot g page grouped lines g.levels before slot
        → slot.line ≡ block
    line_of slot its (before, stood, stored) =
        stored.line (omega arith) (its ∙ sym (path_of-block g page))
        ∙ ap (λ xs. new_line xs g.levels) is ∙ path_last g f was page block

    at : (slot : Slot) × Contains (set_of new.cache g.levels (set_index g (counter_position g page))) slot
        × (slot.position ≡ counter_position g page)
        → line_in g new.cache g.levels (counter_position g page) ≡ block
    at (slot, stands, its) =
        ap (λ found. unwrap_or (option_map (λ s. s.line) found) zero_line)
        (ap (slot_with (set_of new.cache g.levels (set_index g (counter_position g page)))) (sym its)
        ∙ slot_with-is (set_of new.cache g.levels (set_index g (counter_position g page))) slot
        (it.banks.distinct_positions g.levels (set_index g (counter_position g page))) stands)
        ∙ line_of slot its (it.slots.slots_now g.levels (set_index g (counter_position g page)) slot stands)

-- so it is the next one
pub rolled_block : (g : Shape) (f : Formulas) (was : ℕ → Line) (page : ℕ) (lines : List (ℕ × Line)) (old new : ChipState)
    → HasStoredPath g page (begun_lines g) lines old new → (cached_block g old page).major < 2 ^ 64 - 1
    → lines ≡ path_with g f was page (packed (next_block (cached_block g old page)))
    → cached_block g new page ≡ next_block (cached_block g old page)
rolled_block g f was page lines old new it major is =
    ap unpacked (stored_block g f was page (begun_lines g) (packed (next_block (cached_block g old page))) lines old new it is)
    ∙ unpacked-packed (next_block (cached_block g old page)) (next_block-IsBlock (cached_block g old page) major)
