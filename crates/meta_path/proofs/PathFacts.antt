-- Positions of a page's path, and what earlier levels leave to later ones.
use Rattle.std.proofs.Common.{rules, ◌≡◌, ◌≢◌, ℕ, zero, suc, ◌+◌, ◌<◌, ◌≤◌, true, false, List, [], ◌∷◌, get_or, replicate, refl, sym, ap, ◌∙◌, ◌⊎◌, inl, inr, arith, Option, Some, None}
use Rattle.std.specs.Prelude.{◌==◌, All, Contains}
use Rattle.std.proofs.lemmas.Bool.{cases_Bool, cases_lt, cond-true, cond-false, eq-eqb, or_left}
use Rattle.std.proofs.lemmas.List.{length-replicate, get_or-replicate, get_or_past}
use Rattle.std.proofs.lemmas.List.Elements.{All-head, All-tail, All-nil, All-append, All-contains}
use Rattle.pmem_base.specs.declared.lines.Line.{Line}
use Rattle.pmem_base.specs.Shape.{Shape}
use Rattle.pmem_base.specs.Layout.{pages, meta_lines, meta_line}
use Rattle.pmem_base.specs.Lines.{line_at, put_lines}
use Rattle.board.specs.Steps.{Tells}
use Rattle.commit_regs.specs.Groups.{redone_told}
use Rattle.bonsai_tree.specs.Positions.{parent, level_of}
use Rattle.bonsai_tree.proofs.Levels.{level_of-at, level_start-suc, meta_lines-level, level_start-le}
use Rattle.pmem_base.proofs.LineSets.{line_at-set_other}
use Rattle.bonsai_tree.proofs.PathPositions.{path_of-IsAtLevel, path_of-parent}
use Rattle.meta_cache.specs.declared.slot.Slot.{Slot}
use Rattle.meta_cache.specs.Banks.{Banks, set_of, set_index, is_cached}
use Rattle.meta_cache.specs.State.{empty_banks}
use Rattle.meta_cache.proofs.CacheLemmas.{set_of-get_or}
use Rattle.meta_cache.specs.Sets.{holds, touched, placed, victim_of, IsSetOf}
use Rattle.meta_path.specs.Blocks.{path_at, slots_at, IsOfItsBank, AreInTheirBanks}
use Rattle.meta_path.specs.Levels.{level_write, fetched_set}
use Rattle.meta_path.specs.Fetching.{spilled}
use Rattle.meta_path.proofs.SetFacts.{holds_slot, slot_held, contains_touched, victim_contained}

-- ---- positions

pub path_at-level : (g : Shape) (page j : ℕ) → page < pages g → g.levels ≤ 6 → j ≤ g.levels → level_of (path_at g page j) ≡ j
path_at-level g page j inside few le =
    level_of-at j (path_at g page j) (omega (arith, few, le)) (path_of-IsAtLevel g page j inside le)

pub path_at-lt : (g : Shape) (page j : ℕ) → page < pages g → j ≤ g.levels → path_at g page j < meta_lines g
path_at-lt g page j inside le = search (rules, path_of-IsAtLevel, level_start-le, meta_lines-level)

pub path_at-below : (g : Shape) (page j : ℕ) → page < pages g → suc j ≤ g.levels → 1 ≤ path_at g page (suc j)
path_at-below g page j inside le = search (rules, path_of-IsAtLevel, level_start-suc)

pub path_at-parent : (g : Shape) (page j : ℕ) → suc j ≤ g.levels → parent (path_at g page (suc j)) ≡ path_at g page j
path_at-parent g page j le = path_of-parent g page j (omega arith)

-- the position that the code reads is the path's
pub position_is : (path items : List ℕ) (place bank : ℕ) → items ≡ path → place ≡ bank
    → get_or items place 0 ≡ get_or path bank 0
position_is path items place bank same at = ap (λ (xs : List ℕ). get_or xs place 0) same ∙ ap (λ k. get_or path k 0) at

-- a loop over all levels has come to its end
pub all_levels : (levels bank end : ℕ) → end ≡ levels → bank ≤ end + 1 → end + 1 ≤ bank → bank ≡ levels + 1
all_levels levels bank end same le more = omega arith

-- ---- what is written and read

pub put_lines-elsewhere : (entries : List (ℕ × Line)) (lines : List Line) (at : ℕ)
    → All (λ entry. entry.0 ≢ at) entries → line_at (put_lines entries lines) at ≡ line_at lines at
put_lines-elsewhere [] lines at apart = refl
put_lines-elsewhere (entry ∷ entries) lines at apart =
    put_lines-elsewhere entries _ at (All-tail (λ (e : ℕ × Line). e.0 ≢ at) entry entries apart)
    ∙ line_at-set_other lines entry.0 at entry.1 (λ e. All-head (λ (e : ℕ × Line). e.0 ≢ at) entry entries apart (sym e))

-- what is told of a place after writes elsewhere was told before
pub Tells-before : (entries : List (ℕ × Line)) (told : Option (List Line)) (at : ℕ) (line : Line)
    → All (λ entry. entry.0 ≢ at) entries → Tells (redone_told entries told) at line → Tells told at line
Tells-before entries None at line apart tells = tt
Tells-before entries (Some lines) at line apart tells = tells ∙ put_lines-elsewhere entries lines at apart

-- what holds of the write of a dirty block to give way holds of all writes of its level
pub level_write-all : (P : ℕ × Line → Type 0) (g : Shape) (banks : Banks) (bank x : ℕ)
    → ((victim : Slot) → victim_of g.ways (slots_at g banks bank x) ≡ Some victim → victim.dirty ≡ true
    → is_cached g banks bank x ≡ false → P (meta_line g victim.position, victim.line))
    → All P (level_write g banks bank x)
level_write-all P g banks bank x each = search (rules, cases_Bool)

-- a slot of a bank
pub its_bank_of : (g : Shape) (banks : Banks) (bank set : ℕ) (slot : Slot) → AreInTheirBanks g banks
    → Contains (set_of banks bank set) slot → IsOfItsBank g bank slot
its_bank_of g banks bank set slot its stands = All-contains (IsOfItsBank g bank) (set_of banks bank set) slot (its.each bank set) stands

-- how large the sets are
pub record AreSets (g : Shape) (banks : Banks) : Type 0 where
  pub each : (bank set : ℕ) → IsSetOf g set (set_of banks bank set)

-- the write-backs of the levels above level n are not at its position's place
pub spilled-apart : (g : Shape) (banks : Banks) (page n : ℕ) → page < pages g → g.levels ≤ 6 → n ≤ g.levels
    → AreSets g banks → AreInTheirBanks g banks → (m : ℕ) → m ≤ n
    → All (λ entry. entry.0 ≢ meta_line g (path_at g page n)) (spilled g banks page m)
spilled-apart g banks page n inside few le sets its zero low = All-nil (λ entry. entry.0 ≢ meta_line g (path_at g page n))
spilled-apart g banks page n inside few le sets its (suc m) low =
    All-append (λ entry. entry.0 ≢ meta_line g (path_at g page n)) _ _ (spilled-apart g banks page n inside few le sets its m (omega arith))
    (level_write-all (λ entry. entry.0 ≢ meta_line g (path_at g page n)) g banks m _
    (λ victim some dirty absent e.
    let stands : Contains (slots_at g banks m (path_at g page m)) victim =
    victim_contained g.ways (slots_at g banks m (path_at g page m)) victim (sets.each m (set_index g (path_at g page m))).room some in
    let same : victim.position ≡ path_at g page n = omega (arith, e) in
    let levels : m ≡ n =
    sym (its_bank_of g banks m (set_index g (path_at g page m)) victim its stands).its_bank
    ∙ ap level_of same ∙ path_at-level g page n inside few le in
    omega (arith, levels, low)))

-- ---- fetched sets

-- the position stands in its set once it is fetched
pub holds-fetched_set : (g : Shape) (truth : List Line) (banks : Banks) (bank x : ℕ)
    → holds (fetched_set g truth banks bank x) x ≡ true
holds-fetched_set g truth banks bank x = by_test (cases_Bool (is_cached g banks bank x))
  where
    slots : List Slot
    slots = slots_at g banks bank x

    used : is_cached g banks bank x ≡ true → holds (touched slots x) x ≡ true
    used cached =
        let found : (slot : Slot) × Contains slots slot × (slot.position ≡ x) = slot_held slots x cached in
        ap (holds (touched slots x)) (sym found.2)
        ∙ holds_slot (touched slots x) found.0 (contains_touched slots x found.0 found.1)

    by_test : (is_cached g banks bank x ≡ true) ⊎ (is_cached g banks bank x ≡ false)
        → holds (fetched_set g truth banks bank x) x ≡ true
    by_test (inl cached) =
        ap (λ set. holds set x) (cond-true (is_cached g banks bank x) (touched slots x) (placed g.ways slots x (line_at truth x)) cached)
        ∙ used cached
    by_test (inr absent) =
        ap (λ set. holds set x) (cond-false (is_cached g banks bank x) (touched slots x) (placed g.ways slots x (line_at truth x)) absent)
        ∙ or_left (x == x) _ (eq-eqb x x refl)

-- ---- an empty cache

-- no set of it has a slot
pub set_of-empty_banks : (g : Shape) (bank set : ℕ) → set_of (empty_banks g) bank set ≡ []
set_of-empty_banks g bank set =
    set_of-get_or (empty_banks g) bank set ∙ by (cases_lt bank (g.levels + 1)) (cases_lt set g.sets)
  where
    sets : List (List Slot)
    sets = replicate g.sets []

    by : (bank < g.levels + 1) ⊎ (g.levels + 1 ≤ bank) → (set < g.sets) ⊎ (g.sets ≤ set)
        → get_or (get_or (empty_banks g) bank []) set [] ≡ []
    by (inl low) (inl within) =
        ap (λ (b : List (List Slot)). get_or b set []) (get_or-replicate (g.levels + 1) bank sets [] low)
        ∙ get_or-replicate g.sets set [] [] within
    by (inl low) (inr past) =
        ap (λ (b : List (List Slot)). get_or b set []) (get_or-replicate (g.levels + 1) bank sets [] low)
        ∙ get_or_past sets set [] (omega (arith, past, length-replicate {A = List Slot} g.sets []))
    by (inr past) which =
        ap (λ (b : List (List Slot)). get_or b set [])
        (get_or_past (empty_banks g) bank [] (omega (arith, past, length-replicate {A = List (List Slot)} (g.levels + 1) sets)))

-- each slot of an empty cache is in its bank
pub AreInTheirBanks-empty : (g : Shape) → AreInTheirBanks g (empty_banks g)
AreInTheirBanks-empty g = search (rules, set_of-empty_banks, All-nil)
