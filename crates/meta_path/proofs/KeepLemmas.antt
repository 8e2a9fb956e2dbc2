-- What a fetch keeps, from the levels that it fetched.
use Rattle.std.proofs.Common.{rules, ◌≡◌, ◌≢◌, ℕ, zero, suc, ◌+◌, ◌-◌, ◌<◌, ◌≤◌, Bool, true, false, cond, List, [], ◌∷◌, ◌++◌, length, refl, sym, ap, ap₂, subst, ◌∙◌, ◌⊎◌, inl, inr, arith, mod-lt, Option, Some, None}
use Rattle.std.specs.Prelude.{Contains}
use Rattle.std.proofs.lemmas.Bool.{cases_eq, cases_lt, cases_Bool, cond-true, cond-false}
use Rattle.std.proofs.lemmas.List.{length-append}
use Rattle.pmem_base.specs.declared.lines.Line.{Line}
use Rattle.pmem_base.specs.Shape.{Shape}
use Rattle.pmem_base.specs.Layout.{meta_line, device_lines}
use Rattle.pmem_base.specs.Lines.{line_at, put_lines}
use Rattle.board.specs.Counts.{RisesBy}
use Rattle.board.specs.Device.{Device, AreToldLines, IsDevice}
use Rattle.board.specs.Steps.{Tells}
use Rattle.commit_regs.specs.Groups.{redone_told}
use Rattle.bonsai_tree.specs.Positions.{level_of}
use Rattle.pmem_base.proofs.LineSets.{length-put_lines, line_at-set_same, line_at-set_other, put_lines-append}
use Rattle.meta_cache.specs.declared.slot.Slot.{Slot}
use Rattle.meta_cache.specs.Banks.{Banks, set_of, set_index, is_cached}
use Rattle.meta_cache.specs.Sets.{touched, placed, victim_of, IsSetOf}
use Rattle.meta_cache.specs.State.{CacheState}
use Rattle.meta_path.specs.Blocks.{path_at, slots_at, dirty_in, sum_below, bank_dirty_count, dirty_count, IsOfItsBank, IsPathCached}
use Rattle.meta_path.specs.Work.{told_line}
use Rattle.meta_path.specs.Levels.{victim_write, room_write, level_write, fetched_set}
use Rattle.meta_path.specs.Fetching.{absent_count, spilled, HasFetchedSets}
use Rattle.meta_path.proofs.SetFacts.{dirty_in-touched, dirty_in-placed, victim_contained}
use Rattle.meta_path.proofs.PathFacts.{its_bank_of, put_lines-elsewhere, level_write-all, AreSets}
use Rattle.meta_path.proofs.FetchLemmas.{IsFetchOf}

-- the first n levels of the path are fetched, and their write-backs are all that the board wrote
pub record IsKeptPart (g : Shape) (truth : List Line) (page n : ℕ) (old new : CacheState) (before after : Device) :
    Type 0 where
  pub of : IsFetchOf g page old.banks
  pub some_way : 1 ≤ g.ways
  pub some_set : 1 ≤ g.sets
  pub levels : n ≤ g.levels + 1
  pub told : IsDevice before
  pub its_size : before.size ≡ device_lines g
  pub fetched : HasFetchedSets g truth page n old new
  pub lines : after.lines ≡ redone_told (spilled g old.banks page n) before.lines
  pub writes : RisesBy (length (spilled g old.banks page n)) before.writes after.writes
  pub size : after.size ≡ before.size
  pub regs : after.regs ≡ before.regs
  pub latches : after.latches ≡ before.latches
  pub steady : before.steady ≡ true → after.steady ≡ true

-- ---- sets, fetched or not

-- the set of the path's position in a bank that is fetched
pub record IsPathSet (g : Shape) (page n bank set : ℕ) : Type 0 where
  pub reached : bank < n
  pub its_set : set ≡ set_index g (path_at g page bank)

pub path_set_or_not : (g : Shape) (page n bank set : ℕ)
    → IsPathSet g page n bank set ⊎ ((bank < n) × (set ≡ set_index g (path_at g page bank)) → ⊥)
path_set_or_not g page n bank set = search (rules, cases_lt, cases_eq)

-- a fetched set: its position was cached, and only the order changed, or it was placed
pub used_or_placed : (g : Shape) (truth : List Line) (page n : ℕ) (old new : CacheState) (bank set : ℕ)
    → HasFetchedSets g truth page n old new → IsPathSet g page n bank set
    → (set_of new.banks bank set ≡ touched (set_of old.banks bank set) (path_at g page bank))
    ⊎ ((is_cached g old.banks bank (path_at g page bank) ≡ false)
    × (set_of new.banks bank set
    ≡ placed g.ways (set_of old.banks bank set) (path_at g page bank) (line_at truth (path_at g page bank))))
used_or_placed g truth page n old new bank set fetched at = search (rules, cases_Bool)

-- ---- lines that are written

-- the write-back of a level is read back, and no later one is at its place
pub spilled_stands : (g : Shape) (banks : Banks) (page : ℕ) (lines : List Line) → IsFetchOf g page banks
    → length lines ≡ device_lines g → (j : ℕ) (victim : Slot) → j ≤ g.levels
    → is_cached g banks j (path_at g page j) ≡ false
    → victim_of g.ways (slots_at g banks j (path_at g page j)) ≡ Some victim → victim.dirty ≡ true
    → (n : ℕ) → j < n → n ≤ g.levels + 1
    → line_at (put_lines (spilled g banks page n) lines) (meta_line g victim.position) ≡ victim.line
spilled_stands g banks page lines of size j victim le absent some dirty zero less low = absurd (omega arith)
spilled_stands g banks page lines of size j victim le absent some dirty (suc n) less low =
    ap (λ ls. line_at ls (meta_line g victim.position))
    (put_lines-append (spilled g banks page n) (level_write g banks n (path_at g page n)) lines)
    ∙ by (cases_eq j n) (λ h. spilled_stands g banks page lines of size j victim le absent some dirty n h (omega arith))
  where
    before : List Line
    before = put_lines (spilled g banks page n) lines

    its : IsOfItsBank g j victim
    its =
        its_bank_of g banks j (set_index g (path_at g page j)) victim of.its_banks
        (victim_contained g.ways (slots_at g banks j (path_at g page j)) victim
        (of.sets.each j (set_index g (path_at g page j))).room some)

    own : level_write g banks j (path_at g page j) ≡ (meta_line g victim.position, victim.line) ∷ []
    own =
        cond-false (is_cached g banks j (path_at g page j)) [] _ absent
        ∙ ap (victim_write g) some
        ∙ cond-true victim.dirty ((meta_line g victim.position, victim.line) ∷ []) [] dirty

    by : (j ≡ n) ⊎ (j ≡ n → ⊥)
        → (j < n → line_at before (meta_line g victim.position) ≡ victim.line)
        → line_at (put_lines (level_write g banks n (path_at g page n)) before) (meta_line g victim.position) ≡ victim.line
    by (inl same) earlier =
        ap (λ k. line_at (put_lines (level_write g banks k (path_at g page k)) before) (meta_line g victim.position)) (sym same)
        ∙ ap (λ entries. line_at (put_lines entries before) (meta_line g victim.position)) own
        ∙ line_at-set_same before (meta_line g victim.position) victim.line
        (omega (arith, length-put_lines (spilled g banks page n) lines, size, its.on_tree))
    by (inr other) earlier =
        put_lines-elsewhere (level_write g banks n (path_at g page n)) before (meta_line g victim.position)
        (level_write-all (λ entry. entry.0 ≢ meta_line g victim.position) g banks n (path_at g page n)
        (λ later is_victim was_dirty was_absent e.
        let stands : Contains (slots_at g banks n (path_at g page n)) later =
        victim_contained g.ways (slots_at g banks n (path_at g page n)) later
        (of.sets.each n (set_index g (path_at g page n))).room is_victim in
        let same : later.position ≡ victim.position = omega (arith, e) in
        other
        (sym its.its_bank ∙ ap level_of (sym same)
        ∙ (its_bank_of g banks n (set_index g (path_at g page n)) later of.its_banks stands).its_bank)))
        ∙ earlier (omega (arith, less, other))

-- the same, where the board tells its lines
pub spilled_told : (g : Shape) (banks : Banks) (page : ℕ) (told : Option (List Line)) → IsFetchOf g page banks
    → AreToldLines (device_lines g) told → (j : ℕ) (victim : Slot) → j ≤ g.levels
    → is_cached g banks j (path_at g page j) ≡ false
    → victim_of g.ways (slots_at g banks j (path_at g page j)) ≡ Some victim → victim.dirty ≡ true
    → (n : ℕ) → j < n → n ≤ g.levels + 1
    → Tells (redone_told (spilled g banks page n) told) (meta_line g victim.position) victim.line
spilled_told g banks page None of whole j victim le absent some dirty n less low = tt
spilled_told g banks page (Some lines) of whole j victim le absent some dirty n less low = search (rules, spilled_stands)

-- a level's write-back is at this place
pub record IsSpilledAt (g : Shape) (banks : Banks) (page n at : ℕ) : Type 0 where
  pub level : ℕ
  pub reached : level < n
  pub absent : is_cached g banks level (path_at g page level) ≡ false
  pub victim : Slot
  pub is_victim : victim_of g.ways (slots_at g banks level (path_at g page level)) ≡ Some victim
  pub dirty : victim.dirty ≡ true
  pub place : at ≡ meta_line g victim.position

-- any other place keeps its line
pub spilled_or_kept : (g : Shape) (banks : Banks) (page : ℕ) (lines : List Line) (at n : ℕ)
    → (line_at (put_lines (spilled g banks page n) lines) at ≡ line_at lines at) ⊎ IsSpilledAt g banks page n at
spilled_or_kept g banks page lines at zero = inl refl
spilled_or_kept g banks page lines at (suc n) =
    by_test (cases_Bool (is_cached g banks n x)) (spilled_or_kept g banks page lines at n)
  where
    x : ℕ
    x = path_at g page n

    Goal : List (ℕ × Line) → Type 0
    Goal entries =
        (line_at (put_lines (spilled g banks page n ++ entries) lines) at ≡ line_at lines at)
        ⊎ IsSpilledAt g banks page (suc n) at

    later : IsSpilledAt g banks page n at → IsSpilledAt g banks page (suc n) at
    later spilled = record {
      level = spilled.level;
      reached = omega (arith, spilled.reached);
      absent = spilled.absent;
      victim = spilled.victim;
      is_victim = spilled.is_victim;
      dirty = spilled.dirty;
      place = spilled.place;
    }

    none : (line_at (put_lines (spilled g banks page n) lines) at ≡ line_at lines at) ⊎ IsSpilledAt g banks page n at → Goal []
    none (inl kept) =
        inl (ap (λ ls. line_at ls at) (put_lines-append (spilled g banks page n) [] lines) ∙ kept)
    none (inr spilled) = inr (later spilled)

    one : (victim : Slot) → is_cached g banks n x ≡ false → victim_of g.ways (slots_at g banks n x) ≡ Some victim
        → victim.dirty ≡ true → (at ≡ meta_line g victim.position) ⊎ (at ≡ meta_line g victim.position → ⊥)
        → (line_at (put_lines (spilled g banks page n) lines) at ≡ line_at lines at) ⊎ IsSpilledAt g banks page n at
        → Goal ((meta_line g victim.position, victim.line) ∷ [])
    one victim absent some dirty (inl here) rest =
        inr (record { level = n; reached = omega arith; absent = absent; victim = victim; is_victim = some; dirty = dirty; place = here })
    one victim absent some dirty (inr elsewhere) (inl kept) =
        inl
        (ap (λ ls. line_at ls at) (put_lines-append (spilled g banks page n) ((meta_line g victim.position, victim.line) ∷ []) lines)
        ∙ line_at-set_other (put_lines (spilled g banks page n) lines) (meta_line g victim.position) at victim.line elsewhere
        ∙ kept)
    one victim absent some dirty (inr elsewhere) (inr spilled) = inr (later spilled)

    by_mark : (victim : Slot) → is_cached g banks n x ≡ false → victim_of g.ways (slots_at g banks n x) ≡ Some victim
        → (victim.dirty ≡ true) ⊎ (victim.dirty ≡ false)
        → (line_at (put_lines (spilled g banks page n) lines) at ≡ line_at lines at) ⊎ IsSpilledAt g banks page n at
        → Goal (victim_write g (Some victim))
    by_mark victim absent some (inl dirty) rest =
        subst Goal (sym (cond-true victim.dirty ((meta_line g victim.position, victim.line) ∷ []) [] dirty))
        (one victim absent some dirty (cases_eq at (meta_line g victim.position)) rest)
    by_mark victim absent some (inr clean) rest =
        subst Goal (sym (cond-false victim.dirty ((meta_line g victim.position, victim.line) ∷ []) [] clean)) (none rest)

    by_victim : (victim : Option Slot) → is_cached g banks n x ≡ false → victim_of g.ways (slots_at g banks n x) ≡ victim
        → (line_at (put_lines (spilled g banks page n) lines) at ≡ line_at lines at) ⊎ IsSpilledAt g banks page n at
        → Goal (victim_write g victim)
    by_victim None absent is rest = none rest
    by_victim (Some victim) absent is rest = by_mark victim absent is (cases_Bool victim.dirty) rest

    by_test : (is_cached g banks n x ≡ true) ⊎ (is_cached g banks n x ≡ false)
        → (line_at (put_lines (spilled g banks page n) lines) at ≡ line_at lines at) ⊎ IsSpilledAt g banks page n at
        → Goal (level_write g banks n x)
    by_test (inl cached) rest =
        subst Goal (sym (cond-true (is_cached g banks n x) [] (room_write g (slots_at g banks n x)) cached)) (none rest)
    by_test (inr absent) rest =
        subst Goal (sym (cond-false (is_cached g banks n x) [] (room_write g (slots_at g banks n x)) absent))
        (by_victim (victim_of g.ways (slots_at g banks n x)) absent refl rest)

pub spilled_or_kept_told : (g : Shape) (banks : Banks) (page : ℕ) (told : Option (List Line)) (at n : ℕ)
    → (told_line (redone_told (spilled g banks page n) told) at ≡ told_line told at) ⊎ IsSpilledAt g banks page n at
spilled_or_kept_told g banks page None at n = inl refl
spilled_or_kept_told g banks page (Some lines) at n = search (rules, spilled_or_kept)

-- at most one write for each level that isn't cached, and no more such levels than levels
pub length-spilled : (g : Shape) (banks : Banks) (page n : ℕ) → length (spilled g banks page n) ≤ absent_count g banks page n
length-spilled g banks page zero = omega arith
length-spilled g banks page (suc n) =
    omega (
      arith,
      length-append (spilled g banks page n) (level_write g banks n (path_at g page n)),
      length-spilled g banks page n,
      one_write (is_cached g banks n (path_at g page n)) (victim_of g.ways (slots_at g banks n (path_at g page n))),
    )
  where
    one_write : (test : Bool) (victim : Option Slot)
        → length {A = ℕ × Line} (cond test [] (victim_write g victim)) ≤ cond test 0 1
    one_write true victim = omega arith
    one_write false None = omega arith
    one_write false (Some victim) = marked victim.dirty
      where
        marked : (dirty : Bool) → length {A = ℕ × Line} (cond dirty ((meta_line g victim.position, victim.line) ∷ []) []) ≤ 1
        marked true = omega arith
        marked false = omega arith

pub absent_count-le : (g : Shape) (banks : Banks) (page n : ℕ) → absent_count g banks page n ≤ n
absent_count-le g banks page zero = omega arith
absent_count-le g banks page (suc n) =
    omega (arith, absent_count-le g banks page n, at_most_one (is_cached g banks n (path_at g page n)))
  where
    at_most_one : (test : Bool) → cond test 0 1 ≤ 1
    at_most_one true = omega arith
    at_most_one false = omega arith

-- more levels, no fewer that aren't cached
pub absent_count-more : (g : Shape) (banks : Banks) (page n d : ℕ) → absent_count g banks page n ≤ absent_count g banks page (d + n)
absent_count-more g banks page n zero = search rules
absent_count-more g banks page n (suc d) =
    let next : suc d + n ≡ suc (d + n) = omega arith in
    omega (arith, absent_count-more g banks page n d, ap (absent_count g banks page) next)

-- where the path is cached, none isn't, and nothing is written
pub absent_count-cached : (g : Shape) (banks : Banks) (page n : ℕ) → IsPathCached g banks page → n ≤ g.levels + 1
    → absent_count g banks page n ≡ 0
absent_count-cached g banks page zero cached le = refl
absent_count-cached g banks page (suc n) cached le =
    omega (
      arith,
      absent_count-cached g banks page n cached (omega arith),
      cond-true {A = ℕ} (is_cached g banks n (path_at g page n)) 0 1 (cached.each n (omega arith)),
    )

-- ---- dirty slots

pub sum_below-same : (a b : ℕ → ℕ) (n : ℕ) → ((k : ℕ) → k < n → a k ≡ b k) → sum_below a n ≡ sum_below b n
sum_below-same a b zero same = refl
sum_below-same a b (suc n) same =
    ap₂ (λ s t. s + t) (sum_below-same a b n (λ k h. same k (omega arith))) (same n (omega arith))

-- one term differs
pub sum_below-one : (a b : ℕ → ℕ) (n i change : ℕ) → i < n → a i + change ≡ b i → ((k : ℕ) → k < n → k ≢ i → a k ≡ b k)
    → sum_below a n + change ≡ sum_below b n
sum_below-one a b zero i change h here same = absurd (omega arith)
sum_below-one a b (suc n) i change h here same =
    by (cases_eq i n) (λ low. sum_below-one a b n i change low here (λ k l other. same k (omega arith) other))
  where
    by : (i ≡ n) ⊎ (i ≡ n → ⊥) → (i < n → sum_below a n + change ≡ sum_below b n)
        → sum_below a n + a n + change ≡ sum_below b n + b n
    by (inl last) rest =
        let at : a n + change ≡ b n = ap (λ k. a k + change) (sym last) ∙ here ∙ ap b last in
        let front : sum_below a n ≡ sum_below b n = search (rules, sum_below-same) in
        omega arith
    by (inr other) rest =
        let front : sum_below a n + change ≡ sum_below b n = rest (omega (arith, h, other)) in
        let back : a n ≡ b n = same n (omega arith) (λ e. other (sym e)) in
        omega arith

-- one fetched set
dirty_in-fetched : (g : Shape) (truth : List Line) (banks : Banks) (bank x : ℕ) → IsSetOf g (set_index g x) (slots_at g banks bank x)
    → 1 ≤ g.ways
    → dirty_in (fetched_set g truth banks bank x) + length (level_write g banks bank x) ≡ dirty_in (slots_at g banks bank x)
dirty_in-fetched g truth banks bank x form some = by (is_cached g banks bank x)
  where
    slots : List Slot
    slots = slots_at g banks bank x

    by : (test : Bool)
        → dirty_in (cond test (touched slots x) (placed g.ways slots x (line_at truth x)))
        + length {A = ℕ × Line} (cond test [] (room_write g slots)) ≡ dirty_in slots
    by true = omega (arith, dirty_in-touched slots x)
    by false = dirty_in-placed g slots x (line_at truth x) form.room some

-- one bank
bank_fetched : (g : Shape) (truth : List Line) (page n : ℕ) (old new : CacheState) (bank : ℕ) → AreSets g old.banks
    → 1 ≤ g.ways → 1 ≤ g.sets → HasFetchedSets g truth page n old new → bank < n
    → bank_dirty_count g new.banks bank + length (level_write g old.banks bank (path_at g page bank))
    ≡ bank_dirty_count g old.banks bank
bank_fetched g truth page n old new bank sets way some fetched reached =
    sum_below-one (λ set. dirty_in (set_of new.banks bank set)) (λ set. dirty_in (set_of old.banks bank set)) g.sets _ (length _)
    (mod-lt _ (omega (arith, some)))
    (ap (λ slots. dirty_in slots + length (level_write g old.banks bank (path_at g page bank))) (fetched.fetched bank reached)
    ∙ dirty_in-fetched g truth old.banks bank _ (sets.each bank _) way) (λ set h other. ap dirty_in (fetched.elsewhere bank set (λ e. other e.1)))

-- the banks that are fetched
banks_fetched : (g : Shape) (truth : List Line) (page n : ℕ) (old new : CacheState) → AreSets g old.banks
    → 1 ≤ g.ways → 1 ≤ g.sets → HasFetchedSets g truth page n old new → (m : ℕ) → m ≤ n
    → sum_below (bank_dirty_count g new.banks) m + length (spilled g old.banks page m) ≡ sum_below (bank_dirty_count g old.banks) m
banks_fetched g truth page n old new sets way some fetched zero low = refl
banks_fetched g truth page n old new sets way some fetched (suc m) low =
    omega (
      arith,
      banks_fetched g truth page n old new sets way some fetched m (omega arith),
      bank_fetched g truth page n old new m sets way some fetched (omega arith),
      length-append (spilled g old.banks page m) (level_write g old.banks m (path_at g page m)),
    )

-- and the others
banks_later : (g : Shape) (truth : List Line) (page n : ℕ) (old new : CacheState) → AreSets g old.banks
    → 1 ≤ g.ways → 1 ≤ g.sets → HasFetchedSets g truth page n old new → (d m : ℕ) → d + n ≡ m
    → sum_below (bank_dirty_count g new.banks) m + length (spilled g old.banks page n) ≡ sum_below (bank_dirty_count g old.banks) m
banks_later g truth page n old new sets way some fetched zero m is =
    let same : n ≡ m = omega arith in
    subst (λ k. sum_below (bank_dirty_count g new.banks) k + length (spilled g old.banks page n) ≡ sum_below (bank_dirty_count g old.banks) k)
    same (banks_fetched g truth page n old new sets way some fetched n (omega arith))
banks_later g truth page n old new sets way some fetched (suc d) zero is = absurd (omega arith)
banks_later g truth page n old new sets way some fetched (suc d) (suc m) is =
    let bank : bank_dirty_count g new.banks m ≡ bank_dirty_count g old.banks m =
    sum_below-same (λ set. dirty_in (set_of new.banks m set)) (λ set. dirty_in (set_of old.banks m set)) g.sets
    (λ set h. ap dirty_in (fetched.elsewhere m set (λ e. omega (arith, e.0, is)))) in
    let rest = banks_later g truth page n old new sets way some fetched d m (omega arith) in
    omega (arith, rest, bank)

pub dirty_count-fetched : (g : Shape) (truth : List Line) (page n : ℕ) (old new : CacheState) → AreSets g old.banks
    → 1 ≤ g.ways → 1 ≤ g.sets → n ≤ g.levels + 1 → HasFetchedSets g truth page n old new
    → dirty_count g new.banks + length (spilled g old.banks page n) ≡ dirty_count g old.banks
unfolding dirty_count
dirty_count-fetched g truth page n old new sets way some le fetched =
    banks_later g truth page n old new sets way some fetched (g.levels + 1 - n) (g.levels + 1) (omega arith)
