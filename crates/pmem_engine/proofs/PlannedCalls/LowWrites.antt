-- What a write is made of: groups of data lines and tag lines alone, names in the shadow lines; and what is kept beside
-- the lines that a plan writes.
use Rattle.std.proofs.Common.{ℕ, zero, suc, ◌≡◌, ◌<◌, ◌≤◌, ◌∷◌, ◌++◌, [], Bool, true, false, List, length, get_or, refl, sym, ap, ap₂, subst, ◌∙◌, inl, inr, arith, ◌⊎◌}
use Rattle.std.specs.Prelude.{All, map, ◌||◌, slice_get, slice_set, unwrap_or, if◌then◌else◌}
use Rattle.std.specs.List.{list_any}
use Rattle.std.proofs.lemmas.Bool.{cases_lt, true≢false}
use Rattle.std.proofs.lemmas.List.Elements.{All-weaker}
use Rattle.std.proofs.lemmas.List.Folds.{list_any-append}
use Rattle.std.proofs.lemmas.List.{get_or_past}
use Rattle.pmem_base.specs.declared.faults.Cut.{Cut}
use Rattle.pmem_base.specs.declared.lines.Line.{Line}
use Rattle.pmem_base.specs.declared.registers.Progress.{Progress}
use Rattle.pmem_base.specs.declared.registers.Regs.{Regs}
use Rattle.pmem_base.specs.declared.answers.Mark.{Mark}
use Rattle.pmem_base.specs.Layout as layout
use Rattle.pmem_base.specs.Registers.{IsValidRegs, IsProgress, not_done, empty_progress, without_group}
use Rattle.pmem_base.specs.Shape.{Shape, named_levels}
use Rattle.board.specs.Device.{Device}
use Rattle.call_plan.specs.Plans.{Plan, done, stop, read, write, latch, bind, for_each, the_cut}
use Rattle.commit_regs.specs.Plans.{lines_plan, finish_plan, group_plan}
use Rattle.board.specs.Steps.{WasCut, HasLatched}
use Rattle.call_plan.specs.Bounds.{MakesOnly, writes_within, Leaves}
use Rattle.call_plan.proofs.Keeping.{line_told-set, makes_repeated}
use Rattle.call_plan.proofs.Leaves.{leaves_mapped, leaves_more}
use Rattle.page_reencrypt.specs.Registers.{registers_with_done}
use Rattle.page_reencrypt.proofs.DoneBits.{not_done-small}
use Rattle.page_reencrypt.proofs.Holding.{All-registers_with_done, with_done-page}
use Rattle.shadow_tables.specs.Naming.{entry_line, naming_line, with_named}
use Rattle.meta_cache.specs.declared.slot.Slot.{Slot}
use Rattle.meta_cache.specs.Banks.{Banks, set_of, set_index}
use Rattle.meta_cache.specs.State.{CacheState, bank_of, with_slots}
use Rattle.meta_path.specs.Blocks.{path_at, slots_at}
use Rattle.meta_path.specs.Naming.{path_number, is_slot_named}
use Rattle.meta_path.specs.Plans.{slot_plan, naming_turn, naming_plan}
use Rattle.meta_path.specs.Storing.{new_line, stored_set, stored_mark, stored_levels}
use Rattle.meta_path.specs.Work.{told_line}
use Rattle.pmem_engine.specs.declared.resealing.NextSeal.{NextSeal}
use Rattle.pmem_engine.specs.CallFacts.{masked, KeepsButPath}
use Rattle.pmem_engine.specs.Committing.{entries_of}
use Rattle.pmem_engine.specs.FetchLaws.{is_persisting}
use Rattle.pmem_engine.specs.Plans.{register_at, held_of}
use Rattle.pmem_engine.proofs.Seals.KeptSlots.{masked_stored}

-- ---- lines beside those that a plan writes

module _ (place : ℕ → Type 0) (base : Device) where
  -- the lines at all other places are as they were, where told
  abbrev pub KeepsBeside : Device → Type 0
  KeepsBeside now = (at : ℕ) → (place at → ⊥) → told_line now.lines at ≡ told_line base.lines at

  beside_same : (now new : Device) → new.lines ≡ now.lines → KeepsBeside now → KeepsBeside new
  beside_same now new same so at apart = ap (λ lines. told_line lines at) same ∙ so at apart

  pub keeps_beside : {E T : Type 0} (plan : Plan E T) (now : Device) → MakesOnly (writes_within place) plan → KeepsBeside now
      → Leaves plan (λ t d. KeepsBeside d) (λ left d. KeepsBeside d) now
  unfolding MakesOnly Leaves
  keeps_beside (done t) now only so = so
  keeps_beside (stop left) now only so = so
  keeps_beside (read left at later) now only so = (
    λ new was off. beside_same now new was.lines so,
    λ line new was whole. keeps_beside (later line) new (only.1 line whole) (beside_same now new was.lines so),
  )
  keeps_beside (write left at line later) now only so = (
    λ new was. beside_same now new was.lines so,
    λ new was.
        keeps_beside later new only.1
        (λ x apart. ap (λ lines. told_line lines x) was.lines
        ∙ line_told-set now.lines at x line (λ same. apart (subst place (sym same) only.0)) ∙ so x apart),
  )
  keeps_beside (latch left regs later) now only so =
      (λ new was. beside_same now new was.lines so, λ new was. keeps_beside later new only.1 (beside_same now new was.lines so))

-- ---- a group, wherever it ends

-- before it is armed the state is the first one, and then the other
pub group_leaves : {S : Type 0} (ok err : S → Device → Type 0) (armed : Regs) (before after : S) (now : Device)
    → ((new : Device) → WasCut now new → err before new)
    → ((mid : Device) → HasLatched now armed mid → Leaves (finish_plan armed) (λ t d. ok after d) (λ left d. err after d) mid)
    → Leaves (group_plan armed before after) (λ end d. ok end.0 d × (end.1 ≡ without_group armed)) (λ left d. err left.0 d) now
unfolding Leaves group_plan
group_leaves ok err armed before after now cut rest = (
  cut,
  λ mid was.
      leaves_mapped _ _ (λ end d. ok end.0 d × (end.1 ≡ without_group armed)) (λ left d. err left.0 d) (finish_plan armed) mid
      (leaves_more (λ t d. ok after d) (λ t d. ok after d × (without_group armed ≡ without_group armed)) (λ left d. err after d) (λ left d. err after d)
      (finish_plan armed) mid (λ t d it. (it, refl)) (λ left d it. it) (rest mid was)),
)

-- ---- the marks made

or_false : (a b : Bool) → (a || b) ≡ false → (a ≡ false) × (b ≡ false)
or_false true b is = absurd (true≢false is)
or_false false b is = (refl, is)

pub none_of : (loss at : ℕ) (made : List Mark) (mark : Mark) → list_any (is_persisting loss at) (made ++ mark ∷ []) ≡ false
    → (list_any (is_persisting loss at) made ≡ false) × (is_persisting loss at mark ≡ false)
none_of loss at made mark none =
    let both = or_false (list_any (is_persisting loss at) made) (list_any (is_persisting loss at) (mark ∷ []))
    (sym (list_any-append (is_persisting loss at) made (mark ∷ [])) ∙ none) in
    (both.0, (or_false (is_persisting loss at mark) false both.1).0)

-- ---- lines of data and of tags

module _ (g : Shape) where
  abbrev pub Low : ℕ → Type 0
  Low at = at < layout.meta_line g 0

  abbrev pub LowOnly : {E T : Type 0} → Plan E T → Type 0
  LowOnly plan = MakesOnly (writes_within Low) plan

  low_tag : (at : ℕ) → at < layout.data_lines g → Low (layout.tag_line g at)
  low_tag at low = omega (arith, low)

  -- a group of a line and its tag line
  pub low_finish : (armed : Regs) (next : NextSeal) → next.at < layout.data_lines g → armed.group.items ≡ entries_of g next
      → LowOnly (finish_plan armed)
  unfolding MakesOnly bind for_each
  low_finish armed next low is =
      subst (λ (items : List (ℕ × Line)). LowOnly (bind (lines_plan items) (λ written. latch the_cut (without_group armed) (done (tt {0}))))) (sym is) two_lines
    where
      two_lines : LowOnly (bind (lines_plan (entries_of g next)) (λ written. latch the_cut (without_group armed) (done (tt {0}))))
      two_lines = (omega (arith, low), (low_tag next.at low, (tt, tt)))

-- ---- the shadow lines

module _ (g : Shape) where
  abbrev pub High : ℕ → Type 0
  High at = layout.shadow_line g 0 ≤ at

  slot_high : (bank n x : ℕ) (mirror : List Line) → MakesOnly (writes_within High) (slot_plan g bank n x mirror)
  unfolding MakesOnly slot_plan
  slot_high bank n x mirror =
      by (is_slot_named g mirror bank n x)
    where
      by : (named : Bool) → MakesOnly {E = List Line × Cut} {T = List Line × Unit {0}} (writes_within High)
          (if named then done (mirror, tt)
          else write (with_named g mirror bank n x, the_cut) (layout.shadow_line g (entry_line g bank n)) (naming_line g mirror bank n x)
          (done (with_named g mirror bank n x, tt)))
      by true = tt
      by false = (omega arith, tt)

  -- a path's naming writes no others
  pub naming_high : (cache : Banks) (page : ℕ) (mirror : List Line) → MakesOnly (writes_within High) (naming_plan g cache page mirror)
  naming_high cache page mirror =
      makes_repeated (writes_within High) (naming_turn g cache page) 0 (named_levels g) (mirror, tt)
      (λ j before. slot_high j (path_number g cache page j) (path_at g page j) before.0)

-- ---- the lines that registers hold

or_default : {X : Type 0} (P : X → Type 0) (xs : List X) (i : ℕ) (d : X) → All P xs → P d → P (get_or xs i d)
or_default P xs i d all its =
    elim (cases_lt i (length xs)) [
      | inl low ↦ all i d low
      | inr past ↦ subst P (sym (get_or_past xs i d past)) its
    ]

module _ (g : Shape) where
  abbrev pub ArePages : List Progress → Type 0
  ArePages registers = All (λ register. register.page < layout.pages g) registers

  pub held_low : 0 < layout.pages g → (regs : Regs) (n : ℕ) → ArePages regs.progress.items → (held_of (register_at regs n)).at < layout.data_lines g
  held_low some regs n pages =
      let page : (register_at regs n).page < layout.pages g =
      or_default (λ register. register.page < layout.pages g) regs.progress.items n empty_progress pages some in
      let place = or_default (λ i. i < 64) (not_done (register_at regs n)) 0 0 (not_done-small (register_at regs n)) (omega arith) in
      omega (arith, page, place)

  pub pages_done : (registers : List Progress) (a : ℕ) → ArePages registers → ArePages (registers_with_done registers a)
  pages_done registers a pages =
      All-registers_with_done (λ register. register.page < layout.pages g) (λ register. register.page < layout.pages g) a
      (λ register low left. subst (λ page. page < layout.pages g) (sym (with_done-page a register)) low) registers pages

pub all_pages : (g : Shape) (regs : Regs) → IsValidRegs g regs → ArePages g regs.progress.items
all_pages g regs valid = All-weaker (IsProgress g) (λ register. register.page < layout.pages g) (λ register it. it.its_page) regs.progress.items valid.each_page

-- ---- a path stored keeps which blocks are cached, and their order of use

slice_or : {X : Type 0} (xs : List X) (i : ℕ) (x d : X) (j : ℕ)
    → (unwrap_or (slice_get (slice_set xs i x) j) d ≡ unwrap_or (slice_get xs j) d)
    ⊎ ((j ≡ i) × (unwrap_or (slice_get (slice_set xs i x) j) d ≡ x))
slice_or [] i x d j = inl refl
slice_or (y ∷ ys) zero x d zero = inr (refl, refl)
slice_or (y ∷ ys) zero x d (suc j) = inl refl
slice_or (y ∷ ys) (suc i) x d zero = inl refl
slice_or (y ∷ ys) (suc i) x d (suc j) = elim (slice_or ys i x d j) [ inl same ↦ inl same | inr it ↦ inr (ap suc it.0, it.1) ]

-- a set is as it was, or it is the one that changed
set_or : (cache : CacheState) (i n : ℕ) (slots : List Slot) (bank set : ℕ)
    → (set_of (with_slots cache i n slots).banks bank set ≡ set_of cache.banks bank set)
    ⊎ ((bank ≡ i) × (set ≡ n) × (set_of (with_slots cache i n slots).banks bank set ≡ slots))
set_or cache i n slots bank set =
    elim (slice_or cache.banks i (slice_set (bank_of cache.banks i) n slots) [] bank) [
      | inl same ↦ inl (ap (λ (sets : List (List Slot)). unwrap_or (slice_get sets set) []) same)
      | inr it ↦
          elim (slice_or (bank_of cache.banks i) n slots [] set) [
            | inl same ↦
                inl (ap (λ (sets : List (List Slot)). unwrap_or (slice_get sets set) []) it.1 ∙ same ∙ ap (λ k. set_of cache.banks k set) (sym it.0))
            | inr more ↦ inr (it.0, more.0, ap (λ (sets : List (List Slot)). unwrap_or (slice_get sets set) []) it.1 ∙ more.1)
          ]
    ]

pub stored_kept : (g : Shape) (page : ℕ) (grouped : ℕ) (lines : List (ℕ × Line)) (n : ℕ) (cache : CacheState)
    → KeepsButPath g page cache.banks (stored_levels g page grouped lines n cache).banks
stored_kept g page grouped lines zero cache = λ bank set. refl
stored_kept g page grouped lines (suc n) cache = λ bank set.
    let below : CacheState = stored_levels g page grouped lines n cache in
    let x : ℕ = path_at g page n in
    let slots : List Slot = slots_at g below.banks n x in
    elim (set_or below n (set_index g x) (stored_set slots x (new_line lines n) (stored_mark g grouped n)) bank set) [
      | inl same ↦ ap (map (masked (path_at g page bank))) same ∙ stored_kept g page grouped lines n cache bank set
      | inr it ↦
          ap (map (masked (path_at g page bank))) it.2
          ∙ ap (λ k. map (masked (path_at g page k)) (stored_set slots x (new_line lines n) (stored_mark g grouped n))) it.0
          ∙ masked_stored slots x (new_line lines n) (stored_mark g grouped n)
          ∙ sym (ap₂ (λ k t. map (masked (path_at g page k)) (set_of below.banks k t)) it.0 it.1)
          ∙ stored_kept g page grouped lines n cache bank set
    ]
