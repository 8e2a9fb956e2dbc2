-- What a fetch keeps, whatever it answers.
use Rattle.std.proofs.Common.{rules, ◌≡◌, ℕ, ◌+◌, ◌-◌, ◌<◌, true, false, cond, List, [], ◌∷◌, get_or, refl, sym, ap, subst, ◌∙◌, ◌⊎◌, inl, inr, arith, Some}
use Rattle.std.specs.Prelude.{◌==◌, ◌||◌, option_map, unwrap_or, All, Contains}
use Rattle.std.proofs.lemmas.Bool.{cases_Bool, cond-false, eqb-true, false≢true}
use Rattle.std.proofs.lemmas.List.Elements.{All-contains, All-contains_itself, All-head, All-tail}
use Rattle.pmem_base.specs.declared.lines.Line.{Line}
use Rattle.pmem_base.specs.Shape.{Shape}
use Rattle.pmem_base.specs.Layout.{meta_lines, meta_line}
use Rattle.pmem_base.specs.Lines.{line_at, zero_line}
use Rattle.board.specs.Device.{Device, AreToldLines}
use Rattle.board.specs.Steps.{Tells}
use Rattle.bonsai_tree.specs.Positions.{level_of}
use Rattle.meta_cache.specs.declared.slot.Slot.{Slot}
use Rattle.meta_cache.specs.Banks.{Banks, set_of, set_index, is_cached}
use Rattle.meta_cache.specs.Sets.{holds, slot_with, placed, victim_of}
use Rattle.meta_cache.specs.State.{CacheState}
use Rattle.meta_path.specs.Blocks.{path_at, slots_at, line_in, IsOfItsBank, AreInTheirBanks, AreCachedTrue}
use Rattle.meta_path.specs.Work.{told_line}
use Rattle.meta_path.specs.Fetching.{absent_count, spilled}
use Rattle.meta_path.specs.Keeping.{HasComeIn, HasGivenWay, WasWrittenBack, KeepsBlocks}
use Rattle.meta_path.proofs.SetFacts.{touched_contains, contains_touched, placed_contains, contains_placed, placed_gone, victim_contained}
use Rattle.meta_path.proofs.PathFacts.{path_at-level, path_at-lt, its_bank_of}
use Rattle.meta_path.proofs.KeepLemmas.{IsKeptPart, IsPathSet, IsSpilledAt, path_set_or_not, used_or_placed, spilled_told, spilled_or_kept_told, length-spilled, absent_count-le, absent_count-more, dirty_count-fetched}

-- what holds of each slot of a set holds of all
pub all_of : {X : Type 0} (P : X → Type 0) (xs : List X) → ((x : X) → Contains xs x → P x) → All P xs
all_of P xs each = λ k d h. each (get_or xs k d) (All-contains_itself xs k d h)

-- ---- the slots of a set, now and before

module _ {g : Shape} {truth : List Line} {page n : ℕ} {old new : CacheState} {before after : Device}
    (part : IsKeptPart g truth page n old new before after) (bank set : ℕ) where
  abbrev x : ℕ
  x = path_at g page bank

  abbrev slots : List Slot
  slots = set_of old.banks bank set

  pub slots_now : (slot : Slot) → Contains (set_of new.banks bank set) slot
      → Contains slots slot ⊎ HasComeIn g truth page old.banks bank set slot
  slots_now slot found =
      elim (path_set_or_not g page n bank set) [
        | inr other ↦ inl (subst (λ set. Contains set slot) (part.fetched.elsewhere bank set other) found)
        | inl at ↦
            elim (used_or_placed g truth page n old new bank set part.fetched at) [
              | inl used ↦ inl (touched_contains slots x slot (subst (λ set. Contains set slot) used found))
              | inr now ↦
                  elim (placed_contains g.ways slots x (line_at truth x) slot (part.of.sets.each bank set).room part.some_way
                  (subst (λ set. Contains set slot) now.1 found)) [
                    | inr stood ↦ inl stood
                    | inl is ↦
                        inr (record {
                          on_path = omega (arith, at.reached, part.levels);
                          position = ap (λ (s : Slot). s.position) (sym is);
                          its_set = at.its_set;
                          absent = now.0;
                          clean = ap (λ (s : Slot). s.dirty) (sym is);
                          true_line = ap (λ (s : Slot). s.line) (sym is) ∙ ap (λ (s : Slot). line_at truth s.position) is;
                        })
                  ]
            ]
      ]

  -- a slot that gave way at a level that was fetched
  given_way : (slot : Slot) → IsPathSet g page n bank set → is_cached g old.banks bank x ≡ false
      → set_of new.banks bank set ≡ placed g.ways slots x (line_at truth x) → victim_of g.ways slots ≡ Some slot
      → HasGivenWay g page old.banks new.banks after.lines bank set slot
  given_way slot at absent now some =
      let form = part.of.sets.each bank set in
      let its : set_index g slot.position ≡ set =
      All-contains (λ (s : Slot). set_index g s.position ≡ set) slots slot form.its_positions
      (victim_contained g.ways slots slot form.room some) in
      record {
        on_path = omega (arith, at.reached, part.levels);
        its_set = at.its_set;
        absent = absent;
        victim = some;
        gone =
            ap (λ s. holds (set_of new.banks bank s) slot.position) its
            ∙ ap (λ slots. holds slots slot.position) now
            ∙ placed_gone g.ways slots x (line_at truth x) slot form.room
            form.distinct_positions some (ap (λ s. holds (set_of old.banks bank s) x) at.its_set ∙ absent);
        written = λ dirty.
            subst (λ told. Tells told (meta_line g slot.position) slot.line) (sym part.lines)
            (spilled_told g old.banks page before.lines part.of
            (subst (λ size. AreToldLines size before.lines) part.its_size part.told) bank slot
            (omega (arith, at.reached, part.levels)) absent
            (ap (λ s. victim_of g.ways (set_of old.banks bank s)) (sym at.its_set) ∙ some) dirty n at.reached part.levels);
      }

  pub slots_before : (slot : Slot) → Contains slots slot
      → Contains (set_of new.banks bank set) slot ⊎ HasGivenWay g page old.banks new.banks after.lines bank set slot
  slots_before slot found =
      elim (path_set_or_not g page n bank set) [
        | inr other ↦ inl (subst (λ set. Contains set slot) (sym (part.fetched.elsewhere bank set other)) found)
        | inl at ↦
            elim (used_or_placed g truth page n old new bank set part.fetched at) [
              | inl used ↦ inl (subst (λ set. Contains set slot) (sym used) (contains_touched slots x slot found))
              | inr now ↦
                  elim (contains_placed g.ways slots x (line_at truth x) slot (part.of.sets.each bank set).room part.some_way found) [
                    | inl stays ↦ inl (subst (λ set. Contains set slot) (sym now.1) stays)
                    | inr some ↦ inr (given_way slot at now.0 now.1 some)
                  ]
            ]
      ]

-- ---- together

module _ {g : Shape} {truth : List Line} {page n : ℕ} {old new : CacheState} {before after : Device}
    (part : IsKeptPart g truth page n old new before after) where
  -- a level's write-back is that of a dirty block that is cached no more
  written_back : (at : ℕ) → IsSpilledAt g old.banks page n at → WasWrittenBack g old.banks new.banks after.lines at
  written_back at spilled =
      let bank : ℕ = spilled.level in
      let set : ℕ = set_index g _ in
      let way =
      given_way part bank set spilled.victim (record { reached = spilled.reached; its_set = refl }) spilled.absent
      (part.fetched.fetched bank spilled.reached ∙ cond-false _ _ _ spilled.absent) spilled.is_victim in
      record {
        bank = bank;
        set = set;
        slot = spilled.victim;
        was_cached = victim_contained g.ways _ spilled.victim (part.of.sets.each bank set).room spilled.is_victim;
        was_dirty = spilled.dirty;
        gone = way.gone;
        place = spilled.place;
        line = subst (λ place. Tells after.lines place spilled.victim.line) (sym spilled.place) (way.written spilled.dirty);
      }

  line_writes : (at : ℕ)
      → (told_line after.lines at ≡ told_line before.lines at) ⊎ WasWrittenBack g old.banks new.banks after.lines at
  line_writes at =
      elim (spilled_or_kept_told g old.banks page before.lines at n) [
        | inl kept ↦ inl (ap (λ told. told_line told at) part.lines ∙ kept)
        | inr spilled ↦ inr (written_back at spilled)
      ]

  pub in_their_banks : AreInTheirBanks g new.banks
  in_their_banks =
      record {
        each = λ bank set.
            all_of (IsOfItsBank g bank) (set_of new.banks bank set)
            (λ slot found.
            elim (slots_now part bank set slot found) [
              | inl stood ↦ its_bank_of g old.banks bank set slot part.of.its_banks stood
              | inr came ↦
                  record {
                    on_tree = subst (λ x. x < meta_lines g) (sym came.position) (path_at-lt g page bank part.of.its_page came.on_path);
                    its_bank = ap level_of came.position ∙ path_at-level g page bank part.of.its_page part.of.few came.on_path;
                  }
            ]);
      }

  cached_true : AreCachedTrue old.banks truth → AreCachedTrue new.banks truth
  cached_true is_true =
      record {
        each = λ bank set.
            all_of (λ slot. slot.line ≡ line_at truth slot.position) _
            (λ slot found.
            elim (slots_now part bank set slot found) [
              | inl stood ↦
                  All-contains (λ (s : Slot). s.line ≡ line_at truth s.position) (set_of old.banks bank set) slot (is_true.each bank set) stood
              | inr came ↦ came.true_line
            ]);
      }

  pub KeepsBlocks-part : KeepsBlocks g truth page old.banks new.banks before after
  KeepsBlocks-part =
      record {
        slots_now = slots_now part;
        slots_before = slots_before part;
        entries = spilled g old.banks page n;
        lines = part.lines;
        writes = part.writes;
        one_a_level =
            let rest : g.levels + 1 - n + n ≡ g.levels + 1 = omega (arith, part.levels) in
            omega (
              arith,
              length-spilled g old.banks page n,
              absent_count-more g old.banks page n (g.levels + 1 - n),
              ap (absent_count g old.banks page) rest,
            );
        some_levels = absent_count-le g old.banks page (g.levels + 1);
        dirty =
            dirty_count-fetched g truth page n old new part.of.sets part.some_way part.some_set part.levels part.fetched;
        line_writes = line_writes;
        size = part.size;
        regs = part.regs;
        latches = part.latches;
        steady = part.steady;
        in_their_banks = in_their_banks;
        cached_true = cached_true;
      }

-- ---- lines that are true

-- the line of a cached position is the true one
pub line_in-true : (g : Shape) (banks : Banks) (truth : List Line) (bank x : ℕ) → AreCachedTrue banks truth
    → is_cached g banks bank x ≡ true → line_in g banks bank x ≡ line_at truth x
line_in-true g banks truth bank x is_true cached =
    found (slots_at g banks bank x) (is_true.each bank (set_index g x)) cached
  where
    found : (slots : List Slot) → All (λ (s : Slot). s.line ≡ line_at truth s.position) slots → holds slots x ≡ true
        → unwrap_or (option_map (λ (s : Slot). s.line) (slot_with slots x)) zero_line ≡ line_at truth x
    found [] all held = absurd (false≢true held)
    found (slot ∷ slots) all held =
        elim (cases_Bool (slot.position == x)) [
          | inl same ↦ search (rules, All-head, eqb-true)
          | inr other ↦
              ap (λ test. unwrap_or (option_map (λ (s : Slot). s.line) (cond test (Some slot) (slot_with slots x))) zero_line) other
              ∙ found slots (All-tail (λ (s : Slot). s.line ≡ line_at truth s.position) slot slots all)
              (ap (λ test. test || holds slots x) (sym other) ∙ held)
        ]
