-- A page's new path stored in the cache and noted: the truth step that it makes, and what stays of its slots.
use Rattle.std.proofs.Common.{rules, ℕ, ◌≡◌, ◌<◌, ◌≤◌, ◌+◌, ◌-◌, ◌*◌, inl, inr, true, false, List, [], ◌∷◌, IsTrue, refl, sym, ap, ap₂, subst, ◌∙◌, arith}
use Rattle.std.specs.Prelude.{◌&&◌, nat_lt, nat_le, option_map, unwrap_or, All, Contains}
use Rattle.std.specs.List.{list_any}
use Rattle.std.proofs.lemmas.Bool.{cases_Bool, cases_eq, and_parts, true≢false, false≢true, lt-ltb, le-ltb, leb-false, ltb-true}
use Rattle.pmem_base.specs.declared.lines.Line.{Line}
use Rattle.pmem_base.specs.declared.registers.Regs.{Regs}
use Rattle.pmem_base.specs.declared.answers.Mark.{Mark}
use Rattle.pmem_base.specs.Shape.{Shape, lazy_levels, is_lazy}
use Rattle.pmem_base.proofs.LayoutLemmas.{named-lazy}
use Rattle.pmem_base.specs.Layout.{meta_lines, pages}
use Rattle.pmem_base.specs.Lines.{line_at, put_lines}
use Rattle.suite.specs.Formulas.{Formulas, AreInRange}
use Rattle.suite.specs.Setup.{Setup}
use Rattle.split_counters.specs.declared.Block.{Block}
use Rattle.split_counters.specs.Blocks.{packed, unpacked, IsStoredBlock}
use Rattle.bonsai_tree.specs.Positions.{level_of, counter_position, is_on_path}
use Rattle.bonsai_tree.specs.Paths.{IsTreeWith, path_with, lines_with}
use Rattle.bonsai_tree.proofs.Trees.{path_with-entries}
use Rattle.bonsai_tree.proofs.PathPositions.{on_path-level, path_of-on_path, path_of-level, path_of-block}
use Rattle.seal_ledger.specs.Ledger.{LedgerState}
use Rattle.shadow_tables.specs.Entries.{slot_entry}
use Rattle.meta_cache.specs.declared.slot.Slot.{Slot}
use Rattle.meta_cache.specs.Banks.{Banks, set_of, set_index, slot_number, is_cached_dirty, IsBanksOf}
use Rattle.meta_cache.specs.Sets.{slot_with}
use Rattle.meta_cache.proofs.SlotLemmas.{All-stands, All-from_stands, dirty_slot, cached_slot, is_cached_dirty_from, slot_with-is}
use Rattle.meta_path.specs.Blocks.{path_at, number_in, line_in}
use Rattle.meta_path.specs.Blocks as meta
use Rattle.meta_path.specs.Naming.{path_number}
use Rattle.meta_path.specs.Storing.{IsRenewed, new_line, stored_mark}
use Rattle.meta_path.specs.Storing as storing
use Rattle.meta_path.proofs.StoreLemmas.{length-path_lines, position_of}
use Rattle.pmem_engine.specs.Engine.{ChipState}
use Rattle.pmem_engine.specs.Truth.{true_block}
use Rattle.pmem_engine.specs.Invariants.{IsTrueSlot, IsDirtyNamed, IsTrusted}
use Rattle.pmem_engine.specs.Recached.{IsSlotOfStoredPath}
use Rattle.pmem_engine.specs.Named.{IsSlotInShadow, ArePathSlotsNamed}
use Rattle.pmem_engine.specs.Outcomes.{is_touching}
use Rattle.pmem_engine.specs.CallFacts.{IsPathNamedInMirror, is_grouped}
use Rattle.pmem_engine.specs.Inner.{cached_block}
use Rattle.pmem_engine.specs.Sealing.{HasStoredPath, HasNotedPath}
use Rattle.pmem_engine.proofs.Laws.AnchoredSeals.{anchored-new_path}
use Rattle.pmem_engine.proofs.Laws.PathSlots.{ArePathSlotsNamed-levels}
use Rattle.pmem_engine.proofs.Laws.PolicyBounds.{lazy_on_path}
use Rattle.pmem_engine.proofs.Laws.TruthSteps.{IsTruthStep}

-- the cached line of a page's counter block is the true one
pub cached_true_line : (g : Shape) (cache : Banks) (truth : List Line) (page : ℕ) → IsBanksOf g cache
    → ((bank set : ℕ) → All (IsTrueSlot g truth bank set) (set_of cache bank set)) → meta.IsPathCached g cache page
    → line_in g cache g.levels (counter_position g page) ≡ line_at truth (counter_position g page)
cached_true_line g cache truth page form true_slots cached = search (rules, path_of-block, All-stands, cached_slot, slot_with-is)

-- every cached line is
pub cached_lines_true : (g : Shape) (cache : Banks) (truth : List Line)
    → ((bank set : ℕ) → All (IsTrueSlot g truth bank set) (set_of cache bank set)) → meta.AreCachedTrue cache truth
cached_lines_true g cache truth true_slots = search rules

-- all lines with a page's new path are those with its entries put
put_path : (g : Shape) (f : Formulas) (truth : List Line) (page : ℕ) (block : Line) (lines : List (ℕ × Line))
    → lines ≡ path_with g f (line_at truth) page block → put_lines lines truth ≡ lines_with g f truth page block
unfolding lines_with
put_path g f truth page block lines renewed = ap (λ entries. put_lines entries truth) renewed

-- a page's path is about to have new lines: it is cached and named, and these are they, with this counter block
pub record IsRenewing (setup : Setup) (page : ℕ) (new_block : Block) (lines : List (ℕ × Line)) (root : List ℕ)
    (engine : ChipState) : Type 0 where
  pub few : setup.shape.levels ≤ 6
  pub in_range : AreInRange setup.formulas
  pub inside : page < pages setup.shape
  pub cached : meta.IsPathCached setup.shape engine.cache page
  pub named : IsPathNamedInMirror setup.shape engine page
  pub renewed :
      (truth : List Line) → meta.AreCachedTrue engine.cache truth
      → IsRenewed setup.shape setup.formulas truth page (packed new_block) lines root

-- they were stored and noted
module _ (setup : Setup) (page : ℕ) (new_block : Block) (lines : List (ℕ × Line)) (root : List ℕ) (mark : Mark) (grouped : ℕ)
    (old new : ChipState) (regs : Regs) (before after : LedgerState) (path : IsRenewing setup page new_block lines root old)
    (it : HasStoredPath setup.shape page grouped lines old new) (noted : HasNotedPath lines mark before after)
    (trusted : IsTrusted setup old regs before) (enough : setup.shape.persist ≤ grouped) where
  abbrev g : Shape
  g = setup.shape

  renewed_here : IsRenewed setup.shape setup.formulas before.truth page (packed new_block) lines root
  renewed_here = path.renewed before.truth (cached_lines_true g old.cache before.truth trusted.cached_true)

  truth_is : after.truth ≡ lines_with setup.shape setup.formulas before.truth page (packed new_block)
  truth_is = noted.truth ∙ put_path g setup.formulas before.truth page (packed new_block) lines renewed_here.lines

  -- the new true lines are a tree
  pub new_tree : (top : List ℕ) → top ≡ root
      → IsTreeWith setup.shape setup.formulas page (packed new_block) top before.truth after.truth
  new_tree top same =
      anchored-new_path setup regs before page new_block top after.truth path.in_range trusted.anchored path.inside truth_is
      (same ∙ renewed_here.root)

  -- the counter block as it was cached was the true one
  pub old_block_true : cached_block setup.shape old page ≡ true_block setup.shape before.truth page
  old_block_true = ap unpacked (cached_true_line g old.cache before.truth page it.banks_before trusted.cached_true path.cached)

  -- each level's new line is the true one of its position
  line_is : (j : ℕ) → j ≤ setup.shape.levels → new_line lines j ≡ line_at after.truth (path_at setup.shape page j)
  line_is j le = search (rules, path_with-entries, length-path_lines, position_of, renewed_here, truth_is)

  -- a slot is in the bank of its level
  its_own : (bank set : ℕ) (slot : Slot) → Contains (set_of old.cache bank set) slot
      → IsTrueSlot setup.shape before.truth bank set slot
  its_own bank set slot stands =
      All-stands (IsTrueSlot g before.truth bank set) (set_of old.cache bank set) slot (trusted.cached_true bank set) stands

  -- a position on the path is that of its level
  on_path_at : (bank x : ℕ) → level_of x ≡ bank → is_on_path setup.shape page x ≡ true
      → (bank ≤ setup.shape.levels) × (x ≡ path_at setup.shape page bank)
  on_path_at bank x level on =
      let at = on_path-level g page x path.few path.inside on in
      (subst (λ n. n ≤ g.levels) level at.0, sym at.1 ∙ ap (path_at g page) level)

  -- and of no other one
  off_path_at : (bank x : ℕ) → is_on_path setup.shape page x ≡ false
      → (bank ≤ setup.shape.levels) × (x ≡ path_at setup.shape page bank) → ⊥
  off_path_at bank x off at =
      false≢true (sym off ∙ ap (is_on_path g page) at.1 ∙ path_of-on_path g page bank at.0)

  stored_slot : (bank set : ℕ) (slot : Slot) → Contains (set_of new.cache bank set) slot
      → IsSlotOfStoredPath setup.shape after.truth page (set_of old.cache bank set) slot
  stored_slot bank set slot stands = at (it.slots.slots_now bank set slot stands)
    where
      at : (first : Slot) × Contains (set_of old.cache bank set) first × storing.IsStoredSlot g page grouped lines bank first slot
          → IsSlotOfStoredPath g after.truth page (set_of old.cache bank set) slot
      at (first, was, is) =
          record {
            before = first;
            stands = was;
            way = sym is.way;
            position = sym is.position;
            off_path =
                λ off.
                let same = is.off_path (off_path_at bank slot.position off) in
                (ap (λ s. s.line) (sym same), λ dirty. ap (λ s. s.dirty) (sym same) ∙ dirty);
            on_path =
                λ on.
                let place = on_path_at bank slot.position (ap level_of is.position ∙ (its_own bank set first was).its_bank) on in
                is.line place.0 place.1 ∙ line_is bank place.0 ∙ ap (line_at after.truth) (sym place.1);
          }

  -- a dirty block off the path stays dirty
  still_dirty : (x : ℕ) → is_on_path setup.shape page x ≡ false → is_cached_dirty setup.shape old.cache (level_of x) x ≡ true
      → is_cached_dirty setup.shape new.cache (level_of x) x ≡ true
  still_dirty x off dirty = at (dirty_slot g old.cache (level_of x) x dirty)
    where
      from : (first : Slot) → first.position ≡ x → first.dirty ≡ true
          → (now : Slot) × Contains (set_of new.cache (level_of x) (set_index g x)) now
          × storing.IsStoredSlot g page grouped lines (level_of x) first now
          → is_cached_dirty g new.cache (level_of x) x ≡ true
      from first its was (now, stands, is) =
          let same = is.off_path (off_path_at (level_of x) now.position (ap (is_on_path g page) (is.position ∙ its) ∙ off)) in
          let position : now.position ≡ x = is.position ∙ its in
          subst (λ y. is_cached_dirty g new.cache (level_of x) y ≡ true) position
          (is_cached_dirty_from g new.cache (level_of x) now
          (subst (λ y. Contains (set_of new.cache (level_of x) (set_index g y)) now) (sym position) stands)
          (ap (λ s. s.dirty) same ∙ was))

      at : (slot : Slot) × Contains (set_of old.cache (level_of x) (set_index g x)) slot × (slot.position ≡ x) × (slot.dirty ≡ true)
          → is_cached_dirty g new.cache (level_of x) x ≡ true
      at (slot, stands, its, was) =
          from slot its was (it.slots.slots_before (level_of x) (set_index g x) slot stands)

  -- and what is dirty off the path was so before
  was_dirty : (bank x : ℕ) → is_on_path setup.shape page x ≡ false → is_cached_dirty setup.shape new.cache bank x ≡ true
      → is_cached_dirty setup.shape old.cache bank x ≡ true
  was_dirty bank x off dirty = by_slot (dirty_slot g new.cache bank x dirty)
    where
      from : (slot : Slot) → slot.position ≡ x → slot.dirty ≡ true
          → IsSlotOfStoredPath g after.truth page (set_of old.cache bank (set_index g x)) slot
          → is_cached_dirty g old.cache bank x ≡ true
      from slot here its_dirty kept =
          let same : kept.before.position ≡ x = kept.position ∙ here in
          ap (is_cached_dirty g old.cache bank) (sym same)
          ∙ is_cached_dirty_from g old.cache bank kept.before
          (subst (λ y. Contains (set_of old.cache bank (set_index g y)) kept.before) (sym same) kept.stands)
          ((kept.off_path (ap (is_on_path g page) here ∙ off)).1 its_dirty)

      by_slot : ((slot : Slot) × Contains (set_of new.cache bank (set_index g x)) slot × (slot.position ≡ x) × (slot.dirty ≡ true))
          → is_cached_dirty g old.cache bank x ≡ true
      by_slot s = from s.0 s.2 s.3 (stored_slot bank (set_index g x) s.0 s.1)

  -- the mark of each level
  level_mark : (j : ℕ) → j ≤ setup.shape.levels → (slot : Slot)
      → Contains (set_of new.cache j (set_index setup.shape (path_at setup.shape page j))) slot
      → slot.position ≡ path_at setup.shape page j → slot.dirty ≡ stored_mark setup.shape grouped j
  level_mark j le slot stands its = at (it.slots.slots_now j (set_index g (path_at g page j)) slot stands)
    where
      at : (first : Slot) × Contains (set_of old.cache j (set_index g (path_at g page j))) first
          × storing.IsStoredSlot g page grouped lines j first slot → slot.dirty ≡ stored_mark g grouped j
      at (first, was, is) = is.mark le its

  level_dirty : (j : ℕ) → j ≤ setup.shape.levels → stored_mark setup.shape grouped j ≡ true
      → is_cached_dirty setup.shape new.cache j (path_at setup.shape page j) ≡ true
  level_dirty j le mark = at (cached_slot g new.cache j (path_at g page j) (it.cached.each j le))
    where
      at : (slot : Slot) × Contains (set_of new.cache j (set_index g (path_at g page j))) slot × (slot.position ≡ path_at g page j)
          → is_cached_dirty g new.cache j (path_at g page j) ≡ true
      at (slot, stands, its) =
          subst (λ y. is_cached_dirty g new.cache j y ≡ true) its
          (is_cached_dirty_from g new.cache j slot
          (subst (λ y. Contains (set_of new.cache j (set_index g y)) slot) (sym its) stands)
          (level_mark j le slot stands its ∙ mark))

  -- a block of the path that isn't grouped is above those that are
  above : (x : ℕ) → is_on_path setup.shape page x ≡ true → is_grouped setup.shape page grouped x ≡ false
      → level_of x < setup.shape.levels + 1 - grouped
  above x on un =
      leb-false (g.levels + 1 - grouped) (level_of x)
      (ap (λ b. b && nat_le (g.levels + 1 - grouped) (level_of x)) (sym on) ∙ un)

  -- so its level is lazy
  above_lazy : (x : ℕ) → is_on_path setup.shape page x ≡ true → is_grouped setup.shape page grouped x ≡ false
      → is_lazy setup.shape (level_of x) ≡ true
  above_lazy x on un = lt-ltb (level_of x) (lazy_levels g) (omega (arith, above x on un, enough))

  -- the path is dirty but for the lines that are grouped, ..
  path_dirty : (x : ℕ) → is_on_path setup.shape page x ≡ true → is_grouped setup.shape page grouped x ≡ false
      → is_cached_dirty setup.shape new.cache (level_of x) x ≡ true
  path_dirty x on un =
      let at = on_path-level g page x path.few path.inside on in
      ap (is_cached_dirty g new.cache (level_of x)) (sym at.1)
      ∙ level_dirty (level_of x) at.0 (lt-ltb (level_of x) (g.levels + 1 - grouped) (above x on un))

  -- .. which are clean then
  pub block_clean : 1 ≤ grouped
      → is_cached_dirty setup.shape new.cache setup.shape.levels (counter_position setup.shape page) ≡ false
  block_clean some =
      elim (cases_Bool (is_cached_dirty g new.cache g.levels (counter_position g page))) [
        | inl dirty ↦ absurd (at (dirty_slot g new.cache g.levels (counter_position g page) dirty))
        | inr clean ↦ clean
      ]
    where
      last : path_at g page g.levels ≡ counter_position g page
      last = path_of-block g page

      at : (slot : Slot) × Contains (set_of new.cache g.levels (set_index g (counter_position g page))) slot
          × (slot.position ≡ counter_position g page) × (slot.dirty ≡ true) → ⊥
      at (slot, stands, its, dirty) =
          true≢false (sym dirty
          ∙ level_mark g.levels (omega arith) slot
          (subst (λ y. Contains (set_of new.cache g.levels (set_index g y)) slot) (sym last) stands) (its ∙ sym last)
          ∙ le-ltb g.levels (g.levels + 1 - grouped) (omega (arith, some)))

  -- ---- the truth step

  tree_here : IsTreeWith setup.shape setup.formulas page (packed new_block) root before.truth after.truth
  tree_here = new_tree root refl

  slots_named : ArePathSlotsNamed setup.shape old.cache old.mirror page
  slots_named =
      ArePathSlotsNamed-levels setup old regs before old.mirror page trusted it.banks_before path.few path.inside
      (λ j named. path.named.each j named)

  true_now : (bank set : ℕ) (slot : Slot) → IsSlotOfStoredPath setup.shape after.truth page (set_of old.cache bank set) slot
      → IsTrueSlot setup.shape after.truth bank set slot
  true_now bank set slot from =
      record {
        on_tree = subst (λ x. x < meta_lines g) from.position own.on_tree;
        true_line =
            elim (cases_Bool (is_on_path g page slot.position)) [
              | inl on ↦ from.on_path on
              | inr off ↦
                  sym (from.off_path off).0 ∙ own.true_line ∙ ap (line_at before.truth) from.position
                  ∙ sym (tree_here.off_path slot.position off)
            ];
        its_bank = ap level_of (sym from.position) ∙ own.its_bank;
        its_set = ap (set_index g) (sym from.position) ∙ own.its_set;
      }
    where
      own : IsTrueSlot g before.truth bank set from.before
      own = its_own bank set from.before from.stands

  -- a dirty slot of the path is of a lazy level
  dirty_lazy : (bank set : ℕ) (slot : Slot) → Contains (set_of new.cache bank set) slot → slot.dirty ≡ true
      → is_on_path setup.shape page slot.position ≡ true → IsTrue (is_lazy setup.shape bank)
  dirty_lazy bank set slot stands dirty on =
      let own = true_now bank set slot (stored_slot bank set slot stands) in
      let place = on_path_at bank slot.position own.its_bank on in
      let marked : nat_lt bank (g.levels + 1 - grouped) ≡ true =
      sym (level_mark bank place.0 slot
      (subst (λ n. Contains (set_of new.cache bank n) slot) (sym own.its_set ∙ ap (set_index g) place.1) stands) place.1) ∙ dirty in
      lt-ltb bank (lazy_levels g) (omega (arith, ltb-true bank (g.levels + 1 - grouped) marked, enough))

  dirty_level : (bank x : ℕ) → is_cached_dirty setup.shape new.cache bank x ≡ true → is_on_path setup.shape page x ≡ true
      → IsTrue (is_lazy setup.shape (level_of x))
  dirty_level bank x dirty on = at (dirty_slot g new.cache bank x dirty)
    where
      at : (slot : Slot) × Contains (set_of new.cache bank (set_index g x)) slot × (slot.position ≡ x) × (slot.dirty ≡ true)
          → IsTrue (is_lazy g (level_of x))
      at (slot, stands, its, was) =
          let own = true_now bank (set_index g x) slot (stored_slot bank (set_index g x) slot stands) in
          subst (λ n. IsTrue (is_lazy g n)) (sym own.its_bank ∙ ap level_of its)
          (dirty_lazy bank (set_index g x) slot stands was (ap (is_on_path g page) its ∙ on))

  named_now : ((bank set : ℕ) → All (IsDirtyNamed setup.shape old.mirror bank set) (set_of old.cache bank set)) → (bank set : ℕ)
      (slot : Slot) → Contains (set_of new.cache bank set) slot → IsDirtyNamed setup.shape old.mirror bank set slot
  named_now named bank set slot stands =
      record {
        lazy = λ dirty.
            elim (cases_Bool (is_on_path g page slot.position)) [
              | inl on ↦ dirty_lazy bank set slot stands dirty on
              | inr off ↦ (before_named from.stands).lazy ((from.off_path off).1 dirty)
            ];
        named = λ dirty low.
            as_before
            (elim (cases_Bool (is_on_path g page slot.position)) [
              | inl on ↦ slots_named.each bank set from.before from.stands (ap (is_on_path g page) from.position ∙ on) low
              | inr off ↦ (before_named from.stands).named ((from.off_path off).1 dirty) low
            ]);
      }
    where
      from : IsSlotOfStoredPath g after.truth page (set_of old.cache bank set) slot
      from = stored_slot bank set slot stands

      before_named : Contains (set_of old.cache bank set) from.before → IsDirtyNamed g old.mirror bank set from.before
      before_named was = All-stands (IsDirtyNamed g old.mirror bank set) (set_of old.cache bank set) from.before (named bank set) was

      as_before : IsSlotInShadow g old.mirror bank set from.before → IsSlotInShadow g old.mirror bank set slot
      as_before it =
          ap (λ way. slot_entry g old.mirror bank (set * g.ways + way)) (sym from.way) ∙ it ∙ ap (λ x. x + 1) from.position

  -- a mark that may leave the path dirty, whose seal without the block keeps what is stored of that
  pub new_path_step : (loss : ℕ) → IsTrue (list_any (is_touching page) (mark ∷ []))
      → (grouped ≡ 0 → (stored : Block) → IsStoredBlock loss stored (true_block setup.shape before.truth page)
      → IsStoredBlock loss stored (true_block setup.shape after.truth page))
      → IsTruthStep setup mark (is_grouped setup.shape page grouped) (λ x. new_line lines (level_of x)) loss old new before.truth
      after.truth
  new_path_step loss touches unwritten =
      record {
        shape = it.shape;
        mirror = it.mirror;
        true_slots =
            λ bank set.
            All-from_stands (IsTrueSlot g after.truth bank set) (set_of new.cache bank set)
            (λ slot stands. true_now bank set slot (stored_slot bank set slot stands));
        named =
            λ named bank set.
            All-from_stands (IsDirtyNamed g old.mirror bank set) (set_of new.cache bank set)
            (λ slot stands. named_now named bank set slot stands);
        touched =
            λ bank x dirty.
            elim (cases_Bool (is_on_path g page x)) [
              | inl on ↦ inr (page, touches, on, dirty_level bank x dirty on)
              | inr off ↦ inl (was_dirty bank x off dirty)
            ];
        entries =
            λ x within is.
            let at =
            on_path-level g page x path.few path.inside (and_parts (is_on_path g page x) (nat_le (g.levels + 1 - grouped) (level_of x)) is).0 in
            ap (line_at after.truth) (sym at.1) ∙ sym (line_is (level_of x) at.0);
        others =
            λ x within un.
            elim (cases_Bool (is_on_path g page x)) [
              | inl on ↦ inl (it.banks, path_dirty x on un)
              | inr off ↦ inr (tree_here.off_path x off, still_dirty x off)
            ];
        counters =
            λ other un stored is.
            elim (cases_eq other page) [
              | inl same ↦
                  subst (λ p. IsStoredBlock loss stored (true_block g after.truth p)) (sym same)
                  (unwritten
                  (not_written (ap (λ p. is_grouped g page grouped (counter_position g p)) (sym same) ∙ un))
                  stored (subst (λ p. IsStoredBlock loss stored (true_block g before.truth p)) same is))
              | inr apart ↦
                  subst (λ line. IsStoredBlock loss stored (unpacked line)) (sym (tree_here.other_blocks other apart)) is
            ];
        strict =
            λ x within strict un.
            elim (cases_Bool (is_on_path g page x)) [
              | inl on ↦ absurd (true≢false (sym (above_lazy x on un) ∙ strict))
              | inr off ↦ tree_here.off_path x off
            ];
      }
    where
      not_written : is_grouped g page grouped (counter_position g page) ≡ false → grouped ≡ 0
      not_written un =
          let on : is_on_path g page (counter_position g page) ≡ true =
          ap (is_on_path g page) (sym (path_of-block g page)) ∙ path_of-on_path g page g.levels (omega arith) in
          let level : level_of (counter_position g page) ≡ g.levels =
          ap level_of (sym (path_of-block g page)) ∙ path_of-level g page g.levels path.few path.inside (omega arith) in
          omega (arith, above (counter_position g page) on un, level)

-- ---- the numbers of the path's slots stay

module _ (g : Shape) (page grouped : ℕ) (lines : List (ℕ × Line)) (old new : ChipState)
    (it : HasStoredPath g page grouped lines old new) where
  pub path_number_kept : meta.IsPathCached g old.cache page → (j : ℕ) → j ≤ g.levels
      → path_number g new.cache page j ≡ path_number g old.cache page j
  path_number_kept cached j le = at (cached_slot g old.cache j (path_at g page j) (cached.each j le))
    where
      number_is : (cache : Banks) (slot : Slot) → IsBanksOf g cache
          → Contains (set_of cache j (set_index g (path_at g page j))) slot → slot.position ≡ path_at g page j
          → number_in g cache j (path_at g page j) ≡ slot_number g (set_index g (path_at g page j)) slot
      number_is cache slot form stands its =
          ap (λ found. unwrap_or (option_map (slot_number g (set_index g (path_at g page j))) found) 0)
          (ap (slot_with (set_of cache j (set_index g (path_at g page j)))) (sym its)
          ∙ slot_with-is (set_of cache j (set_index g (path_at g page j))) slot
          (form.distinct_positions j (set_index g (path_at g page j))) stands)

      from : (before : Slot) → Contains (set_of old.cache j (set_index g (path_at g page j))) before → before.position ≡ path_at g page j
          → (now : Slot) × Contains (set_of new.cache j (set_index g (path_at g page j))) now
          × storing.IsStoredSlot g page grouped lines j before now
          → path_number g new.cache page j ≡ path_number g old.cache page j
      from before was its (now, stands, is) =
          number_is new.cache now it.banks stands (is.position ∙ its)
          ∙ ap (λ way. set_index g (path_at g page j) * g.ways + way) is.way
          ∙ sym (number_is old.cache before it.banks_before was its)

      at : (slot : Slot) × Contains (set_of old.cache j (set_index g (path_at g page j))) slot × (slot.position ≡ path_at g page j)
          → path_number g new.cache page j ≡ path_number g old.cache page j
      at (slot, stands, its) =
          from slot stands its (it.slots.slots_before j (set_index g (path_at g page j)) slot stands)

  pub kept_named : meta.IsPathCached g old.cache page → IsPathNamedInMirror g old page → IsPathNamedInMirror g new page
  kept_named cached named =
      record {
        each = λ j low.
            ap₂ (λ mirror n. slot_entry g mirror j n) it.mirror (path_number_kept cached j (lazy_on_path g j (named-lazy g j low)))
            ∙ named.each j low;
      }
