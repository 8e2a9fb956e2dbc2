-- The view of the marks has the ledger's true lines.
use Rattle.std.proofs.Common.{rules, ℕ, zero, suc, ◌≡◌, ◌<◌, ◌≤◌, ◌+◌, ◌-◌, ◌*◌, Bool, true, false, cond, List, [], ◌∷◌, map, Option, Some, None, inl, inr, refl, sym, ap, subst, ◌∙◌, arith}
use Rattle.std.specs.Prelude.{not, ◌==◌, slice_index}
use Rattle.std.specs.List.{find}
use Rattle.std.specs.Option.{option_map}
use Rattle.std.proofs.lemmas.Bool.{cases_Bool}
use Rattle.std.proofs.lemmas.List.{length-map, get_or-map, same_lists, get_or_default}
use Rattle.std.proofs.lemmas.List.FromFn.{length-map-range_with_len, get_or-map-range_with_len}
use Rattle.std.proofs.lemmas.Grind.{same_number_lists}
use Rattle.pmem_base.specs.declared.registers.Progress.{Progress}
use Rattle.pmem_base.specs.declared.registers.Regs.{Regs}
use Rattle.pmem_base.specs.Shape.{Shape, IsShape}
use Rattle.pmem_base.specs.Layout.{data_lines, pages, meta_lines, page_of, index_in_page, level_start}
use Rattle.pmem_base.specs.Lines.{line_at, zero_line}
use Rattle.pmem_base.specs.Registers.{places_of_page, is_done, old_major}
use Rattle.pmem_base.proofs.LineLemmas.{IsLine-line_at}
use Rattle.page_reencrypt.proofs.DoneBits.{length-places, get_or-places, is_left-not_done}
use Rattle.split_counters.specs.Blocks.{packed, unpacked, block_counter}
use Rattle.split_counters.proofs.Packing.{packed-unpacked}
use Rattle.bonsai_tree.specs.Positions.{child_position, level_of, counter_position}
use Rattle.bonsai_tree.proofs.Levels.{IsAtLevel, level_start-suc, level_start-pow, level_start-le, child-IsAtLevel, level_of-IsAtLevel, level_of-le}
use Rattle.bonsai_tree.proofs.NodeLaws.{node_over-same}
use Rattle.page_reencrypt.specs.Registers.{register_of, register_held}
use Rattle.page_reencrypt.proofs.Holding.{counter_of-free, free_from_none, free_from_done, registered-All, not_done-All}
use Rattle.seal_ledger.specs.Ledger.{LedgerState}
use Rattle.suite.specs.Setup.{Setup}
use Rattle.plain_model.specs.View.{DeviceView, view_of, counter_at, open_page, page_counters, is_left_in, minor_in_open, block_under, counter_block_of, true_line_above, true_line, true_lines}
use Rattle.plain_model.proofs.Views.{counter_at-last}
use Rattle.pmem_engine.specs.Truth.{true_block, true_counter}
use Rattle.pmem_engine.specs.Invariants.{IsHeldBack, register_page, IsAnchored}
use Rattle.pmem_engine.proofs.Laws.AnchoredSeals.{true_block-IsBlock}
use Rattle.pmem_base.proofs.ListLaws.{map-map}

-- the register of a page, as the view's open page
open_page-registers : (registers : List Progress) (page : ℕ) → find (λ opened. opened.page == page) (map register_page registers) ≡ option_map register_page (register_of registers page)
open_page-registers [] page = refl
open_page-registers (register ∷ registers) page =
    ap (λ rest. cond (register.page == page) (Some (register_page register)) rest) (open_page-registers registers page)
    ∙ map_cond (register.page == page) register (register_of registers page)
  where
    map_cond : (t : Bool) (first : Progress) (rest : Option Progress) → cond t (Some (register_page first)) (option_map register_page rest) ≡ option_map register_page (cond t (Some first) rest)
    map_cond v0 first rest = search rules

pub page_of_place : (page i : ℕ) → i < 64 → page_of (64 * page + i) ≡ page
page_of_place page i small = omega (arith, small)

place_in_page : (page i : ℕ) → i < 64 → index_in_page (64 * page + i) ≡ i
place_in_page page i small = omega (arith, small)

plus_zero : (n : ℕ) → n ≡ n + 0
plus_zero n = omega arith

module _ (setup : Setup) (regs : Regs) (ledger : LedgerState) (anchored : IsAnchored setup regs ledger) where
  abbrev geometry : Shape
  geometry = setup.shape

  abbrev view_now : DeviceView
  view_now = view_of geometry ledger.marks

  abbrev registers_now : List Progress
  registers_now = regs.progress.items

  -- the view's counters are the true ones
  pub view-counter : (a : ℕ) → a < data_lines geometry → counter_at view_now a ≡ true_counter geometry registers_now ledger.truth a
  view-counter a inside = counter_at-last geometry ledger.marks a (true_counter geometry registers_now ledger.truth a) inside (anchored.last_counters a inside)

  -- and its open pages the registers
  pub view-open_page : (page : ℕ) → open_page view_now page ≡ option_map register_page (register_of registers_now page)
  view-open_page page = ap (λ pages. find (λ opened. opened.page == page) pages) anchored.open_pages ∙ open_page-registers registers_now page

  -- the counter of a line that isn't held
  free_counter : (page i : ℕ) → page < pages geometry → i < 64 → register_held registers_now (64 * page + i) ≡ None → counter_at view_now (64 * page + i) ≡ block_counter (true_block geometry ledger.truth page) i
  free_counter page i inside small free = search (rules, counter_of-free, page_of_place, place_in_page, view-counter)

  -- 64 minors that are the true ones
  minors_of_page : (page : ℕ) (minor : ℕ → ℕ) → ((i : ℕ) → i < 64 → minor i ≡ slice_index (true_block geometry ledger.truth page).minors i) → map minor places_of_page ≡ (true_block geometry ledger.truth page).minors
  minors_of_page page minor same =
      let count = (true_block-IsBlock setup regs ledger page anchored).count in
      same_number_lists (map minor places_of_page) (true_block geometry ledger.truth page).minors
      (length-map places_of_page minor ∙ (length-places ∙ sym count))
      (λ i inside.
      let small : i < 64 = omega (arith, inside, length-map places_of_page minor, length-places) in
      get_or-map minor places_of_page i 0 0 (omega (arith, small, length-places))
      ∙ (ap minor (get_or-places i 0 small) ∙ same i small))

  closed_counter : (page i : ℕ) → page < pages geometry → register_of registers_now page ≡ None → i < 64 → counter_at view_now (64 * page + i) ≡ block_counter (true_block geometry ledger.truth page) i
  closed_counter page i inside none small =
      free_counter page i inside small (free_from_none registers_now (64 * page + i) (ap (register_of registers_now) (page_of_place page i small) ∙ none))

  block_closed : (page : ℕ) → page < pages geometry → register_of registers_now page ≡ None → block_under view_now page None ≡ true_block geometry ledger.truth page
  block_closed page inside none =
      let first : (counter_at view_now (64 * page)).major ≡ (true_block geometry ledger.truth page).major =
      ap (λ n. (counter_at view_now n).major) (plus_zero (64 * page)) ∙ ap (λ ctr. ctr.major) (closed_counter page 0 inside none (omega arith)) in
      let minors : map (λ ctr. ctr.minor) (page_counters view_now page) ≡ (true_block geometry ledger.truth page).minors =
      map-map (λ ctr. ctr.minor) (λ i. counter_at view_now (64 * page + i)) places_of_page
      ∙ minors_of_page page (λ i. (counter_at view_now (64 * page + i)).minor) (λ i small. ap (λ ctr. ctr.minor) (closed_counter page i inside none small)) in
      ap (λ (n : ℕ). record { major = n; minors = map (λ ctr. ctr.minor) (page_counters view_now page) }) first
      ∙ ap (λ (ms : List ℕ). record { major = (true_block geometry ledger.truth page).major; minors = ms }) minors

  -- a line of an open page has the minor of the page's true block: 0 where it isn't done
  open_minor : (page i : ℕ) (register : Progress) → page < pages geometry → register_of registers_now page ≡ Some register → i < 64 → minor_in_open view_now (register_page register) i ≡ slice_index (true_block geometry ledger.truth page).minors i
  open_minor page i register inside found small =
      let parts = registered-All (IsHeldBack geometry ledger.truth) registers_now page register found anchored.held_back in
      elim (cases_Bool (is_done register i)) [
        | inl done ↦
            let left : is_left_in (register_page register) i ≡ false = is_left-not_done register i small ∙ ap not done in
            let free : register_held registers_now (64 * page + i) ≡ None =
            free_from_done registers_now (64 * page + i) register anchored.valid_regs.distinct_pages (ap (register_of registers_now) (page_of_place page i small) ∙ found) (ap (is_done register) (place_in_page page i small) ∙ done) in
            ap (λ t. cond t 0 (counter_at view_now (64 * register.page + i)).minor) left
            ∙ (ap (λ p. (counter_at view_now (64 * p + i)).minor) parts.1
            ∙ ap (λ ctr. ctr.minor) (free_counter page i inside small free))
        | inr open_ ↦
            let left : is_left_in (register_page register) i ≡ true = is_left-not_done register i small ∙ ap not open_ in
            let zero_minor : slice_index (true_block geometry ledger.truth register.page).minors i ≡ 0 =
            not_done-All (λ j. slice_index (true_block geometry ledger.truth register.page).minors j ≡ 0) register i small open_ parts.0.minors_zero in
            ap (λ t. cond t 0 (counter_at view_now (64 * register.page + i)).minor) left
            ∙ (sym zero_minor ∙ ap (λ p. slice_index (true_block geometry ledger.truth p).minors i) parts.1)
      ]

  block_open : (page : ℕ) (register : Progress) → page < pages geometry → register_of registers_now page ≡ Some register → block_under view_now page (Some (register_page register)) ≡ true_block geometry ledger.truth page
  block_open page register inside found =
      let parts = registered-All (IsHeldBack geometry ledger.truth) registers_now page register found anchored.held_back in
      let major : old_major register + 1 ≡ (true_block geometry ledger.truth page).major = parts.0.next_major ∙ ap (λ p. (true_block geometry ledger.truth p).major) parts.1 in
      ap (λ (n : ℕ). record { major = n; minors = map (minor_in_open view_now (register_page register)) places_of_page }) major
      ∙ ap (λ (ms : List ℕ). record { major = (true_block geometry ledger.truth page).major; minors = ms }) (minors_of_page page (minor_in_open view_now (register_page register)) (λ i small. open_minor page i register inside found small))

  -- the view's counter block of a page is the true one
  pub view-block : (page : ℕ) → page < pages geometry → counter_block_of view_now page ≡ true_block geometry ledger.truth page
  view-block page inside = search (rules, view-open_page, block_closed, block_open)

  -- and so is every line, up from the blocks
  true_line_above-is : (k j x : ℕ) → k + j ≡ geometry.levels → IsAtLevel k x → true_line_above setup view_now j x ≡ line_at ledger.truth x
  true_line_above-is k zero x depth at =
      let last : k ≡ geometry.levels = omega (arith, depth) in
      let low : level_start geometry.levels ≤ x = subst (λ l. level_start l ≤ x) last at.from in
      let high : x < level_start (suc geometry.levels) = subst (λ l. x < level_start (suc l)) last at.below in
      let inside : x - level_start geometry.levels < pages geometry = omega (arith, low, high, level_start-suc geometry.levels, level_start-pow geometry.levels) in
      let back : counter_position geometry (x - level_start geometry.levels) ≡ x = omega (arith, low) in
      ap packed (view-block (x - level_start geometry.levels) inside)
      ∙ (ap (λ z. packed (unpacked (line_at ledger.truth z))) back
      ∙ packed-unpacked (line_at ledger.truth x) (IsLine-line_at ledger.truth x anchored.of_shape.truth_lines))
  true_line_above-is k (suc j) x depth at =
      let inner : x < level_start geometry.levels = omega (arith, at.below, level_start-le (suc k) geometry.levels (omega (arith, depth))) in
      node_over-same setup.formulas x (true_line_above setup view_now j) (line_at ledger.truth)
      (λ i small. true_line_above-is (suc k) j (child_position x i) (omega (arith, depth)) (child-IsAtLevel k x i at small))
      ∙ sym (anchored.truth_is_tree.inner x inner)

  pub true_line-is : IsShape geometry → (x : ℕ) → x < meta_lines geometry → true_line setup view_now x ≡ line_at ledger.truth x
  true_line-is shape x inside =
      let few = shape.at_most_six_levels in
      true_line_above-is (level_of x) (geometry.levels - level_of x) x (omega (arith, level_of-le geometry x few inside)) (level_of-IsAtLevel geometry x few inside)

  -- the view's true lines are the ledger's
  pub true_lines-are : IsShape geometry → true_lines setup view_now ≡ ledger.truth
  true_lines-are shape =
      same_lists (true_lines setup view_now) ledger.truth
      (length-map-range_with_len (true_line setup view_now) 0 (meta_lines geometry) ∙ sym anchored.of_shape.truth_count)
      (λ k d inside.
      let small : k < meta_lines geometry = omega (arith, inside, length-map-range_with_len (true_line setup view_now) 0 (meta_lines geometry)) in
      get_or-map-range_with_len (true_line setup view_now) 0 (meta_lines geometry) k k d small (omega arith)
      ∙ (true_line-is shape k small ∙ get_or_default ledger.truth k zero_line d (omega (arith, small, anchored.of_shape.truth_count))))
