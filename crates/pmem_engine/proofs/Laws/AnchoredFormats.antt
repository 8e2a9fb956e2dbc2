-- A formatted device is anchored.
use Rattle.std.proofs.Common.{rules, ℕ, zero, suc, ◌≡◌, ◌≢◌, ◌<◌, ◌≤◌, ◌+◌, cond, List, [], ◌∷◌, map, Some, None, inl, inr, refl, sym, ap, subst, ◌∙◌, arith}
use Rattle.std.specs.List.{All, range_with_len}
use Rattle.std.specs.Option.{option_map}
use Rattle.std.proofs.lemmas.Bool.{cases_eq, eq-eqb, ne_eqb}
use Rattle.std.proofs.lemmas.List.Elements.{All-nil, All-map}
use Rattle.pmem_base.specs.declared.lines.Ctr.{Ctr}
use Rattle.pmem_base.specs.declared.registers.Regs.{Regs}
use Rattle.pmem_base.specs.Shape.{Shape, IsShape}
use Rattle.pmem_base.specs.Layout.{data_lines, pages, page_of, index_in_page}
use Rattle.pmem_base.specs.Lines.{IsCtr, zero_line}
use Rattle.pmem_base.specs.Marks.{SealOf, seal_of, later_of, last_seal, IsAfter, IsFresh}
use Rattle.pmem_base.proofs.LineLemmas.{IsLine-zero_line}
use Rattle.suite.specs.Formulas.{AreInRange, cipher_of}
use Rattle.suite.proofs.CipherLemmas.{cipher_of-IsLine}
use Rattle.split_counters.specs.Blocks.{IsBlock, unpacked, block_counter}
use Rattle.split_counters.proofs.Packing.{unpacked-packed, zero_minors-zero, zero_block}
use Rattle.seal_ledger.specs.Ledger.{LedgerState, IsMark}
use Rattle.suite.specs.Setup.{Setup}
use Rattle.plain_model.specs.View.{DeviceView, start_view, view_after, view_after_marks, view_of, pages_with_done}
use Rattle.pmem_engine.specs.Truth.{true_block, true_counter}
use Rattle.pmem_engine.specs.Invariants.{IsSealTagged, IsHeldBack, register_page, IsAnchored}
use Rattle.pmem_engine.specs.Formatted.{first_seal, first_block, IsFormatted}
use Rattle.pmem_base.proofs.ListLaws.{All-into_range}

none_open_at_start : (g : Shape) → (start_view g).open_pages ≡ []
unfolding start_view
none_open_at_start g = refl

module _ (setup : Setup) where
  abbrev geometry : Shape
  geometry = setup.shape

  abbrev first_counter : Ctr
  first_counter = record { major = geometry.major; minor = 0 }

  abbrev first_sealed : ℕ → SealOf
  first_sealed a = record { ctr = first_counter; cipher = cipher_of setup.formulas a first_counter zero_line; tag = setup.formulas.tag_of a first_counter (cipher_of setup.formulas a first_counter zero_line) }

  seal_here : (a : ℕ) → seal_of (first_seal setup a) a ≡ Some (first_sealed a)
  seal_here a = ap (λ t. cond t (Some (first_sealed a)) None) (eq-eqb a a refl)

  seal_elsewhere : (b a : ℕ) → a ≢ b → seal_of (first_seal setup b) a ≡ None
  seal_elsewhere b a apart = ap (λ t. cond t (Some (first_sealed b)) None) (ne_eqb b a (λ same. apart (sym same)))

  none_before : (b n a : ℕ) → a < b → last_seal (map (first_seal setup) (range_with_len b n)) a ≡ None
  none_before b zero a before = refl
  none_before b (suc n) a before =
      ap (λ o. later_of o (last_seal (map (first_seal setup) (range_with_len (b + 1) n)) a)) (seal_elsewhere b a (omega (arith, before)))
      ∙ ap (later_of None) (none_before (b + 1) n a (omega (arith, before)))

  pub last_first : (b n a : ℕ) → b ≤ a → a < b + n → last_seal (map (first_seal setup) (range_with_len b n)) a ≡ Some (first_sealed a)
  last_first b zero a from below = absurd (omega (arith, from, below))
  last_first b (suc n) a from below =
      elim (cases_eq a b) [
        | inl same ↦
            ap (later_of (seal_of (first_seal setup b) a)) (none_before (b + 1) n a (omega (arith, same)))
            ∙ (ap (λ z. seal_of (first_seal setup z) a) (sym same) ∙ seal_here a)
        | inr apart ↦
            ap (later_of (seal_of (first_seal setup b) a)) (last_first (b + 1) n a (omega (arith, from, apart)) (omega (arith, below)))
      ]

  fresh_range : (b n : ℕ) → IsFresh (map (first_seal setup) (range_with_len b n))
  fresh_range b zero = tt
  fresh_range b (suc n) = (
    All-map (IsAfter (first_seal setup b)) (first_seal setup) (range_with_len (b + 1) n)
        (All-into_range (λ c. IsAfter (first_seal setup b) (first_seal setup c)) (b + 1) n (λ c after below same. absurd (omega (arith, after, same)))),
    fresh_range (b + 1) n,
  )

  none_open : (view : DeviceView) (xs : List ℕ) → view.open_pages ≡ [] → (view_after_marks view (map (first_seal setup) xs)).open_pages ≡ []
  none_open view [] none = none
  none_open view (a ∷ xs) none = none_open (view_after view (first_seal setup a)) xs (ap (λ pages. pages_with_done pages a) none)

  first_block-IsBlock : IsShape geometry → IsBlock (first_block geometry)
  first_block-IsBlock shape = zero_block geometry.major shape.major_in_range

  pub anchored-formatted : (regs : Regs) (ledger : LedgerState) → IsShape geometry → AreInRange setup.formulas → IsFormatted setup regs ledger → IsAnchored setup regs ledger
  anchored-formatted regs ledger shape in_range it =
      let ctr_in_range : IsCtr first_counter = record { major = shape.major_in_range; minor = omega arith } in
      let cipher_in_range = λ (a : ℕ). cipher_of-IsLine setup.formulas a first_counter zero_line in_range ctr_in_range IsLine-zero_line in
      let valid = first_block-IsBlock shape in
      let none : (a : ℕ) → true_counter geometry regs.progress.items ledger.truth a ≡ block_counter (true_block geometry ledger.truth (page_of a)) (index_in_page a) =
      λ a. ap (λ ps. true_counter geometry ps ledger.truth a) it.progress in
      let block : (page : ℕ) → page < pages geometry → true_block geometry ledger.truth page ≡ first_block geometry =
      λ page inside. ap unpacked (it.blocks page inside) ∙ unpacked-packed (first_block geometry) valid in
      let counter : (a : ℕ) → a < data_lines geometry → true_counter geometry regs.progress.items ledger.truth a ≡ first_counter =
      λ a inside.
      none a
      ∙ (ap (λ b. block_counter b (index_in_page a)) (block (page_of a) (omega (arith, inside)))
      ∙ ap (λ (m : ℕ). record { major = geometry.major; minor = m }) (zero_minors-zero (index_in_page a) (omega arith))) in
      record {
        of_shape =
            record {
              truth_count = it.tree.whole;
              truth_lines = it.whole;
              line_count = it.data_lines;
              marks_in_range =
                  subst (λ ms. All (IsMark geometry) ms) (sym it.marks)
                  (All-map (IsMark geometry) (first_seal setup) (range_with_len 0 (data_lines geometry))
                  (All-into_range (λ a. IsMark geometry (first_seal setup a)) 0 (data_lines geometry)
                  (λ a from below. (
                    omega (arith, below),
                    ctr_in_range,
                    cipher_in_range a,
                    in_range.tags a first_counter (cipher_of setup.formulas a first_counter zero_line) ctr_in_range (cipher_in_range a),
                  ))));
            };
        truth_is_tree = it.tree;
        root = it.root;
        last_counters =
            λ a inside.
            ap (λ ms. option_map (λ seal. seal.ctr) (last_seal ms a)) it.marks
            ∙ (ap (option_map (λ seal. seal.ctr)) (last_first 0 (data_lines geometry) a (omega arith) (omega (arith, inside)))
            ∙ ap Some (sym (counter a inside)));
        seals_tagged =
            subst (λ ms. All (IsSealTagged setup.formulas) ms) (sym it.marks)
            (All-map (IsSealTagged setup.formulas) (first_seal setup) (range_with_len 0 (data_lines geometry))
            (All-into_range (λ a. IsSealTagged setup.formulas (first_seal setup a)) 0 (data_lines geometry) (λ a from below. refl)));
        valid_regs =
            search rules;
        held_back = subst (λ ps. All (IsHeldBack geometry ledger.truth) ps) (sym it.progress) (All-nil (IsHeldBack geometry ledger.truth));
        fresh = subst IsFresh (sym it.marks) (fresh_range 0 (data_lines geometry));
        open_pages =
            ap (λ ms. (view_of geometry ms).open_pages) it.marks
            ∙ (none_open (start_view geometry) (range_with_len 0 (data_lines geometry)) (none_open_at_start geometry)
            ∙ ap (map register_page) (sym it.progress));
        no_exhibit = it.exhibit;
      }
