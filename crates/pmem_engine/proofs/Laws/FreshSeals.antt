-- Which seals come above the last ones: a write of a line, of a line not done in an open page, and a turn's reseal.
use Rattle.std.proofs.Common.{rules, ℕ, ◌≡◌, ◌<◌, ◌+◌, true, false, List, Option, Some, None, refl, sym, ap, subst, ◌∙◌, arith}
use Rattle.std.specs.Prelude.{not, ◌==◌, IsTrue, slice_index}
use Rattle.std.proofs.lemmas.Bool.{and_parts, eqb-true, not-true}
use Rattle.std.proofs.lemmas.Bool.Decides.{nat_tests}
use Rattle.std.proofs.lemmas.List.{set-get_or}
use Rattle.pmem_base.specs.declared.lines.Line.{Line}
use Rattle.pmem_base.specs.declared.lines.Ctr.{Ctr}
use Rattle.pmem_base.specs.declared.registers.Progress.{Progress}
use Rattle.pmem_base.specs.declared.registers.Regs.{Regs}
use Rattle.pmem_base.specs.Shape.{Shape}
use Rattle.pmem_base.specs.Layout.{page_of, index_in_page}
use Rattle.pmem_base.specs.Lines.{line_at}
use Rattle.pmem_base.specs.Marks.{is_below}
use Rattle.pmem_base.specs.Registers.{is_done, old_major}
use Rattle.pmem_base.proofs.LineLemmas.{IsLine-line_at}
use Rattle.split_counters.specs.declared.Block.{Block}
use Rattle.split_counters.specs.Blocks.{packed, unpacked, block_counter, minor_of, with_minor}
use Rattle.split_counters.proofs.Packing.{packed-unpacked}
use Rattle.bonsai_tree.specs.Positions.{counter_position}
use Rattle.bonsai_tree.specs.Paths.{IsTreeWith}
use Rattle.bonsai_tree.proofs.Trees.{IsTreeWith-itself}
use Rattle.page_reencrypt.specs.Registers.{is_holding, register_held, counter_under}
use Rattle.page_reencrypt.proofs.Holding.{counter_of-free, held-All, not_done-All, old_major-unpacked}
use Rattle.seal_ledger.specs.Ledger.{LedgerState}
use Rattle.suite.specs.Setup.{Setup}
use Rattle.pmem_engine.specs.Truth.{true_block, true_counter}
use Rattle.pmem_engine.specs.Invariants.{IsHeldBack, IsAnchored}
use Rattle.pmem_engine.specs.Sealed.{sealed_counter, sealed_block, IsSealed, IsResealed}
use Rattle.pmem_engine.proofs.Laws.AnchoredSeals.{anchored-sealed}

below_next_minor : (block : Block) (i : ℕ) (minor : ℕ) → slice_index block.minors i < minor → IsTrue (is_below (block_counter block i) (record { major = block.major; minor = minor }))
below_next_minor block i minor more = grind (arith, nat_tests)

below_next_major : (a b : Ctr) → a.major + 1 ≡ b.major → IsTrue (is_below a b)
below_next_major a b next = grind (arith, nat_tests)

-- ---- a line that no register holds

-- its counter is that of its page's true block, and the registers stay with the line done
pub free-true_counter : (g : Shape) (registers : List Progress) (truth : List Line) (a : ℕ) → register_held registers a ≡ None → true_counter g registers truth a ≡ block_counter (true_block g truth (page_of a)) (index_in_page a)
free-true_counter g registers truth a free = counter_of-free registers (true_block g truth (page_of a)) a free

-- ---- a line that a register holds

module _ (setup : Setup) (regs : Regs) (ledger : LedgerState) (a : ℕ) (register : Progress) (anchored : IsAnchored setup regs ledger) (held : register_held regs.progress.items a ≡ Some register) where
  parts : IsHeldBack setup.shape ledger.truth register × (is_holding register a ≡ true)
  parts = held-All (IsHeldBack setup.shape ledger.truth) regs.progress.items a register held anchored.held_back

  pub held-page : register.page ≡ page_of a
  held-page = eqb-true register.page (page_of a) (and_parts (register.page == page_of a) (not (is_done register (index_in_page a))) parts.1).0

  held-open : is_done register (index_in_page a) ≡ false
  held-open = not-true (is_done register (index_in_page a)) (and_parts (register.page == page_of a) (not (is_done register (index_in_page a))) parts.1).1

  -- its last counter is that of the old block, one major below the true one
  pub held-true_counter : true_counter setup.shape regs.progress.items ledger.truth a ≡ block_counter (unpacked register.old) (index_in_page a)
  held-true_counter = ap (λ r. counter_under r (true_block setup.shape ledger.truth (page_of a)) a) held

  pub held-next_major : old_major register + 1 ≡ (true_block setup.shape ledger.truth (page_of a)).major
  held-next_major = parts.0.next_major ∙ ap (λ p. (true_block setup.shape ledger.truth p).major) held-page

  -- and its true minor is 0
  pub held-minor : minor_of (true_block setup.shape ledger.truth (page_of a)) (index_in_page a) ≡ 0
  held-minor =
      subst (λ p. minor_of (true_block setup.shape ledger.truth p) (index_in_page a) ≡ 0) held-page
      (not_done-All (λ i. slice_index (true_block setup.shape ledger.truth register.page).minors i ≡ 0) register (index_in_page a) (omega arith) held-open parts.0.minors_zero)

  -- each seal under the true major comes above
  pub held-below : (minor : ℕ) → IsTrue (is_below (true_counter setup.shape regs.progress.items ledger.truth a) (sealed_counter setup.shape ledger.truth a minor))
  held-below minor = search (rules, old_major-unpacked, below_next_major, held-true_counter, held-next_major)

-- a turn's reseal of it, under the next major and 0: the truth stays
pub anchored-resealed : (setup : Setup) (a : ℕ) (register : Progress) (cipher : Line) (tag : List ℕ) (old_regs new_regs : Regs) (old new : LedgerState) → IsAnchored setup old_regs old → register_held old_regs.progress.items a ≡ Some register → IsResealed setup a cipher tag old_regs new_regs old new → IsAnchored setup new_regs new
anchored-resealed setup a register cipher tag old_regs new_regs old new anchored held it =
    let g = setup.shape in
    let f = setup.formulas in
    let sealed_page = page_of a in
    let line = line_at old.truth (counter_position g sealed_page) in
    let block = true_block g old.truth sealed_page in
    let zero_minor = held-minor setup old_regs old a register anchored held in
    let same_block : with_minor block (index_in_page a) 0 ≡ block =
    ap (λ (m : ℕ). with_minor block (index_in_page a) m) (sym zero_minor)
    ∙ ap (λ (ms : List ℕ). record block { minors = ms }) (set-get_or block.minors (index_in_page a) 0) in
    let same_line : packed (sealed_block g old.truth a 0) ≡ line = ap packed same_block ∙ packed-unpacked line (IsLine-line_at old.truth (counter_position g sealed_page) anchored.of_shape.truth_lines) in
    let stays = IsTreeWith-itself g f sealed_page old.truth old_regs.root anchored.truth_is_tree anchored.of_shape.truth_lines anchored.root in
    let truth : IsTreeWith g f sealed_page (packed (sealed_block g old.truth a 0)) new_regs.root old.truth new.truth =
    search rules in
    anchored-sealed setup a 0 cipher tag old_regs new_regs old new anchored
    (record {
      kept = it.kept;
      its_line = it.its_line;
      its_minor = omega arith;
      its_cipher = it.its_cipher;
      its_tag = it.its_tag;
      tagged = it.tagged;
      marks = it.marks;
      truth = truth;
      progress = it.progress;
    })
    (held-below setup old_regs old a register anchored held 0)

-- a write of a line, held or free, under its page's major and its next minor
pub anchored-raised : (setup : Setup) (a minor : ℕ) (cipher : Line) (tag : List ℕ) (old_regs new_regs : Regs) (old new : LedgerState) → IsAnchored setup old_regs old → minor ≡ minor_of (true_block setup.shape old.truth (page_of a)) (index_in_page a) + 1 → IsSealed setup a minor cipher tag old_regs new_regs old new → IsAnchored setup new_regs new
anchored-raised setup a minor cipher tag old_regs new_regs old new anchored raised it =
    anchored-sealed setup a minor cipher tag old_regs new_regs old new anchored it (by_register (register_held old_regs.progress.items a) refl)
  where
    block : Block
    block = true_block setup.shape old.truth (page_of a)

    by_register : (held : Option Progress) → register_held old_regs.progress.items a ≡ held → IsTrue (is_below (true_counter setup.shape old_regs.progress.items old.truth a) (sealed_counter setup.shape old.truth a minor))
    by_register None free =
        subst (λ ctr. IsTrue (is_below ctr (sealed_counter setup.shape old.truth a minor))) (sym (free-true_counter setup.shape old_regs.progress.items old.truth a free))
        (below_next_minor block (index_in_page a) minor (omega (arith, raised)))
    by_register (Some register) held = held-below setup old_regs old a register anchored held minor
