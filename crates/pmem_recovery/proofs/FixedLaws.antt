-- Laws of the fixed lines: on a device that can be mended, if every line tried has one minor, they are
-- the ledger's true lines, and so the found root is the register's.
use Rattle.std.proofs.Common.{ℕ, zero, suc, ◌≡◌, ◌<◌, ◌≤◌, ◌+◌, ◌-◌, ◌*◌, Bool, true, false, cond, List, length, map, None, refl, ap, sym, ◌∙◌, subst, inl, inr, ◌⊎◌, IsTrue, arith}
use Rattle.std.specs.Prelude.{slice_get, unwrap_or}
use Rattle.std.specs.List.{range_with_len}
use Rattle.std.proofs.lemmas.Bool.{false≢true}
use Rattle.std.proofs.lemmas.List.FromFn.{fill_by_all}
use Rattle.pmem_base.specs.declared.lines.Line.{Line}
use Rattle.pmem_base.specs.declared.registers.Regs.{Regs}
use Rattle.pmem_base.specs.Shape.{Shape, IsShape}
use Rattle.pmem_base.specs.Layout as layout
use Rattle.pmem_base.specs.Layout.{page_of, index_in_page}
use Rattle.pmem_base.specs.Lines.{line_at}
use Rattle.pmem_base.proofs.LineLemmas.{IsLine-line_at}
use Rattle.split_counters.specs.declared.Block.{Block}
use Rattle.split_counters.specs.Blocks.{minor_of, packed}
use Rattle.split_counters.proofs.Packing.{packed-unpacked}
use Rattle.split_counters.proofs.StoredLaws.{length-unpacked}
use Rattle.bonsai_tree.specs.Positions.{level_of, child_position, counter_position}
use Rattle.bonsai_tree.specs.Nodes.{node_over}
use Rattle.bonsai_tree.proofs.Levels.{IsAtLevel, child-IsAtLevel, level_of-le, level_of-IsAtLevel, counter_position-of_last, IsAtLevel-inner, level_start-le}
use Rattle.bonsai_tree.proofs.NodeLaws.{node_over-same}
use Rattle.seal_ledger.specs.Ledger.{LedgerState}
use Rattle.suite.specs.Setup.{Setup}
use Rattle.pmem_engine.specs.Truth.{true_block}
use Rattle.pmem_engine.specs.Invariants.{stored_meta, is_doubted, IsMendable}
use Rattle.pmem_engine.specs.Mendable.{IsLineMendable}
use Rattle.pmem_engine.proofs.Laws.SealLaws.{IsLineMendable-at}
use Rattle.pmem_recovery.specs.Trials.{stored_block, tried_minors, true_minor, first_undecided}
use Rattle.pmem_recovery.specs.Fixed.{fixed_minor, fixed_block, fixed_line_above, fixed_line, found_root}
use Rattle.pmem_recovery.proofs.TrialLaws.{tried_minors_single}
use Rattle.pmem_recovery.proofs.UndecidedLaws.{decided_lines}

-- ---- a doubted counter block

-- a minor tried alone is the true one
pub fixed_minor_true : (setup : Setup) (lines : List Line) (regs : Regs) (ledger : LedgerState) (a : ℕ) → IsLineMendable setup lines regs ledger a → length (tried_minors setup lines regs a) ≡ 1 → fixed_minor setup lines regs a ≡ true_minor setup.shape ledger.truth a
fixed_minor_true setup lines regs ledger a d one =
    ap (λ l. unwrap_or (slice_get l 0) 0) (tried_minors_single setup lines regs ledger a d one)

-- a block from its minors, place by place
pub block_from : (major n : ℕ) (f : ℕ → ℕ) (b : Block) → major ≡ b.major → length b.minors ≡ n → ((k : ℕ) → k < n → minor_of b k ≡ f k) → record { major = major; minors = map f (range_with_len 0 n) } ≡ b
block_from major n f b same long each =
    ap (λ m. record { major = m; minors = map f (range_with_len 0 n) }) same
    ∙ ap (λ l. record { major = b.major; minors = l }) (sym (fill_by_all f b.minors n 0 long each))

pub fixed_block_true : (setup : Setup) (lines : List Line) (regs : Regs) (ledger : LedgerState) (page : ℕ) → IsMendable setup lines regs ledger → page < layout.pages setup.shape → ((i : ℕ) → i < 64 → length (tried_minors setup lines regs (64 * page + i)) ≡ 1) → fixed_block setup lines regs page ≡ true_block setup.shape ledger.truth page
fixed_block_true setup lines regs ledger page d h one =
    block_from (stored_block setup.shape lines page).major 64 (λ i. fixed_minor setup lines regs (64 * page + i)) (true_block setup.shape ledger.truth page)
    (d.counters_stored page h).same_major
    (length-unpacked (line_at ledger.truth (counter_position setup.shape page)))
    each
  where
    each : (k : ℕ) → k < 64 → minor_of (true_block setup.shape ledger.truth page) k ≡ fixed_minor setup lines regs (64 * page + k)
    each k l =
        let same_page : page ≡ page_of (64 * page + k) = omega arith in
        let same_place : k ≡ index_in_page (64 * page + k) = omega arith in
        ap (λ q. minor_of (true_block setup.shape ledger.truth q) k) same_page
        ∙ ap (λ j. minor_of (true_block setup.shape ledger.truth (page_of (64 * page + k))) j) same_place
        ∙ sym (fixed_minor_true setup lines regs ledger (64 * page + k) (IsLineMendable-at setup lines regs ledger (64 * page + k) d (omega arith)) (one k l))

-- a doubted block made so, packed, is the true line of the page
pub packed_fixed_block : (setup : Setup) (lines : List Line) (regs : Regs) (ledger : LedgerState) (page : ℕ) → IsMendable setup lines regs ledger → page < layout.pages setup.shape → ((i : ℕ) → i < 64 → length (tried_minors setup lines regs (64 * page + i)) ≡ 1) → packed (fixed_block setup lines regs page) ≡ line_at ledger.truth (counter_position setup.shape page)
packed_fixed_block setup lines regs ledger page d h one =
    ap packed (fixed_block_true setup lines regs ledger page d h one)
    ∙ packed-unpacked (line_at ledger.truth (counter_position setup.shape page)) (IsLine-line_at ledger.truth (counter_position setup.shape page) d.anchored.of_shape.truth_lines)

-- ---- every position

-- a line that isn't doubted is the true one already
pub true_or_made : (setup : Setup) (lines : List Line) (regs : Regs) (ledger : LedgerState) (x : ℕ) (made : Line) → IsMendable setup lines regs ledger → x < layout.meta_lines setup.shape → (is_doubted setup.shape lines x ≡ true → made ≡ line_at ledger.truth x) → cond (is_doubted setup.shape lines x) made (stored_meta setup.shape lines x) ≡ line_at ledger.truth x
true_or_made setup lines regs ledger x made d h named = go (is_doubted setup.shape lines x) named (d.true_or_doubted x h)
  where
    go : (b : Bool) → (b ≡ true → made ≡ line_at ledger.truth x) → (stored_meta setup.shape lines x ≡ line_at ledger.truth x) ⊎ IsTrue b → cond b made (stored_meta setup.shape lines x) ≡ line_at ledger.truth x
    go true made_true stored = made_true refl
    go false made_true (inl same) = same
    go false made_true (inr t) = absurd (false≢true t)

on_tree_of_level : (g : Shape) (i x : ℕ) → i ≤ g.levels → IsAtLevel i x → x < layout.meta_lines g
on_tree_of_level g i x h l = IsAtLevel-inner (g.levels + 1) i x (omega arith) l

pub fixed_line_above_true : (setup : Setup) (lines : List Line) (regs : Regs) (ledger : LedgerState) → IsMendable setup lines regs ledger → first_undecided setup lines regs ≡ None → (j i x : ℕ) → i + j ≡ setup.shape.levels → IsAtLevel i x → fixed_line_above setup lines regs j x ≡ line_at ledger.truth x
fixed_line_above_true setup lines regs ledger d decided zero i x e l =
    let lowest : i ≡ setup.shape.levels = omega arith in
    let its_level : IsAtLevel setup.shape.levels x = subst (λ k. IsAtLevel k x) lowest l in
    let at = counter_position-of_last setup.shape x its_level in
    let page = x - counter_position setup.shape 0 in
    true_or_made setup lines regs ledger x (packed (fixed_block setup lines regs page)) d (on_tree_of_level setup.shape i x (omega arith) l)
    (λ named.
    packed_fixed_block setup lines regs ledger page d at.0
    (λ k small. decided_lines setup lines regs page k decided at.0 (subst (λ z. is_doubted setup.shape lines z ≡ true) (sym at.1) named) small)
    ∙ ap (line_at ledger.truth) at.1)
fixed_line_above_true setup lines regs ledger d decided (suc j) i x e l =
    true_or_made setup lines regs ledger x (node_over setup.formulas x (fixed_line_above setup lines regs j)) d (on_tree_of_level setup.shape i x (omega arith) l)
    (λ named.
    node_over-same setup.formulas x (fixed_line_above setup lines regs j) (line_at ledger.truth)
    (λ c small. fixed_line_above_true setup lines regs ledger d decided j (suc i) (child_position x c) (omega arith) (child-IsAtLevel i x c l small))
    ∙ sym (d.anchored.truth_is_tree.inner x (IsAtLevel-inner setup.shape.levels i x (omega arith) l)))

-- the fixed line of every position is the true one
pub fixed_line_true : (setup : Setup) (lines : List Line) (regs : Regs) (ledger : LedgerState) (x : ℕ) → IsShape setup.shape → IsMendable setup lines regs ledger → first_undecided setup lines regs ≡ None → x < layout.meta_lines setup.shape → fixed_line setup lines regs x ≡ line_at ledger.truth x
fixed_line_true setup lines regs ledger x shape d decided h =
    let low : level_of x ≤ setup.shape.levels = level_of-le setup.shape x shape.at_most_six_levels h in
    fixed_line_above_true setup lines regs ledger d decided (setup.shape.levels - level_of x) (level_of x) x (omega arith)
    (level_of-IsAtLevel setup.shape x shape.at_most_six_levels h)

-- so the found root is the register's
pub found_root_true : (setup : Setup) (lines : List Line) (regs : Regs) (ledger : LedgerState) → IsShape setup.shape → IsMendable setup lines regs ledger → first_undecided setup lines regs ≡ None → found_root setup lines regs ≡ regs.root
found_root_true setup lines regs ledger shape d decided =
    let on_tree : 0 < layout.meta_lines setup.shape = level_start-le 1 (setup.shape.levels + 1) (omega arith) in
    ap (setup.formulas.digest_of 0) (fixed_line_true setup lines regs ledger 0 shape d decided on_tree)
    ∙ sym d.anchored.root
