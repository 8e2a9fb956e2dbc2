-- Laws of the trials on a device that can be mended: the true minor of each line is among those tried,
-- one that is tried alone is the true one, and two that are tried are a twin of the line's last seal.
use Rattle.std.proofs.Common.{rules, ℕ, ◌≡◌, ◌≢◌, ◌<◌, ◌≤◌, ◌+◌, ◌-◌, ◌*◌, ◌/◌, Bool, true, false, not, ◌&&◌, eqb, List, [], ◌∷◌, length, All, Option, Some, None, refl, ap, sym, ◌∙◌, subst, IsTrue, arith}
use Rattle.std.specs.Prelude.{option_map, filter, ◌==◌, if◌then◌else◌}
use Rattle.std.specs.List.{range_with_len, Contains}
use Rattle.std.proofs.lemmas.Bool.{eqb-true, and_parts, not-true}
use Rattle.std.proofs.lemmas.List.Elements.{All-head, All-tail}
use Rattle.pmem_base.specs.declared.lines.Line.{Line}
use Rattle.pmem_base.specs.declared.registers.Progress.{Progress}
use Rattle.pmem_base.specs.declared.registers.Regs.{Regs}
use Rattle.pmem_base.specs.Shape.{is_loss, counter_window}
use Rattle.pmem_base.specs.Layout as layout
use Rattle.pmem_base.specs.Layout.{page_of, index_in_page}
use Rattle.pmem_base.specs.Lines.{line_at, tag_slot}
use Rattle.pmem_base.specs.Registers.{is_done}
use Rattle.pmem_base.proofs.ByteLaws.{same_bytes-from, same_bytes-true}
use Rattle.pmem_base.proofs.ListLaws.{find_found, Contains_some, Contains_single, Contains-filter_range, All-filter_range, filter_range_rises}
use Rattle.stop_loss.proofs.Windows.{is_loss_pos, window_in_range}
use Rattle.split_counters.specs.Blocks.{minor_of, block_counter}
use Rattle.split_counters.proofs.StoredLaws.{unpacked-small}
use Rattle.bonsai_tree.specs.Positions.{counter_position}
use Rattle.page_reencrypt.specs.Registers.{register_held, counter_under}
use Rattle.page_reencrypt.proofs.Holding.{not_done-All}
use Rattle.seal_ledger.specs.Ledger.{LedgerState}
use Rattle.suite.specs.Setup.{Setup}
use Rattle.pmem_engine.specs.Truth.{true_block, true_counter}
use Rattle.pmem_engine.specs.Invariants.{IsHeldBack, stored_meta}
use Rattle.pmem_engine.specs.Mendable.{IsLineMendable}
use Rattle.pmem_engine.proofs.Laws.SealLaws.{seal_at, true_tag_met}
use Rattle.pmem_recovery.specs.Trials.{stored_block, is_tag_met, minors_tried, tried_minors, stored_minor, true_minor, IsTwinOfLastSeal}

-- ---- the window of a stored minor

undivided : (s t : ℕ) → s / 1 ≡ t / 1 → s ≡ t
undivided s t same = omega (arith, same)

-- the stored minor is at most the true one, with an equal quotient by the stop-loss number
pub minor_close : (setup : Setup) (lines : List Line) (regs : Regs) (ledger : LedgerState) (a : ℕ) → IsLineMendable setup lines regs ledger a → (stored_minor setup.shape lines a ≤ true_minor setup.shape ledger.truth a) × (stored_minor setup.shape lines a / regs.loss ≡ true_minor setup.shape ledger.truth a / regs.loss)
minor_close setup lines regs ledger a d = (its.0, by (setup.shape.persist == 0) its.1)
  where
    its : (stored_minor setup.shape lines a ≤ true_minor setup.shape ledger.truth a)
        × (stored_minor setup.shape lines a / counter_window setup.shape regs.loss ≡ true_minor setup.shape ledger.truth a / counter_window setup.shape regs.loss)
    its = d.counter_stored.close_minors (index_in_page a) (omega arith)

    -- without a window they are equal
    by : (lazy : Bool)
        → stored_minor setup.shape lines a / (if lazy then regs.loss else 1) ≡ true_minor setup.shape ledger.truth a / (if lazy then regs.loss else 1)
        → stored_minor setup.shape lines a / regs.loss ≡ true_minor setup.shape ledger.truth a / regs.loss
    by true same = same
    by false same = ap (λ n. n / regs.loss) (undivided (stored_minor setup.shape lines a) (true_minor setup.shape ledger.truth a) same)

pub same_majors : (setup : Setup) (lines : List Line) (regs : Regs) (ledger : LedgerState) (a : ℕ) → IsLineMendable setup lines regs ledger a → (stored_block setup.shape lines (page_of a)).major ≡ (true_block setup.shape ledger.truth (page_of a)).major
same_majors setup lines regs ledger a d = d.counter_stored.same_major

-- a minor that isn't below the stored one and has its quotient is below the window's end
window_end : (s t n : ℕ) → 0 < n → s ≤ t → s / n ≡ t / n → t < s + ((s / n) * n + n - s)
window_end s t n pos le e = search rules

-- and one in the window has its quotient
window_quotient : (s t n : ℕ) → 0 < n → s ≤ t → t < s + ((s / n) * n + n - s) → t / n ≡ s / n
window_quotient s t n pos low high = search rules

-- ---- lines that a register holds

-- a held line has the true minor 0, and the stored one is that
pub held_minor : (setup : Setup) (lines : List Line) (regs : Regs) (ledger : LedgerState) (a : ℕ) (register : Progress) → IsLineMendable setup lines regs ledger a → register_held regs.progress.items a ≡ Some register → (true_minor setup.shape ledger.truth a ≡ 0) × (stored_minor setup.shape lines a ≡ 0)
held_minor setup lines regs ledger a register d held =
    let found = find_found (λ r. eqb r.page (page_of a) && not (is_done r (index_in_page a))) (IsHeldBack setup.shape ledger.truth) regs.progress.items register d.anchored.held_back held in
    let tests = and_parts (eqb register.page (page_of a)) (not (is_done register (index_in_page a))) found.0 in
    let same : register.page ≡ page_of a = eqb-true register.page (page_of a) tests.0 in
    let zero_in_page : minor_of (true_block setup.shape ledger.truth register.page) (index_in_page a) ≡ 0 =
    not_done-All (λ i. minor_of (true_block setup.shape ledger.truth register.page) i ≡ 0) register (index_in_page a) (omega arith) (not-true (is_done register (index_in_page a)) tests.1) found.1.minors_zero in
    let is_zero : true_minor setup.shape ledger.truth a ≡ 0 =
    subst (λ page. minor_of (true_block setup.shape ledger.truth page) (index_in_page a) ≡ 0) same zero_in_page in
    let close = minor_close setup lines regs ledger a d in
    (is_zero, zero_below (stored_minor setup.shape lines a) (true_minor setup.shape ledger.truth a) close.0 is_zero)
  where
    zero_below : (s t : ℕ) → s ≤ t → t ≡ 0 → s ≡ 0
    zero_below s t h e = omega arith

-- ---- the true minor is tried

-- the tag under the stored major and the true minor is met, if no register holds the line
pub true_minor_met : (setup : Setup) (lines : List Line) (regs : Regs) (ledger : LedgerState) (a : ℕ) → IsLineMendable setup lines regs ledger a → register_held regs.progress.items a ≡ None → is_tag_met setup lines a (record { major = (stored_block setup.shape lines (page_of a)).major; minor = true_minor setup.shape ledger.truth a }) ≡ true
true_minor_met setup lines regs ledger a d unheld =
    same_bytes-from (setup.formulas.tag_of a (record { major = (stored_block setup.shape lines (page_of a)).major; minor = true_minor setup.shape ledger.truth a }) (line_at lines a)) (tag_slot (line_at lines (layout.tag_line setup.shape a)) a)
    (ap (λ major. setup.formulas.tag_of a (record { major = major; minor = true_minor setup.shape ledger.truth a }) (line_at lines a)) (same_majors setup lines regs ledger a d)
    ∙ ap (λ ctr. setup.formulas.tag_of a ctr (line_at lines a)) (sym counter)
    ∙ true_tag_met setup lines regs ledger a d)
  where
    counter : true_counter setup.shape regs.progress.items ledger.truth a ≡ block_counter (true_block setup.shape ledger.truth (page_of a)) (index_in_page a)
    counter = ap (λ o. counter_under o (true_block setup.shape ledger.truth (page_of a)) a) unheld

-- a held line has its stored minor alone
pub tried_minors-held : (setup : Setup) (lines : List Line) (regs : Regs) (a : ℕ) (register : Progress) → register_held regs.progress.items a ≡ Some register → tried_minors setup lines regs a ≡ stored_minor setup.shape lines a ∷ []
tried_minors-held setup lines regs a register q = search rules

-- any other has those of its stored minor's window whose tag is met
pub tried_minors-unheld : (setup : Setup) (lines : List Line) (regs : Regs) (a : ℕ) → register_held regs.progress.items a ≡ None → tried_minors setup lines regs a ≡ minors_tried setup lines regs.loss a None (stored_block setup.shape lines (page_of a))
tried_minors-unheld setup lines regs a q = search rules

-- the true minor is among those that are tried
pub Contains-tried_minors : (setup : Setup) (lines : List Line) (regs : Regs) (ledger : LedgerState) (a : ℕ) → IsLineMendable setup lines regs ledger a → Contains (tried_minors setup lines regs a) (true_minor setup.shape ledger.truth a)
Contains-tried_minors setup lines regs ledger a d = go (register_held regs.progress.items a) refl
  where
    go : (o : Option Progress) → register_held regs.progress.items a ≡ o → Contains (tried_minors setup lines regs a) (true_minor setup.shape ledger.truth a)
    go (Some register) q =
        let zeros = held_minor setup lines regs ledger a register d q in
        subst (λ l. Contains l (true_minor setup.shape ledger.truth a)) (sym (tried_minors-held setup lines regs a register q))
        (0, omega arith, zeros.1 ∙ sym zeros.0)
    go None q =
        let pos = is_loss_pos regs.loss d.anchored.valid_regs.known_loss in
        let close = minor_close setup lines regs ledger a d in
        subst (λ l. Contains l (true_minor setup.shape ledger.truth a)) (sym (tried_minors-unheld setup lines regs a q))
        (Contains-filter_range (λ minor. is_tag_met setup lines a (record { major = (stored_block setup.shape lines (page_of a)).major; minor = minor }))
        (stored_minor setup.shape lines a) ((stored_minor setup.shape lines a / regs.loss) * regs.loss + regs.loss - stored_minor setup.shape lines a)
        (true_minor setup.shape ledger.truth a) close.0
        (window_end (stored_minor setup.shape lines a) (true_minor setup.shape ledger.truth a) regs.loss pos close.0 close.1)
        (true_minor_met setup lines regs ledger a d q))

-- so there is always one: no line is without a counter
pub tried_minors_some : (setup : Setup) (lines : List Line) (regs : Regs) (ledger : LedgerState) (a : ℕ) → IsLineMendable setup lines regs ledger a → length (tried_minors setup lines regs a) ≢ 0
tried_minors_some setup lines regs ledger a d =
    Contains_some (tried_minors setup lines regs a) (true_minor setup.shape ledger.truth a) (Contains-tried_minors setup lines regs ledger a d)

-- and one alone is the true one
pub tried_minors_single : (setup : Setup) (lines : List Line) (regs : Regs) (ledger : LedgerState) (a : ℕ) → IsLineMendable setup lines regs ledger a → length (tried_minors setup lines regs a) ≡ 1 → tried_minors setup lines regs a ≡ true_minor setup.shape ledger.truth a ∷ []
tried_minors_single setup lines regs ledger a d one =
    Contains_single (tried_minors setup lines regs a) (true_minor setup.shape ledger.truth a) (Contains-tried_minors setup lines regs ledger a d) one

-- ---- two or more

-- two minors that are tried: the line isn't held, both are in the window, both tags are met
pub record AreTwoTried (setup : Setup) (lines : List Line) (regs : Regs) (a low high : ℕ) : Type 0 where
  pub in_order : low < high
  pub in_range : high ≤ 127
  pub low_quotient : low / regs.loss ≡ stored_minor setup.shape lines a / regs.loss
  pub high_quotient : high / regs.loss ≡ stored_minor setup.shape lines a / regs.loss
  pub low_met : setup.formulas.tag_of a (record { major = (stored_block setup.shape lines (page_of a)).major; minor = low }) (line_at lines a) ≡ tag_slot (line_at lines (layout.tag_line setup.shape a)) a
  pub high_met : setup.formulas.tag_of a (record { major = (stored_block setup.shape lines (page_of a)).major; minor = high }) (line_at lines a) ≡ tag_slot (line_at lines (layout.tag_line setup.shape a)) a

one_not_two : (s low high : ℕ) (rest : List ℕ) → s ∷ [] ≡ low ∷ high ∷ rest → ⊥
one_not_two s low high rest e = cc

-- this holds of any device, tampered with or not
pub two_tried : (setup : Setup) (lines : List Line) (regs : Regs) (a low high : ℕ) (rest : List ℕ) → IsTrue (is_loss regs.loss) → tried_minors setup lines regs a ≡ low ∷ high ∷ rest → AreTwoTried setup lines regs a low high
two_tried setup lines regs a low high rest known e = go (register_held regs.progress.items a) refl
  where
    met : ℕ → Bool
    met minor = is_tag_met setup lines a (record { major = (stored_block setup.shape lines (page_of a)).major; minor = minor })

    s : ℕ
    s = stored_minor setup.shape lines a

    width : ℕ
    width = (s / regs.loss) * regs.loss + regs.loss - s

    from_window : filter met (range_with_len s width) ≡ low ∷ high ∷ rest → AreTwoTried setup lines regs a low high
    from_window f =
        let pos = is_loss_pos regs.loss known in
        let all = subst (λ l. All (λ z. (s ≤ z) × (z < s + width) × (met z ≡ true)) l) f (All-filter_range met s width) in
        let first = All-head (λ z. (s ≤ z) × (z < s + width) × (met z ≡ true)) low (high ∷ rest) all in
        let second = All-head (λ z. (s ≤ z) × (z < s + width) × (met z ≡ true)) high rest (All-tail (λ z. (s ≤ z) × (z < s + width) × (met z ≡ true)) low (high ∷ rest) all) in
        let small : s ≤ 127 = unpacked-small (stored_meta setup.shape lines (counter_position setup.shape (page_of a))) (index_in_page a) (omega arith) in
        let end : (s / regs.loss) * regs.loss + regs.loss ≤ 128 = window_in_range regs.loss s known small in
        record {
          in_order = filter_range_rises met s width low high rest f;
          in_range = omega (arith, second.1, end);
          low_quotient = window_quotient s low regs.loss pos first.0 first.1;
          high_quotient = window_quotient s high regs.loss pos second.0 second.1;
          low_met = same_bytes-true (setup.formulas.tag_of a (record { major = (stored_block setup.shape lines (page_of a)).major; minor = low }) (line_at lines a)) (tag_slot (line_at lines (layout.tag_line setup.shape a)) a) first.2;
          high_met = same_bytes-true (setup.formulas.tag_of a (record { major = (stored_block setup.shape lines (page_of a)).major; minor = high }) (line_at lines a)) (tag_slot (line_at lines (layout.tag_line setup.shape a)) a) second.2;
        }

    go : (o : Option Progress) → register_held regs.progress.items a ≡ o → AreTwoTried setup lines regs a low high
    go (Some register) q = absurd (one_not_two (stored_minor setup.shape lines a) low high rest (sym (tried_minors-held setup lines regs a register q) ∙ e))
    go None q = from_window (sym (tried_minors-unheld setup lines regs a q) ∙ e)

-- two tried minors are not of a held line
two_unheld : (setup : Setup) (lines : List Line) (regs : Regs) (a low high : ℕ) (rest : List ℕ) → tried_minors setup lines regs a ≡ low ∷ high ∷ rest → register_held regs.progress.items a ≡ None
two_unheld setup lines regs a low high rest e = go (register_held regs.progress.items a) refl
  where
    go : (o : Option Progress) → register_held regs.progress.items a ≡ o → register_held regs.progress.items a ≡ None
    go (Some register) q = absurd (one_not_two (stored_minor setup.shape lines a) low high rest (sym (tried_minors-held setup lines regs a register q) ∙ e))
    go None q = q

-- and without tampering they are of the line's last seal
pub twin_of_last_seal : (setup : Setup) (lines : List Line) (regs : Regs) (ledger : LedgerState) (a low high : ℕ) (rest : List ℕ) → IsLineMendable setup lines regs ledger a → tried_minors setup lines regs a ≡ low ∷ high ∷ rest → IsTwinOfLastSeal regs.loss ledger a (stored_block setup.shape lines (page_of a)).major low high (line_at lines a) (tag_slot (line_at lines (layout.tag_line setup.shape a)) a)
twin_of_last_seal setup lines regs ledger a low high rest d e =
    let found = seal_at setup lines regs ledger a d in
    let s = found.0 in
    let t = two_tried setup lines regs a low high rest d.anchored.valid_regs.known_loss e in
    let close = minor_close setup lines regs ledger a d in
    let counter : s.ctr ≡ block_counter (true_block setup.shape ledger.truth (page_of a)) (index_in_page a) =
    found.1.ctr ∙ ap (λ o. counter_under o (true_block setup.shape ledger.truth (page_of a)) a) (two_unheld setup lines regs a low high rest e) in
    let quotient : s.ctr.minor / regs.loss ≡ stored_minor setup.shape lines a / regs.loss = ap (λ c. c.minor / regs.loss) counter ∙ sym close.1 in
    record {
      its_cipher = ap (option_map (λ seal. seal.cipher)) found.1.is_last ∙ ap (λ c. Some c) found.1.cipher;
      its_tag = ap (option_map (λ seal. seal.tag)) found.1.is_last ∙ ap (λ c. Some c) found.1.tag;
      its_major = ap (option_map (λ seal. seal.ctr.major)) found.1.is_last ∙ ap (λ c. Some c) (ap (λ c. c.major) counter ∙ sym (same_majors setup lines regs ledger a d));
      low_in_window = ap (option_map (λ seal. seal.ctr.minor / regs.loss)) found.1.is_last ∙ ap (λ c. Some c) (quotient ∙ sym t.low_quotient);
      high_in_window = ap (option_map (λ seal. seal.ctr.minor / regs.loss)) found.1.is_last ∙ ap (λ c. Some c) (quotient ∙ sym t.high_quotient);
    }
