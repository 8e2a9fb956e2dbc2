-- What a device is on which the first k of the writes that are due are made: their prefix, still mendable, and fixed at the end.
use Rattle.std.proofs.Common.{ℕ, ◌≡◌, ◌≢◌, ◌<◌, ◌≤◌, ◌+◌, ◌-◌, ◌*◌, Bool, true, false, eqb, List, [], ◌∷◌, length, get_or, refl, ap, sym, ◌∙◌, subst, inl, inr, ◌⊎◌, arith}
use Rattle.std.proofs.lemmas.Bool.{false≢true, true≢false, and_left, eqb-true, cases_lt}
use Rattle.std.proofs.lemmas.List.{get_or_default}
use Rattle.std.proofs.lemmas.List.Elements.{All-head}
use Rattle.std.proofs.lemmas.List.Folds.{Any-from_list_any}
use Rattle.pmem_base.specs.declared.lines.Line.{Line}
use Rattle.pmem_base.specs.declared.registers.Regs.{Regs}
use Rattle.pmem_base.specs.Shape.{Shape, IsShape, is_lazy}
use Rattle.pmem_base.specs.Layout as layout
use Rattle.pmem_base.specs.Lines.{line_at, zero_line}
use Rattle.bonsai_tree.specs.Positions.{level_of}
use Rattle.bonsai_tree.proofs.Levels.{level_start-le}
use Rattle.seal_ledger.specs.Ledger.{LedgerState}
use Rattle.shadow_tables.specs.Entries.{shadow_of}
use Rattle.suite.specs.Setup.{Setup}
use Rattle.pmem_engine.specs.Invariants.{stored_meta, is_doubted, IsMendable}
use Rattle.pmem_engine.specs.Mendable.{IsAllTrue, IsShadowZero}
use Rattle.pmem_engine.proofs.Laws.MendableLaws.{is_doubted-zero, IsMendable-mending, line_at-shadow_of, shadow_of-same}
use Rattle.pmem_recovery.specs.declared.entries.MadeEntry.{MadeEntry}
use Rattle.pmem_recovery.specs.Fixed.{fixed_line, found_root}
use Rattle.pmem_recovery.specs.Upward.{is_other, IsBefore, IsMadeLine, AreMade}
use Rattle.pmem_recovery.specs.Writing.{DueWrite, due_zeros, writes_due, count_changed, AreDue}
use Rattle.pmem_recovery.specs.Mending.{HasMadeAll, IsWrittenTo, IsPartlyMended, IsRecovered}
use Rattle.pmem_recovery.specs.Fronts.{AreWrittenBefore, AreClearedTo, IsFrontWritten, AreFixed}
use Rattle.pmem_recovery.proofs.FixedEquations.{fixed_line-unnamed}
use Rattle.pmem_recovery.proofs.FixedLaws.{fixed_line_true}
use Rattle.pmem_recovery.proofs.WriteSteps.{is_other-same, count_changed-none}
use Rattle.pmem_recovery.proofs.WriteEnds.{due_made, due_zero}

-- ---- the order

not_both : (la lb a b : ℕ) → (lb < la) ⊎ ((la ≡ lb) × (a < b)) → (la < lb) ⊎ ((lb ≡ la) × (b < a)) → ⊥
not_both la lb a b (inl h) (inl k) = omega (arith, h, k)
not_both la lb a b (inl h) (inr k) = omega (arith, h, k.0)
not_both la lb a b (inr h) (inl k) = omega (arith, h.0, k)
not_both la lb a b (inr h) (inr k) = omega (arith, h.1, k.1)

abbrev no_entry : MadeEntry
no_entry = record { at = 0; line = record { 0 = [] }; changed = false }

-- if there are shadow tables and their lines are zero from the start, nothing is made
nothing_made : (setup : Setup) (lines : List Line) (regs : Regs) (done : ℕ → Type 0) (made : List MadeEntry) → setup.shape.shadow ≡ true → IsShadowZero setup lines → AreMade setup lines regs done made → made ≡ []
nothing_made setup lines regs done [] tables z m = refl
nothing_made setup lines regs done (entry ∷ made) tables z m =
    let line = All-head (IsMadeLine setup lines regs) entry made m.each in
    absurd (false≢true (sym (is_doubted-zero setup lines entry.at tables z) ∙ line.named))

module _ (setup : Setup) (lines : List Line) (regs : Regs) (shadow : List Line) (made : List MadeEntry) (all : HasMadeAll setup lines regs shadow made) where
  abbrev g : Shape
  g = setup.shape

  abbrev due : ℕ → DueWrite
  due = writes_due setup.shape shadow made

  abbrev total : ℕ
  total = length made + layout.shadow_lines setup.shape

  -- ---- each write is a made line's, or a zero's

  record IsMadeWrite (k : ℕ) : Type 0 where
    pub inside : k < length made
    pub place : (writes_due setup.shape shadow made k).place ≡ layout.meta_line setup.shape (get_or made k no_entry).at
    pub line : (writes_due setup.shape shadow made k).line ≡ (get_or made k no_entry).line
    pub changed : (writes_due setup.shape shadow made k).changed ≡ (get_or made k no_entry).changed
    pub its : IsMadeLine setup lines regs (get_or made k no_entry)

  record IsZeroWrite (k : ℕ) : Type 0 where
    pub number : ℕ
    pub at : k ≡ length made + number
    pub inside : number < layout.shadow_lines setup.shape
    pub place : (writes_due setup.shape shadow made k).place ≡ layout.shadow_line setup.shape number
    pub line : (writes_due setup.shape shadow made k).line ≡ zero_line
    pub changed : (writes_due setup.shape shadow made k).changed ≡ is_other (line_at lines (layout.shadow_line setup.shape number)) zero_line

  of_made : (k : ℕ) → k < length made → IsMadeWrite k
  of_made k low =
      let same = due_made g shadow made k no_entry low in
      record {
        inside = low;
        place = ap (λ (w : DueWrite). w.place) same;
        line = ap (λ (w : DueWrite). w.line) same;
        changed = ap (λ (w : DueWrite). w.changed) same;
        its = all.all_made.each k no_entry low;
      }

  which : (k : ℕ) → k < total → IsMadeWrite k ⊎ IsZeroWrite k
  which k low = go (cases_lt k (length made))
    where
      go : (k < length made) ⊎ (length made ≤ k) → IsMadeWrite k ⊎ IsZeroWrite k
      go (inl less) = inl (of_made k less)
      go (inr le) =
          let n : ℕ = k - length made in
          let at : k ≡ length made + n = omega (arith, le) in
          let small : n < layout.shadow_lines g = omega (arith, low, le) in
          let same : due k ≡ due_zeros g shadow n = ap due at ∙ due_zero g shadow made n in
          let read : line_at shadow n ≡ line_at lines (layout.shadow_line g n) = ap (λ s. line_at s n) all.its_shadow ∙ line_at-shadow_of g lines n small in
          inr (record {
            number = n;
            at = at;
            inside = small;
            place = ap (λ (w : DueWrite). w.place) same;
            line = ap (λ (w : DueWrite). w.line) same;
            changed = ap (λ (w : DueWrite). w.changed) same ∙ ap (λ l. is_other l zero_line) read;
          })

  pub are_due : length lines ≡ layout.device_lines setup.shape → AreDue (writes_due setup.shape shadow made) (length made + layout.shadow_lines setup.shape) lines
  are_due whole =
      record {
        inside = λ k low. inside k (which k low);
        distinct = λ j k less low e. apart j k less (which j (omega arith)) (which k low) e;
        compared = λ k low. compared k (which k low);
      }
    where
      inside : (k : ℕ) → IsMadeWrite k ⊎ IsZeroWrite k → (due k).place < length lines
      inside k (inl m) = omega (arith, m.place, m.its.on_tree, whole)
      inside k (inr z) = omega (arith, z.place, z.inside, whole)

      apart : (j k : ℕ) → j < k → IsMadeWrite j ⊎ IsZeroWrite j → IsMadeWrite k ⊎ IsZeroWrite k → (due j).place ≡ (due k).place → ⊥
      apart j k less (inl a) (inl b) e = all.all_made.distinct j k no_entry less b.inside (omega (arith, e, a.place, b.place))
      apart j k less (inl a) (inr b) e = omega (arith, e, a.place, b.place, a.its.on_tree)
      apart j k less (inr a) (inl b) e = omega (arith, less, a.at, b.inside)
      apart j k less (inr a) (inr b) e = omega (arith, less, e, a.place, b.place, a.at, b.at)

      compared : (k : ℕ) → IsMadeWrite k ⊎ IsZeroWrite k → (due k).changed ≡ is_other (line_at lines (due k).place) (due k).line
      compared k (inl m) =
          m.changed ∙ m.its.compared ∙ ap (λ n. is_other (line_at lines n) (get_or made k no_entry).line) (sym m.place)
          ∙ ap (is_other (line_at lines (due k).place)) (sym m.line)
      compared k (inr z) =
          z.changed ∙ ap (λ n. is_other (line_at lines n) zero_line) (sym z.place) ∙ ap (is_other (line_at lines (due k).place)) (sym z.line)

  -- if there are shadow lines and all are zero, none is made
  pub none_changed : setup.shape.shadow ≡ true → IsShadowZero setup lines → (k : ℕ) → k ≤ length made + layout.shadow_lines setup.shape → count_changed (writes_due setup.shape shadow made) k ≡ 0
  none_changed tables cleared k few = count_changed-none due k (λ j low. same j (which j (omega (arith, low, few))))
    where
      empty : length made ≡ 0
      empty = ap length (nothing_made setup lines regs (λ x. layout.level_start 0 ≤ x) made tables cleared all.all_made)

      same : (j : ℕ) → IsMadeWrite j ⊎ IsZeroWrite j → (due j).changed ≡ false
      same j (inl m) = absurd (omega (arith, m.inside, empty))
      same j (inr z) = z.changed ∙ ap (λ l. is_other l zero_line) (cleared.zero_lines z.number z.inside) ∙ is_other-same zero_line

  -- ---- the first k are made

  module _ (k : ℕ) (now : List Line) (w : IsWrittenTo setup lines regs shadow made k now) where
    -- data lines and tag lines are as they were
    pub data_same : (n : ℕ) → n < 80 * layout.pages setup.shape → line_at now n ≡ line_at lines n
    data_same n low = w.are_written.others n (λ j less e. apart j e (which j (omega (arith, less, w.few))))
      where
        apart : (j : ℕ) → (due j).place ≡ n → IsMadeWrite j ⊎ IsZeroWrite j → ⊥
        apart j e (inl m) = omega (arith, e, m.place, low)
        apart j e (inr z) = omega (arith, e, z.place, low)

    -- and so is a shadow line that isn't reached
    shadow_same : (n : ℕ) → layout.shadow_line setup.shape 0 ≤ n → k + layout.shadow_line setup.shape 0 ≤ length made + n → line_at now n ≡ line_at lines n
    shadow_same n high before = w.are_written.others n (λ j less e. apart j less e (which j (omega (arith, less, w.few))))
      where
        apart : (j : ℕ) → j < k → (due j).place ≡ n → IsMadeWrite j ⊎ IsZeroWrite j → ⊥
        apart j less e (inl m) = omega (arith, e, m.place, high, m.its.on_tree)
        apart j less e (inr z) = omega (arith, e, z.place, z.at, less, before)

    zeroed : (n : ℕ) → n < layout.shadow_lines setup.shape → length made + n < k → line_at now (layout.shadow_line setup.shape n) ≡ zero_line
    zeroed n small less =
        subst (λ (d : DueWrite). line_at now d.place ≡ d.line) (due_zero g shadow made n) (w.are_written.each (length made + n) less)

    -- a position that none of the first ones is for is as it was
    as_read : (x : ℕ) → x < layout.meta_lines setup.shape → ((j : ℕ) → j < k → j < length made → (get_or made j no_entry).at ≢ x)
        → stored_meta setup.shape now x ≡ stored_meta setup.shape lines x
    as_read x on_tree apart = w.are_written.others (layout.meta_line g x) (λ j less e. other j less e (which j (omega (arith, less, w.few))))
      where
        other : (j : ℕ) → j < k → (due j).place ≡ layout.meta_line g x → IsMadeWrite j ⊎ IsZeroWrite j → ⊥
        other j less e (inl m) = apart j less m.inside (omega (arith, e, m.place))
        other j less e (inr z) = omega (arith, e, z.place, on_tree)

    as_unnamed : (x : ℕ) → x < layout.meta_lines setup.shape → is_doubted setup.shape lines x ≡ false → stored_meta setup.shape now x ≡ stored_meta setup.shape lines x
    as_unnamed x on_tree none =
        as_read x on_tree
        (λ j less inside same. true≢false (sym (all.all_made.each j no_entry inside).named ∙ ap (is_doubted g lines) same ∙ none))

    -- the write of a doubted position
    record IsWriteOf (x j : ℕ) : Type 0 where
      pub inside : j < length made
      pub here : (get_or made j no_entry).at ≡ x

    write_of : (x : ℕ) → x < layout.meta_lines setup.shape → is_doubted setup.shape lines x ≡ true → (j : ℕ) × IsWriteOf x j
    write_of x on_tree named =
        let found = Any-from_list_any (λ e. eqb e.at x) made (all.all_made.every x on_tree (omega arith) named) in
        let entry : MadeEntry = found.1 in
        let same : get_or made found.0 no_entry ≡ get_or made found.0 entry = get_or_default made found.0 no_entry entry found.2 in
        (found.0, record { inside = found.2; here = ap (λ (z : MadeEntry). z.at) (same ∙ found.3) ∙ eqb-true entry.at x found.4 })

    fixed_at : (x j : ℕ) → IsWriteOf x j → j < k → stored_meta setup.shape now x ≡ fixed_line setup lines regs x
    fixed_at x j f less =
        let m = of_made j f.inside in
        subst (λ z. stored_meta g now z ≡ fixed_line setup lines regs z) f.here
        (ap (line_at now) (sym m.place) ∙ w.are_written.each j less ∙ m.line ∙ m.its.fixed)

    -- ---- all lines made are written

    pub all_fixed : length made ≤ k → (x : ℕ) → x < layout.meta_lines setup.shape → stored_meta setup.shape now x ≡ fixed_line setup lines regs x
    all_fixed up x on_tree = go (is_doubted g lines x) refl
      where
        go : (b : Bool) → is_doubted g lines x ≡ b → stored_meta g now x ≡ fixed_line setup lines regs x
        go true q = let f = write_of x on_tree q in fixed_at x f.0 f.1 (omega (arith, f.1.inside, up))
        go false q = as_unnamed x on_tree q ∙ sym (fixed_line-unnamed setup lines regs x q)

    pub all_true : (ledger : LedgerState) → IsShape setup.shape → IsMendable setup lines regs ledger → length made ≤ k → IsAllTrue setup now ledger
    all_true ledger shape d up =
        record { true_lines = λ x h. all_fixed up x h ∙ fixed_line_true setup lines regs ledger x shape d all.has_root.decided h }

    -- ---- what can be mended still can

    pub still_mendable : (ledger : LedgerState) → IsShape setup.shape → IsMendable setup lines regs ledger → IsMendable setup now regs ledger
    still_mendable ledger shape d =
        IsMendable-mending setup lines now regs ledger
        (record { same_data = data_same; same_or_true = λ x h. at x h (is_doubted g lines x) refl; same_names_or_true = names (cases_lt (length made) k) })
        d
      where
        by_place : (x j : ℕ) → x < layout.meta_lines g → IsWriteOf x j → (j < k) ⊎ (k ≤ j) → (stored_meta g now x ≡ stored_meta g lines x) ⊎ (stored_meta g now x ≡ line_at ledger.truth x)
        by_place x j h f (inl less) = inr (fixed_at x j f less ∙ fixed_line_true setup lines regs ledger x shape d all.has_root.decided h)
        by_place x j h f (inr le) =
            inl (as_read x h (λ i less inside same. all.all_made.distinct i j no_entry (omega arith) f.inside (same ∙ sym f.here)))

        at : (x : ℕ) → x < layout.meta_lines g → (b : Bool) → is_doubted g lines x ≡ b → (stored_meta g now x ≡ stored_meta g lines x) ⊎ (stored_meta g now x ≡ line_at ledger.truth x)
        at x h true q = let f = write_of x h q in by_place x f.0 h f.1 (cases_lt f.0 k)
        at x h false q = inl (as_unnamed x h q)

        names : (length made < k) ⊎ (k ≤ length made) → (shadow_of g now ≡ shadow_of g lines) ⊎ IsAllTrue setup now ledger
        names (inl more) = inr (all_true ledger shape d (omega arith))
        names (inr few) = inl (shadow_of-same g lines now w.are_written.count (λ n high. shadow_same n high (omega (arith, high, few))))

    -- ---- the front of the writes

    abbrev next : ℕ
    next = (get_or made k no_entry).at

    before_next : k < length made → AreWrittenBefore setup lines regs (get_or made k no_entry).at now
    before_next less =
        record {
          root = all.has_root;
          fixed = λ x h before. fixed x h before (is_doubted g lines x) refl;
          others = λ x h not.
              as_read x h (λ j low inside same. not (subst (λ a. IsBefore a next) same (all.all_made.in_order j k no_entry low less)));
          shadow_kept = λ m small. shadow_same (layout.shadow_line g m) (omega arith) (omega arith);
        }
      where
        -- a line made for a position before the next one was made before it
        made_before : (x j : ℕ) → IsWriteOf x j → IsBefore x next → (j < k) ⊎ (k ≤ j) → j < k
        made_before x j f before (inl low) = low
        made_before x j f before (inr le) = absurd (late (cases_lt k j))
          where
            late : (k < j) ⊎ (j ≤ k) → ⊥
            late (inl later) =
                let after : IsBefore next x = subst (IsBefore next) f.here (all.all_made.in_order k j no_entry later f.inside) in
                not_both (level_of x) (level_of next) x next before after
            late (inr early) =
                let same : j ≡ k = omega (arith, early, le) in
                let its : next ≡ x = ap (λ i. (get_or made i no_entry).at) (sym same) ∙ f.here in
                let itself : IsBefore x x = subst (IsBefore x) its before in
                not_both (level_of x) (level_of x) x x itself itself

        fixed : (x : ℕ) → x < layout.meta_lines g → IsBefore x next → (b : Bool) → is_doubted g lines x ≡ b → stored_meta g now x ≡ fixed_line setup lines regs x
        fixed x h before true q = let f = write_of x h q in fixed_at x f.0 f.1 (made_before x f.0 f.1 before (cases_lt f.0 k))
        fixed x h before false q = as_unnamed x h q ∙ sym (fixed_line-unnamed setup lines regs x q)

    pub its_front : IsFrontWritten setup lines regs now
    its_front = inr (go (cases_lt k (length made)))
      where
        go : (k < length made) ⊎ (length made ≤ k) → ((next : ℕ) × (is_doubted g lines next ≡ true) × AreWrittenBefore setup lines regs next now) ⊎ ((n : ℕ) × AreClearedTo setup lines regs n now)
        go (inl less) = inl ((get_or made k no_entry).at, (all.all_made.each k no_entry less).named, before_next less)
        go (inr up) =
            inr (
              k - length made,
              record {
                root = all.has_root;
                fixed = all_fixed up;
                zero = λ m low. zeroed m (omega (arith, low, w.few)) (omega (arith, low));
                others = λ m from small. shadow_same (layout.shadow_line g m) (omega arith) (omega (arith, from, up));
              },
            )

-- ---- a device that is partly mended

module _ (setup : Setup) (lines : List Line) (regs : Regs) (now : List Line) where
  pub partly-data : (n : ℕ) → IsPartlyMended setup lines regs now → n < 80 * layout.pages setup.shape → line_at now n ≡ line_at lines n
  partly-data n (inl same) low = ap (λ l. line_at l n) same
  partly-data n (inr (shadow, made, k, w)) low = data_same setup lines regs shadow made w.all k now w n low

  -- a line of a strict level is as it was
  pub partly-strict : (x : ℕ) → IsPartlyMended setup lines regs now → x < layout.meta_lines setup.shape → is_lazy setup.shape (level_of x) ≡ false
      → stored_meta setup.shape now x ≡ stored_meta setup.shape lines x
  partly-strict x (inl same) on_tree strict = ap (λ l. stored_meta setup.shape l x) same
  partly-strict x (inr (shadow, made, k, w)) on_tree strict =
      as_unnamed setup lines regs shadow made w.all k now w x on_tree (and_left (is_lazy setup.shape (level_of x)) _ strict)

  pub partly-mendable : (ledger : LedgerState) → IsShape setup.shape → IsMendable setup lines regs ledger → IsPartlyMended setup lines regs now → IsMendable setup now regs ledger
  partly-mendable ledger shape d (inl same) = subst (λ l. IsMendable setup l regs ledger) (sym same) d
  partly-mendable ledger shape d (inr (shadow, made, k, w)) = still_mendable setup lines regs shadow made w.all k now w ledger shape d

  pub partly-front : IsPartlyMended setup lines regs now → IsFrontWritten setup lines regs now
  partly-front (inl same) = inl same
  partly-front (inr (shadow, made, k, w)) = its_front setup lines regs shadow made w.all k now w

  -- ---- and one that is recovered

  module _ (r : IsRecovered setup lines regs now) where
    fixed_recovered : (x : ℕ) → x < layout.meta_lines setup.shape → stored_meta setup.shape now x ≡ fixed_line setup lines regs x
    fixed_recovered = all_fixed setup lines regs r.shadow r.made r.written.all (length r.made + layout.shadow_lines setup.shape) now r.written (omega arith)

    pub are_fixed : AreFixed setup lines regs now
    are_fixed = record { named = λ x h q. fixed_recovered x h; others = λ x h q. fixed_recovered x h ∙ fixed_line-unnamed setup lines regs x q }

    pub true_recovered : (ledger : LedgerState) → IsShape setup.shape → IsMendable setup lines regs ledger → IsAllTrue setup now ledger
    true_recovered ledger shape d =
        all_true setup lines regs r.shadow r.made r.written.all (length r.made + layout.shadow_lines setup.shape) now r.written ledger shape d (omega arith)

    -- the shadow lines are zero then, on any device
    pub zero_recovered : IsShadowZero setup now
    zero_recovered =
        record {
          zero_lines = λ n small.
              zeroed setup lines regs r.shadow r.made r.written.all (length r.made + layout.shadow_lines setup.shape) now r.written n small (omega (arith, small));
        }

    -- and the top line has the found root
    pub top_recovered : setup.formulas.digest_of 0 (stored_meta setup.shape now 0) ≡ found_root setup lines regs
    top_recovered =
        let on_tree : 0 < layout.meta_lines setup.shape = level_start-le 1 (setup.shape.levels + 1) (omega arith) in
        ap (setup.formulas.digest_of 0) (fixed_recovered 0 on_tree)
