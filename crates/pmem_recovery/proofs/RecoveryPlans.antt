-- The plans of what is made, of mending, and of the whole recovery, at each of their ends.
use Rattle.std.proofs.Common.{ℕ, ◌≡◌, ◌<◌, ◌+◌, ◌⊎◌, inl, inr, length, arith, false, List, [], ◌∷◌, ◌++◌, Result, Ok, Err, sym, ap, subst, ◌∙◌}
use Rattle.std.specs.Prelude.{IsErrAnd}
use Rattle.std.proofs.lemmas.Bool.{cases_eq}
use Rattle.std.proofs.lemmas.List.{get_or_append_left, get_or_push}
use Rattle.std.proofs.lemmas.Result.{err_from_is_err_and}
use Rattle.pmem_base.specs.declared.lines.Line.{Line}
use Rattle.pmem_base.specs.declared.registers.Regs.{Regs}
use Rattle.pmem_base.specs.Shape.{Shape}
use Rattle.pmem_base.specs.Layout.{shadow_line}
use Rattle.pmem_base.specs.Lines.{IsLine, line_at, zero_line}
use Rattle.pmem_base.specs.Registers.{without_group}
use Rattle.board.specs.Device.{Device}
use Rattle.board.specs.Steps.{HasRead, WasCut}
use Rattle.call_plan.specs.Plans.{Plan, done, the_cut}
use Rattle.call_plan.specs.Following.{Follows}
use Rattle.call_plan.proofs.Steps.{is_done, read_then, read_cut}
use Rattle.call_plan.proofs.Bind.{bind_ok, bind_err, mapped_follows}
use Rattle.suite.specs.Setup.{Setup}
use Rattle.pmem_engine.specs.Mendable.{new_engine}
use Rattle.pmem_recovery.specs.declared.entries.MadeEntry.{MadeEntry}
use Rattle.call_effects.specs.declared.recovery.Work.{Work}
use Rattle.pmem_recovery.specs.declared.faults.RecFault.{RecFault}
use Rattle.pmem_recovery.specs.declared.faults.RecFault.TheVariants as Fault
use Rattle.commit_regs.specs.Plans.{redo_plan}
use Rattle.pmem_recovery.specs.Plans.{SuiteCounts, RecoveryParts, recovery_parts, MadeLines, made_lines, made_end, shadow_turn, shadow_plan, blocks_plan, nodes_plan, root_plan, after_nodes, after_blocks, after_shadow, making_plan, entries_plan, clear_plan, writes_plan, mend_plan, after_redo, recover_plan}

-- ---- the shadow lines

-- one more is read
pub shadow_more : (before items : List Line) (line : Line) (told : ℕ → Line) (n : ℕ) → items ≡ before ++ line ∷ [] → length before ≡ n
    → ((k : ℕ) → k < n → line_at before k ≡ told k) → line ≡ told n → (k : ℕ) → k < n + 1 → line_at items k ≡ told k
shadow_more before items line told n more long each here k low =
    ap (λ l. line_at l k) more ∙ go (cases_eq k n)
  where
    go : (k ≡ n) ⊎ (k ≡ n → ⊥) → line_at (before ++ line ∷ []) k ≡ told k
    go (inl same) =
        get_or_push before line zero_line k (long ∙ sym same) ∙ here ∙ ap told (sym same)
    go (inr other) = get_or_append_left before (line ∷ []) zero_line k (omega arith) ∙ each k (omega arith)

module _ (g : Shape) (n : ℕ) (before : List Line) {old new : Device} where
  pub shadow_read_then : {line : Line} {items : List Line} → HasRead old (shadow_line g n) line new → IsLine line → items ≡ before ++ line ∷ []
      → Follows (shadow_turn g n (before, tt)) old new (Ok (items, tt))
  shadow_read_then {line = line} was whole more =
      subst (λ (l : List Line). Follows (shadow_turn g n (before, tt)) old new (Ok (l, tt))) (sym more)
      (read_then (before, the_cut) was whole (is_done (before ++ line ∷ [], tt) new))

  pub shadow_unread : WasCut old new → old.live ≡ false → Follows (shadow_turn g n (before, tt)) old new (Err (before, the_cut))
  shadow_unread was off = read_cut (before, the_cut) (shadow_line g n) (λ line. done (before ++ line ∷ [], tt)) was off

-- ---- what is made

-- what a `?` answers
pub made_err : {plan : Plan (SuiteCounts × RecFault) (SuiteCounts × MadeLines)} {old new : Device} {counts : SuiteCounts} {fault : RecFault}
    (answer : Result Work RecFault) (shadow : List Line) (made : List MadeEntry) → IsErrAnd answer (λ (x : RecFault). x ≡ fault)
    → Follows plan old new (Err (counts, fault)) → Follows plan old new (made_end answer shadow made counts)
made_err {plan = plan} {old = old} {new = new} {counts = counts} answer shadow made is it =
    let end = err_from_is_err_and answer is in
    subst (λ (r : Result Work RecFault). Follows plan old new (made_end r shadow made counts)) (sym end.1)
    (subst (λ (x : RecFault). Follows plan old new (Err (counts, x))) (sym end.2) it)

module _ (setup : Setup) (regs : Regs) (counts : SuiteCounts) {old first : Device} where
  -- the shadow lines weren't all read
  pub making_unread : (left : List Line) → Follows (shadow_plan setup.shape) old first (Err (left, the_cut))
      → Follows (making_plan setup regs counts) old first (Err (counts, Fault.Cut))
  unfolding making_plan
  making_unread left it = bind_err (after_shadow setup regs counts) (mapped_follows _ _ it)

  module _ (shadow : List Line) (was_read : Follows (shadow_plan setup.shape) old first (Ok (shadow, tt))) {second : Device} where
    -- a line wasn't decided, or its trials were cut
    pub making_undecided : (left : RecoveryParts) (fault : RecFault)
        → Follows (blocks_plan setup regs shadow (recovery_parts [] counts)) first second (Err (left, fault))
        → Follows (making_plan setup regs counts) old second (Err (left.counts, fault))
    unfolding making_plan
    making_undecided left fault it =
        bind_ok (after_shadow setup regs counts) (mapped_follows _ _ was_read) (bind_err (after_blocks setup regs shadow) (mapped_follows _ _ it))

    module _ (blocks : RecoveryParts) (trials : ℕ)
        (were_made : Follows (blocks_plan setup regs shadow (recovery_parts [] counts)) first second (Ok (blocks, trials))) {third : Device} where
      -- the nodes weren't all made
      pub making_cut : (left : RecoveryParts) → Follows (nodes_plan setup shadow blocks) second third (Err (left, the_cut))
          → Follows (making_plan setup regs counts) old third (Err (left.counts, Fault.Cut))
      unfolding making_plan
      making_cut left it =
          bind_ok (after_shadow setup regs counts) (mapped_follows _ _ was_read)
          (bind_ok (after_blocks setup regs shadow) (mapped_follows _ _ were_made) (bind_err (after_nodes setup regs shadow trials) (mapped_follows _ _ it)))

      module _ (nodes : RecoveryParts) (digests : ℕ) (up : Follows (nodes_plan setup shadow blocks) second third (Ok (nodes, digests))) {new : Device}
          (after : SuiteCounts) where
        -- the root is another one, or it wasn't compared
        pub making_refused : (fault : RecFault) → Follows (root_plan setup regs.root nodes.made nodes.counts) third new (Err (after, fault))
            → Follows (making_plan setup regs counts) old new (Err (after, fault))
        unfolding making_plan
        making_refused fault it =
            bind_ok (after_shadow setup regs counts) (mapped_follows _ _ was_read)
            (bind_ok (after_blocks setup regs shadow) (mapped_follows _ _ were_made)
            (bind_ok (after_nodes setup regs shadow trials) (mapped_follows _ _ up) (mapped_follows _ _ it)))

        pub making_done : Follows (root_plan setup regs.root nodes.made nodes.counts) third new (Ok (after, tt))
            → Follows (making_plan setup regs counts) old new (Ok (after, made_lines shadow nodes.made trials (digests + 1)))
        unfolding making_plan
        making_done it =
            bind_ok (after_shadow setup regs counts) (mapped_follows _ _ was_read)
            (bind_ok (after_blocks setup regs shadow) (mapped_follows _ _ were_made)
            (bind_ok (after_nodes setup regs shadow trials) (mapped_follows _ _ up) (mapped_follows _ _ it)))

-- ---- mending

module _ (setup : Setup) (regs : Regs) (counts : SuiteCounts) {old mid : Device} where
  pub mend_refused : (left : SuiteCounts × RecFault) → Follows (making_plan setup regs counts) old mid (Err left) → Follows (mend_plan setup regs counts) old mid (Err left)
  unfolding mend_plan
  mend_refused left it = bind_err (writes_plan setup) it

  module _ (after : SuiteCounts) (made : MadeLines) (first : Follows (making_plan setup regs counts) old mid (Ok (after, made))) {third : Device} where
    -- not all that was made was written
    pub mend_unwritten : Follows (entries_plan setup.shape made.made) mid third (Err the_cut) → Follows (mend_plan setup regs counts) old third (Err (after, Fault.Cut))
    unfolding mend_plan
    mend_unwritten it = bind_ok (writes_plan setup) first (mapped_follows _ _ (bind_err (λ written. clear_plan setup.shape made.shadow) it))

    module _ (written : Follows (entries_plan setup.shape made.made) mid third (Ok tt)) {new : Device} where
      -- not all shadow lines were cleared
      pub mend_uncleared : Follows (clear_plan setup.shape made.shadow) third new (Err the_cut)
          → Follows (mend_plan setup regs counts) old new (Err (after, Fault.Cut))
      unfolding mend_plan
      mend_uncleared it = bind_ok (writes_plan setup) first (mapped_follows _ _ (bind_ok (λ written. clear_plan setup.shape made.shadow) written it))

      pub mend_done : Follows (clear_plan setup.shape made.shadow) third new (Ok tt) → Follows (mend_plan setup regs counts) old new (Ok (after, made.work))
      unfolding mend_plan
      mend_done it = bind_ok (writes_plan setup) first (mapped_follows _ _ (bind_ok (λ written. clear_plan setup.shape made.shadow) written it))

-- ---- the whole

module _ (setup : Setup) (regs : Regs) (counts : SuiteCounts) {old mid : Device} where
  pub recover_cut : Follows (redo_plan regs) old mid (Err the_cut) → Follows (recover_plan setup regs counts) old mid (Err (counts, Fault.Cut))
  unfolding recover_plan
  recover_cut it = bind_err (after_redo setup regs counts) (mapped_follows _ _ it)

  module _ (first : Follows (redo_plan regs) old mid (Ok tt)) (now : Regs) (emptied : now ≡ without_group regs) {new : Device} (after : SuiteCounts) where
    pub recover_stopped : (fault : RecFault) → Follows (mend_plan setup now counts) mid new (Err (after, fault))
        → Follows (recover_plan setup regs counts) old new (Err (after, fault))
    unfolding recover_plan
    recover_stopped fault it =
        bind_ok (after_redo setup regs counts) (mapped_follows _ _ first)
        (mapped_follows _ _ (subst (λ (r : Regs). Follows (mend_plan setup r counts) mid new (Err (after, fault))) emptied it))

    pub recover_done : (work : Work) → Follows (mend_plan setup now counts) mid new (Ok (after, work))
        → Follows (recover_plan setup regs counts) old new (Ok (after, (new_engine setup.shape, work)))
    unfolding recover_plan
    recover_done work it =
        bind_ok (after_redo setup regs counts) (mapped_follows _ _ first)
        (mapped_follows _ _ (subst (λ (r : Regs). Follows (mend_plan setup r counts) mid new (Ok (after, work))) emptied it))
