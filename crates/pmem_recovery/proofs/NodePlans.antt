-- The plans of a doubted node and of the root, at each of their ends.
use Rattle.std.proofs.Common.{ℕ, ◌≡◌, ◌+◌, ◌*◌, Bool, false, List, [], ◌∷◌, ◌++◌, Some, None, Result, Ok, Err, sym, ap, ap₂, subst, ◌∙◌}
use Rattle.std.specs.Prelude.{if◌then◌else◌}
use Rattle.pmem_base.specs.declared.faults.Cut.{Cut}
use Rattle.pmem_base.specs.declared.lines.Line.{Line}
use Rattle.pmem_base.specs.Shape.{Shape}
use Rattle.pmem_base.specs.Layout.{meta_line}
use Rattle.pmem_base.specs.Lines.{IsLine}
use Rattle.pmem_base.proofs.ByteLaws.{same_bytes-from}
use Rattle.seal_ledger.proofs.NoteLemmas.{other_bytes}
use Rattle.board.specs.Device.{Device}
use Rattle.board.specs.Steps.{HasRead, WasCut}
use Rattle.call_plan.specs.Plans.{Plan, done, stop, mapped, repeated, ended, the_cut}
use Rattle.call_plan.specs.Following.{Follows}
use Rattle.call_plan.proofs.Steps.{is_done, is_stopped, read_then, read_cut}
use Rattle.call_plan.proofs.Bind.{bind_ok, bind_err, mapped_follows}
use Rattle.bonsai_tree.specs.Nodes.{node_of}
use Rattle.suite.specs.Setup.{Setup}
use Rattle.pmem_recovery.specs.declared.entries.MadeEntry.{MadeEntry}
use Rattle.pmem_recovery.specs.declared.faults.RecFault.{RecFault}
use Rattle.pmem_recovery.specs.declared.faults.RecFault.TheVariants as Fault
use Rattle.pmem_recovery.specs.Upward.{line_made, is_other}
use Rattle.pmem_recovery.specs.Parts.{IsCompared}
use Rattle.pmem_recovery.specs.Plans.{SuiteCounts, suite_counts, RecoveryParts, recovery_parts, after_digest, made_over, line_made_or, made_plan, child_turn, children_plan, fixed_node_plan, compare_plan, top_plan, root_plan}

-- the same counts
pub same_counts : {tags more digests last : ℕ} → tags ≡ more → digests ≡ last → suite_counts tags digests ≡ suite_counts more last
same_counts t d = ap₂ suite_counts t d

-- one more line made, of this position, line and test
pub same_made : (made : List MadeEntry) (x : ℕ) (stored : Line) {new : List MadeEntry} {line next : Line} {changed : Bool}
    → new ≡ made ++ record { at = x; line = line; changed = changed } ∷ [] → line ≡ next → changed ≡ is_other stored line
    → new ≡ made ++ made_over x stored next ∷ []
same_made made x stored items bytes test =
    items ∙ ap₂ (λ l b. made ++ record { at = x; line = l; changed = b } ∷ []) bytes (test ∙ ap (is_other stored) bytes)

-- ---- a line that was made, or is read

module _ (g : Shape) (made : List MadeEntry) (x : ℕ) where
  pub was_made : (d : Device) (line : Line) → line_made made x ≡ Some line → Follows (made_plan g made x) d d (Ok line)
  unfolding line_made_or
  was_made d line is = subst (λ o. Follows (line_made_or g x o) d d (Ok line)) (sym is) (is_done line d)

  module _ (unmade : line_made made x ≡ None) {old new : Device} where
    pub stored_read : (line : Line) → HasRead old (meta_line g x) line new → IsLine line → Follows (made_plan g made x) old new (Ok line)
    unfolding line_made_or
    stored_read line was whole =
        subst (λ o. Follows (line_made_or g x o) old new (Ok line)) (sym unmade) (read_then the_cut was whole (is_done line new))

    pub stored_cut : WasCut old new → old.live ≡ false → Follows (made_plan g made x) old new (Err the_cut)
    unfolding line_made_or
    stored_cut was off =
        subst (λ o. Follows (line_made_or g x o) old new (Err the_cut)) (sym unmade) (read_cut the_cut (meta_line g x) (λ line. done line) was off)

-- ---- a node over its children

module _ (setup : Setup) (made : List MadeEntry) (x i : ℕ) (counts : SuiteCounts) (before : List (List ℕ)) {old new : Device} {at : ℕ}
    (place : at ≡ 4 * x + 1 + i) where
  pub child_made : (line : Line) (after : SuiteCounts) (next : List (List ℕ)) (digest : List ℕ) → after ≡ after_digest counts
      → next ≡ before ++ digest ∷ [] → digest ≡ setup.formulas.digest_of at line
      → Follows (made_plan setup.shape made at) old new (Ok line) → Follows (child_turn setup made x i (counts, before)) old new (Ok (after, next))
  child_made line after next digest counted more value it =
      let its : next ≡ before ++ setup.formulas.digest_of (4 * x + 1 + i) line ∷ [] =
      more ∙ ap (λ d. before ++ d ∷ []) (value ∙ ap (λ n. setup.formulas.digest_of n line) place) in
      subst (λ (s : SuiteCounts). Follows (child_turn setup made x i (counts, before)) old new (Ok (s, next))) (sym counted)
      (subst (λ ds. Follows (child_turn setup made x i (counts, before)) old new (Ok (after_digest counts, ds))) (sym its)
      (mapped_follows _ _ (subst (λ n. Follows (made_plan setup.shape made n) old new (Ok line)) place it)))

  pub child_cut : Follows (made_plan setup.shape made at) old new (Err the_cut) → Follows (child_turn setup made x i (counts, before)) old new (Err (counts, the_cut))
  child_cut it = mapped_follows _ _ (subst (λ n. Follows (made_plan setup.shape made n) old new (Err the_cut)) place it)

module _ (setup : Setup) (made : List MadeEntry) (x : ℕ) (counts after : SuiteCounts) {old new : Device} where
  pub children_made : (digests : List (List ℕ)) (line : Line) → line ≡ node_of digests
      → Follows (repeated (child_turn setup made x) 0 4 (counts, [])) old new (Ok (after, digests)) → Follows (children_plan setup made x counts) old new (Ok (after, line))
  unfolding children_plan
  children_made digests line is it =
      subst (λ (l : Line). Follows (children_plan setup made x counts) old new (Ok (after, l))) (sym is) (mapped_follows _ _ it)

  pub children_cut : Follows (repeated (child_turn setup made x) 0 4 (counts, [])) old new (Err (after, the_cut))
      → Follows (children_plan setup made x counts) old new (Err (after, the_cut))
  unfolding children_plan
  children_cut it = mapped_follows _ _ it

-- ---- a doubted node

module _ (setup : Setup) (x : ℕ) (at : RecoveryParts) where
  abbrev over : Line → Plan (RecoveryParts × Cut) (RecoveryParts × Unit {0})
  over line =
      mapped (λ left. (recovery_parts at.made left.0, left.1))
      (λ (end : SuiteCounts × Line). (recovery_parts (at.made ++ made_over x line end.1 ∷ []) end.0, tt)) (children_plan setup at.made x at.counts)

  pub node_unread : {old new : Device} → WasCut old new → old.live ≡ false → Follows (fixed_node_plan setup x at) old new (Err (at, the_cut))
  unfolding fixed_node_plan
  node_unread was off = read_cut (at, the_cut) (meta_line setup.shape x) over was off

  module _ {old mid new : Device} {line : Line} (was : HasRead old (meta_line setup.shape x) line mid) (whole : IsLine line) (counts : SuiteCounts) where
    pub node_stopped : Follows (children_plan setup at.made x at.counts) mid new (Err (counts, the_cut))
        → Follows (fixed_node_plan setup x at) old new (Err (recovery_parts at.made counts, the_cut))
    unfolding fixed_node_plan
    node_stopped it = read_then (at, the_cut) was whole (mapped_follows _ _ it)

    pub node_made_so : (next : Line) (made : List MadeEntry) → made ≡ at.made ++ made_over x line next ∷ []
        → Follows (children_plan setup at.made x at.counts) mid new (Ok (counts, next))
        → Follows (fixed_node_plan setup x at) old new (Ok (recovery_parts made counts, tt))
    unfolding fixed_node_plan
    node_made_so next made items it =
        subst (λ (m : List MadeEntry). Follows (fixed_node_plan setup x at) old new (Ok (recovery_parts m counts, tt))) (sym items)
        (read_then (at, the_cut) was whole (mapped_follows _ _ it))

-- ---- the root

module _ (kept found : List ℕ) (counts : SuiteCounts) (d : Device) where
  abbrev plan_by : Bool → Plan (SuiteCounts × RecFault) (SuiteCounts × Unit {0})
  plan_by same = if same then done (counts, tt) else stop (counts, Fault.Root kept found)

  pub compared_so : (answer : Result (Unit {0}) RecFault) → IsCompared kept found answer → Follows (compare_plan kept found counts) d d (ended answer counts)
  unfolding compare_plan
  compared_so (Ok value) same =
      subst (λ b. Follows (plan_by b) d d (Ok (counts, tt))) (sym (same_bytes-from kept found (sym same))) (is_done (counts, tt) d)
  compared_so (Err Fault.Memory) is = absurd is
  compared_so (Err Fault.Cut) is = absurd is
  compared_so (Err (Fault.NoCounter at)) is = absurd is
  compared_so (Err (Fault.Root k f)) is =
      subst (λ (fault : RecFault). Follows (compare_plan kept found counts) d d (Err (counts, fault)))
      (ap₂ (λ a b. Fault.Root a b) (sym is.0) (sym is.1))
      (subst (λ b. Follows (plan_by b) d d (Err (counts, Fault.Root kept found)))
      (sym (other_bytes kept found (λ same. is.2 (sym same)))) (is_stopped (counts, Fault.Root kept found) d))
  compared_so (Err (Fault.Twin at major low high cipher tag)) is = absurd is

module _ (setup : Setup) (root : List ℕ) (made : List MadeEntry) (counts : SuiteCounts) {old mid : Device} where
  pub top_cut : Follows (made_plan setup.shape made 0) old mid (Err the_cut) → Follows (root_plan setup root made counts) old mid (Err (counts, Fault.Cut))
  unfolding root_plan
  top_cut it = bind_err (top_plan setup root) (mapped_follows _ _ it)

  pub top_compared : (line : Line) (after : SuiteCounts) (found : List ℕ) {new : Device} {end : Result (SuiteCounts × Unit {0}) (SuiteCounts × RecFault)}
      → after ≡ after_digest counts → found ≡ setup.formulas.digest_of 0 line → Follows (made_plan setup.shape made 0) old mid (Ok line)
      → Follows (compare_plan root found after) mid new end → Follows (root_plan setup root made counts) old new end
  unfolding root_plan
  top_compared line after found {new = new} {end = end} counted value first second =
      bind_ok (top_plan setup root) (mapped_follows _ _ first)
      (subst (λ (s : SuiteCounts). Follows (compare_plan root (setup.formulas.digest_of 0 line) s) mid new end) counted
      (subst (λ f. Follows (compare_plan root f after) mid new end) value second))
