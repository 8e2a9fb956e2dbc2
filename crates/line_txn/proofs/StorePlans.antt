-- The calls of a store followed their plans.
use Rattle.std.proofs.Common.{ℕ, ◌≡◌, true, false, List, [], ◌∷◌, Option, Some, None, Result, Ok, Err, refl, sym, subst, ◌∙◌}
use Rattle.line_txn.proofs.Common.{Line, Setup, Fault, Chip, read_plan, Edit, Store, Committed, CommitFault, TxnFault, header_in, deciding_edits, applying_edits, redoing_edits, logged_lines, IsServedAs, IsServedBy, commit_answer_by, OpeningStop, unread, unredone, redo_end, Serving, opened_of, FollowsOpening, commit_fault, commit_answer_of, IsServedAfter, FollowsCommit}
use Rattle.pmem_base.specs.declared.registers.Regs.{Regs}
use Rattle.board.specs.Device.{Device}
use Rattle.call_plan.specs.Plans.{Plan, lifted, ended}
use Rattle.call_plan.specs.Following.{Follows}
use Rattle.call_plan.proofs.Steps.{is_done, is_stopped}
use Rattle.call_plan.proofs.Bind.{bind_ok, bind_err, mapped_follows, lifted_follows}
use Rattle.pmem_engine.specs.declared.fault.Fault.TheVariants as Fail
use Rattle.commit_regs.specs.Plans.{ended_with}
use Rattle.engine_lines.specs.Plans.{edits_plan}
use Rattle.engine_lines.proofs.RegisterPlans.{done_with_regs, stopped_with_regs}
use Rattle.line_txn.specs.declared.store.Committed.TheVariants as Do
use Rattle.line_txn.specs.declared.store.TxnFault.TheVariants as Txn
use Rattle.line_txn.specs.Plans.{open_plan, commit_plan}

-- the fault that changes ended with, in other words
pub edits_fault : (setup : Setup) (after : Chip) (edits : List Edit) (from : Chip × Regs) {old new : Device} {fault other : Fault} → fault ≡ other
    → Follows (edits_plan setup edits from) old new (Err (after, fault)) → Follows (edits_plan setup edits from) old new (Err (after, other))
edits_fault setup after edits from {old = old} {new = new} same it =
    subst (λ (f : Fault). Follows (edits_plan setup edits from) old new (Err (after, f))) same it

-- ---- opening

-- the end of an opening, by that of its redo
abbrev pub redone_as : List ℕ → Result (Unit {0}) Fault → Regs → Result (List ℕ × Regs) OpeningStop
redone_as targets (Ok done) regs = Ok (targets, regs)
redone_as targets (Err fault) regs = Err (unredone targets fault)

redo_follows : (setup : Setup) (line : Line) (targets : List ℕ) (found after : Chip) {mid new : Device} (tried : Result (Unit {0}) Fault)
    → Follows (edits_plan setup (redoing_edits (logged_lines setup.shape) targets) (found, mid.regs)) mid new (ended_with tried after new.regs)
    → Follows (redo_end setup line found mid.regs (Some targets)) mid new (ended (redone_as targets tried new.regs) after)
redo_follows setup line targets found after (Ok done) it =
    mapped_follows (λ left. (left.0, unredone targets left.1)) (λ end. (end.0, (targets, end.1))) it
redo_follows setup line targets found after (Err fault) it =
    mapped_follows (λ left. (left.0, unredone targets left.1)) (λ end. (end.0, (targets, end.1))) it

-- what follows the read of the header
abbrev later : Setup → (Chip × Line) × Regs → Plan (Chip × OpeningStop) (Chip × (List ℕ × Regs))
later setup found = redo_end setup found.0.1 found.0.0 found.1 (header_in (logged_lines setup.shape) found.0.1)

module _ (setup : Setup) (chip : Chip) {old : Device} where
  -- the header wasn't read
  pub header_unread : (n : ℕ) (fault : Fault) (after : Chip) {new : Device} → n ≡ logged_lines setup.shape
      → Follows (read_plan setup old.regs n chip) old new (Err (after, fault))
      → FollowsOpening setup old.regs chip old new after (Err (Txn.Engine fault))
  unfolding open_plan
  header_unread n fault after {new = new} same it =
      let read : Follows (read_plan setup old.regs (logged_lines setup.shape) chip) old new (Err (after, fault)) =
      subst (λ m. Follows (read_plan setup old.regs m chip) old new (Err (after, fault))) same it in
      record {
        end = Err (unread (Txn.Engine fault));
        follows = bind_err (later setup) (mapped_follows (λ left. (left.0, unread (Txn.Engine left.1))) (λ end. end) (stopped_with_regs read));
        its_answer = refl;
      }

  -- its line is none
  pub header_refused : (n : ℕ) (line : Line) (after : Chip) {new : Device} → n ≡ logged_lines setup.shape
      → header_in (logged_lines setup.shape) line ≡ None
      → Follows (read_plan setup old.regs n chip) old new (Ok (after, line))
      → FollowsOpening setup old.regs chip old new after (Err (Txn.Header line))
  unfolding open_plan
  header_refused n line after {new = new} same none it =
      let read : Follows (read_plan setup old.regs (logged_lines setup.shape) chip) old new (Ok (after, line)) =
      subst (λ m. Follows (read_plan setup old.regs m chip) old new (Ok (after, line))) same it in
      record {
        end = Err (unread (Txn.Header line));
        follows =
            bind_ok (later setup) (mapped_follows (λ left. (left.0, unread (Txn.Engine left.1))) (λ end. end) (done_with_regs read))
            (subst (λ (r : Option (List ℕ)). Follows (redo_end setup line after new.regs r) new new (Err (after, unread (Txn.Header line)))) (sym none)
            (is_stopped (after, unread (Txn.Header line)) new));
        its_answer = refl;
      }

  -- its transaction was redone, up to a fault
  pub header_redone : (n : ℕ) (line : Line) (targets : List ℕ) (found after : Chip) {mid new : Device} (tried : Result (Unit {0}) Fault)
      (answer : Result Serving TxnFault) → n ≡ logged_lines setup.shape → header_in (logged_lines setup.shape) line ≡ Some targets
      → Follows (read_plan setup old.regs n chip) old mid (Ok (found, line))
      → Follows (edits_plan setup (redoing_edits n targets) (found, mid.regs)) mid new (ended_with tried after new.regs)
      → answer ≡ opened_of (redone_as targets tried new.regs) → FollowsOpening setup old.regs chip old new after answer
  unfolding open_plan
  header_redone n line targets found after {mid = mid} {new = new} tried answer same some it redo said =
      let read : Follows (read_plan setup old.regs (logged_lines setup.shape) chip) old mid (Ok (found, line)) =
      subst (λ m. Follows (read_plan setup old.regs m chip) old mid (Ok (found, line))) same it in
      let edits : Follows (edits_plan setup (redoing_edits (logged_lines setup.shape) targets) (found, mid.regs)) mid new (ended_with tried after new.regs) =
      subst (λ m. Follows (edits_plan setup (redoing_edits m targets) (found, mid.regs)) mid new (ended_with tried after new.regs)) same redo in
      record {
        end = redone_as targets tried new.regs;
        follows =
            bind_ok (later setup) (mapped_follows (λ left. (left.0, unread (Txn.Engine left.1))) (λ end. end) (done_with_regs read))
            (subst
            (λ (r : Option (List ℕ)). Follows (redo_end setup line found mid.regs r) mid new (ended (redone_as targets tried new.regs) after))
            (sym some) (redo_follows setup line targets found after tried edits));
        its_answer = said;
      }

-- a fault of the redo that isn't that a line is spent
pub unredone_fault : (targets : List ℕ) (fault : Fault) → ((page : ℕ) → fault ≡ Fail.Spent page → ⊥)
    → opened_of (Err (unredone targets fault)) ≡ Err (Txn.Engine fault)
unredone_fault targets (Fail.Spent page) unspent = absurd (unspent page refl)
unredone_fault targets fault unspent = refl

-- ---- a commit

-- the end of a commit that was decided, by that of what follows
abbrev pub applied_as : Result (Unit {0}) Fault → Regs → Result Regs CommitFault
applied_as (Ok done) regs = Ok regs
applied_as (Err fault) regs = Err (commit_fault true fault)

answer_by_end : (applied : Result (Unit {0}) Fault) (regs : Regs) → commit_answer_by applied ≡ commit_answer_of (applied_as applied regs)
answer_by_end (Ok done) regs = refl
answer_by_end (Err (Fail.Spent page)) regs = refl
answer_by_end (Err fault) regs = refl

served_by_end : (applied : Result (Unit {0}) Fault) (txn : List (ℕ × Line)) (old new : Store) → IsServedBy applied txn old new
    → IsServedAfter (commit_answer_by applied) txn old new
served_by_end (Ok done) txn old new it = it
served_by_end (Err (Fail.Spent page)) txn old new it = it
served_by_end (Err fault) txn old new it = it

-- what follows the header's write
abbrev applying : Setup → ℕ → List (ℕ × Line) → Chip × Regs → Plan (Chip × CommitFault) (Chip × Regs)
applying setup n txn decided = lifted (λ now. now) (commit_fault true) (edits_plan setup (applying_edits n txn) decided)

applied_follows : (setup : Setup) (n : ℕ) (after : Chip) (txn : List (ℕ × Line)) (decided : Chip) {mid now : Device} (applied : Result (Unit {0}) Fault)
    → Follows (edits_plan setup (applying_edits n txn) (decided, mid.regs)) mid now (ended_with applied after now.regs)
    → Follows (applying setup n txn (decided, mid.regs)) mid now (ended (applied_as applied now.regs) after)
applied_follows setup n after txn decided (Ok done) it = lifted_follows (λ now. now) (commit_fault true) it
applied_follows setup n after txn decided (Err fault) it = lifted_follows (λ now. now) (commit_fault true) it

module _ (setup : Setup) (old new : Store) (chip after : Chip) {before : Device} where
  -- without lines nothing is done
  pub nothing_committed : (txn : List (ℕ × Line)) → txn ≡ [] → IsServedAs old.logged.items old.stuck old new
      → FollowsCommit setup txn old new before.regs chip chip before before (Ok Do.Applied)
  unfolding commit_plan
  nothing_committed [] none served =
      record { end = Ok before.regs; follows = is_done (chip, before.regs) before; its_answer = refl; served = served }
  nothing_committed (entry ∷ txn) none served = absurd (cc)

  -- the header wasn't written
  pub undecided : (txn : List (ℕ × Line)) (fault : Fault) {now : Device} → (txn ≡ [] → ⊥)
      → Follows (edits_plan setup (deciding_edits old.lines txn) (chip, before.regs)) before now (Err (after, fault))
      → IsServedAs old.logged.items old.stuck old new
      → FollowsCommit setup txn old new before.regs chip after before now (Err (commit_fault false fault))
  unfolding commit_plan
  undecided [] fault some it served = absurd (some refl)
  undecided (entry ∷ txn) fault some it served =
      record {
        end = Err (commit_fault false fault);
        follows = bind_err (applying setup old.lines (entry ∷ txn)) (lifted_follows (λ now. now) (commit_fault false) it);
        its_answer = refl;
        served = served;
      }

  -- it was, and then the rest, up to a fault
  pub decided_then : (txn : List (ℕ × Line)) (decided : Chip) {mid now : Device} (applied : Result (Unit {0}) Fault)
      (answer : Result Committed CommitFault) → (txn ≡ [] → ⊥)
      → Follows (edits_plan setup (deciding_edits old.lines txn) (chip, before.regs)) before mid (Ok (decided, mid.regs))
      → Follows (edits_plan setup (applying_edits old.lines txn) (decided, mid.regs)) mid now (ended_with applied after now.regs)
      → answer ≡ commit_answer_by applied → IsServedBy applied txn old new
      → FollowsCommit setup txn old new before.regs chip after before now answer
  unfolding commit_plan
  decided_then [] decided applied answer some first rest said served = absurd (some refl)
  decided_then (entry ∷ txn) decided {now = now} applied answer some first rest said served =
      record {
        end = applied_as applied now.regs;
        follows =
            bind_ok (applying setup old.lines (entry ∷ txn)) (lifted_follows (λ now. now) (commit_fault false) first)
            (applied_follows setup old.lines after (entry ∷ txn) decided applied rest);
        its_answer = said ∙ answer_by_end applied now.regs;
        served = subst (λ a. IsServedAfter a (entry ∷ txn) old new) (sym said) (served_by_end applied (entry ∷ txn) old new served);
      }
