-- Two new sessions of one setup are the same: formatting leaves one device and one ledger, and the opening's plan one session.
use Rattle.std.proofs.Common.{ℕ, ◌≡◌, true, cond, List, Option, Some, None, Result, Ok, Err, refl, sym, ap, subst₂, ◌∙◌}
use Rattle.line_session.proofs.Common.{same_Some, Setup, Device, BoardMemory, device_of, LedgerState, Follows, ended, ChipState, Chip, chip_of, chip_in, new_engine, LineSession, CallPlan, Line, Regs}
use Rattle.board.specs.declared.access.Access.{Access}
use Rattle.board.specs.Memory.{new_memory}
use Rattle.call_plan.proofs.Determined.{uncut_alike}
use Rattle.call_plan.proofs.DeterminedCalls.{same_board}
use Rattle.pmem_base.specs.Layout.{device_lines}
use Rattle.pmem_recovery.proofs.UncutRuns.{formats_alike}
use Rattle.line_session.specs.New.{blank_device, tags_formatted, digests_formatted, IsNewByPlan}
use Rattle.line_session.specs.State.{IsNewSession}
use Rattle.line_session.proofs.Outcomes.{same_after}

-- a board is its device, its fuse and its snapshot
same_device : (a b : BoardMemory) → device_of a ≡ device_of b → a.fuse ≡ b.fuse → a.snapshot ≡ b.snapshot → a ≡ b
same_device a b device fuse snapshot =
    same_board a b (same_Some a.lines b.lines (ap (λ (d : Device). d.lines) device)) (ap (λ (d : Device). d.regs) device)
    (ap (λ (d : Device). d.live) device) fuse snapshot (ap (λ (d : Device). d.reads) device) (ap (λ (d : Device). d.writes) device)
    (ap (λ (d : Device). d.latches) device) (ap (λ (d : Device). d.cuts) device)
    (same_Some a.accesses b.accesses (ap (λ (d : Device). d.accesses) device))

-- what is left on the chip
left_by : {S A F : Type 0} → Result (S × A) (S × F) → S
left_by (Ok both) = both.0
left_by (Err both) = both.0

left_of_end : {S A F : Type 0} (end : Result A F) (left : S) → left_by (ended end left) ≡ left
unfolding left_by
left_of_end (Ok value) left = refl
left_of_end (Err fault) left = refl

pub new_determined : {F A : Type 0} (setup : Setup) (opening : CallPlan F A) (tags digests : ℕ) (a b : LineSession) → IsNewSession setup a → IsNewSession setup b
    → IsNewByPlan setup opening tags digests a → IsNewByPlan setup opening tags digests b → a.keys ≡ b.keys → a ≡ b
new_determined {F = F} {A = A} setup opening tags digests a b new other it its keys =
    let formats =
    formats_alike setup (new_memory (device_lines setup.shape)).lines (blank_device setup.shape) (device_of it.middle) (device_of its.middle) it.ledger
    its.ledger (new_engine setup.shape) (new_engine setup.shape) refl refl it.formatted its.formatted in
    let follows =
    subst₂ (λ (d : Device) (l : LedgerState).
    Follows
    (opening d.regs (chip_of (new_engine setup.shape) l (tags_formatted setup.shape tags) (digests_formatted setup.shape digests))) d
    (device_of b.board) (ended its.end (chip_in b its.after)))
    (sym formats.2) (sym formats.1) its.follows in
    let same = uncut_alike it.middle.lines refl new.power other.power it.follows follows in
    let chip : chip_in a it.after ≡ chip_in b its.after =
    sym (left_of_end it.end (chip_in a it.after))
    ∙ ap (λ (r : Result (Chip × A) (Chip × F)). left_by r) same.0
    ∙ left_of_end its.end (chip_in b its.after) in
    same_after a b it.after its.after (kept a it.after it.engine new.power) (kept b its.after its.engine other.power)
    (new.shape ∙ sym other.shape) keys (same_device a.board b.board same.1 (new.fuse ∙ sym other.fuse) (it.unsnapped ∙ sym its.unsnapped)) chip
  where
    kept : (s : LineSession) (x : ChipState) → s.engine ≡ Some x → s.board.powered ≡ true → s.engine ≡ cond s.board.powered (Some x) None
    kept s x is on = is ∙ sym (ap (λ b. cond b (Some x) None) on)
