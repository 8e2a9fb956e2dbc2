-- Laws of recovery's answers: what each says of the device, of the registers and of the lines.
use Rattle.std.proofs.Common.{rules, ℕ, ◌≡◌, ◌≤◌, ◌+◌, List, [], length, Option, Some, refl, ap, sym, subst, ◌∙◌}
use Rattle.std.proofs.lemmas.List.Elements.{All-nil, All-same}
use Rattle.pmem_base.specs.declared.lines.Line.{Line}
use Rattle.pmem_base.specs.declared.registers.Regs.{Regs}
use Rattle.pmem_base.specs.Shape.{IsShape}
use Rattle.pmem_base.specs.Layout as layout
use Rattle.pmem_base.specs.Lines.{line_at}
use Rattle.pmem_base.specs.Registers.{without_group}
use Rattle.board.specs.Counts.{RisesBy}
use Rattle.board.specs.Device.{AreLinesOf}
use Rattle.commit_regs.specs.Groups.{redone, redone_told, RisesAtMost}
use Rattle.suite.specs.Setup.{Setup}
use Rattle.seal_ledger.specs.Ledger.{LedgerState}
use Rattle.meta_cache.specs.Banks.{set_of}
use Rattle.meta_cache.specs.State.{empty_banks}
use Rattle.meta_path.proofs.PathFacts.{set_of-empty_banks}
use Rattle.pmem_engine.specs.Engine.{on_chip}
use Rattle.pmem_engine.specs.Invariants.{IsAnchored, IsTrusted, IsTrueSlot, IsMendable}
use Rattle.pmem_engine.specs.Mendable.{IsLineMendable, IsShadowZero, new_engine}
use Rattle.pmem_engine.specs.Steps.{IsEmptied}
use Rattle.pmem_engine.specs.Recached.{IsNewEngine}
use Rattle.pmem_engine.proofs.Laws.SealLaws.{IsLineMendable-at}
use Rattle.pmem_engine.proofs.Laws.MendableLaws.{shadow_of-zero}
use Rattle.pmem_recovery.specs.declared.faults.RecFault.{RecFault}
use Rattle.pmem_recovery.specs.declared.faults.RecFault.TheVariants.{NoCounter, Root, Twin}
use Rattle.pmem_recovery.specs.Trials.{stored_block, tried_minors, IsTwinOfLastSeal}
use Rattle.pmem_recovery.specs.Parts.{IsRefusal}
use Rattle.pmem_recovery.proofs.TrialLaws.{tried_minors_some, twin_of_last_seal}
use Rattle.pmem_recovery.proofs.UndecidedLaws.{undecided_line}
use Rattle.pmem_recovery.proofs.FixedLaws.{found_root_true}

-- ---- refusals of a device that can be mended

-- no counter never comes if the line's seal and its page's counter block are stored
pub no_counter-caused : (setup : Setup) (lines : List Line) (regs : Regs) (ledger : LedgerState) (at : ℕ) → tried_minors setup lines regs at ≡ [] → IsLineMendable setup lines regs ledger at → ⊥
no_counter-caused setup lines regs ledger at none d = tried_minors_some setup lines regs ledger at d (ap length none)

-- nor at all on a device that can be mended, nor does a wrong root; a twin is the line's last seal's
abbrev pub IsTrueRefusal : Regs → LedgerState → RecFault → Type 0
IsTrueRefusal regs ledger (NoCounter at) = ⊥
IsTrueRefusal regs ledger (Root kept found) = ⊥
IsTrueRefusal regs ledger (Twin at major low high cipher tag) = IsTwinOfLastSeal regs.loss ledger at major low high cipher tag
IsTrueRefusal regs ledger fault = Unit {0}

pub true_refusal : (setup : Setup) (lines : List Line) (regs : Regs) (ledger : LedgerState) (fault : RecFault) → IsShape setup.shape → IsMendable setup lines regs ledger → IsRefusal setup lines regs fault → IsTrueRefusal regs ledger fault
true_refusal setup lines regs ledger (NoCounter at) shape d r =
    let line = undecided_line setup lines regs at r.0 in
    no_counter-caused setup lines regs ledger at r.1 (IsLineMendable-at setup lines regs ledger at d line.0.on_device)
true_refusal setup lines regs ledger (Root kept found) shape d r =
    r.differ (r.its_found ∙ found_root_true setup lines regs ledger shape d r.decided ∙ sym r.its_kept)
true_refusal setup lines regs ledger (Twin at major low high cipher tag) shape d r =
    let line = undecided_line setup lines regs at r.0 in
    let t = r.1 in
    let last = twin_of_last_seal setup lines regs ledger at low high t.more (IsLineMendable-at setup lines regs ledger at d line.0.on_device) t.tried in
    subst (λ m. IsTwinOfLastSeal regs.loss ledger at m low high cipher tag) (sym t.its_major)
    (subst (λ c. IsTwinOfLastSeal regs.loss ledger at (stored_block setup.shape lines (layout.page_of at)).major low high c tag) (sym t.its_cipher)
    (subst (λ z. IsTwinOfLastSeal regs.loss ledger at (stored_block setup.shape lines (layout.page_of at)).major low high (line_at lines at) z) (sym t.its_tag) last))
true_refusal setup lines regs ledger fault shape d r = tt

-- ---- registers

pub IsEmptied-without : (old new : Regs) → new ≡ without_group old → IsEmptied old new
IsEmptied-without old new e = search rules

-- ---- a new engine

pub IsTrusted-fresh : (setup : Setup) (regs : Regs) (ledger : LedgerState) → IsAnchored setup regs ledger → regs.group.items ≡ [] → IsTrusted setup (on_chip (new_engine setup.shape)) regs ledger
IsTrusted-fresh setup regs ledger anchored none =
    record {
      its_shape = refl;
      anchored = anchored;
      no_group = none;
      cached_true = λ bank set. All-same (IsTrueSlot setup.shape ledger.truth bank set) (set_of (empty_banks setup.shape) bank set) [] (set_of-empty_banks setup.shape bank set) (All-nil (IsTrueSlot setup.shape ledger.truth bank set));
    }

pub IsNewEngine-fresh : (setup : Setup) (lines : List Line) → AreLinesOf (layout.device_lines setup.shape) lines → IsShadowZero setup lines → IsNewEngine setup (on_chip (new_engine setup.shape)) lines
IsNewEngine-fresh setup lines whole zero =
    record {
      its_shape = refl;
      empty_cache = λ bank set. set_of-empty_banks setup.shape bank set;
      its_mirror = sym (shadow_of-zero setup lines whole zero);
    }

-- ---- lines that are exposed

pub redone_told-told : (group : List (ℕ × Line)) (told : Option (List Line)) (lines : List Line) → told ≡ Some lines → redone_told group told ≡ Some (redone group lines)
redone_told-told group told lines e = ap (redone_told group) e

-- ---- counts

pub RisesAtMost-then : (n m k before mid after : ℕ) → m ≤ k → RisesBy n before mid → RisesBy m mid after → RisesAtMost (n + k) before after
RisesAtMost-then n m k before mid after few a b = search rules
