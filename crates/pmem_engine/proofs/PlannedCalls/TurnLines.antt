-- A turn writes the line that it seals and its tag line, and no other line, wherever it ends.
use Rattle.std.proofs.Common.{ℕ, ◌≡◌, ◌∷◌, ◌⊎◌, [], Bool, true, false, List, Option, Some, None, length, inl, inr, refl, ap, rules}
use Rattle.std.specs.Prelude.{if◌then◌else◌}
use Rattle.pmem_base.specs.declared.lines.Line.{Line}
use Rattle.pmem_base.specs.declared.lines.Ctr.{Ctr}
use Rattle.pmem_base.specs.declared.registers.Progress.{Progress}
use Rattle.pmem_base.specs.declared.registers.Regs.{Regs}
use Rattle.pmem_base.specs.Layout as layout
use Rattle.pmem_base.specs.Registers.{not_done}
use Rattle.call_plan.specs.Plans.{Plan, done, stop, read, write, latch, bind, mapped, for_each}
use Rattle.board.specs.Device.{Device}
use Rattle.call_plan.specs.Bounds.{MakesOnly, writes_within, Leaves}
use Rattle.call_plan.proofs.Leaves.{leaves_mapped}
use Rattle.pmem_engine.proofs.PlannedCalls.StateEnds.{Ends, ends_bind, ends_mapped, holds_at, unseal_ends}
use Rattle.call_plan.proofs.Keeping.{makes_bind, makes_mapped, writes_within_keep}
use Rattle.seal_ledger.specs.Ledger.{LedgerState}
use Rattle.suite.specs.Setup.{Setup}
use Rattle.pmem_engine.specs.declared.reading.Unsealed.{Unsealed}
use Rattle.pmem_engine.specs.declared.resealing.HeldLine.{HeldLine}
use Rattle.pmem_engine.specs.declared.resealing.NextSeal.{NextSeal}
use Rattle.commit_regs.specs.Plans.{group_plan}
use Rattle.pmem_engine.specs.Plans.{Chip, opened_plan, unseal_plan, commit_plan, register_at, held_of, seal_anew_plan, reseal_plan, oldest_page_plan, turn_plan}
use Rattle.pmem_engine.specs.KeptLaws.{KeepsMirror, TurnsWriteTheirLine, TurnsKeepMirror}

module _ (setup : Setup) (held : HeldLine) where
  -- the line's place, and that of its tag line
  abbrev Its : ℕ → Type 0
  Its at = (at ≡ held.at) ⊎ (at ≡ layout.tag_line setup.shape held.at)

  abbrev Only : {E T : Type 0} → Plan E T → Type 0
  Only plan = MakesOnly (writes_within Its) plan

  only_if : {E T : Type 0} (b : Bool) (first second : Plan E T) → Only first → Only second → Only (if b then first else second)
  only_if true first second one two = one
  only_if false first second one two = two

  opened_only : (at : ℕ) (ctr : Ctr) (cipher tags : Line) (chip : Chip) (plain : Option Line) → Only (opened_plan at ctr cipher tags chip plain)
  unfolding MakesOnly
  opened_only at ctr cipher tags chip None = tt
  opened_only at ctr cipher tags chip (Some plain) = search (rules, only_if)

  unseal_only : (at : ℕ) (ctr : Ctr) (chip : Chip) → Only (unseal_plan setup at ctr chip)
  unfolding MakesOnly unseal_plan
  unseal_only at ctr chip = search (rules, opened_only)

  -- the group has these two
  commit_only : (next : NextSeal) (regs : Regs) (ledger : LedgerState) → next.at ≡ held.at → Only (commit_plan setup.shape next regs ledger)
  unfolding MakesOnly bind for_each mapped commit_plan group_plan
  commit_only next regs ledger its = (tt, (inl its, (inr (ap (layout.tag_line setup.shape) its), (tt, tt))))

  seal_only : (left : ℕ) (regs : Regs) (before : Chip × Unsealed) → Only (seal_anew_plan setup held left regs before)
  seal_only left regs before = search (rules, makes_mapped, commit_only)

-- the lowest line not done of the oldest page
module _ (setup : Setup) (regs : Regs) (chip : Chip) where
  abbrev held : HeldLine
  held = held_of (register_at regs 0)

  reseal_only : Only setup held (reseal_plan setup 0 regs chip)
  unfolding reseal_plan
  reseal_only = search (rules, makes_bind, unseal_only, seal_only)

  page_only : (registers : List Progress) → Only setup held (oldest_page_plan setup regs chip registers)
  unfolding oldest_page_plan MakesOnly
  page_only [] = tt
  page_only (register ∷ others) = makes_mapped (writes_within (Its setup held)) _ _ (reseal_plan setup 0 regs chip) reseal_only

  turn_only : Only setup held (turn_plan setup regs chip)
  turn_only = makes_mapped (writes_within (Its setup held)) _ _ (oldest_page_plan setup regs chip regs.progress.items) (page_only regs.progress.items)

pub turn_writes : TurnsWriteTheirLine
turn_writes setup regs chip old new end it at apart other =
    writes_within_keep (Its setup (held setup regs chip)) (turn_only setup regs chip) it at
    (λ its. elim its [ inl same ↦ apart same | inr same ↦ other same ])

-- ---- the engine

-- what holds of whatever an end may be
pub of_all : {E T : Type 0} (ok : T → Device → Type 0) (err : E → Device → Type 0) → ((t : T) (d : Device) → ok t d) → ((left : E) (d : Device) → err left d)
    → (plan : Plan E T) (d : Device) → Leaves plan ok err d
unfolding Leaves
of_all ok err oks errs (done t) d = oks t d
of_all ok err oks errs (stop left) d = errs left d
of_all ok err oks errs (read left at later) d = (λ new was off. errs left new, λ line new was whole. of_all ok err oks errs (later line) new)
of_all ok err oks errs (write left at line later) d = (λ new was. errs left new, λ new was. of_all ok err oks errs later new)
of_all ok err oks errs (latch left regs later) d = (λ new was. errs left new, λ new was. of_all ok err oks errs later new)

module _ (setup : Setup) (regs : Regs) (first : Chip) where
  abbrev Same : Chip → Device → Type 0
  Same chip d = KeepsMirror first.engine chip.engine

  reseal_same : (d : Device) → Ends Same (reseal_plan setup 0 regs first) d
  unfolding reseal_plan
  reseal_same d =
      ends_bind Same (unseal_plan setup (held setup regs first).at (held setup regs first).now first)
      (seal_anew_plan setup (held setup regs first) (length (not_done (register_at regs 0))) regs) d
      (unseal_ends setup (λ engine d. KeepsMirror first.engine engine) (λ engine now new lines regs latches same. same) (held setup regs first).at
      (held setup regs first).now first d (record { mirror = refl; shape = refl }))
      (λ before d same. leaves_mapped _ _ (λ end d. Same end.0 d) (λ left d. Same left.0 d) _ d
      (of_all (λ end d. KeepsMirror first.engine before.0.engine) (λ left d. KeepsMirror first.engine before.0.engine) (λ end d. same) (λ left d. same) _ d))

  page_same : (registers : List Progress) (d : Device) → Ends Same (oldest_page_plan setup regs first registers) d
  unfolding oldest_page_plan Leaves
  page_same [] d = record { mirror = refl; shape = refl }
  page_same (register ∷ others) d =
      ends_mapped Same Same _ _ (reseal_plan setup 0 regs first) d (λ end d same. same) (λ left d same. same) (reseal_same d)

pub turn_keeps_mirror : TurnsKeepMirror
turn_keeps_mirror setup regs chip old new end it =
    holds_at (Same setup regs chip) end
    (ends_mapped (Same setup regs chip) (Same setup regs chip) _ _ (oldest_page_plan setup regs chip regs.progress.items) old (λ end d same. same)
    (λ left d same. same) (page_same setup regs chip regs.progress.items old)) it
