-- A held line sealed anew, as its plan has it.
use Rattle.std.proofs.Common.{ℕ, ◌≡◌, ◌+◌, ◌-◌, Ok, Err, length, sym, ap, ◌∙◌}
use Rattle.std.proofs.lemmas.Option.{get_or_from_slice_get}
use Rattle.pmem_base.specs.declared.faults.Cut.{Cut}
use Rattle.pmem_base.specs.declared.lines.Ctr.{Ctr}
use Rattle.pmem_base.specs.declared.registers.Progress.{Progress}
use Rattle.pmem_base.specs.declared.registers.Regs.{Regs}
use Rattle.pmem_base.specs.Counts.{risen}
use Rattle.pmem_base.specs.Registers.{not_done, old_major}
use Rattle.board.specs.Device.{Device}
use Rattle.call_plan.specs.Following.{Follows}
use Rattle.call_plan.proofs.Bind.{bind_ok, bind_err, mapped_follows}
use Rattle.split_counters.specs.Blocks.{unpacked, block_counter}
use Rattle.seal_ledger.specs.Ledger.{LedgerState}
use Rattle.suite.specs.Setup.{Setup}
use Rattle.pmem_engine.specs.declared.fault.LineFault.{LineFault}
use Rattle.pmem_engine.specs.declared.fault.LineFault.TheVariants as AtLine
use Rattle.pmem_engine.specs.declared.reading.Unsealed.{Unsealed}
use Rattle.pmem_engine.specs.declared.resealing.HeldLine.{HeldLine}
use Rattle.pmem_engine.specs.Committing.{next_seal_of}
use Rattle.pmem_engine.specs.Resealing.{IsNextHeld, line_of_page}
use Rattle.pmem_engine.specs.Plans.{Chip, chip_with, held_of, register_at, unseal_plan, commit_plan, seal_anew_plan, reseal_plan}

-- the held line, as a value
pub held_is : (register : Progress) (held : HeldLine) → IsNextHeld register held → held ≡ held_of register
held_is register held it =
    ap (λ (at : ℕ). record held { at = at }) it.its_line
    ∙ ap (λ (now : Ctr). record held { at = line_of_page register it.place; now = now }) it.now
    ∙ ap (λ (next : Ctr). record { at = line_of_page register it.place; now = block_counter (unpacked register.old) it.place; next = next }) it.next
    ∙ ap (λ (place : ℕ). let held : HeldLine = record {
      at = line_of_page register place;
      now = block_counter (unpacked register.old) place;
      next = record { major = old_major register + 1; minor = 0 };
    } in held) (sym (get_or_from_slice_get (not_done register) 0 it.place 0 it.lowest))

module _ (setup : Setup) (n : ℕ) (regs : Regs) (chip : Chip) where
  abbrev register : Progress
  register = register_at regs n

  abbrev held : HeldLine
  held = held_of register

  -- the line wasn't unsealed
  pub reseal_unopened : {old new : Device} {end : Chip × LineFault} → Follows (unseal_plan setup held.at held.now chip) old new (Err end)
      → Follows (reseal_plan setup n regs chip) old new (Err end)
  unfolding reseal_plan
  reseal_unopened first = bind_err (seal_anew_plan setup held (length (not_done register)) regs) first

  module _ (after : Chip) (opened : Unsealed) {old mid : Device} (first : Follows (unseal_plan setup held.at held.now chip) old mid (Ok (after, opened))) where
    abbrev its_end : LedgerState → Chip
    its_end ledger = chip_with after.engine ledger (risen after.tags) after.digests

    -- its commit was cut
    pub reseal_cut : {new : Device} (ledger : LedgerState) (cut : Cut)
        → Follows (commit_plan setup.shape (next_seal_of setup.formulas held.at held.next opened.plain opened.tag_line) regs after.ledger) mid new (Err (ledger, cut))
        → Follows (reseal_plan setup n regs chip) old new (Err (its_end ledger, AtLine.Cut))
    unfolding reseal_plan
    reseal_cut ledger cut it = bind_ok (seal_anew_plan setup held (length (not_done register)) regs) first (mapped_follows _ _ it)

    -- it is sealed anew
    pub reseal_done : {new : Device} (ledger : LedgerState)
        → Follows (commit_plan setup.shape (next_seal_of setup.formulas held.at held.next opened.plain opened.tag_line) regs after.ledger) mid new (Ok (ledger, tt))
        → Follows (reseal_plan setup n regs chip) old new (Ok (its_end ledger, (held.at, length (not_done register) - 1)))
    unfolding reseal_plan
    reseal_done ledger it = bind_ok (seal_anew_plan setup held (length (not_done register)) regs) first (mapped_follows _ _ it)
