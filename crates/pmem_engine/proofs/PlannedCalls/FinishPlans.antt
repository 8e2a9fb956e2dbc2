-- The plain line of a write, and the page that is finished before it, as their plans have them.
use Rattle.std.proofs.Common.{◌≡◌, ◌≢◌, ℕ, Bool, true, false, Some, None, Option, Result, Ok, Err, length, sym, ap, ap₂, subst, ◌∙◌, ne_eqb, eq-eqb}
use Rattle.std.specs.Prelude.{◌==◌, List, if◌then◌else◌}
use Rattle.std.proofs.lemmas.Option.{get_or_from_slice_get}
use Rattle.pmem_base.specs.declared.lines.Line.{Line}
use Rattle.pmem_base.specs.declared.lines.Ctr.{Ctr}
use Rattle.pmem_base.specs.declared.commands.Posted.{Posted}
use Rattle.pmem_base.specs.declared.registers.Progress.{Progress}
use Rattle.pmem_base.specs.declared.registers.Regs.{Regs}
use Rattle.pmem_base.specs.Registers.{not_done}
use Rattle.pmem_base.specs.WaitingWrites.{put_write}
use Rattle.board.specs.Device.{Device}
use Rattle.call_plan.specs.Plans.{Plan, done, mapped}
use Rattle.call_plan.specs.Following.{Follows}
use Rattle.call_plan.proofs.Steps.{is_done}
use Rattle.call_plan.proofs.Bind.{mapped_follows}
use Rattle.call_plan.proofs.Loops.{AreTurnsLeft, turns_start}
use Rattle.page_reencrypt.specs.Registers.{registers_with_done}
use Rattle.suite.specs.Setup.{Setup}
use Rattle.pmem_engine.specs.declared.fault.LineFault.{LineFault}
use Rattle.pmem_engine.specs.declared.reading.Unsealed.{Unsealed}
use Rattle.pmem_engine.specs.Parts.{Parts, regs_of}
use Rattle.pmem_engine.specs.Resealing.{HasResealed, register_in, line_of_page}
use Rattle.pmem_engine.specs.Writing.{register_to_finish}
use Rattle.pmem_engine.specs.Plans.{Chip, its_counter, unseal_plan, register_at, reseal_plan}
use Rattle.pmem_engine.specs.WritePlans.{plain_plan, with_next_done, finish_turn, finish_page_plan, finish_found_plan, finish_for_plan}
use Rattle.call_effects.proofs.PowerLaws.{going_uncut}

-- ---- the plain line

module _ (setup : Setup) (regs : Regs) (write : Posted) (chip : Chip) where
  abbrev unsealing : Plan (Chip × LineFault) (Chip × Line)
  unsealing =
      mapped (λ left. left) (λ end. (end.0, put_write end.1.plain write)) (unseal_plan setup write.at (its_counter setup regs write.at chip) chip)

  plain_by : {old new : Device} {end : Result (Chip × Line) (Chip × LineFault)} (whole : Bool) → (write.len == 64) ≡ whole
      → Follows {E = Chip × LineFault} {T = Chip × Line} (if whole then done (chip, write.line) else unsealing) old new end
      → Follows (plain_plan setup regs write chip) old new end
  unfolding plain_plan
  plain_by {old = old} {new = new} {end = end} whole is it =
      subst (λ (b : Bool). Follows {E = Chip × LineFault} {T = Chip × Line} (if b then done (chip, write.line) else unsealing) old new end) (sym is) it

  pub plain_whole_line : (d : Device) → write.len ≡ 64 → Follows (plain_plan setup regs write chip) d d (Ok (chip, write.line))
  plain_whole_line d whole = plain_by true (eq-eqb write.len 64 whole) (is_done (chip, write.line) d)

  module _ {old new : Device} (ctr : Ctr) (counter : ctr ≡ its_counter setup regs write.at chip) (part : write.len ≢ 64) where
    its_unsealing : {end : Result (Chip × Unsealed) (Chip × LineFault)} → Follows (unseal_plan setup write.at ctr chip) old new end
        → Follows (unseal_plan setup write.at (its_counter setup regs write.at chip) chip) old new end
    its_unsealing {end = end} it = subst (λ (c : Ctr). Follows (unseal_plan setup write.at c chip) old new end) counter it

    pub plain_opened : (after : Chip) (unsealed : Unsealed) (plain : Line) → plain ≡ put_write unsealed.plain write
        → Follows (unseal_plan setup write.at ctr chip) old new (Ok (after, unsealed)) → Follows (plain_plan setup regs write chip) old new (Ok (after, plain))
    plain_opened after unsealed plain is it =
        subst (λ (line : Line). Follows (plain_plan setup regs write chip) old new (Ok (after, line))) (sym is)
        (plain_by false (ne_eqb write.len 64 part) (mapped_follows _ _ (its_unsealing it)))

    pub plain_refused : {left : Chip × LineFault} → Follows (unseal_plan setup write.at ctr chip) old new (Err left)
        → Follows (plain_plan setup regs write chip) old new (Err left)
    plain_refused it = plain_by false (ne_eqb write.len 64 part) (mapped_follows _ _ (its_unsealing it))

-- ---- a page finished

-- the registers once a line was sealed anew
pub next_regs : (setup : Setup) (n : ℕ) (old new : Parts) (sealed : ℕ × ℕ) → HasResealed setup n old new (Ok sealed)
    → regs_of new ≡ with_next_done n (regs_of old)
next_regs setup n old new sealed it =
    let register : Progress = register_in old n in
    ap₂ (λ root loss. record (regs_of new) { root = root; loss = loss }) it.line_sealed.line_done.root it.line_sealed.line_done.loss
    ∙ ap₂ (λ group (items : List Progress). record (regs_of old) { group = group; progress = record { items = items } }) (it.done.gone.group going_uncut)
    (it.line_sealed.line_done.progress
    ∙ ap (λ (place : ℕ). registers_with_done (regs_of old).progress.items (line_of_page register place))
    (sym (get_or_from_slice_get (not_done register) 0 it.place 0 it.lowest)))

module _ (setup : Setup) (n : ℕ) (regs : Regs) (chip : Chip) {old new : Device} where
  pub turn_done : (i : ℕ) (now : Regs) (after : Chip) (sealed : ℕ × ℕ) → now ≡ with_next_done n regs
      → Follows (reseal_plan setup n regs chip) old new (Ok (after, sealed)) → Follows (finish_turn setup n i (chip, regs)) old new (Ok (after, now))
  turn_done i now after sealed is it =
      subst (λ (r : Regs). Follows (finish_turn setup n i (chip, regs)) old new (Ok (after, r))) (sym is) (mapped_follows _ _ it)

  pub turn_stopped : (i : ℕ) {left : Chip × LineFault} → Follows (reseal_plan setup n regs chip) old new (Err left)
      → Follows (finish_turn setup n i (chip, regs)) old new (Err left)
  turn_stopped i it = mapped_follows _ _ it

module _ (setup : Setup) (n : ℕ) (regs : Regs) (chip : Chip) (d : Device) where
  pub page_start : AreTurnsLeft (finish_page_plan setup n regs chip) d (finish_turn setup n) 0 (length (not_done (register_at regs n))) (chip, regs) d
  unfolding finish_page_plan
  page_start = turns_start (finish_turn setup n) (length (not_done (register_at regs n))) (chip, regs) d

module _ (setup : Setup) (page : ℕ) (regs : Regs) (chip : Chip) where
  pub none_finished : (d : Device) → Follows (finish_for_plan setup page false regs chip) d d (Ok (chip, regs))
  unfolding finish_for_plan
  none_finished d = is_done (chip, regs) d

  pub found_finished : {old new : Device} {end : Result (Chip × Regs) (Chip × LineFault)} (found : Option ℕ)
      → register_to_finish regs.progress.items page ≡ found → Follows (finish_found_plan setup regs chip found) old new end
      → Follows (finish_for_plan setup page true regs chip) old new end
  unfolding finish_for_plan
  found_finished {old = old} {new = new} {end = end} found is it = subst (λ found. Follows (finish_found_plan setup regs chip found) old new end) (sym is) it

  pub one_found : {old new : Device} {end : Result (Chip × Regs) (Chip × LineFault)} (n : ℕ) → Follows (finish_page_plan setup n regs chip) old new end
      → Follows (finish_found_plan setup regs chip (Some n)) old new end
  unfolding finish_found_plan
  one_found n it = it

  pub none_found : (d : Device) → Follows (finish_found_plan setup regs chip None) d d (Ok (chip, regs))
  unfolding finish_found_plan
  none_found d = is_done (chip, regs) d
