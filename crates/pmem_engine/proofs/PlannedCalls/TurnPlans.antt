-- The ends of a turn, as its plan has them.
use Rattle.std.proofs.Common.{◌≡◌, ℕ, ◌<◌, List, [], ◌∷◌, Option, Some, None, Result, Ok, Err, length, sym, subst, arith}
use Rattle.pmem_base.specs.declared.registers.Progress.{Progress}
use Rattle.pmem_base.specs.declared.registers.Regs.{Regs}
use Rattle.board.specs.Device.{Device}
use Rattle.call_plan.specs.Plans.{ended}
use Rattle.call_plan.specs.Following.{Follows}
use Rattle.call_plan.proofs.Steps.{is_done}
use Rattle.call_plan.proofs.Bind.{mapped_follows}
use Rattle.suite.specs.Setup.{Setup}
use Rattle.pmem_engine.specs.declared.fault.LineFault.{LineFault}
use Rattle.pmem_engine.specs.Plans.{Chip, reseal_plan, oldest_page_plan, turn_plan}
use Rattle.pmem_engine.proofs.PageLines.TurnOutcomes.{turned_of}

module _ (setup : Setup) (regs : Regs) (chip : Chip) where
  pub turn_idle : (d : Device) → regs.progress.items ≡ [] → Follows (turn_plan setup regs chip) d d (Ok (chip, None))
  unfolding oldest_page_plan
  turn_idle d none =
      mapped_follows _ _ (subst (λ items. Follows (oldest_page_plan setup regs chip items) d d (Ok (chip, None))) (sym none) (is_done (chip, None) d))

  module _ {old new : Device} (after : Chip) where
    its_page : (registers : List Progress) (answer : Result (ℕ × ℕ) LineFault) → 0 < length registers
        → Follows (reseal_plan setup 0 regs chip) old new (ended answer after)
        → Follows (oldest_page_plan setup regs chip registers) old new
        (ended (let answered : Result (Option (ℕ × ℕ)) LineFault = elim answer [ Ok sealed ↦ Ok (Some sealed) | Err fault ↦ Err fault ] in answered) after)
    unfolding oldest_page_plan
    its_page [] answer some it = absurd (omega arith)
    its_page (register ∷ others) (Ok sealed) some it = mapped_follows _ _ it
    its_page (register ∷ others) (Err fault) some it = mapped_follows _ _ it

    -- a line was to be sealed
    pub turn_end : (answer : Result (ℕ × ℕ) LineFault) → 0 < length regs.progress.items
        → Follows (reseal_plan setup 0 regs chip) old new (ended answer after)
        → Follows (turn_plan setup regs chip) old new (ended (turned_of answer) after)
    turn_end (Ok sealed) some it = mapped_follows _ _ (its_page regs.progress.items (Ok sealed) some it)
    turn_end (Err fault) some it = mapped_follows _ _ (its_page regs.progress.items (Err fault) some it)
