-- What a part of a call leaves that did nothing, or only read, or was cut before anything was changed.
use Rattle.std.proofs.Common.{rules, ℕ, ◌≡◌, [], length, refl, ap, ap₂, arith}
use Rattle.std.proofs.lemmas.Grind.{common_steps}
use Rattle.pmem_base.specs.declared.registers.Regs.{Regs}
use Rattle.board.specs.Device.{Device}
use Rattle.board.specs.Steps.{WasCut}
use Rattle.board.proofs.CountLemmas.{HasRisen-once}
use Rattle.commit_regs.specs.Groups.{redone_told}
use Rattle.seal_ledger.specs.Ledger.{LedgerState}
use Rattle.suite.specs.Setup.{Setup}
use Rattle.pmem_engine.specs.Engine.{ChipState}
use Rattle.pmem_engine.specs.Parts.{Parts, parts_with, regs_of, lines_redone, AreTrusted, AreSound, AreDurable}
use Rattle.call_effects.specs.Outcomes.{going, cut_short}
use Rattle.pmem_engine.specs.Outcomes.{KeepsPlaces, KeepsCounters, HasSmallGroup, NeverFalls, OneLossEffect, TakesSteps}
use Rattle.pmem_engine.specs.CallFacts.{IsLeftAlone}
use Rattle.pmem_engine.specs.Still.{HasOnlyRead}

-- nothing was done
pub nothing_done : (setup : Setup) (parts : Parts) → OneLossEffect setup going [] parts parts
nothing_done setup parts = grind (arith, common_steps)

pub left_alone : (parts : Parts) → IsLeftAlone parts parts
left_alone parts = record { engine = refl; device = refl; ledger = refl; tags = refl; digests = refl }

-- so no step was made
pub no_steps_of : (before after : Device) → after.writes ≡ before.writes → after.latches ≡ before.latches → TakesSteps 0 before after
no_steps_of before after writes latches = search rules

-- a part that only read
pub done_reading : (setup : Setup) (old new : Parts) → HasOnlyRead old new → OneLossEffect setup going [] old new
done_reading setup old new it = search rules

-- what is sound is trusted
pub sound_trusted : (setup : Setup) (parts : Parts) → AreSound setup parts → AreTrusted setup parts
sound_trusted setup parts sound = search rules

-- a part that was cut before anything was changed, whatever tags and digests it made
module _ (setup : Setup) (engine : ChipState) (before after : Device) (ledger : LedgerState) (tags digests tags_now digests_now : ℕ)
    (it : WasCut before after) where
  abbrev start : Parts
  start = parts_with engine before ledger tags digests

  abbrev finish : Parts
  finish = parts_with engine after ledger tags_now digests_now

  same_lines : lines_redone finish ≡ lines_redone start
  same_lines = ap₂ (λ (regs : Regs) lines. redone_told regs.group.items lines) it.regs it.lines

  still_small : (regs_of start).group.items ≡ [] → HasSmallGroup setup.shape cut_short finish
  still_small none = omega (arith, ap (λ (regs : Regs). length regs.group.items) it.regs, ap length none)

  still_durable : AreSound setup start → AreDurable setup finish
  still_durable sound = search rules

  still_places : KeepsPlaces setup [] start finish
  still_places = search (rules, same_lines)

  still_counters : KeepsCounters setup start finish
  still_counters = search (rules, same_lines)

  pub cut_still : NeverFalls tags tags_now → NeverFalls digests digests_now → OneLossEffect setup cut_short [] start finish
  cut_still never_tags never_digests = search (rules, HasRisen-once, still_small, still_durable, still_places, still_counters)
