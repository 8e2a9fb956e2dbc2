-- What a recovery leaves that a session over the engine began: as from the engine's start where it is done, and else a
-- durable device.
use Rattle.std.proofs.lemmas.Grind.{common_steps}
use Rattle.std.proofs.Common.{ℕ, ◌≡◌, ◌<◌, ◌≤◌, true, List, [], length, inl, inr, Option, Some, None, Ok, Err, refl, sym, ap, ◌∙◌, arith, rules}
use Rattle.line_session.proofs.Common.{is_some, MatchOption, true≢false, append-nil, Line, Regs, Device, BoardMemory, LedgerState, Setup, recovery_bound, group_bound, EngineState, Parts, parts_of, AreSound, IsDurable, IsSound, Work, SuiteState, IsTwinOfLastSeal, HasRecovered, most_recovery_steps, Taken, device_during, none_taken, most_within, AreDone, on_chip}
use Rattle.pmem_base.specs.Layout as layout
use Rattle.pmem_base.specs.Registers.{without_group}
use Rattle.pmem_recovery.specs.declared.faults.RecFault.TheVariants as Rec
use Rattle.commit_regs.proofs.GroupLemmas.{one_latch}
use Rattle.pmem_recovery.proofs.UndecidedLaws.{undecided_line}

-- its steps
pub few_recovery : (setup : Setup) (regs : Regs) → length regs.group.items ≤ group_bound setup.shape → most_recovery_steps setup regs ≤ recovery_bound setup.shape
few_recovery setup regs few = omega (arith, one_latch regs.group.items, few)

-- ---- it is done

module _ (setup : Setup) (ledger : LedgerState) (lit : BoardMemory) (between : Device) (suite_old suite_between : SuiteState) (engine : EngineState) (work : Work)
    (it : HasRecovered setup ledger (device_during lit none_taken) between suite_old suite_between (Ok (engine, work)))
    (durable : IsDurable setup lit.lines lit.regs ledger) where
  abbrev start : Parts
  start = parts_of engine (device_during lit none_taken) ledger suite_between.tags suite_between.digests

  abbrev middle : Parts
  middle = parts_of engine between ledger suite_between.tags suite_between.digests

  pub sound_recovered : AreSound setup middle
  sound_recovered = go between.lines refl
    where
      go : (found : Option (List Line)) → between.lines ≡ found
          → MatchOption found ⊥ (λ lines. IsSound setup (on_chip engine) lines between.regs ledger)
      go None none = absurd (true≢false (sym it.told ∙ ap (λ (o : Option (List Line)). is_some o) none))
      go (Some now) there = (it.lines lit.lines refl now there).from_durable durable

  -- no write is done yet
  pub recovered : lit.powered ≡ true → length lit.regs.group.items ≤ group_bound setup.shape → AreDone setup start [] [] (recovery_bound setup.shape) middle
  recovered on few =
      record {
        asked = refl;
        moment = refl;
        marks = sym (append-nil ledger.marks);
        loss = ap (λ (r : Regs). r.loss) it.regs;
        sound = sound_recovered;
        live = it.power.live on;
        takes = search (rules, most_within, few_recovery);
      }

-- ---- it isn't done

-- the device is durable, and the stop-loss number as it was
pub record IsLeftDurable (setup : Setup) (old : BoardMemory) (new : BoardMemory) (ledger : LedgerState) : Type 0 where
  pub durable : IsDurable setup new.lines new.regs ledger
  pub few_armed : length new.regs.group.items ≤ group_bound setup.shape
  pub loss : new.regs.loss ≡ old.regs.loss

module _ (setup : Setup) (ledger after : LedgerState) (lit board : BoardMemory) (taken : Taken) (suite_old suite_between : SuiteState) (same : after ≡ ledger)
    (durable : IsDurable setup lit.lines lit.regs ledger) (few : length lit.regs.group.items ≤ group_bound setup.shape) where
  abbrev from : Device
  from = device_during lit none_taken

  abbrev to : Device
  to = device_during board taken

  left_durable : (regs : Regs) → board.regs ≡ regs → length regs.group.items ≤ group_bound setup.shape → regs.loss ≡ lit.regs.loss → IsDurable setup board.lines board.regs ledger
      → IsLeftDurable setup lit board after
  left_durable regs is armed loss made = grind (arith, common_steps)

  pub cut_left : HasRecovered setup ledger from to suite_old suite_between (Err Rec.Cut) → IsLeftDurable setup lit board after
  cut_left it =
      let made = (it.lines lit.lines refl board.lines refl).from_durable durable in
      elim it.regs [
        | inl kept ↦ left_durable lit.regs kept few refl made
        | inr emptied ↦ left_durable (without_group lit.regs) emptied (omega arith) refl made
      ]

  pub wanted_left : HasRecovered setup ledger from to suite_old suite_between (Err Rec.Memory) → IsLeftDurable setup lit board after
  wanted_left it = left_durable lit.regs it.regs few refl ((it.lines lit.lines refl board.lines refl).from_durable durable)

  module _ (at major low high : ℕ) (cipher : Line) (tag : List ℕ)
      (it : HasRecovered setup ledger from to suite_old suite_between (Err (Rec.Twin at major low high cipher tag))) where
    pub twin_left : IsLeftDurable setup lit board after
    twin_left = left_durable _ it.regs (omega arith) refl ((it.lines lit.lines refl _ refl).from_durable durable).1

    -- the twin is of a data line's last seal
    pub twin_of_last : IsTwinOfLastSeal lit.regs.loss ledger at major low high cipher tag
    twin_of_last = ((it.lines lit.lines refl board.lines refl).from_durable durable).0

    pub twin_within : at < layout.data_lines setup.shape
    twin_within = (undecided_line setup _ lit.regs at (it.lines lit.lines refl _ refl).decided.0).0.on_device
