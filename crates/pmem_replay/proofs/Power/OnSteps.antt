-- Powering on: what the world answers, and what becomes of it.
use Rattle.std.proofs.Common.{rules}
use Rattle.std.proofs.Common.{[], ℕ, ◌≡◌, ◌<◌, ◌≤◌, ◌-◌, ◌^◌, Bool, true, false, inl, inr, List, Option, Some, None, Ok, Err, refl, sym, ap, subst, ◌∙◌, arith}
use Rattle.std.specs.Prelude.{not, Result, option_map}
use Rattle.std.proofs.lemmas.Bool.{true≢false}
use Rattle.std.proofs.lemmas.Option.{same_Some}
use Rattle.std.proofs.lemmas.List.{append-nil}
use Rattle.pmem_base.specs.declared.lines.Line.{Line}
use Rattle.pmem_base.specs.declared.registers.Regs.{Regs}
use Rattle.pmem_base.specs.declared.commands.Posted.{Posted}
use Rattle.pmem_base.specs.declared.commands.Command.TheVariants as Do
use Rattle.pmem_base.specs.declared.answers.Answer.{Answer}
use Rattle.pmem_base.specs.declared.answers.Answer.TheVariants as Say
use Rattle.pmem_base.specs.declared.answers.Exhibit.TheVariants as Show
use Rattle.pmem_base.specs.Shape.{Shape}
use Rattle.pmem_base.specs.Layout as layout
use Rattle.pmem_base.specs.Lines.{IsLine, IsTag, line_at, tag_slot}
use Rattle.pmem_base.specs.Ranges.{IsAnswer}
use Rattle.pmem_base.specs.Registers.{without_group}
use Rattle.pmem_base.specs.WaitingWrites.{queues_after_loss}
use Rattle.board.specs.Memory.{BoardMemory}
use Rattle.call_plan.specs.Plans.{ended}
use Rattle.call_plan.specs.Following.{Follows}
use Rattle.call_plan.proofs.StillCalls.{untouched, rests}
use Rattle.commit_regs.specs.Groups.{finishing_latches}
use Rattle.meta_cache.specs.Banks.{IsBanksOf}
use Rattle.suite.specs.Setup.{Setup}
use Rattle.plain_model.specs.State.{PlainState}
use Rattle.plain_model.specs.After.{after_clean, after_loosening, state_after, steps_of, is_cut}
use Rattle.plain_model.specs.Bounds.{recovery_bound}
use Rattle.plain_model.specs.Answers.{decided_answer, is_shown}
use Rattle.pmem_engine.specs.Engine.{EngineState}
use Rattle.call_effects.specs.declared.recovery.Work.{Work}
use Rattle.pmem_recovery.specs.declared.faults.RecFault.{RecFault}
use Rattle.pmem_recovery.specs.declared.faults.RecFault.TheVariants as Fail
use Rattle.call_effects.specs.SuiteStates.{SuiteState, suite_state}
use Rattle.pmem_recovery.specs.Parts.{IsRefusal}
use Rattle.pmem_recovery.specs.Trials.{first_undecided, tried_minors}
use Rattle.pmem_recovery.specs.Fixed.{found_root}
use Rattle.pmem_recovery.specs.Plans.{suite_counts, recover_plan}
use Rattle.pmem_recovery.specs.Recovered.{HasRecovered, HasOnlyRedone}
use Rattle.commit_regs.proofs.GroupLemmas.{one_latch}
use Rattle.pmem_recovery.proofs.UndecidedLaws.{undecided_line}
use Rattle.pmem_replay.specs.Flagged.{Tampering, Dirtying, HasDirtyingOf, with_tampering, with_dirtying}
use Rattle.pmem_replay.specs.World.{WorldState, WorldParts, IsOff, IsWorld, state_in, world_of, lines_in}
use Rattle.watched_board.specs.Watching.{none_taken, steps_in, step_limit, device_during}
use Rattle.pmem_replay.specs.During.{IsTakenApart}
use Rattle.pmem_replay.specs.Replies.{without_marks}
use Rattle.pmem_replay.specs.Stepped.{HasStepped, IsOnAnswer, IsSeenOnDevice, board_after_on, engine_given}
use Rattle.pmem_replay.proofs.Steps.GoodReplies.{IsGood}
use Rattle.pmem_replay.proofs.Steps.WorldsAfterCalls.{cut_counted, uncut_counted}
use Rattle.pmem_base.specs.Counts.{HasRisen}
use Rattle.pmem_replay.proofs.Steps.MarklessCalls.{counted_state, cut_state}
use Rattle.pmem_replay.proofs.Power.OnLaws.{IsOnCall, small_recovery, lit, off_in, recovered_state, cut_on_state, recovered-good, recovered-world, cut-good, cut-world}
use Rattle.pmem_replay.proofs.Power.RefusedRecoveries.{redone_same, refused-world, counter_tampered, counter_lasting, counter-good, root_tampered, root_lasting, root-good, twin-good}
use Rattle.pmem_replay.proofs.Steps.DeviceEvidence.{small_line}
use Rattle.pmem_replay.proofs.Steps.PartsOfWorld.{EndsCall, ends, numbered, setup_in}
use Rattle.pmem_replay.proofs.Steps.WorldSteps.{stepped_by_engine}
use Rattle.pmem_replay.proofs.Table.UnchangedSteps.{dark_in}
use Rattle.pmem_replay.proofs.Steps.CallSurroundings.{called}
use Rattle.pmem_replay.proofs.Power.RecoveryCalls.{whole_empty, apart_ok, apart_err, RecoveryCall}

module _ (s : RecoveryCall) where
  abbrev setup : Setup
  setup = setup_in s.formulas_of s.geometry s.parts

  -- the parts with this engine and board
  abbrev pub left_with : Option EngineState → BoardMemory → WorldParts
  left_with engine board = called s.parts s.keys board s.parts.ledger s.parts.capacity engine s.tags s.digests s.steps

  abbrev old : WorldState
  old = world_of setup s.parts

  abbrev Has : Result (EngineState × Work) RecFault → Type 0
  Has answer =
      HasRecovered setup s.parts.ledger (device_during (lit s.parts.board) none_taken) (device_during s.board s.taken)
      (suite_state s.parts.keys s.pads s.parts.tags s.parts.digests) (suite_state s.keys s.pads_new s.tags s.digests) answer

  its_off : IsOff setup old
  its_off = off_in setup old s.served.going.whole s.served.was_off

  undecided : decided_answer setup.shape (state_in setup s.parts) Do.On ≡ None
  undecided = rw (dark_in setup old s.served.going.whole s.served.was_off) refl

  on_call : (answer : Result (EngineState × Work) RecFault) → Has answer → (new : WorldState) → new.shape ≡ setup.shape → new.start ≡ s.parts.start
      → new.ledger ≡ s.parts.ledger → IsOnCall setup old new s.board s.taken answer
  on_call answer has new shape start ledger = search rules

  -- power that lasts isn't off
  lasts : s.board.powered ≡ true → s.board.powered ≡ false → steps_in s.taken < step_limit
  lasts lasting off = absurd (true≢false (sym lasting ∙ off))

  few : steps_in s.taken < 2 ^ 64
  few = omega (arith, s.served.watched.follows.few)

  -- the state where power is on
  lit_state : (engine : Option EngineState) → s.board.powered ≡ true → s.board.regs.loss ≡ s.parts.board.regs.loss
      → state_in setup (left_with engine s.board)
      ≡ record (counted_state (state_in setup s.parts) (steps_in s.taken)) { power = true }
  lit_state engine lasting loss =
      let fuse : s.board.fuse ≡ option_map (λ n. n - steps_in s.taken) s.parts.board.fuse = s.served.watched.follows.burnt lasting in
      cc (lasting, fuse, s.served.watched.follows.snapshot, s.served.counted, loss)

  -- where it rests again
  rest_state : (engine : Option EngineState) → s.board.powered ≡ true → s.board.regs.loss ≡ s.parts.board.regs.loss
      → state_in setup (left_with engine (record (s.board) { powered = false }))
      ≡ counted_state (state_in setup s.parts) (steps_in s.taken)
  rest_state engine lasting loss =
      ap (λ (st : PlainState). record st { power = false }) (lit_state engine lasting loss)
      ∙ ap (λ (b : Bool). record (counted_state (state_in setup s.parts) (steps_in s.taken)) { power = b }) (sym its_off.unpowered)

  -- where it was cut
  dark_state : (engine : Option EngineState) (queues : List (List Posted)) → s.board.powered ≡ false → s.board.regs.loss ≡ s.parts.board.regs.loss
      → queues ≡ queues_after_loss setup.shape.durable s.parts.queues
      → state_in setup (record (left_with engine s.board) { queues = queues })
      ≡ cut_state setup.shape (state_in setup s.parts) (steps_in s.taken)
  dark_state engine queues dark loss empty =
      let fuse : s.board.fuse ≡ None = s.served.watched.follows.cleared dark in
      cc (dark, fuse, s.served.watched.follows.snapshot, empty, s.served.counted, loss)

  -- recovery had its memory, and followed its plan
  followed : (answer : Result (EngineState × Work) RecFault) (said : Answer) → Has answer → IsOnAnswer (steps_in s.taken) answer said
      → Follows (recover_plan setup s.parts.board.regs (suite_counts s.parts.tags s.parts.digests)) (device_during (lit s.parts.board) none_taken)
      (device_during s.board s.taken) (ended answer (suite_counts s.tags s.digests))
  followed (Ok done) said has is = has.plan
  followed (Err Fail.Cut) said has is = has.plan
  followed (Err (Fail.NoCounter at)) said has is = has.plan
  followed (Err (Fail.Root kept found)) said has is = has.plan
  followed (Err (Fail.Twin at major low high cipher tag)) said has is = has.plan
  followed (Err Fail.Memory) said has is = absurd is

  -- a step with recovery in it
  powered : (answer : Result (EngineState × Work) RecFault) → Has answer → (said : Answer) (new : WorldState)
      → IsGood setup old Do.On (without_marks said) → IsAnswer said
      → new.shape ≡ setup.shape → new.keys ≡ s.keys → new.start ≡ s.parts.start → new.shown ≡ is_shown said
      → new.ledger ≡ s.parts.ledger → new.capacity ≡ s.parts.capacity → new.tags ≡ s.tags → new.digests ≡ s.digests → new.engine ≡ engine_given answer
      → new.board ≡ board_after_on answer s.board
      → s.board.powered ≡ not (is_cut said)
      → (is_shown said ≡ false → steps_of said ≡ steps_in s.taken)
      → (s.board.powered ≡ false → steps_in s.taken < step_limit)
      → IsOnAnswer (steps_in s.taken) answer said
      → (is_shown said ≡ false → new.state ≡ state_after setup.shape old.state Do.On (without_marks said))
      → (is_shown said ≡ false → IsWorld setup new)
      → IsSeenOnDevice setup old Do.On said new
      → HasStepped setup old Do.On (without_marks said) new
  powered answer has said new good its shape new_keys start shown ledger capacity new_tags new_digests engine board power its_steps within answered state world seen =
      stepped_by_engine setup old new Do.On (without_marks said) undecided good its
      (record { shape = shape; keys = new_keys ∙ has.keys; start = start })
      shown
      (ap (λ l. l.marks) ledger ∙ sym (append-nil s.parts.ledger.marks))
      state world
      (record {
        left = s.board;
        taken = s.taken;
        result = answer;
        suite_old = suite_state s.parts.keys s.pads s.parts.tags s.parts.digests;
        suite_new = suite_state s.keys s.pads_new s.tags s.digests;
        keys = refl;
        tags_old = refl;
        tags_new = sym new_tags;
        digests_old = refl;
        digests_new = sym new_digests;
        outcome = record { run = record { follows = s.served.watched.follows; within = within }; follows = followed answer said has answered };
        recovered = has;
        answered = answered;
        steps = its_steps;
        engine = engine;
        board = board;
        ledger = ledger;
        capacity = capacity;
        cut = λ is. subst (λ n. HasRisen s.parts.board.cuts n) (sym (cuts answer board)) (cut_counted s.served.watched.follows power is);
        uncut = λ is. cuts answer board ∙ uncut_counted s.served.watched.follows power is;
      })
      seen
    where
      cuts : (answer : Result (EngineState × Work) RecFault) → new.board ≡ board_after_on answer s.board → new.board.cuts ≡ s.board.cuts
      cuts (Ok done) board = ap (λ (b : BoardMemory). b.cuts) board
      cuts (Err Fail.Cut) board = ap (λ (b : BoardMemory). b.cuts) board
      cuts (Err fault) board = ap (λ (b : BoardMemory). b.cuts) board

  -- the answer as the program has it, with the engine in its place
  abbrev EndsOn : Answer → WorldParts → Type 0
  EndsOn answer q = EndsCall s.formulas_of s.geometry s.now Do.On (without_marks answer) q

  ends_on : (say : ℕ → Answer) (to : Option EngineState → BoardMemory → WorldParts) (engine : Option EngineState) (left board : BoardMemory)
      → (to s.engine left).keys ≡ s.keys → s.engine ≡ engine → left ≡ board
      → HasStepped setup old Do.On (without_marks (say (steps_in s.taken))) (world_of setup (to engine board))
      → EndsOn (say s.said) (to s.engine left)
  ends_on say to engine left board keys same same_board step =
      ends s.formulas_of s.geometry s.parts (to s.engine left) s.now Do.On (without_marks (say s.said)) s.is (keys ∙ s.was.recovered.keys)
      (numbered setup old (world_of setup (to s.engine left)) Do.On [] say s.said (steps_in s.taken) s.counted
      (subst (λ (e : Option EngineState). HasStepped setup old Do.On (without_marks (say (steps_in s.taken))) (world_of setup (to e left))) (sym same)
      (subst (λ (b : BoardMemory). HasStepped setup old Do.On (without_marks (say (steps_in s.taken))) (world_of setup (to engine b))) (sym same_board) step)))

  refused_as : (fault : RecFault) → s.outcome ≡ Err fault → (s.engine ≡ None) × (s.was.answer ≡ Err fault)
  refused_as fault is = apart_err s.was.answer s.engine fault (subst (IsTakenApart s.was.answer s.engine) is s.was.apart)

  -- ---- recovered

  -- the world afterwards
  abbrev recovered_new : Option EngineState → Tampering → Dirtying → WorldState
  recovered_new engine tampering dirtying =
      world_of setup (record (left_with engine s.board) { tampering = tampering; dirtying = dirtying })

  on_recovered_some : (found : EngineState) (work : Work) (tampering : Tampering) (dirtying : Dirtying) → Has (Ok (found, work))
      → ((st : PlainState) → with_tampering st tampering ≡ after_loosening (with_tampering st s.parts.tampering))
      → ((g : Shape) (st : PlainState) → HasDirtyingOf g s.parts.dirtying → with_dirtying st dirtying ≡ after_clean g (with_dirtying st s.parts.dirtying))
      → work.trials < 2 ^ 64 → work.digests < 2 ^ 64
      → HasStepped setup old Do.On (without_marks (Say.Recovered work.trials work.digests (steps_in s.taken))) (recovered_new (Some found) tampering dirtying)
  on_recovered_some found work tampering dirtying has loosened cleaned few_trials few_digests =
      let new = recovered_new (Some found) tampering dirtying in
      let call = on_call (Ok (found, work)) has new refl refl refl in
      let lasting : s.board.powered ≡ true = has.power.live refl in
      let loss : s.board.regs.loss ≡ s.parts.board.regs.loss = ap (λ (r : Regs). r.loss) has.regs in
      let s0 : PlainState = record (counted_state (state_in setup s.parts) (steps_in s.taken)) { power = true } in
      let its_state : new.state ≡ recovered_state setup.shape old.state (steps_in s.taken) =
      ap (λ (st : PlainState). with_dirtying (with_tampering st tampering) dirtying) (lit_state (Some found) lasting loss)
      ∙ cleaned setup.shape (with_tampering s0 tampering)
      (record { touched = s.served.going.whole.flags.touched; flushed = s.served.going.whole.flags.flushed })
      ∙ ap (λ (st : PlainState). after_clean setup.shape (with_dirtying st s.parts.dirtying)) (loosened s0) in
      powered (Ok (found, work)) has (Say.Recovered work.trials work.digests (steps_in s.taken)) new
      (recovered-good setup old new s.board s.taken found work call)
      (few_trials, few_digests, few)
      refl refl refl s.served.going.unshown refl refl refl refl refl refl lasting
      (λ quiet. refl) (lasts lasting) refl
      (λ quiet. its_state)
      (λ quiet. recovered-world setup old new s.board s.taken found work call its_state refl refl
      (subst (λ (e : EngineState). IsBanksOf setup.shape e.cache) (sym has.engine) (whole_empty setup.shape)))
      tt

  pub on-recovered : (work : Work) (tampering : Tampering) (dirtying : Dirtying) → s.outcome ≡ Ok work
      → ((st : PlainState) → with_tampering st tampering ≡ after_loosening (with_tampering st s.parts.tampering))
      → ((g : Shape) (st : PlainState) → HasDirtyingOf g s.parts.dirtying → with_dirtying st dirtying ≡ after_clean g (with_dirtying st s.parts.dirtying))
      → work.trials < 2 ^ 64 → work.digests < 2 ^ 64
      → EndsOn (Say.Recovered work.trials work.digests s.said) (record (left_with s.engine s.board) { tampering = tampering; dirtying = dirtying })
  on-recovered work tampering dirtying is loosened cleaned few_trials few_digests =
      let apart = apart_ok s.was.answer s.engine work (subst (IsTakenApart s.was.answer s.engine) is s.was.apart) in
      ends_on (λ n. Say.Recovered work.trials work.digests n) (λ e board. record (left_with e board) { tampering = tampering; dirtying = dirtying })
      (Some apart.0) s.board s.board refl apart.1 refl
      (on_recovered_some apart.0 work tampering dirtying (subst Has apart.2 s.was.recovered) loosened cleaned few_trials few_digests)

  -- ---- cut

  abbrev cut_new : Option EngineState → Tampering → List (List Posted) → WorldState
  cut_new engine tampering queues =
      world_of setup (record (left_with engine s.board) { tampering = tampering; queues = queues })

  on_cut_none : (tampering : Tampering) (queues : List (List Posted)) → Has (Err Fail.Cut)
      → ((st : PlainState) → with_tampering st tampering ≡ after_loosening (with_tampering st s.parts.tampering))
      → queues ≡ queues_after_loss setup.shape.durable s.parts.queues
      → HasStepped setup old Do.On (without_marks (Say.Cut (steps_in s.taken))) (cut_new None tampering queues)
  on_cut_none tampering queues has loosened empty =
      let new = cut_new None tampering queues in
      let call = on_call (Err Fail.Cut) has new refl refl refl in
      let sum = (has.steps.1 (inl refl)).sum (omega (arith, s.served.watched.follows.few)) (omega (arith, s.served.watched.follows.few)) in
      let latch : finishing_latches s.parts.board.regs.group.items ≤ 1 = one_latch s.parts.board.regs.group.items in
      let fewer : steps_in s.taken < recovery_bound setup.shape = omega (arith, sum, latch, s.served.going.whole.board.few_armed) in
      let dark : s.board.powered ≡ false = has.power.off in
      let loss : s.board.regs.loss ≡ s.parts.board.regs.loss =
      elim has.regs [
        | inl same ↦ ap (λ (r : Regs). r.loss) same
        | inr emptied ↦ ap (λ (r : Regs). r.loss) emptied
      ] in
      let its_state : new.state ≡ cut_on_state setup.shape old.state (steps_in s.taken) =
      ap (λ (st : PlainState). with_tampering st tampering) (dark_state None queues dark loss empty)
      ∙ loosened (cut_state setup.shape (state_in setup s.parts) (steps_in s.taken)) in
      powered (Err Fail.Cut) has (Say.Cut (steps_in s.taken)) new
      (cut-good setup old new s.board s.taken call fewer)
      few
      refl refl refl s.served.going.unshown refl refl refl refl refl refl dark
      (λ quiet. refl) (λ off. omega (arith, fewer, small_recovery setup.shape s.served.going.whole.whole_shape)) refl
      (λ quiet. its_state)
      (λ quiet. cut-world setup old new s.board s.taken call its_state refl refl)
      tt

  pub on-cut : (tampering : Tampering) (queues : List (List Posted)) → s.outcome ≡ Err Fail.Cut → ((st : PlainState) → with_tampering st tampering ≡ after_loosening (with_tampering st s.parts.tampering)) → queues ≡ queues_after_loss setup.shape.durable s.parts.queues
      → EndsOn (Say.Cut s.said) (record (left_with s.engine s.board) { tampering = tampering; queues = queues })
  on-cut tampering queues is loosened empty =
      let apart = refused_as Fail.Cut is in
      ends_on (λ n. Say.Cut n) (λ e board. record (left_with e board) { tampering = tampering; queues = queues }) None s.board s.board refl apart.0 refl
      (on_cut_none tampering queues (subst Has apart.1 s.was.recovered) loosened empty)

  -- ---- refused, and power goes off

  abbrev rest_new : Option EngineState → BoardMemory → Bool → WorldState
  rest_new engine rested shown =
      world_of setup (record (left_with engine rested) { shown = shown })

  abbrev dim : BoardMemory
  dim = record (s.board) { powered = false }

  -- the line or the root as recovery saw it
  lines_seen : (fault : RecFault) → Has (Err fault) → s.board.regs ≡ without_group s.parts.board.regs
      → HasOnlyRedone (device_during (lit s.parts.board) none_taken) (device_during s.board s.taken) → lines_in (rest_new None dim s.parts.shown) ≡ lines_in old
  lines_seen fault has regs redo =
      redone_same setup old (rest_new None dim s.parts.shown) s.board s.taken fault (on_call (Err fault) has (rest_new None dim s.parts.shown) refl refl refl) regs redo

  on_counter_none : (at : ℕ) → Has (Err (Fail.NoCounter at))
      → HasStepped setup old Do.On (without_marks (Say.NoCounter at (steps_in s.taken))) (rest_new None dim s.parts.shown)
  on_counter_none at has =
      let new = rest_new None dim s.parts.shown in
      let call = on_call (Err (Fail.NoCounter at)) has new refl refl refl in
      let lasting : s.board.powered ≡ true = has.power.live refl in
      let loss : s.board.regs.loss ≡ s.parts.board.regs.loss = ap (λ (r : Regs). r.loss) has.regs in
      let its_state : new.state ≡ counted_state old.state (steps_in s.taken) = rest_state None lasting loss in
      let refused : IsRefusal setup (lines_in old) s.parts.board.regs (Fail.NoCounter at) = (has.lines s.parts.board.lines refl s.board.lines refl).decided in
      let there : IsRefusal setup (lines_in new) s.board.regs (Fail.NoCounter at) =
      subst (λ lines. IsRefusal setup lines s.board.regs (Fail.NoCounter at)) (sym (lines_seen (Fail.NoCounter at) has has.regs has.unchanged))
      (subst (λ (r : Regs). IsRefusal setup (lines_in old) r (Fail.NoCounter at)) (sym has.regs) refused) in
      powered (Err (Fail.NoCounter at)) has (Say.NoCounter at (steps_in s.taken)) new
      (counter-good setup old new s.board s.taken at call)
      (small_line setup.shape s.served.going.whole.whole_shape at (undecided_line setup (lines_in old) s.parts.board.regs at refused.0).0.on_device, few)
      refl refl refl s.served.going.unshown refl refl refl refl refl refl lasting
      (λ quiet. refl) (lasts lasting) refl
      (λ quiet. its_state)
      (λ quiet. refused-world setup old new s.board s.taken (Fail.NoCounter at) call call.recovered.regs call.recovered.unchanged
      (counter_tampered setup old new s.board s.taken at call) (counter_lasting setup old new s.board s.taken at call) its_state refl refl)
      there

  pub on-counter : (rested : BoardMemory) (at : ℕ) → s.outcome ≡ Err (Fail.NoCounter at) → rested ≡ dim
      → EndsOn (Say.NoCounter at s.said) (record (left_with s.engine rested) { shown = s.parts.shown })
  on-counter rested at is rest =
      let apart = refused_as (Fail.NoCounter at) is in
      ends_on (λ n. Say.NoCounter at n) (λ e board. record (left_with e board) { shown = s.parts.shown }) None rested dim refl apart.0 rest
      (on_counter_none at (subst Has apart.1 s.was.recovered))

  on_root_none : (kept found : List ℕ) → Has (Err (Fail.Root kept found)) → IsTag kept → IsTag found
      → HasStepped setup old Do.On (without_marks (Say.WrongRoot kept found (steps_in s.taken))) (rest_new None dim s.parts.shown)
  on_root_none kept found has kept_tag found_tag =
      let new = rest_new None dim s.parts.shown in
      let call = on_call (Err (Fail.Root kept found)) has new refl refl refl in
      let lasting : s.board.powered ≡ true = has.power.live refl in
      let loss : s.board.regs.loss ≡ s.parts.board.regs.loss = ap (λ (r : Regs). r.loss) has.regs in
      let its_state : new.state ≡ counted_state old.state (steps_in s.taken) = rest_state None lasting loss in
      let refused : IsRefusal setup (lines_in old) s.parts.board.regs (Fail.Root kept found) = (has.lines s.parts.board.lines refl s.board.lines refl).decided in
      let there : found ≡ found_root setup (lines_in new) s.board.regs =
      refused.its_found
      ∙ sym (ap (λ lines. found_root setup lines s.board.regs) (lines_seen (Fail.Root kept found) has has.regs has.unchanged)
      ∙ ap (λ (r : Regs). found_root setup (lines_in old) r) has.regs) in
      powered (Err (Fail.Root kept found)) has (Say.WrongRoot kept found (steps_in s.taken)) new
      (root-good setup old new s.board s.taken kept found call)
      (kept_tag, found_tag, few)
      refl refl refl s.served.going.unshown refl refl refl refl refl refl lasting
      (λ quiet. refl) (lasts lasting) refl
      (λ quiet. its_state)
      (λ quiet. refused-world setup old new s.board s.taken (Fail.Root kept found) call call.recovered.regs call.recovered.unchanged
      (root_tampered setup old new s.board s.taken kept found call) (root_lasting setup old new s.board s.taken kept found call) its_state refl refl)
      there

  pub on-root : (rested : BoardMemory) (kept found : List ℕ) → s.outcome ≡ Err (Fail.Root kept found) → rested ≡ dim → IsTag kept → IsTag found
      → EndsOn (Say.WrongRoot kept found s.said) (record (left_with s.engine rested) { shown = s.parts.shown })
  on-root rested kept found is rest kept_tag found_tag =
      let apart = refused_as (Fail.Root kept found) is in
      ends_on (λ n. Say.WrongRoot kept found n) (λ e board. record (left_with e board) { shown = s.parts.shown }) None rested dim refl apart.0 rest
      (on_root_none kept found (subst Has apart.1 s.was.recovered) kept_tag found_tag)

  -- ---- shown

  on_twin_none : (at major low high : ℕ) (cipher : Line) (tag : List ℕ) → Has (Err (Fail.Twin at major low high cipher tag))
      → major < 2 ^ 64 → IsLine cipher → IsTag tag
      → HasStepped setup old Do.On (without_marks (Say.Shown (Show.Twin at major low high cipher tag))) (rest_new None dim true)
  on_twin_none at major low high cipher tag has small_major whole_cipher whole_tag =
      let fault : RecFault = Fail.Twin at major low high cipher tag in
      let new = rest_new None dim true in
      let call = on_call (Err fault) has new refl refl refl in
      let refused : IsRefusal setup (lines_in old) s.parts.board.regs fault = (has.lines s.parts.board.lines refl s.board.lines refl).decided in
      let holds = has.twin in
      let redo : HasOnlyRedone (device_during (lit s.parts.board) none_taken) (device_during s.board s.taken) = has.unchanged in
      let same : lines_in new ≡ lines_in old = lines_seen fault has has.regs redo in
      let lines : s.board.lines ≡ lines_in old = same_Some s.board.lines (lines_in old) redo.lines in
      powered (Err fault) has (Say.Shown (Show.Twin at major low high cipher tag)) new
      (twin-good setup old new s.board s.taken at major low high cipher tag call) (
        small_line setup.shape s.served.going.whole.whole_shape at (undecided_line setup (lines_in old) s.parts.board.regs at refused.0).0.on_device,
        small_major,
        omega (arith, holds.in_order, holds.in_range),
        holds.in_range,
        whole_cipher,
        whole_tag,
      )
      refl refl refl refl refl refl refl refl refl refl (has.power.live refl)
      (λ quiet. absurd (true≢false quiet)) (lasts (has.power.live refl)) refl
      (λ quiet. absurd (true≢false quiet))
      (λ quiet. absurd (true≢false quiet)) (
        refused.1.its_cipher ∙ ap (λ ls. line_at ls at) (sym lines),
        refused.1.its_tag ∙ ap (λ ls. tag_slot (line_at ls (layout.tag_line setup.shape at)) at) (sym lines),
        ap (λ ls. first_undecided setup ls s.board.regs) same
            ∙ ap (λ (r : Regs). first_undecided setup (lines_in old) r) has.regs ∙ refused.0,
        (
          refused.1.more,
          ap (λ ls. tried_minors setup ls s.board.regs at) same
              ∙ ap (λ (r : Regs). tried_minors setup (lines_in old) r at) has.regs ∙ refused.1.tried,
        ),
      )

  pub on-twin : (rested : BoardMemory) (at major low high : ℕ) (cipher : Line) (tag : List ℕ)
      → s.outcome ≡ Err (Fail.Twin at major low high cipher tag) → rested ≡ dim → major < 2 ^ 64 → IsLine cipher → IsTag tag
      → EndsOn (Say.Shown (Show.Twin at major low high cipher tag)) (record (left_with s.engine rested) { shown = true })
  on-twin rested at major low high cipher tag is rest small_major whole_cipher whole_tag =
      let apart = refused_as (Fail.Twin at major low high cipher tag) is in
      ends_on (λ n. Say.Shown (Show.Twin at major low high cipher tag)) (λ e board. record (left_with e board) { shown = true }) None rested dim refl apart.0 rest
      (on_twin_none at major low high cipher tag (subst Has apart.1 s.was.recovered) small_major whole_cipher whole_tag)

  -- ---- no memory

  unmoved : Has (Err Fail.Memory) → dim ≡ s.parts.board
  unmoved has =
      rests s.parts.board (lit s.parts.board) s.board refl its_off.unpowered
      (untouched (lit s.parts.board) s.board s.taken s.served.watched has.unchanged refl)

  -- nothing has changed
  pub on-memory : (rested : BoardMemory) → s.outcome ≡ Err Fail.Memory → rested ≡ dim → left_with s.engine rested ≡ s.parts
  on-memory rested is rest =
      let apart = refused_as Fail.Memory is in
      let has : Has (Err Fail.Memory) = subst Has apart.1 s.was.recovered in
      let same = has.unchanged in
      let writes : s.taken.writes ≡ 0 = ap (λ d. d.writes) same in
      let latches : s.taken.latches ≡ 0 = ap (λ d. d.latches) same in
      let its_steps : s.steps ≡ s.parts.steps = omega (arith, s.served.counted, writes, latches, s.served.going.whole.steps.in_range) in
      ap (λ (x : List ℕ). called s.parts x rested s.parts.ledger s.parts.capacity s.engine s.tags s.digests s.steps) (ap (λ (st : SuiteState). st.keys) has.uncounted)
      ∙ ap (λ (x : BoardMemory). called s.parts s.parts.keys x s.parts.ledger s.parts.capacity s.engine s.tags s.digests s.steps) (rest ∙ unmoved has)
      ∙ ap (λ (x : Option EngineState). called s.parts s.parts.keys s.parts.board s.parts.ledger s.parts.capacity x s.tags s.digests s.steps) (apart.0 ∙ sym s.served.was_off)
      ∙ ap (λ (x : ℕ). record (s.parts) { tags = x; digests = s.digests; steps = s.steps }) (ap (λ (st : SuiteState). st.tags) has.uncounted)
      ∙ ap (λ (x : ℕ). record (s.parts) { digests = x; steps = s.steps }) (ap (λ (st : SuiteState). st.digests) has.uncounted)
      ∙ ap (λ (x : ℕ). record (s.parts) { steps = x }) its_steps
