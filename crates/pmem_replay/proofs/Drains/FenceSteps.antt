-- A fence with a write that ends it: what the world answers, and what becomes of it.
use Rattle.std.proofs.Common.{ℕ, suc, ◌*◌, ◌≡◌, ◌<◌, ◌≤◌, ◌+◌, ◌++◌, ◌^◌, Bool, true, false, inl, inr, List, [], Some, None, Ok, Err, refl, sym, ap, subst, ◌∙◌, arith}
use Rattle.std.specs.Prelude.{not, Result, if◌then◌else◌}
use Rattle.std.proofs.lemmas.List.{append_assoc, get_or-set_same}
use Rattle.pmem_base.specs.declared.lines.Ctr.{Ctr}
use Rattle.pmem_base.specs.declared.commands.Posted.{Posted}
use Rattle.pmem_base.specs.declared.commands.Command.TheVariants as Do
use Rattle.pmem_base.specs.declared.answers.Answer.{Answer}
use Rattle.pmem_base.specs.declared.answers.Answer.TheVariants as Say
use Rattle.pmem_base.specs.declared.answers.Mark.{Mark}
use Rattle.pmem_base.specs.Ranges.{IsAnswer}
use Rattle.pmem_base.specs.WaitingWrites.{queue_of}
use Rattle.suite.specs.Setup.{Setup}
use Rattle.plain_model.specs.State.{PlainState}
use Rattle.plain_model.specs.After.{state_after, after_marks, steps_of, is_cut}
use Rattle.plain_model.specs.Answers.{decided_answer, is_shown}
use Rattle.pmem_engine.specs.declared.fault.Fault.{Fault}
use Rattle.pmem_engine.specs.declared.fault.Fault.TheVariants as Fail
use Rattle.pmem_replay.specs.World.{WorldState, IsWorld}
use Rattle.watched_board.specs.declared.taken.Taken.{Taken}
use Rattle.watched_board.specs.Watching.{steps_in}
use Rattle.pmem_replay.specs.Given.{given_state, WasWriteGiven, IsWriteGiven, IsWriteGivenTo, IsDrainSaid}
use Rattle.pmem_replay.specs.Replies.{with_marks_since}
use Rattle.pmem_replay.specs.Stepped.{HasStepped, HasDrained, HasFenced, EndsWrites, IsDrainAnswer, IsSeenOnDevice}
use Rattle.pmem_replay.proofs.Marks.AfterMarks.{touched_after, flushed_after, with_flags, after_marks-is}
use Rattle.pmem_replay.specs.EngineCalls.{IsCall}
use Rattle.pmem_replay.proofs.Drains.DrainChain.{IsDrainedTo, drained-more}
use Rattle.pmem_replay.proofs.Drains.GivenCalls.{given_call, given_drained, power_after}
use Rattle.pmem_replay.proofs.Drains.LastWrites.{IsSeenAfter, IsLastWrite, ends_with_write}
use Rattle.pmem_replay.proofs.Steps.ReservedRoom.{same_room}
use Rattle.pmem_replay.proofs.Steps.GoodReplies.{IsGood}
use Rattle.pmem_replay.proofs.Steps.WorldSteps.{stepped_by_engine}
use Rattle.pmem_replay.proofs.Drains.WriteLaws.{path-bound, cut-bound}
use Rattle.pmem_replay.proofs.Drains.WriteReplies.{IsReplayWriting, fence_is_writing}

-- so many writes of the port were drained by a fence, and more wait; with a fence of those from now on
-- it is one of all writes
pub record IsFencing (setup : Setup) (mid now : WorldState) (port n : ℕ) (made : List Mark) (spent : ℕ) : Type 0 where
  pub drained : IsDrainedTo setup mid now port n made spent
  pub unshown : now.shown ≡ false
  pub shape : now.shape ≡ mid.shape
  pub keys : now.keys ≡ mid.keys
  pub start : now.start ≡ mid.start
  pub chain :
      (answer : Answer) (new : WorldState) → HasFenced setup (queue_of now.state.queues port) n spent now answer new
      → HasFenced setup (queue_of mid.state.queues port) 0 0 mid answer new
  pub lit : mid.state.power ≡ true
  pub few : spent ≤ 65536 * n
  pub small : n ≤ 16

module _ (setup : Setup) (mid now new : WorldState) (port : ℕ) (small : port < 8) (n : ℕ) (made : List Mark) (spent : ℕ)
    (whole_mid : IsWorld setup mid) (fencing : IsFencing setup mid now port n made spent) where
  abbrev drained : IsDrainedTo setup mid now port n made spent
  drained = fencing.drained

  whole : IsWorld setup now
  whole = drained.world

  writing : IsReplayWriting setup mid (Do.Fence port) (Some n) port n
  writing = fence_is_writing setup mid port n

  module _ (answer : Result Ctr Fault) (given : WasWriteGiven setup now port answer new) where
    abbrev call : IsCall setup now new given.engine given.after given.taken
    call = given_call setup now new port answer whole given

    undecided : decided_answer setup.shape mid.state (Do.Fence port) ≡ None
    undecided = rw fencing.lit refl

    -- the write is given to the engine, as by a drain of it
    drained_one : (one : Answer) → IsDrainAnswer given.write now.ledger new.ledger (steps_in given.taken) answer one
        → new.engine ≡ (if is_cut one then None else Some given.after)
        → new.board.powered ≡ not (is_cut one)
        → (is_shown one ≡ false → steps_of one ≡ steps_in given.taken)
        → HasDrained setup given.write now one new
    drained_one one says kept power steps = given_drained setup now new now.capacity (same_room now.capacity) port answer given one says kept power steps

    -- a step of the engine's, by what a drain of the write that ends it would answer
    one_step : (one said : Answer) → IsGood setup mid (Do.Fence port) (record { marks = made ++ given.written.made; answer = said }) → IsAnswer said
        → IsDrainAnswer given.write now.ledger new.ledger (steps_in given.taken) answer one → new.engine ≡ (if is_cut one then None else Some given.after)
        → new.board.powered ≡ not (is_cut one)
        → (is_shown one ≡ false → steps_of one ≡ steps_in given.taken) → EndsWrites (Some n) spent one said
        → new.shown ≡ is_shown said
        → (is_shown said ≡ false → new.state ≡ state_after setup.shape mid.state (Do.Fence port) (record { marks = made ++ given.written.made; answer = said }))
        → (is_shown said ≡ false → IsWorld setup new)
        → IsSeenOnDevice setup mid (Do.Fence port) said new
        → HasStepped setup mid (Do.Fence port) (record { marks = made ++ given.written.made; answer = said }) new
    one_step one said good its says kept power steps ends shown state holds seen =
        stepped_by_engine setup mid new (Do.Fence port) (record { marks = made ++ given.written.made; answer = said }) undecided good its
        (record { shape = given.shape ∙ fencing.shape; keys = given.keys ∙ fencing.keys; start = given.start ∙ fencing.start })
        shown
        (given.marks ∙ ap (λ (ms : List Mark). ms ++ given.written.made) drained.marks ∙ append_assoc mid.ledger.marks made given.written.made)
        state holds
        (fencing.chain said new
        (subst (λ (q : List Posted). HasFenced setup q n spent now said new) (sym given.waits) (inl (one, drained_one one says kept power steps, ends))))
        seen

  -- ---- drained

  few : (taken : Taken) → steps_in taken ≤ 65536 → spent + steps_in taken < 2 ^ 64
  few taken low = omega (arith, low, fencing.few, fencing.small)

  small_n : n < 2 ^ 8
  small_n = omega (arith, fencing.small)

  all_steps : (k m : ℕ) → k ≡ m → spent + m ≡ spent + k
  all_steps k m same = omega (arith, same)

  state_form : (s : PlainState) (made : List Mark) → new.state ≡ after_marks setup.shape s made
      → new.state ≡ with_flags s (touched_after s.touched made) (flushed_after setup.shape s.flushed made)
  state_form s made is = is ∙ after_marks-is setup.shape s made

  pub fence-put : (ctr : Ctr) (k : ℕ) (is : IsWriteGiven setup now port k (Ok ctr) true true new) → n < 16
      → IsFencing setup mid new port (suc n) (made ++ is.given.written.made) (spent + k)
  fence-put ctr k is below =
      let g = is.given in
      let form = state_form (given_state setup.shape now.state port g.write g.later (steps_in g.taken) true true) g.written.made is.state in
      let waits_then : queue_of new.state.queues port ≡ g.later =
      ap (λ (s : PlainState). queue_of s.queues port) form
      ∙ get_or-set_same now.state.queues port g.later [] (omega (arith, small, whole.queues.ports.eight)) in
      let more : IsDrainedTo setup mid new port (suc n) (made ++ g.written.made) (spent + steps_in g.taken) =
      drained-more setup mid now port n made spent drained whole_mid small g.write g.later g.waits new g.engine g.after g.taken (call (Ok ctr) g) ctr g.written
      form is.holds in
      record {
        drained = subst (λ (s : ℕ). IsDrainedTo setup mid new port (suc n) (made ++ g.written.made) s) (all_steps k (steps_in g.taken) is.counted) more;
        unshown = is.unshown;
        shape = g.shape ∙ fencing.shape;
        keys = g.keys ∙ fencing.keys;
        start = g.start ∙ fencing.start;
        chain =
            λ answer last rest.
            fencing.chain answer last
            (subst (λ (q : List Posted). HasFenced setup q n spent now answer last) (sym g.waits)
            (inr (
              k,
              new,
              drained_one (Ok ctr) g (Say.Drained k) (ap (λ (m : ℕ). Say.Drained m) is.counted) is.engine (power_after _ _ _ _ _ _ _ _ is) (λ quiet. is.counted),
              subst (λ (m : ℕ). HasFenced setup g.later m (spent + k) new answer last) {x = suc n} {y = n + 1} (omega arith)
                  (subst (λ (q : List Posted). HasFenced setup q (suc n) (spent + k) new answer last) waits_then rest),
            )));
        lit = fencing.lit;
        few = omega (arith, fencing.few, is.counted, g.follows.few);
        small = omega (arith, below);
      }

  -- ---- not drained

  seen_after : (said : Answer) → IsSeenAfter setup new said → IsSeenOnDevice setup mid (Do.Fence port) said new
  seen_after (Say.Refused told place steps) it = it
  seen_after (Say.Spent told page steps) it = it
  seen_after (Say.CutKept told steps) it = it
  seen_after (Say.CutLost told steps) it = it
  seen_after (Say.Shown exhibit) it = it
  seen_after said it = absurd it

  last : IsLastWrite setup mid mid now new (Do.Fence port) (Some n) port n made spent
  last =
      record {
        small = small;
        whole = whole_mid;
        writing = writing;
        drained = drained;
        counted = small_n;
        few = few;
        spent_within =
            λ answer g goes none.
            path-bound setup mid now new (Do.Fence port) (Some n) port n made spent writing drained whole_mid small g.write g.later g.waits g.engine g.after
            g.taken (call answer g) answer g.written goes none;
        cut_within =
            λ g.
            cut-bound setup mid now new (Do.Fence port) (Some n) port n made spent writing drained whole_mid small g.write g.later g.waits g.engine g.after
            g.taken (call (Err Fail.Cut) g) g.written;
        seen = seen_after;
        step =
            λ answer g one said good its says kept power steps ends shown state holds seen.
            one_step answer g one said good its says kept power steps ends shown state holds seen;
      }

  -- a write that isn't drained ends the fence
  pub fence_last : (one said : Answer) (answer : Result Ctr Fault) (put : Bool) (k : ℕ) → IsWriteGivenTo setup now port k answer put new
      → IsDrainSaid new answer put k one → EndsWrites (Some n) spent one said → HasStepped setup mid (Do.Fence port) (with_marks_since mid new said) new
  fence_last one said answer put k it says ends = ends_with_write last one said answer put k it says ends
