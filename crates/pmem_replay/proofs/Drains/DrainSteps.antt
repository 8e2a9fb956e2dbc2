-- A drain: what the world answers, and what becomes of it.
use Rattle.std.proofs.Common.{ℕ, ◌≡◌, ◌<◌, ◌≤◌, ◌+◌, ◌^◌, true, false, List, [], ◌∷◌, Option, Some, None, Ok, Err, refl, sym, ap, subst, ◌∙◌, arith}
use Rattle.std.specs.Prelude.{Bool, not, Result, ◌==◌, ⊤, MatchBool, MatchOption, length, if◌then◌else◌}
use Rattle.std.proofs.lemmas.Bool.{le-leb, ne_eqb}
use Rattle.pmem_base.specs.declared.lines.Ctr.{Ctr}
use Rattle.pmem_base.specs.declared.commands.Posted.{Posted}
use Rattle.pmem_base.specs.declared.commands.Command.TheVariants as Do
use Rattle.pmem_base.specs.declared.answers.Answer.{Answer}
use Rattle.pmem_base.specs.declared.answers.Answer.TheVariants as Say
use Rattle.pmem_base.specs.declared.answers.Mark.{Mark}
use Rattle.pmem_base.specs.declared.answers.Place.{Place}
use Rattle.pmem_base.specs.declared.answers.Exhibit.{Exhibit}
use Rattle.pmem_base.specs.Ranges.{IsAnswer}
use Rattle.suite.specs.Formulas.{Formulas}
use Rattle.suite.specs.Setup.{Setup}
use Rattle.plain_model.specs.State.{PlainState, Reply}
use Rattle.plain_model.specs.Legal.{front_of}
use Rattle.plain_model.specs.Asked.{moment_of, marks_of_write}
use Rattle.plain_model.specs.Bounds.{path_length, dirty_bound, is_spent_in_flight, IsSpentWithin, IsCutWriteWithin}
use Rattle.plain_model.specs.After.{state_after, after_marks, steps_of, is_cut}
use Rattle.plain_model.specs.Answers.{decided_answer, is_shown}
use Rattle.pmem_engine.specs.declared.fault.Fault.{Fault}
use Rattle.pmem_engine.specs.declared.fault.Fault.TheVariants as Fail
use Rattle.call_effects.specs.Outcomes.{going}
use Rattle.pmem_engine.specs.Outcomes.{outcome_of}
use Rattle.pmem_replay.specs.World.{WorldState, IsWorld, view_in, setup_of_world}
use Rattle.watched_board.specs.declared.taken.Taken.{Taken}
use Rattle.watched_board.specs.Watching.{steps_in}
use Rattle.pmem_replay.specs.Given.{given_state, WasWriteGiven, IsWriteGiven, IsWriteGivenTo, IsDrainSaid, HasWriteGiven, HasMarkRoom}
use Rattle.pmem_replay.specs.Replies.{with_marks_since}
use Rattle.pmem_replay.proofs.Steps.PartsOfWorld.{since}
use Rattle.pmem_replay.specs.Stepped.{HasStepped, HasDrained, EndsWrites, IsDrainAnswer, IsSeenOnDevice}
use Rattle.pmem_replay.proofs.Marks.AfterMarks.{touched_after, flushed_after, with_flags, after_marks-is}
use Rattle.pmem_replay.specs.EngineCalls.{IsCall, IsFaultAnswered}
use Rattle.pmem_replay.proofs.Drains.DrainChain.{IsDrainedTo, drained_none, drained-more}
use Rattle.pmem_replay.proofs.Drains.DrainedLaws.{drained-good, drained-after}
use Rattle.pmem_replay.proofs.Drains.GivenCalls.{given_call, given_drained, power_after}
use Rattle.pmem_replay.proofs.Drains.LastWrites.{IsSeenAfter, IsLastWrite, ends_with_write}
use Rattle.pmem_replay.proofs.Steps.GoodReplies.{IsGood}
use Rattle.pmem_replay.proofs.Steps.WorldSteps.{stepped_by_engine}
use Rattle.pmem_replay.proofs.Table.UnchangedSteps.{IsGoingOn, lit_in}
use Rattle.pmem_replay.proofs.Drains.WriteLaws.{path-steps, cut-bound, cut-dirty}
use Rattle.pmem_replay.proofs.Drains.WriteReplies.{IsReplayWriting, drain_is_writing}

some_long : (write : Posted) (later : List Posted) → (length (write ∷ later) == 0) ≡ false
some_long write later = ne_eqb (length (write ∷ later)) 0 zero_not
  where
    zero_not : length (write ∷ later) ≡ 0 → ⊥
    zero_not same = omega (arith, same)

none_more : (m : ℕ) → 0 + m ≡ m
none_more m = omega arith

-- what a drain answers is what it ends as
alone : (one said : Answer) → EndsWrites None 0 one said → one ≡ said
alone (Say.Refused None place steps) said is = ap (λ (k : ℕ). Say.Refused None place k) (sym (none_more steps)) ∙ sym is
alone (Say.Spent None page steps) said is = ap (λ (k : ℕ). Say.Spent None page k) (sym (none_more steps)) ∙ sym is
alone (Say.CutKept None steps) said is = ap (λ (k : ℕ). Say.CutKept None k) (sym (none_more steps)) ∙ sym is
alone (Say.CutLost None steps) said is = ap (λ (k : ℕ). Say.CutLost None k) (sym (none_more steps)) ∙ sym is
alone (Say.Shown exhibit) said is = sym is
alone one said is = absurd is

ends_alone : (exhibit : Option Exhibit) (put : Bool) (fault : Fault) (n : ℕ) (said : Answer) → IsFaultAnswered exhibit (Some put) fault n said
    → EndsWrites None 0 said said
ends_alone exhibit put (Fail.Meta x) n said is =
    subst (λ (a : Answer). EndsWrites None 0 a a) (sym is) (ap (λ (k : ℕ). Say.Refused None (Place.Meta x) k) (sym (none_more n)))
ends_alone exhibit put (Fail.Tag at) n said is =
    subst (λ (a : Answer). EndsWrites None 0 a a) (sym is) (ap (λ (k : ℕ). Say.Refused None (Place.Line at) k) (sym (none_more n)))
ends_alone exhibit put (Fail.Spent page) n said is =
    subst (λ (a : Answer). EndsWrites None 0 a a) (sym is) (ap (λ (k : ℕ). Say.Spent None page k) (sym (none_more n)))
ends_alone exhibit true Fail.Cut n said is =
    subst (λ (a : Answer). EndsWrites None 0 a a) (sym is) (ap (λ (k : ℕ). Say.CutKept None k) (sym (none_more n)))
ends_alone exhibit false Fail.Cut n said is =
    subst (λ (a : Answer). EndsWrites None 0 a a) (sym is) (ap (λ (k : ℕ). Say.CutLost None k) (sym (none_more n)))
ends_alone exhibit put Fail.Shown n said is = subst (λ (a : Answer). EndsWrites None 0 a a) (sym is.2) refl
ends_alone exhibit put Fail.Down n said is = absurd is

module _ (setup : Setup) (old new : WorldState) (capacity : ℕ) (grown : old.capacity ≤ capacity) (port : ℕ) (small : port < 8)
    (goes_on : IsGoingOn setup old) (whole : IsWorld setup (record old { capacity = capacity })) where
  abbrev mid : WorldState
  mid = record old { capacity = capacity }

  drained : IsDrainedTo setup mid mid port 0 [] 0
  drained = drained_none setup mid port whole

  writing : IsReplayWriting setup mid (Do.Drain port) None port 0
  writing = drain_is_writing setup mid port

  good_mid : (reply : Reply) → IsGood setup mid (Do.Drain port) reply → IsGood setup old (Do.Drain port) reply
  good_mid reply good =
      record { legal = good.legal; fits = good.fits }

  module _ (answer : Result Ctr Fault) (given : WasWriteGiven setup mid port answer new) where
    abbrev call : IsCall setup mid new given.engine given.after given.taken
    call = given_call setup mid new port answer whole given

    lit : old.state.power ≡ true
    lit = lit_in setup old given.engine goes_on.whole given.was_on

    undecided : decided_answer setup.shape old.state (Do.Drain port) ≡ None
    undecided = rw lit (rw given.waits (rw (some_long given.write given.later) refl))

    called_one : (said : Answer) → IsDrainAnswer given.write old.ledger new.ledger (steps_in given.taken) answer said
        → new.engine ≡ (if is_cut said then None else Some given.after)
        → new.board.powered ≡ not (is_cut said)
        → (is_shown said ≡ false → steps_of said ≡ steps_in given.taken)
        → MatchOption (front_of old.state port) ⊥
        (λ write. HasDrained setup write old said new)
    called_one said says kept power steps = rw given.waits (given_drained setup old new capacity grown port answer given said says kept power steps)

    -- where the write is spent, its steps are those of its path alone
    path_within : outcome_of answer ≡ going → marks_of_write setup.formulas (moment_of mid.state (view_in setup mid)) given.write ≡ None
        → IsSpentWithin setup.shape mid.state None given.written.made (0 + steps_in given.taken)
    path_within goes none =
        let steps =
        path-steps setup mid mid new (Do.Drain port) None port 0 [] 0 writing drained whole small given.write given.later given.waits given.engine given.after
        given.taken call answer given.written goes none in (
          le-leb (0 + steps_in given.taken) (path_length setup.shape) (omega (arith, steps.0)),
          le-leb (0 + steps_in given.taken) (dirty_bound setup.shape mid.state) (omega (arith, steps.1)),
        )

    -- a step of the engine's
    one_step : (one said : Answer) → one ≡ said → IsGood setup mid (Do.Drain port) (record { marks = given.written.made; answer = said }) → IsAnswer said
        → IsDrainAnswer given.write old.ledger new.ledger (steps_in given.taken) answer one → new.engine ≡ (if is_cut one then None else Some given.after)
        → new.board.powered ≡ not (is_cut one)
        → (is_shown one ≡ false → steps_of one ≡ steps_in given.taken)
        → new.shown ≡ is_shown said
        → (is_shown said ≡ false → new.state ≡ state_after setup.shape old.state (Do.Drain port) (record { marks = given.written.made; answer = said }))
        → (is_shown said ≡ false → IsWorld setup new)
        → IsSeenOnDevice setup old (Do.Drain port) said new
        → HasStepped setup old (Do.Drain port) (record { marks = given.written.made; answer = said }) new
    one_step one said same good its says kept power steps shown state holds seen =
        stepped_by_engine setup old new (Do.Drain port) (record { marks = given.written.made; answer = said }) undecided
        (good_mid (record { marks = given.written.made; answer = said }) good) its
        (record { shape = given.shape; keys = given.keys; start = given.start })
        shown
        given.marks state holds
        (subst (λ (a : Answer). MatchOption (front_of old.state port) ⊥ (λ write. HasDrained setup write old a new)) same
        (called_one one says kept power steps))
        seen

  -- ---- drained

  few : (taken : Taken) → steps_in taken ≤ 65536 → 0 + steps_in taken < 2 ^ 64
  few taken low = omega (arith, low)

  all_steps : (n m : ℕ) → n ≡ m → 0 + m ≡ n
  all_steps n m same = omega (arith, same)

  state_form : (s : PlainState) (made : List Mark) → new.state ≡ after_marks setup.shape s made
      → new.state ≡ with_flags s (touched_after s.touched made) (flushed_after setup.shape s.flushed made)
  state_form s made is = is ∙ after_marks-is setup.shape s made

  pub drain-put : (ctr : Ctr) (n : ℕ) (is : IsWriteGiven setup mid port n (Ok ctr) true true new)
      → HasStepped setup old (Do.Drain port) (record { marks = is.given.written.made; answer = Say.Drained n }) new
  drain-put ctr n is =
      let g = is.given in
      let more : IsDrainedTo setup mid new port 1 g.written.made (0 + steps_in g.taken) =
      drained-more setup mid mid port 0 [] 0 drained whole small g.write g.later g.waits new g.engine g.after g.taken (call (Ok ctr) g) ctr g.written
      (state_form (given_state setup.shape mid.state port g.write g.later (steps_in g.taken) true true) g.written.made is.state) is.holds in
      subst (λ (k : ℕ). HasStepped setup old (Do.Drain port) (record { marks = g.written.made; answer = Say.Drained k }) new) (all_steps n (steps_in g.taken) is.counted)
      (one_step (Ok ctr) g (Say.Drained (steps_in g.taken)) (Say.Drained (0 + steps_in g.taken)) (ap (λ (k : ℕ). Say.Drained k) (sym (none_more (steps_in g.taken))))
      (drained-good setup mid new port g.written.made (0 + steps_in g.taken) more)
      (few g.taken g.follows.few) refl is.engine (power_after _ _ _ _ _ _ _ _ is) (λ quiet. refl) is.unshown
      (λ quiet. drained-after setup mid new port g.written.made (0 + steps_in g.taken) more)
      (λ quiet. is.holds) tt)

  -- ---- not drained

  cut_within : (g : WasWriteGiven setup mid port (Err Fail.Cut) new)
      → IsCutWriteWithin setup mid.state (view_in setup mid) port None (0 + steps_in g.taken)
  cut_within g =
      let c = call (Err Fail.Cut) g in (
        cut-bound setup mid mid new (Do.Drain port) None port 0 [] 0 writing drained whole small g.write g.later g.waits g.engine g.after g.taken c g.written,
        subst (λ (m : ℕ). MatchBool (is_spent_in_flight setup mid.state (view_in setup mid) port 0) (m < dirty_bound setup.shape mid.state) ⊤)
            (sym (none_more (steps_in g.taken)))
            (cut-dirty setup mid mid new (Do.Drain port) None port 0 [] 0 writing drained whole small g.write g.later g.waits g.engine g.after g.taken c g.written),
      )

  seen_after : (said : Answer) → IsSeenAfter setup new said → IsSeenOnDevice setup old (Do.Drain port) said new
  seen_after (Say.Refused told place steps) it = it
  seen_after (Say.Spent told page steps) it = it
  seen_after (Say.CutKept told steps) it = it
  seen_after (Say.CutLost told steps) it = it
  seen_after (Say.Shown exhibit) it = it
  seen_after said it = absurd it

  pub last : IsLastWrite setup old mid mid new (Do.Drain port) None port 0 [] 0
  last =
      record {
        small = small;
        whole = whole;
        writing = writing;
        drained = drained;
        counted = tt;
        few = few;
        spent_within = path_within;
        cut_within = cut_within;
        seen = seen_after;
        step =
            λ answer g one said good its says kept power steps ends shown state holds seen.
            one_step answer g one said (alone one said ends) good its says kept power steps shown state holds seen;
      }

-- the whole: room was made, the write was given, and the drain answers
module _ (formulas_of : List ℕ → Formulas) (old mid new : WorldState) (port : ℕ) (small : port < 8) (unshown : old.shown ≡ false)
    (whole : IsWorld (setup_of_world formulas_of old) old) (made : HasMarkRoom (setup_of_world formulas_of old) old 66 mid) (said : Answer) where
  abbrev its_setup : Setup
  its_setup = setup_of_world formulas_of old

  going_on : IsGoingOn its_setup old
  going_on = record { whole = whole; unshown = unshown }

  its_world : IsWorld its_setup (record old { capacity = mid.capacity })
  its_world = subst (λ (w : WorldState). IsWorld its_setup w) made.same made.holds

  by_answer : (answer : Result Ctr Fault) (put : Bool) (n : ℕ) → IsWriteGivenTo its_setup (record old { capacity = mid.capacity }) port n answer put new
      → IsDrainSaid new answer put n said → HasStepped its_setup old (Do.Drain port) (with_marks_since old new said) new
  by_answer (Ok ctr) put n it same =
      subst (λ (a : Answer). HasStepped its_setup old (Do.Drain port) (with_marks_since old new a) new) (sym same)
      (since its_setup old new (Do.Drain port) it.given.written.made (Say.Drained n)
      (drain-put its_setup old new mid.capacity made.never_falls port small going_on its_world ctr n it))
  by_answer (Err fault) put n it same =
      ends_with_write (last its_setup old new mid.capacity made.never_falls port small going_on its_world) said said (Err fault) put n it same
      (ends_alone new.ledger.exhibit put fault n said same)

  pub drained_as : HasWriteGiven (setup_of_world formulas_of mid) mid port said new
      → HasStepped its_setup old (Do.Drain port) (with_marks_since old new said) new
  drained_as given =
      let it = subst (λ (w : WorldState). HasWriteGiven (setup_of_world formulas_of w) w port said new) made.same given in
      by_answer it.answer it.put it.steps it.given it.says
