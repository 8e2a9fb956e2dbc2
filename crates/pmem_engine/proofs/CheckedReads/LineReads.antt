-- A read: its path was fetched, and its line unsealed or refused.
use Rattle.std.proofs.lemmas.Grind.{common_steps}
use Rattle.std.specs.Prelude.{IsOk}
use Rattle.std.proofs.Common.{rules, ℕ, ◌≡◌, inl, true, false, [], Result, Ok, Err, refl, sym, subst, subst₂, ◌∙◌, arith}
use Rattle.std.proofs.lemmas.Bool.{true≢false}
use Rattle.pmem_base.specs.declared.lines.Line.{Line}
use Rattle.pmem_base.specs.declared.lines.Ctr.{Ctr}
use Rattle.pmem_base.specs.Layout.{page_of}
use Rattle.board.specs.Device.{Device}
use Rattle.meta_path.specs.declared.faults.PathFault.{PathFault}
use Rattle.meta_path.specs.declared.faults.PathFault.TheVariants as Path
use Rattle.suite.specs.Setup.{Setup}
use Rattle.suite.specs.Formulas.{Formulas}
use Rattle.plain_model.specs.Bounds.{path_length}
use Rattle.meta_path.specs.Blocks.{IsPathCached, dirty_count}
use Rattle.meta_path.specs.Fetching.{IsFetchedTo}
use Rattle.pmem_engine.specs.declared.fault.Fault.{Fault}
use Rattle.pmem_engine.specs.declared.fault.LineFault.{LineFault}
use Rattle.pmem_engine.specs.declared.fault.LineFault.TheVariants as AtLine
use Rattle.pmem_engine.specs.declared.reading.Unsealed.{Unsealed}
use Rattle.pmem_engine.specs.Engine.{ChipState}
use Rattle.pmem_engine.specs.Parts.{Parts, regs_of, AreTrusted, AreSound}
use Rattle.call_effects.specs.Outcomes.{Outcome, going, cut_short, shown}
use Rattle.pmem_engine.specs.Outcomes.{fault_of_path, fault_of_line, of_line, outcome_of_fault, outcome_of, OneLossEffect, TakesSteps, TakesAtMost}
use Rattle.pmem_engine.specs.CallFacts.{IsDownAnswer, IsUnrefused, TakesWithin, TakesWithinOfLive, fetch_state, fetch_work, unseal_work, IsPathFetched, IsPastFetch, IsAnswerOfRead, IsReadWork, AnswersRead}
use Rattle.pmem_engine.specs.Inner.{HasFetched, HasUnsealed, AnswersFetch, IsLastCounter, AnswersUnseal}
use Rattle.call_plan.specs.Plans.{ended}
use Rattle.pmem_engine.specs.Calls.{HasReadLine}
use Rattle.call_plan.specs.Following.{Follows}
use Rattle.pmem_engine.specs.Plans.{chip_in, read_plan}
use Rattle.pmem_engine.proofs.CallEnds.CallChains.{done_chained}
use Rattle.pmem_engine.proofs.CallEnds.ErrorAnswers.{path_not_down, path_unrefused}
use Rattle.pmem_engine.proofs.CallEnds.ExactWork.{work_then, fetch_worked, unseal_worked}
use Rattle.pmem_engine.proofs.CallEnds.StillParts.{sound_trusted}

-- the plain line of a line unsealed
abbrev pub plain_answer : Result Unsealed LineFault → Result Line Fault
plain_answer (Ok unsealed) = Ok unsealed.plain
plain_answer (Err fault) = Err (fault_of_line fault)

-- ---- steps of both parts, where the second takes none

at_most_before : (n : ℕ) (old mid new : Device) → TakesAtMost n old mid → TakesSteps 0 mid new → TakesAtMost n old new
at_most_before n old mid new first second =
    record {
      writes = omega (arith, first.writes, second.writes);
      latches = omega (arith, first.latches, second.latches);
      sum =
          search rules;
    }

within_before : (outcome : Outcome) (n : ℕ) (old mid new : Parts) → (outcome ≡ cut_short → ⊥)
    → TakesAtMost n old.device mid.device → TakesSteps 0 mid.device new.device → TakesWithin outcome n old new
within_before going n old mid new uncut first second = at_most_before n old.device mid.device new.device first second
within_before cut_short n old mid new uncut first second = absurd (uncut refl)
within_before shown n old mid new uncut first second = at_most_before n old.device mid.device new.device first second

pub within_live_before : (outcome : Outcome) (n : ℕ) (old mid new : Parts)
    → (outcome ≡ cut_short → mid.device.live ≡ false) → (old.device.live ≡ true → mid.device.live ≡ true)
    → TakesAtMost n old.device mid.device → TakesSteps 0 mid.device new.device → TakesWithinOfLive outcome n old new
within_live_before outcome n old mid new unpowered live first second = (
  at_most_before n old.device mid.device new.device first second,
  λ was.
      within_before outcome n old mid new (λ is_cut. true≢false (sym (live was) ∙ unpowered is_cut)) first second,
)

-- a cut is answered by Cut
cut_answer : (answer : Result Unsealed LineFault) → outcome_of (plain_answer answer) ≡ cut_short → answer ≡ Err AtLine.Cut
cut_answer answer it = search (rules, true≢false)

-- ---- the read

same_outcome : (answer : Result Unsealed LineFault) → outcome_of (plain_answer answer) ≡ outcome_of (of_line answer)
same_outcome v0 = search rules

still_unrefused : (answer : Result Unsealed LineFault) → IsUnrefused (of_line answer) → IsUnrefused (plain_answer answer)
still_unrefused v0 it = search rules

never_down : (answer : Result Unsealed LineFault) → IsDownAnswer (plain_answer answer) → ⊥
never_down v0 it = search rules

-- the board followed the read's plan
abbrev pub IsReadPlanned : Setup → ℕ → Parts → Parts → Result Line Fault → Type 0
IsReadPlanned setup a old new answer =
    Follows (read_plan setup (regs_of old) a (chip_in old)) old.device new.device (ended answer (chip_in new))

-- then this is the read's relation
abbrev pub IsReadEnd : Setup → ℕ → Parts → Parts → Result Line Fault → Type 0
IsReadEnd setup a old new answer = IsReadPlanned setup a old new answer → HasReadLine setup a old new answer

module _ (setup : Setup) (a : ℕ) (ctr : Ctr) (old mid new : Parts) (its_shape : old.engine.shape ≡ setup.shape)
    (fetched : HasFetched setup (page_of a) old mid (Ok tt)) where
  answers_read : (answer : Result Unsealed LineFault) → AnswersUnseal setup a mid new answer
      → AnswersRead setup a old new (plain_answer answer)
  answers_read v0 it = grind (arith, common_steps)

  pub read_after : (answer : Result Unsealed LineFault) → HasUnsealed setup a ctr mid new answer
      → (AreTrusted setup mid → IsLastCounter mid a ctr) → IsReadEnd setup a old new (plain_answer answer)
  read_after answer unsealed last planned =
      record {
        plan = planned;
        not_down = never_down answer;
        done =
            subst (λ outcome. OneLossEffect setup outcome [] old new) (sym (same_outcome answer))
            (done_chained setup (outcome_of (of_line answer)) [] [] old mid new fetched.done unsealed.done);
        answered =
            λ was.
            let now : AreTrusted setup mid = fetched.done.gone.trusted was in
            answers_read answer (unsealed.answered now (last now));
        unrefused =
            λ was.
            let now : AreSound setup mid = fetched.done.gone.sound was in
            still_unrefused answer (unsealed.unrefused now (last (sound_trusted setup mid now)));
        path_fetched =
            λ past.
            subst (λ engine. IsPathCached setup.shape engine.cache (page_of a)) (sym unsealed.engine) (fetched.path_cached refl);
        possible = possible_after answer;
        work = λ ok. work answer unsealed ok;
        steps_of_path = steps (path_length setup.shape) fetched.steps_of_path;
        steps_of_dirty = steps (dirty_count setup.shape old.engine.cache) fetched.steps_of_dirty.0;
      }
    where
      possible_after : (reply : Result Unsealed LineFault) → IsAnswerOfRead (plain_answer reply)
      possible_after v0 = search rules

      did_fetch : IsFetchedTo setup.shape setup.formulas old.ledger.truth (page_of a) (path_length setup.shape)
          (fetch_state setup.shape old) (fetch_state setup.shape mid)
      did_fetch = fetched.work refl

      -- the fetch's work, and the reads and the tag of the unsealing
      work : (reply : Result Unsealed LineFault) → HasUnsealed setup a ctr mid new reply → IsOk (plain_answer reply)
          → IsReadWork setup.shape a old new
      work (Err fault) it ok = absurd (true≢false (sym ok))
      work (Ok opened) it ok =
          record {
            cache =
                subst (λ (e : ChipState). IsPathFetched setup.shape (page_of a) old (record mid { engine = e })) (sym unsealed.engine)
                did_fetch.cache;
            lines = unsealed.lines ∙ did_fetch.work.lines;
            work =
                work_then (fetch_work setup.shape old (page_of a)) (unseal_work 1) old mid new
                (fetch_worked setup (page_of a) old mid fetched) (unseal_worked setup a ctr mid new opened it);
          }

      unpowered : outcome_of (plain_answer answer) ≡ cut_short → mid.device.live ≡ false
      unpowered it = unsealed.cut_unpowered (cut_answer answer it)

      steps : (n : ℕ) → TakesAtMost n old.device mid.device → TakesWithinOfLive (outcome_of (plain_answer answer)) n old new
      steps n first =
          within_live_before (outcome_of (plain_answer answer)) n old mid new unpowered fetched.done.gone.power.1 first
          unsealed.no_steps

  -- the same of the formulas and the shape as they are afterwards
  pub read_after_fetch : (formulas : Formulas) → formulas ≡ setup.formulas → (answer : Result Unsealed LineFault)
      → HasUnsealed (record { shape = mid.engine.shape; formulas = formulas }) a ctr mid new answer
      → (AreTrusted setup mid → IsPathCached setup.shape mid.engine.cache (page_of a) → IsLastCounter mid a ctr)
      → IsReadEnd setup a old new (plain_answer answer)
  read_after_fetch formulas same answer unsealed last =
      read_after answer
      (subst₂ (λ shape f. HasUnsealed (record { shape = shape; formulas = f }) a ctr mid new answer)
      (fetched.done.gone.shape ∙ its_shape) same unsealed)
      (λ trusted. last trusted (fetched.path_cached refl))

-- ---- the path isn't fetched

pub most_of_within : (outcome : Outcome) (n : ℕ) (old new : Parts) → TakesWithin outcome n old new → TakesAtMost n old.device new.device
most_of_within going n old new it = it
most_of_within cut_short n old new it =
    record {
      writes = it.writes;
      latches = it.latches;
      sum = λ one two. let less = it.sum one two in omega (arith, less);
    }
most_of_within shown n old new it = it

-- another answer's fault was decided as early
pub past_fault : (T : Type 0) (old new : Parts) (fault : PathFault) → IsPastFetch {T = T} old new (Err (fault_of_path fault))
    → IsPastFetch {T = Unit} old new (Err (fault_of_path fault))
past_fault T old new v3 it = search rules

module _ (setup : Setup) (a : ℕ) (old new : Parts) where
  unfetched_says : (fault : PathFault) → AnswersFetch setup (page_of a) old new (Err fault)
      → AnswersRead setup a old new (Err (fault_of_path fault))
  unfetched_says Path.Cut it = tt
  unfetched_says Path.Shown it = inl it
  unfetched_says (Path.Meta x) it = it

  unfetched_possible : (fault : PathFault) → IsAnswerOfRead (Err (fault_of_path fault))
  unfetched_possible v0 = search rules

  pub read_unfetched : (fault : PathFault) → HasFetched setup (page_of a) old new (Err fault)
      → IsReadEnd setup a old new (Err (fault_of_path fault))
  read_unfetched fault it planned =
      record {
        plan = planned;
        not_down = path_not_down Line fault;
        done = it.done;
        answered = λ was. unfetched_says fault (it.answered was);
        unrefused = λ sound. path_unrefused Unit Line fault (it.unrefused sound);
        path_fetched = λ past. it.path_fetched (past_fault Line old new fault past);
        possible = unfetched_possible fault;
        work = λ ok. absurd (true≢false (sym ok));
        steps_of_path = (
          most_of_within (outcome_of_fault (fault_of_path fault)) (path_length setup.shape) old new it.steps_of_path,
          λ live. it.steps_of_path,
        );
        steps_of_dirty = it.steps_of_dirty;
      }
