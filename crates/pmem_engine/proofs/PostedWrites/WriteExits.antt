-- What a write answers where a part ended it, by the part's answer.
use Rattle.std.proofs.lemmas.Grind.{common_steps}
use Rattle.std.proofs.Common.{rules, ℕ, ◌≡◌, ◌<◌, ◌≤◌, ◌+◌, ◌*◌, ◌++◌, inl, inr, true, List, [], ◌∷◌, length, IsTrue, Option, Some, None, Result, Err, sym, ap, subst, ◌∙◌, arith}
use Rattle.std.specs.Prelude.{◌||◌, nat_lt, unwrap_or, is_none, IsSome}
use Rattle.std.proofs.lemmas.Bool.{true≢false, cond-false, lt-ltb}
use Rattle.std.proofs.lemmas.List.{append_assoc, append-nil, length-append}
use Rattle.std.proofs.lemmas.List.Elements.{All-nil}
use Rattle.pmem_base.specs.declared.lines.Ctr.{Ctr}
use Rattle.pmem_base.specs.declared.commands.Posted.{Posted}
use Rattle.pmem_base.specs.declared.answers.Mark.{Mark}
use Rattle.pmem_base.specs.Layout.{page_of}
use Rattle.meta_path.specs.declared.faults.PathFault.{PathFault}
use Rattle.suite.specs.Setup.{Setup}
use Rattle.suite.specs.Formulas.{Formulas}
use Rattle.meta_path.specs.Blocks.{IsPathCached, dirty_count}
use Rattle.plain_model.specs.State.{Memory, memory_with}
use Rattle.plain_model.specs.Asked.{Moment, marks_of_write}
use Rattle.plain_model.specs.Bounds.{path_length, begun_lines, seal_count}
use Rattle.plain_model.specs.Fits.{IsResealOf}
use Rattle.pmem_engine.specs.declared.fault.Fault.{Fault}
use Rattle.pmem_engine.specs.declared.fault.LineFault.{LineFault}
use Rattle.pmem_engine.specs.declared.fault.LineFault.TheVariants as AtLine
use Rattle.pmem_engine.specs.Parts.{Parts, regs_of, AreTrusted, AreSound}
use Rattle.pmem_engine.specs.Outcomes.{fault_of_path, fault_of_line, outcome_of_fault, is_seal_of, is_sealed_by, TakesAtMost}
use Rattle.pmem_engine.specs.CallFacts.{IsMemory, IsDownAnswer, IsUnrefused, TakesWithin, TakesWithinOfLive, moment_in, IsPartOf, IsRefusedLine, AreMarksOfWrite, AnswersWrite, write_bound, TakesSpent, TakesOfWrite, IsPastFetch, IsUnderMinorZero, AreUnderMinorZero, AreInWriteOrder}
use Rattle.pmem_engine.specs.Inner.{AnswersFetch, HasFetched}
use Rattle.pmem_engine.specs.Writing.{AnswersPlain, IsFrontOf, IsStoppedAt, HasFinishMarks, AnswersFinish, CountsFinish}
use Rattle.pmem_engine.specs.Calls.{HasWrittenLine}
use Rattle.call_plan.specs.Plans.{ended}
use Rattle.call_plan.specs.Following.{Follows}
use Rattle.pmem_engine.specs.Plans.{chip_in}
use Rattle.pmem_engine.specs.WritePlans.{write_plan}
use Rattle.pmem_engine.proofs.CallEnds.ErrorAnswers.{path_not_down, path_unrefused}
use Rattle.pmem_engine.proofs.CheckedReads.LineReads.{past_fault, most_of_within}
use Rattle.pmem_engine.proofs.PostedWrites.WriteParts.{IsWritePart, fetch_part}
use Rattle.pmem_engine.proofs.PostedWrites.WriteSteps.{more_most}
use Rattle.pmem_engine.proofs.PostedWrites.WriteFinishes.{finish_front}

-- ---- marks left

-- something is left of marks that end in a seal
pub some_after : (front : List Mark) (mark : Mark) (rest : List Mark) → IsTrue (nat_lt 0 (length (front ++ mark ∷ rest)))
some_after front mark rest = lt-ltb 0 (length (front ++ mark ∷ rest)) (omega (arith, length-append front (mark ∷ rest)))

-- no asked marks, or some
abbrev pub IsSomeAsked : Option (List Mark) → Type 0
IsSomeAsked asked = IsTrue (is_none asked || nat_lt 0 (length (unwrap_or asked [])))

pub some_asked : (f : Formulas) (now : Moment) (write : Posted) → IsSomeAsked (marks_of_write f now write)
some_asked f now write = search (rules, some_after)

-- a front of the front, with something after it
pub part_of_front : (front rest made : List Mark) → 0 < length rest → IsFrontOf front made → IsPartOf (Some (front ++ rest)) made
part_of_front front rest made some it = search (rules, lt-ltb, append_assoc, length-append)

-- all of the front
pub unnamed_front : (front made : List Mark) → made ≡ front → IsFrontOf front (made ++ [])
unnamed_front front made all = search rules

reseal_of : (b : ℕ) (next : Mark) (tail : List Mark) → is_seal_of b next ≡ true → 0 < length tail → IsResealOf b (next ∷ tail)
reseal_of b v1 tail its some = search rules

-- stopped at a line's seal
pub refused_at : (front rest made : List Mark) (write : Posted) (b : ℕ) → 0 < length rest → IsStoppedAt front made b
    → IsRefusedLine (Some (front ++ rest)) made write b
refused_at front rest made write b some it =
    inl (
      record {
        left = it.next ∷ (it.later ++ rest);
        front = ap (λ ms. ms ++ rest) it.front ∙ append_assoc made (it.next ∷ it.later) rest;
        not_all = some_after [] it.next (it.later ++ rest);
      },
      reseal_of b it.next (it.later ++ rest) it.its_line (omega (arith, some, length-append it.later rest)),
    )

-- ---- a write that a part ended

-- whatever the chip is: the path, the marks and the steps of a write that ends with a fault
pub record IsExit (setup : Setup) (write : Posted) (old new : Parts) (made : List Mark) (fault : Fault) : Type 0 where
  pub path_fetched :
      IsPastFetch {T = Ctr} old new (Err fault) → IsPathCached setup.shape new.engine.cache (page_of write.at)
  pub order : AreInWriteOrder write.at made
  pub few_steps : TakesAtMost (2 * path_length setup.shape + 262 + 2 * begun_lines setup.shape) old.device new.device

-- no own seal yet
pub unsealed_order : (at : ℕ) (made : List Mark) → length made ≤ 65 → AreUnderMinorZero made → AreInWriteOrder at made
unsealed_order at made few minors = search (rules, append-nil, All-nil)

pub none_order : (at : ℕ) → AreInWriteOrder at []
none_order at = unsealed_order at [] (omega arith) (All-nil IsUnderMinorZero)

-- the board followed the write's plan
abbrev pub IsWritePlanned : Setup → Posted → Parts → Parts → Result Ctr Fault → Type 0
IsWritePlanned setup write old new answer =
    Follows (write_plan setup (regs_of old) write (chip_in old)) old.device new.device (ended answer (chip_in new))

-- then this is the write's relation
abbrev pub IsWriteEnd : Setup → Posted → Parts → Parts → Result Ctr Fault → Type 0
IsWriteEnd setup write old new answer = IsWritePlanned setup write old new answer → HasWrittenLine setup write old new answer

pub few_in_order : (at : ℕ) (made : List Mark) → AreInWriteOrder at made → length made ≤ 66
few_in_order at made it = search (rules, length-append)

pub stopped : (setup : Setup) (write : Posted) (old new : Parts) (made : List Mark) (fault : Fault)
    → IsWritePart setup write.at (outcome_of_fault fault) made old new
    → IsExit setup write old new made fault
    → (AreTrusted setup old → (memory : Memory) → IsMemory setup memory old
    → AreMarksOfWrite (marks_of_write setup.formulas (moment_in setup memory old) write) made write (Err fault))
    → (AreTrusted setup old → (memory : Memory) → IsMemory setup memory old
    → AnswersWrite setup (marks_of_write setup.formulas (moment_in setup memory old) write) made write old new (Err fault))
    → (AreSound setup old → IsUnrefused {T = Ctr} (Err fault)) → (IsDownAnswer {T = Ctr} (Err fault) → ⊥)
    → (AreTrusted setup old → (memory : Memory) → IsMemory setup memory old
    → TakesOfWrite setup.shape (marks_of_write setup.formulas (moment_in setup memory old) write) made old new (Err fault))
    → (AreTrusted setup old → (memory : Memory) → IsMemory setup memory old
    → marks_of_write setup.formulas (moment_in setup memory old) write ≡ None
    → TakesSpent setup.shape (outcome_of_fault fault) old new)
    → IsWriteEnd setup write old new (Err fault)
stopped setup write old new made fault part exit marks answered unrefused not_down steps steps_of_spent planned =
    record {
      plan = planned;
      made = made;
      not_down = not_down;
      done = part.done;
      marks = marks;
      memory =
          λ trusted memory long was.
          subst (λ m. IsMemory setup m new)
          (sym (cond-false (is_sealed_by made write.at) (memory_with memory write) memory (part.not_own trusted memory was)))
          (part.memory_kept trusted memory was);
      answered = answered;
      unrefused = unrefused;
      sealed_before = λ trusted a within sealed other. part.sealed_before trusted a within sealed;
      path_named = λ ok. absurd (true≢false (sym ok));
      path_fetched = exit.path_fetched;
      order = exit.order;
      few_marks = few_in_order write.at made exit.order;
      own_sealed = λ ok. absurd (true≢false (sym ok));
      few_steps = exit.few_steps;
      work = tt;
      steps = steps;
      steps_of_spent = steps_of_spent;
      block_written = λ trusted. tt;
    }

-- ---- in the fetch

unfetched_marks : (setup : Setup) (write : Posted) (old new : Parts) (asked : Option (List Mark)) (fault : PathFault) → IsSomeAsked asked
    → AnswersFetch setup (page_of write.at) old new (Err fault) → AreMarksOfWrite asked [] write (Err (fault_of_path fault))
unfetched_marks setup write old new asked v5 some it = search rules

unfetched_answers : (setup : Setup) (write : Posted) (old new : Parts) (asked : Option (List Mark)) (fault : PathFault)
    → AnswersFetch setup (page_of write.at) old new (Err fault) → AnswersWrite setup asked [] write old new (Err (fault_of_path fault))
unfetched_answers setup write old new asked v5 it = search rules

unfetched_steps : (setup : Setup) (write : Posted) (old new : Parts) (asked : Option (List Mark)) (fault : PathFault)
    → AnswersFetch setup (page_of write.at) old new (Err fault)
    → TakesWithin (outcome_of_fault (fault_of_path fault)) (path_length setup.shape) old new
    → TakesWithinOfLive (outcome_of_fault (fault_of_path fault)) (dirty_count setup.shape old.engine.cache) old new
    → TakesOfWrite setup.shape asked [] old new (Err (fault_of_path fault))
unfetched_steps setup write old new v4 v5 says path dirty = search rules

pub written_unfetched : (setup : Setup) (write : Posted) (old new : Parts) (fault : PathFault)
    → HasFetched setup (page_of write.at) old new (Err fault)
    → IsWriteEnd setup write old new (Err (fault_of_path fault))
written_unfetched setup write old new fault it =
    stopped setup write old new [] (fault_of_path fault) (fetch_part setup write.at old new (Err fault) it)
    (record {
      path_fetched = λ past. it.path_fetched (past_fault Ctr old new fault past);
      order = none_order write.at;
      few_steps =
          more_most (path_length setup.shape) (2 * path_length setup.shape + 262 + 2 * begun_lines setup.shape) old.device new.device
          (omega arith)
          (most_of_within (outcome_of_fault (fault_of_path fault)) (path_length setup.shape) old new it.steps_of_path);
    })
    (λ trusted memory was.
    unfetched_marks setup write old new (asked memory) fault
    (some_asked setup.formulas (moment_in setup memory old) write) (it.answered trusted))
    (λ trusted memory was. unfetched_answers setup write old new (asked memory) fault (it.answered trusted))
    (λ sound. path_unrefused Unit Ctr fault (it.unrefused sound))
    (path_not_down Ctr fault)
    (λ trusted memory was.
    unfetched_steps setup write old new (asked memory) fault (it.answered trusted) it.steps_of_path it.steps_of_dirty)
    (λ trusted memory was none. (it.steps_of_path, it.steps_of_dirty))
  where
    asked : Memory → Option (List Mark)
    asked memory = marks_of_write setup.formulas (moment_in setup memory old) write

-- ---- in the plain line; the counter isn't used up

pub unplain_marks : (setup : Setup) (write : Posted) (old new : Parts) (asked : Option (List Mark)) (fault : LineFault) → IsSomeAsked asked
    → IsSome asked → AnswersPlain setup write old new (Err fault) → AreMarksOfWrite asked [] write (Err (fault_of_line fault))
unplain_marks setup write old new asked v5 some unspent it = search rules

pub unplain_answers : (setup : Setup) (write : Posted) (old mid new : Parts) (asked : Option (List Mark)) (fault : LineFault)
    → IsSome asked → AnswersPlain setup write mid new (Err fault) → AnswersWrite setup asked [] write old new (Err (fault_of_line fault))
unplain_answers setup write old mid new asked v6 unspent it = search rules

pub unplain_steps : (setup : Setup) (write : Posted) (old mid new : Parts) (asked : Option (List Mark)) (fault : LineFault)
    → IsSome asked → AnswersPlain setup write mid new (Err fault)
    → TakesAtMost (path_length setup.shape) old.device new.device → TakesOfWrite setup.shape asked [] old new (Err (fault_of_line fault))
unplain_steps setup write old mid new v5 fault unspent says path = search rules

-- ---- in the finishing: the marks asked are those of the finishing, and more

pub unfinished_marks : (write : Posted) (front rest made : List Mark) (fault : LineFault) → 0 < length rest
    → HasFinishMarks front made (Err fault) → AreMarksOfWrite (Some (front ++ rest)) made write (Err (fault_of_line fault))
unfinished_marks write front rest made AtLine.Cut some it = inr (part_of_front front rest made some it)
unfinished_marks write front rest made (AtLine.Tag b) some it = refused_at front rest made write b some it
unfinished_marks write front rest made AtLine.Shown some it =
    part_of_front front rest made some (finish_front front made (Err AtLine.Shown) it)

pub unfinished_answers : (setup : Setup) (write : Posted) (old new : Parts) (front rest made : List Mark) (fault : LineFault) → 0 < length rest
    → HasFinishMarks front made (Err fault) → AnswersFinish setup front made new (Err fault)
    → AnswersWrite setup (Some (front ++ rest)) made write old new (Err (fault_of_line fault))
unfinished_answers setup write old new front rest made AtLine.Cut some marks it = tt
unfinished_answers setup write old new front rest made (AtLine.Tag b) some marks it = it
unfinished_answers setup write old new front rest made AtLine.Shown some marks it =
    inr (record { at = it.at; refusable = refused_at front rest made write it.at some it.stopped; forged = it.forged })

pub unfinished_steps : (setup : Setup) (old mid new : Parts) (front rest made : List Mark) (fault : LineFault)
    → seal_count front ≡ length front
    → 2 * path_length setup.shape + 1 + 4 * length front ≤ write_bound setup.shape (front ++ rest)
    → HasFinishMarks front made (Err fault)
    → TakesAtMost (path_length setup.shape) old.device mid.device → CountsFinish (length front) made mid new (Err fault)
    → TakesOfWrite setup.shape (Some (front ++ rest)) made old new (Err (fault_of_line fault))
unfinished_steps setup old mid new front rest made v7 seals bound marks path it = grind (arith, common_steps)
