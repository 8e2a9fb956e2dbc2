-- A page of which not all lines are sealed anew: one is refused, or its seal is cut.
use Rattle.std.proofs.Common.{rules, ℕ, ◌≡◌, ◌<◌, ◌+◌, ◌*◌, ◌++◌, ◌⊎◌, inl, inr, List, [], ◌∷◌, length, map, Err, refl, sym, ap, subst, ◌∙◌, arith}
use Rattle.std.proofs.lemmas.Bool.{false≢true, eq-eqb}
use Rattle.std.proofs.lemmas.List.{append_assoc, append-nil, length-append, length-map}
use Rattle.std.proofs.lemmas.List.Elements.{All-append}
use Rattle.pmem_base.specs.Registers.{not_done, IsValidRegs}
use Rattle.board.specs.Device.{Device}
use Rattle.suite.specs.Setup.{Setup}
use Rattle.plain_model.specs.State.{Memory}
use Rattle.pmem_engine.specs.declared.fault.LineFault.{LineFault}
use Rattle.pmem_engine.specs.declared.fault.LineFault.TheVariants as AtLine
use Rattle.pmem_engine.specs.Parts.{Parts, regs_of, AreTrusted}
use Rattle.pmem_engine.specs.Outcomes.{fault_of_line, outcome_of_fault, TakesSteps, TakesAtMost}
use Rattle.pmem_engine.specs.CallFacts.{IsMemory, moment_in, IsUnderMinorZero}
use Rattle.pmem_engine.specs.Resealing.{register_in, line_of_page, HasResealMarks, AnswersReseal, CountsReseal, HasResealed}
use Rattle.pmem_engine.specs.Writing.{reseals_of, IsFrontOf, IsStoppedAt, HasFinishMarks, AnswersFinish, CountsFinish, HasFinishedPage}
use Rattle.pmem_engine.specs.Finishing.{HasResealedFirst}
use Rattle.pmem_engine.proofs.CallEnds.CallChains.{done_chained}
use Rattle.pmem_engine.proofs.CallEnds.ErrorAnswers.{line_unrefused}
use Rattle.pmem_engine.proofs.PostedWrites.WriteSteps.{most_then, steps_most, fewer_most, more_most}
use Rattle.pmem_engine.proofs.PageLines.PageFinishes.{steps_more, asked_of, rest, at_is, all_asked, same_mark, few_of_both, sealed_of_both}

none_most : (n : ℕ) (old new : Device) → TakesSteps 0 old new → TakesAtMost n old new
none_most n old new it = more_most 0 n old new (omega arith) (steps_most 0 old new it)

-- a line that isn't sealed takes four steps at most
four_most : (fault : LineFault) (old new : Parts) → CountsReseal old new (Err fault) → TakesAtMost 4 old.device new.device
four_most fault old new it = search (rules, fewer_most, none_most)

module _ (setup : Setup) (n number : ℕ) (old mid new : Parts) (valid : IsValidRegs setup.shape (regs_of old))
    (inside : n < length (regs_of old).progress.items) (first : HasResealedFirst setup n number old mid)
    (some : number < length (not_done (register_in old n))) (fault : LineFault) (it : HasResealed setup n mid new (Err fault)) where
  abbrev later : List ℕ
  later = rest setup n number old mid valid inside first some new (Err fault) it

  abbrev at_stop : ℕ
  at_stop = line_of_page (register_in old n) it.place

  stopped : AreTrusted setup old → (memory : Memory) → IsMemory setup memory old → it.made ≡ [] → (b : ℕ) → b ≡ at_stop
      → IsStoppedAt (reseals_of setup.formulas (moment_in setup memory old) (register_in old n)) (first.made ++ it.made) b
  stopped trusted memory was none b same =
      record {
        next = asked_of setup n old memory it.place;
        later = map (asked_of setup n old memory) later;
        front =
            all_asked setup n number old mid valid inside first some new (Err fault) it trusted memory was
            ∙ ap (λ ms. ms ++ asked_of setup n old memory it.place ∷ map (asked_of setup n old memory) later)
            (sym (ap (λ ms. first.made ++ ms) none ∙ append-nil first.made));
        its_line = eq-eqb at_stop b (sym same);
      }

  cut_front : AreTrusted setup old → (memory : Memory) → IsMemory setup memory old
      → (it.made ≡ []) ⊎ (it.made ≡ asked_of setup n old memory it.place ∷ [])
      → IsFrontOf (reseals_of setup.formulas (moment_in setup memory old) (register_in old n)) (first.made ++ it.made)
  cut_front trusted memory was (inl none) =
      record {
        left = asked_of setup n old memory it.place ∷ map (asked_of setup n old memory) later;
        front =
            all_asked setup n number old mid valid inside first some new (Err fault) it trusted memory was
            ∙ ap (λ ms. ms ++ asked_of setup n old memory it.place ∷ map (asked_of setup n old memory) later)
            (sym (ap (λ ms. first.made ++ ms) none ∙ append-nil first.made));
      }
  cut_front trusted memory was (inr one) =
      record {
        left = map (asked_of setup n old memory) later;
        front =
            all_asked setup n number old mid valid inside first some new (Err fault) it trusted memory was
            ∙ sym (append_assoc first.made (asked_of setup n old memory it.place ∷ []) (map (asked_of setup n old memory) later))
            ∙ ap (λ ms. (first.made ++ ms) ++ map (asked_of setup n old memory) later) (sym one);
      }

  mid_trusted : AreTrusted setup old → AreTrusted setup mid
  mid_trusted trusted = first.done.gone.trusted trusted

  step_marks : AreTrusted setup old → (memory : Memory) → IsMemory setup memory old
      → HasResealMarks setup.formulas (moment_in setup memory mid) (register_in mid n).page it.place it.made (Err fault)
  step_marks trusted memory was = it.marks (mid_trusted trusted) memory (first.memory_kept trusted memory was)

  step_says : AreTrusted setup old → AnswersReseal setup at_stop mid new (Err fault)
  step_says trusted =
      subst (λ a. AnswersReseal setup a mid new (Err fault))
      (at_is setup n number old mid valid inside first some new (Err fault) it) (it.answered (mid_trusted trusted))

  marks_so : (f : LineFault) → AreTrusted setup old → (memory : Memory) → IsMemory setup memory old
      → HasResealMarks setup.formulas (moment_in setup memory mid) (register_in mid n).page it.place it.made (Err f)
      → AnswersReseal setup at_stop mid new (Err f)
      → HasFinishMarks (reseals_of setup.formulas (moment_in setup memory old) (register_in old n)) (first.made ++ it.made) (Err f)
  marks_so AtLine.Cut trusted memory was (inl none) says = cut_front trusted memory was (inl none)
  marks_so AtLine.Cut trusted memory was (inr one) says =
      cut_front trusted memory was
      (inr (one ∙ ap (λ m. m ∷ []) (same_mark setup n number old mid valid inside first some new (Err fault) it trusted memory)))
  marks_so (AtLine.Tag b) trusted memory was none says = stopped trusted memory was none b says.0
  marks_so AtLine.Shown trusted memory was none says = (at_stop, stopped trusted memory was none at_stop refl)

  says_so : (f : LineFault) → AreTrusted setup old → (memory : Memory) → IsMemory setup memory old
      → HasResealMarks setup.formulas (moment_in setup memory mid) (register_in mid n).page it.place it.made (Err f)
      → AnswersReseal setup at_stop mid new (Err f)
      → AnswersFinish setup (reseals_of setup.formulas (moment_in setup memory old) (register_in old n)) (first.made ++ it.made)
      new (Err f)
  says_so AtLine.Cut trusted memory was marks says = tt
  says_so (AtLine.Tag b) trusted memory was marks says = says.1
  says_so AtLine.Shown trusted memory was none says =
      record { at = at_stop; stopped = stopped trusted memory was none at_stop refl; forged = says }

  made_number : AreTrusted setup old → (memory : Memory) → IsMemory setup memory old → it.made ≡ []
      → number ≡ length (first.made ++ it.made)
  made_number trusted memory was none = search (rules, length-append, length-map, asked_of)

  steps_so : AreTrusted setup old → (memory : Memory) → IsMemory setup memory old → it.made ≡ []
      → TakesSteps 0 mid.device new.device → TakesSteps (4 * length (first.made ++ it.made)) old.device new.device
  steps_so trusted memory was none steps = search (rules, steps_more, made_number)

  counts_so : (f : LineFault) → AreTrusted setup old → (memory : Memory) → IsMemory setup memory old
      → HasResealMarks setup.formulas (moment_in setup memory mid) (register_in mid n).page it.place it.made (Err f)
      → CountsReseal mid new (Err f)
      → CountsFinish (length (not_done (register_in old n))) (first.made ++ it.made) old new (Err f)
  counts_so AtLine.Cut trusted memory was marks counts =
      record {
        writes = let one = first.steps.writes in let two = counts.writes in omega (arith, one, two);
        latches = let one = first.steps.latches in let two = counts.latches in omega (arith, one, two);
        sum =
            search rules;
      }
  counts_so (AtLine.Tag b) trusted memory was none counts = steps_so trusted memory was none counts
  counts_so AtLine.Shown trusted memory was none counts = steps_so trusted memory was none counts

  pub unfinished : HasFinishedPage setup n old new (Err fault)
  unfinished =
      record {
        made = first.made ++ it.made;
        few =
            let both = few_of_both setup n number old mid valid inside first some new (Err fault) it in
            omega (arith, both, some);
        minors = All-append IsUnderMinorZero first.made it.made first.minors it.minors;
        seals = λ ok. absurd (false≢true ok);
        work = λ ok. absurd (false≢true ok);
        meta_lines = λ ok. absurd (false≢true ok);
        few_steps =
            more_most (4 * number + 4) (4 * length (not_done (register_in old n))) old.device new.device (omega (arith, some))
            (most_then (4 * number) 4 old.device mid.device new.device
            (steps_most (4 * number) old.device mid.device first.steps) (four_most fault mid new it.counts));
        done = done_chained setup (outcome_of_fault (fault_of_line fault)) first.made it.made old mid new first.done it.done;
        marks = λ trusted memory was. marks_so fault trusted memory was (step_marks trusted memory was) (step_says trusted);
        memory_kept =
            λ trusted memory was. it.memory_kept (mid_trusted trusted) memory (first.memory_kept trusted memory was);
        answered = λ trusted memory was. says_so fault trusted memory was (step_marks trusted memory was) (step_says trusted);
        unrefused = λ sound. line_unrefused (ℕ × ℕ) Unit fault (it.unrefused (first.done.gone.sound sound));
        sealed_before = sealed_of_both setup n number old mid valid inside first some new (Err fault) it;
        closed = λ ok. absurd (false≢true ok);
        one_less = λ ok. absurd (false≢true ok);
        others = λ ok. absurd (false≢true ok);
        counts = λ trusted memory was. counts_so fault trusted memory was (step_marks trusted memory was) it.counts;
        engine = it.engine ∙ first.engine;
        truth = λ unshown. it.truth unshown ∙ first.truth;
        root = it.root ∙ first.root;
        digests = it.digests ∙ first.digests;
      }
