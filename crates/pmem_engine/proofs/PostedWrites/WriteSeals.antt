-- A write's own seal, after the parts before it: its marks, memory, steps and counter block.
use Rattle.std.proofs.Common.{rules, ℕ, ◌≡◌, ◌≢◌, ◌<◌, ◌≤◌, ◌+◌, ◌++◌, ◌⊎◌, inl, inr, Bool, true, false, cond, List, [], ◌∷◌, length, IsTrue, Option, Some, Result, Ok, Err, refl, sym, ap, subst, subst₂, ◌∙◌, arith}
use Rattle.std.specs.Prelude.{◌||◌, ◌*◌, option_map, is_some, IsOk, IfOk}
use Rattle.plain_model.specs.Bounds.{path_length, begun_lines, seal_count}
use Rattle.std.proofs.lemmas.List.Elements.{All-nil, All-cons}
use Rattle.std.proofs.lemmas.List.Sums.{sum_by-append, sum_by-cons}
use Rattle.std.proofs.lemmas.Bool.{true≢false, cond-true, cond-false, cases_eq, eq-eqb}
use Rattle.std.proofs.lemmas.List.{append-nil, length-append}
use Rattle.std.proofs.lemmas.List.Folds.{list_any-append}
use Rattle.pmem_base.specs.declared.faults.Cut.{Cut}
use Rattle.pmem_base.specs.declared.lines.Line.{Line}
use Rattle.pmem_base.specs.declared.lines.Ctr.{Ctr}
use Rattle.pmem_base.specs.declared.commands.Posted.{Posted}
use Rattle.pmem_base.specs.declared.answers.Mark.{Mark}
use Rattle.pmem_base.specs.Layout as layout
use Rattle.pmem_base.specs.Layout.{page_of}
use Rattle.pmem_base.specs.Lines.{line_at}
use Rattle.pmem_base.specs.Marks.{SealOf, last_seal}
use Rattle.pmem_base.specs.WaitingWrites.{put_write}
use Rattle.pmem_base.proofs.LineSets.{line_at-set_same, line_at-set_other}
use Rattle.seal_ledger.proofs.MarkLemmas.{last_seal-sealed}
use Rattle.meta_path.specs.Blocks.{IsPathCached}
use Rattle.suite.specs.Formulas.{cipher_of}
use Rattle.suite.specs.Setup.{Setup}
use Rattle.plain_model.specs.State.{Memory, memory_with}
use Rattle.plain_model.specs.View.{plain_line}
use Rattle.plain_model.specs.Asked.{seal_mark, marks_of_write}
use Rattle.pmem_engine.specs.Parts.{Parts, regs_of, AreTrusted, HoldsSeal}
use Rattle.call_effects.specs.Outcomes.{going}
use Rattle.pmem_engine.specs.Outcomes.{of_cut, fault_of_cut, outcome_of, is_seal_of, is_sealed_by, TakesAtMost}
use Rattle.pmem_engine.specs.CallFacts.{IsMemory, IsBlockTrue, moment_in, memory_after, AreMarksOfWrite, AnswersWrite, write_bound, TakesOfWrite, IsPastFetch, AreUnderMinorZero, AreInWriteOrder, then_work, IsWork, grouped_lines, seal_work, KeepsButPath, KeepsOtherMeta, write_work, IsWriteWork}
use Rattle.pmem_engine.specs.Sealing.{next_counter_of, seal_steps, HasNextMarks, TakesSealSteps, HasSealedNext}
use Rattle.pmem_engine.proofs.CallEnds.CallChains.{done_chained}
use Rattle.pmem_engine.proofs.CallEnds.ErrorAnswers.{ok_before, cut_unrefused, cut_not_down}
use Rattle.pmem_engine.proofs.CallEnds.ExactWork.{work_then}
use Rattle.pmem_engine.proofs.Laws.PolicyBounds.{grouped_few}
use Rattle.pmem_engine.proofs.PostedWrites.WriteParts.{IsWritePart}
use Rattle.pmem_engine.proofs.PostedWrites.WriteSteps.{most_then, fewer_then, steps_most, fewer_most, more_most, more_fewer}
use Rattle.pmem_engine.proofs.PostedWrites.WriteExits.{IsWriteEnd, few_in_order, some_after}
use Rattle.pmem_engine.proofs.PostedWrites.WriteWorks.{named_work, work_before, IsWriteWorkBefore}

module _ (setup : Setup) (write : Posted) (within : write.at < layout.data_lines setup.shape) (old : Parts)
    (p5 new : Parts) (plain : Line)
    (before : List Mark) (part5 : IsWritePart setup write.at going before old p5) (wanted : Memory → List Mark) (most : Memory → ℕ)
    (asked_is : AreTrusted setup old → (memory : Memory) → marks_of_write setup.formulas (moment_in setup memory old) write ≡ Some (wanted memory))
    (plain_is : AreTrusted setup old → (memory : Memory) → IsMemory setup memory old → plain ≡ put_write (line_at memory write.at) write)
    (whole : AreTrusted setup old → (memory : Memory) → IsMemory setup memory old
    → before ++ seal_mark setup.formulas write.at (next_counter_of setup.shape p5.engine write.at) plain ∷ [] ≡ wanted memory)
    (steps5 : AreTrusted setup old → (memory : Memory) → IsMemory setup memory old → TakesAtMost (most memory) old.device p5.device)
    (bound : (memory : Memory) → most memory + (4 + begun_lines setup.shape) ≤ write_bound setup.shape (wanted memory))
    (held_short : AreTrusted setup old → write.len < 64 → HoldsSeal setup.shape old write.at)
    (few_before : length before ≤ 65) (minors_before : AreUnderMinorZero before)
    (most5 : TakesAtMost (2 * path_length setup.shape + 258 + begun_lines setup.shape) old.device p5.device)
    (work5 : IsWriteWorkBefore setup write before old p5)
    (answer : Result Ctr Cut) (it : HasSealedNext setup write.at plain p5 new answer) where
  abbrev page : ℕ
  page = page_of write.at

  abbrev next : Ctr
  next = next_counter_of setup.shape p5.engine write.at

  abbrev seal : Mark
  seal = seal_mark setup.formulas write.at next plain

  trusted5 : AreTrusted setup old → AreTrusted setup p5
  trusted5 trusted = part5.done.gone.trusted trusted

  -- made is the seal, or nothing
  made_cases : (reply : Result Ctr Cut) → HasNextMarks setup.formulas write.at next plain it.made reply
      → (it.made ≡ []) ⊎ (it.made ≡ seal ∷ [])
  made_cases v0 marks = search rules

  made_is : (it.made ≡ []) ⊎ (it.made ≡ seal ∷ [])
  made_is = made_cases answer it.marks

  -- whether it seals a line
  none_sealed : it.made ≡ [] → (a : ℕ) → is_sealed_by it.made a ≡ false
  none_sealed none a = ap (λ marks. is_sealed_by marks a) none

  one_sealed : it.made ≡ seal ∷ [] → is_sealed_by it.made write.at ≡ true
  one_sealed one = ap (λ marks. is_sealed_by marks write.at) one ∙ ap (λ b. b || false) (eq-eqb write.at write.at refl)

  other_unsealed : it.made ≡ seal ∷ [] → (a : ℕ) → a ≢ write.at → is_sealed_by it.made a ≡ false
  other_unsealed one a apart = search rules

  sealed_at : (a : ℕ) → is_sealed_by it.made a ≡ true → a ≡ write.at
  sealed_at a sealed = search rules

  -- ---- the marks

  sealed_marks : AreTrusted setup old → (memory : Memory) → IsMemory setup memory old → (reply : Result Ctr Cut)
      → HasNextMarks setup.formulas write.at next plain it.made reply
      → AreMarksOfWrite (Some (wanted memory)) (before ++ it.made) write (of_cut reply)
  sealed_marks trusted memory was (Ok ctr) marks =
      ap Some (sym (whole trusted memory was) ∙ ap (λ ms. before ++ ms) (sym marks.1))
  sealed_marks trusted memory was (Err cut) (inl none) =
      inr (record {
        left = seal ∷ [];
        front =
            sym (whole trusted memory was)
            ∙ ap (λ ms. ms ++ seal ∷ []) (sym (append-nil before) ∙ ap (λ ms. before ++ ms) (sym none));
        not_all = some_after [] seal [];
      })
  sealed_marks trusted memory was (Err cut) (inr one) =
      inl (ap Some (sym (whole trusted memory was) ∙ ap (λ ms. before ++ ms) (sym one)))

  -- the counter answered is the last one
  last_is : (reply : Result Ctr Cut) → HasNextMarks setup.formulas write.at next plain it.made reply
      → (asks : Option (List Mark)) → AnswersWrite setup asks (before ++ it.made) write old new (of_cut reply)
  last_is (Ok ctr) marks asks =
      ap (λ ms. option_map (λ (s : SealOf). s.ctr) (last_seal ms write.at))
      (it.done.gone.marks ∙ ap (λ ms. p5.ledger.marks ++ ms) marks.1)
      ∙ ap (option_map (λ (s : SealOf). s.ctr))
      (last_seal-sealed p5.ledger.marks write.at next (cipher_of setup.formulas write.at next plain)
      (setup.formulas.tag_of write.at next (cipher_of setup.formulas write.at next plain)))
      ∙ ap Some (sym marks.0)
  last_is (Err cut) marks asks = tt

  -- ---- memory

  -- the write's own seal is among the marks where it was made now
  own_sealed : AreTrusted setup old → (memory : Memory) → IsMemory setup memory old
      → is_sealed_by (before ++ it.made) write.at ≡ is_sealed_by it.made write.at
  own_sealed trusted memory was =
      list_any-append (is_seal_of write.at) before it.made
      ∙ ap (λ b. b || is_sealed_by it.made write.at) (part5.not_own trusted memory was)

  plain_now : (a : ℕ) (b : Bool) → is_sealed_by it.made a ≡ b
      → plain_line setup.formulas new.ledger.marks a ≡ cond b (Some plain) (plain_line setup.formulas p5.ledger.marks a)
  plain_now a b is =
      it.plain_now a ∙ ap (λ sealed. cond sealed (Some plain) (plain_line setup.formulas p5.ledger.marks a)) is

  memory_put : AreTrusted setup old → (memory : Memory) → write.at < length memory → IsMemory setup memory old
      → it.made ≡ seal ∷ [] → IsMemory setup (memory_with memory write) new
  memory_put trusted memory long was one a inside =
      elim (cases_eq a write.at) [
        | inl same ↦
            plain_now a true (ap (is_sealed_by it.made) same ∙ one_sealed one)
            ∙ ap Some
            (plain_is trusted memory was
            ∙ sym (line_at-set_same memory write.at (put_write (line_at memory write.at) write) long)
            ∙ ap (line_at (memory_with memory write)) (sym same))
        | inr apart ↦
            plain_now a false (other_unsealed one a apart)
            ∙ part5.memory_kept trusted memory was a inside
            ∙ ap Some (sym (line_at-set_other memory write.at a (put_write (line_at memory write.at) write) apart))
      ]

  memory_same : AreTrusted setup old → (memory : Memory) → IsMemory setup memory old
      → it.made ≡ [] → IsMemory setup memory new
  memory_same trusted memory was none a inside =
      plain_now a false (none_sealed none a) ∙ part5.memory_kept trusted memory was a inside

  memory_now : AreTrusted setup old → (memory : Memory) → write.at < length memory → IsMemory setup memory old
      → IsMemory setup (memory_after memory write (before ++ it.made)) new
  memory_now trusted memory long was =
      elim made_is [
        | inl none ↦
            subst (λ m. IsMemory setup m new)
            (sym (cond-false (is_sealed_by (before ++ it.made) write.at) (memory_with memory write) memory
            (own_sealed trusted memory was ∙ none_sealed none write.at)))
            (memory_same trusted memory was none)
        | inr one ↦
            subst (λ m. IsMemory setup m new)
            (sym (cond-true (is_sealed_by (before ++ it.made) write.at) (memory_with memory write) memory
            (own_sealed trusted memory was ∙ one_sealed one)))
            (memory_put trusted memory long was one)
      ]

  -- ---- what was stored before

  stored_before : AreTrusted setup old → (a : ℕ) → a < layout.data_lines setup.shape
      → IsTrue (is_sealed_by (before ++ it.made) a) → (a ≢ write.at) ⊎ (write.len < 64) → (b : Bool)
      → is_sealed_by before a ≡ b → HoldsSeal setup.shape old a
  stored_before trusted a inside sealed other true is = part5.sealed_before trusted a inside is
  stored_before trusted a inside sealed other false is =
      let same : a ≡ write.at =
      sealed_at a
      (ap (λ t. t || is_sealed_by it.made a) (sym is)
      ∙ sym (list_any-append (is_seal_of a) before it.made) ∙ sealed) in
      elim other [
        | inl apart ↦ absurd (apart same)
        | inr short ↦
            subst (HoldsSeal setup.shape old) (sym same)
            (held_short trusted short)
      ]

  -- ---- steps

  few_steps : (loss : ℕ) (ctr : Ctr) → seal_steps setup.shape loss ctr ≤ 4 + begun_lines setup.shape
  few_steps loss ctr = omega (arith, grouped_few setup.shape loss ctr.minor)

  sealed_steps : AreTrusted setup old → (memory : Memory) → IsMemory setup memory old → (reply : Result Ctr Cut)
      → HasNextMarks setup.formulas write.at next plain it.made reply
      → TakesSealSteps (seal_steps setup.shape (regs_of p5).loss next) p5 new reply
      → TakesOfWrite setup.shape (Some (wanted memory)) (before ++ it.made) old new (of_cut reply)
  sealed_steps trusted memory was (Ok ctr) marks steps =
      subst (λ ms. TakesAtMost (write_bound setup.shape ms) old.device new.device)
      (sym (whole trusted memory was) ∙ ap (λ ms. before ++ ms) (sym marks.1))
      (more_most
      (most memory + seal_steps setup.shape (regs_of p5).loss next)
      (write_bound setup.shape (wanted memory)) old.device new.device
      (omega (arith, bound memory, few_steps (regs_of p5).loss next))
      (most_then (most memory) (seal_steps setup.shape (regs_of p5).loss next) old.device p5.device new.device (steps5 trusted memory was)
      (steps_most (seal_steps setup.shape (regs_of p5).loss next) p5.device new.device steps)))
  sealed_steps trusted memory was (Err cut) marks steps =
      more_fewer
      (most memory + seal_steps setup.shape (regs_of p5).loss next)
      (write_bound setup.shape (wanted memory)) old.device new.device
      (omega (arith, bound memory, few_steps (regs_of p5).loss next))
      (fewer_then (most memory) (seal_steps setup.shape (regs_of p5).loss next) old.device p5.device new.device (steps5 trusted memory was) steps)

  -- ---- the counter block

  written_by : (reply : Result Ctr Cut) → HasNextMarks setup.formulas write.at next plain it.made reply
      → (IsOk reply → 0 < grouped_lines setup.shape (regs_of p5).loss next.minor → IsBlockTrue setup new page)
      → IfOk (of_cut reply) (λ ctr. 0 < grouped_lines setup.shape (regs_of old).loss ctr.minor → IsBlockTrue setup new page)
  written_by (Ok ctr) marks block = λ some.
      block refl
      (subst₂ (λ loss minor. 0 < grouped_lines setup.shape loss minor) (sym part5.done.loss) (ap (λ (c : Ctr). c.minor) marks.0) some)
  written_by (Err cut) marks block = tt

  -- ---- whatever the chip is

  past_seal : (reply : Result Ctr Cut) → HasNextMarks setup.formulas write.at next plain it.made reply
      → (IsOk reply → IsPathCached setup.shape new.engine.cache page) → IsPastFetch old new (of_cut reply)
      → IsPathCached setup.shape new.engine.cache page
  past_seal (Ok ctr) marks cached past = cached refl
  past_seal (Err cut) marks cached past = absurd past

  order : AreInWriteOrder write.at (before ++ it.made)
  order = search (rules, All-nil, All-cons, made_is)

  own_seal : (reply : Result Ctr Cut) → HasNextMarks setup.formulas write.at next plain it.made reply
      → IsOk (of_cut reply) → is_sealed_by (before ++ it.made) write.at ≡ true
  own_seal reply marks ok = search (rules, true≢false, list_any-append, one_sealed)

  seal_most : (reply : Result Ctr Cut) → TakesSealSteps (seal_steps setup.shape (regs_of p5).loss next) p5 new reply
      → TakesAtMost (4 + begun_lines setup.shape) p5.device new.device
  seal_most (Ok ctr) steps =
      more_most (seal_steps setup.shape (regs_of p5).loss next) (4 + begun_lines setup.shape) p5.device new.device
      (few_steps (regs_of p5).loss next) (steps_most (seal_steps setup.shape (regs_of p5).loss next) p5.device new.device steps)
  seal_most (Err cut) steps =
      more_most (seal_steps setup.shape (regs_of p5).loss next) (4 + begun_lines setup.shape) p5.device new.device
      (few_steps (regs_of p5).loss next) (fewer_most (seal_steps setup.shape (regs_of p5).loss next) p5.device new.device steps)

  -- ---- the work

  seals_now : it.made ≡ seal ∷ [] → seal_count (before ++ it.made) ≡ seal_count before + 1
  seals_now one = search (rules, sum_by-append, sum_by-cons)

  marks_now : it.made ≡ seal ∷ [] → length (before ++ it.made) ≡ length before + 1
  marks_now one = length-append before it.made ∙ ap (λ ms. length before + length ms) one

  same_work : (ctr : Ctr) → it.made ≡ seal ∷ []
      → then_work (work_before setup.shape write before old work5.fetched) (seal_work setup.shape (regs_of old).loss ctr)
      ≡ write_work setup.shape write ctr (before ++ it.made) old work5.fetched
  same_work ctr one = search (rules, named_work, seals_now, marks_now)

  whole_work : (reply : Result Ctr Cut) → HasNextMarks setup.formulas write.at next plain it.made reply
      → IfOk reply (λ ctr. IsWork (seal_work setup.shape (regs_of p5).loss ctr) p5 new)
      → KeepsButPath setup.shape page p5.engine.cache new.engine.cache
      → (IsOk reply → KeepsOtherMeta setup.shape page p5.device.lines new.device.lines)
      → IfOk (of_cut reply) (λ ctr. IsWriteWork setup.shape write ctr (before ++ it.made) old new)
  whole_work (Ok ctr) marks did kept meta =
      record {
        fetched = work5.fetched;
        path_fetched = work5.path_fetched;
        cache = λ bank set. kept bank set ∙ work5.kept bank set;
        lines = λ x inside apart. meta refl x inside apart ∙ work5.lines x inside apart;
        work =
            subst (λ work. IsWork work old new) (same_work ctr marks.1)
            (work_then (work_before setup.shape write before old work5.fetched) (seal_work setup.shape (regs_of old).loss ctr) old p5
            new work5.work (subst (λ loss. IsWork (seal_work setup.shape loss ctr) p5 new) part5.done.loss did));
      }
  whole_work (Err fault) marks did kept meta = tt

  pub written_with_seal : IsWriteEnd setup write old new (of_cut answer)
  written_with_seal planned =
      record {
        plan = planned;
        made = before ++ it.made;
        not_down = cut_not_down answer;
        done =
            done_chained setup (outcome_of (of_cut answer)) before it.made old p5 new part5.done it.done;
        marks =
            λ trusted memory was.
            subst (λ marks. AreMarksOfWrite marks (before ++ it.made) write (of_cut answer)) (sym (asked_is trusted memory))
            (sealed_marks trusted memory was answer it.marks);
        memory = memory_now;
        answered =
            λ trusted memory was.
            last_is answer it.marks (marks_of_write setup.formulas (moment_in setup memory old) write);
        unrefused = λ sound. cut_unrefused answer;
        sealed_before =
            λ trusted a inside sealed other.
            stored_before trusted a inside sealed other (is_sealed_by before a) refl;
        path_named = λ ok. record { each = (it.path_named (ok_before fault_of_cut answer ok)).each };
        path_fetched = λ past. past_seal answer it.marks it.path_cached past;
        order = order;
        few_marks = few_in_order write.at (before ++ it.made) order;
        own_sealed = own_seal answer it.marks;
        few_steps =
            more_most (2 * path_length setup.shape + 258 + begun_lines setup.shape + (4 + begun_lines setup.shape))
            (2 * path_length setup.shape + 262 + 2 * begun_lines setup.shape) old.device new.device (omega arith)
            (most_then (2 * path_length setup.shape + 258 + begun_lines setup.shape) (4 + begun_lines setup.shape) old.device p5.device
            new.device most5 (seal_most answer it.steps));
        work = whole_work answer it.marks it.work it.cache it.meta_lines;
        steps =
            λ trusted memory was.
            subst (λ marks. TakesOfWrite setup.shape marks (before ++ it.made) old new (of_cut answer)) (sym (asked_is trusted memory))
            (sealed_steps trusted memory was answer it.marks it.steps);
        steps_of_spent = λ trusted memory was none. absurd (true≢false (sym (ap is_some (asked_is trusted memory)) ∙ ap is_some none));
        block_written = λ trusted. written_by answer it.marks (it.block_written (trusted5 trusted));
      }
