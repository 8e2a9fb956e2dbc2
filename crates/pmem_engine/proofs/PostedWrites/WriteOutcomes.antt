-- A whole write, one law an exit: each takes the parts so far, in the order in which a write does them.
use Rattle.std.proofs.Common.{rules, ℕ, ◌≡◌, ◌<◌, ◌≤◌, ◌+◌, ◌*◌, ◌++◌, inr, Bool, true, List, [], ◌∷◌, length, Option, Some, None, Result, Ok, Err, refl, sym, ap, ap₂, subst, ◌∙◌, arith}
use Rattle.std.specs.Prelude.{is_some, IsSome}
use Rattle.std.proofs.lemmas.Bool.{true≢false, lt-ltb}
use Rattle.std.proofs.lemmas.List.{append-nil, append_assoc, length-append}
use Rattle.std.proofs.lemmas.List.Elements.{All-nil, All-append}
use Rattle.pmem_base.specs.declared.faults.Cut.{Cut}
use Rattle.pmem_base.specs.declared.lines.Line.{Line}
use Rattle.pmem_base.specs.declared.lines.Ctr.{Ctr}
use Rattle.pmem_base.specs.declared.commands.Posted.{Posted}
use Rattle.pmem_base.specs.declared.answers.Mark.{Mark}
use Rattle.pmem_base.specs.Layout as layout
use Rattle.pmem_base.specs.Layout.{page_of, index_in_page}
use Rattle.pmem_base.specs.Lines.{line_at}
use Rattle.pmem_base.specs.WaitingWrites.{put_write}
use Rattle.page_reencrypt.specs.Registers.{register_held}
use Rattle.meta_path.specs.Blocks.{IsPathCached}
use Rattle.suite.specs.Setup.{Setup}
use Rattle.plain_model.specs.State.{Memory}
use Rattle.plain_model.specs.Asked.{seal_mark, marks_of_write}
use Rattle.plain_model.specs.Bounds.{path_length, begun_lines, seal_count}
use Rattle.pmem_engine.specs.declared.fault.Fault.{Fault}
use Rattle.pmem_engine.specs.declared.fault.Fault.TheVariants as Fail
use Rattle.pmem_engine.specs.declared.fault.LineFault.{LineFault}
use Rattle.pmem_engine.specs.Parts.{Parts, regs_of, AreTrusted}
use Rattle.call_effects.specs.Outcomes.{going, cut_short, is_going}
use Rattle.pmem_engine.specs.Outcomes.{fault_of_line, of_cut, outcome_of_fault, TakesSteps, TakesAtMost}
use Rattle.pmem_engine.specs.CallFacts.{IsMemory, moment_in, AreMarksOfWrite, AnswersWrite, write_bound, TakesSpent, TakesOfWrite, IsUnderMinorZero}
use Rattle.pmem_engine.specs.Inner.{cached_block, HasFetched, HasNamedPath}
use Rattle.pmem_engine.specs.Sealing.{next_counter_of, HasSealedNext}
use Rattle.pmem_engine.specs.Writing.{overflow_of, HasFinishMarks, HasMadePlain, HasFinishedFor, HasBegunFor}
use Rattle.pmem_engine.proofs.PostedWrites.WriteAsks.{asked_seal, asked_begin, asked_none, free_at_overflow, overflow_fault}
use Rattle.pmem_engine.proofs.PostedWrites.WriteParts.{IsWritePart, held_back, part_chained, fetch_part, plain_part, name_part}
use Rattle.pmem_engine.proofs.PostedWrites.WriteFinishes.{HasFinishedSome, finish_asked, finished_for}
use Rattle.pmem_engine.proofs.PostedWrites.WriteWorks.{IsWriteWorkBefore, worked_before}
use Rattle.pmem_engine.proofs.PostedWrites.WriteSeals.{written_with_seal}
use Rattle.pmem_engine.proofs.CallEnds.ErrorAnswers.{line_not_down, line_unrefused}
use Rattle.pmem_engine.proofs.PostedWrites.WriteSteps.{most_then, fewer_most, more_most, fewer_then, steps_most, more_fewer, begin_asked, begin_steps, bound_whole}
use Rattle.pmem_engine.proofs.PostedWrites.WriteBegins.{HasBegunSome, begin_counter, begin_minor, begun_for}
use Rattle.pmem_engine.proofs.PostedWrites.WriteExits.{IsWriteEnd, none_order, unsealed_order, some_after, some_asked, part_of_front, unnamed_front, stopped, unplain_marks, unplain_answers, unplain_steps, unfinished_marks, unfinished_answers, unfinished_steps}

module _ (setup : Setup) (write : Posted) (within : write.at < layout.data_lines setup.shape) (old : Parts) where
  abbrev page : ℕ
  page = page_of write.at

  abbrev asked : Memory → Parts → Option (List Mark)
  asked memory parts = marks_of_write setup.formulas (moment_in setup memory parts) write

  abbrev path : ℕ
  path = path_length setup.shape

  -- the most steps of a write
  abbrev most : ℕ
  most = 2 * path + 262 + 2 * begun_lines setup.shape

  -- it asks for the same where the ledger is the same
  asked_same : (memory : Memory) (before after : Parts) → after.ledger ≡ before.ledger → asked memory before ≡ asked memory after
  asked_same memory before after same = search rules

  module _ (p1 : Parts) (fetched : HasFetched setup page old p1 (Ok tt)) where
    trusted1 : AreTrusted setup old → AreTrusted setup p1
    trusted1 trusted = fetched.done.gone.trusted trusted

    cached1 : IsPathCached setup.shape p1.engine.cache page
    cached1 = fetched.path_cached refl

    ledger1 : p1.ledger ≡ old.ledger
    ledger1 = fetched.same_ledger (λ e. true≢false (ap is_going e))

    part1 : IsWritePart setup write.at going [] old p1
    part1 = fetch_part setup write.at old p1 (Ok tt) fetched

    -- ---- its counter is used up

    spent_steps : (marks : Option (List Mark)) (at : ℕ) → TakesOfWrite setup.shape marks [] old p1 (Err (Fail.Spent at))
    spent_steps v0 at = search rules

    pub written_spent : (fault : Fault)
        → overflow_of (cached_block setup.shape p1.engine page) page (index_in_page write.at) ≡ Err fault
        → IsWriteEnd setup write old p1 (Err fault)
    written_spent fault over =
        subst (λ f. IsWriteEnd setup write old p1 (Err f))
        (sym (overflow_fault (cached_block setup.shape p1.engine page) page (index_in_page write.at) fault over))
        (stopped setup write old p1 [] (Fail.Spent page) part1
        (record {
          path_fetched = λ past. cached1;
          order = none_order write.at;
          few_steps = more_most path most old.device p1.device (omega arith) fetched.steps_of_path;
        })
        (λ trusted memory was. (
          asked_same memory old p1 ledger1
              ∙ asked_none setup memory write p1 within (trusted1 trusted) cached1 fault over,
          refl,
          refl,
        ))
        (λ trusted memory was. tt) (λ sound. tt) (λ is. is)
        (λ trusted memory was. spent_steps (asked memory old) page)
        (λ trusted memory was none. (fetched.steps_of_path, fetched.steps_of_dirty)))

    module _ (overflows : Bool)
        (over : overflow_of (cached_block setup.shape p1.engine page) page (index_in_page write.at) ≡ Ok overflows) where
      unspent : AreTrusted setup old → (memory : Memory) → IsSome (asked memory old)
      unspent trusted memory = search (rules, asked_seal, asked_begin, asked_same, trusted1, cached1, ledger1)

      spent_not : (T : Type 0) → AreTrusted setup old → (memory : Memory) → asked memory old ≡ None → T
      spent_not T trusted memory none = absurd (true≢false (sym (unspent trusted memory) ∙ ap is_some none))

      -- the steps of the path, and none more
      path_alone : (new : Parts) → TakesSteps 0 p1.device new.device → TakesAtMost path old.device new.device
      path_alone new none = search rules

      -- ---- its line isn't unsealed

      pub written_unplain : (new : Parts) (fault : LineFault) → HasMadePlain setup write p1 new (Err fault)
          → IsWriteEnd setup write old new (Err (fault_of_line fault))
      written_unplain new fault it =
          stopped setup write old new [] (fault_of_line fault)
          (part_chained setup write.at (outcome_of_fault (fault_of_line fault)) [] [] old p1 new part1
          (plain_part setup write p1 new (Err fault) it))
          (record {
            path_fetched = λ past. subst (λ engine. IsPathCached setup.shape engine.cache page) (sym it.engine) cached1;
            order = none_order write.at;
            few_steps = more_most path most old.device new.device (omega arith) (path_alone new it.no_steps);
          })
          (λ trusted memory was.
          unplain_marks setup write p1 new (asked memory old) fault (some_asked setup.formulas (moment_in setup memory old) write)
          (unspent trusted memory) (it.answered (trusted1 trusted) cached1))
          (λ trusted memory was.
          unplain_answers setup write old p1 new (asked memory old) fault (unspent trusted memory)
          (it.answered (trusted1 trusted) cached1))
          (λ sound. line_unrefused Line Ctr fault (it.unrefused (fetched.done.gone.sound sound) cached1))
          (line_not_down Ctr fault)
          (λ trusted memory was.
          unplain_steps setup write old p1 new (asked memory old) fault (unspent trusted memory)
          (it.answered (trusted1 trusted) cached1) (path_alone new it.no_steps))
          (λ trusted memory was none. spent_not (TakesSpent setup.shape (outcome_of_fault (fault_of_line fault)) old new) trusted memory none)

      module _ (p2 : Parts) (plain : Line) (made_plain : HasMadePlain setup write p1 p2 (Ok plain)) where
        trusted2 : AreTrusted setup old → AreTrusted setup p2
        trusted2 trusted = made_plain.done.gone.trusted (trusted1 trusted)

        cached2 : IsPathCached setup.shape p2.engine.cache page
        cached2 = subst (λ engine. IsPathCached setup.shape engine.cache page) (sym made_plain.engine) cached1

        ledger2 : p2.ledger ≡ old.ledger
        ledger2 = made_plain.same_ledger (λ e. true≢false (ap is_going e)) ∙ ledger1

        over2 : overflow_of (cached_block setup.shape p2.engine page) page (index_in_page write.at) ≡ Ok overflows
        over2 = search rules

        part2 : IsWritePart setup write.at going [] old p2
        part2 = part_chained setup write.at going [] [] old p1 p2 part1 (plain_part setup write p1 p2 (Ok plain) made_plain)

        steps2 : TakesAtMost path old.device p2.device
        steps2 = path_alone p2 made_plain.no_steps

        -- what it asks for: the finishing, a begin or none, and its own seal
        abbrev front : Memory → List Mark
        front memory = finish_asked overflows setup page p2 memory

        abbrev own : Memory → Mark
        own memory =
            seal_mark setup.formulas write.at (begin_counter overflows setup write.at p2) (put_write (line_at memory write.at) write)

        abbrev rest : Memory → List Mark
        rest memory = begin_asked overflows page ++ own memory ∷ []

        asked2 : AreTrusted setup old → (memory : Memory) → asked memory old ≡ Some (front memory ++ rest memory)
        asked2 trusted memory = search (rules, asked_seal, asked_begin, finish_asked, begin_asked, begin_counter, asked_same, trusted2, cached2, ledger2, over2)

        rest_some : (memory : Memory) → 0 < length (rest memory)
        rest_some memory = omega (arith, length-append (begin_asked overflows page) (own memory ∷ []))

        free : overflows ≡ true → AreTrusted setup p2 → register_held (regs_of p2).progress.items write.at ≡ None
        free is trusted = free_at_overflow setup [] write p2 within trusted cached2 (over2 ∙ ap Ok is)

        bound : (memory : Memory) → seal_count (front memory) ≡ length (front memory)
            → 2 * path + 4 * length (front memory) + begin_steps setup.shape (begin_asked overflows page) + (4 + begun_lines setup.shape)
            ≤ write_bound setup.shape (front memory ++ rest memory)
        bound memory seals =
            bound_whole setup.shape (front memory) overflows page (own memory) seals refl
            (lt-ltb 0 (begin_counter overflows setup write.at p2).minor (begin_minor overflows setup write.at p2))

        -- ---- the page isn't finished

        pub written_unfinished : (new : Parts) (fault : LineFault) → HasFinishedFor overflows setup page p2 new (Err fault)
            → IsWriteEnd setup write old new (Err (fault_of_line fault))
        written_unfinished new fault finished =
            stopped setup write old new it.made (fault_of_line fault)
            (part_chained setup write.at (outcome_of_fault (fault_of_line fault)) [] it.made old p2 new part2 it.part)
            (record {
              path_fetched = λ past. subst (λ engine. IsPathCached setup.shape engine.cache page) (sym it.engine) cached2;
              order = unsealed_order write.at it.made (let few = it.few in omega (arith, few)) it.minors;
              few_steps =
                  more_most (path + 256) most old.device new.device (omega arith)
                  (most_then path 256 old.device p2.device new.device steps2 it.few_steps);
            })
            (λ trusted memory was.
            subst (λ marks. AreMarksOfWrite marks it.made write (Err (fault_of_line fault))) (sym (asked2 trusted memory))
            (unfinished_marks write (front memory) (rest memory) it.made fault (rest_some memory) (marks trusted memory was)))
            (λ trusted memory was.
            subst (λ marks. AnswersWrite setup marks it.made write old new (Err (fault_of_line fault))) (sym (asked2 trusted memory))
            (unfinished_answers setup write old new (front memory) (rest memory) it.made fault (rest_some memory)
            (marks trusted memory was) (it.answered (trusted2 trusted) memory (part2.memory_kept trusted memory was))))
            (λ sound. line_unrefused Unit Ctr fault (it.unrefused (part2.done.gone.sound sound)))
            (line_not_down Ctr fault)
            (λ trusted memory was.
            subst (λ marks. TakesOfWrite setup.shape marks it.made old new (Err (fault_of_line fault))) (sym (asked2 trusted memory))
            (unfinished_steps setup old p2 new (front memory) (rest memory) it.made fault (it.seals memory)
            (omega (arith, bound memory (it.seals memory))) (marks trusted memory was) steps2
            (it.counts (trusted2 trusted) memory (part2.memory_kept trusted memory was))))
            (λ trusted memory was none. spent_not (TakesSpent setup.shape (outcome_of_fault (fault_of_line fault)) old new) trusted memory none)
          where
            it : HasFinishedSome setup write.at front p2 new (Err fault)
            it = finished_for setup write.at p2 new (Err fault) within overflows free finished

            marks : (trusted : AreTrusted setup old) (memory : Memory) → IsMemory setup memory old
                → HasFinishMarks (front memory) it.made (Err fault)
            marks trusted memory was = it.marks (trusted2 trusted) memory (part2.memory_kept trusted memory was)

        module _ (p3 : Parts) (finished : HasFinishedFor overflows setup page p2 p3 (Ok tt)) where
          some3 : HasFinishedSome setup write.at front p2 p3 (Ok tt)
          some3 = finished_for setup write.at p2 p3 (Ok tt) within overflows free finished

          part3 : IsWritePart setup write.at going some3.made old p3
          part3 = part_chained setup write.at going [] some3.made old p2 p3 part2 some3.part

          all3 : AreTrusted setup old → (memory : Memory) → IsMemory setup memory old → some3.made ≡ front memory
          all3 trusted memory was = some3.marks (trusted2 trusted) memory (part2.memory_kept trusted memory was)

          steps3 : AreTrusted setup old → (memory : Memory) → IsMemory setup memory old
              → TakesAtMost (path + 4 * length (front memory)) old.device p3.device
          steps3 trusted memory was =
              subst (λ marks. TakesAtMost (path + 4 * length marks) old.device p3.device) (all3 trusted memory was)
              (most_then path (4 * length some3.made) old.device p2.device p3.device steps2
              (steps_most (4 * length some3.made) p2.device p3.device
              (some3.counts (trusted2 trusted) memory (part2.memory_kept trusted memory was))))

          cache3 : p3.engine.cache ≡ p1.engine.cache
          cache3 = ap (λ engine. engine.cache) (some3.engine ∙ made_plain.engine)

          mirror3 : p3.engine.mirror ≡ old.engine.mirror
          mirror3 = ap (λ engine. engine.mirror) (some3.engine ∙ made_plain.engine) ∙ fetched.mirror

          most3 : TakesAtMost (path + 256) old.device p3.device
          most3 = most_then path 256 old.device p2.device p3.device steps2 some3.few_steps

          -- ---- the path isn't named

          pub written_unnamed : (new : Parts) (cut : Cut) → HasNamedPath setup page p3 new (Err cut)
              → IsWriteEnd setup write old new (Err Fail.Cut)
          written_unnamed new cut it =
              stopped setup write old new (some3.made ++ []) Fail.Cut
              (part_chained setup write.at (outcome_of_fault Fail.Cut) some3.made [] old p3 new part3
              (name_part setup write.at p3 new (Err cut) within it))
              (record {
                path_fetched = λ past. absurd past;
                order =
                    unsealed_order write.at (some3.made ++ [])
                    (let few = some3.few in let both = length-append some3.made [] in omega (arith, few, both))
                    (All-append IsUnderMinorZero some3.made [] some3.minors (All-nil IsUnderMinorZero));
                few_steps =
                    more_most (path + 256 + path) most old.device new.device (omega arith)
                    (most_then (path + 256) path old.device p3.device new.device most3
                    (fewer_most path p3.device new.device it.steps));
              })
              (λ trusted memory was.
              subst (λ marks. AreMarksOfWrite marks (some3.made ++ []) write (Err Fail.Cut)) (sym (asked2 trusted memory))
              (inr (part_of_front (front memory) (rest memory) (some3.made ++ []) (rest_some memory)
              (unnamed_front (front memory) some3.made (all3 trusted memory was)))))
              (λ trusted memory was. tt) (λ sound. tt) (λ is. is)
              (λ trusted memory was.
              subst (λ marks. TakesOfWrite setup.shape marks (some3.made ++ []) old new (Err Fail.Cut)) (sym (asked2 trusted memory))
              (more_fewer (path + 4 * length (front memory) + path) (write_bound setup.shape (front memory ++ rest memory)) old.device new.device
              (omega (arith, bound memory (some3.seals memory)))
              (fewer_then (path + 4 * length (front memory)) path old.device p3.device new.device (steps3 trusted memory was) it.steps)))
              (λ trusted memory was none. spent_not (TakesSpent setup.shape cut_short old new) trusted memory none)

          module _ (p4 : Parts) (named : HasNamedPath setup page p3 p4 (Ok tt)) where
            part4 : IsWritePart setup write.at going some3.made old p4
            part4 =
                subst (λ marks. IsWritePart setup write.at going marks old p4) (append-nil some3.made)
                (part_chained setup write.at going some3.made [] old p3 p4 part3
                (name_part setup write.at p3 p4 (Ok tt) within named))

            steps4 : AreTrusted setup old → (memory : Memory) → IsMemory setup memory old
                → TakesAtMost (path + 4 * length (front memory) + path) old.device p4.device
            steps4 trusted memory was =
                most_then (path + 4 * length (front memory)) path old.device p3.device p4.device (steps3 trusted memory was) named.steps

            most4 : TakesAtMost (path + 256 + path) old.device p4.device
            most4 = most_then (path + 256) path old.device p3.device p4.device most3 named.steps

            -- the next counter is the one that is asked for
            same_counter : (b : Bool) → begin_counter b setup write.at p4 ≡ begin_counter b setup write.at p2
            same_counter b = search rules

            -- ---- the page isn't begun

            unbegun : (new : Parts) → HasBegunSome setup write.at (begin_asked overflows page) (begin_counter overflows setup write.at p4) p4 new (Err Fail.Cut)
                → IsWriteEnd setup write old new (Err Fail.Cut)
            unbegun new it =
                stopped setup write old new (some3.made ++ it.made) Fail.Cut
                (part_chained setup write.at (outcome_of_fault Fail.Cut) some3.made it.made old p4 new part4 it.part)
                (record {
                  path_fetched = λ past. absurd past;
                  order =
                      unsealed_order write.at (some3.made ++ it.made)
                      (let few = some3.few in let one = it.few in let both = length-append some3.made it.made in
                      omega (arith, few, one, both))
                      (All-append IsUnderMinorZero some3.made it.made some3.minors it.minors);
                  few_steps =
                      more_most (path + 256 + path + (2 + begun_lines setup.shape)) most old.device new.device (omega arith)
                      (most_then (path + 256 + path) (2 + begun_lines setup.shape) old.device p4.device new.device most4 it.few_steps);
                })
                (λ trusted memory was.
                subst (λ marks. AreMarksOfWrite marks (some3.made ++ it.made) write (Err Fail.Cut)) (sym (asked2 trusted memory))
                (inr (record {
                  left = it.marks.left ++ own memory ∷ [];
                  front =
                      ap₂ (λ marks begin. marks ++ (begin ++ own memory ∷ [])) (sym (all3 trusted memory was)) it.marks.front
                      ∙ ap (λ marks. some3.made ++ marks) (append_assoc it.made it.marks.left (own memory ∷ []))
                      ∙ sym (append_assoc some3.made it.made (it.marks.left ++ own memory ∷ []));
                  not_all = some_after it.marks.left (own memory) [];
                })))
                (λ trusted memory was. tt) (λ sound. tt) (λ is. is)
                (λ trusted memory was.
                subst (λ marks. TakesOfWrite setup.shape marks (some3.made ++ it.made) old new (Err Fail.Cut)) (sym (asked2 trusted memory))
                (more_fewer (path + 4 * length (front memory) + path + begin_steps setup.shape (begin_asked overflows page))
                (write_bound setup.shape (front memory ++ rest memory)) old.device new.device
                (omega (arith, bound memory (some3.seals memory)))
                (fewer_then (path + 4 * length (front memory) + path) (begin_steps setup.shape (begin_asked overflows page)) old.device p4.device new.device
                (steps4 trusted memory was) it.counts)))
                (λ trusted memory was none. spent_not (TakesSpent setup.shape cut_short old new) trusted memory none)

            unbegun_by : (new : Parts) (fault : Fault)
                → HasBegunSome setup write.at (begin_asked overflows page) (begin_counter overflows setup write.at p4) p4 new (Err fault)
                → IsWriteEnd setup write old new (Err fault)
            unbegun_by new Fail.Cut it = unbegun new it
            unbegun_by new Fail.Down it = absurd it.marks
            unbegun_by new Fail.Shown it = absurd it.marks
            unbegun_by new (Fail.Meta x) it = absurd it.marks
            unbegun_by new (Fail.Tag b) it = absurd it.marks
            unbegun_by new (Fail.Spent spent) it = absurd it.marks

            pub written_unbegun : (new : Parts) (fault : Fault) → HasBegunFor overflows setup page p4 new (Err fault)
                → IsWriteEnd setup write old new (Err fault)
            written_unbegun new fault begun = unbegun_by new fault (begun_for setup write.at p4 new (Err fault) overflows begun)

            module _ (p5 : Parts) (begun : HasBegunFor overflows setup page p4 p5 (Ok tt)) where
              some5 : HasBegunSome setup write.at (begin_asked overflows page) (begin_counter overflows setup write.at p4) p4 p5 (Ok tt)
              some5 = begun_for setup write.at p4 p5 (Ok tt) overflows begun

              -- the marks made before the seal
              abbrev before : List Mark
              before = some3.made ++ some5.made

              part5 : IsWritePart setup write.at going before old p5
              part5 = part_chained setup write.at going some3.made some5.made old p4 p5 part4 some5.part

              steps5 : AreTrusted setup old → (memory : Memory) → IsMemory setup memory old
                  → TakesAtMost (path + 4 * length (front memory) + path + begin_steps setup.shape (begin_asked overflows page)) old.device p5.device
              steps5 trusted memory was =
                  most_then (path + 4 * length (front memory) + path) (begin_steps setup.shape (begin_asked overflows page)) old.device p4.device p5.device
                  (steps4 trusted memory was)
                  (steps_most (begin_steps setup.shape (begin_asked overflows page)) p4.device p5.device some5.counts)

              work5 : IsWriteWorkBefore setup write before old p5
              work5 =
                  worked_before setup write old p1 p2 p3 p4 p5 plain overflows front (begin_counter overflows setup write.at p4) fetched
                  made_plain some3 mirror3 named some5

              abbrev next : Ctr
              next = next_counter_of setup.shape p5.engine write.at

              abbrev seal : Mark
              seal = seal_mark setup.formulas write.at next plain

              plain_is : AreTrusted setup old → (memory : Memory) → IsMemory setup memory old
                  → plain ≡ put_write (line_at memory write.at) write
              plain_is trusted memory was = search rules

              seal_is : AreTrusted setup old → (memory : Memory) → IsMemory setup memory old → seal ≡ own memory
              seal_is trusted memory was =
                  ap₂ (λ ctr line. seal_mark setup.formulas write.at ctr line)
                  (some5.next refl (part4.done.gone.trusted trusted) ∙ same_counter overflows) (plain_is trusted memory was)

              -- the marks asked are those made before, and the seal
              whole : AreTrusted setup old → (memory : Memory) → IsMemory setup memory old
                  → before ++ seal ∷ [] ≡ front memory ++ rest memory
              whole trusted memory was = search (rules, append_assoc, begin_asked, some3, all3, some5, seal_is)

              pub written_sealed : (new : Parts) (answer : Result Ctr Cut) → HasSealedNext setup write.at plain p5 new answer
                  → IsWriteEnd setup write old new (of_cut answer)
              written_sealed new answer it =
                  written_with_seal setup write within old p5 new plain before part5 (λ memory. front memory ++ rest memory)
                  (λ memory. path + 4 * length (front memory) + path + begin_steps setup.shape (begin_asked overflows page)) asked2 plain_is whole steps5
                  (λ memory. omega (arith, bound memory (some3.seals memory)))
                  (λ trusted short.
                  held_back setup going [] old p2 part2.done trusted write.at within refl
                  ((made_plain.answered (trusted1 trusted) cached1).1 short))
                  (let few = some3.few in let one = some5.few in let both = length-append some3.made some5.made in
                  omega (arith, few, one, both))
                  (All-append IsUnderMinorZero some3.made some5.made some3.minors some5.minors)
                  (more_most (path + 256 + path + (2 + begun_lines setup.shape)) (2 * path_length setup.shape + 258 + begun_lines setup.shape)
                  old.device p5.device (omega arith)
                  (most_then (path + 256 + path) (2 + begun_lines setup.shape) old.device p4.device p5.device most4 some5.few_steps))
                  work5 answer it
