-- The ends of a page's begin: cut before its group was armed, or while it was, or done.
use Rattle.std.proofs.Common.{rules, ℕ, ◌≡◌, ◌<◌, ◌≤◌, ◌+◌, ◌-◌, ◌^◌, inl, inr, Bool, false, List, [], ◌∷◌, length, None, Result, Ok, Err, refl, sym, ap, subst, ◌∙◌, arith}
use Rattle.std.specs.Prelude.{option_map}
use Rattle.std.proofs.lemmas.Bool.{true≢false}
use Rattle.pmem_base.specs.declared.faults.Cut.{Cut}
use Rattle.pmem_base.specs.declared.lines.Line.{Line}
use Rattle.pmem_base.specs.declared.registers.Progress.{Progress}
use Rattle.pmem_base.specs.declared.answers.Mark.{Mark}
use Rattle.pmem_base.specs.declared.answers.Mark.TheVariants.{Begin}
use Rattle.pmem_base.specs.Counts.{risen_times}
use Rattle.pmem_base.specs.Layout as layout
use Rattle.pmem_base.specs.Lines.{line_at}
use Rattle.suite.specs.Formulas.{AreInRange}
use Rattle.suite.specs.Setup.{Setup}
use Rattle.split_counters.specs.Blocks.{packed, next_block, IsBlock}
use Rattle.bonsai_tree.specs.Positions.{counter_position, level_of}
use Rattle.bonsai_tree.proofs.Levels.{counter_position-lt}
use Rattle.board.specs.Counts.{RisesBy}
use Rattle.board.proofs.CountLemmas.{RisesBy-once}
use Rattle.board.specs.Device.{Device, IsDevice}
use Rattle.board.specs.Steps.{HasLatched, WasCut}
use Rattle.commit_regs.specs.Groups.{IsInterrupted, redone_told}
use Rattle.page_reencrypt.specs.Registers.{register_of, begun}
use Rattle.seal_ledger.specs.Ledger.{LedgerState}
use Rattle.meta_path.specs.Blocks.{IsPathCached, AreCachedTrue}
use Rattle.meta_path.specs.Storing.{IsRenewed, new_line}
use Rattle.meta_path.proofs.StoreLemmas.{length-path_lines}
use Rattle.plain_model.specs.Bounds.{path_length, begun_lines}
use Rattle.pmem_engine.specs.declared.fault.Fault.TheVariants as Fail
use Rattle.pmem_engine.specs.Engine.{ChipState}
use Rattle.pmem_engine.specs.Parts.{Parts, parts_with, lines_redone}
use Rattle.call_effects.specs.Outcomes.{going, cut_short}
use Rattle.pmem_engine.specs.Outcomes.{of_cut, NeverFalls, OneLossEffect, TakesSteps, TakesFewer}
use Rattle.pmem_engine.specs.CallFacts.{IsUsableWith, IsPathNamedInMirror, KeepsButPath, is_grouped}
use Rattle.pmem_engine.specs.Committing.{HasCommitted}
use Rattle.pmem_engine.specs.Inner.{cached_block}
use Rattle.pmem_engine.specs.Sealing.{begin_group, HasPageBegun, HasBeginEnded, HasBeginMarks, HasBegunPage}
use Rattle.pmem_engine.proofs.CallEnds.ExactWork.{still_rise}
use Rattle.pmem_engine.proofs.Laws.PolicyBounds.{begun_some, begun_persist, begun_most, length-path_entries}
use Rattle.pmem_engine.proofs.Laws.PathEntries.{block_grouped}
use Rattle.pmem_engine.proofs.Seals.NextPaths.{times_never_fall}
use Rattle.pmem_engine.proofs.Seals.KeptSlots.{kept_same}
use Rattle.pmem_engine.proofs.Seals.StoredPaths.{cached_lines_true, block_clean, kept_named}
use Rattle.pmem_engine.proofs.CallEnds.MetaLines.{committed_at, begin_off_meta}
use Rattle.pmem_engine.proofs.Seals.BegunBlocks.{rolled_block}
use Rattle.pmem_engine.proofs.Seals.GroupCommits.{IsCommit, written_true, comes_committed, done_committed, done_cut}
use Rattle.pmem_engine.proofs.Seals.PathBegins.{IsBeginning, beginning}

module _ (setup : Setup) (page : ℕ) (engine engine_now : ChipState) (old new : Device) (before after : LedgerState)
    (tags digests tags_now digests_now : ℕ) (lines : List (ℕ × Line)) (root : List ℕ)
    (usable : IsUsableWith setup.shape false old before) (few : setup.shape.levels ≤ 6)
    (in_range : AreInRange setup.formulas) (inside : page < layout.pages setup.shape)
    (cached : IsPathCached setup.shape engine.cache page) (named : IsPathNamedInMirror setup.shape engine page)
    (closed : register_of old.regs.progress.items page ≡ None)
    (major : (cached_block setup.shape engine page).major < 2 ^ 64 - 1) (policy : setup.shape.persist ≤ setup.shape.levels + 1)
    (valid : IsBlock (cached_block setup.shape engine page))
    (renewed : (truth : List Line) → AreCachedTrue engine.cache truth
    → IsRenewed setup.shape setup.formulas truth page (packed (next_block (cached_block setup.shape engine page))) lines root)
    (same_tags : tags_now ≡ tags) (more_digests : digests_now ≡ risen_times (path_length setup.shape) digests) where
  abbrev start : Parts
  start = parts_with engine old before tags digests

  abbrev final : Parts
  final = parts_with engine_now new after tags_now digests_now

  abbrev old_block : Line
  old_block = packed (cached_block setup.shape engine page)

  abbrev register : Progress
  register = begun page old_block

  abbrev group : List (ℕ × Line)
  group = begin_group setup.shape lines

  -- the metadata lines in it
  abbrev written : ℕ → Bool
  written = is_grouped setup.shape page (begun_lines setup.shape)

  abbrev entry : ℕ → Line
  entry x = new_line lines (level_of x)

  abbrev position : ℕ
  position = counter_position setup.shape page

  never_tags : NeverFalls tags tags_now
  never_tags within = (omega (arith, same_tags, within), omega (arith, same_tags, within))

  never_digests : NeverFalls digests digests_now
  never_digests = subst (NeverFalls digests) (sym more_digests) (times_never_fall (path_length setup.shape) digests)

  unarmed : old.regs.group.items ≡ []
  unarmed = usable.ready.no_group refl

  -- it was cut
  begin_stopped : (made : List Mark) → OneLossEffect setup cut_short made start final → HasBeginMarks page made (Err Fail.Cut)
      → TakesFewer (2 + begun_lines setup.shape) old new → KeepsButPath setup.shape page engine.cache engine_now.cache → new.reads ≡ old.reads
      → HasBegunPage setup page start final (Err Fail.Cut)
  begin_stopped made done marks steps cache reads =
      record {
        made = made;
        done = done;
        marks = marks;
        opened = λ ok. absurd (true≢false (sym ok));
        steps = steps;
        work = λ ok. absurd (true≢false (sym ok));
        cache = cache;
        meta_lines = λ ok. absurd (true≢false (sym ok));
        reads = reads;
        tags = same_tags;
      }

  -- before its group was armed
  begin_undone : WasCut old new → engine_now ≡ engine → after ≡ before → HasBegunPage setup page start final (Err Fail.Cut)
  begin_undone was same told =
      begin_stopped [] (search (rules, never_digests)) (inl refl) (search rules)
      (kept_same setup.shape page engine.cache engine_now.cache (ap (λ (e : ChipState). e.cache) same)) was.reads

  module _ (done : HasPageBegun setup.shape page register lines root engine engine_now old.regs new.regs before after) where
    is_beginning : IsDevice old → IsBeginning setup page lines root engine old
    is_beginning whole = search (rules, unarmed)

    commit : IsDevice old → IsCommit setup group (Begin page) written entry start final
    commit whole =
        beginning setup page lines root engine engine_now old new before after tags digests tags_now digests_now (is_beginning whole)
        done never_tags never_digests

    -- how many lines the group has
    count : length group ≡ begun_lines setup.shape
    count =
        length-path_entries setup.shape (begun_lines setup.shape) lines (length-path_lines setup.shape page lines done.stored.path)
        (begun_most setup.shape policy)

    took : HasCommitted group old new → TakesSteps (2 + begun_lines setup.shape) old new
    took finished =
        record {
          writes = finished.writes.never_falls;
          latches = finished.latches.never_falls;
          sum = λ writes latches. omega (arith, count, finished.writes.exact writes, finished.latches.exact latches);
        }

    fewer_while_armed : {mid : Device} → HasLatched old new.regs mid → IsInterrupted group mid new
        → TakesFewer (2 + begun_lines setup.shape) old new
    fewer_while_armed latched was =
        record {
          writes = omega (arith, latched.writes, was.writes.never_falls);
          latches = omega (arith, latched.latches.never_falls, was.latches);
          sum = λ writes latches.
              let one = (RisesBy-once latched.latches).exact (omega (arith, latches, was.latches)) in
              omega (arith, count, was.writes.bound writes, latched.writes, was.latches, one);
        }

    -- while it was
    begin_cut : IsDevice old → IsDevice new → (mid : Device) → HasLatched old new.regs mid
        → new.regs.group.items ≡ group → IsInterrupted group mid new
        → HasBegunPage setup page start final (Err Fail.Cut)
    begin_cut whole whole_now mid latched armed was =
        begin_stopped (Begin page ∷ [])
        (done_cut setup group (Begin page) written entry start final (commit whole) mid latched armed was whole_now)
        (inr refl) (fewer_while_armed latched was) done.stored.kept (was.reads ∙ latched.reads)

    -- done
    begin_done : IsDevice old → HasCommitted group old new
        → HasBegunPage setup page start final (Ok tt)
    begin_done whole finished =
        record {
          made = Begin page ∷ [];
          done = it_is;
          marks = refl;
          opened =
              λ ok.
              record {
                registers = done.progress;
                block =
                    λ trusted.
                    rolled_block setup.shape setup.formulas (line_at before.truth) page lines engine engine_now done.stored major
                    (renewed before.truth (cached_lines_true setup.shape engine.cache before.truth trusted.cached_true)).lines;
                block_true =
                    λ trusted.
                    record {
                      line =
                          written_true setup group (Begin page) written entry start final (commit whole) comes trusted position
                          (counter_position-lt setup.shape page inside)
                          (block_grouped setup.shape page (begun_lines setup.shape) few inside (begun_some setup.shape))
                          ∙ ap (option_map (λ ls. line_at after.truth (counter_position setup.shape page))) (comes ∙ sym finished.lines);
                      clean =
                          block_clean setup page (next_block (cached_block setup.shape engine page)) lines root (Begin page)
                          (begun_lines setup.shape) engine engine_now old.regs before after (is_beginning whole).path done.stored
                          done.noted trusted (begun_persist setup.shape) (begun_some setup.shape);
                    };
                path_cached = done.stored.cached;
                path_named = path_named;
              };
          steps = took finished;
          work =
              λ ok.
              record {
                reads = still_rise 0 old.reads new.reads refl finished.reads;
                no_read = λ none. finished.reads;
                writes =
                    subst (λ n. RisesBy n old.writes new.writes) (count ∙ omega arith) finished.writes;
                no_write = λ none. absurd (omega (arith, none, begun_some setup.shape));
                latches = finished.latches;
                no_latch = λ none. absurd (omega (arith, none));
                tags = same_tags;
                digests = more_digests ∙ ap (λ n. risen_times n digests) (omega arith);
              };
          cache = done.stored.kept;
          meta_lines =
              λ ok x within apart.
              committed_at group old new (layout.meta_line setup.shape x)
              (begin_off_meta setup.shape page lines done.stored.path few x apart) finished;
          reads = finished.reads;
          tags = same_tags;
        }
      where
        it_is : OneLossEffect setup going (Begin page ∷ []) start final
        it_is =
            done_committed setup group (Begin page) written entry start final (commit whole) finished

        comes : lines_redone final ≡ redone_told group old.lines
        comes =
            comes_committed setup group (Begin page) written entry start final (commit whole) finished

        path_named : IsPathNamedInMirror setup.shape engine_now page
        path_named = kept_named setup.shape page (begun_lines setup.shape) lines engine engine_now done.stored cached named

  -- however it ended
  pub begin_ended : IsDevice old → IsDevice new → (end : Result (Unit {0}) Cut)
      → HasBeginEnded setup.shape page register lines root engine engine_now old new before after end
      → HasBegunPage setup page start final (of_cut end)
  begin_ended whole whole_now (Ok value) was = begin_done was.1 whole was.0
  begin_ended whole whole_now (Err cut) (inl was) = begin_undone was.0 was.1.0 was.1.1
  begin_ended whole whole_now (Err cut) (inr was) = begin_cut was.4 whole whole_now was.0 was.1 was.2 was.3
