-- The ends of a seal under the next counter: its tag line isn't read, its group is cut, or the line is sealed.
use Rattle.std.proofs.Common.{rules, ℕ, ◌≡◌, ◌≢◌, ◌<◌, ◌≤◌, ◌+◌, ◌%◌, ◌++◌, inl, inr, Bool, false, List, [], ◌∷◌, length, Some, Result, Ok, Err, refl, sym, ap, subst, subst₂, ◌∙◌, arith}
use Rattle.std.specs.Prelude.{option_map, if◌then◌else◌}
use Rattle.std.proofs.lemmas.Bool.{true≢false, cond-true, cond-false}
use Rattle.pmem_base.specs.declared.faults.Cut.{Cut}
use Rattle.pmem_base.specs.declared.lines.Line.{Line}
use Rattle.pmem_base.specs.declared.lines.Ctr.{Ctr}
use Rattle.pmem_base.specs.declared.answers.Mark.{Mark}
use Rattle.pmem_base.specs.declared.answers.Mark.TheVariants.{Seal}
use Rattle.pmem_base.specs.Counts.{risen, risen_times}
use Rattle.pmem_base.specs.declared.registers.Regs.{Regs}
use Rattle.pmem_base.specs.Shape.{Shape}
use Rattle.pmem_base.specs.Layout as layout
use Rattle.pmem_base.specs.Layout.{page_of, index_in_page}
use Rattle.pmem_base.specs.Lines.{IsLine, IsCtr, line_at}
use Rattle.suite.specs.Formulas.{AreInRange}
use Rattle.suite.specs.Setup.{Setup}
use Rattle.split_counters.specs.Blocks.{packed, minor_of}
use Rattle.bonsai_tree.specs.Positions.{counter_position, level_of}
use Rattle.bonsai_tree.proofs.Levels.{counter_position-lt}
use Rattle.board.proofs.CountLemmas.{RisesBy-once, HasRisen-once}
use Rattle.board.specs.Counts.{RisesBy}
use Rattle.board.specs.Device.{Device, IsDevice}
use Rattle.board.specs.Steps.{HasRead, HasLatched, WasCut, Tells}
use Rattle.call_plan.specs.Plans.{mapped_end}
use Rattle.commit_regs.specs.Groups.{IsInterrupted, redone_told}
use Rattle.seal_ledger.specs.Ledger.{LedgerState}
use Rattle.meta_path.specs.Blocks.{IsPathCached, AreCachedTrue}
use Rattle.meta_path.specs.Work.{told_line}
use Rattle.meta_path.specs.Storing.{IsRenewed, new_line}
use Rattle.meta_path.proofs.StoreLemmas.{length-path_lines}
use Rattle.plain_model.specs.View.{plain_line}
use Rattle.plain_model.specs.Bounds.{path_length, begun_lines}
use Rattle.pmem_engine.specs.declared.resealing.NextSeal.{NextSeal}
use Rattle.pmem_engine.specs.Engine.{ChipState}
use Rattle.pmem_engine.specs.Invariants.{IsTrusted}
use Rattle.pmem_engine.specs.Parts.{Parts, parts_with, regs_of, lines_redone, AreTrusted}
use Rattle.call_effects.specs.Outcomes.{going, cut_short}
use Rattle.pmem_engine.specs.Outcomes.{is_sealed_by, NeverFalls, OneLossEffect, TakesSteps, TakesFewer}
use Rattle.pmem_engine.specs.CallFacts.{IsUsableWith, IsPathNamedInMirror, KeepsButPath, grouped_lines, is_grouped}
use Rattle.pmem_engine.specs.Committing.{next_seal_of, HasCommitted}
use Rattle.pmem_engine.specs.Inner.{cached_block}
use Rattle.pmem_engine.specs.Sealing.{next_counter_of, raised_block, seal_steps, seal_group, HasPathSealed, HasSealEnded, HasNextMarks, HasSealedNext}
use Rattle.pmem_engine.proofs.CallEnds.CallChains.{done_chained}
use Rattle.pmem_engine.proofs.Laws.PlainLines.{plain_line-sealed, plain_line-other}
use Rattle.pmem_engine.proofs.CheckedReads.UnsealedLines.{risen_never_falls}
use Rattle.pmem_engine.proofs.Laws.PolicyBounds.{begun_most, grouped_persist, grouped_few, grouped_none, length-path_entries}
use Rattle.pmem_engine.proofs.Laws.PathEntries.{block_grouped}
use Rattle.pmem_engine.proofs.Laws.DeviceRegions.{page_within}
use Rattle.pmem_engine.proofs.Laws.DeviceSteps.{sealed_here, unsealed_other}
use Rattle.pmem_engine.proofs.Seals.NextPaths.{times_never_fall}
use Rattle.pmem_engine.proofs.Seals.KeptSlots.{kept_same}
use Rattle.pmem_engine.proofs.Seals.StoredPaths.{block_clean, kept_named}
use Rattle.pmem_engine.proofs.CallEnds.MetaLines.{committed_at, seal_off_meta}
use Rattle.pmem_engine.proofs.Seals.GroupCommits.{IsCommit, written_true, comes_committed, done_committed, done_cut}
use Rattle.pmem_engine.proofs.Seals.PathSeals.{IsPathSealing, sealing}

-- it was cut
seal_stopped : (setup : Setup) (at : ℕ) (plain : Line) (old new : Parts) (made : List Mark) (cut : Cut)
    → OneLossEffect setup cut_short made old new
    → HasNextMarks setup.formulas at (next_counter_of setup.shape old.engine at) plain made (Err cut)
    → ((a : ℕ) → plain_line setup.formulas new.ledger.marks a
    ≡ (if is_sealed_by made a then Some plain else plain_line setup.formulas old.ledger.marks a))
    → TakesFewer (seal_steps setup.shape (regs_of old).loss (next_counter_of setup.shape old.engine at)) old.device new.device
    → KeepsButPath setup.shape (page_of at) old.engine.cache new.engine.cache → HasSealedNext setup at plain old new (Err cut)
seal_stopped setup at plain old new made cut done marks plain_now steps cache =
    record {
      made = made;
      done = done;
      marks = marks;
      plain_now = plain_now;
      path_cached = λ ok. absurd (true≢false (sym ok));
      path_named = λ ok. absurd (true≢false (sym ok));
      steps = steps;
      work = tt;
      cache = cache;
      meta_lines = λ ok. absurd (true≢false (sym ok));
      block_written = λ trusted ok. absurd (true≢false (sym ok));
    }

module _ (setup : Setup) (at : ℕ) (plain : Line) (engine : ChipState) (old : Device) (before : LedgerState) (tags digests : ℕ)
    (usable : IsUsableWith setup.shape false old before) where
  abbrev start : Parts
  start = parts_with engine old before tags digests

  -- its tag line wasn't read
  pub seal_unread : (new : Device) (tags_now digests_now : ℕ) → tags_now ≡ tags → NeverFalls digests digests_now → (cut : Cut) → WasCut old new
      → 4 ≤ seal_steps setup.shape old.regs.loss (next_counter_of setup.shape engine at)
      → HasSealedNext setup at plain start (parts_with engine new before tags_now digests_now) (Err cut)
  seal_unread new tags_now digests_now same_tags never_digests cut was some =
      seal_stopped setup at plain start (parts_with engine new before tags_now digests_now) [] cut (search (rules, HasRisen-once)) (inl refl)
      (λ a. refl) (search rules) (kept_same setup.shape (page_of at) engine.cache engine.cache refl)

-- how many steps
pub some_steps : (g : Shape) (loss : ℕ) (ctr : Ctr) → 4 ≤ seal_steps g loss ctr
some_steps g loss ctr = omega arith

module _ (setup : Setup) (at : ℕ) (plain tag_line : Line) (grouped : ℕ) (engine engine_now : ChipState) (old mid new : Device)
    (before after : LedgerState) (tags digests tags_now digests_now : ℕ) (lines : List (ℕ × Line)) (root : List ℕ)
    (usable : IsUsableWith setup.shape false old before) (few : setup.shape.levels ≤ 6)
    (in_range : AreInRange setup.formulas) (inside : at < layout.data_lines setup.shape) (whole : IsLine plain)
    (cached : IsPathCached setup.shape engine.cache (page_of at)) (named : IsPathNamedInMirror setup.shape engine (page_of at))
    (minor_low : minor_of (cached_block setup.shape engine (page_of at)) (index_in_page at) < 127)
    (is_ctr : IsCtr (next_counter_of setup.shape engine at))
    (renewed : (truth : List Line) → AreCachedTrue engine.cache truth
    → IsRenewed setup.shape setup.formulas truth (page_of at) (packed (raised_block setup.shape engine at)) lines root)
    (read : HasRead old (layout.tag_line setup.shape at) tag_line mid)
    (grouping : grouped ≡ grouped_lines setup.shape old.regs.loss (next_counter_of setup.shape engine at).minor)
    (policy : setup.shape.persist ≤ setup.shape.levels + 1)
    (more_tags : tags_now ≡ risen tags) (more_digests : digests_now ≡ risen_times (path_length setup.shape) digests)
    (device : IsDevice mid) where
  abbrev first : Parts
  first = parts_with engine old before tags digests

  abbrev middle : Parts
  middle = parts_with engine mid before tags digests

  abbrev final : Parts
  final = parts_with engine_now new after tags_now digests_now

  abbrev ctr : Ctr
  ctr = next_counter_of setup.shape engine at

  abbrev next : NextSeal
  next = next_seal_of setup.formulas at ctr plain tag_line

  abbrev mark : Mark
  mark = Seal next.at next.ctr next.cipher next.tag

  abbrev group : List (ℕ × Line)
  group = seal_group setup.shape next grouped lines

  abbrev position : ℕ
  position = counter_position setup.shape (page_of at)

  was_unarmed : old.regs.group.items ≡ []
  was_unarmed = usable.ready.no_group refl

  mid_unarmed : mid.regs.group.items ≡ []
  mid_unarmed = ap (λ regs. regs.group.items) read.regs ∙ was_unarmed

  mid_size : mid.size ≡ layout.device_lines setup.shape
  mid_size = read.size ∙ usable.ready.its_size

  never_tags : NeverFalls tags tags_now
  never_tags = subst (NeverFalls tags) (sym more_tags) (risen_never_falls tags)

  never_digests : NeverFalls digests digests_now
  never_digests = subst (NeverFalls digests) (sym more_digests) (times_never_fall (path_length setup.shape) digests)

  -- the tag line was read, no more
  was_read : OneLossEffect setup going [] first middle
  was_read = search rules

  enough : setup.shape.persist ≤ grouped
  enough = omega (arith, grouping, grouped_persist setup.shape old.regs.loss ctr.minor)

  few_grouped : grouped ≤ begun_lines setup.shape
  few_grouped = omega (arith, grouping, grouped_few setup.shape old.regs.loss ctr.minor)

  -- a seal whose block isn't in the group has a minor that the number doesn't divide
  rest : grouped ≡ 0 → ctr.minor % old.regs.loss ≢ 0
  rest none = grouped_none setup.shape old.regs.loss ctr.minor (sym grouping ∙ none)

  -- the plain lines
  plain_after : after.marks ≡ before.marks ++ mark ∷ [] → (a : ℕ)
      → plain_line setup.formulas after.marks a
      ≡ (if is_sealed_by (mark ∷ []) a then Some plain else plain_line setup.formulas before.marks a)
  plain_after marks a = search (rules, cond-true, cond-false, plain_line-sealed, plain_line-other, sealed_here, unsealed_other)

  -- the metadata lines in the group
  abbrev written : ℕ → Bool
  written = is_grouped setup.shape (page_of at) grouped

  abbrev entry : ℕ → Line
  entry x = new_line lines (level_of x)

  module _ (done : HasPathSealed setup.shape next grouped lines root engine engine_now mid.regs new.regs before after) where
    is_sealing : IsPathSealing setup at tag_line grouped lines root engine mid
    is_sealing =
        record {
          path =
              record { few = few; in_range = in_range; inside = page_inside; cached = cached; named = named; renewed = renewed };
          its_line = inside;
          low = minor_low;
          tag_line_read = told_tag;
          enough = enough;
          few = few_grouped;
          rest = λ none. subst (λ (regs : Regs). ctr.minor % regs.loss ≢ 0) (sym read.regs) (rest none);
          unarmed = mid_unarmed;
          whole = device;
          size = mid_size;
        }
      where
        page_inside : page_of at < layout.pages setup.shape
        page_inside = page_within setup.shape at inside

        told_tag : Tells mid.lines (layout.tag_line setup.shape at) tag_line
        told_tag = search rules

    commit : IsCommit setup group mark written entry middle final
    commit =
        sealing setup at plain tag_line grouped lines root engine engine_now mid new before after tags digests tags_now digests_now
        is_sealing done never_tags never_digests

    trusted_mid : AreTrusted setup first → IsTrusted setup engine mid.regs before
    trusted_mid trusted = was_read.gone.trusted trusted

    -- how many lines the group has
    count : length group ≡ 2 + grouped
    count =
        let rest =
        length-path_entries setup.shape grouped lines (length-path_lines setup.shape (page_of at) lines done.stored.path)
        (omega (arith, few_grouped, begun_most setup.shape policy)) in
        omega (arith, rest)

    steps_are : seal_steps setup.shape old.regs.loss ctr ≡ length group + 2
    steps_are = omega (arith, count, grouping)

    took : HasCommitted group mid new → TakesSteps (seal_steps setup.shape old.regs.loss ctr) old new
    took finished =
        record {
          writes = omega (arith, read.writes, finished.writes.never_falls);
          latches = omega (arith, read.latches, finished.latches.never_falls);
          sum = λ writes latches.
              omega (arith, steps_are, finished.writes.exact writes, finished.latches.exact latches, read.writes, read.latches);
        }

    fewer_while_armed : {between : Device} → HasLatched mid new.regs between → new.regs.group.items ≡ group
        → IsInterrupted group between new → TakesFewer (seal_steps setup.shape old.regs.loss ctr) old new
    fewer_while_armed latched armed was =
        record {
          writes = omega (arith, read.writes, latched.writes, was.writes.never_falls);
          latches = omega (arith, read.latches, latched.latches.never_falls, was.latches);
          sum = λ writes latches.
              let one = (RisesBy-once latched.latches).exact (omega (arith, latches, was.latches)) in
              omega (arith, steps_are, was.writes.bound writes, latched.writes, read.writes, was.latches, read.latches, one);
        }

    -- cut while its group was armed
    seal_cut : (cut : Cut) → IsDevice new → (between : Device) → HasLatched mid new.regs between → new.regs.group.items ≡ group
        → IsInterrupted group between new → HasSealedNext setup at plain first final (Err cut)
    seal_cut cut device_now between latched armed was =
        seal_stopped setup at plain first final (mark ∷ []) cut
        (done_chained setup cut_short [] (mark ∷ []) first middle final was_read
        (done_cut setup group mark written entry middle final commit between latched armed was device_now))
        (inr refl) (plain_after done.noted.marks) (fewer_while_armed latched armed was) done.stored.kept

    -- sealed
    seal_done : HasCommitted group mid new → HasSealedNext setup at plain first final (Ok ctr)
    seal_done finished =
        record {
          made = mark ∷ [];
          done =
              done_chained setup going [] (mark ∷ []) first middle final was_read
              (done_committed setup group mark written entry middle final commit finished);
          marks = (refl, refl);
          plain_now = plain_after done.noted.marks;
          path_cached = λ ok. done.stored.cached;
          path_named = λ ok. path_named;
          steps = took finished;
          work =
              record {
                reads = subst (λ count. RisesBy 1 old.reads count) (sym finished.reads) (RisesBy-once read.reads);
                no_read = λ none. absurd (omega (arith, none));
                writes =
                    subst₂ (λ n count. RisesBy n count new.writes)
                    (count ∙ ap (λ n. 2 + n) grouping) read.writes finished.writes;
                no_write = λ none. absurd (omega (arith, none));
                latches = subst (λ count. RisesBy 2 count new.latches) read.latches finished.latches;
                no_latch = λ none. absurd (omega (arith, none));
                tags = more_tags;
                digests = more_digests;
              };
          cache = done.stored.kept;
          meta_lines =
              λ ok x within apart.
              committed_at group mid new (layout.meta_line setup.shape x)
              (seal_off_meta setup.shape next grouped lines done.stored.path few few_grouped x inside apart) finished
              ∙ ap (λ told. told_line told (layout.meta_line setup.shape x)) read.lines;
          block_written =
              λ trusted ok some.
              record {
                line =
                    written_true setup group mark written entry middle final commit comes (trusted_mid trusted) position
                    (counter_position-lt setup.shape (page_of at) (page_within setup.shape at inside))
                    (block_grouped setup.shape (page_of at) grouped few (page_within setup.shape at inside) (some_grouped some))
                    ∙ ap (option_map (λ ls. line_at after.truth position)) (comes ∙ sym finished.lines);
                clean =
                    block_clean setup (page_of at) (raised_block setup.shape engine at) lines root mark grouped engine engine_now
                    mid.regs before after is_sealing.path done.stored done.noted (trusted_mid trusted) enough (some_grouped some);
              };
        }
      where
        some_grouped : 0 < grouped_lines setup.shape old.regs.loss ctr.minor → 1 ≤ grouped
        some_grouped some = omega (arith, grouping, some)

        comes : lines_redone final ≡ redone_told group mid.lines
        comes = comes_committed setup group mark written entry middle final commit finished

        path_named : IsPathNamedInMirror setup.shape engine_now (page_of at)
        path_named = kept_named setup.shape (page_of at) grouped lines engine engine_now done.stored cached named

  -- a cut before its group was armed
  seal_undone : (cut : Cut) → WasCut mid new → engine_now ≡ engine → after ≡ before → HasSealedNext setup at plain first final (Err cut)
  seal_undone cut was same told =
      seal_stopped setup at plain first final [] cut (search (rules, never_digests)) (inl refl)
      (λ a. ap (λ ledger. plain_line setup.formulas ledger.marks a) told) (search rules)
      (kept_same setup.shape (page_of at) engine.cache engine_now.cache (ap (λ (e : ChipState). e.cache) same))

  -- however it ended
  pub seal_ended : IsDevice new → (end : Result (Unit {0}) Cut)
      → HasSealEnded setup.shape next grouped lines root engine engine_now mid new before after end
      → HasSealedNext setup at plain first final (mapped_end (λ cut. cut) (λ value. ctr) end)
  seal_ended whole_now (Ok value) was = seal_done was.1 was.0
  seal_ended whole_now (Err cut) (inl was) = seal_undone cut was.0 was.1.0 was.1.1
  seal_ended whole_now (Err cut) (inr was) = seal_cut was.4 cut whole_now was.0 was.1 was.2 was.3
