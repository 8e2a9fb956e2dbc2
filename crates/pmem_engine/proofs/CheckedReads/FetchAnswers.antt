-- What a fetch answers, by its end.
use Rattle.std.proofs.Common.{rules, ℕ, ◌≡◌, ◌<◌, ◌≤◌, ◌+◌, true, false, Option, Some, None, Ok, Err, refl, sym, ap, subst, ◌∙◌}
use Rattle.std.proofs.lemmas.Bool.{true≢false}
use Rattle.pmem_base.specs.declared.lines.Line.{Line}
use Rattle.pmem_base.specs.declared.answers.Exhibit.{Exhibit}
use Rattle.pmem_base.specs.declared.answers.Exhibit.TheVariants.{Clash}
use Rattle.pmem_base.specs.Layout as layout
use Rattle.pmem_base.specs.Lines.{line_at, zero_line}
use Rattle.bonsai_tree.specs.Positions.{level_of}
use Rattle.bonsai_tree.proofs.PathPositions.{path_of-at, path_position-on_path}
use Rattle.board.specs.Device.{Device}
use Rattle.board.specs.Steps.{Tells}
use Rattle.seal_ledger.specs.Ledger.{LedgerState}
use Rattle.seal_ledger.specs.Notes.{first_exhibit}
use Rattle.meta_cache.specs.Banks.{is_cached}
use Rattle.meta_path.specs.Blocks.{path_at, IsPathCached, AreCachedTrue, dirty_count}
use Rattle.meta_path.specs.Fetching.{IsFetchedTo, IsCutAt, IsRefusedAt, IsShownAt}
use Rattle.meta_path.specs.Keeping.{KeepsBlocks, IsTrueTree, HasFalseDigest, HasClash}
use Rattle.meta_path.proofs.PathFacts.{path_at-level, path_at-lt}
use Rattle.meta_path.specs.declared.faults.PathFault.TheVariants as Path
use Rattle.suite.specs.Setup.{Setup}
use Rattle.pmem_engine.specs.Engine.{ChipState}
use Rattle.pmem_engine.specs.declared.fault.Fault.TheVariants as Fail
use Rattle.pmem_engine.specs.Invariants.{IsSound}
use Rattle.pmem_engine.specs.Parts.{Parts, parts_with, AreTrusted, AreSound}
use Rattle.pmem_engine.specs.Faults.{IsFetchedLine, IsClashShown}
use Rattle.pmem_engine.specs.CallFacts.{IsForgedExhibit, IsPastFetch}
use Rattle.pmem_engine.specs.Inner.{HasFetched}
use Rattle.call_effects.proofs.ToldLines.{told_gives}
use Rattle.pmem_engine.proofs.CheckedReads.PathCosts.{length_spilled}
use Rattle.pmem_engine.proofs.CheckedReads.FetchEnds.{IsFetchOver, done_going, done_cut, done_shown, few_steps, dirty_steps, fewer_dirty_steps, read_is_true, read_was_there}
use Rattle.call_effects.proofs.ResultLaws.{none_is}

-- what a shown clash names
abbrev shown_position : Option Exhibit → ℕ
shown_position (Some (Clash x first second)) = x
shown_position shown = 0

abbrev shown_line : Option Exhibit → Line
shown_line (Some (Clash x first second)) = first
shown_line shown = zero_line

-- ---- the answers

module _ (setup : Setup) (page : ℕ) (old new : ChipState) (ledger noted : LedgerState) (before after : Device)
    (tags digests tags_now digests_now : ℕ)
    (its_page : page < layout.pages setup.shape) (few_levels : setup.shape.levels ≤ 6)
    (its_size : before.size ≡ layout.device_lines setup.shape)
    (shape : new.shape ≡ old.shape) (mirror : new.mirror ≡ old.mirror)
    (same_tags : tags_now ≡ tags)
    (over : IsFetchOver before after digests digests_now ledger noted)
    (keeps : KeepsBlocks setup.shape ledger.truth page old.cache new.cache before after) where
  abbrev start : Parts
  start = parts_with old before ledger tags digests

  abbrev finish : Parts
  finish = parts_with new after noted tags_now digests_now

  -- the path was fetched
  pub fetched_ok : IsPathCached setup.shape new.cache page → noted ≡ ledger
      → IsFetchedTo setup.shape setup.formulas ledger.truth page (setup.shape.levels + 1)
      (record { cache = record { shape = setup.shape; banks = old.cache }; device = before; digests = digests })
      (record { cache = record { shape = setup.shape; banks = new.cache }; device = after; digests = digests_now })
      → HasFetched setup page start finish (Ok tt)
  fetched_ok cached same fetched = search (rules, done_going, few_steps, dirty_steps)

  -- an error is no answer
  no_answer : {T : Type 0} → false ≡ true → T
  no_answer it = absurd (true≢false (sym it))

  -- the path was cut at level n
  pub fetched_cut : (IsPathCached setup.shape old.cache page → ⊥) → noted ≡ ledger
      → IsCutAt setup.shape setup.formulas ledger.truth page
      (record { cache = record { shape = setup.shape; banks = old.cache }; device = before; digests = digests })
      (record { cache = record { shape = setup.shape; banks = new.cache }; device = after; digests = digests_now })
      → (before.live ≡ true → 1 ≤ dirty_count setup.shape new.cache)
      → HasFetched setup page start finish (Err Path.Cut)
  fetched_cut uncached same it left =
      record {
        done = search (rules, done_cut);
        answered = λ trusted. tt;
        unrefused = λ sound. tt;
        path_cached = λ ok. no_answer ok;
        path_fetched = λ past. absurd past;
        work = λ ok. no_answer ok;
        mirror = mirror;
        regs = over.regs;
        tags = same_tags;
        same_ledger = λ unshown. same;
        latches = over.latches;
        steps_of_path = search (rules, length_spilled);
        steps_of_dirty = (
          dirty_steps setup page old new ledger noted before after tags digests tags_now digests_now its_size shape mirror
              same_tags over keeps,
          λ live. fewer_dirty_steps setup page old new ledger noted before after tags digests tags_now digests_now its_size shape
              mirror same_tags over keeps (left live),
        );
      }

  -- the position of the path at this level wasn't cached before
  absent_before : (n : ℕ) → n ≤ setup.shape.levels
      → is_cached setup.shape old.cache n (path_at setup.shape page n) ≡ false
      → is_cached setup.shape old.cache (level_of (path_at setup.shape page n)) (path_at setup.shape page n) ≡ false
  absent_before n within absent = search (rules, path_at-level)

  -- the line read at this level was read, and wasn't cached before
  fetched_line : AreTrusted setup start → (n : ℕ) (line : Line) → n ≤ setup.shape.levels
      → is_cached setup.shape old.cache n (path_at setup.shape page n) ≡ false
      → Tells after.lines (layout.meta_line setup.shape (path_at setup.shape page n)) line
      → IsFetchedLine setup page (path_at setup.shape page n) line start finish
  fetched_line trusted n line within absent tells =
      record {
        on_path = search (rules, path_of-at, path_position-on_path);
        uncached = absent_before n within absent;
        before = search (rules, read_was_there, absent_before);
        read = tells;
      }

  true_tree : AreTrusted setup start → IsTrueTree setup.shape setup.formulas ledger.truth before.regs.root
  true_tree trusted = record { tree = trusted.anchored.truth_is_tree; root_digest = trusted.anchored.root }

  cached_true : AreTrusted setup start → AreCachedTrue old.cache ledger.truth
  cached_true trusted = search rules

  -- the line read at level n was refused
  pub fetched_meta : (IsPathCached setup.shape old.cache page → ⊥) → noted ≡ ledger → (x : ℕ)
      → IsRefusedAt setup.shape setup.formulas ledger.truth page x
      (record { cache = record { shape = setup.shape; banks = old.cache }; device = before; digests = digests })
      (record { cache = record { shape = setup.shape; banks = new.cache }; device = after; digests = digests_now })
      → (IsTrueTree setup.shape setup.formulas ledger.truth before.regs.root → AreCachedTrue old.cache ledger.truth
      → HasFalseDigest setup.shape setup.formulas ledger.truth x after.lines)
      → HasFetched setup page start finish (Err (Path.Meta x))
  fetched_meta uncached same x it cause =
      record {
        done = search (rules, done_going);
        answered =
            λ trusted.
            let false_digest = cause (true_tree trusted) (cached_true trusted) in
            record {
              line = false_digest.line;
              fetched = at_line trusted false_digest.line false_digest.tells;
              other_digest = false_digest.differs;
            };
        unrefused =
            λ sound.
            let false_digest = cause (true_tree (sound_trusted sound)) (cached_true (sound_trusted sound)) in
            false_digest.differs
            (ap (setup.formulas.digest_of x)
            (read_is_true setup page old new ledger noted before after tags digests tags_now digests_now its_size shape mirror
            same_tags over keeps sound x false_digest.line false_digest.on_tree
            (at_line (sound_trusted sound) false_digest.line false_digest.tells).uncached false_digest.tells));
        path_cached = λ ok. no_answer ok;
        path_fetched = λ past. absurd past;
        work = λ ok. no_answer ok;
        mirror = mirror;
        regs = over.regs;
        tags = same_tags;
        same_ledger = λ unshown. same;
        latches = over.latches;
        steps_of_path = search (rules, few_steps);
        steps_of_dirty = (
          dirty_steps setup page old new ledger noted before after tags digests tags_now digests_now its_size shape mirror
              same_tags over keeps,
          λ live. dirty_steps setup page old new ledger noted before after tags digests tags_now digests_now its_size shape mirror
              same_tags over keeps,
        );
      }
    where
      sound_trusted : AreSound setup start → AreTrusted setup start
      sound_trusted sound =
          told_gives (λ lines. IsSound setup old lines before.regs ledger) (AreTrusted setup start) before.lines
          (λ lines told it. it.trusted) sound

      at_line : AreTrusted setup start → (line : Line) → Tells after.lines (layout.meta_line setup.shape x) line
          → IsFetchedLine setup page x line start finish
      at_line trusted line tells =
          subst (λ z. IsFetchedLine setup page z line start finish) (sym it.position)
          (fetched_line trusted it.n line it.read.on_path it.read.absent
          (subst (λ z. Tells after.lines (layout.meta_line setup.shape z) line) it.position tells))

  -- the line read at level n was shown
  pub fetched_shown : (IsPathCached setup.shape old.cache page → ⊥)
      → IsShownAt setup.shape setup.formulas page
      (record { cache = record { shape = setup.shape; banks = old.cache }; device = before; digests = digests })
      (record { cache = record { shape = setup.shape; banks = new.cache }; device = after; digests = digests_now }) ledger noted
      → (IsTrueTree setup.shape setup.formulas ledger.truth before.regs.root → AreCachedTrue old.cache ledger.truth
      → HasClash setup.shape setup.formulas after.lines ledger noted)
      → HasFetched setup page start finish (Err Path.Shown)
  fetched_shown uncached it cause =
      record {
        done =
            done_shown setup page old new ledger noted before after tags digests tags_now digests_now its_size shape mirror
            same_tags over keeps never it.read.work.steady it.read.work.live it.read.work.cuts;
        answered = λ trusted. clash trusted;
        unrefused = never;
        path_cached = λ ok. no_answer ok;
        path_fetched = λ past. absurd (never_past past);
        work = λ ok. no_answer ok;
        mirror = mirror;
        regs = over.regs;
        tags = same_tags;
        same_ledger = λ unshown. absurd (unshown refl);
        latches = over.latches;
        steps_of_path = search (rules, few_steps);
        steps_of_dirty = (
          dirty_steps setup page old new ledger noted before after tags digests tags_now digests_now its_size shape mirror
              same_tags over keeps,
          λ live. dirty_steps setup page old new ledger noted before after tags digests tags_now digests_now its_size shape mirror
              same_tags over keeps,
        );
      }
    where
      x : ℕ
      x = path_at setup.shape page it.n

      -- the exhibit is a clash
      never_past : IsPastFetch {T = Unit} start finish (Err Fail.Shown) → ⊥
      never_past past =
          subst (λ kept. IsForgedExhibit kept)
          (it.shown.exhibit ∙ ap (λ kept. first_exhibit kept (Clash x it.line (line_at ledger.truth x))) past.0) past.1

      read_here : AreTrusted setup start → IsFetchedLine setup page x it.line start finish
      read_here trusted = fetched_line trusted it.n it.line it.read.on_path it.read.absent it.read.tells

      none_kept : AreTrusted setup start → ledger.exhibit ≡ None
      none_kept trusted = none_is ledger.exhibit trusted.anchored.no_exhibit

      clash : AreTrusted setup start → IsClashShown setup page start finish
      clash trusted =
          let known = cause (true_tree trusted) (cached_true trusted) in
          let here : Some (Clash x it.line (line_at ledger.truth x)) ≡ Some (Clash known.x known.line (line_at ledger.truth known.x)) =
          sym (it.shown.exhibit ∙ ap (λ kept. first_exhibit kept (Clash x it.line (line_at ledger.truth x))) (none_kept trusted))
          ∙ known.shown.exhibit
          ∙ ap (λ kept. first_exhibit kept (Clash known.x known.line (line_at ledger.truth known.x))) (none_kept trusted) in
          record {
            x = x;
            line = it.line;
            fetched = read_here trusted;
            exhibit =
                it.shown.exhibit ∙ ap (λ kept. first_exhibit kept (Clash x it.line (line_at ledger.truth x))) (none_kept trusted);
            same_digest = search rules;
            other_line = it.differs;
          }

      never : AreSound setup start → ⊥
      never sound =
          it.differs
          (read_is_true setup page old new ledger noted before after tags digests tags_now digests_now its_size shape mirror
          same_tags over keeps sound x it.line (path_at-lt setup.shape page it.n its_page it.read.on_path) (absent_before it.n it.read.on_path it.read.absent)
          it.read.tells)
