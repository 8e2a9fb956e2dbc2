-- What recovery's plan leaves while it tries the lines of a page: at each read, at a line that hasn't one minor, and at
-- the end of the page.
use Rattle.std.proofs.Common.{ℕ, ◌≡◌, ◌≤◌, ◌<◌, ◌+◌, ◌-◌, ◌*◌, true, false, IsTrue, List, [], ◌∷◌, ◌++◌, length, All, Option, Some, refl, sym, ap, ap₂, subst, ◌∙◌, arith}
use Rattle.std.proofs.lemmas.List.{length-append}
use Rattle.std.proofs.lemmas.List.Elements.{All-append, All-cons, All-nil}
use Rattle.pmem_base.specs.declared.lines.Line.{Line}
use Rattle.pmem_base.specs.declared.registers.Regs.{Regs}
use Rattle.pmem_base.specs.Shape.{Shape, IsShape, is_loss}
use Rattle.pmem_base.specs.Layout.{pages, meta_lines, meta_line, shadow_lines, level_start}
use Rattle.board.specs.Steps.{Tells}
use Rattle.bonsai_tree.specs.Positions.{counter_position}
use Rattle.bonsai_tree.proofs.Levels.{meta_lines-counters}
use Rattle.shadow_tables.specs.Entries.{shadow_of}
use Rattle.split_counters.specs.declared.Block.{Block}
use Rattle.split_counters.specs.Blocks.{packed, unpacked}
use Rattle.split_counters.proofs.Packing.{unpacked-IsBlock}
use Rattle.suite.specs.Setup.{Setup}
use Rattle.pmem_engine.specs.Invariants.{stored_meta, is_doubted}
use Rattle.pmem_recovery.specs.declared.entries.MadeEntry.{MadeEntry}
use Rattle.pmem_recovery.specs.declared.faults.RecFault.{RecFault}
use Rattle.pmem_recovery.specs.Named.{doubts, count_doubted, IsNextAt}
use Rattle.pmem_recovery.specs.Trials.{trials_below}
use Rattle.pmem_recovery.specs.Fixed.{fixed_block}
use Rattle.pmem_recovery.specs.Reads.{sum_doubted, page_reads, block_reads}
use Rattle.pmem_recovery.specs.Upward.{block_made}
use Rattle.pmem_recovery.specs.Parts.{IfLinesTold}
use Rattle.pmem_recovery.specs.Plans.{SuiteCounts, RecoveryParts, recovery_parts, made_over, minors_plan, fixed_block_plan, block_turn, blocks_plan}
use Rattle.pmem_recovery.proofs.NamedLaws.{count_doubted-gap, count_doubted-next, count_doubted-last}
use Rattle.pmem_recovery.proofs.ReadLaws.{page_reads-none, sum_doubted-next, sum_doubted-last, sum_doubted-none}
use Rattle.pmem_recovery.proofs.WorkLaws.{trials_below-none, trials_below-pages}
use Rattle.pmem_recovery.proofs.CounterSteps.{AreBlocksTo, AreBlocksTo-none, AreBlocksTo-gap, AreBlocksTo-next}
use Rattle.pmem_recovery.proofs.MakingEnds.{after_work, IsStop, IsCutEnd}
use Rattle.pmem_recovery.proofs.TrialEnds.{AtLine, named_in, cut_at, page_ends}
use Rattle.pmem_recovery.proofs.ReadOnlyPlans.{Reading, reading_mapped, reading_more, reading_positions}

-- ---- how far the trials have come

module _ (setup : Setup) (regs : Regs) (told : Option (List Line)) (shadow : List Line) (first : SuiteCounts) where
  abbrev g : Shape
  g = setup.shape

  abbrev start : ℕ
  start = level_start setup.shape.levels

  abbrev Stops : SuiteCounts × RecFault → ℕ → Type 0
  Stops = IsStop setup regs told first

  abbrev Cuts : SuiteCounts × RecFault → ℕ → Type 0
  Cuts = IsCutEnd setup regs told first

  -- to position x, with the blocks before it made
  pub record AtBlock (x : ℕ) (parts : RecoveryParts) (trials n : ℕ) : Type 0 where
    pub counted : parts.counts ≡ after_work trials 0 first
    pub few : trials ≤ count_doubted setup.shape shadow (level_start setup.shape.levels) x * (64 * regs.loss)
    pub reads : n ≡ shadow_lines setup.shape + sum_doubted setup.shape shadow (block_reads setup.shape regs) (level_start setup.shape.levels) x
    pub many : length parts.made ≡ count_doubted setup.shape shadow (level_start setup.shape.levels) x
    pub on_tree : All (λ entry. entry.at < meta_lines setup.shape) parts.made
    pub over :
        IfLinesTold told
        (λ lines. AreBlocksTo setup lines regs (x - level_start setup.shape.levels) parts.made
        × (trials ≡ trials_below setup.shape lines regs (64 * (x - level_start setup.shape.levels))))

  module _ (valid : IsShape setup.shape) (loss : IsTrue (is_loss regs.loss)) (its_shadow : IfLinesTold told (λ lines. shadow ≡ shadow_of setup.shape lines)) where
    -- ---- a doubted counter block, and one that isn't

    module _ (x : ℕ) (parts : RecoveryParts) (trials n : ℕ) (low : level_start setup.shape.levels ≤ x) (inside : x < meta_lines setup.shape)
        (named : doubts setup.shape shadow x ≡ true) (so_far : AtBlock x parts trials n) where
      abbrev page : ℕ
      page = x - level_start setup.shape.levels

      place : counter_position g page ≡ x
      place = omega (arith, low)

      in_page : page < pages g
      in_page = omega (arith, low, inside, meta_lines-counters g)

      named_there : doubts g shadow (counter_position g page) ≡ true
      named_there = subst (λ y. doubts g shadow y ≡ true) (sym place) named

      its_line : (line : Line) → Tells told (meta_line g x) line → (lines : List Line) → told ≡ Some lines → line ≡ stored_meta g lines (counter_position g page)
      its_line line tells lines its = subst (λ o. Tells o (meta_line g x) line) its tells ∙ ap (stored_meta g lines) (sym place)

      at_start : AtLine setup regs told shadow first page 0 parts.counts trials (n + 1)
      at_start =
          let count = ap (count_doubted g shadow start) place in
          let sum = ap (sum_doubted g shadow (block_reads g regs) start) place in
          record {
            counted = so_far.counted;
            few = subst (λ y. trials ≤ count_doubted g shadow start y * (64 * regs.loss) + 0 * regs.loss) (sym place) (omega (arith, so_far.few));
            reads = omega (arith, so_far.reads, sum, page_reads-none regs.progress.items page);
            over = λ lines its.
                let o = so_far.over lines its in
                let same : 64 * page ≡ 64 * page + 0 = omega arith in
                record {
                  decided = o.0.decided;
                  ones = λ k none. absurd (omega (arith, none));
                  tried = o.1 ∙ ap (trials_below g lines regs) same;
                };
          }

      next : IsNextAt (doubts g shadow) x (meta_lines g) x
      next = record { low = omega arith; high = inside; passes = named; before = λ y up less. absurd (omega (arith, up, less)) }

      made_so : (line : Line) → ((lines : List Line) → told ≡ Some lines → line ≡ stored_meta g lines (counter_position g page))
          → (end : SuiteCounts × (Block × ℕ)) (m : ℕ)
          → AtLine setup regs told shadow first page 64 end.0 (trials + end.1.1) m × IfLinesTold told (λ lines. end.1.0 ≡ fixed_block setup lines regs page)
          → AtBlock (x + 1) (recovery_parts (parts.made ++ made_over x line (packed end.1.0) ∷ []) end.0) (trials + end.1.1) m
      made_so line its_bytes end m it =
          let more = count_doubted-next g shadow start x (meta_lines g) x low next in
          let sum = sum_doubted-next g shadow (block_reads g regs) start x (meta_lines g) x low next in
          let count_there = ap (count_doubted g shadow start) place in
          let sum_there = ap (sum_doubted g shadow (block_reads g regs) start) place in
          let same_page : x - counter_position g 0 ≡ page = omega arith in
          let of_page = ap (λ p. page_reads regs.progress.items p 64) same_page in
          let entry : MadeEntry = made_over x line (packed end.1.0) in
          record {
            counted = it.0.counted;
            few = subst (λ c. trials + end.1.1 ≤ c * (64 * regs.loss)) (sym more)
                (subst (λ c. trials + end.1.1 ≤ (c + 1) * (64 * regs.loss)) count_there (omega (arith, it.0.few)));
            reads = omega (arith, it.0.reads, sum, sum_there, of_page);
            many = length-append parts.made (entry ∷ []) ∙ omega (arith, so_far.many, more);
            on_tree =
                All-append (λ (entry : MadeEntry). entry.at < meta_lines g) parts.made (entry ∷ []) so_far.on_tree
                (All-cons (λ (entry : MadeEntry). entry.at < meta_lines g) entry [] inside (All-nil (λ (entry : MadeEntry). entry.at < meta_lines g)));
            over = λ lines its.
                let o = so_far.over lines its in
                let t = it.0.over lines its in
                let same : made_over x line (packed end.1.0) ≡ block_made setup lines regs page =
                ap (λ y. made_over y line (packed end.1.0)) (sym place)
                ∙ ap₂ (λ (l : Line) (b : Block). made_over (counter_position g page) l (packed b)) (its_bytes lines its) (it.1 lines its) in
                let up : page + 1 ≡ x + 1 - start = omega (arith, low) in
                let all : 64 * page + 64 ≡ 64 * (x + 1 - start) = omega (arith, low) in (
                  subst (λ p. AreBlocksTo setup lines regs p (parts.made ++ entry ∷ [])) up
                      (subst (λ (e : MadeEntry). AreBlocksTo setup lines regs (page + 1) (parts.made ++ e ∷ [])) (sym same)
                      (AreBlocksTo-next setup lines regs page parts.made valid in_page (named_in setup regs told shadow first valid loss its_shadow page in_page named_there lines its) t.ones o.0)),
                  t.tried ∙ ap (trials_below g lines regs) all,
                );
          }

      pub block_ends : Reading told (λ end m. AtBlock (x + 1) end.0 (trials + end.1) m) (λ left. Stops (left.0.counts, left.1))
          (λ left. Cuts (left.0.counts, left.1)) (fixed_block_plan setup regs x parts) n
      unfolding fixed_block_plan Reading
      block_ends = (
        cut_at setup regs told shadow first valid loss its_shadow page in_page named_there 0 (n + 1) n parts.counts trials (omega arith) at_start (omega arith),
        λ line whole tells.
            reading_mapped _ _ _ _ _ _ (minors_plan setup regs page (unpacked line) parts.counts) _
            (reading_more _ _ _ _ _ (minors_plan setup regs page (unpacked line) parts.counts) _
            (page_ends setup regs told shadow first valid loss its_shadow page in_page named_there (unpacked line) (unpacked-IsBlock line whole)
            (λ lines its. ap unpacked (its_line line tells lines its)) parts.counts trials (n + 1) at_start)
            (λ end m it. made_so line (its_line line tells) end m it)),
      )

    unnamed : (x : ℕ) (parts : RecoveryParts) (trials n : ℕ) → start ≤ x → x < meta_lines g → doubts g shadow x ≡ false → AtBlock x parts trials n
        → AtBlock (x + 1) parts trials n
    unnamed x parts trials n low inside other so_far =
        let none : (y : ℕ) → x ≤ y → y < x + 1 → doubts g shadow y ≡ false = λ y from to.
        let same : x ≡ y = omega arith in subst (λ z. doubts g shadow z ≡ false) same other in
        let count = count_doubted-last g shadow start x (x + 1) low (omega arith) none in
        let sum = sum_doubted-last g shadow (block_reads g regs) start x (x + 1) low (omega arith) none in
        record {
          counted = so_far.counted;
          few = subst (λ c. trials ≤ c * (64 * regs.loss)) (sym count) so_far.few;
          reads = omega (arith, so_far.reads, sum);
          many = so_far.many ∙ sym count;
          on_tree = so_far.on_tree;
          over = λ lines its.
              let o = so_far.over lines its in
              let gap : (p : ℕ) → x - start ≤ p → p < x + 1 - start → is_doubted g lines (counter_position g p) ≡ false = λ p from to.
              subst (λ s. doubts g s (counter_position g p) ≡ false) (its_shadow lines its) (none (counter_position g p) (omega (arith, from)) (omega (arith, to, low))) in (
                AreBlocksTo-gap setup lines regs (x - start) (x + 1 - start) parts.made (omega arith) gap o.0,
                o.1 ∙ sym (trials_below-pages g lines regs (x - start) (x + 1 - start) (omega arith) gap),
              );
        }

    -- ---- all of them

    pub blocks_end : (n : ℕ) → n ≡ shadow_lines g
        → Reading told (λ end m. AtBlock (meta_lines g) end.0 end.1 m) (λ left. Stops (left.0.counts, left.1))
        (λ left. Cuts (left.0.counts, left.1)) (blocks_plan setup regs shadow (recovery_parts [] first)) n
    blocks_end n is =
        reading_positions _ (λ x t m. AtBlock x t.0 t.1 m) _ _ (block_turn setup regs) (λ x. doubts g shadow x) start (meta_lines g)
        (λ x t m low inside named so_far. reading_mapped _ _ _ _ _ _ (fixed_block_plan setup regs x t.0) _ (block_ends x t.0 t.1 m low inside named so_far))
        (λ x t m low inside other so_far. unnamed x t.0 t.1 m low inside other so_far)
        start (meta_lines g - start) (recovery_parts [] first, 0) n (omega arith) (omega (arith, meta_lines-counters g))
        (record {
          counted = refl;
          few = omega arith;
          reads = omega (arith, is, sum_doubted-none g shadow (block_reads g regs) start start refl);
          many = sym (count_doubted-gap g shadow start start (λ x low high. absurd (omega (arith, low, high))));
          on_tree = All-nil (λ (entry : MadeEntry). entry.at < meta_lines g);
          over = λ lines its.
              let none : start - start ≡ 0 = omega arith in
              let first_line : 0 ≡ 64 * (start - start) = omega arith in
              (AreBlocksTo-none setup lines regs (start - start) none, sym (trials_below-none g lines regs) ∙ ap (trials_below g lines regs) first_line);
        })
