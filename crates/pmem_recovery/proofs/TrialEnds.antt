-- What recovery's plan leaves while it tries the lines of a page: at each read, at a line that hasn't one minor, and at
-- the end of the page.
use Rattle.std.proofs.Common.{ℕ, ◌≡◌, ◌≤◌, ◌<◌, ◌+◌, ◌-◌, ◌*◌, ◌/◌, ◌⊎◌, true, IsTrue, List, [], ◌∷◌, length, get_or, Option, Some, None, Result, Ok, Err, refl, sym, ap, ap₂, subst, ◌∙◌, inl, inr, mul-le-mul_right, arith}
use Rattle.std.specs.Prelude.{slice_index, is_some, if◌then◌else◌}
use Rattle.std.specs.List.{range_with_len}
use Rattle.std.proofs.lemmas.Bool.{cases_eq}
use Rattle.std.proofs.lemmas.List.{length-set}
use Rattle.pmem_base.specs.declared.lines.Line.{Line}
use Rattle.pmem_base.specs.declared.registers.Progress.{Progress}
use Rattle.pmem_base.specs.declared.registers.Regs.{Regs}
use Rattle.pmem_base.specs.Lines.{line_at, tag_slot}
use Rattle.pmem_base.specs.Shape.{Shape, IsShape, is_loss}
use Rattle.pmem_base.specs.Layout.{pages, meta_lines, tag_line, shadow_lines, level_start, page_of, index_in_page}
use Rattle.pmem_base.proofs.CountLemmas.{risen_times-add}
use Rattle.board.specs.Steps.{Tells}
use Rattle.call_plan.specs.Plans.{bind, mapped}
use Rattle.bonsai_tree.specs.Positions.{counter_position}
use Rattle.bonsai_tree.proofs.Levels.{meta_lines-counters}
use Rattle.page_reencrypt.specs.Registers.{register_held}
use Rattle.shadow_tables.specs.Entries.{shadow_of}
use Rattle.split_counters.specs.declared.Block.{Block}
use Rattle.split_counters.specs.Blocks.{IsBlock}
use Rattle.stop_loss.specs.Trials.{matching_minors, found_among}
use Rattle.stop_loss.specs.Windows.{minors_within, window_minors}
use Rattle.stop_loss.proofs.Trying.{result_within}
use Rattle.stop_loss.proofs.Windows.{is_loss_pos, window_in_range}
use Rattle.suite.specs.Setup.{Setup}
use Rattle.plain_model.specs.Bounds.{most_blocks}
use Rattle.pmem_engine.specs.Invariants.{is_doubted}
use Rattle.pmem_recovery.specs.declared.faults.RecFault.{RecFault}
use Rattle.pmem_recovery.specs.declared.faults.RecFault.TheVariants as Fault
use Rattle.pmem_recovery.specs.Named.{doubts, count_doubted, IsNextAt}
use Rattle.pmem_recovery.specs.Trials.{stored_block, minors_tried, tried_minors, candidates_of, trials_below, AreDecided}
use Rattle.pmem_recovery.specs.Fixed.{fixed_block}
use Rattle.pmem_recovery.specs.Reads.{sum_doubted, line_reads, page_reads, block_reads, doubted_reads, reads_to}
use Rattle.pmem_recovery.specs.Parts.{IfLinesTold, decided_of, IsDecided, IsUndecided}
use Rattle.pmem_recovery.specs.Plans.{SuiteCounts, suite_counts, after_tags, decided_plan, sealed_plan, held_or_tried, trial_plan, minor_turn, minors_plan}
use Rattle.pmem_recovery.proofs.PartLaws.{few_and_one}
use Rattle.pmem_recovery.proofs.NamedLaws.{count_doubted-next, count_doubted-le, count_doubted-counters}
use Rattle.pmem_recovery.proofs.ReadLaws.{RisesBy-as, page_reads-more, page_reads-le, sum_doubted-le}
use Rattle.pmem_recovery.proofs.WorkLaws.{candidates-free, candidates-held, trials_of-named, trials_below-next}
use Rattle.pmem_recovery.proofs.TryLaws.{decided_is, shown_undecided, stops_undecided, tried_is, refusal_is, length-window_minors, minors_more, fixed_block_is}
use Rattle.pmem_recovery.proofs.CounterSteps.{stopped_at}
use Rattle.pmem_recovery.specs.Mending.{most_reads}
use Rattle.pmem_recovery.proofs.MakingEnds.{after_work, IsStop, IsCutEnd, few_reads, cut_end, undecided_reads, undecided_work}
use Rattle.pmem_recovery.proofs.ReadOnlyPlans.{Reading, reading_mapped, reading_more, reading_repeated}

-- ---- how far the trials have come

module _ (setup : Setup) (regs : Regs) (told : Option (List Line)) (shadow : List Line) (first : SuiteCounts) where
  abbrev g : Shape
  g = setup.shape

  abbrev start : ℕ
  start = level_start setup.shape.levels

  abbrev Stops : SuiteCounts × RecFault → ℕ → Type 0
  Stops = IsStop setup regs told first

  abbrev Cuts : SuiteCounts × RecFault → ℕ → Type 0
  Cuts = IsCutEnd setup regs told first

  -- to line i of a page, over the lines that are exposed
  pub record AreTriedTo (page i trials : ℕ) (lines : List Line) : Type 0 where
    pub decided : AreDecided setup lines regs page
    pub ones : (k : ℕ) → k < i → length (tried_minors setup lines regs (64 * page + k)) ≡ 1
    pub tried : trials ≡ trials_below setup.shape lines regs (64 * page + i)

  -- to line i of a page, after these trials and n reads
  pub record AtLine (page i : ℕ) (counts : SuiteCounts) (trials n : ℕ) : Type 0 where
    pub counted : counts ≡ after_work trials 0 first
    pub few : trials ≤ count_doubted setup.shape shadow (level_start setup.shape.levels) (counter_position setup.shape page) * (64 * regs.loss) + i * regs.loss
    pub reads :
        n ≡ shadow_lines setup.shape
        + sum_doubted setup.shape shadow (block_reads setup.shape regs) (level_start setup.shape.levels) (counter_position setup.shape page)
        + 1 + page_reads regs.progress.items page i
    pub over : IfLinesTold told (AreTriedTo page i trials)

  module _ (valid : IsShape setup.shape) (loss : IsTrue (is_loss regs.loss)) (its_shadow : IfLinesTold told (λ lines. shadow ≡ shadow_of setup.shape lines)) where
    all_few : count_doubted g shadow start (meta_lines g) ≤ most_blocks g
    all_few = count_doubted-counters g shadow valid

    -- bounds within a page that is doubted
    few_within : (count i trials more : ℕ) → trials ≤ count * (64 * regs.loss) + i * regs.loss → more ≤ regs.loss → i < 64 → count < most_blocks g
        → trials + more ≤ 64 * regs.loss * most_blocks g
    few_within count i trials more few less low room =
        let up : (i + 1) * regs.loss ≤ 64 * regs.loss = mul-le-mul_right regs.loss (omega arith) in
        let all = few_and_one (count * (64 * regs.loss)) (64 * regs.loss) (64 * regs.loss) count (most_blocks g) (omega arith) (omega arith) room in
        omega arith

    module _ (page : ℕ) (inside : page < pages g) (named : doubts g shadow (counter_position g page) ≡ true) where
      here : IsNextAt (doubts g shadow) (counter_position g page) (meta_lines g) (counter_position g page)
      here =
          record {
            low = omega arith;
            high = omega (arith, inside, meta_lines-counters g);
            passes = named;
            before = λ y low less. absurd (omega (arith, low, less));
          }

      one_more : count_doubted g shadow start (counter_position g page) + 1 ≤ count_doubted g shadow start (meta_lines g)
      one_more =
          let next = count_doubted-next g shadow start (counter_position g page) (meta_lines g) (counter_position g page) (omega arith) here in
          let up = count_doubted-le g shadow start (counter_position g page + 1) (meta_lines g) (omega arith) (omega (arith, here.high)) in
          omega (arith, next, up)

      room : count_doubted g shadow start (counter_position g page) < most_blocks g
      room = omega (arith, one_more, all_few)

      pub named_in : (lines : List Line) → told ≡ Some lines → is_doubted g lines (counter_position g page) ≡ true
      named_in lines its = subst (λ s. doubts g s (counter_position g page) ≡ true) (its_shadow lines its) named

      few_reads_at : (i n m : ℕ) (counts : SuiteCounts) (trials : ℕ) → i < 64 → AtLine page i counts trials n → m ≤ n + 2 → m ≤ doubted_reads g shadow
      few_reads_at i n m counts trials low so_far up =
          let blocks = sum_doubted-le g shadow (block_reads g regs) 129 (λ x. omega (arith, page_reads-le regs.progress.items (x - counter_position g 0) 64))
          start (counter_position g page) in
          omega (arith, so_far.reads, up, blocks, one_more, page_reads-le regs.progress.items page i, low)

      -- a cut before a read of line i
      pub cut_at : (i n m : ℕ) (counts : SuiteCounts) (trials : ℕ) → i < 64 → AtLine page i counts trials n → m ≤ n + 2
          → Cuts (counts, Fault.Cut) m
      cut_at i n m counts trials low so_far up =
          cut_end setup regs told first counts trials 0 m so_far.counted
          (let few = few_within (count_doubted g shadow start (counter_position g page)) i trials 0 so_far.few (omega arith) low room in omega (arith, few))
          (omega arith) (few_reads setup told shadow m valid its_shadow (few_reads_at i n m counts trials low so_far up))
          (λ lines its.
          let t = so_far.over lines its in
          record { lines_tried = 64 * page + i; within = omega (arith, inside, low); its_trials = t.tried; few_digests = omega arith; in_order = inr refl })

      module _ (stored : Block) (whole : IsBlock stored) (its_block : IfLinesTold told (λ lines. stored ≡ stored_block g lines page)) where
        -- ---- line i

        module _ (i : ℕ) (low : i < 64) (counts : SuiteCounts) (trials n : ℕ) (so_far : AtLine page i counts trials n) where
          abbrev at : ℕ
          at = 64 * page + i

          abbrev minor : ℕ
          minor = slice_index stored.minors (index_in_page at)

          at_page : page_of at ≡ page
          at_page = omega (arith, low)

          at_index : index_in_page at ≡ i
          at_index = omega (arith, low)

          small : minor ≤ 127
          small = whole.minors (index_in_page at) 0 (omega (arith, at_index, low, whole.count))

          block_at : (lines : List Line) → told ≡ Some lines → stored ≡ stored_block g lines (page_of at)
          block_at lines its = its_block lines its ∙ ap (stored_block g lines) (sym at_page)

          -- what its trials leave
          abbrev Tried : SuiteCounts × (ℕ × ℕ) → ℕ → Type 0
          Tried end m =
              AtLine page (i + 1) end.0 (trials + end.1.1) m
              × IfLinesTold told (λ lines. tried_minors setup lines regs at ≡ end.1.0 ∷ [])

          below_next : (more : ℕ) (lines : List Line) → told ≡ Some lines → more ≡ length (candidates_of g lines regs at)
              → trials + more ≡ trials_below g lines regs (at + 1)
          below_next more lines its same =
              let t = so_far.over lines its in
              let named_at : is_doubted g lines (counter_position g (page_of at)) ≡ true =
              subst (λ p. is_doubted g lines (counter_position g p) ≡ true) (sym at_page) (named_in lines its) in
              let here = trials_of-named g lines regs at named_at in
              let next = trials_below-next g lines regs at in
              omega (arith, t.tried, here, next, same)

          next_line : (after : SuiteCounts) (more m : ℕ) → after ≡ after_tags more counts → more ≤ regs.loss → m ≡ n + line_reads regs.progress.items at
              → IfLinesTold told (λ lines. (length (tried_minors setup lines regs at) ≡ 1) × (more ≡ length (candidates_of g lines regs at)))
              → AtLine page (i + 1) after (trials + more) m
          next_line after more m same_after less reads found =
              record {
                counted =
                    same_after ∙ ap (after_tags more) so_far.counted
                    ∙ ap (λ t. suite_counts t first.digests) (sym (risen_times-add trials more first.tags));
                few = omega (arith, so_far.few, less);
                reads = omega (arith, so_far.reads, reads, page_reads-more regs.progress.items page i);
                over = λ lines its.
                    let t = so_far.over lines its in
                    let f = found lines its in
                    let up : at + 1 ≡ 64 * page + (i + 1) = omega arith in
                    record {
                      decided = t.decided;
                      ones = λ k below. one lines t.ones f.0 k below (cases_eq k i);
                      tried = below_next more lines its f.1 ∙ ap (trials_below g lines regs) up;
                    };
              }
            where
              one : (lines : List Line) → ((k : ℕ) → k < i → length (tried_minors setup lines regs (64 * page + k)) ≡ 1) → length (tried_minors setup lines regs at) ≡ 1
                  → (k : ℕ) → k < i + 1 → (k ≡ i) ⊎ (k ≡ i → ⊥) → length (tried_minors setup lines regs (64 * page + k)) ≡ 1
              one lines before last k below (inl same) = ap (λ j. length (tried_minors setup lines regs (64 * page + j))) same ∙ last
              one lines before last k below (inr other) = before k (omega arith)

          -- its cipher and its tag were read
          module _ (free : register_held regs.progress.items at ≡ None) (cipher tags : Line)
              (its_cipher : Tells told at cipher) (its_tags : Tells told (tag_line g at) tags) where
            abbrev tag : List ℕ
            tag = tag_slot tags at

            abbrev window : List ℕ
            window = window_minors minor regs.loss

            abbrev matching : List ℕ
            matching = matching_minors setup.formulas at stored.major cipher tag window

            abbrev after : SuiteCounts
            after = after_tags (length window) counts

            abbrev last : ℕ
            last = (minor / regs.loss) * regs.loss + regs.loss - 1

            decided : IsDecided setup.formulas at stored.major cipher tag matching (decided_of (found_among matching) at stored.major cipher tag)
            decided =
                let positive = is_loss_pos regs.loss loss in
                let range = window_in_range regs.loss minor loss small in
                let count : last + 1 - minor ≡ (minor / regs.loss) * regs.loss + regs.loss - minor = omega (arith, positive) in
                let of : List ℕ → List ℕ = λ w. matching_minors setup.formulas at stored.major cipher tag w in
                subst (λ w. IsDecided setup.formulas at stored.major cipher tag (of w) (decided_of (found_among (of w)) at stored.major cipher tag))
                (ap (range_with_len minor) count)
                (decided_is setup.formulas at stored.major cipher tag (minors_within minor last) minor last (found_among (of (minors_within minor last)))
                (omega (arith, range, positive)) refl
                (result_within setup.formulas at stored.major cipher tag minor last (found_among (of (minors_within minor last))) refl))

            read_two : line_reads regs.progress.items at ≡ 2
            read_two = ap (λ (o : Option Progress). if is_some o then 0 else 2) free

            less : length window ≤ regs.loss
            less = length-window_minors minor regs.loss

            cipher_is : (lines : List Line) → told ≡ Some lines → cipher ≡ line_at lines at
            cipher_is lines its = subst (λ o. Tells o at cipher) its its_cipher

            tag_is : (lines : List Line) → told ≡ Some lines → tag ≡ tag_slot (line_at lines (tag_line g at)) at
            tag_is lines its = ap (λ (l : Line). tag_slot l at) (subst (λ o. Tells o (tag_line g at) tags) its its_tags)

            candidates_are : (lines : List Line) → told ≡ Some lines → length window ≡ length (candidates_of g lines regs at)
            candidates_are lines its = candidates-free g lines regs at stored window free (block_at lines its) refl

            tried_are : (lines : List Line) → told ≡ Some lines → tried_minors setup lines regs at ≡ matching
            tried_are lines its =
                tried_is setup lines regs at stored cipher tag window free (block_at lines its) (cipher_is lines its) (tag_is lines its) refl

            stops : (fault : RecFault) → IsUndecided setup.formulas at stored.major cipher tag matching fault
                → Stops (after, fault) (n + 1 + 1)
            stops fault u = (
              record {
                trials = trials + length window;
                digests = 0;
                counted =
                    ap (after_tags (length window)) so_far.counted
                    ∙ ap (λ t. suite_counts t first.digests) (sym (risen_times-add trials (length window) first.tags));
                few_trials = few_within (count_doubted g shadow start (counter_position g page)) i trials (length window) so_far.few less low room;
                few_digests = omega arith;
                few_reads = so_few.0;
                shown = shown_undecided setup.formulas at stored.major cipher tag matching fault u;
                over = λ lines its.
                    let t = so_far.over lines its in
                    record {
                      refusal =
                          stopped_at setup lines regs page fault inside (named_in lines its) t.decided
                          (record {
                            place = i;
                            in_page = low;
                            before = t.ones;
                            here =
                                refusal_is setup lines regs at stored cipher tag matching fault (tried_are lines its) (block_at lines its)
                                (cipher_is lines its) (tag_is lines its) u;
                          });
                      work =
                          undecided_work setup.formulas at stored.major cipher tag matching g lines regs fault (trials + length window) u
                          (below_next (length window) lines its (candidates_are lines its));
                      few_reads = so_few.1 lines its;
                      reads = λ before after r.
                          undecided_reads setup.formulas at stored.major cipher tag matching g (shadow_of g lines) regs fault before after u
                          (RisesBy-as (n + 1 + 1) (shadow_lines g + reads_to g (shadow_of g lines) regs at) before after (so_many lines its) r);
                    };
              },
              λ old new goes. stops_undecided setup.formulas at stored.major cipher tag matching fault old new u goes,
            )
              where
                so_few : (n + 1 + 1 ≤ most_reads g) × IfLinesTold told (λ lines. n + 1 + 1 ≤ doubted_reads g (shadow_of g lines))
                so_few = few_reads setup told shadow (n + 1 + 1) valid its_shadow (few_reads_at i n (n + 1 + 1) counts trials low so_far (omega arith))

                so_many : (lines : List Line) → told ≡ Some lines → n + 1 + 1 ≡ shadow_lines g + reads_to g (shadow_of g lines) regs at
                so_many lines its =
                    let same : reads_to g (shadow_of g lines) regs at ≡ reads_to g shadow regs at = ap (λ s. reads_to g s regs at) (sym (its_shadow lines its)) in
                    let there : reads_to g shadow regs at
                    ≡ sum_doubted g shadow (block_reads g regs) start (counter_position g page) + 1 + page_reads regs.progress.items page (i + 1) =
                    ap₂ (λ p k. sum_doubted g shadow (block_reads g regs) start (counter_position g p) + 1 + page_reads regs.progress.items p (k + 1)) at_page at_index in
                    omega (arith, so_far.reads, same, there, page_reads-more regs.progress.items page i, read_two)

            decide : (r : Result ℕ RecFault) → IsDecided setup.formulas at stored.major cipher tag matching r
                → Reading told Tried Stops Cuts (decided_plan (length window) after r) (n + 1 + 1)
            unfolding decided_plan Reading
            decide (Ok minor) d = (
              next_line after (length window) (n + 1 + 1) refl less (omega (arith, read_two))
                  (λ lines its. (ap length (tried_are lines its ∙ d.0), candidates_are lines its)),
              λ lines its. tried_are lines its ∙ d.0,
            )
            decide (Err fault) d = stops fault d

          -- if a register holds it, and if none does
          tried_line : (held : Option Progress) → register_held regs.progress.items at ≡ held
              → Reading told Tried Stops Cuts (held_or_tried setup regs.loss stored at counts held) n
          unfolding held_or_tried sealed_plan Reading bind mapped
          tried_line (Some register) is =
              let held : is_some (register_held regs.progress.items at) ≡ true = ap is_some is in
              let none : line_reads regs.progress.items at ≡ 0 = ap (λ b. if b then 0 else 2) held in
              let one : (lines : List Line) → told ≡ Some lines → tried_minors setup lines regs at ≡ minor ∷ [] = λ lines its.
              ap₂ (λ (o : Option Progress) (b : Block). minors_tried setup lines regs.loss at o b) is (sym (block_at lines its)) in (
                next_line counts 0 n refl (omega arith) (omega (arith, none))
                    (λ lines its. (ap length (one lines its), sym (candidates-held g lines regs at held))),
                one,
              )
          tried_line None is = (
            cut_at i n n counts trials low so_far (omega arith),
            λ cipher whole its_cipher. (
              cut_at i n (n + 1) counts trials low so_far (omega arith),
              λ tags whole its_tags.
                  decide is cipher tags its_cipher its_tags
                  (decided_of (found_among (matching is cipher tags its_cipher its_tags)) at stored.major cipher (tag_slot tags at))
                  (decided is cipher tags its_cipher its_tags),
            ),
          )

        -- ---- the page

        -- the block as it is made
        record HasMinors (i : ℕ) (block : Block) : Type 0 where
          pub major : block.major ≡ stored.major
          pub long : length block.minors ≡ 64
          pub each : IfLinesTold told (λ lines. (k : ℕ) → k < i → tried_minors setup lines regs (64 * page + k) ≡ get_or block.minors k 0 ∷ [])

        pub page_ends : (counts : SuiteCounts) (trials n : ℕ) → AtLine page 0 counts trials n
            → Reading told
            (λ end m. AtLine page 64 end.0 (trials + end.1.1) m × IfLinesTold told (λ lines. end.1.0 ≡ fixed_block setup lines regs page))
            Stops Cuts (minors_plan setup regs page stored counts) n
        page_ends counts trials n now =
            reading_more _ _ _ _ _ (minors_plan setup regs page stored counts) _
            (reading_repeated _ holds _ _ (minor_turn setup regs stored page) 64 0 64 _ _ refl turn
            (subst (λ t. AtLine page 0 counts t n) (plus_none trials) now, record { major = refl; long = whole.count; each = λ lines its k none. absurd (omega (arith, none)) }))
            (λ end m it. (
              it.0,
              λ lines its.
                  fixed_block_is setup lines regs page end.1.0 (it.1.major ∙ ap (λ (b : Block). b.major) (its_block lines its)) it.1.long (it.1.each lines its),
            ))
          where
            plus_none : (t : ℕ) → t ≡ t + 0
            plus_none t = omega arith

            holds : ℕ → SuiteCounts × (Block × ℕ) → ℕ → Type 0
            holds i end m = AtLine page i end.0 (trials + end.1.1) m × HasMinors i end.1.0

            associated : (a b c : ℕ) → a + b + c ≡ a + (b + c)
            associated a b c = omega arith

            turn : (i : ℕ) (t : SuiteCounts × (Block × ℕ)) (m : ℕ) → i < 64 → holds i t m → Reading told (holds (i + 1)) Stops Cuts (minor_turn setup regs stored page i t) m
            turn i t m low it =
                reading_mapped _ _ _ _ _ _ (trial_plan setup regs stored (64 * page + i) t.0) _
                (reading_more _ _ _ _ _ (trial_plan setup regs stored (64 * page + i) t.0) _
                (tried_line i low t.0 (trials + t.1.1) m it.0 (register_held regs.progress.items (64 * page + i)) refl)
                (λ end k tried. (
                  subst (λ s. AtLine page (i + 1) end.0 s k) (associated trials t.1.1 end.1.1) tried.0,
                  record {
                    major = it.1.major;
                    long = length-set t.1.0.minors i end.1.0 ∙ it.1.long;
                    each = λ lines its.
                        minors_more (λ k. tried_minors setup lines regs (64 * page + k)) t.1.0.minors i end.1.0 (omega (arith, it.1.long, low)) (it.1.each lines its)
                        (tried.1 lines its);
                  },
                )))
