-- What recovery's plan leaves once all is made: the root compared, and the whole of what only reads.
use Rattle.std.proofs.Common.{ℕ, ◌≡◌, ◌≤◌, ◌<◌, ◌+◌, ◌*◌, Bool, true, false, IsTrue, List, [], ◌∷◌, ◌++◌, length, drop, All, Option, Some, None, ◌-◌, refl, sym, ap, subst, ◌∙◌, inr, add-one, arith}
use Rattle.std.specs.Prelude.{is_some, if◌then◌else◌}
use Rattle.std.proofs.lemmas.Bool.{false≢true}
use Rattle.std.proofs.lemmas.List.{ext_get_or, length-append, length-take, length-drop}
use Rattle.pmem_base.specs.declared.lines.Line.{Line}
use Rattle.pmem_base.specs.declared.registers.Regs.{Regs}
use Rattle.pmem_base.specs.Lines.{line_at, zero_line, same_bytes}
use Rattle.pmem_base.specs.Shape.{Shape, IsShape, is_loss}
use Rattle.pmem_base.specs.Layout.{pages, meta_lines, device_lines, shadow_lines, shadow_line, level_start}
use Rattle.pmem_base.proofs.ByteLaws.{same_bytes-true, same_bytes-from}
use Rattle.board.specs.Steps.{Tells}
use Rattle.bonsai_tree.proofs.Levels.{meta_lines-counters}
use Rattle.call_plan.specs.Plans.{done, stop, mapped}
use Rattle.pmem_engine.proofs.Laws.MendableLaws.{line_at-shadow_of}
use Rattle.shadow_tables.specs.Entries.{shadow_of}
use Rattle.suite.specs.Setup.{Setup}
use Rattle.plain_model.specs.Bounds.{most_blocks, most_nodes}
use Rattle.pmem_recovery.specs.declared.faults.RecFault.{RecFault}
use Rattle.pmem_recovery.specs.declared.faults.RecFault.TheVariants as Fault
use Rattle.pmem_recovery.specs.Named.{count_doubted}
use Rattle.pmem_recovery.specs.Trials.{first_undecided, AreDecided}
use Rattle.pmem_recovery.specs.Fixed.{found_root}
use Rattle.pmem_recovery.specs.Reads.{sum_doubted, block_reads, node_reads, unmade_reads, all_reads, doubted_reads}
use Rattle.pmem_recovery.specs.Upward.{line_made, made_or_stored, IsDoneTo, AreAllMade}
use Rattle.pmem_recovery.specs.Parts.{IfLinesTold, IsAllWork}
use Rattle.pmem_recovery.specs.Mending.{most_reads, HasMadeAll}
use Rattle.pmem_recovery.specs.Plans.{SuiteCounts, RecoveryParts, recovery_parts, after_digest, made_plan, compare_plan, root_plan, shadow_turn, shadow_plan, MadeLines, made_lines, blocks_plan, nodes_plan, after_blocks, after_shadow, making_plan}
use Rattle.pmem_recovery.proofs.NamedLaws.{count_doubted-counters, count_doubted-nodes}
use Rattle.pmem_recovery.proofs.ReadLaws.{RisesBy-as, top_reads_are}
use Rattle.pmem_recovery.proofs.RecoveryPlans.{shadow_more}
use Rattle.pmem_recovery.proofs.WorkLaws.{trials_below-none}
use Rattle.pmem_recovery.proofs.UndecidedLaws.{none_undecided}
use Rattle.pmem_recovery.proofs.UpwardLaws.{made_root}
use Rattle.pmem_recovery.proofs.UpwardSteps.{AreMade-end}
use Rattle.pmem_recovery.proofs.MakingEnds.{after_work, IsStop, IsCutEnd, few_reads, cut_end}
use Rattle.pmem_recovery.proofs.BlockEnds.{AtBlock, blocks_end}
use Rattle.pmem_recovery.proofs.NodeEnds.{HasNodes, few_trials, all_tried, few_read, cut_after, line_ends, nodes_end}
use Rattle.pmem_recovery.proofs.ReadOnlyPlans.{Reading, reading_bind, reading_mapped, reading_more, reading_repeated}

-- ---- the shadow lines as they are read

-- as many as there are
shadow_long : (g : Shape) (lines : List Line) → length lines ≡ device_lines g → length (shadow_of g lines) ≡ shadow_lines g
shadow_long g lines whole =
    let low = shadow_line g 0 in
    let taken = length-take (device_lines g - low) (drop low lines) in
    let rest = length-drop low lines in
    omega (arith, taken, rest, whole)

-- read one by one
shadow_read : (g : Shape) (lines shadow : List Line) → length lines ≡ device_lines g → length shadow ≡ shadow_lines g → ((k : ℕ) → k < shadow_lines g → line_at shadow k ≡ line_at lines (shadow_line g k)) → shadow ≡ shadow_of g lines
shadow_read g lines shadow whole long each =
    ext_get_or zero_line shadow (shadow_of g lines) (long ∙ sym (shadow_long g lines whole))
    (λ k inside. each k (omega (arith, inside, long)) ∙ sym (line_at-shadow_of g lines k (omega (arith, inside, long))))

-- ---- the whole

-- all doubted lines are made, and the root is right
pub record IsMade (setup : Setup) (regs : Regs) (told : Option (List Line)) (first : SuiteCounts) (end : SuiteCounts × MadeLines) (n : ℕ) : Type 0 where
  pub counted : end.0 ≡ after_work end.1.work.trials end.1.work.digests first
  pub few_trials : end.1.work.trials ≤ 64 * regs.loss * most_blocks setup.shape
  pub few_digests : end.1.work.digests ≤ 4 * most_nodes setup.shape + 1
  pub few_reads : n ≤ most_reads setup.shape
  pub long : length end.1.shadow ≡ shadow_lines setup.shape
  pub few_made : length end.1.made ≤ most_blocks setup.shape + most_nodes setup.shape
  pub on_tree : All (λ entry. entry.at < meta_lines setup.shape) end.1.made
  pub over :
      IfLinesTold told
      (λ lines. HasMadeAll setup lines regs end.1.shadow end.1.made
      × IsAllWork setup.shape lines regs end.1.work.trials end.1.work.digests
      × (n ≡ all_reads setup.shape (shadow_of setup.shape lines) regs)
      × (n ≤ doubted_reads setup.shape (shadow_of setup.shape lines)))

module _ (setup : Setup) (regs : Regs) (told : Option (List Line)) (first : SuiteCounts) (valid : IsShape setup.shape) (loss : IsTrue (is_loss regs.loss)) where
  abbrev g : Shape
  g = setup.shape

  abbrev Stops : SuiteCounts × RecFault → ℕ → Type 0
  Stops = IsStop setup regs told first

  abbrev Cuts : SuiteCounts × RecFault → ℕ → Type 0
  Cuts = IsCutEnd setup regs told first

  -- ---- the root

  module _ (shadow : List Line) (long : length shadow ≡ shadow_lines setup.shape) (its_shadow : IfLinesTold told (λ lines. shadow ≡ shadow_of setup.shape lines))
      (blocks : RecoveryParts) (trials start : ℕ) (made_blocks : AtBlock setup regs told shadow first (meta_lines setup.shape) blocks trials start) where
    abbrev Nodes : RecoveryParts → ℕ → ℕ → Type 0
    Nodes parts digests n =
        HasNodes setup regs told shadow first valid its_shadow blocks trials start made_blocks (count_doubted setup.shape shadow 0 (level_start setup.shape.levels))
        (sum_doubted setup.shape shadow (node_reads setup.shape shadow) 0 (level_start setup.shape.levels)) (IsDoneTo 0 1) parts digests n

    module _ (parts : RecoveryParts) (digests n : ℕ) (nodes : Nodes parts digests n) where
      abbrev After : SuiteCounts × Unit {0} → ℕ → Type 0
      After end m = IsMade setup regs told first (end.0, made_lines shadow parts.made trials (digests + 1)) m

      all_made : (lines : List Line) → told ≡ Some lines → AreAllMade setup lines regs parts.made
      all_made lines its = AreMade-end setup lines regs parts.made (nodes.over lines its).0

      decided : (lines : List Line) → told ≡ Some lines → first_undecided setup lines regs ≡ None
      decided lines its =
          let o = made_blocks.over lines its in
          let pages_all : meta_lines g - level_start g.levels ≡ pages g = omega (arith, meta_lines-counters g) in
          none_undecided setup lines regs (subst (AreDecided setup lines regs) pages_all o.0.decided)

      -- the top line, as it was made or read
      module _ (top : Line) (m : ℕ) (reads : m ≡ n + unmade_reads parts.made 0) (its_top : IfLinesTold told (λ lines. top ≡ made_or_stored setup.shape lines parts.made 0)) where
        found : List ℕ
        found = setup.formulas.digest_of 0 top

        few_digests : digests + 1 ≤ 4 * most_nodes setup.shape + 1
        few_digests = omega (arith, nodes.its_digests, count_doubted-nodes g shadow valid)

        few_named : m ≤ doubted_reads setup.shape shadow
        few_named =
            few_read setup regs told shadow first valid its_shadow blocks trials start made_blocks m
            (omega (arith, reads, nodes.few, one_at_most (line_made parts.made 0)))
          where
            one_at_most : (o : Option Line) → (if is_some o then 0 else 1) ≤ 1
            one_at_most None = omega arith
            one_at_most (Some line) = omega arith

        so_few : (m ≤ most_reads g) × IfLinesTold told (λ lines. m ≤ doubted_reads g (shadow_of g lines))
        so_few = few_reads setup told shadow m valid its_shadow few_named

        counted : after_digest parts.counts ≡ after_work trials (digests + 1) first
        counted = ap after_digest nodes.counted ∙ ap (λ d. after_work trials d first) (sym (add-one digests))

        found_is : (lines : List Line) → told ≡ Some lines → found ≡ found_root setup lines regs
        unfolding found
        found_is lines its = ap (setup.formulas.digest_of 0) (its_top lines its) ∙ made_root setup lines regs parts.made (all_made lines its)

        all_work : (lines : List Line) → told ≡ Some lines → IsAllWork g lines regs trials (digests + 1)
        all_work lines its =
            let same = ap (λ s. count_doubted g s 0 (level_start g.levels)) (its_shadow lines its) in
            record {
              its_trials = all_tried setup regs told shadow first valid its_shadow blocks trials start made_blocks lines its;
              its_digests = omega (arith, nodes.its_digests, same);
            }

        so_many : (lines : List Line) → told ≡ Some lines → m ≡ all_reads g (shadow_of g lines) regs
        so_many lines its =
            let top_reads = top_reads_are setup lines regs parts.made (all_made lines its) in
            let o = nodes.over lines its in
            let counters = ap (λ s. sum_doubted g s (block_reads g regs) (level_start g.levels) (meta_lines g)) (its_shadow lines its) in
            let inner = ap (λ s. sum_doubted g s (node_reads g s) 0 (level_start g.levels)) (its_shadow lines its) in
            omega (arith, reads, top_reads, o.1, made_blocks.reads, counters, inner)

        compared : (b : Bool) → same_bytes regs.root found ≡ b
            → Reading told After Stops Cuts (if b then done (after_digest parts.counts, tt) else stop (after_digest parts.counts, Fault.Root regs.root found)) m
        unfolding Reading
        compared true is =
            record {
              counted = counted;
              few_trials = few_trials setup regs told shadow first valid its_shadow blocks trials start made_blocks;
              few_digests = few_digests;
              few_reads = so_few.0;
              long = long;
              few_made = omega (arith, nodes.many, made_blocks.many, count_doubted-counters g shadow valid, count_doubted-nodes g shadow valid);
              on_tree = nodes.on_tree;
              over = λ lines its. (
                record {
                  its_shadow = its_shadow lines its;
                  all_made = all_made lines its;
                  has_root = record { decided = decided lines its; root = sym (found_is lines its) ∙ sym (same_bytes-true regs.root found is) };
                },
                all_work lines its,
                so_many lines its,
                so_few.1 lines its,
              );
            }
        compared false is = (
          record {
            trials = trials;
            digests = digests + 1;
            counted = counted;
            few_trials = few_trials setup regs told shadow first valid its_shadow blocks trials start made_blocks;
            few_digests = few_digests;
            few_reads = so_few.0;
            shown = tt;
            over = λ lines its.
                let w = all_work lines its in
                record {
                  refusal =
                      record {
                        decided = decided lines its;
                        its_kept = refl;
                        its_found = found_is lines its;
                        differ = λ same. absurd (false≢true (sym is ∙ same_bytes-from regs.root found (sym same)));
                      };
                  work = (w.its_trials, w.its_digests);
                  few_reads = so_few.1 lines its;
                  reads = λ before after r. RisesBy-as m (all_reads g (shadow_of g lines) regs) before after (so_many lines its) r;
                };
          },
          λ old new goes. goes,
        )

      pub root_ends : Reading told After Stops Cuts (root_plan setup regs.root parts.made parts.counts) n
      unfolding root_plan compare_plan found
      root_ends =
          reading_bind _ _ _ _ (mapped (λ cut. (parts.counts, Fault.Cut)) (λ line. (parts.counts, line)) (made_plan g parts.made 0)) _ _
          (reading_mapped _ _ _ _ _ _ (made_plan g parts.made 0) _
          (reading_more _ _ _ _ _ (made_plan g parts.made 0) _
          (line_ends setup regs told shadow first valid its_shadow blocks trials start made_blocks (λ cut. Stops (parts.counts, Fault.Cut)) (λ cut. Cuts (parts.counts, Fault.Cut)) parts.made 0 n
          (cut_after setup regs told shadow first valid its_shadow blocks trials start made_blocks parts.counts digests n nodes.counted (omega (arith, nodes.its_digests)) (omega (arith, nodes.few))))
          (λ line m it. compared line m it.0 it.1 (same_bytes regs.root (setup.formulas.digest_of 0 line)) refl)))

    -- what comes after the blocks
    pub after_blocks_end : Reading told (IsMade setup regs told first) Stops Cuts (after_blocks setup regs shadow (blocks, trials)) start
    after_blocks_end =
        reading_bind _ _ _ _ (mapped (λ left. (left.0.counts, Fault.Cut)) (λ end. end) (nodes_plan setup shadow blocks)) _ _
        (reading_mapped _ _ _ _ _ _ (nodes_plan setup shadow blocks) _
        (reading_more _ _ _ _ _ (nodes_plan setup shadow blocks) _ (nodes_end setup regs told shadow first valid its_shadow blocks trials start made_blocks)
        (λ done m it. reading_mapped _ _ _ _ _ _ (root_plan setup regs.root done.0.made done.0.counts) _ (root_ends done.0 done.1 m it))))

  -- ---- the shadow lines

  module _ (whole : IfLinesTold told (λ lines. length lines ≡ device_lines setup.shape)) where
    record HasShadow (i : ℕ) (shadow : List Line) (n : ℕ) : Type 0 where
      pub reads : n ≡ i
      pub long : length shadow ≡ i
      pub over : IfLinesTold told (λ lines. (k : ℕ) → k < i → line_at shadow k ≡ line_at lines (shadow_line setup.shape k))

    cut_before : (n : ℕ) → n ≤ shadow_lines g → Cuts (first, Fault.Cut) n
    cut_before n few =
        cut_end setup regs told first first 0 0 n refl (omega arith) (omega arith) (omega (arith, few), λ lines its. omega (arith, few))
        (λ lines its.
        record { lines_tried = 0; within = omega arith; its_trials = sym (trials_below-none g lines regs); few_digests = omega arith; in_order = inr refl })

    shadow_turns : (i : ℕ) (t : List Line × Unit {0}) (n : ℕ) → i < shadow_lines g → HasShadow i t.0 n
        → Reading told (λ t. HasShadow (i + 1) t.0) (λ left. Stops (first, Fault.Cut)) (λ left. Cuts (first, Fault.Cut)) (shadow_turn g i t) n
    unfolding Reading
    shadow_turns i t n low now = (
      cut_before n (omega (arith, now.reads, low)),
      λ line whole_line tells.
          record {
            reads = omega (arith, now.reads);
            long = length-append t.0 (line ∷ []) ∙ omega (arith, now.long);
            over = λ lines its.
                shadow_more t.0 (t.0 ++ line ∷ []) line (λ k. line_at lines (shadow_line g k)) i refl now.long (now.over lines its)
                (subst (λ o. Tells o (shadow_line g i) line) its tells);
          },
    )

    -- ---- the whole

    pub making_ends : Reading told (IsMade setup regs told first) Stops Cuts (making_plan setup regs first) 0
    unfolding making_plan
    making_ends =
        reading_bind _ _ _ _ (mapped (λ left. (first, Fault.Cut)) (λ end. end) (shadow_plan g)) _ _
        (reading_mapped _ _ _ _ _ _ (shadow_plan g) _
        (reading_more _ _ _ _ _ (shadow_plan g) _
        (reading_repeated _ (λ i t. HasShadow i t.0) _ _ (shadow_turn g) (shadow_lines g) 0 (shadow_lines g) _ _ (omega arith) shadow_turns
        (record { reads = refl; long = refl; over = λ lines its k none. absurd (omega (arith, none)) }))
        (λ t m it. from_shadow t.0 m it.reads it.long (λ lines its. shadow_read g lines t.0 (whole lines its) it.long (it.over lines its)))))
      where
        from_shadow : (shadow : List Line) (m : ℕ) → m ≡ shadow_lines g → length shadow ≡ shadow_lines g → IfLinesTold told (λ lines. shadow ≡ shadow_of g lines)
            → Reading told (IsMade setup regs told first) Stops Cuts (after_shadow setup regs first (shadow, tt)) m
        from_shadow shadow m is long its_shadow =
            reading_bind _ _ _ _ (mapped (λ left. (left.0.counts, left.1)) (λ end. end) (blocks_plan setup regs shadow (recovery_parts [] first))) _ _
            (reading_mapped _ _ _ _ _ _ (blocks_plan setup regs shadow (recovery_parts [] first)) _
            (reading_more _ _ _ _ _ (blocks_plan setup regs shadow (recovery_parts [] first)) _ (blocks_end setup regs told shadow first valid loss its_shadow m is)
            (λ blocks k it. after_blocks_end shadow long its_shadow blocks.0 blocks.1 k it)))
