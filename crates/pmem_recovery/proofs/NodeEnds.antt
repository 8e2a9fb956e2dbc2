-- What recovery's plan leaves while it makes the doubted nodes.
use Rattle.std.proofs.Common.{ℕ, suc, ◌≡◌, ◌≤◌, ◌<◌, ◌+◌, ◌-◌, ◌*◌, true, false, List, [], ◌∷◌, ◌++◌, length, map, All, Option, Some, None, refl, sym, ap, ap₂, subst, ◌∙◌, inl, add-one, arith}
use Rattle.std.specs.Prelude.{is_some, unwrap_or, if◌then◌else◌}
use Rattle.std.specs.List.{range_with_len}
use Rattle.std.proofs.lemmas.List.{length-append, map-append}
use Rattle.std.proofs.lemmas.List.Elements.{All-append, All-cons, All-nil}
use Rattle.pmem_base.specs.declared.faults.Cut.{Cut}
use Rattle.pmem_base.specs.declared.lines.Line.{Line}
use Rattle.pmem_base.specs.declared.registers.Regs.{Regs}
use Rattle.pmem_base.specs.Shape.{Shape, IsShape}
use Rattle.pmem_base.specs.Layout.{data_lines, meta_lines, meta_line, level_start}
use Rattle.pmem_base.proofs.ListLaws.{range_more}
use Rattle.board.specs.Steps.{Tells}
use Rattle.bonsai_tree.specs.Positions.{counter_position}
use Rattle.bonsai_tree.specs.Nodes.{node_of, child_digest_over}
use Rattle.bonsai_tree.proofs.Levels.{IsAtLevel, IsAtLevel-inner, level_start-le, meta_lines-counters, meta_lines-level}
use Rattle.call_plan.specs.Plans.{repeated, for_each, the_cut}
use Rattle.shadow_tables.specs.Entries.{shadow_of}
use Rattle.suite.specs.Setup.{Setup}
use Rattle.plain_model.specs.Bounds.{most_blocks}
use Rattle.pmem_engine.specs.Invariants.{stored_meta}
use Rattle.pmem_recovery.specs.declared.entries.MadeEntry.{MadeEntry}
use Rattle.pmem_recovery.specs.declared.faults.RecFault.TheVariants as Fault
use Rattle.pmem_recovery.specs.Named.{doubts, count_doubted, IsNextAt}
use Rattle.pmem_recovery.specs.Trials.{trials_below}
use Rattle.pmem_recovery.specs.Reads.{sum_doubted, block_reads, unmade_reads, children_reads, node_reads, doubted_reads}
use Rattle.pmem_recovery.specs.Upward.{line_made, made_or_stored, node_made, AreMade, AreMadeTo, IsDoneTo}
use Rattle.pmem_recovery.specs.Parts.{IfLinesTold}
use Rattle.pmem_recovery.specs.Plans.{SuiteCounts, RecoveryParts, recovery_parts, after_digest, made_over, doubted_positions, line_made_or, made_plan, child_turn, children_plan, fixed_node_plan, node_turn, fixed_level_plan, level_turn, nodes_plan}
use Rattle.pmem_recovery.proofs.PartLaws.{few_in_all}
use Rattle.pmem_recovery.proofs.NamedLaws.{count_doubted-gap, count_doubted-parts, count_doubted-within, count_doubted-next, count_doubted-last, count_doubted-le, count_doubted-counters, count_doubted-nodes}
use Rattle.pmem_recovery.proofs.ReadLaws.{page_reads-le, children_reads-none, children_reads-more, node_reads_are, sum_doubted-parts, sum_doubted-next, sum_doubted-last, sum_doubted-le, sum_doubted-none}
use Rattle.pmem_recovery.proofs.UpwardSteps.{AreMadeTo-upto, AreMadeTo-node, AreMadeTo-next}
use Rattle.pmem_recovery.proofs.MakingEnds.{after_work, IsStop, IsCutEnd, few_reads, cut_end}
use Rattle.pmem_recovery.proofs.BlockEnds.{AtBlock}
use Rattle.pmem_recovery.proofs.ReadOnlyPlans.{Reading, reading_mapped, reading_more, reading_repeated, reading_positions}

module _ (setup : Setup) (regs : Regs) (told : Option (List Line)) (shadow : List Line) (first : SuiteCounts) (valid : IsShape setup.shape)
    (its_shadow : IfLinesTold told (λ lines. shadow ≡ shadow_of setup.shape lines)) (blocks : RecoveryParts) (trials start : ℕ)
    (made_blocks : AtBlock setup regs told shadow first (meta_lines setup.shape) blocks trials start) where
  abbrev g : Shape
  g = setup.shape

  abbrev bottom : ℕ
  bottom = level_start setup.shape.levels

  -- how many nodes are doubted, and how many lines are read for those of a part of the tree
  abbrev all : ℕ
  all = count_doubted setup.shape shadow 0 (level_start setup.shape.levels)

  abbrev reads_of : ℕ → ℕ → ℕ
  reads_of a b = sum_doubted setup.shape shadow (node_reads setup.shape shadow) a b

  abbrev Stops : SuiteCounts × Cut → ℕ → Type 0
  Stops left = IsStop setup regs told first (left.0, Fault.Cut)

  abbrev Cuts : SuiteCounts × Cut → ℕ → Type 0
  Cuts left = IsCutEnd setup regs told first (left.0, Fault.Cut)

  abbrev NodeStops : RecoveryParts × Cut → ℕ → Type 0
  NodeStops left = IsStop setup regs told first (left.0.counts, Fault.Cut)

  abbrev NodeCuts : RecoveryParts × Cut → ℕ → Type 0
  NodeCuts left = IsCutEnd setup regs told first (left.0.counts, Fault.Cut)

  -- the nodes made, those of the positions that are done
  pub record HasNodes (nodes sum : ℕ) (done : ℕ → Type 0) (parts : RecoveryParts) (digests n : ℕ) : Type 0 where
    pub counted : parts.counts ≡ after_work trials digests first
    pub its_digests : digests ≡ 4 * nodes
    pub few : n ≤ start + 5 * nodes
    pub many : length parts.made ≡ length blocks.made + nodes
    pub on_tree : All (λ entry. entry.at < meta_lines setup.shape) parts.made
    pub over : IfLinesTold told (λ lines. AreMade setup lines regs done parts.made × (n ≡ start + sum))

  pub few_trials : trials ≤ 64 * regs.loss * most_blocks setup.shape
  few_trials =
      few_in_all trials (64 * regs.loss) (count_doubted g shadow bottom (meta_lines g)) (most_blocks g) made_blocks.few (count_doubted-counters g shadow valid)

  pub all_tried : (lines : List Line) → told ≡ Some lines → trials ≡ trials_below setup.shape lines regs (data_lines setup.shape)
  all_tried lines its =
      let whole : 64 * (meta_lines g - bottom) ≡ data_lines g = omega (arith, meta_lines-counters g) in
      (made_blocks.over lines its).1 ∙ ap (trials_below g lines regs) whole

  pub few_read : (n : ℕ) → n ≤ start + 5 * all + 1 → n ≤ doubted_reads setup.shape shadow
  few_read n few =
      let blocks = sum_doubted-le g shadow (block_reads g regs) 129 (λ x. omega (arith, page_reads-le regs.progress.items (x - (bottom + 0)) 64)) bottom (meta_lines g) in
      omega (arith, few, made_blocks.reads, blocks)

  -- a cut after the trials
  pub cut_after : (counts : SuiteCounts) (digests n : ℕ) → counts ≡ after_work trials digests first → digests ≤ 4 * all + 1 → n ≤ start + 5 * all + 1
      → IsCutEnd setup regs told first (counts, Fault.Cut) n
  cut_after counts digests n counted few reads =
      cut_end setup regs told first counts trials digests n counted few_trials (omega (arith, few, count_doubted-nodes g shadow valid))
      (few_reads setup told shadow n valid its_shadow (few_read n reads))
      (λ lines its.
      let same = ap (λ s. count_doubted g s 0 bottom) (its_shadow lines its) in
      record { lines_tried = data_lines g; within = omega arith; its_trials = all_tried lines its; few_digests = omega (arith, few, same); in_order = inl refl })

  -- ---- a line that was made, or is read

  pub line_ends : (err cut : Cut → ℕ → Type 0) (made : List MadeEntry) (x n : ℕ) → cut the_cut n
      → Reading told (λ line m. (m ≡ n + unmade_reads made x) × IfLinesTold told (λ lines. line ≡ made_or_stored setup.shape lines made x)) err cut
      (made_plan setup.shape made x) n
  unfolding line_made_or Reading
  line_ends err cut made x n here = go (line_made made x) refl
    where
      go : (o : Option Line) → line_made made x ≡ o
          → Reading told (λ line m. (m ≡ n + unmade_reads made x) × IfLinesTold told (λ lines. line ≡ made_or_stored g lines made x)) err cut (line_made_or g x o) n
      go (Some line) is =
          let none : unmade_reads made x ≡ 0 = ap (λ (o : Option Line). if is_some o then 0 else 1) is in
          (omega (arith, none), λ lines its. sym (ap (λ o. unwrap_or o (stored_meta g lines x)) is))
      go None is = (
        here,
        λ line whole tells.
            let one : unmade_reads made x ≡ 1 = ap (λ (o : Option Line). if is_some o then 0 else 1) is in (
              omega (arith, one),
              λ lines its. subst (λ o. Tells o (meta_line g x) line) its tells ∙ sym (ap (λ o. unwrap_or o (stored_meta g lines x)) is),
            ),
      )

  -- ---- a node

  module _ (level x : ℕ) (above : level < setup.shape.levels) (at : IsAtLevel level x) (named : doubts setup.shape shadow x ≡ true) (nodes sum : ℕ)
      (room : nodes + 1 ≤ all) (parts : RecoveryParts) (digests n : ℕ) (so_far : HasNodes nodes sum (IsDoneTo level x) parts digests n) where
    -- its first children's digests are made
    record HasChildren (i : ℕ) (counts : SuiteCounts) (made : List (List ℕ)) (m : ℕ) : Type 0 where
      pub counted : counts ≡ after_work trials (digests + i) first
      pub few : m ≤ n + 1 + i
      pub over :
          IfLinesTold told
          (λ lines. (m ≡ n + 1 + children_reads parts.made x i)
          × (made ≡ map (child_digest_over setup.formulas x (made_or_stored setup.shape lines parts.made)) (range_with_len 0 i)))

    child_ends : (i : ℕ) (t : SuiteCounts × List (List ℕ)) (m : ℕ) → i < 4 → HasChildren i t.0 t.1 m
        → Reading told (λ end k. HasChildren (i + 1) end.0 end.1 k) Stops Cuts (child_turn setup parts.made x i t) m
    child_ends i t m low before =
        reading_mapped _ _ _ _ _ _ (made_plan g parts.made (4 * x + 1 + i)) _
        (reading_more _ _ _ _ _ (made_plan g parts.made (4 * x + 1 + i)) _
        (line_ends (λ cut. Stops (t.0, cut)) (λ cut. Cuts (t.0, cut)) parts.made (4 * x + 1 + i) m
        (cut_after t.0 (digests + i) m before.counted (omega (arith, so_far.its_digests, room, low)) (omega (arith, before.few, so_far.few, room, low))))
        (λ line k it. record {
          counted = ap after_digest before.counted ∙ ap (λ d. after_work trials d first) (one_more digests i);
          few = omega (arith, before.few, it.0, one_at_most parts.made (4 * x + 1 + i));
          over = λ lines its.
              let b = before.over lines its in (
                omega (arith, it.0, b.0, children_reads-more parts.made x i),
                ap₂ (λ ds l. ds ++ setup.formulas.digest_of (4 * x + 1 + i) l ∷ []) b.1 (it.1 lines its) ∙ pushed lines i,
              );
        }))
      where
        one_more : (d i : ℕ) → suc (d + i) ≡ d + (i + 1)
        one_more d i = omega arith

        one_at_most : (made : List MadeEntry) (y : ℕ) → unmade_reads made y ≤ 1
        one_at_most made y = few (line_made made y)
          where
            few : (o : Option Line) → (if is_some o then 0 else 1) ≤ 1
            few None = omega arith
            few (Some line) = omega arith

        pushed : (lines : List Line) (i : ℕ)
            → map (child_digest_over setup.formulas x (made_or_stored g lines parts.made)) (range_with_len 0 i)
            ++ child_digest_over setup.formulas x (made_or_stored g lines parts.made) i ∷ []
            ≡ map (child_digest_over setup.formulas x (made_or_stored g lines parts.made)) (range_with_len 0 (i + 1))
        pushed lines i =
            let digest : ℕ → List ℕ = child_digest_over setup.formulas x (made_or_stored g lines parts.made) in
            let place : 0 + i ≡ i = omega arith in
            sym (ap (λ k. map digest (range_with_len 0 k)) (add-one i) ∙ ap (map digest) (range_more 0 i)
            ∙ map-append digest (range_with_len 0 i) ((0 + i) ∷ []) ∙ ap (λ k. map digest (range_with_len 0 i) ++ digest k ∷ []) place)

    pub node_ends : Reading told (λ end m. HasNodes (nodes + 1) (sum + node_reads setup.shape shadow x) (IsDoneTo level (x + 1)) end.0 (digests + 4) m) NodeStops NodeCuts
        (fixed_node_plan setup x parts) n
    unfolding fixed_node_plan children_plan Reading
    node_ends = (
      cut_after parts.counts digests n so_far.counted (omega (arith, so_far.its_digests, room)) (omega (arith, so_far.few, room)),
      λ line whole tells.
          reading_mapped _ _ _ _ _ _ (children_plan setup parts.made x parts.counts) _
          (reading_mapped _ _ _ _ _ _ (repeated (child_turn setup parts.made x) 0 4 (parts.counts, [])) _
          (reading_more _ _ _ _ _ (repeated (child_turn setup parts.made x) 0 4 (parts.counts, [])) _
          (reading_repeated _ (λ i t m. HasChildren i t.0 t.1 m) _ _ (child_turn setup parts.made x) 4 0 4 _ _ refl child_ends at_first)
          (λ end m it. made_so line tells end.0 end.1 m it))),
    )
      where
        at_first : HasChildren 0 parts.counts [] (n + 1)
        at_first =
            let none : digests ≡ digests + 0 = omega arith in
            record {
              counted = so_far.counted ∙ ap (λ d. after_work trials d first) none;
              few = omega arith;
              over = λ lines its. (omega (arith, children_reads-none parts.made x), refl);
            }

        inside : x < meta_lines g
        inside = IsAtLevel-inner (setup.shape.levels + 1) level x (omega (arith, above)) at

        made_so : (line : Line) → Tells told (meta_line g x) line → (counts : SuiteCounts) (children : List (List ℕ)) (m : ℕ) → HasChildren 4 counts children m
            → HasNodes (nodes + 1) (sum + node_reads g shadow x) (IsDoneTo level (x + 1))
            (recovery_parts (parts.made ++ made_over x line (node_of children) ∷ []) counts) (digests + 4) m
        made_so line tells counts children m it =
            let entry : MadeEntry = made_over x line (node_of children) in
            record {
              counted = it.counted;
              its_digests = omega (arith, so_far.its_digests);
              few = omega (arith, it.few, so_far.few);
              many = length-append parts.made (entry ∷ []) ∙ omega (arith, so_far.many);
              on_tree =
                  All-append (λ (entry : MadeEntry). entry.at < meta_lines g) parts.made (entry ∷ []) so_far.on_tree
                  (All-cons (λ (entry : MadeEntry). entry.at < meta_lines g) entry [] inside (All-nil (λ (entry : MadeEntry). entry.at < meta_lines g)));
              over = λ lines its.
                  let o = so_far.over lines its in
                  let c = it.over lines its in
                  let its_line : line ≡ stored_meta g lines x = subst (λ o. Tells o (meta_line g x) line) its tells in
                  let same : entry ≡ node_made setup lines parts.made x = ap₂ (λ l ds. made_over x l (node_of ds)) its_line c.1 in
                  let reads = node_reads_are setup lines regs level x x parts.made above at o.0 in
                  let shadows = ap (λ s. node_reads g s x) (its_shadow lines its) in (
                    subst (λ (e : MadeEntry). AreMadeTo setup lines regs level (x + 1) (parts.made ++ e ∷ [])) (sym same)
                        (AreMadeTo-node setup lines regs level x parts.made valid above at (subst (λ s. doubts g s x ≡ true) (its_shadow lines its) named) o.0),
                    omega (arith, c.0, o.1, reads, shadows),
                  );
            }

  -- said with other numbers
  same_nodes : {nodes sum digests more all_sum last : ℕ} {done : ℕ → Type 0} {parts : RecoveryParts} {n : ℕ} → nodes ≡ more → sum ≡ all_sum → digests ≡ last
      → HasNodes nodes sum done parts digests n → HasNodes more all_sum done parts last n
  same_nodes {nodes} {sum} {digests} {more} {all_sum} {last} {done} {parts} {n} a b c it =
      subst (λ k. HasNodes k all_sum done parts last n) a (subst (λ k. HasNodes nodes k done parts last n) b (subst (λ k. HasNodes nodes sum done parts k n) c it))

  -- ---- a level

  module _ (level : ℕ) (above : level < setup.shape.levels) (nodes sum : ℕ)
      (room : nodes + count_doubted setup.shape shadow (level_start level) (level_start (suc level)) ≤ all) (digests : ℕ) where
    abbrev low : ℕ
    low = level_start level

    abbrev end : ℕ
    end = level_start (suc level)

    Holds : ℕ → RecoveryParts × ℕ → ℕ → Type 0
    Holds x t m = HasNodes (nodes + count_doubted g shadow low x) (sum + reads_of low x) (IsDoneTo level x) t.0 (digests + t.1) m

    node_turns : (x : ℕ) (t : RecoveryParts × ℕ) (n : ℕ) → low ≤ x → x < end → doubts g shadow x ≡ true → Holds x t n
        → Reading told (Holds (x + 1)) NodeStops NodeCuts (node_turn setup x t) n
    unfolding Holds
    node_turns x t n from inside named now =
        let next : IsNextAt (doubts g shadow) x end x = record { low = omega arith; high = inside; passes = named; before = λ y up less. absurd (omega (arith, up, less)) } in
        let count = count_doubted-next g shadow low x end x from next in
        let reads = sum_doubted-next g shadow (node_reads g shadow) low x end x from next in
        let few = count_doubted-le g shadow low (x + 1) end (omega (arith, from)) (omega (arith, inside)) in
        let here : ℕ = nodes + count_doubted g shadow low x in
        let so_far : ℕ = sum + reads_of low x in
        let more : digests + t.1 + 4 ≡ digests + (t.1 + 4) = omega arith in
        reading_mapped _ _ _ _ _ _ (fixed_node_plan setup x t.0) _
        (reading_more _ _ _ _ _ (fixed_node_plan setup x t.0) _
        (node_ends level x above (record { from = from; below = inside }) named here so_far (omega (arith, count, few, room)) t.0 (digests + t.1) n now)
        (λ done m it. same_nodes (omega (arith, count)) (omega (arith, reads)) more it))

    unnamed : (x : ℕ) (t : RecoveryParts × ℕ) (n : ℕ) → low ≤ x → x < end → doubts g shadow x ≡ false → Holds x t n → Holds (x + 1) t n
    unfolding Holds
    unnamed x t n from inside none now =
        let gap : (y : ℕ) → x ≤ y → y < x + 1 → doubts g shadow y ≡ false = λ y up to.
        let same : x ≡ y = omega arith in subst (λ z. doubts g shadow z ≡ false) same none in
        let count = count_doubted-last g shadow low x (x + 1) from (omega arith) gap in
        let reads = sum_doubted-last g shadow (node_reads g shadow) low x (x + 1) from (omega arith) gap in
        let it = same_nodes {done = IsDoneTo level x} {parts = t.0} {n = n} (ap (λ k. nodes + k) (sym count)) (ap (λ k. sum + k) (sym reads)) refl now in
        record {
          counted = it.counted;
          its_digests = it.its_digests;
          few = it.few;
          many = it.many;
          on_tree = it.on_tree;
          over = λ lines its.
              let o = it.over lines its in
              (AreMadeTo-upto setup lines regs level x (x + 1) t.0.made from (omega arith) (λ y up to. subst (λ s. doubts g s y ≡ false) (its_shadow lines its) (gap y up to)) o.0, o.1);
        }

    pub level_ends : (parts : RecoveryParts) (n : ℕ) → HasNodes nodes sum (IsDoneTo level low) parts digests n
        → Reading told (λ done m. HasNodes (nodes + count_doubted setup.shape shadow (level_start level) (level_start (suc level))) (sum + reads_of (level_start level) (level_start (suc level))) (IsDoneTo level (level_start (suc level))) done.0 (digests + done.1) m)
        NodeStops NodeCuts (fixed_level_plan setup shadow level parts) n
    unfolding Holds
    level_ends parts n now =
        let up = level_start-le level (suc level) (omega arith) in
        let none : digests ≡ digests + 0 = omega arith in
        let count = count_doubted-gap g shadow low low (λ y from to. absurd (omega (arith, from, to))) in
        let reads = sum_doubted-none g shadow (node_reads g shadow) low low refl in
        subst (λ k. Reading told (Holds end) NodeStops NodeCuts (for_each (node_turn setup) (doubted_positions g shadow low (level_start k)) (parts, 0)) n) (sym (add-one level))
        (reading_positions _ Holds _ _ (node_turn setup) (λ x. doubts g shadow x) low end node_turns unnamed low (end - low) (parts, 0) n (omega arith) (omega (arith, up))
        (same_nodes (omega (arith, count)) (omega (arith, reads)) none now))

  -- ---- all levels

  Levels : ℕ → RecoveryParts × ℕ → ℕ → Type 0
  Levels i t m =
      HasNodes (count_doubted g shadow (level_start (setup.shape.levels - i)) bottom) (reads_of (level_start (setup.shape.levels - i)) bottom)
      (IsDoneTo (setup.shape.levels - i) (level_start (suc (setup.shape.levels - i)))) t.0 t.1 m

  level_turns : (i : ℕ) (t : RecoveryParts × ℕ) (n : ℕ) → i < setup.shape.levels → Levels i t n → Reading told (Levels (i + 1)) NodeStops NodeCuts (level_turn setup shadow i t) n
  unfolding Levels
  level_turns i t n inside now =
      let level : ℕ = setup.shape.levels - 1 - i in
      let below : setup.shape.levels - i ≡ suc level = omega (arith, inside) in
      let again : level ≡ setup.shape.levels - (i + 1) = omega (arith, inside) in
      let rest : ℕ = count_doubted g shadow (level_start (suc level)) bottom in
      let sum : ℕ = reads_of (level_start (suc level)) bottom in
      let first_le = level_start-le level (suc level) (omega arith) in
      let rest_le = level_start-le (suc level) setup.shape.levels (omega (arith, inside)) in
      let parts = count_doubted-parts g shadow (level_start level) (level_start (suc level)) bottom first_le rest_le in
      let sums = sum_doubted-parts g shadow (node_reads g shadow) (level_start level) (level_start (suc level)) bottom first_le rest_le in
      let few = count_doubted-within g shadow (level_start level) bottom bottom (omega (arith, first_le, rest_le)) (omega arith) in
      let so_far : HasNodes rest sum (IsDoneTo (suc level) (level_start (suc (suc level)))) t.0 t.1 n =
      subst (λ k. HasNodes (count_doubted g shadow (level_start k) bottom) (reads_of (level_start k) bottom) (IsDoneTo k (level_start (suc k))) t.0 t.1 n) below now in
      let next : HasNodes rest sum (IsDoneTo level (level_start level)) t.0 t.1 n =
      record {
        counted = so_far.counted;
        its_digests = so_far.its_digests;
        few = so_far.few;
        many = so_far.many;
        on_tree = so_far.on_tree;
        over = λ lines its. let o = so_far.over lines its in (AreMadeTo-next setup lines regs level t.0.made o.0, o.1);
      } in
      reading_mapped _ _ _ _ _ _ (fixed_level_plan setup shadow level t.0) _
      (reading_more _ _ _ _ _ (fixed_level_plan setup shadow level t.0) _ (level_ends level (omega (arith, inside)) rest sum (omega (arith, parts, few)) t.1 t.0 n next)
      (λ done m it.
      subst (λ k. HasNodes (count_doubted g shadow (level_start k) bottom) (reads_of (level_start k) bottom) (IsDoneTo k (level_start (suc k))) done.0 (t.1 + done.1) m) again
      (same_nodes (omega (arith, parts)) (omega (arith, sums)) refl it)))

  pub nodes_end : Reading told (λ done m. HasNodes all (reads_of 0 (level_start setup.shape.levels)) (IsDoneTo 0 1) done.0 done.1 m) NodeStops NodeCuts (nodes_plan setup shadow blocks) start
  unfolding Levels
  nodes_end =
      let last : setup.shape.levels - setup.shape.levels ≡ 0 = omega arith in
      let none_yet : setup.shape.levels ≡ setup.shape.levels - 0 = omega arith in
      let none : count_doubted g shadow bottom bottom ≡ 0 = count_doubted-gap g shadow bottom bottom (λ y from to. absurd (omega (arith, from, to))) in
      let no_reads : reads_of bottom bottom ≡ 0 = sum_doubted-none g shadow (node_reads g shadow) bottom bottom refl in
      reading_more _ _ _ _ _ (nodes_plan setup shadow blocks) _
      (reading_repeated _ Levels _ _ (level_turn setup shadow) setup.shape.levels 0 setup.shape.levels _ _ (omega arith) level_turns
      (subst (λ k. HasNodes (count_doubted g shadow (level_start k) bottom) (reads_of (level_start k) bottom) (IsDoneTo k (level_start (suc k))) blocks 0 start) none_yet
      (record {
        counted = made_blocks.counted;
        its_digests = omega (arith, none);
        few = omega arith;
        many = omega (arith, none);
        on_tree = made_blocks.on_tree;
        over = λ lines its.
            let o = made_blocks.over lines its in
            let place : counter_position g (meta_lines g - bottom) ≡ level_start (suc setup.shape.levels) = omega (arith, meta_lines-counters g, meta_lines-level g) in
            (subst (λ m. AreMadeTo setup lines regs setup.shape.levels m blocks.made) place o.0.blocks, omega (arith, no_reads));
      })))
      (λ done m it.
      subst (λ k. HasNodes (count_doubted g shadow (level_start k) bottom) (reads_of (level_start k) bottom) (IsDoneTo k (level_start (suc k))) done.0 done.1 m) last it)
