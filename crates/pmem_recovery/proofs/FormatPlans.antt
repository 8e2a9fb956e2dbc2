-- The plan of formatting, and the metadata lines that it writes.
use Rattle.std.proofs.Common.{ℕ, zero, suc, ◌≡◌, ◌<◌, ◌+◌, ◌-◌, ◌*◌, List, Ok, sym, ap, subst, ◌∙◌, arith}
use Rattle.std.proofs.lemmas.List.FromFn.{fill_by_all}
use Rattle.pmem_base.specs.declared.lines.Line.{Line}
use Rattle.pmem_base.specs.Shape.{IsShape}
use Rattle.pmem_base.specs.Layout as layout
use Rattle.pmem_base.specs.Lines.{line_at, zero_line}
use Rattle.board.specs.Device.{Device}
use Rattle.board.specs.Steps.{HasWritten, HasLatched}
use Rattle.call_plan.specs.Plans.{done, write, repeated, the_cut}
use Rattle.call_plan.specs.Following.{Follows}
use Rattle.call_plan.proofs.Steps.{is_done, write_then, latch_then}
use Rattle.call_plan.proofs.Bind.{bind_ok}
use Rattle.line_seal.specs.Seals.{with_tag}
use Rattle.split_counters.specs.Blocks.{packed}
use Rattle.bonsai_tree.specs.Positions.{level_of, child_position, counter_position}
use Rattle.bonsai_tree.specs.Nodes.{IsHashTree}
use Rattle.bonsai_tree.proofs.Levels.{IsAtLevel, child-IsAtLevel, level_of-le, level_of-IsAtLevel, counter_position-of_last, IsAtLevel-inner}
use Rattle.bonsai_tree.proofs.NodeLaws.{node_over-same}
use Rattle.suite.specs.Setup.{Setup}
use Rattle.pmem_engine.specs.Formatted.{first_block}
use Rattle.pmem_recovery.specs.Formatting.{first_cipher, first_tag, first_regs, first_line_above, first_line, first_truth, seal_turn, group_plan, seals_plan, metas_plan, zeros_plan, after_zeros, after_metas, after_seals, format_plan}

-- ---- the metadata lines

module _ (setup : Setup) (truth : List Line) (tree : IsHashTree setup.shape setup.formulas truth)
    (blocks : (page : ℕ) → page < layout.pages setup.shape → line_at truth (counter_position setup.shape page) ≡ packed (first_block setup.shape)) where
  -- a hash tree over first blocks has the first lines
  above_is : (j i x : ℕ) → i + j ≡ setup.shape.levels → IsAtLevel i x → line_at truth x ≡ first_line_above setup j x
  above_is zero i x e l =
      let lowest : i ≡ setup.shape.levels = omega arith in
      let at = counter_position-of_last setup.shape x (subst (λ k. IsAtLevel k x) lowest l) in
      ap (line_at truth) (sym at.1) ∙ blocks (x - counter_position setup.shape 0) at.0
  above_is (suc j) i x e l =
      tree.inner x (IsAtLevel-inner setup.shape.levels i x (omega arith) l)
      ∙ node_over-same setup.formulas x (line_at truth) (first_line_above setup j)
      (λ c small. above_is j (suc i) (child_position x c) (omega arith) (child-IsAtLevel i x c l small))

  pub first_truth_is : IsShape setup.shape → truth ≡ first_truth setup
  unfolding first_truth
  first_truth_is shape =
      fill_by_all (first_line setup) truth (layout.meta_lines setup.shape) zero_line tree.whole
      (λ x inside.
      above_is (setup.shape.levels - level_of x) (level_of x) x (let low = level_of-le setup.shape x shape.at_most_six_levels inside in omega arith)
      (level_of-IsAtLevel setup.shape x shape.at_most_six_levels inside))

-- ---- the steps

-- a line of a group, and its tag
pub sealed_so : (setup : Setup) (group i at : ℕ) (tags next : Line) (old new : Device) → at ≡ 4 * group + i → next ≡ with_tag tags at (first_tag setup at)
    → HasWritten old at (first_cipher setup at) new → Follows (seal_turn setup group i tags) old new (Ok next)
sealed_so setup group i at tags next old new here slot was =
    let its : next ≡ with_tag tags (4 * group + i) (first_tag setup (4 * group + i)) = slot ∙ ap (λ a. with_tag tags a (first_tag setup a)) here in
    subst (λ (l : Line). Follows (seal_turn setup group i tags) old new (Ok l)) (sym its)
    (write_then the_cut (subst (λ a. HasWritten old a (first_cipher setup a) new) here was)
    (is_done (with_tag tags (4 * group + i) (first_tag setup (4 * group + i))) new))

pub group_so : (setup : Setup) (group at : ℕ) (tags : Line) (old mid new : Device) → at ≡ layout.tag_line setup.shape (4 * group)
    → Follows (repeated (seal_turn setup group) 0 4 zero_line) old mid (Ok tags) → HasWritten mid at tags new → Follows (group_plan setup group) old new (Ok tt)
unfolding group_plan
group_so setup group at tags old mid new here first was =
    bind_ok (λ tags. write the_cut (layout.tag_line setup.shape (4 * group)) tags (done tt)) first
    (write_then the_cut (subst (λ n. HasWritten mid n tags new) here was) (is_done tt new))

-- all of them
pub format_so : (setup : Setup) (truth : List Line) (old sealed filled cleared new : Device) → truth ≡ first_truth setup
    → Follows (seals_plan setup) old sealed (Ok tt) → Follows (metas_plan setup.shape truth) sealed filled (Ok tt)
    → Follows (zeros_plan setup.shape) filled cleared (Ok tt) → HasLatched cleared (first_regs setup (line_at truth 0)) new
    → Follows (format_plan setup) old new (Ok tt)
unfolding format_plan
format_so setup truth old sealed filled cleared new is first second third last =
    bind_ok (after_seals setup (first_truth setup)) first
    (subst (λ t. Follows (after_seals setup t tt) sealed new (Ok tt)) is
    (bind_ok (after_metas setup truth) second (bind_ok (after_zeros setup truth) third (latch_then the_cut last (is_done tt new)))))
