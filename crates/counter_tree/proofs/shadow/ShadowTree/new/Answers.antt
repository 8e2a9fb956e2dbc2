-- Zero lines are lines, and the vector has them all.
use Rattle.std.proofs.Common.{suc, ◌≡◌, ◌+◌, replicate, ap, ◌∙◌, arith}
use Rattle.counter_tree.proofs.Common.{level_start}
use Rattle.counter_tree.proofs.ChipLemmas.{zero_tree}
use Rattle.counter_tree.proofs.shadow.ShadowTree.new.Goals as goal

pub invariant_of-result : goal.invariant_of-result
invariant_of-result c =
    let next : c.shadow_height-height.result + 1 ≡ suc c.shadow_height-height.result = omega arith in
    zero_tree c.shadow_height-height.result c.first_of_level.result _ c.shadow_height-height.ensures.least c.shadow_height-height.ensures.most (c.first_of_level.ensures.value ∙ ap level_start next)
    (c.in_ok-lines.ensures.items_if_clones_equal (λ y e. e) ∙ ap (replicate c.first_of_level.result) c.default.ensures)
