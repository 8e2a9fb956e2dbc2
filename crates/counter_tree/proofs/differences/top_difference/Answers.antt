-- One level more.
use Rattle.std.proofs.Common.{suc, ◌≡◌, ◌+◌, sym, ap, subst, ◌∙◌, arith, rules}
use Rattle.counter_tree.proofs.Common.{level_start, up, IsTopDifference}
use Rattle.counter_tree.proofs.DifferenceLemmas.{up-within, up-below_top, leaf-is, level-before, highest-first, highest-more}
use Rattle.counter_tree.proofs.differences.top_difference.Goals as goal

pub parent-x-requires : goal.parent-x-requires
parent-x-requires c = search (rules, up-below_top, leaf-is, level-before)

pub higher-found-requires-clause-seen : goal.higher-found-requires-clause-seen
higher-found-requires-clause-seen c = search (rules, up-within, leaf-is, level-before)

pub higher-found-requires-clause-kept : goal.higher-found-requires-clause-kept
higher-found-requires-clause-kept c = search (rules, up-within, leaf-is, level-before)

pub levels-init : goal.levels-init
levels-init c = search (rules, highest-first)

pub levels-preserved : goal.levels-preserved
levels-preserved c =
    let next : c.levels.level + 1 ≡ suc c.levels.level = omega arith in
    let place : c.parent-x.result ≡ up (suc c.levels.level) (level_start c.args.seen.now.height + c.args.i) = search rules in
    record {
      place = place ∙ ap (λ n. up n (level_start c.args.seen.now.height + c.args.i)) (sym next);
      highest =
          subst (λ n. IsTopDifference n c.args.seen.now.lines c.args.kept.now.lines (level_start c.args.seen.now.height + c.args.i) c.higher-found.result) (sym next)
          (highest-more c.args.seen.now.lines c.args.kept.now.lines (level_start c.args.seen.now.height + c.args.i) c.levels.level c.parent-x.result c.levels.found
          c.higher-found.result place c.higher-found.ensures.same c.higher-found.ensures.other c.levels.invariant.highest);
    }
