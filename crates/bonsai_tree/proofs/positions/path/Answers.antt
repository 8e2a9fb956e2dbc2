-- Each turn goes one level down.
use Rattle.std.proofs.Common.{rules, arith, ◌<◌, ◌-◌, ◌+◌, sym, subst, ap, ◌∙◌}
use Rattle.std.proofs.Math.Nat.{one-le-pow}
use Rattle.std.specs.Prelude.{All, slice_index}
use Rattle.pmem_base.specs.Geo.{shape_of}
use Rattle.pmem_base.specs.Layout.{meta_lines}
use Rattle.bonsai_tree.proofs.PathPositions.{path_position-small, quarter-is, next-is, path-is, path-done, path_of-top, path_of-within}
use Rattle.bonsai_tree.proofs.positions.path.Goals as goal

pub overflow_mul-x : goal.overflow_mul-x
overflow_mul-x c =
    omega (arith, path_position-small (shape_of c.args.geo.now) c.args.page c.loop-level._level c.requires c.args.geo.now.has_levels.1 (omega arith), c.loop-level.invariant.last)

pub overflow_add-x : goal.overflow_add-x
overflow_add-x c =
    omega (arith, path_position-small (shape_of c.args.geo.now) c.args.page c.loop-level._level c.requires c.args.geo.now.has_levels.1 (omega arith), c.loop-level.invariant.last)

pub nonzero_div-x : goal.nonzero_div-x
nonzero_div-x c =
    omega (arith, quarter-is c.args.geo.now.levels c.loop-level._level c.loop-level.pages_below (omega arith) c.loop-level.invariant.below, one-le-pow (c.args.geo.now.levels - (c.loop-level._level + 1)) 4 (omega arith))

pub overflow_add-x-in-loop-level : goal.overflow_add-x-in-loop-level
overflow_add-x-in-loop-level c =
    omega (arith, path_position-small (shape_of c.args.geo.now) c.args.page c.loop-level._level c.requires c.args.geo.now.has_levels.1 (omega arith), c.loop-level.invariant.last)

pub loop-level-preserved : goal.loop-level-preserved
loop-level-preserved c =
    let g = shape_of c.args.geo.now in
    let above : c.loop-level._level < c.args.geo.now.levels = omega arith in
    record {
      path =
          path-is g c.args.page c.loop-level._level c.loop-level.x c.loop-level.pages_below c.loop-level.path.items
          c.push-in-loop-level.new.self.items above c.loop-level.invariant.last c.loop-level.invariant.below
          c.loop-level.invariant.path c.push-in-loop-level.ensures.items;
      long = search rules;
      last =
          next-is g c.args.page c.loop-level._level c.loop-level.x c.loop-level.pages_below above c.loop-level.invariant.last
          c.loop-level.invariant.below;
      below = quarter-is c.args.geo.now.levels c.loop-level._level c.loop-level.pages_below above c.loop-level.invariant.below;
    }

pub returns-clause-top : goal.returns-clause-top
returns-clause-top c =
    let g = shape_of c.args.geo.now in
    ap (λ xs. slice_index xs 0) (path-done g c.args.page c.loop-level._level c.loop-level.path.items (omega arith) c.loop-level.invariant.path)
    ∙ path_of-top g c.args.page c.requires

pub returns-clause-within : goal.returns-clause-within
returns-clause-within c =
    let g = shape_of c.args.geo.now in
    subst (All (λ x. x < meta_lines g)) (sym (path-done g c.args.page c.loop-level._level c.loop-level.path.items (omega arith) c.loop-level.invariant.path))
    (path_of-within g c.args.page c.requires)
