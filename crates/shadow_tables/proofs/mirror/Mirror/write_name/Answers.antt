-- A position is below 5461.
use Rattle.std.proofs.Common.{arith}
use Rattle.pmem_base.specs.Geo.{shape_of}
use Rattle.pmem_base.proofs.LayoutLemmas.{meta_lines-most}
use Rattle.shadow_tables.proofs.mirror.Mirror.write_name.Goals as goal

pub overflow_add-x : goal.overflow_add-x
overflow_add-x c =
    omega (arith, c.requires.position, meta_lines-most (shape_of c.args.geo.now) c.args.geo.now.has_levels.1)

pub overflow_add-x-2 : goal.overflow_add-x-2
overflow_add-x-2 c =
    omega (arith, c.requires.position, meta_lines-most (shape_of c.args.geo.now) c.args.geo.now.has_levels.1)
