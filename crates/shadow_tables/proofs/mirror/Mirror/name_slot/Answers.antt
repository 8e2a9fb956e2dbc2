-- Whether the entry was written or named the position already.
use Rattle.std.proofs.Common.{◌+◌, ◌<◌, ◌^◌, arith}
use Rattle.pmem_base.specs.Geo.{shape_of}
use Rattle.pmem_base.proofs.LayoutLemmas.{meta_lines-most}
use Rattle.shadow_tables.proofs.NameLemmas.{Names-from_answer}
use Rattle.shadow_tables.proofs.mirror.Mirror.name_slot.Goals as goal

pub returns-clause-names : goal.returns-clause-names
returns-clause-names c =
    let small : c.args.x + 1 < 2 ^ 32 =
    omega (arith, c.requires.position, meta_lines-most (shape_of c.args.geo.now) c.args.geo.now.has_levels.1) in
    Names-from_answer (shape_of c.args.geo.now) c.args.self.now c.write_name.new.self c.args.bank c.args.slot c.args.x
    c.write_name.result c.requires.tables c.requires.bank c.requires.slot c.requires.mirror c.are_lines.ensures small
    c.write_name.ensures.already.0 c.write_name.ensures.same c.write_name.ensures.written
