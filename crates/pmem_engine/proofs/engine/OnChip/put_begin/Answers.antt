-- A begin's group is the lowest lines of its page's path.
use Rattle.std.proofs.Common.{◌++◌, List, ℕ, length, sym, ap, ◌∙◌, arith}
use Rattle.pmem_base.specs.declared.lines.Line.{Line}
use Rattle.pmem_base.specs.Shape.{Shape}
use Rattle.meta_path.proofs.StoreLemmas.{length-path_lines}
use Rattle.plain_model.specs.Bounds.{begun_lines}
use Rattle.pmem_engine.specs.Sealing.{path_entries}
use Rattle.pmem_engine.proofs.Laws.GroupForms.{path_places, path_group, begin_filled}
use Rattle.pmem_engine.proofs.engine.OnChip.put_begin.Goals as goal

pub put_path-requires-clause-long : goal.put_path-requires-clause-long
put_path-requires-clause-long c =
    length-path_lines c.args.self.now.shape c.args.page c.args.path.now.lines.items c.requires.path

pub put_path-requires-clause-on_tree : goal.put_path-requires-clause-on_tree
put_path-requires-clause-on_tree c = path_places c.args.self.now.shape c.args.page c.args.path.now.lines.items c.requires.path

pub put_path-requires-clause-room : goal.put_path-requires-clause-room
put_path-requires-clause-room c = omega (arith, ap (λ (entries : List (ℕ × Line)). length entries) c.requires.no_group)

pub returns-clause-group : goal.returns-clause-group
returns-clause-group c =
    c.put_path.ensures.group
    ∙ ap (λ entries. entries ++ path_entries c.args.self.now.shape c.begun_lines.result c.args.path.now.lines.items) c.requires.no_group
    ∙ ap (λ grouped. path_entries c.args.self.now.shape grouped c.args.path.now.lines.items) c.begun_lines.ensures.value

pub returns-clause-is_group : goal.returns-clause-is_group
returns-clause-is_group c =
    let shape : Shape = c.args.self.now.shape in
    path_group shape c.args.page c.args.path.now.lines.items
    c.put_path.ensures.few c.requires.path (begun_lines shape)
    c.requires.whole

pub returns-clause-armed : goal.returns-clause-armed
returns-clause-armed c none =
    let shape : Shape = c.args.self.now.shape in
    begin_filled shape c.args.path.now.lines.items
    (length-path_lines shape c.args.page c.args.path.now.lines.items c.requires.path)
    c.put_path.ensures.policy
    (sym (returns-clause-group c) ∙ none)
