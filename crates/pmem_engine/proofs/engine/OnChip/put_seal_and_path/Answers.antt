-- A seal's lines come before those of the path.
use Rattle.std.proofs.Common.{◌++◌, List, ℕ, length, sym, ap, subst, ◌∙◌, arith}
use Rattle.pmem_base.specs.declared.lines.Line.{Line}
use Rattle.pmem_base.specs.Layout.{device_lines, page_of}
use Rattle.pmem_base.specs.Registers.{IsGroup}
use Rattle.pmem_base.specs.Shape.{Shape}
use Rattle.meta_path.proofs.StoreLemmas.{length-path_lines}
use Rattle.pmem_engine.specs.Sealing.{path_entries}
use Rattle.pmem_engine.proofs.Laws.GroupForms.{path_places, seal_form}
use Rattle.pmem_engine.proofs.PlannedCalls.OwnSeals.{filled}
use Rattle.pmem_engine.proofs.engine.OnChip.put_seal_and_path.Goals as goal

pub put_path-requires-clause-long : goal.put_path-requires-clause-long
put_path-requires-clause-long c =
    length-path_lines c.args.self.now.shape (page_of c.args.next.now.at) c.args.path.now.lines.items c.requires.path

pub put_path-requires-clause-on_tree : goal.put_path-requires-clause-on_tree
put_path-requires-clause-on_tree c =
    path_places c.args.self.now.shape (page_of c.args.next.now.at) c.args.path.now.lines.items c.requires.path

pub put_path-requires-clause-room : goal.put_path-requires-clause-room
put_path-requires-clause-room c =
    omega (arith, ap (λ (entries : List (ℕ × Line)). length entries) c.put_seal.ensures.group)

pub returns-clause-group : goal.returns-clause-group
returns-clause-group c =
    c.put_path.ensures.group
    ∙ ap (λ entries. entries ++ path_entries c.args.self.now.shape c.args.grouped c.args.path.now.lines.items) c.put_seal.ensures.group

pub returns-clause-is_group : goal.returns-clause-is_group
returns-clause-is_group c =
    let shape : Shape = c.args.self.now.shape in
    seal_form shape (page_of c.args.next.now.at) c.args.path.now.lines.items
    c.put_path.ensures.few c.requires.path c.args.grouped
    c.requires.whole c.args.next.now c.requires.line
    (subst (λ entries. IsGroup (device_lines shape) entries) c.put_seal.ensures.group c.put_seal.ensures.is_group)

pub returns-clause-armed : goal.returns-clause-armed
returns-clause-armed c none =
    filled c.args.self.now.shape c.args.next.now c.args.grouped c.args.path.now.lines.items (sym (returns-clause-group c) ∙ none)
