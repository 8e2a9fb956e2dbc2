-- The names that most proofs of this crate cite, passed on from one place. Declares nothing.
pub use Rattle.board.specs.Steps.{HasRead, WasCut}
pub use Rattle.bonsai_tree.proofs.Levels.{IsAtLevel, parent-IsAtLevel, level_start-suc, meta_lines-level, level_start-le, child-IsAtLevel, IsAtLevel-inner, level_start-next, IsAtLevel-place, level_of-IsAtLevel, level_of-le}
pub use Rattle.bonsai_tree.proofs.NodeLaws.{node_over-same, AreSixteen, child_digest-node_over}
pub use Rattle.bonsai_tree.specs.Nodes.{node_over, child_digest_over, child_digest}
pub use Rattle.bonsai_tree.specs.Paths.{new_path, new_root, node_above, with_child_digest}
pub use Rattle.bonsai_tree.specs.Positions.{parent, child_slot, child_position, level_of, path_down_to, counter_position}
pub use Rattle.call_plan.proofs.Steps.{ended_err, is_done, is_stopped, read_then, read_cut}
pub use Rattle.counter_tree.specs.Layout.{tree_lines, tree_slots, line_of_node, line_of_tag, TreePart, data_part, tag_part, node_part, slot_part, IsTreePart, tree_place, tree_size, line_of_slot, IsTreeOneToOne}
pub use Rattle.counter_tree.specs.Nodes.{IsNode, zero_node, counter, total, node_read, version_counter, without_tag, node_tag_of, node_line}
pub use Rattle.counter_tree.specs.Plans.{ReadParts, read_parts, with_exhibit, tags_of_node, first_other, is_same_there, top_other}
pub use Rattle.counter_tree.specs.Shadow.{IsShadowTree, FirstDiffers, IsTopDifference, ChipTree, IsChipTree, IsAtLevelOf, shadow_tree_line, root_of, shape_of_height, up, IsShadowDifference, AreLeaves, first_height}
pub use Rattle.counter_tree.specs.Slots.{NamedNode}
pub use Rattle.counter_tree.specs.Trees.{node_at, line_position, entry_for, IsCounterTree, raised, with_raised, raised_up, IsRaised}
pub use Rattle.counter_tree.specs.Watch.{WatchState, IsSlotClash, last_seal_of, HasShown, forged_node}
pub use Rattle.counter_tree.specs.declared.accepted.FetchFault.{FetchFault}
pub use Rattle.counter_tree.specs.declared.nodes.Node.{Node}
pub use Rattle.counter_tree.specs.declared.watch.LineSeal.{LineSeal}
pub use Rattle.line_seal.specs.Seals.{unsealed, with_tag}
pub use Rattle.pmem_base.proofs.ByteLaws.{same_bytes-true, big_endian-AreBytes, same_bytes-from}
pub use Rattle.pmem_base.proofs.CountLemmas.{risen_times-add}
pub use Rattle.pmem_base.proofs.LayoutLemmas.{meta_lines-most, pages-most}
pub use Rattle.pmem_base.proofs.LineLemmas.{All-zero_lines, IsLine-line_at, lines-equal}
pub use Rattle.pmem_base.proofs.LineSets.{line_at-set_other, put_lines-append, line_at-set_same, put_bytes-IsLine, length-put_lines}
pub use Rattle.pmem_base.specs.Counts.{risen, risen_times}
pub use Rattle.pmem_base.specs.Geo.{shape_of}
pub use Rattle.pmem_base.specs.Layout.{meta_lines, level_start}
pub use Rattle.pmem_base.specs.Lines.{IsLine, line_at, put_lines, IsTag, line_of, big_endian, from_big_endian, tag_slot, same_bytes, xor_lines, AreBytes}
pub use Rattle.pmem_base.specs.Shape.{Shape, IsShape}
pub use Rattle.pmem_base.specs.declared.answers.Exhibit.{Exhibit}
pub use Rattle.pmem_base.specs.declared.answers.Exhibit.TheVariants.{Clash, Forged}
pub use Rattle.pmem_base.specs.declared.lines.Line.{Line}
pub use Rattle.seal_ledger.proofs.NoteLemmas.{same_line, other_line, other_bytes}
pub use Rattle.std.proofs.Math.Nat.{mul-le-mul, pow-le-pow_right, pow-suc, one-le-pow}
pub use Rattle.std.proofs.lemmas.Bool.{cases_eq, eq-eqb, cases_lt, cond-false, cond-true, cases_Bool, false≢true, or_parts, eqb-false, ne_eqb}
pub use Rattle.std.proofs.lemmas.List.{length-replicate, take_at, drop_at, length-take-le, ext_get_or, length-set, get_or-set_same, get_or-set_other}
pub use Rattle.std.proofs.lemmas.List.Elements.{All-replicate, All-append, All-nil}
pub use Rattle.std.specs.List.{range_with_len, list_any}
pub use Rattle.std.specs.Prelude.{All, None, slice_set, ◌==◌, Option, Some, nat_le, find, IsSome, if◌then◌else◌, IfSome, slice_range}
pub use Rattle.suite.specs.Formulas.{Formulas, AreInRange}
pub use Rattle.suite.specs.Setup.{Setup}
