-- The names that most proofs of this crate cite, passed on from one place. Declares nothing.
pub use Rattle.asit_shadow.specs.Calls.{KeepsWatch, KeepsTreePlaces, TreeCallEffect, IsPathAccepted, IsLineRead, IsLineWritten, IsUsedUp, outcome_of_tree_fault, tree_outcome_of, AnswersTreeDown, IsTreeDownAnswer, before_end, KeepsNodes, IsNodeLineRead, IsNodeRead, IsDataLineRead, IsTreeSpentAnswer}
pub use Rattle.asit_shadow.specs.Fetching.{IsPathFetchedTo, IsNodeCutOff, IsNodeTaken, HasNoNode, IsFetchStopped, WritesWhere, IsRoomMade, IsNodeFound, KeepsPathLines, HasFetchedNode, IsNodePathFetched, IsFetchFault}
pub use Rattle.asit_shadow.specs.Formatting.{sealing_plan, nodes_plan, naming_plan, first_held, first_cache, first_slots, tree_sealed_lines, node_lines_written, slot_lines_written, AreSealsTold, AreNodesTold, AreSlotsTold, IsChipFormatted, AreLinesFormatted, HasTreeFormatted, first_tree_seal, IsFormatTold, sealing_turn, after_sealing, after_nodes, after_naming, IsFirstEngine, HasDeviceFormatted, first_engine, set_first, node_turn, naming_turn}
pub use Rattle.asit_shadow.specs.Invariants.{IsTreeAnchored, IsTrueCached, IsTreeTrusted, IsTreeSealStored, IsSlotStored, IsTreeMendable, IsTreeDurable, IsTreeSound, IsNodeStored, IsTreeOver, NamesTrueNode, IsTrueSeal, IsTrueTreeSlot, IsNamed}
pub use Rattle.asit_shadow.specs.Parts.{TreeEngineParts, IsWatchReady, tree_lines_redone, AreTreeTrusted, tree_parts_of, AreTreeSound, HoldsTreeSeal, HoldsSlot, IsTreeUsable, tree_parts_at, tree_setup_at, IsBoardReady, HoldsNode}
pub use Rattle.asit_shadow.specs.Paths.{is_path_slot, HasPathNamed, IsNodePathCached, HasPathCached, path_node, tag_only, line_path, path_entries, set_each, dirty_node}
pub use Rattle.asit_shadow.specs.Places.{IsNodeHeld, IsNodeHeldBy, ArePlacesKept, ArePlacesArmed}
pub use Rattle.asit_shadow.specs.Plain.{PlainTree, writes_below, node_above_lines, true_count, slot_naming, names_with, named_at, after_tree_write, IsPlainOf, true_version, writes_made}
pub use Rattle.asit_shadow.specs.Plans.{TreeChip, read_parts_of, with_engine, with_read, fault_of_line, fetch_plan, ended_engine, fault_of_node, with_clean, node_in, level_plan, fetch_turn, tree_chip_at, tree_chip_of, data_plan, with_tags}
pub use Rattle.asit_shadow.specs.RecoverPlans.{RecoverParts, recover_parts, slots_plan, cached_named, recovery_work, recover_parts_at, recovered_engine, same_lines}
pub use Rattle.asit_shadow.specs.Recovering.{Rest, rest_of, HasOnlyReadLines, AreSlotsRead, IsReadFinished, HasTreeRecovered, IsNameable, IsRestUsable, rest_redone, IsRestAnchored, IsRestDurable, IsTreeWork, IsRoomFilled}
pub use Rattle.asit_shadow.specs.State.{TreeState, cache_at, IsCached, IsCachedAs, IsTreeEngine, IsHeldNode, top_node, IsCachedDirty}
pub use Rattle.asit_shadow.specs.Steps.{IsTreeArmed, HasPathStored, IsTreeEmptied, KeepsOtherRegisters, IsFetched, GivesWay, IsTreeRecovered, slots_read, tree_plain_line, held_of, tree_plain_of, MadeSeal, IsHistory}
pub use Rattle.asit_shadow.specs.Work.{absent_nodes, HasSlotsFetched, spilled_nodes, HasFetchedNodes, is_node_cached, IsCutInNodeFetch, HasFetchedPath, HasArmedPath, holds_dirty, HasStoppedAt, IsNodeShownAt, write_back, node_level_write, node_level_reads, slot_fetched, IsLineShownAt, IsCutInGroup}
pub use Rattle.asit_shadow.specs.WritePlans.{raised_pair, seal_of, write_armed, named_chip, stored_chip, named_one, told_write, raise_plan, with_tree, with_stored}
pub use Rattle.asit_shadow.specs.Writing.{IsWriteMade, set_pairs, slot_entries, position_below, IsSealMade, pair_at, dirty_entries, armed_lines, IsPathRaised, IsRaisedTo, HasWrittenUp, IsWriteTold, IsTreeNamed}
pub use Rattle.asit_shadow.specs.declared.cache.CachedNode.{CachedNode}
pub use Rattle.asit_shadow.specs.declared.fault.TreeFault.{TreeFault}
pub use Rattle.asit_shadow.specs.declared.recovery.TreeRec.{TreeRec}
pub use Rattle.board.proofs.CountLemmas.{HasRisen-once, RisesBy-then, RisesBy-once}
pub use Rattle.board.proofs.LineLemmas.{AreLinesOf-set}
pub use Rattle.board.specs.Counts.{RisesBy}
pub use Rattle.board.specs.Device.{Device, AreToldLines, AreLinesOf, IsDevice}
pub use Rattle.board.specs.Steps.{HasRead, Tells, HasWritten, WasCut, HasLatched, with_line}
pub use Rattle.bonsai_tree.proofs.Levels.{meta_lines-level, level_start-suc, IsAtLevel, child-IsAtLevel, level_of-IsAtLevel, level_of-le, level_start-le, parent-child, IsAtLevel-inner, parent-IsAtLevel}
pub use Rattle.bonsai_tree.proofs.PathPositions.{path_of-on_path, path_of-block, on_path-level, path_of-level, length-path_of, path_of-parent, path_of-top, path_position-IsAtLevel, on_path-position, path_position-top, path_position-on_path}
pub use Rattle.bonsai_tree.specs.Positions.{child_slot, parent, path_of, counter_position, child_position, is_on_path}
pub use Rattle.call_plan.proofs.Bind.{bind_ok, bind_err, mapped_follows, lifted_follows}
pub use Rattle.call_plan.proofs.DeterminedCalls.{call_is_determined}
pub use Rattle.call_plan.proofs.Loops.{AreTurnsLeft, turns_start, turn_ok, turn_err, turns_end}
pub use Rattle.call_plan.proofs.Steps.{is_stopped, is_done, write_then, write_cut, latch_then, read_then, read_cut, ended_err, written_so}
pub use Rattle.call_plan.specs.Following.{Follows}
pub use Rattle.call_plan.specs.Plans.{Plan, done, lifted, the_cut, mapped_end, ended}
pub use Rattle.collision_witness.specs.Exhibits.{IsExhibit}
pub use Rattle.commit_regs.proofs.GroupLemmas.{AreLinesOf-redone, redone-nil, redone-set, redone-cons, unarmed, IsGroup-nil}
pub use Rattle.commit_regs.specs.Groups.{redone, redone_told, finishing_latches, HasFinished, IsInterrupted, Writes, RisesAtMost}
pub use Rattle.commit_regs.specs.Plans.{finish_plan}
pub use Rattle.counter_tree.proofs.HeightLemmas.{shadow_height-room}
pub use Rattle.counter_tree.proofs.NodeLaws.{node_read-node_line, stored_node-node_line, node_read-IsReadNode, node_line-IsLine, IsNode-zero_node, its_counters}
pub use Rattle.counter_tree.proofs.Positions.{child_slot-child, parent-lt}
pub use Rattle.counter_tree.proofs.ReadPlans.{chosen, not_chosen, leaving, watch_shown}
pub use Rattle.counter_tree.proofs.ShadowLaws.{up-IsAtLevel, shadow_clash}
pub use Rattle.counter_tree.proofs.SlotLaws.{slot_line-IsLine, slot_read-slot_line, slot_read-zero}
pub use Rattle.counter_tree.proofs.SlotPlans.{chip-tree-is, clash-is}
pub use Rattle.counter_tree.proofs.TreeLaws.{raised_nodes-IsRaised, tree-IsNode, tree-version, lines-are_children, line_position-parent, raised-same, versions_down, node_at-set_same, node_at-set_other, line_position-IsAtLevel, raised_up-deep}
pub use Rattle.counter_tree.specs.Accepted.{IsNodeForged, IsCutReading, IsNodeUnaccepted, HasLineRead, IsLineAccepted, IsLineUnaccepted, IsLineForged, IsLineFetched}
pub use Rattle.counter_tree.specs.Layout.{tree_lines, tree_size, tree_slots, line_of_node, line_of_slot, line_of_tag}
pub use Rattle.counter_tree.specs.Nodes.{node_line, counter, total, node_read, stored_node, version_counter, zero_node}
pub use Rattle.counter_tree.specs.Plans.{ReadParts, line_plan, node_plan, with_exhibit, read_parts, clash_of}
pub use Rattle.counter_tree.specs.Shadow.{IsShadowTree, root_of, shadow_height, ChipTree, IsChipTree, shadow_digests, tree_with, tree_root_with, up}
pub use Rattle.counter_tree.specs.Slots.{slot_of, slot_line, slot_read}
pub use Rattle.counter_tree.specs.Trees.{node_at, IsRaised, is_on_line_path, line_position, raised, entry_for, IsCounterTree, line_counter, with_raised, raised_up}
pub use Rattle.counter_tree.specs.Watch.{WatchState, last_seal_of, forged_node, HasShown, IsLineSeal, HasSealNoted, HasNodeNoted, HasSlotNoted, IsSlotClash, first_shown}
pub use Rattle.counter_tree.specs.declared.accepted.FetchFault.{FetchFault}
pub use Rattle.counter_tree.specs.declared.nodes.Node.{Node}
pub use Rattle.counter_tree.specs.declared.watch.LineSeal.{LineSeal}
pub use Rattle.pmem_base.proofs.LayoutLemmas.{meta_lines-most, pages-most}
pub use Rattle.pmem_base.proofs.LineLemmas.{IsLine-zero_line, lines-equal}
pub use Rattle.pmem_base.proofs.LineSets.{line_at-set_same, line_at-set_other, length-put_lines, put_lines-AreLines, put_lines-append}
pub use Rattle.pmem_base.specs.Counts.{HasRisen, risen_times, risen}
pub use Rattle.pmem_base.specs.Geo.{shape_of}
pub use Rattle.pmem_base.specs.Layout.{meta_lines, level_start, pages}
pub use Rattle.pmem_base.specs.Lines.{line_at, tag_slot, put_lines, IsLine, IsTag, xor_lines, same_bytes, IsCtr}
pub use Rattle.pmem_base.specs.Registers.{IsGroup, without_group, empty_regs}
pub use Rattle.pmem_base.specs.Shape.{IsShape, Shape}
pub use Rattle.pmem_base.specs.declared.answers.Exhibit.{Exhibit}
pub use Rattle.pmem_base.specs.declared.answers.Exhibit.TheVariants.{Forged}
pub use Rattle.pmem_base.specs.declared.faults.Cut.{Cut}
pub use Rattle.pmem_base.specs.declared.lines.Line.{Line}
pub use Rattle.pmem_base.specs.declared.registers.Regs.{Regs}
pub use Rattle.call_effects.proofs.PowerLaws.{power_chained, going_uncut}
pub use Rattle.call_effects.proofs.ResultLaws.{is_err_of}
pub use Rattle.call_effects.proofs.ToldLines.{told_cases, told_surely, whole_lines, any_told}
pub use Rattle.call_effects.specs.Outcomes.{Outcome, is_going, going, cut_short, shown, HasPower}
pub use Rattle.call_effects.proofs.SteadyLaws.{StaysSteady-then, StaysSteady-written}
pub use Rattle.call_effects.proofs.SuiteLaws.{SuiteRise-then, SuiteRise-as}
pub use Rattle.call_effects.specs.Steady.{StaysSteady}
pub use Rattle.call_effects.specs.SuiteStates.{suite_state, SuiteRise}
pub use Rattle.call_effects.specs.declared.recovery.Work.{Work}
pub use Rattle.std.proofs.Math.Nat.{pow-suc, mod-eq_of_lt, mul-le-mul_right, one-le-pow}
pub use Rattle.std.proofs.Math.Seq.{get_or-append_seam, drop-cons, take-add, take-length}
pub use Rattle.std.proofs.lemmas.Bool.{cases_Bool, cases_eq, false≢true, false_from_ne_true, cond-true, eq-eqb, true≢false, cond-false, ne_eqb, or_parts, or_right, eqb-false, eqb-true, or_left, cases_lt, and_parts}
pub use Rattle.std.proofs.lemmas.List.{length-set, get_or-set_same, get_or-set_other, get_or_past, length-replicate, ext_get_or, length-append, length-map, get_or-map, map-append, take_all, take_more, get_or_default, get_or-replicate, set-set, set_comm, take_at, get_or_append_left, append-nil, drop_all, get_or-take, get_or-drop, length-drop, length-take-le, drop-drop}
pub use Rattle.std.proofs.lemmas.List.Elements.{All-nil, All-replicate, All-push, All-cons, All-append}
pub use Rattle.std.proofs.lemmas.Option.{same_Some, none-some}
pub use Rattle.std.specs.List.{list_any, AllPairs, sum}
pub use Rattle.std.specs.Prelude.{All, IsNone, slice_set, Option, slice_index_or, ◌==◌, Result, IsSome, not, ◌||◌, IfSome, is_some, MatchOption, Ok, option_map, true, false, slice_index, Err, Some, if◌then◌else◌, OnOk, OnErr, None, ◌&&◌, ⊤, ◌↔◌, replicate, ◌≤◌, IfErr, ℕ}
pub use Rattle.suite.proofs.CipherLemmas.{cipher_of-IsLine, cipher_of-back}
pub use Rattle.suite.specs.Formulas.{AreInRange, Formulas, cipher_of}
pub use Rattle.suite.specs.Setup.{Setup}
