-- The names that most proofs of this session cite, passed on from one place. Declares nothing.
pub use Rattle.access_log.proofs.TraceLemmas.{goes_on-between}
pub use Rattle.access_log.specs.Traced.{traced_of}
pub use Rattle.call_effects.proofs.PowerLaws.{going_unshown, cut_unshown}
pub use Rattle.asit_shadow.proofs.FormatLaws.{replicate-default}
pub use Rattle.asit_shadow.proofs.PlaceLaws.{powered_off-place, line-place, slots-place, poked-elsewhere}
pub use Rattle.asit_shadow.proofs.RecoverLaws.{lines-equal, length-slots_read, line_at-slots_read}
pub use Rattle.asit_shadow.proofs.SlotPlaces.{on_path-inside}
pub use Rattle.asit_shadow.specs.Calls.{KeepsWatch, HasReadTreeLine, TreeCallEffect, HasWrittenTreeLine, IsLineRead, AnswersTreeDown, before_end, tree_outcome_of, IsLineWritten}
pub use Rattle.asit_shadow.specs.Formatting.{HasTreeFormatted}
pub use Rattle.asit_shadow.specs.Invariants.{IsTreeAnchored, IsTreeSealStored, IsTreeTrusted, IsTreeSound, NamesTrueNode, IsSlotStored}
pub use Rattle.asit_shadow.specs.Parts.{AreTreeTrusted, tree_parts_of, HoldsTreeSeal, TreeEngineParts, HoldsNode, HoldsSlot, IsTreeUsable, IsWatchReady}
pub use Rattle.asit_shadow.specs.Paths.{line_path, path_node, tag_only}
pub use Rattle.asit_shadow.specs.Places.{IsNodeHeldBy, IsNodeHeld}
pub use Rattle.asit_shadow.specs.Plain.{PlainTree, true_version, hurt_with, with_board, true_count, true_slots, writes_made, slot_naming, true_cipher, IsPlainOf, named_at, after_tree_write}
pub use Rattle.asit_shadow.specs.Plans.{TreeChip, read_plan, tree_chip_of}
pub use Rattle.asit_shadow.specs.RecoverPlans.{recover_parts, tree_recover_plan, RecoverParts}
pub use Rattle.asit_shadow.specs.Recovering.{rest_of, HasTreeRecovered, Rest, rest_redone, IsGroupFinished, IsGroupBegun, AreSlotsRead, KeepsRestPlaces, KeepsRestNode, IsRestUsable}
pub use Rattle.asit_shadow.specs.State.{TreeState, cache_at}
pub use Rattle.asit_shadow.specs.Steps.{tree_plain_of, tree_plain_line, slots_read, IsTreeArmed, KeepsOtherRegisters}
pub use Rattle.asit_shadow.specs.Work.{spilled_nodes, node_level_write, write_back, is_node_cached, HasFetchedNodes, HasArmedPath, IsCutInNodeFetch, IsCutInGroup, HasFetchedPath}
pub use Rattle.asit_shadow.specs.WritePlans.{write_plan}
pub use Rattle.asit_shadow.specs.declared.fault.TreeFault.{TreeFault}
pub use Rattle.asit_shadow.specs.declared.recovery.TreeRec.{TreeRec}
pub use Rattle.board.specs.Device.{Device, AreLinesOf}
pub use Rattle.board.specs.MemBoard.{memory_of}
pub use Rattle.board.specs.Memory.{BoardMemory, with_line_at, device_of, new_memory, with_lines, restored_lines}
pub use Rattle.board.specs.declared.access.Access.{Access}
pub use Rattle.call_plan.specs.Following.{Follows}
pub use Rattle.call_plan.specs.Plans.{Plan, ended}
pub use Rattle.call_plan.specs.Runs.{IsOutcome}
pub use Rattle.collision_witness.specs.Exhibits.{AreSmallMinors, IsExhibit}
pub use Rattle.commit_regs.specs.Groups.{redone, finishing_latches}
pub use Rattle.counter_tree.proofs.TreeLaws.{tree-IsNode, tree-version}
pub use Rattle.counter_tree.specs.Book.{new_watch}
pub use Rattle.counter_tree.specs.BookView.{watch_of}
pub use Rattle.counter_tree.specs.Layout.{tree_lines, tree_size, line_of_node, line_of_slot, tree_slots, line_of_tag}
pub use Rattle.counter_tree.specs.Nodes.{node_place, version_counter, without_tag, IsNode, total, zero_node, counter, wrapped_version, node_read, node_line}
pub use Rattle.counter_tree.specs.Shadow.{shadow_root, shadow_tree_line, shadow_height, IsShadowDifference}
pub use Rattle.counter_tree.specs.Slots.{slot_line, slot_of, NamedNode}
pub use Rattle.counter_tree.specs.Trees.{node_at, line_counter, line_position, is_on_line_path}
pub use Rattle.counter_tree.specs.Watch.{WatchState, first_shown, last_seal_of, IsSlotClash, HasShown, forged_node, IsWatchOf}
pub use Rattle.counter_tree.specs.declared.nodes.Node.{Node}
pub use Rattle.counter_tree.specs.declared.watch.LineSeal.{LineSeal}
pub use Rattle.pmem_base.specs.Geo.{shape_of}
pub use Rattle.pmem_base.specs.Layout.{meta_lines}
pub use Rattle.pmem_base.specs.Lines.{line_at, tag_slot, IsLine, zero_line}
pub use Rattle.pmem_base.specs.Shape.{Shape, IsShape}
pub use Rattle.pmem_base.specs.declared.answers.Exhibit.{Exhibit}
pub use Rattle.pmem_base.specs.declared.answers.Exhibit.TheVariants.{Forged, Clash}
pub use Rattle.pmem_base.specs.declared.lines.Line.{Line}
pub use Rattle.pmem_base.specs.declared.registers.Regs.{Regs}
pub use Rattle.call_effects.specs.Outcomes.{Outcome, going, cut_short, shown, is_going}
pub use Rattle.call_effects.proofs.ResultLaws.{none_is, none_of, from_no_error}
pub use Rattle.call_effects.specs.declared.recovery.Work.{Work}
pub use Rattle.std.proofs.lemmas.Bool.{cases_lt, le-ltb, false≢true, lt-ltb, true≢false, cases_Bool, cases_eq, and_parts, not-true, or_left, or_right, eq-eqb}
pub use Rattle.std.proofs.lemmas.List.{length-replicate, length-set, ext_get_or, length-map, get_or-set_other, set-get_or, map-set, get_or-map, get_or_past, set_past, get_or-set_same}
pub use Rattle.std.proofs.lemmas.List.FromFn.{length-map-range_with_len, get_or-map-range_with_len}
pub use Rattle.std.proofs.lemmas.Option.{same_Some, none-some}
pub use Rattle.std.specs.List.{range_with_len, list_any}
pub use Rattle.std.specs.Prelude.{Result, IsSome, option_map, slice_set, slice_index_or, is_some, not, nat_lt, if◌then◌else◌, All, IsErr, is_none, ⊤, replicate, map, IfSome, min, slice_index, OnErr, IsNone, MatchOption, ◌||◌, Option}
pub use Rattle.suite.proofs.CipherLemmas.{cipher_of-back}
pub use Rattle.suite.specs.Formulas.{Formulas, AreInRange, cipher_of}
pub use Rattle.suite.specs.Setup.{Setup}
pub use Rattle.trace_text.proofs.LogLemmas.{logged_by, same_logged, still_logged}
pub use Rattle.trace_text.specs.Logged.{IsLoggedBy}
pub use Rattle.trace_text.specs.declared.talk.Halt.{Halt}
pub use Rattle.tree_session.specs.Answered.{IsTreeAnswered, IsTreeHalt, IsEngineShown, TakesTreeSteps, IsTreeCutAt, tree_decided, device_tag, IsPathTampered, IsSlotTampered, IsPlainKept, IsNodeExhibit, IsDataExhibit, IsShadowExhibit, IsTreeMemoryWanted, AnswersWith, tree_after_decided, IsRooted, IsNodeRefusal, SaysOfWrite, SaysOfRead, SaysOfOn, IsBoardSpilled, IsDataAccepted, IsDataRefusal, board_redone, device_node, ShowsEngine, IsTreeShownBy, IsPlainWritten, IsHurt, HasTrueSlots, IsShadowRefusal, IsGroupDone, group_steps, tree_recovery_bound, AreLinesSpilled, IsBoardWritten, put_by_write, AllAreMade, tree_write_bound}
pub use Rattle.tree_session.specs.Called.{IsTreeCalled, HasTreeCalled, HasTreeStarted, chip_in, plain_said, on_said, read_said, write_said, board_resting, engine_made, is_made, IsChipStill, engine_left, IsTreeCallOf, board_left, engine_kept}
pub use Rattle.tree_session.specs.Fields.{parts_in, setup_in}
pub use Rattle.tree_session.specs.Guarantees.{History, history_with, IsAllowed, TreeReply, AreTreeAnswered, IsTreeSession, first_history, history_after, is_answered_ok, AreAllowed, MayShow, version_by, ShowsNode, ShowsLine, ShowsClash, IsTreeKept, IsTreeShown, IsTreeUntouched, IsNoTampering, IsTreeAnswerUnrefused}
pub use Rattle.tree_session.specs.Logged.{IsTreeLogged}
pub use Rattle.tree_session.specs.State.{SessionState, tree_setup_in, IsNewTree, watch_in}
pub use Rattle.tree_session.specs.World.{TreeParts, state_of, IsTreeWorld, plain_of_parts, named_by, IsTreeBy, IsTreeOff, IsTreeOpen, rest_in, AreTreePlacesKept, IsTreeOn, IsTreeEnded}
pub use Rattle.tree_session.specs.declared.answers.TreeAnswer.{TreeAnswer}
pub use Rattle.tree_session.specs.declared.commands.TreeCommand.{TreeCommand}
pub use Rattle.watched_board.specs.Watching.{steps_in, IsWatched, step_limit, device_during, none_taken, counted}
pub use Rattle.watched_board.specs.declared.taken.Taken.{Taken}
