-- The names that most proofs of this crate cite, passed on from one place. Declares nothing.
pub use Rattle.call_effects.specs.Outcomes.{is_going}
pub use Rattle.call_plan.specs.Following.{Follows}
pub use Rattle.commit_regs.specs.Plans.{ended_with}
pub use Rattle.engine_lines.proofs.EditLaws.{edits_under, AfterEdits, LeftTrusted, LeftSound, one_put, trusted_after_edits, sound_after_edits, LeavesLines, LeavesAll, put_leaves, edits_leave}
pub use Rattle.engine_lines.proofs.EditPlans.{put_follows, edits_as, edits_follow_under}
pub use Rattle.engine_lines.proofs.EngineLines.{least_lines, setup_under, line_read, trusted_after_write, few_marks}
pub use Rattle.engine_lines.specs.Edits.{AreEdited, IsEditOf, all_edited}
pub use Rattle.engine_lines.specs.Lines.{done_as, HasLines, IsUnspent}
pub use Rattle.engine_lines.specs.Plans.{edits_plan, put_plan}
pub use Rattle.engine_lines.specs.declared.edits.Edit.{Edit}
pub use Rattle.pmem_base.proofs.Digits.{bytes_of_four, from_big_endian-big_endian, big_endian-from_big_endian, number_of_four}
pub use Rattle.pmem_base.specs.Layout.{data_lines}
pub use Rattle.pmem_base.specs.Lines.{line_at, line_of, big_endian, IsLine, from_big_endian, same_bytes}
pub use Rattle.pmem_base.specs.Shape.{Shape}
pub use Rattle.pmem_base.specs.declared.lines.Ctr.{Ctr}
pub use Rattle.pmem_base.specs.declared.lines.Line.{Line}
pub use Rattle.pmem_engine.proofs.CallEnds.EngineCalls.{down_after, up_after, guarded_up, guarded_down}
pub use Rattle.pmem_engine.specs.Calls.{whole_write, HasWrittenLine, HasReadLine}
pub use Rattle.pmem_engine.specs.Engine.{EngineState}
pub use Rattle.pmem_engine.specs.Outcomes.{outcome_of, LeavesTrusted, LeavesSound}
pub use Rattle.pmem_engine.specs.Parts.{Parts, AreTrusted, parts_at, AreSound, setup_at}
pub use Rattle.pmem_engine.specs.Plans.{Chip, read_plan, chip_in}
pub use Rattle.pmem_engine.specs.declared.fault.Fault.{Fault}
pub use Rattle.start_gap.specs.Gapped.{HasLevelledWrite, HasWear, wear_by, write_answer_by, write_outcome_by, HasWriteGoneOn, HasCounted, HasTriedMove, logical_lines, IsSoundWriteAnswer, HasGappedOpened, HasWearOf, IsWriteEnd, IsLeftLevelled}
pub use Rattle.start_gap.specs.Logical.{move_edits, IsLevelled, begun, written, copied, moved, IsSafeAtEachStage, IsSameUnderNext, MoveStage, write_lines_at, ArePlaces}
pub use Rattle.start_gap.specs.Plans.{is_move_due, write_answer_of, wear_after, count_after, wear_end, due_edits, write_fault, moved_as, FollowsWrite}
pub use Rattle.start_gap.specs.Record.{recorded, start_in, moved_in, is_record}
pub use Rattle.start_gap.specs.Wear.{place_of, IsWear, next_wear, source_of, first_wear, past_gap}
pub use Rattle.start_gap.specs.declared.gapped.GapFault.{GapFault}
pub use Rattle.start_gap.specs.declared.gapped.GapFault.TheVariants.{Engine, BadWear}
pub use Rattle.start_gap.specs.declared.gapped.Gapped.{Gapped}
pub use Rattle.start_gap.specs.declared.gapped.Moved.{Moved}
pub use Rattle.start_gap.specs.declared.gapped.WriteFault.{WriteFault}
pub use Rattle.start_gap.specs.declared.wear.Wear.{Wear}
pub use Rattle.std.proofs.lemmas.Bool.{lt-ltb, le-ltb, cases_eq, cond-true, cond-false, cases_lt, eq-eqb, ne_eqb, and_from, and_parts, false_from_ne_true, le-leb, true≢false}
pub use Rattle.std.proofs.lemmas.List.{length-set, length-replicate, get_or-replicate, length-append, length-drop, length-take-le, take-append-drop, append_assoc, drop-drop}
pub use Rattle.std.proofs.lemmas.List.Elements.{All-nil, All-cons, All-append, All-take, All-drop, All-replicate}
pub use Rattle.std.specs.Prelude.{nat_lt, All, slice_set, IfOk, MatchBool, ⊤, ◌==◌, slice_range, ◌&&◌}
pub use Rattle.suite.specs.Setup.{Setup}
