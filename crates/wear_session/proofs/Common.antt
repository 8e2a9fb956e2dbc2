-- The names that most proofs of this session cite, passed on from one place. Declares nothing.
pub use Rattle.line_session.proofs.Common.{All, All-cons, All-nil, AreCut, AreDone, AreEdited, AreGone, AreSound, Chip, Ctr, Device, Edit, EndsAt, EngineState, Fault, Follows, Formulas, HasReadLine, HasWrittenLine, IsCutAmong, IsCutAt, IsEditOf, IsLine, IsShape, IsSound, IsSpentAt, IsSpentNext, IsStoppedAt, LedgerState, Line, LineSession, Mark, MatchBool, Memory, Moment, OneLossEffect, Parts, Posted, Result, Setup, Shape, Twin, Writing, add-mod_left, all_edited, all_posted, append-nil, at_most, cases_eq, cases_lt, chip_of, cond-false, cost, cut_short, data_lines, device_during, device_of, div-add-mod, drained_marks, drop_at, edits_go, edits_memory, ended, ends_within, ext_get_or, fewer, get_or-replicate, going, gone_within, if◌then◌else◌, is_own_seal, le-ltb, least_lines, length-all_posted, line_at, list_any, lt-ltb, map, memory_done, memory_now, memory_with, mod-eq_of_lt, mod-lt, moment_after_writes, moment_in, moment_now, mul-add-mod_self_left, nat_lt, ne_eqb, none-some, none_done, none_taken, not, option_map, own_at_cut, parts_of, path_length, plain_memory, range_with_len, read_cut, read_done, read_line, read_steps, recovery_bound, same_Some, setup_under, shape_of, slice_set, spent_path, started_as, step_limit, true≢false, unwrap_or, whole_places, whole_write, with_marks, within_cut, within_done, write_gone, write_spent_next, write_steps, write_stopped, writes_none, writes_own, zero_line, ◌==◌, ◌||◌}
pub use Rattle.line_session.specs.declared.starts.StartFault.{StartFault}
pub use Rattle.line_session.proofs.SessionCalls.{called_store, turned_on, turned_off, or_true, refused_from}
pub use Rattle.line_session.proofs.NewDevices.{few_of_start}
pub use Rattle.line_session.specs.Started.{HasStarted}
pub use Rattle.line_session.proofs.Worlds.{same_setup, line_on_in}
pub use Rattle.line_session.specs.State.{setup_in, chip_in}
pub use Rattle.line_session.specs.World.{StoreSession, IsLineWorld, IsLineOn, IsLineOff}
pub use Rattle.line_session.specs.Made.{HasMade, parts_during}
pub use Rattle.line_session.specs.Turned.{HasTurned, IsCutInRecovery, HasShownTwin}
pub use Rattle.pmem_engine.specs.Engine.{on_chip}
pub use Rattle.wear_session.specs.StoreCalls.{HasReadAt, HoldsLevelled, levelled_lines}
pub use Rattle.wear_session.specs.declared.calls.LevelledLines.{LevelledLines}
pub use Rattle.start_gap.proofs.LevelledMemory.{zero_levelled, safe_at_each_stage}
pub use Rattle.start_gap.proofs.LevelledWrites.{move_fits}
pub use Rattle.start_gap.proofs.Places.{places}
pub use Rattle.start_gap.specs.Gapped.{logical_lines, HasGappedOpened, HasReadRecord, HasWear, HasLevelledWrite, HasWriteGoneOn, HasCounted, HasTriedMove, write_answer_by, wear_by}
pub use Rattle.start_gap.specs.Logical.{IsLevelled, move_edits, write_lines_at, write_memory_at, wear_at, MoveStage, begun, written, copied, moved}
pub use Rattle.start_gap.specs.Plans.{open_plan, levelled_plan, write_answer_of, count_after}
pub use Rattle.start_gap.specs.Record.{recorded}
pub use Rattle.start_gap.specs.Wear.{place_of, first_wear, next_wear}
pub use Rattle.start_gap.specs.declared.gapped.GapFault.{GapFault}
pub use Rattle.start_gap.specs.declared.gapped.Gapped.{Gapped}
pub use Rattle.start_gap.specs.declared.gapped.Moved.{Moved}
pub use Rattle.start_gap.specs.declared.gapped.WriteFault.{WriteFault}
pub use Rattle.start_gap.specs.declared.wear.Wear.{Wear}
pub use Rattle.wear_session.specs.Answered.{IsWearAnsweredAs, wear_decided, wear_after_decided, IsWearAnswered, HasWearOpened, HasWearRead, wear_of_line, GoesToWearState, IsWearCutOff, IsWriting, EndsWriting, after_writing, IsWearButForSteps, IsWearShownBy, IsWearMemoryWanted, IsWearServed, HasWearWritten, most_of_write}
pub use Rattle.start_gap.specs.Promised.{HasOpenedLevelled, HasWrittenLevelled, IsLevelledOpening, IsLevelledWrite}
pub use Rattle.line_session.specs.Answered.{is_sealed_since}
pub use Rattle.wear_session.specs.Planned.{IsWearCalled, read_call, read_said, write_call, open_call, open_said, move_said, write_said, fault_said}
pub use Rattle.wear_session.specs.State.{WearState, wear_left, wear_in, levelled_memory, IsNewWear, wear_setup_in, place_in, wear_lines_in, is_due, moving_writes, engine_writes, wear_without_power, with_writes}
pub use Rattle.wear_session.specs.World.{IsWearWorld, wear_of, count_in, IsLevelledAs}
pub use Rattle.wear_session.specs.declared.answers.WearAnswer.{WearAnswer}
pub use Rattle.wear_session.specs.declared.commands.WearCommand.{WearCommand}
