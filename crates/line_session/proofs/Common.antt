-- The names that most proofs of sessions cite, passed on from one place. Declares nothing.
pub use Rattle.access_log.proofs.TraceLemmas.{goes_on-between}
pub use Rattle.access_log.specs.Traced.{GoesOn, traced_of}
pub use Rattle.board.specs.Counts.{RisesBy}
pub use Rattle.board.specs.Device.{Device}
pub use Rattle.board.specs.MemBoard.{memory_of}
pub use Rattle.board.specs.Memory.{BoardMemory, device_of}
pub use Rattle.call_plan.specs.Following.{Follows}
pub use Rattle.call_plan.specs.Plans.{ended}
pub use Rattle.engine_lines.proofs.EditWrites.{length-all_posted, edits_memory}
pub use Rattle.engine_lines.proofs.EngineEdits.{all_posted, cost, AreGone, IsSpentAt, IsCutAt, IsStoppedAt, EndsAt, ends_within, edits_go, gone_within, write_gone, write_spent_next, write_stopped}
pub use Rattle.engine_lines.proofs.EngineLines.{setup_under, least_lines}
pub use Rattle.engine_lines.proofs.EngineWrites.{AreDone, fewer_within, read_line, read_done, read_cut, memory_now, moment_now, none_done, memory_done, AreCut, most_within, within_done, within_cut, spent_path}
pub use Rattle.engine_lines.proofs.OwnSeals.{writes_none, writes_own, own_at_cut, own_marks}
pub use Rattle.engine_lines.proofs.SealedLines.{sealed_in, places_of, whole_places}
pub use Rattle.engine_lines.specs.Edits.{AreEdited, IsEditOf, all_edited}
pub use Rattle.engine_lines.specs.Lines.{IsCutOrSpent, HasLines}
pub use Rattle.engine_lines.specs.Writes.{is_own_seal, read_steps, Writing, IsCutAmong, write_steps}
pub use Rattle.engine_lines.specs.declared.edits.Edit.{Edit}
pub use Rattle.line_session.specs.StoreCalls.{CallPlan, HasCalledStore}
pub use Rattle.line_session.specs.During.{OpeningRelation, HasStartedBy, started_as, HasOpenedAfter}
pub use Rattle.line_session.specs.Started.{HasStarted, new_chip, opening_end}
pub use Rattle.line_session.specs.State.{LineSession, chip_in, places_in, moment_in, with_marks, with_power}
pub use Rattle.line_session.specs.declared.starts.StartFault.{StartFault}
pub use Rattle.meta_path.specs.Fetching.{spilled}
pub use Rattle.plain_model.proofs.PlainMemory.{memory_is}
pub use Rattle.plain_model.specs.Asked.{Moment, moment_after_writes, marks_of_writes}
pub use Rattle.plain_model.specs.Bounds.{recovery_bound, group_bound, path_length}
pub use Rattle.plain_model.specs.Fits.{IsSpentNext, drained_marks}
pub use Rattle.plain_model.specs.State.{Memory, memory_with}
pub use Rattle.plain_model.specs.View.{IsMemoryOf, plain_memory, counter_at, plain_of_seal, view_of, plain_line}
pub use Rattle.pmem_base.specs.Geo.{shape_of}
pub use Rattle.pmem_base.specs.Layout.{page_of, data_lines}
pub use Rattle.pmem_base.specs.Lines.{line_at, zero_line, IsLine, put_lines}
pub use Rattle.pmem_base.specs.Shape.{Shape, IsShape}
pub use Rattle.pmem_base.specs.declared.answers.Exhibit.TheVariants.{Twin}
pub use Rattle.pmem_base.specs.declared.answers.Mark.{Mark}
pub use Rattle.pmem_base.specs.declared.commands.Posted.{Posted}
pub use Rattle.pmem_base.specs.declared.lines.Ctr.{Ctr}
pub use Rattle.pmem_base.specs.declared.lines.Line.{Line}
pub use Rattle.pmem_base.specs.declared.registers.Regs.{Regs}
pub use Rattle.pmem_engine.specs.Calls.{HasReadLine, whole_write, HasWrittenLine}
pub use Rattle.pmem_engine.specs.Engine.{ChipState, EngineState, on_chip}
pub use Rattle.pmem_engine.specs.Invariants.{IsDurable, IsSound, IsAnchored, IsSealTagged}
pub use Rattle.pmem_engine.specs.Mendable.{new_engine}
pub use Rattle.call_effects.specs.Outcomes.{going, cut_short}
pub use Rattle.pmem_engine.specs.Outcomes.{OneLossEffect, TakesAtMost, TakesFewer}
pub use Rattle.pmem_engine.specs.Parts.{Parts, parts_of, AreSound, AreTrusted}
pub use Rattle.pmem_engine.specs.Plans.{Chip, chip_of, read_plan}
pub use Rattle.pmem_engine.specs.declared.fault.Fault.{Fault}
pub use Rattle.call_effects.proofs.ResultLaws.{none_of}
pub use Rattle.pmem_recovery.specs.Formatting.{HasFormatted}
pub use Rattle.call_effects.specs.SuiteStates.{SuiteState, suite_state}
pub use Rattle.pmem_recovery.specs.Plans.{suite_counts, counts_of, SuiteCounts, recover_plan}
pub use Rattle.pmem_recovery.specs.Recovered.{HasRecovered, most_recovery_steps}
pub use Rattle.pmem_recovery.specs.Trials.{IsTwinOfLastSeal}
pub use Rattle.pmem_recovery.specs.declared.faults.RecFault.{RecFault}
pub use Rattle.call_effects.specs.declared.recovery.Work.{Work}
pub use Rattle.seal_ledger.specs.Ledger.{LedgerState, IsMark}
pub use Rattle.seal_ledger.specs.View.{ledger_of}
pub use Rattle.std.proofs.Math.Nat.{mod-eq_of_lt, pow-le-pow_right, mod-lt, mul-add-mod_self_left, div-add-mod, add-mod_left}
pub use Rattle.std.proofs.Math.Seq.{take-append-add}
pub use Rattle.std.proofs.lemmas.Bool.{true≢false, lt-ltb, eq-eqb, ne_eqb, cases_lt, le-ltb, cases_eq, cond-false, eqb-true, eqb-false}
pub use Rattle.std.proofs.lemmas.List.{append-nil, get_or-replicate, length-append, drop_at, append_assoc, take-append-le, length-map, ext_get_or, length-set, take_at, take_all}
pub use Rattle.std.proofs.lemmas.List.Elements.{All-nil, All-cons, All-take, All-append, All-push, All-head, All-tail}
pub use Rattle.std.proofs.lemmas.Option.{same_Some, none-some}
pub use Rattle.std.specs.List.{list_any, position_from, range_with_len, position_or_len, refill, zip}
pub use Rattle.std.specs.Prelude.{◌==◌, if◌then◌else◌, is_some, option_map, MatchOption, ◌||◌, unwrap_or, ⊤, nat_lt, All, slice_set, not, map, Result, MatchBool, ◌≢◌, IfOk, replicate, IfSome}
pub use Rattle.suite.specs.Formulas.{Formulas, AreInRange, cipher_of}
pub use Rattle.suite.specs.Setup.{Setup}
pub use Rattle.watched_board.proofs.StepLaws.{at_most, fewer, unburnt}
pub use Rattle.watched_board.specs.Watching.{steps_in, device_during, none_taken, IsWatched, step_limit}
pub use Rattle.watched_board.specs.declared.taken.Taken.{Taken}
