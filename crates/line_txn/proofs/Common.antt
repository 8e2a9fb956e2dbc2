-- The names that most proofs of this crate cite, passed on from one place. Declares nothing.
pub use Rattle.arrayvec.specs.ArrayVec.{array_vec_len}
pub use Rattle.call_plan.proofs.DeterminedCalls.{call_is_determined}
pub use Rattle.engine_lines.proofs.EditLaws.{AfterEdits, LeftTrusted, LeftSound, trusted_after_edits, sound_after_edits, edits_leave, LeavesAll, edits_under}
pub use Rattle.engine_lines.proofs.EditPlans.{edits_as, edits_follow_under}
pub use Rattle.engine_lines.proofs.EditStages.{after_last, stops_by, StopsEditsBy}
pub use Rattle.engine_lines.proofs.EngineLines.{least_lines, line_read, unrefused_fault, trusted_after_read, sound_after_read, lines_after_read}
pub use Rattle.engine_lines.specs.Edits.{AreEdited, IsEditOf, all_edited, edited}
pub use Rattle.engine_lines.specs.Lines.{HasLines, IsUnspent, IsCutOrSpent}
pub use Rattle.engine_lines.specs.declared.edits.Edit.{Edit}
pub use Rattle.line_txn.specs.Edits.{IsWholeTxn, body_edits, target_edits, deciding_edits, applying_edits, copy_edits, redoing_edits}
pub use Rattle.line_txn.specs.Header.{AreDistinctBelow, AreTargets, IsHeader, header_in, numbers_in, are_distinct_below, is_header_of, targets_in}
pub use Rattle.line_txn.specs.Logged.{logged, decided, cleared, lines_decided, with_header, targets_of, bodies_of, redone_to, with_bodies, IsLogged, Opening, partly, through, lines_opened, targets_opened, IsReadFrom, CommitStage, commit_lines_at, entries_in, memory_in, IsWholeAtEachStage, IsKeptByRedo, IsKeptByTarget, IsKeptByOpening}
pub use Rattle.line_txn.specs.Plans.{commit_fault, opened_of, commit_answer_of, OpeningStop, unread, unredone, redo_end, Serving, FollowsOpening, IsServedAfter, FollowsCommit}
pub use Rattle.line_txn.specs.Promised.{IsCommitRefused, HasReadServed}
pub use Rattle.line_txn.specs.Serving.{body_or_place, served_from}
pub use Rattle.line_txn.specs.Store.{IsServedAs, IsServedBy, commit_answer_by, logged_lines, HasTargetsRedone, HasStoreCommitted, HasDecided, HasCommitGoneOn, IsCommitEnd, IsLeftLogged, IsSoundCommitAnswer, IsSpentUndecided, commit_outcome_by, HasStoreOpened, HasStoreStarted, HasFailedRedo, HasFoundNone, IsOpenedBy, IsOpenedTo, HasOpenedLogged, LeavesOpenedTrusted, LeavesOpenedSound}
pub use Rattle.line_txn.specs.declared.store.CommitFault.{CommitFault}
pub use Rattle.line_txn.specs.declared.store.Committed.{Committed}
pub use Rattle.line_txn.specs.declared.store.Store.{Store}
pub use Rattle.line_txn.specs.declared.store.TxnFault.{TxnFault}
pub use Rattle.pmem_base.proofs.Digits.{from_big_endian-big_endian, number_of_four, bytes_of_four}
pub use Rattle.pmem_base.proofs.LineLemmas.{IsLine-zero_line}
pub use Rattle.pmem_base.proofs.LineSets.{line_at-set_other, length-put_lines, line_at-set_same}
pub use Rattle.pmem_base.specs.Layout.{data_lines}
pub use Rattle.pmem_base.specs.Lines.{IsLine, put_lines, line_at, line_of, big_endian, from_big_endian}
pub use Rattle.pmem_base.specs.Shape.{Shape}
pub use Rattle.pmem_base.specs.declared.lines.Line.{Line}
pub use Rattle.pmem_engine.proofs.CallEnds.EngineCalls.{down_after, up_after, guarded_up, guarded_down}
pub use Rattle.pmem_engine.specs.Calls.{HasReadLine}
pub use Rattle.pmem_engine.specs.Engine.{EngineState}
pub use Rattle.pmem_engine.specs.Outcomes.{LeavesTrusted, LeavesSound}
pub use Rattle.pmem_engine.specs.Parts.{Parts, AreTrusted, AreSound}
pub use Rattle.pmem_engine.specs.Plans.{Chip, read_plan}
pub use Rattle.pmem_engine.specs.declared.fault.Fault.{Fault}
pub use Rattle.std.proofs.Math.Seq.{take-append_seam, drop-append_seam, take-set-lt}
pub use Rattle.std.proofs.lemmas.Bool.{eqb-true, eqb-false, cases_Bool, eq-eqb, false≢true, lt-ltb, ltb-true, le-leb, leb-true, ne_eqb, and_parts, and_from, not_from_false, not-true, true≢false}
pub use Rattle.std.proofs.lemmas.List.{length-map, take_more, length-take-le, length-append, take_all, map_more, append_assoc, append-nil, drop-drop, drop-replicate, length-set, length-drop, set-set, set_comm, drop-set-lt, take-set-le, get_or-take, get_or-drop, get_or_default, length-replicate, get_or-replicate, take-replicate}
pub use Rattle.std.proofs.lemmas.List.Elements.{All-nil, All-cons, All-head, All-tail, All-append, All-push, All-same, All-take, All-contains_itself}
pub use Rattle.std.proofs.lemmas.List.Folds.{list_any_at, list_any_none}
pub use Rattle.std.proofs.lemmas.List.Kept.{AllPairs-cons}
pub use Rattle.std.specs.List.{zip, AllPairs, list_any, flat_map, Contains}
pub use Rattle.std.specs.Prelude.{All, slice_set, ◌==◌, slice_index, nat_lt, ◌&&◌, slice_range, ⊤, IfOk}
pub use Rattle.suite.specs.Setup.{Setup}
