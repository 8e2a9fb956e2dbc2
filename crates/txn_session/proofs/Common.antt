-- The names that most proofs of this session cite, passed on from one place. Declares nothing.
pub use Rattle.line_session.proofs.Common.{All, All-append, All-cons, All-head, All-nil, All-push, All-tail, All-take, AreCut, AreDone, AreEdited, AreGone, AreSound, BoardMemory, Chip, Device, Edit, EndsAt, EngineState, Fault, Follows, Formulas, HasLines, HasReadLine, IfOk, IfSome, IsCutAmong, IsCutAt, IsEditOf, IsShape, IsSound, IsSpentAt, LedgerState, Line, LineSession, Mark, MatchOption, Memory, Moment, OneLossEffect, Parts, Posted, Regs, Setup, Shape, TakesAtMost, TakesFewer, Twin, Writing, all_edited, all_posted, append-nil, append_assoc, at_most, cases_lt, chip_of, cost, cut_short, data_lines, device_during, device_of, drained_marks, drop_at, edits_go, edits_memory, ended, ends_within, eq-eqb, eqb-false, eqb-true, fewer, fewer_within, get_or-replicate, going, if◌then◌else◌, is_own_seal, is_some, le-ltb, length-all_posted, length-append, length-map, length-set, line_at, list_any, lt-ltb, marks_of_writes, memory_done, memory_now, memory_with, moment_after_writes, moment_in, moment_now, nat_lt, ne_eqb, none-some, none_done, none_taken, not, option_map, own_at_cut, parts_of, path_length, plain_memory, position_from, position_or_len, put_lines, read_cut, read_done, read_line, read_plan, read_steps, recovery_bound, refill, replicate, same_Some, setup_under, shape_of, slice_set, started_as, step_limit, take-append-add, take-append-le, take_all, take_at, true≢false, unwrap_or, whole_places, whole_write, with_marks, write_steps, writes_none, writes_own, zero_line, zip, ◌==◌, ◌||◌, ◌≢◌}
pub use Rattle.line_session.specs.declared.starts.StartFault.{StartFault}
pub use Rattle.line_session.proofs.NewDevices.{few_data}
pub use Rattle.line_session.proofs.Recoveries.{sound_recovered, recovered}
pub use Rattle.line_session.proofs.SessionCalls.{called_store, turned_on, turned_off, or_true, refused_from}
pub use Rattle.line_session.proofs.NewDevices.{few_of_start}
pub use Rattle.line_session.proofs.Worlds.{same_setup, line_on_in}
pub use Rattle.line_session.specs.Answered.{is_sealed_since}
pub use Rattle.line_session.specs.Started.{HasStarted}
pub use Rattle.line_session.specs.State.{setup_in, chip_in}
pub use Rattle.line_session.specs.World.{StoreSession, IsLineWorld, IsLineOn, IsLineOff, IsLineBy}
pub use Rattle.line_session.specs.Made.{HasMade, parts_during}
pub use Rattle.line_session.specs.Turned.{HasTurned, IsCutInRecovery, HasShownTwin}
pub use Rattle.pmem_engine.specs.Engine.{on_chip}
pub use Rattle.txn_session.specs.StoreCalls.{HasReadAt, HasCommitted, HoldsLogged, txn_store}
pub use Rattle.txn_session.specs.declared.calls.TxnStore.{TxnStore}
pub use Rattle.line_txn.proofs.EditStages.{deciding_fit, applying_fit, length-deciding, length-applying, length-copy_edits, redoing_fit, after_bodies, after_all_bodies, after_targets, after_all_targets, after_copies, length-bodies, length-targets}
pub use Rattle.line_txn.proofs.Headers.{one_header, targets_of_header}
pub use Rattle.line_txn.proofs.LoggedLaws.{whole_at_each_stage, zero_logged, kept_by_opening, zero_header}
pub use Rattle.line_txn.proofs.Openings.{logged_size}
pub use Rattle.line_txn.specs.Edits.{IsWholeTxn, body_edits, target_edits, deciding_edits, applying_edits, redoing_edits, copy_edits}
pub use Rattle.line_txn.specs.Header.{header_of, AreTargets, IsHeader, AreDistinctBelow}
pub use Rattle.line_txn.specs.Logged.{targets_of, bodies_of, IsLogged, commit_lines_at, targets_at, commit_memory_at, lines_opened, targets_opened, CommitStage, logged, decided, cleared, lines_decided, with_header, Opening, partly, through, memory_in}
pub use Rattle.line_txn.specs.Plans.{OpeningStop, commit_plan, opened_of, FollowsOpening, IsOpenedAs, open_plan}
pub use Rattle.line_txn.specs.Store.{HasStoreCommitted, IsServedAs, logged_lines, HasStoreOpened, HasStoreStarted, HasTargetsRedone, IsOpenedBy, HasDecided, HasCommitGoneOn, commit_answer_by, HasFailedRedo}
pub use Rattle.line_txn.specs.declared.store.CommitFault.{CommitFault}
pub use Rattle.line_txn.specs.declared.store.Committed.{Committed}
pub use Rattle.line_txn.specs.declared.store.Opened.{Opened}
pub use Rattle.line_txn.specs.declared.store.Store.{Store}
pub use Rattle.line_txn.specs.declared.store.TxnFault.{TxnFault}
pub use Rattle.txn_session.specs.Answered.{most_of_commit, IsTxnButForSteps, GoesToTxnState, IsTxnCutOff, after_commit, IsTxnAnswered, IsCommitting, EndsCommit, HasTxnCommitted, IsTxnAnsweredAs, txn_decided, txn_after_decided, HasTxnOpened, after_redo, is_txn_full, most_of_redo, of_open, txn_of_line, committed, held, line_held, IsTxnShownBy, txn_most_of_on, IsTxnServed, begun_txn, HasTxnRead}
pub use Rattle.line_txn.specs.Promised.{HasOpenedStore, IsStoreOpening, HasReadServed, HasCommittedTxn}
pub use Rattle.txn_session.specs.Planned.{IsTxnCalled, Said, commit_call, done_said, stuck_said, read_call, read_said, open_call, open_said, fault_said, commit_said, opened_said, serving_said}
pub use Rattle.txn_session.specs.State.{Entries, body_writes, commit_writes, TxnState, txn_left, with_commit, targets_in_force, redone_memory, txn_setup_in, IsNewTxn, entry_in, redo_writes, txn_lines_in, with_put_line, target_writes}
pub use Rattle.txn_session.specs.World.{IsTxnWorld, IsOpenBy, stuck_in, txn_of}
pub use Rattle.txn_session.specs.declared.answers.TxnAnswer.{TxnAnswer}
pub use Rattle.txn_session.specs.declared.commands.TxnCommand.{TxnCommand}
