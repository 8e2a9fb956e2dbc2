-- What a served command does, exactly: the board followed the plan of the command's call, the answer is a function of how
-- the plan ended, and the state after is one of that and of the marks.
use Rattle.std.specs.Prelude.{ℕ, ◌≡◌, ◌||◌, Bool, true, false, List, [], Option, Some, None, unwrap_or, Result, Ok, Err, if◌then◌else◌}
use Rattle.pmem_base.specs.declared.lines.Line.{Line}
use Rattle.pmem_base.specs.declared.registers.Regs.{Regs}
use Rattle.pmem_base.specs.declared.faults.MemFault.{MemFault}
use Rattle.suite.specs.Setup.{Setup}
use Rattle.pmem_engine.specs.declared.fault.Fault.{Fault}
use Rattle.pmem_engine.specs.declared.fault.Fault.TheVariants as Fail
use Rattle.pmem_engine.specs.Plans.{read_plan}
use Rattle.line_txn.specs.declared.store.Committed.{Committed}
use Rattle.line_txn.specs.declared.store.Committed.TheVariants as Make
use Rattle.line_txn.specs.declared.store.CommitFault.{CommitFault}
use Rattle.line_txn.specs.declared.store.Opened.{Opened}
use Rattle.line_txn.specs.declared.store.TxnFault.{TxnFault}
use Rattle.line_txn.specs.Serving.{served_from}
use Rattle.line_txn.specs.Plans.{OpeningStop, Serving, open_plan, opened_of, commit_plan, commit_answer_of}
use Rattle.line_session.specs.declared.starts.StartFault.{StartFault}
use Rattle.line_session.specs.declared.starts.StartFault.TheVariants as Start
use Rattle.line_session.specs.declared.making.Done.{Done}
use Rattle.line_session.specs.declared.making.Done.TheVariants.{Off, Range, Ended}
use Rattle.line_session.specs.declared.powering.Turned.{Turned}
use Rattle.line_session.specs.declared.powering.Turned.TheVariants.{Already, On, Cut}
use Rattle.trace_text.specs.declared.talk.Halt.{Halt}
use Rattle.line_session.specs.State.{LineSession}
use Rattle.line_session.specs.StoreCalls.{CallPlan, HasCalledStore}
use Rattle.line_session.specs.Started.{HasStarted}
use Rattle.line_session.specs.Answered.{IsAnsweredBy, while_on, is_sealed_since}
use Rattle.txn_session.specs.declared.commands.TxnCommand.{TxnCommand}
use Rattle.txn_session.specs.declared.commands.TxnCommand.TheVariants as Do
use Rattle.txn_session.specs.declared.answers.TxnAnswer.{TxnAnswer}
use Rattle.txn_session.specs.declared.answers.TxnAnswer.TheVariants as Say
use Rattle.txn_session.specs.State.{TxnState, Entries, txn_left, txn_lines_in}

-- ---- the plans

abbrev pub read_call : Setup → TxnState → ℕ → CallPlan Fault Line
read_call setup old a = λ regs chip. read_plan setup regs (served_from (txn_lines_in old) old.in_force a) chip

abbrev pub commit_call : Setup → TxnState → CallPlan CommitFault Regs
commit_call setup old = λ regs chip. commit_plan setup (txn_lines_in old) (unwrap_or old.txn []) chip regs

abbrev pub open_call : Setup → CallPlan OpeningStop (List ℕ × Regs)
open_call setup = λ regs chip. open_plan setup regs chip

-- ---- the answers, each with the page that the store is stuck at and the transaction that is open

abbrev pub Said : Type 0
Said = TxnAnswer × (Option ℕ × Option Entries)

abbrev pub read_said : TxnState → LineSession → ℕ → Result Line Fault → Said
read_said old left steps (Ok line) = (Say.Got line steps, (while_on left old.stuck None, while_on left old.txn None))
read_said old left steps (Err fault) = (Say.Cut steps, (while_on left old.stuck None, while_on left old.txn None))

-- a commit that isn't done: a line before the header is spent, or power was cut
abbrev pub fault_said : Bool → ℕ → Fault → TxnAnswer
fault_said kept steps (Fail.Spent page) = Say.Spent page steps
fault_said kept steps fault = if kept then Say.CutKept steps else Say.CutLost steps

abbrev pub done_said : Bool → ℕ → Result Committed CommitFault → TxnAnswer
done_said own steps (Ok Make.Applied) = Say.Applied steps
done_said own steps (Ok (Make.Stuck page)) = Say.Stuck page steps
done_said own steps (Err fault) = fault_said (fault.committed || own) steps fault.fault

abbrev pub stuck_said : Option ℕ → Result Committed CommitFault → Option ℕ
stuck_said stuck (Ok (Make.Stuck page)) = Some page
stuck_said stuck answer = stuck

abbrev pub commit_said : TxnState → LineSession → ℕ → Result Regs CommitFault → Said
commit_said old left steps end = (
  done_said (is_sealed_since (txn_lines_in old) old.session.ledger.marks left) steps (commit_answer_of end),
  (while_on left (stuck_said old.stuck (commit_answer_of end)) None, None),
)

-- a store that is opened may be stuck
abbrev pub opened_said : ℕ → ℕ → Option ℕ → TxnAnswer
opened_said redone steps None = Say.Opened redone steps
opened_said redone steps (Some page) = Say.Stuck page steps

abbrev pub serving_said : LineSession → ℕ → Result Serving TxnFault → Said
serving_said left steps (Ok serving) = (opened_said serving.redone steps serving.stuck, (while_on left serving.stuck None, None))
serving_said left steps (Err fault) = (Say.Cut steps, (None, None))

abbrev pub open_said : LineSession → ℕ → Result (List ℕ × Regs) (StartFault OpeningStop) → Said
open_said left steps (Ok redone) = serving_said left steps (opened_of (Ok redone))
open_said left steps (Err (Start.Opening stopped)) = serving_said left steps (opened_of (Err stopped))
open_said left steps (Err (Start.Recovery fault)) = (Say.Cut steps, (None, None))

-- ---- the answers, by what a call of the session comes to

abbrev pub read_done_said : Done Line Fault → TxnAnswer
read_done_said Off = Say.Off
read_done_said Range = Say.Range
read_done_said (Ended steps sealed (Ok line)) = Say.Got line steps
read_done_said (Ended steps sealed (Err fault)) = Say.Cut steps

abbrev pub is_read_stopped : Result (Done Line Fault) MemFault → Bool
is_read_stopped (Ok (Ended steps sealed (Err fault))) = true
is_read_stopped done = false

abbrev pub commit_done_said : Done Committed CommitFault → TxnAnswer
commit_done_said Off = Say.Off
commit_done_said Range = Say.Range
commit_done_said (Ended steps sealed answer) = done_said sealed steps answer

abbrev pub turned_said : Result (Turned Opened) Halt → Result TxnAnswer Halt
turned_said (Ok Already) = Ok Say.Already
turned_said (Ok (On steps opened)) = Ok (opened_said opened.redone steps opened.stuck)
turned_said (Ok (Cut steps)) = Ok (Say.Cut steps)
turned_said (Err halt) = Err halt

-- ---- the relation

-- the call of each command
abbrev pub IsTxnCallOf : Setup → TxnState → TxnCommand → TxnAnswer → TxnState → Type 0
IsTxnCallOf setup old (Do.Read a) answer new =
    IsAnsweredBy (HasCalledStore (read_call setup old a)) (read_said old) (answer, (new.stuck, new.txn)) old.session new.session
IsTxnCallOf setup old Do.Commit answer new =
    IsAnsweredBy (HasCalledStore (commit_call setup old)) (commit_said old) (answer, (new.stuck, new.txn)) old.session new.session
IsTxnCallOf setup old Do.On answer new =
    IsAnsweredBy (HasStarted setup (open_call setup)) open_said (answer, (new.stuck, new.txn)) old.session new.session
IsTxnCallOf setup old command answer new = ⊥

-- and memory and the targets in force are what the marks say
abbrev pub IsTxnCalled : Setup → TxnState → TxnCommand → TxnAnswer → TxnState → Type 0
IsTxnCalled setup old command answer new =
    IsTxnCallOf setup old command answer new × (new ≡ txn_left setup new.session new.stuck new.txn)
