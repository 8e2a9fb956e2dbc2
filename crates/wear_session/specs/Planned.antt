-- What a served command does, exactly: the board followed the plan of the command's call, the answer is a function of how
-- the plan ended, and the state after is one of that and of the marks.
use Rattle.std.specs.Prelude.{ℕ, ◌≡◌, ◌||◌, Bool, Result, Ok, Err, if◌then◌else◌}
use Rattle.pmem_base.specs.declared.lines.Line.{Line}
use Rattle.pmem_base.specs.declared.registers.Regs.{Regs}
use Rattle.pmem_base.specs.declared.faults.MemFault.{MemFault}
use Rattle.suite.specs.Setup.{Setup}
use Rattle.pmem_engine.specs.declared.fault.Fault.{Fault}
use Rattle.pmem_engine.specs.declared.fault.Fault.TheVariants as Fail
use Rattle.pmem_engine.specs.Plans.{read_plan}
use Rattle.start_gap.specs.declared.wear.Wear.{Wear}
use Rattle.start_gap.specs.declared.gapped.GapFault.{GapFault}
use Rattle.start_gap.specs.declared.gapped.Moved.{Moved}
use Rattle.start_gap.specs.declared.gapped.Moved.TheVariants as Move
use Rattle.start_gap.specs.declared.gapped.WriteFault.{WriteFault}
use Rattle.start_gap.specs.Plans.{open_plan, levelled_plan, write_answer_of, count_after}
use Rattle.line_session.specs.declared.starts.StartFault.{StartFault}
use Rattle.line_session.specs.declared.making.Done.{Done}
use Rattle.line_session.specs.declared.making.Done.TheVariants.{Off, Range, Ended}
use Rattle.line_session.specs.declared.powering.Turned.{Turned}
use Rattle.line_session.specs.declared.powering.Turned.TheVariants.{Already, On, Cut}
use Rattle.trace_text.specs.declared.talk.Halt.{Halt}
use Rattle.line_session.specs.State.{LineSession}
use Rattle.line_session.specs.StoreCalls.{CallPlan, HasCalledStore}
use Rattle.line_session.specs.Started.{HasStarted}
use Rattle.line_session.specs.Answered.{IsAnsweredBy, while_on, is_sealed_since}
use Rattle.wear_session.specs.declared.commands.WearCommand.{WearCommand}
use Rattle.wear_session.specs.declared.commands.WearCommand.TheVariants as Do
use Rattle.wear_session.specs.declared.answers.WearAnswer.{WearAnswer}
use Rattle.wear_session.specs.declared.answers.WearAnswer.TheVariants as Say
use Rattle.wear_session.specs.State.{WearState, wear_left, wear_lines_in, place_in, is_due}

-- ---- the plans

abbrev pub read_call : Setup → WearState → ℕ → CallPlan Fault Line
read_call setup old a = λ regs chip. read_plan setup regs (place_in old a) chip

abbrev pub write_call : Setup → WearState → ℕ → Line → CallPlan WriteFault Regs
write_call setup old a plain = λ regs chip. levelled_plan setup (wear_lines_in old) old.wear (is_due old) a plain chip regs

abbrev pub open_call : Setup → CallPlan GapFault Wear
open_call setup = λ regs chip. open_plan setup regs chip

-- ---- the answers, each with the count of writes that is left; a count is lost with power

abbrev pub read_said : ℕ → LineSession → ℕ → Result Line Fault → WearAnswer × ℕ
read_said count left steps (Ok line) = (Say.Got line steps, while_on left count 0)
read_said count left steps (Err fault) = (Say.Cut steps, while_on left count 0)

-- a write that isn't done: its own line is spent, or power was cut
abbrev pub fault_said : Bool → ℕ → Fault → WearAnswer
fault_said kept steps (Fail.Spent page) = Say.Spent page steps
fault_said kept steps fault = if kept then Say.CutKept steps else Say.CutLost steps

abbrev pub move_said : Bool → ℕ → Result Moved WriteFault → WearAnswer
move_said own steps (Ok (Move.Held page)) = Say.Held page steps
move_said own steps (Ok moved) = Say.Written steps
move_said own steps (Err fault) = fault_said (fault.written || own) steps fault.fault

abbrev pub write_said : WearState → ℕ → LineSession → ℕ → Result Regs WriteFault → WearAnswer × ℕ
write_said old a left steps end = (
  move_said (is_sealed_since (place_in old a) old.session.ledger.marks left) steps (write_answer_of (is_due old) end),
  while_on left (count_after (is_due old) old.count end) 0,
)

abbrev pub open_said : LineSession → ℕ → Result Wear (StartFault GapFault) → WearAnswer × ℕ
open_said left steps (Ok wear) = (Say.Opened wear.start wear.gap steps, 0)
open_said left steps (Err fault) = (Say.Cut steps, 0)

-- ---- the answers, by what a call of the session comes to

abbrev pub done_said : {V F : Type 0} → (ℕ → Bool → Result V F → WearAnswer) → Done V F → WearAnswer
done_said says Off = Say.Off
done_said says Range = Say.Range
done_said says (Ended steps sealed answer) = says steps sealed answer

abbrev pub got_said : ℕ → Bool → Result Line Fault → WearAnswer
got_said steps sealed (Ok line) = Say.Got line steps
got_said steps sealed (Err fault) = Say.Cut steps

abbrev pub read_done_said : Done Line Fault → WearAnswer
read_done_said done = done_said got_said done

abbrev pub write_done_said : Result (Done Moved WriteFault) MemFault → Result WearAnswer MemFault
write_done_said (Ok done) = Ok (done_said (λ steps sealed answer. move_said sealed steps answer) done)
write_done_said (Err fault) = Err fault

abbrev pub turned_said : Result (Turned Wear) Halt → Result WearAnswer Halt
turned_said (Ok Already) = Ok Say.Already
turned_said (Ok (On steps wear)) = Ok (Say.Opened wear.start wear.gap steps)
turned_said (Ok (Cut steps)) = Ok (Say.Cut steps)
turned_said (Err halt) = Err halt

-- ---- the relation

-- the call of each command
abbrev pub IsWearCallOf : Setup → WearState → WearCommand → WearAnswer → WearState → Type 0
IsWearCallOf setup old (Do.Read a) answer new =
    IsAnsweredBy (HasCalledStore (read_call setup old a)) (read_said old.count) (answer, new.count) old.session new.session
IsWearCallOf setup old (Do.Write a plain) answer new =
    IsAnsweredBy (HasCalledStore (write_call setup old a plain)) (write_said old a) (answer, new.count) old.session new.session
IsWearCallOf setup old Do.On answer new =
    IsAnsweredBy (HasStarted setup (open_call setup)) open_said (answer, new.count) old.session new.session
IsWearCallOf setup old command answer new = ⊥

-- and memory and wear are what the marks say
abbrev pub IsWearCalled : Setup → WearState → WearCommand → WearAnswer → WearState → Type 0
IsWearCalled setup old command answer new =
    IsWearCallOf setup old command answer new × (new ≡ wear_left setup old.every new.session new.count)
