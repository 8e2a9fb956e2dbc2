-- A line is read, or the read is stopped.
use Rattle.std.proofs.Common.{◌≡◌, ◌<◌, arith, rules, subst, sym, ◌∙◌, Ok, Err, None, inr}
use Rattle.std.specs.Prelude.{Result, true, false}
use Rattle.pmem_base.specs.declared.lines.Line.{Line}
use Rattle.pmem_base.specs.declared.commands.Command.TheVariants as Do
use Rattle.pmem_base.specs.declared.answers.Answer.TheVariants as Say
use Rattle.pmem_base.specs.Layout as layout
use Rattle.suite.specs.Setup.{Setup}
use Rattle.plain_model.specs.Answers.{is_covered}
use Rattle.pmem_engine.specs.declared.fault.Fault.{Fault}
use Rattle.pmem_replay.specs.Planned.{ReadsLine}
use Rattle.pmem_replay.specs.EngineCalls.{HasCalledEngine, IsFaultAnswered}
use Rattle.pmem_replay.specs.Replies.{without_marks}
use Rattle.pmem_replay.specs.Stepped.{HasStepped}
use Rattle.pmem_replay.specs.World.{setup_of_world}
use Rattle.pmem_replay.proofs.EngineCalls.CommandSteps.{Serving, serving, can_stop}
use Rattle.pmem_replay.proofs.Commands.ReadSteps.{read_got, read_stopped}
use Rattle.pmem_replay.proofs.Drains.FenceLaws.{some_engine, on_lit}
use Rattle.pmem_replay.proofs.Table.ForwardedReads.{covered_by, uncovered_by, read-forwarded}
use Rattle.pmem_replay.proofs.world.World.read.Given.{Over}
use Rattle.pmem_replay.proofs.world.World.read.Goals.{After-steps-steps}
use Rattle.pmem_replay.proofs.world.World.read.Goals as goal

-- once the engine has answered
module _ (g : Over) (c : After-steps-steps g) where
  abbrev setup : Setup
  setup = setup_of_world g.S.Suite.formulas_of c.args.self.now

  abbrev served : (answer : Result Line Fault) → c.call-done.result.answer ≡ answer → Serving (ReadsLine c.args.at) None answer
  served answer is =
      serving setup c.args.self.now c.call-done.result.taken c.call-done.new.self
      (subst (λ (r : Result Line Fault). HasCalledEngine setup (ReadsLine c.args.at) None c.args.self.now c.call-done.result.taken r c.call-done.new.self) is c.call-done.ensures.called)

  on : c.args.self.now.state.power ≡ true
  on = on_lit setup c.args.self.now c.holds.ensures (search (rules, c.is_on.ensures, c.if-not-is_on.false))

  within : c.args.at < layout.data_lines setup.shape
  within = omega (arith, c.if-at-from.false, c.from.ensures, c.lines.ensures)

  uncovered : is_covered c.args.self.now.state c.args.port c.args.at ≡ false
  uncovered = uncovered_by c.args.self.now.state c.args.port c.args.at c.look-seen.result.mask c.look-seen.ensures.full c.if-seen.false

-- all bytes are waiting ones
pub returns-then-seen-clause-stepped : goal.returns-then-seen-clause-stepped
returns-then-seen-clause-stepped g c =
    let setup = setup_of_world g.S.Suite.formulas_of c.args.self.now in
    let found = some_engine c.args.self.now.engine (search (rules, c.is_on.ensures, c.if-not-is_on.false)) in
    read-forwarded setup c.args.self.now (record { whole = c.holds.ensures; unshown = c.requires.shown }) found.0 found.1 c.args.port c.args.at c.requires.port
    (omega (arith, c.if-at-from.false, c.from.ensures, c.lines.ensures))
    (covered_by c.args.self.now.state c.args.port c.args.at c.look-seen.result.mask c.look-seen.ensures.full c.if-seen.true) c.look-seen.result.line
    c.look-seen.ensures.newest (record { long = c.is_whole.ensures.long; bytes = c.is_whole.ensures.bytes })

pub stopped-requires : goal.stopped-requires
stopped-requires g c =
    let at = (goal.at.stopped-requires g c).After-steps-steps in
    can_stop c.in-Err.fault (served g at (Err c.in-Err.fault) c.in-Err.is).called

pub returns-in-Ok-clause-stepped : goal.returns-in-Ok-clause-stepped
returns-in-Ok-clause-stepped g c =
    let at = (goal.at.returns-in-Ok-clause-stepped g c).After-steps-steps in
    subst (λ n. HasStepped (setup g at) c.args.self.now (Do.Read c.args.port c.args.at) (without_marks (Say.Got c.overlay.result n)) c.call-done.new.self) (sym c.steps-steps.ensures)
    (read_got c.args.port c.args.at c.in-Ok.line c.overlay.result (served g at (Ok c.in-Ok.line) c.in-Ok.is) (within g at) (uncovered g at)
    (c.overlay.ensures.value ∙ c.look-seen.ensures.over c.in-Ok.line c.is_whole-in-Ok.ensures.long) c.overlay.ensures.whole)

pub returns-in-Err-clause-stepped : goal.returns-in-Err-clause-stepped
returns-in-Err-clause-stepped g c =
    let at = (goal.at.returns-in-Err-clause-stepped g c).After-steps-steps in
    read_stopped c.args.port c.args.at c.in-Err.fault (served g at (Err c.in-Err.fault) c.in-Err.is) (within g at) (uncovered g at) c.stopped.result
    (subst (λ n. IsFaultAnswered c.call-done.new.self.ledger.exhibit None c.in-Err.fault n c.stopped.result) c.steps-steps.ensures c.stopped.ensures)

pub returns-in-Ok-clause-kept : goal.returns-in-Ok-clause-kept
returns-in-Ok-clause-kept g c =
    let at = (goal.at.returns-in-Ok-clause-kept g c).After-steps-steps in
    inr (on g at, within g at, uncovered g at)

pub returns-in-Err-clause-kept : goal.returns-in-Err-clause-kept
returns-in-Err-clause-kept g c =
    let at = (goal.at.returns-in-Err-clause-kept g c).After-steps-steps in
    inr (on g at, within g at, uncovered g at)
