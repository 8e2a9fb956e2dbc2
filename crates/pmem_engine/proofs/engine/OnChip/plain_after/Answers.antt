-- The write is a whole line, or its line was unsealed or refused.
use Rattle.std.proofs.Common.{◌<◌, Result, Ok, Err, sym, subst, arith}
use Rattle.pmem_base.specs.declared.lines.Line.{Line}
use Rattle.suite.specs.Setup.{Setup}
use Rattle.pmem_engine.specs.declared.fault.LineFault.{LineFault}
use Rattle.pmem_engine.specs.Parts.{Parts, parts_with_at, setup_with_at}
use Rattle.pmem_engine.specs.Writing.{HasMadePlain}
use Rattle.call_effects.proofs.ResultLaws.{is_err_of}
use Rattle.pmem_engine.proofs.PostedWrites.PlainMakings.{plain_whole, plain_unsealed}
use Rattle.call_plan.proofs.Steps.{ended_err}
use Rattle.pmem_engine.specs.Plans.{chip_with_at}
use Rattle.pmem_engine.proofs.PlannedCalls.FinishPlans.{plain_whole_line, plain_opened, plain_refused}
use Rattle.pmem_engine.proofs.engine.OnChip.plain_after.Goals as goal

pub returns-then-write-eq64-clause-made : goal.returns-then-write-eq64-clause-made
returns-then-write-eq64-clause-made g c =
    let setup : Setup = setup_with_at g.S.Suite c.args.self.now c.args.suite.now in
    let old : Parts = parts_with_at g.B.Board g.S.Suite g.A.Audit c.args.self.now c.args.board.now c.args.suite.now c.args.audit.now in
    plain_whole setup c.args.write.now old c.requires.posted c.if-write-eq64.true

pub returns-clause-made : goal.returns-clause-made
returns-clause-made g c =
    let setup : Setup = setup_with_at g.S.Suite c.args.self.now c.args.suite.now in
    let old : Parts = parts_with_at g.B.Board g.S.Suite g.A.Audit c.args.self.now c.args.board.now c.args.suite.now c.args.audit.now in
    let new : Parts = parts_with_at g.B.Board g.S.Suite g.A.Audit c.args.self.now c.unseal_line.new.board c.unseal_line.new.suite c.unseal_line.new.audit in
    let shorter : c.args.write.now.len < 64 =
    (let other = c.if-write-eq64.false in
    let inside = c.requires.posted.inside in
    omega (arith, other, inside)) in
    subst (λ (line : Line). HasMadePlain setup c.args.write.now old new (Ok line)) (sym c.line_with.ensures)
    (plain_unsealed setup c.args.write.now c.counter-ctr.result old new shorter
    (λ trusted cached. c.counter-ctr.ensures.last setup (g.A.Audit.ledger c.args.audit.now) trusted cached)
    (Ok c.in_ok-unsealed.unsealed) c.in_ok-unsealed.ensures.unsealed)

pub returns-in_err-unsealed-clause-made : goal.returns-in_err-unsealed-clause-made
returns-in_err-unsealed-clause-made g c =
    let setup : Setup = setup_with_at g.S.Suite c.args.self.now c.args.suite.now in
    let old : Parts = parts_with_at g.B.Board g.S.Suite g.A.Audit c.args.self.now c.args.board.now c.args.suite.now c.args.audit.now in
    let new : Parts = parts_with_at g.B.Board g.S.Suite g.A.Audit c.args.self.now c.unseal_line.new.board c.unseal_line.new.suite c.unseal_line.new.audit in
    let shorter : c.args.write.now.len < 64 =
    (let other = c.if-write-eq64.false in
    let inside = c.requires.posted.inside in
    omega (arith, other, inside)) in
    subst (λ (answer : Result Line LineFault). HasMadePlain setup c.args.write.now old new answer)
    (sym (is_err_of c.from_residual.result c.in_err-unsealed.field-0.0 c.from_residual.ensures.1))
    (plain_unsealed setup c.args.write.now c.counter-ctr.result old new shorter
    (λ trusted cached. c.counter-ctr.ensures.last setup (g.A.Audit.ledger c.args.audit.now) trusted cached)
    (Err c.in_err-unsealed.field-0.0) c.in_err-unsealed.ensures.unsealed)

pub returns-then-write-eq64-clause-plan : goal.returns-then-write-eq64-clause-plan
returns-then-write-eq64-clause-plan g c =
    plain_whole_line (setup_with_at g.S.Suite c.args.self.now c.args.suite.now) (g.B.Board.device c.args.board.now).regs c.args.write.now
    (chip_with_at g.S.Suite g.A.Audit c.args.self.now c.args.suite.now c.args.audit.now) (g.B.Board.device c.args.board.now) c.if-write-eq64.true

pub returns-clause-plan : goal.returns-clause-plan
returns-clause-plan g c =
    plain_opened (setup_with_at g.S.Suite c.args.self.now c.args.suite.now) (g.B.Board.device c.args.board.now).regs c.args.write.now
    (chip_with_at g.S.Suite g.A.Audit c.args.self.now c.args.suite.now c.args.audit.now) c.counter-ctr.result c.counter-ctr.ensures.cached c.if-write-eq64.false
    (chip_with_at g.S.Suite g.A.Audit c.args.self.now c.unseal_line.new.suite c.unseal_line.new.audit) c.in_ok-unsealed.unsealed c.line_with.result
    c.line_with.ensures c.in_ok-unsealed.ensures.plan

pub returns-in_err-unsealed-clause-plan : goal.returns-in_err-unsealed-clause-plan
returns-in_err-unsealed-clause-plan g c =
    ended_err c.from_residual.result c.from_residual.ensures.1
    (plain_refused (setup_with_at g.S.Suite c.args.self.now c.args.suite.now) (g.B.Board.device c.args.board.now).regs c.args.write.now
    (chip_with_at g.S.Suite g.A.Audit c.args.self.now c.args.suite.now c.args.audit.now) c.counter-ctr.result c.counter-ctr.ensures.cached c.if-write-eq64.false
    c.in_err-unsealed.ensures.plan)
