-- The path was fetched, and then the line unsealed or refused.
use Rattle.std.proofs.Common.{◌≡◌, ◌∙◌, Result, Ok, Err, refl, sym, ap, ap₂, subst}
use Rattle.std.proofs.lemmas.Result.{err_from_is_err_and}
use Rattle.pmem_base.specs.declared.lines.Line.{Line}
use Rattle.suite.specs.Setup.{Setup}
use Rattle.pmem_engine.specs.declared.fault.Fault.{Fault}
use Rattle.pmem_engine.specs.Parts.{Parts, parts_with_at, setup_with_at}
use Rattle.pmem_engine.specs.Outcomes.{fault_of_path, fault_of_line}
use Rattle.call_effects.proofs.ResultLaws.{is_err_of}
use Rattle.pmem_engine.proofs.CheckedReads.LineReads.{IsReadEnd, read_after_fetch, read_unfetched}
use Rattle.pmem_base.specs.declared.registers.Regs.{Regs}
use Rattle.pmem_base.specs.Shape.{Shape}
use Rattle.pmem_base.specs.Layout.{page_of}
use Rattle.page_reencrypt.specs.Registers.{counter_of}
use Rattle.call_plan.specs.Following.{Follows}
use Rattle.call_plan.proofs.Steps.{ended_err}
use Rattle.pmem_engine.specs.Inner.{cached_block}
use Rattle.pmem_engine.specs.Plans.{Chip, chip_with_at, its_counter, unseal_plan}
use Rattle.pmem_engine.proofs.PlannedCalls.ReadPlans.{unfetched_read, unsealed_read, refused_read}
use Rattle.pmem_engine.proofs.engine.OnChip.read_line.Given.{Over}
use Rattle.pmem_engine.proofs.engine.OnChip.read_line.Goals.{After-counter-ctr}
use Rattle.pmem_engine.proofs.engine.OnChip.read_line.Goals as goal

-- ---- the plan

pub returns-in_err-fetch-clause-plan : goal.returns-in_err-fetch-clause-plan
returns-in_err-fetch-clause-plan g c =
    ended_err c.from_residual.result c.from_residual.ensures.1
    (unfetched_read (setup_with_at g.S.Suite c.args.self.now c.args.suite.now) (g.B.Board.device c.args.board.now).regs c.args.at
    (chip_with_at g.S.Suite g.A.Audit c.args.self.now c.args.suite.now c.args.audit.now)
    (chip_with_at g.S.Suite g.A.Audit c.fetch.new.self c.fetch.new.suite c.fetch.new.audit) c.in_err-fetch.field-0.0 c.in_err-fetch.ensures.plan)

module _ (g : Over) (c : After-counter-ctr g) where
  abbrev setup : Setup
  setup = setup_with_at g.S.Suite c.args.self.now c.args.suite.now

  abbrev regs : Regs
  regs = (g.B.Board.device c.args.board.now).regs

  abbrev was : Chip
  was = chip_with_at g.S.Suite g.A.Audit c.args.self.now c.args.suite.now c.args.audit.now

  abbrev fetched : Chip
  fetched = chip_with_at g.S.Suite g.A.Audit c.fetch.new.self c.fetch.new.suite c.fetch.new.audit

  counter : c.counter-ctr.result ≡ its_counter setup regs c.args.at fetched
  counter =
      c.counter-ctr.ensures.cached
      ∙ ap₂ (λ (r : Regs) (s : Shape). counter_of r.progress.items (cached_block s c.fetch.new.self (page_of c.args.at)) c.args.at)
      c.in_ok-fetch.ensures.fetched.regs c.in_ok-fetch.ensures.fetched.done.gone.shape

  same_setup : setup_with_at g.S.Suite c.fetch.new.self c.fetch.new.suite ≡ setup
  same_setup =
      ap₂ (λ (s : Shape) keys. let its : Setup = record { shape = s; formulas = g.S.Suite.formulas_of keys } in its)
      c.in_ok-fetch.ensures.fetched.done.gone.shape c.fetch.ensures.keys

pub returns-clause-plan : goal.returns-clause-plan
returns-clause-plan g c =
    let at = (goal.at.returns-clause-plan g c).After-counter-ctr in
    let after : Chip = chip_with_at g.S.Suite g.A.Audit c.fetch.new.self c.unseal_line.new.suite c.unseal_line.new.audit in
    unsealed_read (setup g at) (regs g at) c.args.at (was g at) (fetched g at) after c.counter-ctr.result (counter g at) c.in_ok-fetch.ensures.plan
    c.in_ok-unsealed.unsealed
    (subst (λ (s : Setup). Follows (unseal_plan s c.args.at c.counter-ctr.result (fetched g at)) (g.B.Board.device c.fetch.new.board)
    (g.B.Board.device c.unseal_line.new.board) (Ok (after, c.in_ok-unsealed.unsealed))) (same_setup g at) c.in_ok-unsealed.ensures.plan)

pub returns-in_err-unsealed-clause-plan : goal.returns-in_err-unsealed-clause-plan
returns-in_err-unsealed-clause-plan g c =
    let at = (goal.at.returns-in_err-unsealed-clause-plan g c).After-counter-ctr in
    let after : Chip = chip_with_at g.S.Suite g.A.Audit c.fetch.new.self c.unseal_line.new.suite c.unseal_line.new.audit in
    ended_err c.from_residual-in_err-unsealed.result c.from_residual-in_err-unsealed.ensures.1
    (refused_read (setup g at) (regs g at) c.args.at (was g at) (fetched g at) after c.counter-ctr.result (counter g at) c.in_ok-fetch.ensures.plan
    c.in_err-unsealed.field-0.0
    (subst (λ (s : Setup). Follows (unseal_plan s c.args.at c.counter-ctr.result (fetched g at)) (g.B.Board.device c.fetch.new.board)
    (g.B.Board.device c.unseal_line.new.board) (Err (after, c.in_err-unsealed.field-0.0))) (same_setup g at) c.in_err-unsealed.ensures.plan))

-- ---- the relation

pub returns-clause-read : goal.returns-clause-read
returns-clause-read g c =
    let setup : Setup = setup_with_at g.S.Suite c.args.self.now c.args.suite.now in
    let old : Parts = parts_with_at g.B.Board g.S.Suite g.A.Audit c.args.self.now c.args.board.now c.args.suite.now c.args.audit.now in
    let mid : Parts = parts_with_at g.B.Board g.S.Suite g.A.Audit c.fetch.new.self c.fetch.new.board c.fetch.new.suite c.fetch.new.audit in
    let new : Parts = parts_with_at g.B.Board g.S.Suite g.A.Audit c.fetch.new.self c.unseal_line.new.board c.unseal_line.new.suite c.unseal_line.new.audit in
    read_after_fetch setup c.args.at c.counter-ctr.result old mid new refl c.in_ok-fetch.ensures.fetched
    (g.S.Suite.formulas_of (g.S.Suite.keys c.fetch.new.suite)) (ap g.S.Suite.formulas_of c.fetch.ensures.keys)
    (Ok c.in_ok-unsealed.unsealed) c.in_ok-unsealed.ensures.unsealed
    (λ trusted cached. c.counter-ctr.ensures.last setup (g.A.Audit.ledger c.fetch.new.audit) trusted cached)
    (returns-clause-plan g c)

pub returns-in_err-unsealed-clause-read : goal.returns-in_err-unsealed-clause-read
returns-in_err-unsealed-clause-read g c =
    let setup : Setup = setup_with_at g.S.Suite c.args.self.now c.args.suite.now in
    let old : Parts = parts_with_at g.B.Board g.S.Suite g.A.Audit c.args.self.now c.args.board.now c.args.suite.now c.args.audit.now in
    let mid : Parts = parts_with_at g.B.Board g.S.Suite g.A.Audit c.fetch.new.self c.fetch.new.board c.fetch.new.suite c.fetch.new.audit in
    let new : Parts = parts_with_at g.B.Board g.S.Suite g.A.Audit c.fetch.new.self c.unseal_line.new.board c.unseal_line.new.suite c.unseal_line.new.audit in
    let answer = err_from_is_err_and c.from_residual-in_err-unsealed.result c.from_residual-in_err-unsealed.ensures.1 in
    let same : c.from_residual-in_err-unsealed.result ≡ Err (fault_of_line c.in_err-unsealed.field-0.0) =
    answer.1 ∙ ap (λ (fault : Fault). Err fault) answer.2 in
    subst (λ (answer : Result Line Fault). IsReadEnd setup c.args.at old new answer) (sym same)
    (read_after_fetch setup c.args.at c.counter-ctr.result old mid new refl c.in_ok-fetch.ensures.fetched
    (g.S.Suite.formulas_of (g.S.Suite.keys c.fetch.new.suite)) (ap g.S.Suite.formulas_of c.fetch.ensures.keys)
    (Err c.in_err-unsealed.field-0.0) c.in_err-unsealed.ensures.unsealed
    (λ trusted cached. c.counter-ctr.ensures.last setup (g.A.Audit.ledger c.fetch.new.audit) trusted cached))
    (returns-in_err-unsealed-clause-plan g c)

pub returns-in_err-fetch-clause-read : goal.returns-in_err-fetch-clause-read
returns-in_err-fetch-clause-read g c =
    let setup : Setup = setup_with_at g.S.Suite c.args.self.now c.args.suite.now in
    let old : Parts = parts_with_at g.B.Board g.S.Suite g.A.Audit c.args.self.now c.args.board.now c.args.suite.now c.args.audit.now in
    let new : Parts = parts_with_at g.B.Board g.S.Suite g.A.Audit c.fetch.new.self c.fetch.new.board c.fetch.new.suite c.fetch.new.audit in
    subst (λ (answer : Result Line Fault). IsReadEnd setup c.args.at old new answer)
    (sym (is_err_of c.from_residual.result (fault_of_path c.in_err-fetch.field-0.0) c.from_residual.ensures.1))
    (read_unfetched setup c.args.at old new c.in_err-fetch.field-0.0 c.in_err-fetch.ensures.fetched)
    (returns-in_err-fetch-clause-plan g c)
