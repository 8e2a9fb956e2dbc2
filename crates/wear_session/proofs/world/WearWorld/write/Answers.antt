-- A line is written, or memory runs out.
use Rattle.std.proofs.Common.{◌≡◌, rules}
use Rattle.pmem_base.specs.declared.faults.MemFault.{MemFault}
use Rattle.wear_session.proofs.Common.{WearState, wear_of, setup_in, IsWearMemoryWanted}
use Rattle.wear_session.specs.declared.commands.WearCommand.TheVariants as Do
use Rattle.wear_session.proofs.Worlds.{WearCall}
use Rattle.wear_session.proofs.Served.{IsWriteServed, write_served}
use Rattle.wear_session.proofs.world.WearWorld.write.Given.{Over}
use Rattle.wear_session.proofs.world.WearWorld.write.Goals.{After-write_answer}
use Rattle.wear_session.proofs.world.WearWorld.write.Goals as goal

module _ (g : Over) (c : After-write_answer g) where
  abbrev call : WearCall
  call =
      record {
        formulas_of = g.S.Suite.formulas_of;
        every = c.self.inside.every;
        old = c.self.inside.session;
        new = c.make-done.new.self;
        held = c.self.invariant;
      }

  abbrev left : WearState
  left = wear_of (setup_in g.S.Suite.formulas_of c.make-done.new.self.state) c.self.inside.every c.make-done.new.self

  -- whatever is shown of running out of memory
  module _ (why : MemFault → Type 0)
      (wants : (fault : MemFault) → left ≡ c.args.self.now → IsWearMemoryWanted c.args.self.now (Do.Write c.args.at c.args.line.now) → why fault) where
    served : IsWriteServed call c.args.self.now c.self.view_is c.make-done.ensures.world c.args.at c.args.line.now c.is_whole.ensures why wants
        c.make-done.result c.write_answer.result
    served = search (rules, write_served)

  same : IsWriteServed call c.args.self.now c.self.view_is c.make-done.ensures.world c.args.at c.args.line.now c.is_whole.ensures
      (λ fault. left ≡ c.args.self.now) (λ fault is wanted. is) c.make-done.result c.write_answer.result
  same = served (λ fault. left ≡ c.args.self.now) (λ fault is wanted. is)

pub invariant_of-self : goal.invariant_of-self
invariant_of-self g c = (same g ((goal.at.invariant_of-self g c).After-write_answer)).held

pub returns-clause-answered : goal.returns-clause-answered
returns-clause-answered g c = (same g ((goal.at.returns-clause-answered g c).After-write_answer)).answered

pub returns-clause-err : goal.returns-clause-err
returns-clause-err g c = (same g ((goal.at.returns-clause-err g c).After-write_answer)).halted

pub returns-clause-wanting : goal.returns-clause-wanting
returns-clause-wanting g c =
    (served g ((goal.at.returns-clause-wanting g c).After-write_answer)
    (λ fault. IsWearMemoryWanted c.args.self.now (Do.Write c.args.at c.args.line.now)) (λ fault is wanted. wanted)).halted

pub returns-clause-logged : goal.returns-clause-logged
returns-clause-logged g c = (same g ((goal.at.returns-clause-logged g c).After-write_answer)).logged _ _ c.make-done.ensures.logged
