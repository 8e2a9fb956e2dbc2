use Rattle.std.proofs.Common.{refl, ap, inl, inr}
use Rattle.pmem_cli.specs.Wholes.{left_in}
use Rattle.pmem_cli.proofs.FaultLemmas.{CountsFault-none, CountsFault-map, stops_after}
use Rattle.pmem_cli.proofs.program.do_task.Goals as goal

pub returns-in-Run-clause-reads : goal.returns-in-Run-clause-reads
returns-in-Run-clause-reads g c = CountsFault-map _ _ _ _ _ (λ same. cc) (λ same. cc) refl c.run_trace.ensures.cause.reads

pub returns-in-Run-clause-writes : goal.returns-in-Run-clause-writes
returns-in-Run-clause-writes g c = CountsFault-map _ _ _ _ _ (λ same. cc) (λ same. cc) refl c.run_trace.ensures.cause.writes

pub returns-in-Log-clause-reads : goal.returns-in-Log-clause-reads
returns-in-Log-clause-reads g c = CountsFault-map _ _ _ _ _ (λ same. cc) (λ same. cc) refl c.log_trace.ensures.cause.reads

pub returns-in-Log-clause-writes : goal.returns-in-Log-clause-writes
returns-in-Log-clause-writes g c = CountsFault-map _ _ _ _ _ (λ same. cc) (λ same. cc) refl c.log_trace.ensures.cause.writes

pub returns-in-Log-clause-replies_first : goal.returns-in-Log-clause-replies_first
returns-in-Log-clause-replies_first g c =
    rw c.in-Log.is (λ whole may given. elim (c.log_trace.ensures.replies_first whole may) [ inl same ↦ absurd (given (ap (left_in g.S.Source.known whole) same)) | inr replied ↦ replied ])

pub returns-in-Make-clause-reads : goal.returns-in-Make-clause-reads
returns-in-Make-clause-reads g c = CountsFault-none _ _ _ (λ same. elim c.make.ensures.made.its_stop [ inl is ↦ cc | inr is ↦ cc ]) refl

pub returns-in-Make-clause-writes : goal.returns-in-Make-clause-writes
returns-in-Make-clause-writes g c = CountsFault-map _ _ _ _ _ (λ same. cc) (λ same. cc) refl c.make.ensures.writes

pub returns-in-Sample-clause-reads : goal.returns-in-Sample-clause-reads
returns-in-Sample-clause-reads g c =
    CountsFault-map _ _ _ _ _ (λ same. cc) (λ same. cc) refl (stops_after _ _ _ _ _ c.sample.ensures.cause refl).reads

pub returns-in-Sample-clause-writes : goal.returns-in-Sample-clause-writes
returns-in-Sample-clause-writes g c = CountsFault-map _ _ _ _ _ (λ same. cc) (λ same. cc) refl c.sample.ensures.cause.writes

pub returns-in-Check-clause-writes : goal.returns-in-Check-clause-writes
returns-in-Check-clause-writes g c = CountsFault-none _ _ _ c.check.ensures.write refl

pub returns-in-Run-clause-replies_first : goal.returns-in-Run-clause-replies_first
returns-in-Run-clause-replies_first g c =
    rw c.in-Run.is (λ whole may given. elim (c.run_trace.ensures.replies_first whole may) [ inl same ↦ absurd (given (ap (left_in g.S.Source.known whole) same)) | inr replied ↦ replied ])

pub returns-in-Wear-clause-reads : goal.returns-in-Wear-clause-reads
returns-in-Wear-clause-reads g c = CountsFault-map _ _ _ _ _ (λ same. cc) (λ same. cc) refl c.wear_trace.ensures.cause.reads

pub returns-in-Wear-clause-writes : goal.returns-in-Wear-clause-writes
returns-in-Wear-clause-writes g c = CountsFault-map _ _ _ _ _ (λ same. cc) (λ same. cc) refl c.wear_trace.ensures.cause.writes

pub returns-in-Wear-clause-replies_first : goal.returns-in-Wear-clause-replies_first
returns-in-Wear-clause-replies_first g c =
    rw c.in-Wear.is (λ whole may given. elim (c.wear_trace.ensures.replies_first whole may) [ inl same ↦ absurd (given (ap (left_in g.S.Source.known whole) same)) | inr replied ↦ replied ])

pub returns-in-Tree-clause-reads : goal.returns-in-Tree-clause-reads
returns-in-Tree-clause-reads g c = CountsFault-map _ _ _ _ _ (λ same. cc) (λ same. cc) refl c.tree_trace.ensures.cause.reads

pub returns-in-Tree-clause-writes : goal.returns-in-Tree-clause-writes
returns-in-Tree-clause-writes g c = CountsFault-map _ _ _ _ _ (λ same. cc) (λ same. cc) refl c.tree_trace.ensures.cause.writes

pub returns-in-Tree-clause-replies_first : goal.returns-in-Tree-clause-replies_first
returns-in-Tree-clause-replies_first g c =
    rw c.in-Tree.is (λ whole may given. elim (c.tree_trace.ensures.replies_first whole may) [ inl same ↦ absurd (given (ap (left_in g.S.Source.known whole) same)) | inr replied ↦ replied ])

pub returns-in-Txn-clause-reads : goal.returns-in-Txn-clause-reads
returns-in-Txn-clause-reads g c = CountsFault-map _ _ _ _ _ (λ same. cc) (λ same. cc) refl c.txn_trace.ensures.cause.reads

pub returns-in-Txn-clause-writes : goal.returns-in-Txn-clause-writes
returns-in-Txn-clause-writes g c = CountsFault-map _ _ _ _ _ (λ same. cc) (λ same. cc) refl c.txn_trace.ensures.cause.writes

pub returns-in-Txn-clause-replies_first : goal.returns-in-Txn-clause-replies_first
returns-in-Txn-clause-replies_first g c =
    rw c.in-Txn.is (λ whole may given. elim (c.txn_trace.ensures.replies_first whole may) [ inl same ↦ absurd (given (ap (left_in g.S.Source.known whole) same)) | inr replied ↦ replied ])

pub returns-in-Check-clause-replies_first : goal.returns-in-Check-clause-replies_first
returns-in-Check-clause-replies_first g c =
    rw c.in-Check.is (λ whole may given. elim (c.check.ensures.looked_first whole may) [ inl same ↦ absurd (given (ap (left_in g.S.Source.known whole) same)) | inr looked ↦ looked ])

-- ---- what was done

pub returns-in-Run-clause-ended : goal.returns-in-Run-clause-ended
returns-in-Run-clause-ended g c = rw c.in-Run.is (λ whole may. record { stop = c.run_trace.result; its_stop = refl; run = c.run_trace.ensures.run whole may })

pub returns-in-Log-clause-ended : goal.returns-in-Log-clause-ended
returns-in-Log-clause-ended g c = rw c.in-Log.is (λ whole may. record { stop = c.log_trace.result; its_stop = refl; run = c.log_trace.ensures.run whole may })

pub returns-in-Make-clause-ended : goal.returns-in-Make-clause-ended
returns-in-Make-clause-ended g c = rw c.in-Make.is (λ whole may. record { stop = c.make.result; its_stop = refl; made = c.make.ensures.made })

pub returns-in-Sample-clause-ended : goal.returns-in-Sample-clause-ended
returns-in-Sample-clause-ended g c = rw c.in-Sample.is (λ whole may. record { stop = c.sample.result; its_stop = refl; run = c.sample.ensures.run })

pub returns-in-Wear-clause-ended : goal.returns-in-Wear-clause-ended
returns-in-Wear-clause-ended g c = rw c.in-Wear.is (λ whole may. record { stop = c.wear_trace.result; its_stop = refl; conversed = c.wear_trace.ensures.talked whole may })

pub returns-in-Tree-clause-ended : goal.returns-in-Tree-clause-ended
returns-in-Tree-clause-ended g c = rw c.in-Tree.is (λ whole may. record { stop = c.tree_trace.result; its_stop = refl; conversed = c.tree_trace.ensures.talked whole may })

pub returns-in-Txn-clause-ended : goal.returns-in-Txn-clause-ended
returns-in-Txn-clause-ended g c = rw c.in-Txn.is (λ whole may. record { stop = c.txn_trace.result; its_stop = refl; conversed = c.txn_trace.ensures.talked whole may })

pub returns-in-Check-clause-ended : goal.returns-in-Check-clause-ended
returns-in-Check-clause-ended g c = rw c.in-Check.is (λ whole may. record { checked = c.check.ensures.checked whole may; write = c.check.ensures.write; kept = refl })

-- ---- a task that pulls nothing

pub returns-in-Make-clause-replies_first : goal.returns-in-Make-clause-replies_first
returns-in-Make-clause-replies_first g c = rw c.in-Make.is (λ whole may. tt)

pub returns-in-Sample-clause-replies_first : goal.returns-in-Sample-clause-replies_first
returns-in-Sample-clause-replies_first g c = rw c.in-Sample.is (λ whole may. tt)
