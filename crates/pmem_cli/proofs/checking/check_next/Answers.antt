use Rattle.std.proofs.Common.{rules, ◌≡◌, refl, arith}
use Rattle.plain_model.specs.declared.Stop.TheVariants.{ReadFault}
use Rattle.pmem_cli.specs.Wholes.{left_in}
use Rattle.pmem_cli.proofs.CheckLemmas.{ChecksNext-line, HasCheckedLines-last, HasCheckedLines-at_last, HasCheckedLines-long, HasCheckedLines-end, HasCheckedLines-fault}
use Rattle.pmem_cli.proofs.FaultLemmas.{CountsFault-none, CountsFault-err}
use Rattle.pmem_cli.proofs.PullLemmas.{pulled_undecided}
use Rattle.pmem_cli.proofs.checking.check_next.Goals as goal

pub returns-in-Err-clause-turn : goal.returns-in-Err-clause-turn
returns-in-Err-clause-turn g c = λ whole may.
    let (taken, within, short) = c.in-Err.ensures.fault whole may in
    HasCheckedLines-fault _ _ _ _ _ taken within short (omega (arith, c.requires)) (λ full. absurd (omega (arith, full, c.requires)))

pub returns-in-Ok-End-clause-turn : goal.returns-in-Ok-End-clause-turn
returns-in-Ok-End-clause-turn g c = λ whole may.
    let found = (rw c.in-Ok-End.field-0-is at c.in-Ok-End.ensures.found) whole may in
    HasCheckedLines-end _ _ (left_in g.S.Source.known whole c.next_line.new.source) _ _ found.0 found.1 (omega (arith, c.requires))

pub returns-in-Ok-Long-clause-turn : goal.returns-in-Ok-Long-clause-turn
returns-in-Ok-Long-clause-turn g c = λ whole may.
    let found = (rw c.in-Ok-Long.field-0-is at c.in-Ok-Long.ensures.found) whole may in
    HasCheckedLines-long _ _ (left_in g.S.Source.known whole c.next_line.new.source) _ _ _ _ found.1 found.2 found.3 refl c.requires

pub returns-in-Ok-Line-clause-turn : goal.returns-in-Ok-Line-clause-turn
returns-in-Ok-Line-clause-turn g c = λ whole may.
    let found = (rw c.in-Ok-Line.field-0-is at c.in-Ok-Line.ensures.found) whole may in
    ChecksNext-line c.check_line.result _ _ _ _ _ _ _ _ (rw c.as_slice.ensures.value found.0) (rw c.as_slice.ensures.value found.1) refl c.requires
    c.check_line.ensures

pub returns-in-None-clause-turn : goal.returns-in-None-clause-turn
returns-in-None-clause-turn g c = λ whole may.
    let found = (rw c.in-Ok-Last.field-0-is at c.in-Ok-Last.ensures.found) whole may in
    HasCheckedLines-last _ _ (left_in g.S.Source.known whole c.next_line.new.source) _ _ _ _ (rw c.as_slice-in-Ok-Last.ensures.value found.0) (rw c.as_slice-in-Ok-Last.ensures.value found.1)
    (rw c.as_slice-in-Ok-Last.ensures.value found.2) found.3 c.requires c.in-None.ensures

pub returns-in-Some-clause-turn : goal.returns-in-Some-clause-turn
returns-in-Some-clause-turn g c = λ whole may.
    let found = (rw c.in-Ok-Last.field-0-is at c.in-Ok-Last.ensures.found) whole may in
    HasCheckedLines-at_last _ _ _ _ _ _ _ _ _ (rw c.as_slice-in-Ok-Last.ensures.value found.0) (rw c.as_slice-in-Ok-Last.ensures.value found.1)
    (rw c.as_slice-in-Ok-Last.ensures.value found.2) found.3 refl c.requires c.in-Some.ensures

-- ---- faults and pulls

pub returns-in-Err-clause-reads : goal.returns-in-Err-clause-reads
returns-in-Err-clause-reads g c = CountsFault-err _ _ _ _ refl c.in-Err.ensures.cause

pub returns-in-Ok-End-clause-reads : goal.returns-in-Ok-End-clause-reads
returns-in-Ok-End-clause-reads g c = CountsFault-none _ _ _ (λ same. cc) c.in-Ok-End.ensures.cause.kept

pub returns-in-Ok-Long-clause-reads : goal.returns-in-Ok-Long-clause-reads
returns-in-Ok-Long-clause-reads g c = CountsFault-none _ _ _ (λ same. cc) c.in-Ok-Long.ensures.cause.kept

pub returns-in-Ok-Line-clause-reads : goal.returns-in-Ok-Line-clause-reads
returns-in-Ok-Line-clause-reads g c = CountsFault-none _ _ _ (λ same. rw same at c.check_line.ensures) c.in-Ok-Line.ensures.cause.kept

pub returns-in-None-clause-reads : goal.returns-in-None-clause-reads
returns-in-None-clause-reads g c = CountsFault-none _ _ _ (λ same. cc) c.in-Ok-Last.ensures.cause.kept

pub returns-in-Some-clause-reads : goal.returns-in-Some-clause-reads
returns-in-Some-clause-reads g c =
    CountsFault-none _ _ _ (λ same. let is : c.in-Some.stop ≡ ReadFault = cc in rw is at c.in-Some.ensures) c.in-Ok-Last.ensures.cause.kept

pub returns-in-Ok-Line-clause-pulls : goal.returns-in-Ok-Line-clause-pulls
returns-in-Ok-Line-clause-pulls g c = search rules

pub returns-in-Err-clause-last_pull : goal.returns-in-Err-clause-last_pull
returns-in-Err-clause-last_pull g c = λ whole may. pulled_undecided _ _ _ _ _ c.requires (c.in-Err.ensures.last_pull whole may)

pub returns-in-Ok-End-clause-last_pull : goal.returns-in-Ok-End-clause-last_pull
returns-in-Ok-End-clause-last_pull g c = λ whole may. pulled_undecided _ _ _ _ _ c.requires (c.in-Ok-End.ensures.last_pull whole may)

pub returns-in-Ok-Long-clause-last_pull : goal.returns-in-Ok-Long-clause-last_pull
returns-in-Ok-Long-clause-last_pull g c = λ whole may. pulled_undecided _ _ _ _ _ c.requires (c.in-Ok-Long.ensures.last_pull whole may)

pub returns-in-Ok-Line-clause-last_pull : goal.returns-in-Ok-Line-clause-last_pull
returns-in-Ok-Line-clause-last_pull g c = λ whole may. pulled_undecided _ _ _ _ _ c.requires (c.in-Ok-Line.ensures.last_pull whole may)

pub returns-in-None-clause-last_pull : goal.returns-in-None-clause-last_pull
returns-in-None-clause-last_pull g c = λ whole may. pulled_undecided _ _ _ _ _ c.requires (c.in-Ok-Last.ensures.last_pull whole may)

pub returns-in-Some-clause-last_pull : goal.returns-in-Some-clause-last_pull
returns-in-Some-clause-last_pull g c = λ whole may. pulled_undecided _ _ _ _ _ c.requires (c.in-Ok-Last.ensures.last_pull whole may)
