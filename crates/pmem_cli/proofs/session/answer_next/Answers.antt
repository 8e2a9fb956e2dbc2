use Rattle.std.proofs.Common.{[], arith, refl}
use Rattle.std.proofs.KnownBytes.{Consumes-nil, Consumes-kept}
use Rattle.std.proofs.lemmas.List.Elements.{All-nil}
use Rattle.pmem_cli.specs.Wholes.{left_in, left_before_in}
use Rattle.pmem_cli.proofs.PullLemmas.{pulled_undecided, pulled_at_hand, pulled_quietly}
use Rattle.pmem_cli.proofs.TurnLemmas.{HasStopped-fault, HasStopped-limit, HasStopped-end}
use Rattle.pmem_cli.proofs.FaultLemmas.{stops_unfailed, stops_unread, stops_after}
use Rattle.pmem_cli.proofs.session.answer_next.Goals as goal

-- ---- at the limit

pub returns-in-Err-clause-turn : goal.returns-in-Err-clause-turn
returns-in-Err-clause-turn g c = λ whole may.
    HasStopped-fault g.W.Serve.protocol _ _ _ _ [] _ (Consumes-kept _ _ _ [] (Consumes-nil _) (c.in-Err.ensures.fault whole may)) (All-nil _) (omega arith) c.requires.within (λ full. refl)

pub returns-in-Ok-true-clause-turn : goal.returns-in-Ok-true-clause-turn
returns-in-Ok-true-clause-turn g c = λ whole may.
    HasStopped-end g.W.Serve.protocol _ _ _ _ _ _ (Consumes-kept _ _ _ [] (Consumes-nil _) (c.is_ended.ensures.ahead whole may)) (c.in-Ok-true.ensures.end c.in-Ok-true.field-0-test whole may) c.requires.within

pub returns-in-Ok-false-clause-turn : goal.returns-in-Ok-false-clause-turn
returns-in-Ok-false-clause-turn g c = λ whole may.
    HasStopped-limit g.W.Serve.protocol _ _ _ _ _ _ _ (c.is_ended.ensures.ahead whole may) (c.in-Ok-false.ensures.more c.in-Ok-false.field-0-test) (omega arith)

pub returns-in-Err-clause-cause : goal.returns-in-Err-clause-cause
returns-in-Err-clause-cause g c = stops_unread _ _ _ _ _ c.in-Err.ensures.cause refl

pub returns-in-Ok-true-clause-cause : goal.returns-in-Ok-true-clause-cause
returns-in-Ok-true-clause-cause g c = stops_unfailed _ _ _ _ _ (λ same. cc) (λ same. cc) (λ same. cc) c.in-Ok-true.ensures.cause.kept refl

pub returns-in-Ok-false-clause-cause : goal.returns-in-Ok-false-clause-cause
returns-in-Ok-false-clause-cause g c = stops_unfailed _ _ _ _ _ (λ same. cc) (λ same. cc) (λ same. cc) c.in-Ok-false.ensures.cause.kept refl

-- ---- the next line

pub returns-in-Err-next_line-clause-turn : goal.returns-in-Err-next_line-clause-turn
returns-in-Err-next_line-clause-turn g c = λ whole may.
    let (taken, within, short) = c.in-Err-next_line.ensures.fault whole may in
    HasStopped-fault g.W.Serve.protocol _ _ _ _ _ _ taken within short (omega (arith, c.requires.within)) (λ full. absurd (omega (arith, full, c.requires.within)))

pub returns-in-Ok-clause-turn : goal.returns-in-Ok-clause-turn
returns-in-Ok-clause-turn g c = λ whole may.
    c.answer_found.ensures.turn _ _ _ (rw c.as_slice.ensures.value (c.in-Ok.ensures.found whole may))

pub returns-in-Err-next_line-clause-cause : goal.returns-in-Err-next_line-clause-cause
returns-in-Err-next_line-clause-cause g c = stops_unread _ _ _ _ _ c.in-Err-next_line.ensures.cause refl

pub returns-in-Ok-clause-cause : goal.returns-in-Ok-clause-cause
returns-in-Ok-clause-cause g c = stops_after _ _ _ _ _ c.answer_found.ensures.cause c.in-Ok.ensures.cause.kept

pub returns-in-Ok-clause-pulls : goal.returns-in-Ok-clause-pulls
returns-in-Ok-clause-pulls g c = record { may_pull = λ same. c.in-Ok.ensures.may_pull (c.answer_found.ensures.goes_on same); in_time = c.next_line.ensures.in_time }

-- ---- what was put before a pull

pub returns-in-Err-clause-last_pull : goal.returns-in-Err-clause-last_pull
returns-in-Err-clause-last_pull g c = λ whole may.
    pulled_quietly _ _ _ _ _ c.requires.pushed (λ line. c.in-Err.ensures.unpulled (omega (arith, line.1)))
    (pulled_at_hand _ _ (left_in g.S.Source.known whole) (left_before_in g.S.Source.known whole) c.args.served _ c.requires.within (c.in-Err.ensures.last_pull whole may))

pub returns-in-Ok-true-clause-last_pull : goal.returns-in-Ok-true-clause-last_pull
returns-in-Ok-true-clause-last_pull g c = λ whole may.
    pulled_quietly _ _ _ _ _ c.requires.pushed (λ line. c.in-Ok-true.ensures.unpulled (omega (arith, line.1)))
    (pulled_at_hand _ _ (left_in g.S.Source.known whole) (left_before_in g.S.Source.known whole) c.args.served _ c.requires.within (c.in-Ok-true.ensures.last_pull whole may))

pub returns-in-Ok-false-clause-last_pull : goal.returns-in-Ok-false-clause-last_pull
returns-in-Ok-false-clause-last_pull g c = λ whole may.
    pulled_quietly _ _ _ _ _ c.requires.pushed (λ line. c.in-Ok-false.ensures.unpulled (omega (arith, line.1)))
    (pulled_at_hand _ _ (left_in g.S.Source.known whole) (left_before_in g.S.Source.known whole) c.args.served _ c.requires.within (c.in-Ok-false.ensures.last_pull whole may))

pub returns-in-Err-next_line-clause-last_pull : goal.returns-in-Err-next_line-clause-last_pull
returns-in-Err-next_line-clause-last_pull g c = λ whole may.
    pulled_quietly _ _ _ _ _ c.requires.pushed c.in-Err-next_line.ensures.unpulled
    (pulled_undecided _ _ c.args.served _ _ (omega (arith, c.requires.within)) (c.in-Err-next_line.ensures.last_pull whole may))

pub returns-in-Ok-clause-last_pull : goal.returns-in-Ok-clause-last_pull
returns-in-Ok-clause-last_pull g c = λ whole may.
    pulled_quietly _ _ _ _ _ c.requires.pushed c.in-Ok.ensures.unpulled
    (pulled_undecided _ _ c.args.served _ _ (omega (arith, c.requires.within)) (c.in-Ok.ensures.last_pull whole may))
