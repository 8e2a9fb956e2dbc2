use Rattle.std.proofs.Common.{refl, arith}
use Rattle.pmem_cli.proofs.ReplyLemmas.{pulled_flushed}
use Rattle.pmem_cli.proofs.TurnLemmas.{HasStopped-unput, Turns-put}
use Rattle.pmem_cli.proofs.FaultLemmas.{stops_unwritten}
use Rattle.pmem_cli.proofs.session.serve_next.Goals as goal

pub returns-in-Err-clause-turn : goal.returns-in-Err-clause-turn
returns-in-Err-clause-turn g c = λ whole may.
    HasStopped-unput g.W.Serve.protocol _ _ _ _ _ _ (omega (arith, c.requires.within)) c.in-Err.ensures.err

pub returns-in-Ok-clause-turn : goal.returns-in-Ok-clause-turn
returns-in-Ok-clause-turn g c = λ whole may.
    Turns-put g.W.Serve.protocol c.answer_next.result _ _ _ _ _ _ _ _ _ c.in-Ok.ensures.ok (c.answer_next.ensures.turn whole may)

pub returns-in-Err-clause-cause : goal.returns-in-Err-clause-cause
returns-in-Err-clause-cause g c = stops_unwritten _ _ _ _ _ refl c.in-Err.ensures.cause

pub returns-in-Ok-clause-cause : goal.returns-in-Ok-clause-cause
returns-in-Ok-clause-cause g c = rw c.in-Ok.ensures.cause.kept at c.answer_next.ensures.cause

pub returns-in-Ok-clause-last_pull : goal.returns-in-Ok-clause-last_pull
returns-in-Ok-clause-last_pull g c = λ whole may.
    pulled_flushed g.W.Serve.protocol _ _ c.answer_next.result _ _ _ _ _ _ _ _ _ _ c.in-Ok.ensures.ok (c.answer_next.ensures.turn whole may) (c.answer_next.ensures.last_pull whole may)
