use Rattle.std.proofs.Common.{arith, refl}
use Rattle.pmem_cli.proofs.TurnLemmas.{Turns-line, HasStopped-last, HasStopped-at_last, HasStopped-long, HasStopped-end}
use Rattle.pmem_cli.proofs.FaultLemmas.{stops_unfailed}
use Rattle.pmem_cli.proofs.session.answer_found.Goals as goal

pub returns-in-End-clause-turn : goal.returns-in-End-clause-turn
returns-in-End-clause-turn g c = λ ahead behind left found.
    let end = rw c.in-End.is at found in
    HasStopped-end g.W.Serve.protocol _ behind _ _ _ _ end.0 end.1 (omega (arith, c.requires.within))

pub returns-in-Long-clause-turn : goal.returns-in-Long-clause-turn
returns-in-Long-clause-turn g c = λ ahead behind left found.
    let long = rw c.in-Long.is at found in
    HasStopped-long g.W.Serve.protocol _ behind _ _ _ _ _ _ long.1 long.2 long.3 refl c.requires.within

pub returns-in-Line-clause-turn : goal.returns-in-Line-clause-turn
returns-in-Line-clause-turn g c = λ ahead behind left found.
    let line = rw c.in-Line.is at found in
    Turns-line g.W.Serve.protocol c.serve_line.result _ _ _ _ _ _ _ _ _ _ line.0 line.1 c.requires.short refl c.requires.within c.serve_line.ensures.answered

pub returns-in-None-clause-turn : goal.returns-in-None-clause-turn
returns-in-None-clause-turn g c = λ ahead behind left found.
    let last = rw c.in-Last.is at found in
    HasStopped-last g.W.Serve.protocol _ behind _ _ _ _ _ _ _ 0 last.0 last.1 last.2 last.3 c.requires.short c.requires.within c.in-None.ensures.answered

pub returns-in-Some-clause-turn : goal.returns-in-Some-clause-turn
returns-in-Some-clause-turn g c = λ ahead behind left found.
    let last = rw c.in-Last.is at found in
    HasStopped-at_last g.W.Serve.protocol _ _ behind _ _ _ _ _ _ _ _ last.0 last.1 last.2 last.3 c.requires.short refl c.requires.within c.in-Some.ensures.answered

pub returns-in-None-clause-cause : goal.returns-in-None-clause-cause
returns-in-None-clause-cause g c = stops_unfailed _ _ _ _ _ (λ same. cc) (λ same. cc) (λ same. cc) refl (c.in-None.ensures.cause.writes.kept (λ same. cc))
