use Rattle.std.proofs.Common.{refl, sym, ap, subst, inl}
use Rattle.pmem_replay.specs.World.{WorldState}
use Rattle.trace_text.specs.Entries.{sort_of_reading}
use Rattle.pmem_cli.specs.Logged.{logged_protocol}
use Rattle.pmem_cli.specs.Printed.{with_waiting}
use Rattle.pmem_cli.specs.Turns.{AnswersLine}
use Rattle.pmem_cli.proofs.logging.LoggedWorldServe.serve_line.Goals as goal

pub returns-in-Err-clause-answered : goal.returns-in-Err-clause-answered
returns-in-Err-clause-answered g c = (refl, ap sort_of_reading (sym c.in-Err.ensures.reading), refl)

pub returns-in-Ok-None-clause-answered : goal.returns-in-Ok-None-clause-answered
returns-in-Ok-None-clause-answered g c =
    (c.requires.running, inl (ap sort_of_reading (sym (rw c.in-Ok-None.field-0-is at c.in-Ok-None.ensures.reading)), refl, refl))

pub returns-in-Ok-Some-clause-answered : goal.returns-in-Ok-Some-clause-answered
returns-in-Ok-Some-clause-answered g c =
    subst (λ (old : WorldState). AnswersLine (logged_protocol g.U.Suite.formulas_of) c.answer_told.result c.args.line.now c.args.number old c.answer_told.new.world
    (with_waiting (g.K.Sink.put c.args.out.now) c.args.printer.now) (with_waiting (g.K.Sink.put c.answer_told.new.out) c.answer_told.new.printer)) c.self.view_is
    (c.answer_told.ensures.answered c.args.line.now c.args.number (sym (rw c.in-Ok-Some.field-0-is at c.in-Ok-Some.ensures.reading)))
