use Rattle.std.proofs.Common.{refl, sym, ap, inl}
use Rattle.trace_text.specs.Entries.{sort_of_reading}
use Rattle.pmem_cli.proofs.WorldTalks.{AnswersLine-command}
use Rattle.pmem_cli.proofs.serving.WorldServe.serve_line.Goals as goal

pub returns-in-Err-clause-answered : goal.returns-in-Err-clause-answered
returns-in-Err-clause-answered g c = (refl, ap sort_of_reading (sym c.in-Err.ensures.reading), refl)

pub returns-in-Ok-None-clause-answered : goal.returns-in-Ok-None-clause-answered
returns-in-Ok-None-clause-answered g c =
    (c.requires.running, inl (ap sort_of_reading (sym (rw c.in-Ok-None.field-0-is at c.in-Ok-None.ensures.reading)), refl, refl))

pub returns-in-Ok-Some-clause-answered : goal.returns-in-Ok-Some-clause-answered
returns-in-Ok-Some-clause-answered g c =
    AnswersLine-command g.U.Suite.formulas_of c.answer_command.result _ _ _ _ _ _ _ (sym (rw c.in-Ok-Some.field-0-is at c.in-Ok-Some.ensures.reading))
    c.answer_command.ensures.answered
