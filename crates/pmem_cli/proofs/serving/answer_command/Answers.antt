use Rattle.std.proofs.Common.{◌∙◌, refl, sym}
use Rattle.plain_model.specs.Run.{Step}
use Rattle.pmem_replay.specs.Stepped.{reply_in}
use Rattle.plain_model.specs.Answers.{is_shown}
use Rattle.pmem_cli.proofs.StandingLemmas.{HasReplied-step, StandingAfter-step, goes_or_shown}
use Rattle.pmem_cli.proofs.FaultLemmas.{stops_unfailed, stops_unwritten}
use Rattle.pmem_cli.proofs.serving.answer_command.Goals as goal

pub returns-in-Err-clause-answered : goal.returns-in-Err-clause-answered
returns-in-Err-clause-answered g c =
    let step : Step = record { command = c.args.command.now; reply = reply_in c.step.new.self c.in-Ok.reply } in (
      step,
      HasReplied-step g.U.Suite.formulas_of _ _ _ _ c.in-Ok.ensures.stepped c.in-Ok.ensures.few,
      goes_or_shown (is_shown step.reply.answer) g.U.Suite.formulas_of c.args.world.now c.step.new.self step refl c.in-Ok.ensures.stepped c.in-Ok.ensures.few,
      c.in-Err.ensures.err,
    )

pub returns-then-is_shown-clause-answered : goal.returns-then-is_shown-clause-answered
returns-then-is_shown-clause-answered g c =
    (_, HasReplied-step g.U.Suite.formulas_of _ _ _ _ c.in-Ok.ensures.stepped c.in-Ok.ensures.few, sym c.is_shown.ensures ∙ c.if-is_shown.true, c.in-Ok-print_reply.ensures.ok)

pub returns-else-is_shown-clause-answered : goal.returns-else-is_shown-clause-answered
returns-else-is_shown-clause-answered g c =
    let step : Step = record { command = c.args.command.now; reply = reply_in c.step.new.self c.in-Ok.reply } in
    let hidden = sym c.is_shown.ensures ∙ c.if-is_shown.false in (
      step,
      HasReplied-step g.U.Suite.formulas_of _ _ _ _ c.in-Ok.ensures.stepped c.in-Ok.ensures.few,
      hidden,
      StandingAfter-step g.U.Suite.formulas_of c.args.world.now c.step.new.self step c.in-Ok.ensures.stepped c.in-Ok.ensures.few hidden,
      c.in-Ok-print_reply.ensures.ok,
    )

pub returns-in-Err-clause-cause : goal.returns-in-Err-clause-cause
returns-in-Err-clause-cause g c = stops_unwritten _ _ _ _ _ refl c.in-Err.ensures.cause

pub returns-then-is_shown-clause-cause : goal.returns-then-is_shown-clause-cause
returns-then-is_shown-clause-cause g c = stops_unfailed _ _ _ _ _ (λ same. cc) (λ same. cc) (λ same. cc) refl c.in-Ok-print_reply.ensures.cause.kept

pub returns-else-is_shown-clause-cause : goal.returns-else-is_shown-clause-cause
returns-else-is_shown-clause-cause g c = stops_unfailed _ _ _ _ _ (λ same. cc) (λ same. cc) (λ same. cc) refl c.in-Ok-print_reply.ensures.cause.kept
