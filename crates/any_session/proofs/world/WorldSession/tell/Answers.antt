use Rattle.std.proofs.Common.{◌∙◌, refl, sym, ap}
use Rattle.any_suite.specs.Kinds.{any_formulas}
use Rattle.plain_model.specs.Run.{Step}
use Rattle.pmem_replay.specs.Stepped.{reply_in}
use Rattle.trace_text.specs.Entries.{sort_of_reading}
use Rattle.any_session.specs.Worlds.{world_lines}
use Rattle.any_session.proofs.Kept.{reply_kept}
use Rattle.any_session.proofs.Worlds.{going_on}
use Rattle.any_session.proofs.world.WorldSession.tell.Goals as goal

pub returns-clause-told : goal.returns-clause-told
returns-clause-told c =
    let step : Step = record { command = c.in-Ok-Some.command; reply = reply_in c.step_logged.new.self c.in-Ok.answered } in
    let reading = sym (rw c.in-Ok-Some.field-0-is at c.in-Ok-Some.ensures.reading) in (
      sym c.args.self.now.ends_with_its_world ∙ c.if-self.false,
      c.in-Ok.ensures.stepped.shown ∙ sym c.is_shown-self.ensures,
      ap sort_of_reading reading,
      (
        step,
        going_on c.is_shown-self.result any_formulas _ c.args.line.now step c.step_logged.new.self c.is_shown-self.ensures
            (record { reading = reading; stepped = record { stepped = c.in-Ok.ensures.stepped; few = c.in-Ok.ensures.few } }),
        reply_kept (world_lines any_formulas) _ _ _ step c.step_logged.new.self _ _ _ _ _
            (record { command = c.in-Ok-Some.command; reading = reading; logged = rw c.begin_log-log.ensures at c.in-Ok.ensures.logged })
            (rw (c.work-after.ensures, c.work-before.ensures) refl)
            (rw (c.work-after.ensures, c.work-before.ensures) refl)
            (rw c.marks.ensures at c.keep_reply.ensures),
      ),
    )
