use Rattle.std.proofs.Common.{◌∙◌, refl, sym, inl, inr}
use Rattle.plain_model.specs.Answers.{is_shown}
use Rattle.pmem_replay.specs.Stepped.{reply_in}
use Rattle.pmem_cli.proofs.LoggedTalks.{logged_of, told_of, told_goes, told_ends, told_either, lost_accesses}
use Rattle.pmem_cli.proofs.logging.answer_told.Goals as goal

pub returns-in_default-clause-answered : goal.returns-in_default-clause-answered
returns-in_default-clause-answered g c = λ line number is. (
  rw is refl,
  rw is (inl c.in_default.ensures.wanting),
  refl,
)

pub returns-in_default-accesses-clause-answered : goal.returns-in_default-accesses-clause-answered
returns-in_default-accesses-clause-answered g c = λ line number is. (
  rw is refl,
  rw is (inr (lost_accesses c.args.world.now.shape c.args.world.now.state c.args.command.now c.empty-log.result c.step_logged.new.log
      c.empty-log.ensures c.in_default-accesses.ensures c.step_logged.ensures.kept)),
  refl,
)

pub returns-in-Err-clause-answered : goal.returns-in-Err-clause-answered
returns-in-Err-clause-answered g c = λ line number is.
    let reply = reply_in c.step_logged.new.self c.in-Ok.reply in
    let told = told_of c.args.command.now reply c.args.world.now c.step_logged.new.self c.empty-log.result c.step_logged.new.log c.in-Some.accesses.now
    c.work-tags_before.result c.work-tags_after.result c.saturating_sub-tags.result c.saturating_sub-digests.result c.empty-log.ensures c.in-Some.ensures
    c.work-tags_before.ensures c.work-tags_after.ensures c.saturating_sub-tags.ensures c.saturating_sub-digests.ensures c.in-Ok.ensures.logged in (
      logged_of c.args.command.now reply c.in-Some.accesses.now c.saturating_sub-tags.result c.saturating_sub-digests.result,
      rw is refl,
      told_either (is_shown reply.answer) g.U.Suite.formulas_of c.args.world.now c.step_logged.new.self line c.args.command.now reply c.in-Some.accesses.now
          c.saturating_sub-tags.result c.saturating_sub-digests.result refl is c.in-Ok.ensures.stepped c.in-Ok.ensures.few told,
      c.in-Err.ensures.err,
    )

pub returns-then-is_shown-clause-answered : goal.returns-then-is_shown-clause-answered
returns-then-is_shown-clause-answered g c = λ line number is.
    let reply = reply_in c.step_logged.new.self c.in-Ok.reply in
    let told = told_of c.args.command.now reply c.args.world.now c.step_logged.new.self c.empty-log.result c.step_logged.new.log c.in-Some.accesses.now
    c.work-tags_before.result c.work-tags_after.result c.saturating_sub-tags.result c.saturating_sub-digests.result c.empty-log.ensures c.in-Some.ensures
    c.work-tags_before.ensures c.work-tags_after.ensures c.saturating_sub-tags.ensures c.saturating_sub-digests.ensures c.in-Ok.ensures.logged in (
      logged_of c.args.command.now reply c.in-Some.accesses.now c.saturating_sub-tags.result c.saturating_sub-digests.result,
      rw is refl,
      told_ends g.U.Suite.formulas_of c.args.world.now c.step_logged.new.self line c.args.command.now reply c.in-Some.accesses.now
          c.saturating_sub-tags.result c.saturating_sub-digests.result is c.in-Ok.ensures.stepped c.in-Ok.ensures.few told (sym c.is_shown.ensures ∙ c.if-is_shown.true),
      c.in-Ok-print_told.ensures.ok,
    )

pub returns-clause-answered : goal.returns-clause-answered
returns-clause-answered g c = λ line number is.
    let reply = reply_in c.step_logged.new.self c.in-Ok.reply in
    let hidden = sym c.is_shown.ensures ∙ c.if-is_shown.false in
    let told = told_of c.args.command.now reply c.args.world.now c.step_logged.new.self c.empty-log.result c.step_logged.new.log c.in-Some.accesses.now
    c.work-tags_before.result c.work-tags_after.result c.saturating_sub-tags.result c.saturating_sub-digests.result c.empty-log.ensures c.in-Some.ensures
    c.work-tags_before.ensures c.work-tags_after.ensures c.saturating_sub-tags.ensures c.saturating_sub-digests.ensures c.in-Ok.ensures.logged in
    let goes = told_goes g.U.Suite.formulas_of c.args.world.now c.step_logged.new.self line c.args.command.now reply c.in-Some.accesses.now
    c.saturating_sub-tags.result c.saturating_sub-digests.result is c.in-Ok.ensures.stepped c.in-Ok.ensures.few told hidden in (
      goes.goes.on.running,
      inr (
        logged_of c.args.command.now reply c.in-Some.accesses.now c.saturating_sub-tags.result c.saturating_sub-digests.result,
        rw is refl,
        goes,
        c.in-Ok-print_told.ensures.ok,
      ),
    )
