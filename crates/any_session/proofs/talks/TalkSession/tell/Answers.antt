use Rattle.std.proofs.Common.{rules, ◌∙◌, ◌-◌, ℕ, refl, ap}
use Rattle.plain_model.specs.Texts.{answer_text}
use Rattle.pmem_base.specs.declared.answers.Answer.TheVariants as Say
use Rattle.any_session.specs.Told.{lines_of}
use Rattle.any_session.proofs.Kept.{shown_is, reply_kept}
use Rattle.any_session.proofs.talks.TalkSession.tell.Goals as goal

pub returns-in-Ok-Some-clause-told : goal.returns-in-Ok-Some-clause-told
returns-in-Ok-Some-clause-told g c = (
  c.if-self.false,
  c.if-self.false,
  search rules,
  (
    c.in-Ok-Some.text.items,
    rw c.in-Ok-Some.field-0-is at c.in-Ok-Some.ensures.text,
    reply_kept (lines_of g.T.Talk) _ _ _ c.in-Ok-Some.text.items c.talk.new.self _ _ _ _ _
        (rw c.begin_log-log.ensures at c.in-Ok-Some.ensures.logged)
        (ap (λ (before : ℕ × ℕ). (g.T.Talk.work c.talk.new.self).0 - before.0) c.work-before.ensures)
        (ap (λ (before : ℕ × ℕ). (g.T.Talk.work c.talk.new.self).1 - before.1) c.work-before.ensures)
        (rw c.as_slice.ensures.value at c.keep.ensures),
  ),
)

pub returns-clause-told : goal.returns-clause-told
returns-clause-told g c = (
  c.if-self.false,
  refl,
  search rules,
  (
    answer_text (Say.Shown c.in-Err-Shown.exhibit),
    (c.in-Err-Shown.exhibit, refl, rw c.in-Err-Shown.field-0-is at c.in-Err-Shown.ensures.shown),
    reply_kept (lines_of g.T.Talk) _ _ _ (answer_text (Say.Shown c.in-Err-Shown.exhibit)) c.talk.new.self _ _ _ _ _
        (rw c.begin_log-log.ensures at c.in-Err-Shown.ensures.logged)
        (ap (λ (before : ℕ × ℕ). (g.T.Talk.work c.talk.new.self).0 - before.0) c.work-before.ensures)
        (ap (λ (before : ℕ × ℕ). (g.T.Talk.work c.talk.new.self).1 - before.1) c.work-before.ensures)
        (rw (c.as_slice-in-Err-Shown.ensures.value ∙ c.shown_text-text.ensures.text ∙ shown_is c.in-Err-Shown.exhibit) at c.keep-in-Err-Shown.ensures),
  ),
)
