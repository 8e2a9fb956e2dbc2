-- A line was answered, and told with its log before it.
use Rattle.std.proofs.Common.{◌∙◌, List, [], ap, subst, Option, None, Some}
use Rattle.board.specs.declared.access.Access.{Access}
use Rattle.pmem_cli.proofs.TellingLemmas.{told_as, shown_is, answered_line, exhibited, exhibit_untold}
use Rattle.pmem_cli.proofs.telling.TellerServe.serve_line.Goals as goal

pub returns-in-Some-clause-answered : goal.returns-in-Some-clause-answered
returns-in-Some-clause-answered g c =
    exhibit_untold g.T.Talk.sort_of g.T.Talk.answers g.T.Talk.shows g.T.Talk.wants_memory g.T.Talk.logs g.T.Talk.work c.args.line.now c.args.number c.args.self.now c.talk.new.self c.talk.new.log c.in-Err-Shown.exhibit _ _
    (rw c.in-Err-Shown.field-0-is at c.in-Err-Shown.ensures.sort)
    (subst (λ (old : g.row.T.Denot). g.T.Talk.shows old c.args.line.now c.in-Err-Shown.exhibit c.talk.new.self) c.self.view_is
    (rw c.in-Err-Shown.field-0-is at c.in-Err-Shown.ensures.shown))
    (subst (λ (old : g.row.T.Denot). g.T.Talk.logs old c.args.line.now (Some []) c.talk.new.log c.talk.new.self) c.self.view_is
    (subst (λ (l : Option (List Access)). g.T.Talk.logs c.self.inside.session c.args.line.now l c.talk.new.log c.talk.new.self) c.empty-log.ensures c.talk.ensures.logged))
    c.in-Some.stop
    (told_as (Some c.in-Some.stop) c.talk.new.log c.work-before.result c.work-after.result (g.T.Talk.work c.args.self.now) (g.T.Talk.work c.talk.new.self) _ _ _ _
    (c.work-before.ensures ∙ ap g.T.Talk.work c.self.view_is) c.work-after.ensures (c.as_slice.ensures.value ∙ c.shown_text-text.ensures.text ∙ shown_is c.in-Err-Shown.exhibit) c.in-Some.ensures.told)

pub returns-in-Err-Shown-clause-answered : goal.returns-in-Err-Shown-clause-answered
returns-in-Err-Shown-clause-answered g c =
    exhibited g.T.Talk.sort_of g.T.Talk.answers g.T.Talk.shows g.T.Talk.wants_memory g.T.Talk.logs g.T.Talk.work c.args.line.now c.args.number c.args.self.now c.talk.new.self c.talk.new.log c.in-Err-Shown.exhibit _ _
    (rw c.in-Err-Shown.field-0-is at c.in-Err-Shown.ensures.sort)
    (subst (λ (old : g.row.T.Denot). g.T.Talk.shows old c.args.line.now c.in-Err-Shown.exhibit c.talk.new.self) c.self.view_is
    (rw c.in-Err-Shown.field-0-is at c.in-Err-Shown.ensures.shown))
    (subst (λ (old : g.row.T.Denot). g.T.Talk.logs old c.args.line.now (Some []) c.talk.new.log c.talk.new.self) c.self.view_is
    (subst (λ (l : Option (List Access)). g.T.Talk.logs c.self.inside.session c.args.line.now l c.talk.new.log c.talk.new.self) c.empty-log.ensures c.talk.ensures.logged))
    (told_as None c.talk.new.log c.work-before.result c.work-after.result (g.T.Talk.work c.args.self.now) (g.T.Talk.work c.talk.new.self) _ _ _ _
    (c.work-before.ensures ∙ ap g.T.Talk.work c.self.view_is) c.work-after.ensures (c.as_slice.ensures.value ∙ c.shown_text-text.ensures.text ∙ shown_is c.in-Err-Shown.exhibit) c.in-None.ensures.told)

pub returns-clause-answered : goal.returns-clause-answered
returns-clause-answered g c =
    answered_line g.T.Talk.sort_of g.T.Talk.answers g.T.Talk.shows g.T.Talk.wants_memory g.T.Talk.logs g.T.Talk.work c.tell_line-in-Ok-Some.result c.args.line.now c.args.number c.args.self.now c.talk.new.self c.talk.new.log c.in-Ok-Some.text.items _ _
    (rw c.in-Ok-Some.field-0-is at c.in-Ok-Some.ensures.sort)
    (subst (λ (old : g.row.T.Denot). g.T.Talk.answers old c.args.line.now c.in-Ok-Some.text.items c.talk.new.self) c.self.view_is
    (rw c.in-Ok-Some.field-0-is at c.in-Ok-Some.ensures.text))
    (subst (λ (old : g.row.T.Denot). g.T.Talk.logs old c.args.line.now (Some []) c.talk.new.log c.talk.new.self) c.self.view_is
    (subst (λ (l : Option (List Access)). g.T.Talk.logs c.self.inside.session c.args.line.now l c.talk.new.log c.talk.new.self) c.empty-log.ensures c.talk.ensures.logged))
    (told_as c.tell_line-in-Ok-Some.result c.talk.new.log c.work-before.result c.work-after-in-Ok-Some.result (g.T.Talk.work c.args.self.now) (g.T.Talk.work c.talk.new.self) _ _ _ _
    (c.work-before.ensures ∙ ap g.T.Talk.work c.self.view_is) c.work-after-in-Ok-Some.ensures (c.as_slice-in-Ok-Some.ensures.value) c.tell_line-in-Ok-Some.ensures.told)
