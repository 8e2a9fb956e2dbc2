-- The bodies and the header are written or not, and then the targets and the zero header.
use Rattle.std.proofs.Common.{Ok, Err, refl, sym, ap, subst, ◌∙◌, rules}
use Rattle.line_txn.proofs.Common.{down_after, up_after, edits_as, edits_follow_under, targets_of, edits_under, IsWholeTxn, deciding_edits, applying_edits}
use Rattle.pmem_engine.specs.declared.fault.Fault.TheVariants as Fail
use Rattle.line_txn.proofs.EditStages.{edited_as, edited_fault, deciding_fit, applying_fit}
use Rattle.line_txn.proofs.Commits.{empty_list, some_list, no_txn, refused_by, applied_by, fault_answer, fault_served}
use Rattle.line_txn.proofs.StorePlans.{edits_fault, nothing_committed, undecided, decided_then}
use Rattle.line_txn.proofs.store.Store.commit_lines.Goals as goal

pub returns-then-is_empty-clause-whole : goal.returns-then-is_empty-clause-whole
returns-then-is_empty-clause-whole g c = subst IsWholeTxn (sym (empty_list _ (sym c.is_empty.ensures ∙ c.if-is_empty.true))) no_txn

pub edit_all-requires-clause-places : goal.edit_all-requires-clause-places
edit_all-requires-clause-places g c = search (rules, deciding_fit)

pub returns-in-Err-clause-committed : goal.returns-in-Err-clause-committed
returns-in-Err-clause-committed g c = search (rules, refused_by, some_list)

pub edit_all-requires-2-clause-places : goal.edit_all-requires-2-clause-places
edit_all-requires-2-clause-places g c = search (rules, applying_fit)

pub returns-in-Ok-clause-committed : goal.returns-in-Ok-clause-committed
returns-in-Ok-clause-committed g c =
    applied_by _ _ _ _ _ _ _ (Ok tt) _ (some_list _ (sym c.is_empty.ensures ∙ c.if-is_empty.false))
    (edited_as _ _ _ _ _ _ (c.deref-2.ensures.0 ∙ c.deciding-edits.ensures.edits ∙ ap (deciding_edits _) c.deref.ensures.0)
    (c.in_default.ensures.edited.did c.requires.up).edited)
    (edited_as _ _ _ _ _ _ (c.deref-4.ensures.0 ∙ c.applying-edits.ensures ∙ ap (applying_edits _) c.deref-3.ensures.0)
    (edits_under g.S.Suite.formulas_of _ _ _ _ c.in_default.ensures.shape c.in_default.ensures.keys _ _ _ _
    (c.in-Ok.ensures.edited.did (up_after c.in_default.ensures.edited c.requires.up refl)).edited))
    refl (record { its_lines = refl; its_targets = refl; its_page = refl })

pub returns-in-Spent-clause-committed : goal.returns-in-Spent-clause-committed
returns-in-Spent-clause-committed g c =
    applied_by _ _ _ _ _ _ _ (Err (Fail.Spent c.in-Spent.page)) _ (some_list _ (sym c.is_empty.ensures ∙ c.if-is_empty.false))
    (edited_as _ _ _ _ _ _ (c.deref-2.ensures.0 ∙ c.deciding-edits.ensures.edits ∙ ap (deciding_edits _) c.deref.ensures.0)
    (c.in_default.ensures.edited.did c.requires.up).edited)
    (edited_as _ _ _ _ _ _ (c.deref-4.ensures.0 ∙ c.applying-edits.ensures ∙ ap (applying_edits _) c.deref-3.ensures.0)
    (edits_under g.S.Suite.formulas_of _ _ _ _ c.in_default.ensures.shape c.in_default.ensures.keys _ _ _ _
    (edited_fault _ _ _ _ _ _ c.in-Spent.is (c.in-Err-edit_all.ensures.edited.did (up_after c.in_default.ensures.edited c.requires.up refl)).edited)))
    refl (record { its_lines = refl; its_targets = c.targets_in-self.ensures ∙ ap targets_of c.deref-in-Spent.ensures.0; its_page = refl })

pub returns-in_default-fault-clause-committed : goal.returns-in_default-fault-clause-committed
returns-in_default-fault-clause-committed g c =
    applied_by _ _ _ _ _ _ _ (Err c.in-Err-edit_all.fault) _ (some_list _ (sym c.is_empty.ensures ∙ c.if-is_empty.false))
    (edited_as _ _ _ _ _ _ (c.deref-2.ensures.0 ∙ c.deciding-edits.ensures.edits ∙ ap (deciding_edits _) c.deref.ensures.0)
    (c.in_default.ensures.edited.did c.requires.up).edited)
    (edited_as _ _ _ _ _ _ (c.deref-4.ensures.0 ∙ c.applying-edits.ensures ∙ ap (applying_edits _) c.deref-3.ensures.0)
    (edits_under g.S.Suite.formulas_of _ _ _ _ c.in_default.ensures.shape c.in_default.ensures.keys _ _ _ _
    (c.in-Err-edit_all.ensures.edited.did (up_after c.in_default.ensures.edited c.requires.up refl)).edited))
    (sym (fault_answer _ c.in_default-fault.not-Spent)) (fault_served _ _ _ _ c.in_default-fault.not-Spent
    (record { its_lines = refl; its_targets = refl; its_page = refl }))

pub returns-then-is_empty-clause-plan : goal.returns-then-is_empty-clause-plan
returns-then-is_empty-clause-plan g c = search (rules, nothing_committed, empty_list)

pub returns-in-Err-clause-plan : goal.returns-in-Err-clause-plan
returns-in-Err-clause-plan g c =
    undecided _ _ _ _ _ _ _ (some_list _ (sym c.is_empty.ensures ∙ c.if-is_empty.false))
    (edits_as _ _ _ _ (c.deref-2.ensures.0 ∙ c.deciding-edits.ensures.edits ∙ ap (deciding_edits _) c.deref.ensures.0)
    (c.in-Err.ensures.edited.did c.requires.up).plan) (record { its_lines = refl; its_targets = refl; its_page = refl })

pub returns-in-Ok-clause-plan : goal.returns-in-Ok-clause-plan
returns-in-Ok-clause-plan g c =
    decided_then _ _ _ _ _ _ _ (Ok tt) _ (some_list _ (sym c.is_empty.ensures ∙ c.if-is_empty.false))
    (edits_as _ _ _ _ (c.deref-2.ensures.0 ∙ c.deciding-edits.ensures.edits ∙ ap (deciding_edits _) c.deref.ensures.0)
    (c.in_default.ensures.edited.did c.requires.up).plan)
    (edits_as _ _ _ _ (c.deref-4.ensures.0 ∙ c.applying-edits.ensures ∙ ap (applying_edits _) c.deref-3.ensures.0)
    (edits_follow_under g.S.Suite.formulas_of _ _ _ _ c.in_default.ensures.shape c.in_default.ensures.keys _ _
    (c.in-Ok.ensures.edited.did (up_after c.in_default.ensures.edited c.requires.up refl)).plan))
    refl (record { its_lines = refl; its_targets = refl; its_page = refl })

pub returns-in-Spent-clause-plan : goal.returns-in-Spent-clause-plan
returns-in-Spent-clause-plan g c =
    decided_then _ _ _ _ _ _ _ (Err (Fail.Spent c.in-Spent.page)) _ (some_list _ (sym c.is_empty.ensures ∙ c.if-is_empty.false))
    (edits_as _ _ _ _ (c.deref-2.ensures.0 ∙ c.deciding-edits.ensures.edits ∙ ap (deciding_edits _) c.deref.ensures.0)
    (c.in_default.ensures.edited.did c.requires.up).plan)
    (edits_as _ _ _ _ (c.deref-4.ensures.0 ∙ c.applying-edits.ensures ∙ ap (applying_edits _) c.deref-3.ensures.0)
    (edits_follow_under g.S.Suite.formulas_of _ _ _ _ c.in_default.ensures.shape c.in_default.ensures.keys _ _
    (edits_fault _ _ _ _ c.in-Spent.is (c.in-Err-edit_all.ensures.edited.did (up_after c.in_default.ensures.edited c.requires.up refl)).plan)))
    refl (record { its_lines = refl; its_targets = c.targets_in-self.ensures ∙ ap targets_of c.deref-in-Spent.ensures.0; its_page = refl })

pub returns-in_default-fault-clause-plan : goal.returns-in_default-fault-clause-plan
returns-in_default-fault-clause-plan g c =
    decided_then _ _ _ _ _ _ _ (Err c.in-Err-edit_all.fault) _ (some_list _ (sym c.is_empty.ensures ∙ c.if-is_empty.false))
    (edits_as _ _ _ _ (c.deref-2.ensures.0 ∙ c.deciding-edits.ensures.edits ∙ ap (deciding_edits _) c.deref.ensures.0)
    (c.in_default.ensures.edited.did c.requires.up).plan)
    (edits_as _ _ _ _ (c.deref-4.ensures.0 ∙ c.applying-edits.ensures ∙ ap (applying_edits _) c.deref-3.ensures.0)
    (edits_follow_under g.S.Suite.formulas_of _ _ _ _ c.in_default.ensures.shape c.in_default.ensures.keys _ _
    (c.in-Err-edit_all.ensures.edited.did (up_after c.in_default.ensures.edited c.requires.up refl)).plan))
    (sym (fault_answer _ c.in_default-fault.not-Spent)) (fault_served _ _ _ _ c.in_default-fault.not-Spent
    (record { its_lines = refl; its_targets = refl; its_page = refl }))

pub returns-in-Err-clause-down : goal.returns-in-Err-clause-down
returns-in-Err-clause-down g c = down_after c.in-Err.ensures.edited c.requires.up

pub returns-in-Ok-clause-down : goal.returns-in-Ok-clause-down
returns-in-Ok-clause-down g c = down_after c.in-Ok.ensures.edited (up_after c.in_default.ensures.edited c.requires.up refl)

pub returns-in-Spent-clause-down : goal.returns-in-Spent-clause-down
returns-in-Spent-clause-down g c = search (rules, down_after, up_after)

pub returns-in_default-fault-clause-down : goal.returns-in_default-fault-clause-down
returns-in_default-fault-clause-down g c = search (rules, down_after, up_after)
