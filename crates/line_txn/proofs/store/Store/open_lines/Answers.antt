-- The header is read, and its transaction redone.
use Rattle.std.proofs.lemmas.Grind.{common_steps}
use Rattle.std.proofs.Common.{◌≡◌, ◌+◌, ◌-◌, inr, ℕ, Some, None, Ok, Err, rules, refl, ap, sym, subst, ◌∙◌, arith}
use Rattle.line_txn.proofs.Common.{Shape, data_lines, down_after, up_after, edits_as, edits_follow_under, least_lines, edits_under, redoing_edits, logged_lines, header_in}
use Rattle.pmem_base.specs.Geo.{shape_of}
use Rattle.pmem_engine.specs.declared.fault.Fault.TheVariants as Fail
use Rattle.line_txn.proofs.EditStages.{edited_as, edited_fault, redoing_fit}
use Rattle.line_txn.proofs.Openings.{logged_size, none_by, redone_by, some_none, unspent_fault}
use Rattle.line_txn.proofs.HeaderReads.{header_found, header_none}
use Rattle.line_txn.proofs.StorePlans.{edits_fault, header_unread, header_refused, header_redone, unredone_fault}
use Rattle.line_txn.proofs.store.Store.open_lines.Goals as goal

-- the number of data lines
logged_in : (lines : ℕ) (g shape : Shape) → lines ≡ data_lines g → g ≡ shape → lines - 16 ≡ logged_lines shape
logged_in lines g shape e same = ap (λ k. k - 16) (e ∙ ap data_lines same)

with_log : (n : ℕ) (shape : Shape) → n ≡ logged_lines shape → n + 16 ≡ data_lines shape
with_log n shape e = ap (λ k. k + 16) e ∙ logged_size shape

pub overflow_sub-lines : goal.overflow_sub-lines
overflow_sub-lines g c = let least = least_lines (shape_of c.geo.result.now) in omega (arith, c.lines-lines.ensures.value, least)

pub read-requires-clause-line : goal.read-requires-clause-line
read-requires-clause-line g c = search (rules, least_lines)

pub returns-in_default-clause-opened : goal.returns-in_default-clause-opened
returns-in_default-clause-opened g c = (
  c.read.new.self,
  none_by _ _ _ _ _ (logged_in _ _ _ c.lines-lines.ensures.value c.geo.ensures) (c.in-Ok.ensures.read.did c.requires.up)
      (λ targets its. c.in_default.ensures.none (search rules) targets its),
)

pub edit_all-requires-clause-places : goal.edit_all-requires-clause-places
edit_all-requires-clause-places g c = grind (arith, common_steps, redoing_fit, with_log, logged_in)

pub invariant_of-result : goal.invariant_of-result
invariant_of-result g c = search (rules, with_log, logged_in)

pub invariant_of-result-in-Spent : goal.invariant_of-result-in-Spent
invariant_of-result-in-Spent g c = search (rules, with_log, logged_in, some_none)

pub returns-in-Err-clause-opened : goal.returns-in-Err-clause-opened
returns-in-Err-clause-opened g c = grind (arith, common_steps, logged_in)

pub returns-in-Ok-edit_all-clause-opened : goal.returns-in-Ok-edit_all-clause-opened
returns-in-Ok-edit_all-clause-opened g c =
    record {
      targets = c.in-Some.targets.items;
      redone = Ok tt;
      was_redone =
          redone_by _ _ _ _ _ _ _ _ (logged_in _ _ _ c.lines-lines.ensures.value c.geo.ensures) (c.in-Ok.ensures.read.did c.requires.up) c.in-Some.ensures.header
          (edited_as _ _ _ _ _ _ (c.deref-2.ensures.0 ∙ c.redoing-edits.ensures ∙ ap (redoing_edits _) c.deref.ensures.0)
          (edits_under g.S.Suite.formulas_of _ _ _ _ c.in-Ok.ensures.shape c.in-Ok.ensures.keys _ _ _ _
          (c.in-Ok-edit_all.ensures.edited.did (up_after c.in-Ok.ensures.read c.requires.up refl)).edited));
      its_lines = logged_in _ _ _ c.lines-lines.ensures.value c.geo.ensures;
      its_count = search rules;
      its_end = (c.new.ensures, refl, refl);
    }

pub returns-in-Spent-clause-opened : goal.returns-in-Spent-clause-opened
returns-in-Spent-clause-opened g c =
    record {
      targets = c.in-Some.targets.items;
      redone = Err (Fail.Spent c.in-Spent.page);
      was_redone =
          redone_by _ _ _ _ _ _ _ _ (logged_in _ _ _ c.lines-lines.ensures.value c.geo.ensures) (c.in-Ok.ensures.read.did c.requires.up) c.in-Some.ensures.header
          (edited_as _ _ _ _ _ _ (c.deref-2.ensures.0 ∙ c.redoing-edits.ensures ∙ ap (redoing_edits _) c.deref.ensures.0)
          (edits_under g.S.Suite.formulas_of _ _ _ _ c.in-Ok.ensures.shape c.in-Ok.ensures.keys _ _ _ _
          (edited_fault _ _ _ _ _ _ c.in-Spent.is (c.in-Err-edit_all.ensures.edited.did (up_after c.in-Ok.ensures.read c.requires.up refl)).edited)));
      its_lines = logged_in _ _ _ c.lines-lines.ensures.value c.geo.ensures;
      its_count = search rules;
      its_end = (refl, refl, refl);
    }

pub returns-in_default-fault-clause-opened : goal.returns-in_default-fault-clause-opened
returns-in_default-fault-clause-opened g c = (
  c.edit_all.new.engine,
  inr
      (record {
        targets = c.in-Some.targets.items;
        was_redone =
            redone_by _ _ _ _ _ _ _ _ (logged_in _ _ _ c.lines-lines.ensures.value c.geo.ensures) (c.in-Ok.ensures.read.did c.requires.up) c.in-Some.ensures.header
            (edited_as _ _ _ _ _ _ (c.deref-2.ensures.0 ∙ c.redoing-edits.ensures ∙ ap (redoing_edits _) c.deref.ensures.0)
            (edits_under g.S.Suite.formulas_of _ _ _ _ c.in-Ok.ensures.shape c.in-Ok.ensures.keys _ _ _ _
            (c.in-Err-edit_all.ensures.edited.did (up_after c.in-Ok.ensures.read c.requires.up refl)).edited));
        unspent = unspent_fault c.in-Err-edit_all.fault c.in_default-fault.not-Spent;
      }),
)

pub returns-in-Err-clause-plan : goal.returns-in-Err-clause-plan
returns-in-Err-clause-plan g c =
    (c.read.new.self, header_unread _ _ _ _ _ (logged_in _ _ _ c.lines-lines.ensures.value c.geo.ensures) (c.in-Err.ensures.read.did c.requires.up).plan)

pub returns-in_default-clause-plan : goal.returns-in_default-clause-plan
returns-in_default-clause-plan g c = (
  c.read.new.self,
  header_refused _ _ _ _ _ (logged_in _ _ _ c.lines-lines.ensures.value c.geo.ensures)
      (subst (λ n. header_in n c.in-Ok.header ≡ None) (logged_in _ _ _ c.lines-lines.ensures.value c.geo.ensures)
      (header_none _ _ (λ targets its. c.in_default.ensures.none (search rules) targets its)))
      (c.in-Ok.ensures.read.did c.requires.up).plan,
)

pub returns-in-Ok-edit_all-clause-plan : goal.returns-in-Ok-edit_all-clause-plan
returns-in-Ok-edit_all-clause-plan g c =
    record {
      opening = header_redone _ _ _ _ _ _ _ (Ok tt) _ (logged_in _ _ _ c.lines-lines.ensures.value c.geo.ensures)
          (subst (λ n. header_in n c.in-Ok.header ≡ Some c.in-Some.targets.items) (logged_in _ _ _ c.lines-lines.ensures.value c.geo.ensures)
          (header_found _ _ _ (omega (arith, c.lines-lines.ensures.bound)) c.in-Some.ensures.header))
          (c.in-Ok.ensures.read.did c.requires.up).plan
          (edits_as _ _ _ _ (c.deref-2.ensures.0 ∙ c.redoing-edits.ensures ∙ ap (redoing_edits _) c.deref.ensures.0)
          (edits_follow_under g.S.Suite.formulas_of _ _ _ _ c.in-Ok.ensures.shape c.in-Ok.ensures.keys _ _
          (c.in-Ok-edit_all.ensures.edited.did (up_after c.in-Ok.ensures.read c.requires.up refl)).plan))
          (search rules);
      its_lines = logged_in _ _ _ c.lines-lines.ensures.value c.geo.ensures;
      its_page = refl;
    }

pub returns-in-Spent-clause-plan : goal.returns-in-Spent-clause-plan
returns-in-Spent-clause-plan g c =
    record {
      opening = header_redone _ _ _ _ _ _ _ (Err (Fail.Spent c.in-Spent.page)) _ (logged_in _ _ _ c.lines-lines.ensures.value c.geo.ensures)
          (subst (λ n. header_in n c.in-Ok.header ≡ Some c.in-Some.targets.items) (logged_in _ _ _ c.lines-lines.ensures.value c.geo.ensures)
          (header_found _ _ _ (omega (arith, c.lines-lines.ensures.bound)) c.in-Some.ensures.header))
          (c.in-Ok.ensures.read.did c.requires.up).plan
          (edits_as _ _ _ _ (c.deref-2.ensures.0 ∙ c.redoing-edits.ensures ∙ ap (redoing_edits _) c.deref.ensures.0)
          (edits_follow_under g.S.Suite.formulas_of _ _ _ _ c.in-Ok.ensures.shape c.in-Ok.ensures.keys _ _
          (edits_fault _ _ _ _ c.in-Spent.is (c.in-Err-edit_all.ensures.edited.did (up_after c.in-Ok.ensures.read c.requires.up refl)).plan)))
          (search rules);
      its_lines = logged_in _ _ _ c.lines-lines.ensures.value c.geo.ensures;
      its_page = refl;
    }

pub returns-in_default-fault-clause-plan : goal.returns-in_default-fault-clause-plan
returns-in_default-fault-clause-plan g c = (
  c.edit_all.new.engine,
  header_redone _ _ _ _ _ _ _ (Err c.in-Err-edit_all.fault) _ (logged_in _ _ _ c.lines-lines.ensures.value c.geo.ensures)
      (subst (λ n. header_in n c.in-Ok.header ≡ Some c.in-Some.targets.items) (logged_in _ _ _ c.lines-lines.ensures.value c.geo.ensures)
      (header_found _ _ _ (omega (arith, c.lines-lines.ensures.bound)) c.in-Some.ensures.header))
      (c.in-Ok.ensures.read.did c.requires.up).plan
      (edits_as _ _ _ _ (c.deref-2.ensures.0 ∙ c.redoing-edits.ensures ∙ ap (redoing_edits _) c.deref.ensures.0)
      (edits_follow_under g.S.Suite.formulas_of _ _ _ _ c.in-Ok.ensures.shape c.in-Ok.ensures.keys _ _
      (c.in-Err-edit_all.ensures.edited.did (up_after c.in-Ok.ensures.read c.requires.up refl)).plan))
      (sym (unredone_fault _ _ c.in_default-fault.not-Spent)),
)

pub returns-in-Ok-edit_all-clause-up : goal.returns-in-Ok-edit_all-clause-up
returns-in-Ok-edit_all-clause-up g c = search (rules, up_after)

pub returns-in-Spent-clause-up : goal.returns-in-Spent-clause-up
returns-in-Spent-clause-up g c = search (rules, down_after, up_after)
