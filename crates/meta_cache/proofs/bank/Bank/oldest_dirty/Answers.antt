-- The first set that has one.
use Rattle.std.proofs.Common.{◌≡◌, List, get_or, sym, ap, ◌∙◌, rules}
use Rattle.std.specs.Prelude.{is_some}
use Rattle.meta_cache.specs.Banks.{Slot}
use Rattle.meta_cache.specs.Sets.{oldest_dirty_in}
use Rattle.meta_cache.proofs.ListLemmas.{first_answer, no_answer_more}
use Rattle.meta_cache.proofs.bank.Bank.oldest_dirty.Goals as goal

pub returns-then-is_some : goal.returns-then-is_some
returns-then-is_some c = search (rules, get_or, first_answer)

pub sets-preserved : goal.sets-preserved
sets-preserved c =
    let sets : List (List Slot) = c.deref-set-items.result.now in
    let at : c.oldest_dirty-found.result ≡ oldest_dirty_in (get_or sets c.sets.set-index c.set-item.result) = search rules in
    no_answer_more oldest_dirty_in sets c.sets.set-index c.set-item.result c.sets-test.true c.sets.invariant
    (ap is_some (sym at) ∙ sym c.if-is_some.ensures)
