-- The first slot of the position, or none.
use Rattle.std.proofs.Common.{◌≡◌, List, false, length, get_or, ap, subst, ◌∙◌, arith, rules}
use Rattle.std.specs.Prelude.{◌==◌}
use Rattle.std.proofs.lemmas.List.Folds.{find_at}
use Rattle.std.specs.List.{position_or_len}
use Rattle.std.proofs.lemmas.Bool.{ne_eqb}
use Rattle.std.proofs.lemmas.List.Elements.{All-more}
use Rattle.meta_cache.specs.Banks.{Slot}
use Rattle.meta_cache.proofs.SetLemmas.{blank, first_place}
use Rattle.meta_cache.proofs.set.Set.place_of.Goals as goal

pub returns-then-slot-x-clause-value : goal.returns-then-slot-x-clause-value
returns-then-slot-x-clause-value c =
    subst (λ slots. c.slots.i ≡ position_or_len (λ (slot : Slot). slot.position == c.args.x) slots)
    (c.as_slice-slot-items.ensures.value ∙ c.self.view_is)
    (first_place c.as_slice-slot-items.result.now c.slots.i c.args.x blank (omega arith) c.slots.invariant
    (λ l. c.if-slot-x.true))

pub slots-preserved : goal.slots-preserved
slots-preserved c =
    All-more (λ (slot : Slot). (slot.position == c.args.x) ≡ false) c.as_slice-slot-items.result.now c.slots.i blank
    c.slots-test.true c.slots.invariant
    (ne_eqb (get_or c.as_slice-slot-items.result.now c.slots.i blank).position c.args.x c.if-slot-x.false)

pub returns-clause-value : goal.returns-clause-value
returns-clause-value c =
    let slots : List Slot = c.as_slice-slot-items.result.now in
    let whole : c.slots.i ≡ length slots = omega arith in
    let end : c.len.result ≡ c.slots.i =
    omega (arith, c.len.ensures.value, ap (λ (items : List Slot). length items) c.as_slice-slot-items.ensures.value) in
    end
    ∙ subst (λ slots. c.slots.i ≡ position_or_len (λ (slot : Slot). slot.position == c.args.x) slots)
    (c.as_slice-slot-items.ensures.value ∙ c.self.view_is)
    (first_place slots c.slots.i c.args.x blank (omega arith) c.slots.invariant (λ l. absurd (omega arith)))

pub returns-then-slot-x-clause-found : goal.returns-then-slot-x-clause-found
returns-then-slot-x-clause-found c = search (rules, find_at, returns-then-slot-x-clause-value)

pub returns-clause-found : goal.returns-clause-found
returns-clause-found c = search (rules, find_at, returns-clause-value)
