-- The slot at the position's place, if there is one.
use Rattle.std.proofs.Common.{◌≤◌, ◌<◌, List, length, get_or, sym, ap, ◌∙◌, arith, rules}
use Rattle.std.specs.Prelude.{is_some}
use Rattle.std.proofs.lemmas.Option.{slice_get-get_or, slice_get_past}
use Rattle.meta_cache.specs.Banks.{Slot}
use Rattle.meta_cache.proofs.SetLemmas.{blank, is_some-slot_with}
use Rattle.meta_cache.proofs.set.Set.look.Goals as goal

pub returns-then-i-len-clause-value : goal.returns-then-i-len-clause-value
returns-then-i-len-clause-value c = search (rules, slice_get_past)

pub returns-clause-value : goal.returns-clause-value
returns-clause-value c = search (rules, slice_get-get_or, get_or)

pub returns-then-i-len-clause-held : goal.returns-then-i-len-clause-held
returns-then-i-len-clause-held c =
    let slots : List Slot = c.args.self.now in
    let past : length slots ≤ c.place_of-i.result =
    omega (arith, c.len.ensures.value, ap (λ (ys : List Slot). length ys) c.self.view_is) in
    sym (ap is_some (c.place_of-i.ensures.found ∙ slice_get_past slots c.place_of-i.result past))
    ∙ is_some-slot_with slots c.args.x

pub returns-clause-held : goal.returns-clause-held
returns-clause-held c =
    let slots : List Slot = c.args.self.now in
    let within : c.place_of-i.result < length slots =
    omega (arith, c.len.ensures.value, c.place_of-i.ensures.most, ap (λ (ys : List Slot). length ys) c.self.view_is) in
    sym (ap is_some (c.place_of-i.ensures.found ∙ slice_get-get_or slots c.place_of-i.result blank within))
    ∙ is_some-slot_with slots c.args.x
