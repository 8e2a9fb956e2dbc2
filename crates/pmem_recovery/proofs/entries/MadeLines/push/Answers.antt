-- The entry follows, and its position has a number.
use Rattle.std.proofs.Common.{◌≡◌, ◌<◌, ◌+◌, List, length, sym, ap, subst, ◌∙◌, arith}
use Rattle.std.specs.Prelude.{slice_index, slice_set}
use Rattle.std.proofs.lemmas.List.{get_or_default}
use Rattle.pmem_recovery.specs.declared.entries.MadeEntry.{MadeEntry}
use Rattle.pmem_recovery.specs.Made.{MadeState, IsIndexed}
use Rattle.pmem_recovery.proofs.MadeIndex.{IsIndexed-push}
use Rattle.pmem_recovery.proofs.entries.MadeLines.push.Goals as goal

pub invariant_of-self : goal.invariant_of-self
invariant_of-self c =
    let inside : c.args.entry.at < length c.self.inside.numbers.items =
    omega (arith, c.requires.position, ap (λ (made : MadeState). made.positions) c.self.view_is) in
    let read : c.index.result.now ≡ slice_index c.self.inside.numbers.items c.args.entry.at =
    c.index.ensures ∙ get_or_default c.self.inside.numbers.items c.args.entry.at c.index.result.now 0 inside in
    let next : c.len.result + 1 ≡ length c.self.inside.entries.items + 1 = omega (arith, c.len.ensures) in
    subst (λ (entries : List MadeEntry). IsIndexed entries (slice_set c.self.inside.numbers.items c.args.entry.at c.first_number-number.result))
    (sym c.push_reserved.ensures.items)
    (IsIndexed-push c.self.inside.entries.items c.args.entry c.self.inside.numbers.items c.self.invariant inside (c.len.result + 1) c.index.result.now
    c.first_number-number.result next read c.first_number-number.ensures)
