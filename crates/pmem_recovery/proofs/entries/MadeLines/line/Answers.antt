-- The line of the position's number.
use Rattle.std.proofs.Common.{ℕ, ◌≡◌, ◌<◌, List, length, ap, ap₂, ◌∙◌, arith}
use Rattle.std.specs.Prelude.{slice_index}
use Rattle.std.proofs.lemmas.List.{get_or_default}
use Rattle.pmem_recovery.specs.declared.entries.MadeEntry.{MadeEntry}
use Rattle.pmem_recovery.specs.Upward.{line_made}
use Rattle.pmem_recovery.specs.Made.{MadeState, numbered_line}
use Rattle.pmem_recovery.proofs.entries.MadeLines.line.Goals as goal

pub numbered_line-requires : goal.numbered_line-requires
numbered_line-requires c =
    let inside : c.args.x < length c.self.inside.numbers.items = omega (arith, c.requires, ap (λ (made : MadeState). made.positions) c.self.view_is) in
    let read = c.index.ensures ∙ get_or_default c.self.inside.numbers.items c.args.x c.index.result.now 0 inside in
    omega (arith, read, (c.self.invariant.each c.args.x inside).0, ap length c.deref.ensures.value)

pub returns : goal.returns
returns c =
    let inside : c.args.x < length c.self.inside.numbers.items = omega (arith, c.requires, ap (λ (made : MadeState). made.positions) c.self.view_is) in
    let read : c.index.result.now ≡ slice_index c.self.inside.numbers.items c.args.x =
    c.index.ensures ∙ get_or_default c.self.inside.numbers.items c.args.x c.index.result.now 0 inside in
    c.numbered_line.ensures
    ∙ ap₂ (λ (entries : List MadeEntry) (n : ℕ). numbered_line entries n) c.deref.ensures.value read
    ∙ (c.self.invariant.each c.args.x inside).1
    ∙ ap (λ (made : MadeState). line_made made.entries c.args.x) c.self.view_is
