-- The two trees show the clash.
use Rattle.std.proofs.Common.{◌≡◌, List, length, sym, ap, subst, ◌∙◌, rules}
use Rattle.counter_tree.proofs.Common.{Line, Clash, shape_of, line_at, IsShadowTree}
use Rattle.counter_tree.specs.BookView.{watch_of}
use Rattle.counter_tree.proofs.BookLemmas.{slots-fit, slot-fits, slots-differ, clash-is}
use Rattle.counter_tree.proofs.book.WatchBook.clash.Goals as goal

pub fill-requires : goal.fill-requires
fill-requires g c =
    slots-fit (shape_of c.args.self.now.geo) c.args.self.now.seen.height (length c.args.lines.now) c.layout_is_one_to_one.ensures.ranges
    c.args.self.now.trees.seen_height (c.requires.count ∙ c.args.self.now.counts.slot_count)

pub fill-requires-2 : goal.fill-requires-2
fill-requires-2 g c =
    slots-fit (shape_of c.args.self.now.geo) c.args.self.now.kept.height (length c.deref.result.now) c.layout_is_one_to_one.ensures.ranges
    c.args.self.now.trees.kept_height (ap (λ (ls : List Line). length ls) c.deref.ensures.value ∙ c.args.self.now.counts.slot_count)

pub top_difference-x-requires-clause-inside : goal.top_difference-x-requires-clause-inside
top_difference-x-requires-clause-inside g c =
    slot-fits (shape_of c.args.self.now.geo) c.fill.new.self.height (length c.args.lines.now) c.args.i c.layout_is_one_to_one.ensures.ranges
    (c.fill.ensures.height ∙ c.args.self.now.trees.seen_height) (c.requires.count ∙ c.args.self.now.counts.slot_count) c.requires.slot.within

pub top_difference-x-requires-clause-slot : goal.top_difference-x-requires-clause-slot
top_difference-x-requires-clause-slot g c =
    slots-differ (g.S.Suite.formulas_of (g.S.Suite.keys c.args.self.now.suite)) (g.S.Suite.formulas_of (g.S.Suite.keys c.fill.new.suite)) c.fill.new.self.height
    c.args.self.now.seen.height c.args.self.now.kept.height c.args.lines.now c.deref.result.now c.args.self.now.slots.items c.fill.new.self.lines c.fill-2.new.self.lines c.args.i
    c.fill.ensures.tree c.fill-2.ensures.tree c.deref.ensures.value c.fill.ensures.height
    (c.fill.ensures.height ∙ (c.args.self.now.trees.seen_height ∙ sym c.args.self.now.trees.kept_height))
    (slot-fits (shape_of c.args.self.now.geo) c.fill.new.self.height (length c.args.lines.now) c.args.i c.layout_is_one_to_one.ensures.ranges
    (c.fill.ensures.height ∙ c.args.self.now.trees.seen_height) (c.requires.count ∙ c.args.self.now.counts.slot_count) c.requires.slot.within)
    c.requires.slot

pub returns-clause-clash : goal.returns-clause-clash
returns-clause-clash g c =
    let watch = watch_of g.S.Suite.formulas_of g.S.Suite.keys c.args.self.now in
    let h = c.fill.new.self.height in
    let to_kept : c.args.self.now.kept.height ≡ h = search rules in
    let second : IsShadowTree (g.S.Suite.formulas_of (g.S.Suite.keys c.args.self.now.suite)) h c.args.self.now.slots.items c.fill-2.new.self.lines = search rules in
    clash-is watch c.args.lines.now c.fill.new.self.lines c.fill-2.new.self.lines h c.args.i c.top_difference-x.result
    (Clash c.top_difference-x.result c.line.result.now c.line-2.result.now)
    (c.fill.ensures.height ∙ c.args.self.now.trees.seen_height)
    (subst (λ n. IsShadowTree (g.S.Suite.formulas_of (g.S.Suite.keys c.args.self.now.suite)) n c.args.lines.now c.fill.new.self.lines) (sym c.fill.ensures.height) c.fill.ensures.tree)
    second
    (slot-fits (shape_of c.args.self.now.geo) c.fill.new.self.height (length c.args.lines.now) c.args.i c.layout_is_one_to_one.ensures.ranges
    (c.fill.ensures.height ∙ c.args.self.now.trees.seen_height) (c.requires.count ∙ c.args.self.now.counts.slot_count) c.requires.slot.within)
    c.requires.slot c.top_difference-x.ensures
    (ap (λ l. Clash c.top_difference-x.result l c.line-2.result.now) c.line.ensures
    ∙ ap (λ l. Clash c.top_difference-x.result (line_at c.fill.new.self.lines c.top_difference-x.result) l) c.line-2.ensures)
