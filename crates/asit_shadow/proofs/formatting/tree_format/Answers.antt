-- The engine over a formatted device.
use Rattle.std.proofs.Common.{◌≡◌, List, Some, refl, sym, ap, subst}
use Rattle.asit_shadow.proofs.Common.{Option, slice_set, false, shape_of, IsChipTree, CachedNode, TreeState, IsTreeEngine, tree_parts_of, IsTreeUsable, rest_of, first_held, first_cache, HasTreeFormatted}
use Rattle.asit_shadow.proofs.FormatEnds.{first-engine, tree-formatted, formatted-usable}
use Rattle.asit_shadow.proofs.formatting.tree_format.Given.{Over}
use Rattle.asit_shadow.proofs.formatting.tree_format.Goals.{After-fill_device}
use Rattle.asit_shadow.proofs.formatting.tree_format.Goals as goal

module _ (g : Over) (c : After-fill_device g) (whole : IsChipTree c.fill_device.new.tree) where
  cache : slice_set c.in_ok-room.room.cache.items 0 (Some first_held) ≡ first_cache (shape_of c.args.geo.now)
  cache = ap (λ (held : List (Option CachedNode)). slice_set held 0 (Some first_held)) c.in_ok-room.ensures.cache

  formatted : HasTreeFormatted (record { shape = shape_of c.args.geo.now; formulas = g.S.Suite.formulas_of (g.S.Suite.keys c.args.suite.now) })
      (rest_of (g.B.Board.device c.args.board.now) (g.W.Watch.watched c.args.watch.now)) (rest_of (g.B.Board.device c.fill_device.new.board) (g.W.Watch.watched c.fill_device.new.watch))
      (record { shape = shape_of c.args.geo.now; cache = slice_set c.in_ok-room.room.cache.items 0 (Some first_held); tree = c.fill_device.new.tree; down = false })
  formatted =
      tree-formatted (record { shape = shape_of c.args.geo.now; formulas = g.S.Suite.formulas_of (g.S.Suite.keys c.args.suite.now) })
      (rest_of (g.B.Board.device c.args.board.now) (g.W.Watch.watched c.args.watch.now)) (rest_of (g.B.Board.device c.fill_device.new.board) (g.W.Watch.watched c.fill_device.new.watch))
      (record { shape = shape_of c.args.geo.now; cache = slice_set c.in_ok-room.room.cache.items 0 (Some first_held); tree = c.fill_device.new.tree; down = false })
      c.layout_is_one_to_one.ensures.ranges (g.met.S.Suite.in_range c.args.suite.now) c.requires.seals (g.met.W.Watch.whole c.fill_device.new.watch).1
      (record { shape = refl; not_down = refl; cache = cache }) whole c.fill_device.ensures.formatted

pub new-requires : goal.new-requires
new-requires g c =
    let before = (goal.at.new-requires g c).After-fill_device in
    subst (λ (held : List (Option CachedNode)). IsTreeEngine (record { shape = shape_of c.args.geo.now; cache = held; tree = c.fill_device.new.tree; down = false })) (sym (cache g before c.is_whole.ensures))
    (first-engine _ c.fill_device.new.tree c.is_whole.ensures c.fill_device.ensures.formatted.height)

pub returns-clause-formatted : goal.returns-clause-formatted
returns-clause-formatted g c =
    let before = (goal.at.returns-clause-formatted g c).After-fill_device in
    subst (λ (e : TreeState). HasTreeFormatted (record { shape = shape_of c.args.geo.now; formulas = g.S.Suite.formulas_of (g.S.Suite.keys c.args.suite.now) })
    (rest_of (g.B.Board.device c.args.board.now) (g.W.Watch.watched c.args.watch.now)) (rest_of (g.B.Board.device c.fill_device.new.board) (g.W.Watch.watched c.fill_device.new.watch)) e) (sym c.new.ensures) (formatted g before c.is_whole.ensures)

pub returns-clause-usable : goal.returns-clause-usable
returns-clause-usable g c =
    let before = (goal.at.returns-clause-usable g c).After-fill_device in
    subst (λ (e : TreeState). IsTreeUsable (shape_of c.args.geo.now) (tree_parts_of e (g.B.Board.device c.fill_device.new.board) (g.W.Watch.watched c.fill_device.new.watch))) (sym c.new.ensures)
    (formatted-usable (record { shape = shape_of c.args.geo.now; formulas = g.S.Suite.formulas_of _ }) _ _
    (record { shape = shape_of c.args.geo.now; cache = slice_set c.in_ok-room.room.cache.items 0 _; tree = c.fill_device.new.tree; down = false })
    c.requires.size c.requires.seals (formatted g before c.is_whole.ensures))
