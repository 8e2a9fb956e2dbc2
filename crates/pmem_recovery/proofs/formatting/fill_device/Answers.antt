use Rattle.std.proofs.Common.{ℕ, ◌≡◌, ◌<◌, ◌≤◌, ◌+◌, ◌-◌, List, [], refl, subst, ◌∙◌, arith}
use Rattle.std.proofs.lemmas.List.{get_or_default}
use Rattle.pmem_base.specs.Shape.{Shape}
use Rattle.pmem_base.specs.Geo.{shape_of}
use Rattle.pmem_base.specs.Layout.{data_lines, meta_lines}
use Rattle.pmem_base.proofs.LayoutLemmas.{pages-least}
use Rattle.bonsai_tree.specs.Positions.{counter_position}
use Rattle.bonsai_tree.proofs.Levels.{meta_lines-counters}
use Rattle.bonsai_tree.specs.Nodes.{IsHashTree}
use Rattle.board.specs.Steps.{HasLatched}
use Rattle.suite.specs.Formulas.{Formulas}
use Rattle.pmem_base.specs.Lines.{line_at, zero_line}
use Rattle.pmem_engine.specs.Mendable.{new_engine}
use Rattle.call_effects.specs.SuiteStates.{setup_of}
use Rattle.pmem_recovery.specs.Formatting.{first_regs}
use Rattle.call_effects.proofs.SuiteLaws.{SuiteRise-then, SuiteRise-as}
use Rattle.pmem_recovery.proofs.PartLaws.{IsShape-geo}
use Rattle.pmem_recovery.proofs.FormattedLaws.{HasFormatted-of}
use Rattle.pmem_recovery.proofs.formatting.fill_device.Goals as goal

-- the tree has a top line
has_top : (g : Shape) → 1 ≤ g.levels → (n : ℕ) → n ≡ meta_lines g → 0 < n
has_top g least n long = omega (arith, pages-least g.levels least, meta_lines-counters g, long)

pub slice_copy_out-top : goal.slice_copy_out-top
slice_copy_out-top g c = has_top (shape_of c.args.geo.now) c.args.geo.now.has_levels.0 _ c.grow_nodes.ensures.tree.whole

pub returns-clause-counts : goal.returns-clause-counts
returns-clause-counts g c =
    let n = data_lines (shape_of c.args.geo.now) in
    let m = meta_lines (shape_of c.args.geo.now) in
    let some : 0 < m = has_top (shape_of c.args.geo.now) c.args.geo.now.has_levels.0 m refl in
    SuiteRise-as (n + 0 + 0) (n + 0 + 0) (0 + (m - 1) + 1) n n m _ _ (omega arith) (omega arith) (omega (arith, some))
    (SuiteRise-then (n + 0) (n + 0) (0 + (m - 1)) 0 0 1 _ _ _ (SuiteRise-then n n 0 0 0 (m - 1) _ _ _ c.seal_lines.ensures.counts c.grow_nodes.ensures.counts) c.latch_root.ensures.counts)

pub returns-clause-formatted : goal.returns-clause-formatted
returns-clause-formatted g c =
    let formulas : List ℕ → Formulas = λ keys. g.S.Suite.formulas_of keys in
    let g0 = shape_of c.args.geo.now in
    let setup = setup_of c.args.geo.now (formulas (g.S.Suite.keys c.args.suite.now)) in
    let truth = c.grow_nodes.new.truth in
    let sealed_keys = c.seal_lines.ensures.keys in
    let grown_keys = c.grow_nodes.ensures.keys ∙ sealed_keys in
    let tree : IsHashTree g0 setup.formulas truth =
    subst (λ k. IsHashTree g0 (formulas k) truth) sealed_keys c.grow_nodes.ensures.tree in
    let latched : HasLatched (g.B.Board.device c.clear_tables.new.board) (first_regs setup (line_at truth 0)) (g.B.Board.device c.latch_root.new.board) =
    subst (λ k. HasLatched (g.B.Board.device c.clear_tables.new.board) (first_regs (setup_of c.args.geo.now (formulas k)) (line_at truth 0)) (g.B.Board.device c.latch_root.new.board)) grown_keys
    (subst (λ line. HasLatched (g.B.Board.device c.clear_tables.new.board) (first_regs (setup_of c.args.geo.now (formulas (g.S.Suite.keys c.grow_nodes.new.suite))) line) (g.B.Board.device c.latch_root.new.board))
    (get_or_default truth 0 (record { 0 = [] }) zero_line (has_top g0 c.args.geo.now.has_levels.0 _ c.grow_nodes.ensures.tree.whole)) c.latch_root.ensures.latched) in
    HasFormatted-of setup truth _ (g.A.Audit.ledger c.seal_lines.new.audit) _ _
    (g.B.Board.device c.seal_lines.new.board) (g.B.Board.device c.write_metadata.new.board) (g.B.Board.device c.clear_tables.new.board) _
    (new_engine g0) (IsShape-geo c.args.geo.now) (g.met.S.Suite.in_range c.args.suite.now) refl
    (record {
      tree = tree;
      whole = c.grow_nodes.ensures.whole;
      blocks = λ page inside. c.grow_nodes.ensures.blocks (counter_position g0 page) (omega arith) ∙ c.fill_blocks.ensures.blocks page inside;
    })
    (record {
      no_marks = c.requires.no_marks;
      no_exhibit = c.requires.no_exhibit;
      data_lines = c.requires.lines;
      truth_count = c.requires.truth;
      seals = c.seal_lines.ensures.ledger;
      told = c.write_metadata.ensures.ledger;
    })
    (record {
      size = c.requires.size;
      steady = c.requires.steady;
      steady_sealed = c.seal_lines.ensures.steady;
      seals = c.seal_lines.ensures.lines;
      steady_filled = c.write_metadata.ensures.steady;
      meta = c.write_metadata.ensures.lines;
      steady_cleared = c.clear_tables.ensures.steady;
      tables = c.clear_tables.ensures.lines;
      latched = latched;
      sealed_so = c.seal_lines.ensures.plan;
      filled_so = c.write_metadata.ensures.plan;
      cleared_so = c.clear_tables.ensures.plan;
      whole_sealed = g.met.B.Board.whole c.seal_lines.new.board;
      whole_filled = g.met.B.Board.whole c.write_metadata.new.board;
      whole = g.met.B.Board.whole c.latch_root.new.board;
    })
