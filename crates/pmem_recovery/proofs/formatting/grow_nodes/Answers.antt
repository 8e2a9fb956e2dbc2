use Rattle.std.proofs.Common.{ℕ, ◌≡◌, ◌<◌, ◌+◌, ◌-◌, ◌*◌, ◌/◌, List, refl, sym, subst, ◌∙◌, arith}
use Rattle.std.proofs.lemmas.List.Elements.{All-set}
use Rattle.pmem_base.specs.Geo.{shape_of}
use Rattle.pmem_base.specs.Lines.{IsLine, line_at}
use Rattle.pmem_base.specs.Layout.{level_start, meta_lines}
use Rattle.bonsai_tree.specs.Nodes.{node_over}
use Rattle.bonsai_tree.proofs.Levels.{meta_lines-counters, level_start-pow}
use Rattle.pmem_base.proofs.LineSets.{line_at-set_other}
use Rattle.suite.specs.Formulas.{Formulas}
use Rattle.call_effects.proofs.SuiteLaws.{SuiteRise-as, SuiteRise-then}
use Rattle.pmem_recovery.proofs.FormatSteps.{nodes_more}
use Rattle.pmem_recovery.proofs.formatting.grow_nodes.Goals as goal

four : (done : ℕ) → 4 * done + 4 ≡ 4 * (done + 1)
four done = omega arith

pub nodes-preserved : goal.nodes-preserved
nodes-preserved g c =
    let formulas : List ℕ → Formulas = λ keys. g.S.Suite.formulas_of keys in
    let at : ℕ = (c.pages.result - 1) / 3 - 1 - c.nodes.done in
    let first : ℕ = level_start (shape_of c.args.geo.now).levels in
    let line = c.node_above-line.result in
    let value : line ≡ node_over (formulas (g.S.Suite.keys c.args.suite.now)) at (line_at c.nodes.truth) =
    subst (λ k. line ≡ node_over (formulas k) at (line_at c.nodes.truth)) c.nodes.invariant.keys c.node_above-line.ensures.value in
    record {
      keys = c.node_above-line.ensures.keys ∙ c.nodes.invariant.keys;
      counts = SuiteRise-as 0 0 _ 0 0 _ _ _ refl refl (four c.nodes.done) (SuiteRise-then 0 0 (4 * c.nodes.done) 0 0 4 _ _ _ c.nodes.invariant.counts c.node_above-line.ensures.counts);
      whole = All-set IsLine c.nodes.truth at line c.is_whole.ensures c.nodes.invariant.whole;
      blocks = λ x from. line_at-set_other c.nodes.truth at x line (λ e. omega (arith, e, from, c.pages.ensures.value, c.nodes-test)) ∙ c.nodes.invariant.blocks x from;
      nodes =
          nodes_more (formulas (g.S.Suite.keys c.args.suite.now)) first c.nodes.done at line c.nodes.truth
          (omega (arith, c.nodes-test, c.pages.ensures.value)) (omega (arith, c.pages.ensures.value))
          (subst (λ n. at < n) (sym (c.nodes.auto.truth ∙ c.requires.long)) (omega (arith, c.nodes-test, c.pages.ensures.value, meta_lines-counters (shape_of c.args.geo.now)))) value c.nodes.invariant.nodes;
    }

pub returns-clause-counts : goal.returns-clause-counts
returns-clause-counts g c =
    let shape = shape_of c.args.geo.now in
    let all : 4 * c.nodes.done ≡ meta_lines shape - 1 = omega (arith, meta_lines-counters shape, level_start-pow shape.levels) in
    SuiteRise-as 0 0 _ 0 0 _ _ _ refl refl all c.nodes.invariant.counts
