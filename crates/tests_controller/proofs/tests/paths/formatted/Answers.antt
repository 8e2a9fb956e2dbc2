-- A bench of empty parts.
use Rattle.std.proofs.Common.{List, length, sym, ap, subst, ◌∙◌}
use Rattle.std.proofs.lemmas.List.{length-replicate}
use Rattle.pmem_base.specs.declared.lines.Line.{Line}
use Rattle.pmem_base.specs.Geo.{shape_of}
use Rattle.pmem_base.specs.Layout.{shadow_lines}
use Rattle.pmem_base.specs.Lines.{zero_line}
use Rattle.board.specs.Memory.{BoardMemory}
use Rattle.meta_cache.specs.State.{CacheState}
use Rattle.meta_path.specs.Blocks.{AreInTheirBanks}
use Rattle.meta_path.proofs.PathFacts.{AreInTheirBanks-empty}
use Rattle.tests_controller.proofs.tests.paths.formatted.Goals as goal

pub invariant_of-bench : goal.invariant_of-bench
invariant_of-bench g c =
    let shape = shape_of c.in_ok-geo.geo in
    record {
      its_shape = ap (λ (state : CacheState). state.shape) c.in_ok-new.ensures;
      its_banks =
          subst (AreInTheirBanks shape) (sym (ap (λ (state : CacheState). state.banks) c.in_ok-new.ensures)) (AreInTheirBanks-empty shape);
      its_mirror = ap (λ (lines : List Line). length lines) c.in_ok-new-2.ensures ∙ length-replicate (shadow_lines shape) zero_line;
      its_truth = c.in_ok-new-4.ensures.shape.truth_count;
      its_size =
          ap (λ (memory : BoardMemory). length memory.lines) c.in_ok-new-3.ensures ∙ length-replicate c.size.result zero_line
          ∙ c.size.ensures.value;
    }
