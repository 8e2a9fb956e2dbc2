use Rattle.std.proofs.Common.{ℕ, replicate, ◌+◌, ◌-◌, ◌/◌, ap, ◌∙◌, arith}
use Rattle.std.proofs.lemmas.List.Elements.{All-set}
use Rattle.pmem_base.specs.Geo.{shape_of}
use Rattle.pmem_base.specs.Lines.{IsLine}
use Rattle.split_counters.specs.Blocks.{packed}
use Rattle.pmem_recovery.proofs.FormatSteps.{zeros-minors, blocks_more}
use Rattle.pmem_recovery.proofs.formatting.fill_blocks.Goals as goal

pub pages-preserved : goal.pages-preserved
pages-preserved c =
    let at : ℕ = (c.pages-2.result - 1) / 3 + c.pages.page in
    record {
      whole = All-set IsLine c.pages.truth at c.pack-block.result c.is_whole.ensures c.pages.invariant.whole;
      blocks =
          blocks_more (shape_of c.args.geo.now) c.pages.page at c.pack-block.result c.pages.truth
          (omega (arith, c.pages-test, c.pages-2.ensures.value)) (omega (arith, c.pages-2.ensures.value))
          (c.pack-block.ensures ∙ ap (λ m. packed (record { major = m; minors = replicate 64 0 })) c.major.ensures ∙ ap (λ zeros. packed (record { major = (shape_of c.args.geo.now).major; minors = zeros })) zeros-minors)
          (c.pages.auto.truth ∙ c.requires.long) c.pages.invariant.blocks;
    }
