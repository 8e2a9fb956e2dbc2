use Rattle.std.proofs.Common.{◌≡◌, All, replicate, ap, sym, subst, ◌∙◌}
use Rattle.pmem_base.specs.Lines.{IsLine, zero_line}
use Rattle.pmem_base.proofs.LineLemmas.{All-zero_lines}
use Rattle.pmem_recovery.proofs.formatting.format.Goals as goal

pub fill_device-requires-clause-whole : goal.fill_device-requires-clause-whole
fill_device-requires-clause-whole g c =
    let zeros : c.deref_mut.result.now ≡ replicate c.metas.result zero_line =
    c.deref_mut.ensures.value ∙ c.in_ok-truth.ensures.items_if_clones_equal (λ y e. e) ∙ ap (replicate c.metas.result) c.default.ensures in
    subst (λ items. All IsLine items) (sym zeros) (All-zero_lines c.metas.result)
