use Rattle.std.proofs.Common.{◌≡◌, ℕ, ◌+◌, length, reverse}
use Rattle.pmem_base.specs.Geo.{shape_of}
use Rattle.pmem_base.specs.Counts.{risen_times}
use Rattle.meta_path.specs.Blocks.{cached_line}
use Rattle.meta_path.proofs.RenewalLemmas.{IsRenewedTo}
use Rattle.meta_path.proofs.renewal.next_path.Given as goal

abbrev pub invariant-levels : goal.invariant-levels
invariant-levels g l =
    let shape = shape_of l.fn.geo in
    record {
      count : length l.lines.items ≡ l.made;
      renewed :
          (left : ℕ) → l.made + left ≡ shape.levels
          → IsRenewedTo shape (g.S.Suite.formulas_of (g.S.Suite.keys l.fn.suite)) (cached_line shape l.fn.cache.banks) l.fn.page
          l.fn.block l.made left l.x l.line (reverse l.lines.items);
      digests : g.S.Suite.digests l.suite ≡ risen_times l.made (g.S.Suite.digests l.fn.suite);
      keys : g.S.Suite.keys l.suite ≡ g.S.Suite.keys l.fn.suite;
      pads : g.S.Suite.pads l.suite ≡ g.S.Suite.pads l.fn.suite;
      tags : g.S.Suite.tags l.suite ≡ g.S.Suite.tags l.fn.suite;
    }
