use Rattle.std.proofs.Common.{ℕ, ◌≡◌, ◌<◌, All}
use Rattle.pmem_base.specs.Geo.{shape_of}
use Rattle.pmem_base.specs.Lines.{IsLine, line_at}
use Rattle.bonsai_tree.specs.Positions.{counter_position}
use Rattle.split_counters.specs.Blocks.{packed}
use Rattle.pmem_engine.specs.Formatted.{first_block}
use Rattle.pmem_recovery.proofs.formatting.fill_blocks.Given as goal

abbrev pub invariant-pages : goal.invariant-pages
invariant-pages l =
    record {
      whole : All IsLine l.truth;
      blocks : (page : ℕ) → page < l.page → line_at l.truth (counter_position (shape_of l.geo) page) ≡ packed (first_block (shape_of l.geo));
    }
