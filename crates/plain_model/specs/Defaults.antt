-- What a run has if the command line doesn't say otherwise.
use Rattle.std.specs.Prelude.{ℕ, true, false, List}
use Rattle.std.specs.List.{range_with_len}
use Rattle.pmem_base.specs.Shape.{Shape}
use Rattle.suite.specs.Aes.{aes_formulas}
use Rattle.suite.specs.Setup.{Setup}

-- two levels of nodes, four sets of two ways in each bank, windows of four minors, major 0 at first, no line of a path in
-- each group, shadow tables, and volatile queues that combine nothing
unfoldable pub default_shape : Shape
default_shape =
    record {
      levels = 2;
      sets = 4;
      ways = 2;
      loss = 4;
      major = 0;
      persist = 0;
      shadow = true;
      durable = false;
      combines = false;
    }

-- the key's bytes are 00 to 0f, and the tag key's 10 to 2f
unfoldable pub default_keys : List ℕ
default_keys = range_with_len 0 48

unfoldable pub default_setup : Setup
default_setup = record { shape = default_shape; formulas = aes_formulas default_keys }
