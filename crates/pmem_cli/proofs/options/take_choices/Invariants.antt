use Rattle.std.proofs.Common.{◌≡◌, length}
use Rattle.std.specs.Prelude.{map, string_bytes}
use Rattle.pmem_cli.specs.Words.{take_options, no_choices, AreTaken}
use Rattle.pmem_cli.proofs.options.take_choices.Given as goal

abbrev pub invariant-options : goal.invariant-options
invariant-options l =
    record {
      same : take_options l.allowed l.choices (map string_bytes l.rest) ≡ take_options l.allowed no_choices (map string_bytes l.words);
      taken : AreTaken l.choices;
    }

abbrev pub decreases-options : goal.decreases-options
decreases-options l = length l.rest
