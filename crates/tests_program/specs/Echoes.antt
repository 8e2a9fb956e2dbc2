-- The grammar of the smallest session: an empty line is skipped, and one byte asks.
use Rattle.std.specs.Prelude.{ℕ, List, [], ◌∷◌}
use Rattle.pmem_base.specs.declared.commands.Kind.{Kind}
use Rattle.trace_text.specs.Talks.{Sort, skipped, asked, faulty}

abbrev pub sort_of_echo : List ℕ → Sort
sort_of_echo [] = skipped
sort_of_echo (byte ∷ []) = asked
sort_of_echo (byte ∷ bytes) = faulty Kind.Word
