-- A line that stands alone in a text, and the first words of the commands that have no port.
use Rattle.std.specs.Prelude.{List, Result, drop}
use Rattle.pmem_base.specs.declared.lines.Line.{Line}
use Rattle.pmem_base.specs.declared.commands.Kind.{Kind}
use Rattle.plain_model.specs.Grammar.{Verb, verbs}
use Rattle.collision_witness.specs.Words.{Word, one_word, hex_line, ◌>>=◌}

-- one line and nothing else
abbrev pub one_line : List Word → Result Line Kind
one_line words = do
  word ← one_word words
  hex_line word

-- all first words but those of `post`, `part`, `drain`, `fence` and `read`
abbrev pub later_verbs : List (Word × Verb)
later_verbs = drop 5 verbs

-- and all but `turn`, `flush`, `cut`, `off` and `on`
abbrev pub tampering_verbs : List (Word × Verb)
tampering_verbs = drop 10 verbs

-- and all but `poke`, `flip`, `move` and `snap`: `back`, `peek`, `stat` and `loss`
abbrev pub last_verbs : List (Word × Verb)
last_verbs = drop 14 verbs
