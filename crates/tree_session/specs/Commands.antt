-- The grammar of a session over a counter tree: what one line asks for.
use Rattle.std.specs.Prelude.{ℕ, Bool, true, false, List, [], ◌∷◌, codes, Option, Result}
use Rattle.pmem_base.specs.declared.commands.Kind.{Kind}
use Rattle.collision_witness.specs.Words.{Word}
use Rattle.plain_model.specs.Grammar.{alone, with_number}
use Rattle.trace_text.specs.Entries.{reading_by, sort_of_reading, with_number_and_line, command_by_verb}
use Rattle.trace_text.specs.Talks.{Sort}
use Rattle.tree_session.specs.declared.commands.TreeCommand.{TreeCommand}
use Rattle.tree_session.specs.declared.commands.TreeCommand.TheVariants as Do

-- ---- the words of each command

-- the first words that begin a command
pub data TreeVerb : Type 0 where
  write : TreeVerb
  read : TreeVerb
  on : TreeVerb
  off : TreeVerb
  cut : TreeVerb
  poke : TreeVerb
  snap : TreeVerb
  back : TreeVerb

-- all of them, as they are written
abbrev pub tree_verbs : List (Word × TreeVerb)
tree_verbs =
    (codes "write", write) ∷ (codes "read", read) ∷ (codes "on", on) ∷ (codes "off", off)
    ∷ (codes "cut", cut) ∷ (codes "poke", poke) ∷ (codes "snap", snap) ∷ (codes "back", back) ∷ []

-- ---- the commands of these words

-- the command of a verb and its further words: the number of words first, then the first word from
-- the left that breaks its rule
abbrev pub tree_command_of_verb : TreeVerb → List Word → Result TreeCommand Kind
tree_command_of_verb write words = with_number_and_line Do.Write words
tree_command_of_verb read words = with_number Do.Read words
tree_command_of_verb on words = alone Do.On words
tree_command_of_verb off words = alone Do.Off words
tree_command_of_verb cut words = with_number Do.Cut words
tree_command_of_verb poke words = with_number_and_line Do.Poke words
tree_command_of_verb snap words = alone Do.Snap words
tree_command_of_verb back words = with_number Do.Back words

-- the command of a first word and of those after it
unfoldable pub tree_command_of : Word → List Word → Result TreeCommand Kind
tree_command_of name words = command_by_verb tree_command_of_verb tree_verbs name words

-- whether the answer to the command may run out of memory
abbrev pub tree_takes_memory : TreeCommand → Bool
tree_takes_memory Do.On = true
tree_takes_memory Do.Snap = true
tree_takes_memory command = false

-- ---- a line

-- what a line asks for; its bytes are those before its LF or the trace's end
abbrev pub reading_of_tree : List ℕ → Result (Option TreeCommand) Kind
reading_of_tree line = reading_by tree_command_of line

abbrev pub sort_of_tree : List ℕ → Sort
sort_of_tree line = sort_of_reading (reading_of_tree line)
