-- The grammar of a levelled memory's session: what one line asks for.
use Rattle.std.specs.Prelude.{ℕ, List, [], ◌∷◌, codes, Option, Result}
use Rattle.pmem_base.specs.declared.commands.Kind.{Kind}
use Rattle.collision_witness.specs.Words.{Word}
use Rattle.plain_model.specs.Grammar.{alone, with_number}
use Rattle.trace_text.specs.Entries.{reading_by, sort_of_reading, with_number_and_line, command_by_verb}
use Rattle.wear_session.specs.declared.commands.WearCommand.{WearCommand}
use Rattle.wear_session.specs.declared.commands.WearCommand.TheVariants as Do
use Rattle.trace_text.specs.Talks.{Sort}

-- ---- the words of each command

-- the first words that begin a command
pub data WearVerb : Type 0 where
  write : WearVerb
  read : WearVerb
  place : WearVerb
  cut : WearVerb
  off : WearVerb
  on : WearVerb

-- all of them, as they are written
abbrev pub wear_verbs : List (Word × WearVerb)
wear_verbs =
    (codes "write", write) ∷ (codes "read", read) ∷ (codes "place", place) ∷ (codes "cut", cut)
    ∷ (codes "off", off) ∷ (codes "on", on) ∷ []

-- ---- the commands of these words

-- the command of a verb and its further words: the number of words first, then the first word from
-- the left that breaks its rule
abbrev pub wear_command_of_verb : WearVerb → List Word → Result WearCommand Kind
wear_command_of_verb write words = with_number_and_line Do.Write words
wear_command_of_verb read words = with_number Do.Read words
wear_command_of_verb place words = with_number Do.Place words
wear_command_of_verb cut words = with_number Do.Cut words
wear_command_of_verb off words = alone Do.Off words
wear_command_of_verb on words = alone Do.On words

-- the command of a first word and of those after it
unfoldable pub wear_command_of : Word → List Word → Result WearCommand Kind
wear_command_of name words = command_by_verb wear_command_of_verb wear_verbs name words

-- ---- a line

-- what a line asks for; its bytes are those before its LF or the trace's end
abbrev pub reading_of_wear : List ℕ → Result (Option WearCommand) Kind
reading_of_wear line = reading_by wear_command_of line

abbrev pub sort_of_wear : List ℕ → Sort
sort_of_wear line = sort_of_reading (reading_of_wear line)
