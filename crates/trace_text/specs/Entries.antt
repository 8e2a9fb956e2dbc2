-- The first word of a line and those after it, for any grammar of commands.
use Rattle.std.specs.Prelude.{ℕ, nat_lt, List, [], ◌∷◌, length, find, Option, Some, None, Result, Ok, Err, if◌then◌else◌}
use Rattle.std.specs.Str.{bytes_eq}
use Rattle.pmem_base.specs.declared.commands.Kind.{Kind}
use Rattle.pmem_base.specs.declared.lines.Line.{Line}
use Rattle.collision_witness.specs.Words.{Word, words_of, without_return, ◌>>=◌}
use Rattle.plain_model.specs.Grammar.{is_comment, poke_values}
use Rattle.trace_text.specs.Talks.{Sort, skipped, asked, faulty}

abbrev pub Entry : Type 0
Entry = Word × List Word

-- a line without words is blank; blank and comment lines have none
abbrev pub entry_of_words : List Word → Option Entry
entry_of_words [] = None
entry_of_words (name ∷ words) = if is_comment name then None else Some (name, words)

unfoldable pub entry_of_line : List ℕ → Result (Option Entry) Kind
entry_of_line line =
    if nat_lt 1024 (length line) then Err Kind.Long
    else Ok (entry_of_words (words_of (without_return line)))

-- what a line's first word and those after it ask for: nothing if there are none
abbrev pub command_of_first_word : {C : Type 0} → (Word → List Word → Result C Kind) → Option Entry → Result (Option C) Kind
command_of_first_word command_of None = Ok None
command_of_first_word command_of (Some entry) = command_of entry.0 entry.1 >>= λ command. Ok (Some command)

-- what a line asks for, if a first word and those after it ask for a command
abbrev pub reading_by : {C : Type 0} → (Word → List Word → Result C Kind) → List ℕ → Result (Option C) Kind
reading_by command_of line = entry_of_line line >>= command_of_first_word command_of

-- what a line is to a grammar, by what it asks for
abbrev pub sort_of_reading : {C : Type 0} → Result (Option C) Kind → Sort
sort_of_reading (Ok None) = skipped
sort_of_reading (Ok (Some command)) = asked
sort_of_reading (Err kind) = faulty kind

-- ---- the words after the first one: how many first, then each from the left

abbrev pub with_number_and_line : {C : Type 0} → (ℕ → Line → C) → List Word → Result C Kind
with_number_and_line command words = do
  found ← poke_values words
  Ok (command found.0 found.1)

-- ---- the first word

-- the command of a verb that was found, and of the words after it
abbrev pub command_of_found : {C V : Type 0} → (V → List Word → Result C Kind) → Option (Word × V) → List Word → Result C Kind
command_of_found command_of None words = Err Kind.Word
command_of_found command_of (Some found) words = command_of found.1 words

-- the command of a first word, if it is one of these, and of the words after it
abbrev pub command_by_verb : {C V : Type 0} → (V → List Word → Result C Kind) → List (Word × V) → Word → List Word → Result C Kind
command_by_verb command_of verbs name words = command_of_found command_of (find (λ entry. bytes_eq name entry.0) verbs) words
