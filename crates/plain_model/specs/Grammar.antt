-- The grammar of a trace: what one line asks for.
use Rattle.std.specs.Prelude.{ℕ, ◌-◌, ◌==◌, nat_lt, Bool, List, [], ◌∷◌, ◌++◌, length, replicate, find, slice_index, codes, Option, Some, None, Result, Ok, Err, if◌then◌else◌}
use Rattle.std.specs.Str.{bytes_eq}
use Rattle.pmem_base.specs.declared.lines.Line.{Line}
use Rattle.pmem_base.specs.declared.commands.Kind.{Kind}
use Rattle.pmem_base.specs.declared.commands.Command.{Command}
use Rattle.pmem_base.specs.declared.commands.Command.TheVariants as Do
use Rattle.pmem_base.specs.Lines.{line_of}
use Rattle.collision_witness.specs.Words.{Word, words_of, without_return, no_word, one_word, two_words, three_words, four_words, number_of, some_hex_bytes, hex_line, ◌>>=◌}
use Rattle.plain_model.specs.Words.{port_of, last_port}

-- what a line gives: a command, nothing if it is skipped, or the kind of its fault
abbrev pub Reading : Type 0
Reading = Result (Option Command) Kind

-- ---- the words of each command

-- the first words that begin a command
pub data Verb : Type 0 where
  post : Verb
  part : Verb
  drain : Verb
  fence : Verb
  read : Verb
  turn : Verb
  flush : Verb
  cut : Verb
  off : Verb
  on : Verb
  poke : Verb
  flip : Verb
  move : Verb
  snap : Verb
  back : Verb
  peek : Verb
  stat : Verb
  loss : Verb

-- all of them, as they are written
abbrev pub verbs : List (Word × Verb)
verbs =
    (codes "post", post) ∷ (codes "part", part) ∷ (codes "drain", drain) ∷ (codes "fence", fence)
    ∷ (codes "read", read) ∷ (codes "turn", turn) ∷ (codes "flush", flush) ∷ (codes "cut", cut)
    ∷ (codes "off", off) ∷ (codes "on", on) ∷ (codes "poke", poke) ∷ (codes "flip", flip)
    ∷ (codes "move", move) ∷ (codes "snap", snap) ∷ (codes "back", back) ∷ (codes "peek", peek)
    ∷ (codes "stat", stat) ∷ (codes "loss", loss) ∷ []

-- ---- the values that these words spell, if ports go up to a greatest one

-- the line with these bytes first, and zeros after them
abbrev pub padded_line : List ℕ → Line
padded_line bytes = line_of (bytes ++ replicate (64 - length bytes) 0)

-- one number and nothing else
abbrev pub one_number : List Word → Result ℕ Kind
one_number words = do
  word ← one_word words
  number_of word

abbrev pub two_numbers : List Word → Result (ℕ × ℕ) Kind
two_numbers words = do
  found ← two_words words
  first ← number_of found.0
  second ← number_of found.1
  Ok (first, second)

abbrev pub one_port : ℕ → List Word → Result ℕ Kind
one_port most words = do
  word ← one_word words
  port_of most word

-- how many bytes the digits of a part spell, and the line that has them at its beginning
abbrev pub part_of : Word → Result (ℕ × Line) Kind
part_of word = do
  bytes ← some_hex_bytes word
  Ok (length bytes, padded_line bytes)

-- a port and a number
abbrev pub read_values : ℕ → List Word → Result (ℕ × ℕ) Kind
read_values most words = do
  found ← two_words words
  port ← port_of most found.0
  at ← number_of found.1
  Ok (port, at)

-- a port, a number and a line
abbrev pub post_values : ℕ → List Word → Result (ℕ × ℕ × Line) Kind
post_values most words = do
  found ← three_words words
  port ← port_of most found.0
  at ← number_of found.1
  line ← hex_line found.2
  Ok (port, at, line)

-- a port, two numbers, and a part's count and line
abbrev pub part_values : ℕ → List Word → Result (ℕ × ℕ × ℕ × ℕ × Line) Kind
part_values most words = do
  found ← four_words words
  port ← port_of most found.0
  at ← number_of found.1
  from ← number_of found.2
  bytes ← part_of found.3
  Ok (port, at, from, bytes.0, bytes.1)

-- a number and a line
abbrev pub poke_values : List Word → Result (ℕ × Line) Kind
poke_values words = do
  found ← two_words words
  at ← number_of found.0
  line ← hex_line found.1
  Ok (at, line)

-- ---- the commands of these words

-- a command of no further word
abbrev pub alone : {C : Type 0} → C → List Word → Result C Kind
alone command words = do
  none ← no_word words
  Ok command

abbrev pub with_number : {C : Type 0} → (ℕ → C) → List Word → Result C Kind
with_number command words = do
  n ← one_number words
  Ok (command n)

abbrev pub with_port : ℕ → (ℕ → Command) → List Word → Result Command Kind
with_port most command words = do
  port ← one_port most words
  Ok (command port)

abbrev pub with_two_numbers : (ℕ → ℕ → Command) → List Word → Result Command Kind
with_two_numbers command words = do
  found ← two_numbers words
  Ok (command found.0 found.1)

abbrev pub read_with : ℕ → List Word → Result Command Kind
read_with most words = do
  found ← read_values most words
  Ok (Do.Read found.0 found.1)

abbrev pub post_with : ℕ → List Word → Result Command Kind
post_with most words = do
  found ← post_values most words
  Ok (Do.Post found.0 found.1 found.2)

abbrev pub part_with : ℕ → List Word → Result Command Kind
part_with most words = do
  found ← part_values most words
  Ok (Do.Part found.0 found.1 found.2 found.3 found.4)

abbrev pub poke_with : List Word → Result Command Kind
poke_with words = do
  found ← poke_values words
  Ok (Do.Poke found.0 found.1)

-- the command of a verb and its further words: the number of words first, then the first word from
-- the left that breaks its rule
unfoldable pub command_of : ℕ → Verb → List Word → Result Command Kind
command_of most post words = post_with most words
command_of most part words = part_with most words
command_of most drain words = with_port most Do.Drain words
command_of most fence words = with_port most Do.Fence words
command_of most read words = read_with most words
command_of most turn words = alone Do.Turn words
command_of most flush words = alone Do.Flush words
command_of most cut words = with_number Do.Cut words
command_of most off words = alone Do.Off words
command_of most on words = alone Do.On words
command_of most poke words = poke_with words
command_of most flip words = with_two_numbers Do.Flip words
command_of most move words = with_two_numbers Do.Move words
command_of most snap words = alone Do.Snap words
command_of most back words = with_number Do.Back words
command_of most peek words = with_number Do.Peek words
command_of most stat words = alone Do.Stat words
command_of most loss words = with_number Do.Loss words

-- ---- a line

abbrev pub command_of_entry : ℕ → Option (Word × Verb) → List Word → Result Command Kind
command_of_entry most None words = Err Kind.Word
command_of_entry most (Some entry) words = command_of most entry.1 words

-- the command of a first word, if it is one of these, and of those after it
unfoldable pub command_among : ℕ → List (Word × Verb) → Word → List Word → Result Command Kind
command_among most entries name words =
    command_of_entry most (find (λ entry. bytes_eq name entry.0) entries) words

-- a comment's first word begins with `#`
abbrev pub is_comment : Word → Bool
is_comment word = slice_index word 0 == 35

-- a line without words is blank; blank and comment lines are skipped
unfoldable pub reading_of_words : ℕ → List (Word × Verb) → List Word → Reading
reading_of_words most entries [] = Ok None
reading_of_words most entries (name ∷ words) =
    if is_comment name then Ok None
    else (command_among most entries name words >>= λ command. Ok (Some command))

-- what a line asks for among these verbs and ports up to a greatest one; its bytes are those before
-- its LF or the trace's end
unfoldable pub reading_among : ℕ → List (Word × Verb) → List ℕ → Reading
reading_among most entries line =
    if nat_lt 1024 (length line) then Err Kind.Long
    else reading_of_words most entries (words_of (without_return line))

-- what a line of a trace asks for
abbrev pub reading_of : List ℕ → Reading
reading_of line = reading_among last_port verbs line
