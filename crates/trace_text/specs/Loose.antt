-- What an answer's line spells to a reader who lets zeros in front of numbers, hex digits in upper
-- case and any gaps through. A strict reader compares the line with the text of what it spells.
use Rattle.std.specs.Prelude.{ℕ, ◌-◌, ◌^◌, List, [], ◌∷◌, codes, Option, Some, None, Result, Ok, Err, if◌then◌else◌}
use Rattle.std.specs.Str.{bytes_eq}
use Rattle.pmem_base.specs.declared.commands.Kind.{Kind}
use Rattle.pmem_base.specs.declared.commands.Command.{Command}
use Rattle.pmem_base.specs.declared.commands.Command.TheVariants as Do
use Rattle.pmem_base.specs.declared.answers.Answer.{Answer}
use Rattle.pmem_base.specs.declared.answers.Answer.TheVariants as Say
use Rattle.pmem_base.specs.declared.answers.Place.{Place}
use Rattle.collision_witness.specs.Words.{Word, words_of, no_word, one_word, two_words, three_words, four_words, number_of, number_up_to, hex_bytes, hex_line, ◌>>=◌}
use Rattle.collision_witness.specs.Reading.{short_number_of, exhibit_of_line}
use Rattle.plain_model.specs.Grammar.{one_number}

-- what the value gives, or what another reading gives
abbrev pub or_else : {A B : Type 0} → Result A Kind → (A → Result B Kind) → Result B Kind → Result B Kind
or_else (Ok value) next other = next value
or_else (Err kind) next other = other

abbrev pub byte_of : Word → Result ℕ Kind
byte_of word = number_up_to 255 word

-- ---- numbers

-- a number up to a greatest one, and the steps
abbrev pub count_and_steps : ℕ → List Word → Result (ℕ × ℕ) Kind
count_and_steps most words = do
  found ← two_words words
  count ← number_up_to most found.0
  steps ← number_of found.1
  Ok (count, steps)

-- the steps, and before them how many writes were drained, if the answer tells it
abbrev pub drained_and_steps : List Word → Result (Option ℕ × ℕ) Kind
drained_and_steps words =
    or_else (count_and_steps 255 words)
    (λ found. Ok (Some found.0, found.1))
    (one_number words >>= λ steps. Ok (None, steps))

-- ---- the answers that begin with these words

abbrev pub lone_answer : Answer → List Word → Result Answer Kind
lone_answer answer words = do
  none ← no_word words
  Ok answer

-- `ok`
abbrev pub ok_of : Command → List Word → Result Answer Kind
ok_of (Do.Drain port) words = one_number words >>= λ steps. Ok (Say.Drained steps)
ok_of (Do.Fence port) words = count_and_steps 255 words >>= λ found. Ok (Say.Fenced found.0 found.1)
ok_of Do.Turn words = count_and_steps 255 words >>= λ found. Ok (Say.Turned found.0 found.1)
ok_of Do.Flush words = count_and_steps (2 ^ 32 - 1) words >>= λ found. Ok (Say.Flushed found.0 found.1)
ok_of (Do.Loss n) words = one_number words >>= λ steps. Ok (Say.LossSet steps)
ok_of command words = lone_answer Say.Ok words

-- `cut`
abbrev pub cut_of : List Word → Result Answer Kind
cut_of [] = Err Kind.Count
cut_of (name ∷ words) =
    if bytes_eq name (codes "kept")
    then (drained_and_steps words >>= λ found. Ok (Say.CutKept found.0 found.1))
    else if bytes_eq name (codes "lost")
    then (drained_and_steps words >>= λ found. Ok (Say.CutLost found.0 found.1))
    else (one_number (name ∷ words) >>= λ steps. Ok (Say.Cut steps))

-- a refusal by what it names
abbrev pub refusal_of : Option ℕ → Word → ℕ → ℕ → Result Answer Kind
refusal_of drained name at steps =
    if bytes_eq name (codes "data") then Ok (Say.Refused drained (Place.Line at) steps)
    else if bytes_eq name (codes "meta") then Ok (Say.Refused drained (Place.Meta at) steps)
    else if bytes_eq name (codes "counter") then Ok (Say.NoCounter at steps)
    else Err Kind.Word

-- what a refusal names, its number, and the steps
abbrev pub refused_at : Option ℕ → Word × Word × Word → Result Answer Kind
refused_at drained found = do
  at ← short_number_of found.1
  steps ← number_of found.2
  refusal_of drained found.0 at steps

abbrev pub wrong_root_of : Word × Word × Word → Result Answer Kind
wrong_root_of found = do
  kept ← hex_bytes 16 found.0
  other ← hex_bytes 16 found.1
  steps ← number_of found.2
  Ok (Say.WrongRoot kept other steps)

abbrev pub long_refusal : Word × Word × Word × Word → Result Answer Kind
long_refusal found =
    if bytes_eq found.0 (codes "root") then wrong_root_of (found.1, found.2, found.3)
    else (byte_of found.0 >>= λ drained. refused_at (Some drained) (found.1, found.2, found.3))

-- `refused`
abbrev pub refused_of : List Word → Result Answer Kind
refused_of words = or_else (three_words words) (refused_at None) (four_words words >>= long_refusal)

-- `spent`
abbrev pub spent_after : Option ℕ → Word × Word → Result Answer Kind
spent_after drained found = do
  page ← short_number_of found.0
  steps ← number_of found.1
  Ok (Say.Spent drained page steps)

abbrev pub spent_of : List Word → Result Answer Kind
spent_of words =
    or_else (two_words words) (spent_after None)
    (three_words words >>= λ found. byte_of found.0 >>= λ drained. spent_after (Some drained) (found.1, found.2))

-- `line`
abbrev pub got_of : List Word → Result Answer Kind
got_of words = do
  found ← two_words words
  line ← hex_line found.0
  steps ← number_of found.1
  Ok (Say.Got line steps)

-- `on`
abbrev pub recovered_of : List Word → Result Answer Kind
recovered_of words = do
  found ← three_words words
  trials ← number_of found.0
  digests ← number_of found.1
  steps ← number_of found.2
  Ok (Say.Recovered trials digests steps)

-- `raw`
abbrev pub raw_of : List Word → Result Answer Kind
raw_of words = do
  word ← one_word words
  line ← hex_line word
  Ok (Say.Raw line)

-- `stat`
abbrev pub stat_of : List Word → Result Answer Kind
stat_of [] = Err Kind.Count
stat_of (first ∷ words) = do
  found ← four_words words
  reads ← number_of first
  writes ← number_of found.0
  latches ← number_of found.1
  tags ← number_of found.2
  digests ← number_of found.3
  Ok (Say.Counts (record { reads = reads; writes = writes; latches = latches; tags = tags; digests = digests }))

-- a word that is an answer by itself and none of `full`, `empty`, `idle` and `clean`
abbrev pub later_plain_of : Word → Result Answer Kind
later_plain_of name =
    if bytes_eq name (codes "off") then Ok Say.Off
    else if bytes_eq name (codes "already") then Ok Say.Already
    else if bytes_eq name (codes "range") then Ok Say.Range
    else if bytes_eq name (codes "none") then Ok Say.NoSnap
    else Err Kind.Word

-- a word that is an answer by itself
abbrev pub plain_of : Word → Result Answer Kind
plain_of name =
    if bytes_eq name (codes "full") then Ok Say.Full
    else if bytes_eq name (codes "empty") then Ok Say.Empty
    else if bytes_eq name (codes "idle") then Ok Say.Idle
    else if bytes_eq name (codes "clean") then Ok Say.Clean
    else later_plain_of name

-- an exhibit's line
abbrev pub shown_of : List ℕ → Result Answer Kind
shown_of line = exhibit_of_line line >>= λ shown. Ok (Say.Shown shown)

-- ---- a line

-- by its first word, if that isn't `ok`, `cut`, `refused` or `spent`
abbrev pub later_answer_of : List ℕ → Word → List Word → Result Answer Kind
later_answer_of line name words =
    if bytes_eq name (codes "line") then got_of words
    else if bytes_eq name (codes "on") then recovered_of words
    else if bytes_eq name (codes "raw") then raw_of words
    else if bytes_eq name (codes "stat") then stat_of words
    else or_else (plain_of name) (λ answer. lone_answer answer words) (shown_of line)

unfoldable pub answer_of_words : Command → List ℕ → List Word → Result Answer Kind
answer_of_words command line [] = Err Kind.Word
answer_of_words command line (name ∷ words) =
    if bytes_eq name (codes "ok") then ok_of command words
    else if bytes_eq name (codes "cut") then cut_of words
    else if bytes_eq name (codes "refused") then refused_of words
    else if bytes_eq name (codes "spent") then spent_of words
    else later_answer_of line name words

-- the answer of a line
abbrev pub loose_answer_of : Command → List ℕ → Result Answer Kind
loose_answer_of command line = answer_of_words command line (words_of line)
