-- The grammar of exhibit lines: what one line shows.
use Rattle.std.specs.Prelude.{ℕ, ◌-◌, ◌^◌, ◌==◌, nat_lt, Bool, List, [], ◌∷◌, length, codes, Result, Ok, Err, if◌then◌else◌}
use Rattle.std.specs.List.{slice_split}
use Rattle.std.specs.Str.{bytes_eq}
use Rattle.pmem_base.specs.declared.lines.Ctr.{Ctr}
use Rattle.pmem_base.specs.declared.commands.Kind.{Kind}
use Rattle.pmem_base.specs.declared.answers.Exhibit.{Exhibit}
use Rattle.pmem_base.specs.declared.answers.Exhibit.TheVariants.{Clash, Forged, Twin}
use Rattle.collision_witness.specs.Words.{Word, words_of, without_return, three_words, four_words, six_words, number_of, number_up_to, hex_bytes, hex_line, ◌>>=◌}

-- a dot
abbrev pub is_dot : ℕ → Bool
is_dot byte = byte == 46

-- a counter: two numbers with a dot between, the second at most 127
abbrev pub counter_of_parts : List Word → Result Ctr Kind
counter_of_parts (first ∷ second ∷ []) = do
  major ← number_of first
  minor ← number_up_to 127 second
  Ok (record { major = major; minor = minor })
counter_of_parts parts = Err Kind.Number

unfoldable pub counter_of_word : Word → Result Ctr Kind
counter_of_word word = counter_of_parts (slice_split is_dot word)

-- a line number or a position
abbrev pub short_number_of : Word → Result ℕ Kind
short_number_of word = number_up_to (2 ^ 32 - 1) word

abbrev pub clash_of : List Word → Result Exhibit Kind
clash_of words = do
  found ← three_words words
  x ← short_number_of found.0
  first ← hex_line found.1
  second ← hex_line found.2
  Ok (Clash x first second)

abbrev pub forged_of : List Word → Result Exhibit Kind
forged_of words = do
  found ← four_words words
  at ← short_number_of found.0
  ctr ← counter_of_word found.1
  cipher ← hex_line found.2
  tag ← hex_bytes 16 found.3
  Ok (Forged at ctr cipher tag)

abbrev pub twin_of : List Word → Result Exhibit Kind
twin_of words = do
  found ← six_words words
  at ← short_number_of found.0
  major ← number_of found.1
  low ← number_up_to 127 found.2
  high ← number_up_to 127 found.3
  cipher ← hex_line found.4
  tag ← hex_bytes 16 found.5
  Ok (Twin at major low high cipher tag)

unfoldable pub exhibit_of_words : List Word → Result Exhibit Kind
exhibit_of_words [] = Err Kind.Word
exhibit_of_words (name ∷ words) =
    if bytes_eq name (codes "clash") then clash_of words
    else if bytes_eq name (codes "forged") then forged_of words
    else if bytes_eq name (codes "twin") then twin_of words
    else Err Kind.Word

-- what an exhibit line shows, or the kind of its fault; its bytes are those before its LF
unfoldable pub exhibit_of_line : List ℕ → Result Exhibit Kind
exhibit_of_line line =
    if nat_lt 1024 (length line) then Err Kind.Long
    else exhibit_of_words (words_of (without_return line))
