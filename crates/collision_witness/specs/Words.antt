-- Words of a line, and the numbers and hex digits that they spell.
use Rattle.std.specs.Prelude.{ℕ, ◌-◌, ◌/◌, ◌^◌, ◌==◌, nat_lt, nat_le, Bool, ◌&&◌, ◌||◌, List, [], ◌∷◌, length, filter, take, slice_index, Result, Ok, Err, if◌then◌else◌}
use Rattle.std.specs.List.{list_all, slice_split}
use Rattle.std.specs.Char.{is_ascii_digit}
use Rattle.std.specs.Str.Parse.{digits_value}
use Rattle.pmem_base.specs.declared.lines.Line.{Line}
use Rattle.pmem_base.specs.declared.commands.Kind.{Kind}
use Rattle.pmem_base.specs.Lines.{line_of}
use Rattle.hex.specs.declared.error.FromHexError.{FromHexError}
use Rattle.hex.specs.Hex.{decode_sized}

abbrev pub Word : Type 0
Word = List ℕ

-- a space or a tab
abbrev pub is_gap : ℕ → Bool
is_gap byte = (byte == 32) || (byte == 9)

abbrev pub has_a_byte : Word → Bool
has_a_byte word = nat_lt 0 (length word)

-- the line without one CR at its end
unfoldable pub without_return : List ℕ → List ℕ
without_return line =
    if slice_index line (length line - 1) == 13 then take (length line - 1) line else line

-- the words of a line: what stands between gaps
unfoldable pub words_of : List ℕ → List Word
words_of line = filter has_a_byte (slice_split is_gap line)

-- the value, or what a faulty word is refused with; so the first fault from the left decides
infixl 10 ◌>>=◌
abbrev pub ◌>>=◌ : {A B : Type 0} → Result A Kind → (A → Result B Kind) → Result B Kind
(Ok value) >>= next = next value
(Err kind) >>= next = Err kind

-- ---- that many words, no fewer and no more

abbrev pub no_word : List Word → Result (List Word) Kind
no_word [] = Ok []
no_word words = Err Kind.Count

abbrev pub one_word : List Word → Result Word Kind
one_word (word ∷ []) = Ok word
one_word words = Err Kind.Count

abbrev pub two_words : List Word → Result (Word × Word) Kind
two_words (first ∷ second ∷ []) = Ok (first, second)
two_words words = Err Kind.Count

abbrev pub three_words : List Word → Result (Word × Word × Word) Kind
three_words (first ∷ second ∷ third ∷ []) = Ok (first, second, third)
three_words words = Err Kind.Count

abbrev pub four_words : List Word → Result (Word × Word × Word × Word) Kind
four_words (first ∷ second ∷ third ∷ fourth ∷ []) = Ok (first, second, third, fourth)
four_words words = Err Kind.Count

abbrev pub six_words : List Word → Result (Word × Word × Word × Word × Word × Word) Kind
six_words (first ∷ second ∷ third ∷ fourth ∷ fifth ∷ sixth ∷ []) =
    Ok (first, second, third, fourth, fifth, sixth)
six_words words = Err Kind.Count

-- ---- numbers

-- 1 to 20 decimal digits
abbrev pub is_numeral : Word → Bool
is_numeral word = nat_le 1 (length word) && nat_le (length word) 20 && list_all is_ascii_digit word

-- a number is a numeral of at most this value
unfoldable pub number_up_to : ℕ → Word → Result ℕ Kind
number_up_to most word =
    if is_numeral word && nat_le (digits_value 10 word) most
    then Ok (digits_value 10 word)
    else Err Kind.Number

abbrev pub number_of : Word → Result ℕ Kind
number_of word = number_up_to (2 ^ 64 - 1) word

-- ---- hex

abbrev pub bytes_decoded : Result (List ℕ) FromHexError → Result (List ℕ) Kind
bytes_decoded (Ok bytes) = Ok bytes
bytes_decoded (Err error) = Err Kind.Hex

-- exactly 2n hex digits, in either case, as n bytes
unfoldable pub hex_bytes : ℕ → Word → Result (List ℕ) Kind
hex_bytes n word = bytes_decoded (decode_sized word n)

-- 2 to 128 hex digits, an even number
unfoldable pub some_hex_bytes : Word → Result (List ℕ) Kind
some_hex_bytes word =
    if nat_le 2 (length word) && nat_le (length word) 128
    then hex_bytes (length word / 2) word
    else Err Kind.Hex

-- 64 bytes in hex
abbrev pub hex_line : Word → Result Line Kind
hex_line word = do
  bytes ← hex_bytes 64 word
  Ok (line_of bytes)
