-- A line by its digits, alone in a text or behind other words.
use Rattle.std.proofs.Common.{◌≡◌, ◌∙◌, ◌+◌, ◌*◌, ◌/◌, ◌%◌, ◌<◌, ℕ, true, List, [], ◌∷◌, length, drop, get_or, refl, sym, ap, arith}
use Rattle.std.specs.Prelude.{Some, Result, Ok, Err}
use Rattle.std.specs.List.{AllPass, list_all}
use Rattle.std.proofs.lemmas.Bool.Decides.{nat_tests}
use Rattle.std.proofs.lemmas.List.Sums.{AllPass-from_list_all}
use Rattle.hex.specs.declared.error.FromHexError.{FromHexError}
use Rattle.hex.specs.Hex.{is_hex_digit, hex_digit_value, decode_sized}
use Rattle.pmem_base.specs.declared.lines.Line.{Line}
use Rattle.pmem_base.specs.declared.commands.Kind.{Kind}
use Rattle.pmem_base.specs.declared.commands.Kind.TheVariants.{Count}
use Rattle.pmem_base.specs.Lines.{line_of}
use Rattle.collision_witness.specs.Words.{Word, is_gap, words_of, number_of, bytes_decoded, hex_bytes, hex_line, ◌>>=◌}
use Rattle.collision_witness.proofs.WordLemmas.{words_of-gap}
use Rattle.collision_witness.proofs.Sentences.{IsSolid, words_of-sentence}
use Rattle.plain_model.specs.Grammar.{post_values, poke_values}
use Rattle.plain_model.specs.Words.{port_of}
use Rattle.trace_text.specs.Lines.{one_line}

pub digit_spelled : (c : ℕ) → is_hex_digit c ≡ true → hex_digit_value c ≡ Some (c % 16 + c / 64 * 9)
digit_spelled c digit = grind (arith, nat_tests)

pub digit_small : (c : ℕ) → is_hex_digit c ≡ true → c % 16 + c / 64 * 9 < 16
digit_small c digit = grind (arith, nat_tests)

digit_above : (c : ℕ) → is_hex_digit c ≡ true → 32 < c
digit_above c digit = grind (arith, nat_tests)

digits-solid : (word : Word) → 0 < length word → AllPass is_hex_digit word → IsSolid word
digits-solid word some all = record { some = some; above = λ k d h. digit_above (get_or word k d) (all k d h) }

-- behind a space
pub line_alone : (text word : List ℕ) (line : Line) → length text ≡ 129 → get_or text 0 0 ≡ 32 → word ≡ drop 1 text
    → list_all is_hex_digit word ≡ true → hex_line word ≡ Ok line → one_line (words_of text) ≡ Ok line
line_alone [] word line long gap is all read = absurd (omega (arith, long))
line_alone (b ∷ rest) word line long gap is all read =
    let same : length word ≡ length rest = ap length is in
    let solid = digits-solid word (omega (arith, long, same)) (AllPass-from_list_all is_hex_digit word all) in
    let words : words_of (b ∷ rest) ≡ word ∷ [] =
    words_of-gap b rest (ap is_gap gap) ∙ ap words_of (sym is) ∙ words_of-sentence word [] solid tt in
    rw words read

-- ---- a fault of count comes before those of the other words

abbrev pub posted : ℕ → Word → Word → Result Line Kind → Result (ℕ × ℕ × Line) Kind
posted most port at (Err Count) = Err Count
posted most port at read = do
  port ← port_of most port
  at ← number_of at
  line ← read
  Ok (port, at, line)

posted-decoded : (most : ℕ) (port at : Word) (r : Result (List ℕ) FromHexError)
    → (do
      port ← port_of most port
      at ← number_of at
      line ← (do
        bytes ← bytes_decoded r
        Ok (line_of bytes))
      Ok (port, at, line))
    ≡ posted most port at (do
      bytes ← bytes_decoded r
      Ok (line_of bytes))
posted-decoded most port at (Ok bytes) = refl
posted-decoded most port at (Err e) = refl

pub post_by_line : (most : ℕ) (port at : Word) (words : List Word)
    → post_values most (port ∷ at ∷ words) ≡ posted most port at (one_line words)
unfolding hex_bytes
post_by_line most port at [] = refl
post_by_line most port at (word ∷ []) = posted-decoded most port at (decode_sized word 64)
post_by_line most port at (word ∷ next ∷ words) = refl

abbrev pub poked : Word → Result Line Kind → Result (ℕ × Line) Kind
poked at (Err Count) = Err Count
poked at read = do
  at ← number_of at
  line ← read
  Ok (at, line)

poked-decoded : (at : Word) (r : Result (List ℕ) FromHexError)
    → (do
      at ← number_of at
      line ← (do
        bytes ← bytes_decoded r
        Ok (line_of bytes))
      Ok (at, line))
    ≡ poked at (do
      bytes ← bytes_decoded r
      Ok (line_of bytes))
poked-decoded at (Ok bytes) = refl
poked-decoded at (Err e) = refl

pub poke_by_line : (at : Word) (words : List Word) → poke_values (at ∷ words) ≡ poked at (one_line words)
unfolding hex_bytes
poke_by_line at [] = refl
poke_by_line at (word ∷ []) = poked-decoded at (decode_sized word 64)
poke_by_line at (word ∷ next ∷ words) = refl
