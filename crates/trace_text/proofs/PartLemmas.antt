-- The bytes of a part of a line.
use Rattle.std.proofs.Common.{◌≡◌, ◌∙◌, ◌-◌, ◌/◌, ◌≤◌, ℕ, List, ◌++◌, length, drop, replicate, refl, sym, ap, arith, le-leb}
use Rattle.std.specs.Prelude.{Result, Ok, Err, MatchResult}
use Rattle.std.proofs.Math.Seq.{drop-append_seam}
use Rattle.std.proofs.lemmas.List.{drop-replicate}
use Rattle.hex.specs.declared.error.FromHexError.{FromHexError}
use Rattle.hex.specs.Hex.{decode_sized}
use Rattle.hex.proofs.HexLemmas.{decode_sized-ok, decode_sized-twice, decode_of-ok}
use Rattle.pmem_base.specs.declared.lines.Line.{Line}
use Rattle.pmem_base.specs.declared.commands.Kind.{Kind}
use Rattle.pmem_base.specs.Lines.{line_of, IsLine}
use Rattle.pmem_base.specs.Ranges.{IsPartLine}
use Rattle.collision_witness.specs.Words.{Word, bytes_decoded, hex_bytes, some_hex_bytes, ◌>>=◌}
use Rattle.plain_model.specs.Grammar.{padded_line, part_of}
use Rattle.trace_text.specs.Commands.{line_at_front}

-- n pairs of digits are n bytes
decoded-long : (word : Word) (n : ℕ) (bytes : List ℕ) → decode_sized word n ≡ Ok bytes → length bytes ≡ n
decoded-long word n bytes read =
    let twice = decode_sized-ok word n bytes read in
    let parts = decode_of-ok word bytes (sym (decode_sized-twice word n twice) ∙ read) in
    omega (arith, twice, parts.2)

-- what a call decoded
decoded : (word front : List ℕ) (n : ℕ) (r : Result Unit FromHexError)
    → MatchResult (decode_sized word n) (λ bytes. (r ≡ Ok tt) × (front ≡ bytes)) (λ e. r ≡ Err e)
    → r ≡ Ok tt → decode_sized word n ≡ Ok front
decoded word front n r told ok = elim (decode_sized word n) as (λ d. MatchResult d (λ bytes. (r ≡ Ok tt) × (front ≡ bytes)) (λ e. r ≡ Err e) → d ≡ Ok front) [
  | Ok bytes ↦ λ same. ap Ok (sym same.1)
  | Err e ↦ λ failed. cc
] told

-- the bytes at the front, and zeros after them
pub front_line : (word front back : List ℕ) (n : ℕ) (r : Result Unit FromHexError)
    → MatchResult (decode_sized word n) (λ bytes. (r ≡ Ok tt) × (front ≡ bytes)) (λ e. r ≡ Err e)
    → r ≡ Ok tt → back ≡ drop n (replicate 64 0) → Ok (line_of (front ++ back)) ≡ line_at_front n word
unfolding hex_bytes
front_line word front back n r told ok rest =
    let read = decoded word front n r told ok in
    let long : length front ≡ n = decoded-long word n front read in
    let zeros : back ≡ replicate (64 - length front) 0 = rest ∙ drop-replicate n 64 0 ∙ ap (λ m. replicate (64 - m) 0) (sym long) in
    rw read (ap (λ l. Ok (line_of (front ++ l))) zeros)

-- it is a part of a line
pub front_part : (front back : List ℕ) (n : ℕ) → length front ≡ n → n ≤ 64 → back ≡ drop n (replicate 64 0) → IsLine (line_of (front ++ back)) → 1 ≤ n
    → IsPartLine n (line_of (front ++ back))
front_part front back n long fits rest whole some = record {
  some_bytes = some;
  inside = fits;
  line_range = whole;
  zero_after = rw (← long) (drop-append_seam front back) ∙ rest ∙ drop-replicate n 64 0;
}

abbrev part_at : ℕ → Line → Result (ℕ × Line) Kind
part_at n line = Ok (n, line)

part_of_decoded : (word : Word) (n : ℕ) (line : Line) (d : Result (List ℕ) FromHexError) → decode_sized word n ≡ d
    → Ok line ≡ (bytes_decoded d >>= λ bytes. Ok (padded_line bytes))
    → part_at n line ≡ (bytes_decoded d >>= λ bytes. part_at (length bytes) (padded_line bytes))
part_of_decoded word n line (Ok bytes) read same = let long = decoded-long word n bytes read in cc
part_of_decoded word n line (Err e) read same = cc

-- two to 128 digits are read by pairs
pub part_read : (word : Word) (line : Line) → 2 ≤ length word → length word ≤ 128
    → Ok line ≡ line_at_front (length word / 2) word → part_at (length word / 2) line ≡ part_of word
unfolding hex_bytes some_hex_bytes
part_read word line some most read =
    rw (le-leb 2 (length word) some, le-leb (length word) 128 most)
    (part_of_decoded word (length word / 2) line (decode_sized word (length word / 2)) refl read)
