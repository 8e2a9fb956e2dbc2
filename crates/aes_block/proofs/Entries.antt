-- The tables, entry by entry.
use Rattle.std.proofs.Common.{◌≡◌, ℕ, ◌<◌, List, [], map, slice_index, get_or, length, refl, sym, ◌∙◌, ap, arith}
use Rattle.std.specs.List.{range_with_len}
use Rattle.std.proofs.lemmas.List.FromFn.{get_or-map-range_with_len}
use Rattle.std.specs.Int.{w32, to_be_bytes}
use Rattle.std.proofs.lemmas.List.{get_or-map}
use Rattle.aes_block.specs.Cipher.{mix_factor}
use Rattle.aes_block.specs.Field.{times_x, product_of_terms, product, inverse, affine, sub_byte}
use Rattle.aes_block.specs.declared.tables.TheConstants.{S_BOX, FIRST_ROW, SECOND_ROW, THIRD_ROW, FOURTH_ROW}

-- the table is that of the definition
map-sub_byte : S_BOX ≡ map sub_byte (range_with_len 0 256)
unfolding sub_byte inverse affine product product_of_terms times_x
map-sub_byte = refl

pub S_BOX-at : (b : ℕ) → b < 256 → slice_index S_BOX b ≡ sub_byte b
S_BOX-at b below =
    ap (λ t. slice_index t b) map-sub_byte ∙ get_or-map-range_with_len sub_byte 0 256 b b 0 below (omega arith)

-- ---- the tables of the rows

-- what a byte of this row gives to its column
abbrev pub column : ℕ → ℕ → List ℕ
column row byte = map (λ r. product (mix_factor r row) byte) (range_with_len 0 4)

from_table : (table : List ℕ) (row b : ℕ) → map (to_be_bytes w32) table ≡ map (column row) S_BOX →
    length table ≡ 256 → b < 256 → to_be_bytes w32 (slice_index table b) ≡ column row (sub_byte b)
from_table table row b same len below =
    sym (get_or-map (to_be_bytes w32) table b 0 [] (omega arith))
    ∙ ap (λ t. get_or t b []) same
    ∙ get_or-map (column row) S_BOX b 0 [] below
    ∙ ap (column row) (S_BOX-at b below)

map-first : map (to_be_bytes w32) FIRST_ROW ≡ map (column 0) S_BOX
unfolding product product_of_terms times_x
map-first = refl

map-second : map (to_be_bytes w32) SECOND_ROW ≡ map (column 1) S_BOX
unfolding product product_of_terms times_x
map-second = refl

map-third : map (to_be_bytes w32) THIRD_ROW ≡ map (column 2) S_BOX
unfolding product product_of_terms times_x
map-third = refl

map-fourth : map (to_be_bytes w32) FOURTH_ROW ≡ map (column 3) S_BOX
unfolding product product_of_terms times_x
map-fourth = refl

pub FIRST_ROW-at : (b : ℕ) → b < 256 → to_be_bytes w32 (slice_index FIRST_ROW b) ≡ column 0 (sub_byte b)
FIRST_ROW-at b below = from_table FIRST_ROW 0 b map-first refl below

pub SECOND_ROW-at : (b : ℕ) → b < 256 → to_be_bytes w32 (slice_index SECOND_ROW b) ≡ column 1 (sub_byte b)
SECOND_ROW-at b below = from_table SECOND_ROW 1 b map-second refl below

pub THIRD_ROW-at : (b : ℕ) → b < 256 → to_be_bytes w32 (slice_index THIRD_ROW b) ≡ column 2 (sub_byte b)
THIRD_ROW-at b below = from_table THIRD_ROW 2 b map-third refl below

pub FOURTH_ROW-at : (b : ℕ) → b < 256 → to_be_bytes w32 (slice_index FOURTH_ROW b) ≡ column 3 (sub_byte b)
FOURTH_ROW-at b below = from_table FOURTH_ROW 3 b map-fourth refl below
