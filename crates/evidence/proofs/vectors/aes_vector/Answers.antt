use Rattle.std.proofs.Common.{refl}
use Rattle.aes_block.specs.Field.{times_x, product_of_terms, product, inverse, affine, sub_byte}
use Rattle.aes_block.specs.Cipher.{xor_with, sub_bytes, shift_rows, mixed_cell, mix_columns, temporary, with_next_word, expanded_key, round_key, after_rounds, aes128_under, aes128_of}
use Rattle.evidence.proofs.vectors.aes_vector.Goals as goal

pub returns : goal.returns
unfolding times_x product_of_terms product inverse affine sub_byte xor_with sub_bytes shift_rows mixed_cell mix_columns temporary with_next_word expanded_key round_key after_rounds aes128_under aes128_of
returns c = refl
