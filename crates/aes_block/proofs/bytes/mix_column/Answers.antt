use Rattle.aes_block.specs.Cipher.{mixed_cell}
use Rattle.aes_block.proofs.FieldLemmas.{product-one, product-two, product-three}
use Rattle.aes_block.proofs.bytes.mix_column.Goals as goal

pub returns : goal.returns
unfolding mixed_cell
returns c =
    simp (
      product-one,
      product-two,
      product-three,
      c.times_x-twice_a.ensures,
      c.times_x-twice_b.ensures,
      c.times_x-twice_c.ensures,
      c.times_x-twice_d.ensures,
    )
