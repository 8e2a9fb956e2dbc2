use Rattle.std.proofs.Common.{refl}
use Rattle.aes_block.specs.Cipher.{mixed_cell, mix_columns}
use Rattle.aes_block.proofs.bytes.mix_columns.Goals as goal

pub returns : goal.returns
unfolding mixed_cell mix_columns
returns c =
    rw
    (c.mix_column-first.ensures, c.mix_column-second.ensures, c.mix_column-third.ensures, c.mix_column-fourth.ensures)
    refl
