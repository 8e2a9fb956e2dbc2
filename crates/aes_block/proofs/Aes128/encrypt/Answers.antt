use Rattle.std.proofs.Common.{refl, ◌∙◌, ap, arith}
use Rattle.aes_block.specs.Cipher.{after_rounds, xor_with}
use Rattle.aes_block.specs.Words.{bytes_of}
use Rattle.aes_block.proofs.CipherLemmas.{after_rounds-more, after_rounds-last}
use Rattle.aes_block.proofs.Aes128.encrypt.Goals as goal

pub loop-round-init : goal.loop-round-init
unfolding after_rounds
loop-round-init c = c.add_round_key.ensures ∙ ap (xor_with c.args.block.now) c.round_key.ensures

pub loop-round-preserved : goal.loop-round-preserved
loop-round-preserved c =
    after_rounds-more (bytes_of c.self.inside.words) c.args.block.now c.loop-round.round c.loop-round.state _ (omega arith)
    c.loop-round.invariant
    (rw (
      c.add_round_key-in-loop-round.ensures,
      c.mix_columns-state.ensures,
      c.shift_rows.ensures,
      c.sub_bytes.ensures,
      c.round_key-in-loop-round.ensures,
    )
    refl)

pub returns : goal.returns
returns c =
    rw (← c.self.view_is)
    (after_rounds-last _ (bytes_of c.self.inside.words) c.args.block.now c.loop-round.round c.loop-round.state _
    c.self.invariant.expanded (omega arith) c.loop-round.invariant
    (rw (c.add_round_key-2.ensures, c.shift_rows-state.ensures, c.sub_bytes-2.ensures, c.round_key-2.ensures) refl))
