use Rattle.std.proofs.Common.{◌∙◌, ap, arith}
use Rattle.aes_block.specs.Cipher.{after_rounds, round_key, xor_with}
use Rattle.aes_block.specs.Words.{bytes_of}
use Rattle.aes_block.proofs.CipherLemmas.{after_rounds-more, after_rounds-last}
use Rattle.aes_block.proofs.Aes128.encrypt_fast.Goals as goal

pub loop-round-init : goal.loop-round-init
unfolding after_rounds
loop-round-init c =
    c.with_round_key-state.ensures
    ∙ ap (λ s. xor_with s (round_key (bytes_of c.self.inside.words) 0)) c.load.ensures

pub loop-round-preserved : goal.loop-round-preserved
loop-round-preserved c =
    after_rounds-more (bytes_of c.self.inside.words) c.args.block.now c.loop-round.round (bytes_of c.loop-round.state) _
    (omega arith) c.loop-round.invariant
    (c.with_round_key-state-in-loop-round.ensures
    ∙ ap (λ s. xor_with s (round_key (bytes_of c.self.inside.words) c.loop-round.round)) c.mixed.ensures)

pub returns : goal.returns
returns c =
    rw (← c.self.view_is)
    (after_rounds-last _ (bytes_of c.self.inside.words) c.args.block.now c.loop-round.round (bytes_of c.loop-round.state) _
    c.self.invariant.expanded (omega arith) c.loop-round.invariant
    (c.store.ensures
    ∙ c.with_round_key.ensures
    ∙ ap (λ s. xor_with s (round_key (bytes_of c.self.inside.words) 10)) c.shifted.ensures))
