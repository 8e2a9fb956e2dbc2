-- Each turn copies one block in behind the others.
use Rattle.std.proofs.Common.{rules, arith, ◌≡◌, ◌+◌, ◌*◌, ◌++◌, take, drop, length, ap, ◌∙◌}
use Rattle.aes_block.specs.Cipher.{aes128_of}
use Rattle.suite.specs.Aes.{pad_input}
use Rattle.suite.proofs.AesLemmas.{blocks_copied}
use Rattle.suite.proofs.aes.four_blocks.Goals as goal

pub loop-j-preserved : goal.loop-j-preserved
loop-j-preserved c =
    let cipher = c.args.cipher.now in
    let line = c.loop-j.pad.0 in
    let j = c.loop-j.j in
    let part = c.encrypt_fast-block.result in
    let new = c.copy_to.new.out in
    let part-long : length part ≡ 16 = search rules in
    let is-new : new ≡ take (16 * j) line ++ part ++ drop (16 * j + 16) line =
    c.copy_to.ensures ∙ ap (λ n. take (16 * n) line ++ part ++ drop (16 * n + 16) line) c.from.ensures in
    record {
      long = c.copy_to.auto.out ∙ c.loop-j.invariant.long;
      done =
          blocks_copied (λ k. aes128_of cipher (pad_input c.args.at c.args.ctr k)) line part new j
          c.loop-j.invariant.long (omega arith) part-long
          (c.encrypt_fast-block.ensures ∙ ap (aes128_of cipher) c.pad_input.ensures) c.loop-j.invariant.done is-new;
    }
