use Rattle.std.proofs.Common.{rules, arith, ◌≡◌, length, ◌∙◌, sym}
use Rattle.std.proofs.lemmas.List.{ext_get_or}
use Rattle.aes_block.specs.Cipher.{xor_with}
use Rattle.aes_block.proofs.ListLemmas.{length-xor_with, get_or-xor_with}
use Rattle.aes_block.proofs.bytes.add_round_key.Goals as goal

pub returns : goal.returns
returns c =
    let start : length c.args.state.now ≡ 16 = search rules in
    let key : length c.args.key.now ≡ 16 = search rules in
    ext_get_or 0 c.loop-i.state (xor_with c.args.state.now c.args.key.now)
    (omega (arith, length-xor_with c.args.state.now c.args.key.now))
    (λ i below.
    c.loop-i.invariant.done i (omega arith)
    ∙ sym (get_or-xor_with c.args.state.now c.args.key.now i (omega arith) (omega arith)))
