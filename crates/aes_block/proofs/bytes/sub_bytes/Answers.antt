use Rattle.std.proofs.Common.{rules, arith, ◌≡◌, length, ◌∙◌, sym, map}
use Rattle.std.proofs.lemmas.List.{ext_get_or, get_or-map, length-map}
use Rattle.aes_block.specs.Field.{sub_byte}
use Rattle.aes_block.specs.Cipher.{sub_bytes}
use Rattle.aes_block.proofs.bytes.sub_bytes.Goals as goal

pub returns : goal.returns
unfolding sub_bytes
returns c =
    let start : length c.args.state.now ≡ 16 = search rules in
    ext_get_or 0 c.loop-byte.state (map sub_byte c.args.state.now)
    (omega (arith, length-map c.args.state.now sub_byte))
    (λ i below.
    c.loop-byte.invariant.done i (omega arith)
    ∙ sym (get_or-map sub_byte c.args.state.now i 0 0 (omega arith)))
