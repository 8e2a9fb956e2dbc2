use Rattle.std.proofs.Common.{◌≡◌, ◌∙◌, ◌*◌, refl, arith}
use Rattle.std.specs.Prelude.{Ok}
use Rattle.std.proofs.lemmas.List.{length-set}
use Rattle.hex.specs.Hex.{decode_sized}
use Rattle.hex.proofs.Pairs.{decode_step, decode_done, decode_sized-pairs}
use Rattle.collision_witness.specs.Words.{hex_bytes}
use Rattle.trace_text.proofs.lines.line_of_digits.Goals as goal

pub loop-i-preserved : goal.loop-i-preserved
loop-i-preserved c = record {
  long = length-set _ _ _ ∙ c.loop-i.invariant.long;
  decoded = decode_step _ _ c.loop-i.i _ (omega arith) (omega arith) (c.byte_of.ensures (2 * c.loop-i.i)) c.loop-i.invariant.decoded;
}

pub returns : goal.returns
unfolding hex_bytes
returns c =
    let decoded : decode_sized c.args.word.now 64 ≡ Ok c.loop-i.bytes =
    decode_sized-pairs c.args.word.now 64 (omega arith) (omega arith)
    ∙ decode_done _ c.loop-i.bytes c.loop-i.i (omega arith) (omega arith) c.loop-i.invariant.decoded in
    rw decoded refl
