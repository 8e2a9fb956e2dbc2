use Rattle.std.proofs.Common.{rules, arith, ◌≡◌, length}
use Rattle.suite.proofs.CipherLemmas.{xor_lines-is}
use Rattle.suite.proofs.ciphers.xor_lines.Goals as goal

pub returns : goal.returns
returns c =
    let line = c.args.line.now in
    let pad = c.args.pad.now in
    let line-long : length line.0 ≡ 64 = search rules in
    let pad-long : length pad.0 ≡ 64 = search rules in
    xor_lines-is line pad c.loop-i.out line-long pad-long c.loop-i.invariant.long
    (λ k below. c.loop-i.invariant.done k (omega (arith, below)))
