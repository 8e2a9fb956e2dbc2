use Rattle.std.proofs.Common.{◌≡◌, ◌∙◌, ◌<◌, ℕ, List, take, drop, length, map, nat_eq, sym, ap, arith, w8}
use Rattle.std.proofs.lemmas.Simd.{bitmask_splat, length-chunk, leading_from_mask_l, trailing_mask_l}
use lib.Count.{count_trailing_zeros}
use lib.Lanes.{mask_l}
use Rattle.plain_model.specs.Lines.{is_line_end}
use Rattle.pmem_cli.proofs.lines.length_within_lanes.Goals as goal

pub returns-then-ends-eq0 : goal.returns-then-ends-eq0
returns-then-ends-eq0 c =
    let v : List ℕ = take 16 (drop c.args.at c.args.bytes.now) in
    let long : length v ≡ 16 = length-chunk c.args.at 16 c.args.bytes.now c.requires in
    let none : mask_l (map is_line_end v) ≡ 0 = sym (bitmask_splat w8 nat_eq v 16 10 long (omega arith)) ∙ c.if-ends-eq0.true in
    sym (leading_from_mask_l is_line_end v none ∙ long)

pub returns-else-ends-eq0 : goal.returns-else-ends-eq0
returns-else-ends-eq0 c =
    let v : List ℕ = take 16 (drop c.args.at c.args.bytes.now) in
    let long : length v ≡ 16 = length-chunk c.args.at 16 c.args.bytes.now c.requires in
    let mask = bitmask_splat w8 nat_eq v 16 10 long (omega arith) in
    let some : 0 < mask_l (map is_line_end v) = omega (arith, mask, c.if-ends-eq0.false) in
    ap (count_trailing_zeros 64) mask ∙ trailing_mask_l is_line_end 64 v (omega arith) some
