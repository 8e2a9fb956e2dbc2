-- The bytes before and behind the part stay 0.
use Rattle.std.proofs.Common.{◌≡◌, ◌+◌, ◌-◌, length, take, drop, replicate, ap, ◌∙◌, arith, rules}
use Rattle.std.proofs.lemmas.List.{take-replicate, drop-replicate}
use Rattle.std.proofs.lemmas.Slice.{take-put_mid_below, drop-put_mid}
use Rattle.pmem_base.specs.declared.lines.Line.{Line}
use Rattle.pmem_base.specs.Lines.{zero_line}
use Rattle.pmem_base.proofs.LineLemmas.{IsLine-zero_line}
use Rattle.tests_hostile.proofs.tests.chips.part.Goals as goal

pub returns-clause-posted : goal.returns-clause-posted
unfolding zero_line
returns-clause-posted c =
    let blank = c.default-line.result.0 in
    let zeros : blank ≡ replicate 64 0 = ap (λ (line : Line). line.0) c.default-line.ensures in
    let long : length blank ≡ 64 = ap (λ (line : Line). length line.0) c.default-line.ensures ∙ IsLine-zero_line.long in
    let start = c.from-start.result in
    let count = start + c.from.result - start in
    let filled = c.fill.new.self in
    let size : length filled ≡ count = search rules in
    record {
      at_range = omega arith;
      some_bytes = c.requires.some;
      inside = c.requires.inside;
      line_range = c.is_whole.ensures;
      zero_before =
          take-put_mid_below start count blank filled c.args.from (omega arith) (omega arith)
          ∙ ap (take c.args.from) zeros ∙ take-replicate c.args.from 64 0 (omega arith);
      zero_after =
          drop-put_mid start count blank filled (c.args.from + c.args.len) (omega arith) (omega arith) size
          ∙ ap (drop (c.args.from + c.args.len)) zeros ∙ drop-replicate (c.args.from + c.args.len) 64 0;
    }
