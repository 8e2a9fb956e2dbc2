-- A whole line has all its bytes.
use Rattle.std.proofs.Common.{refl, arith}
use Rattle.std.proofs.lemmas.List.{drop_all}
use Rattle.pmem_replay.proofs.posting.whole_line.Goals as goal

pub returns-clause-posted : goal.returns-clause-posted
returns-clause-posted c =
    record {
      at_range = omega arith;
      some_bytes = omega arith;
      inside = omega arith;
      line_range = c.is_whole.ensures;
      zero_before = refl;
      zero_after = drop_all 64 c.args.line.now.0 (omega (arith, c.is_whole.ensures.long));
    }
