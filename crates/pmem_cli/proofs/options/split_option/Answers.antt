use Rattle.std.proofs.Common.{◌<◌, length, arith}
use Rattle.pmem_cli.proofs.WordLemmas.{split-some}
use Rattle.pmem_cli.proofs.options.split_option.Goals as goal

pub returns : goal.returns
returns c =
    let cases = rw c.as_slice.ensures at c.in_ok-text.ensures.cases in
    let inside : c.equals_index-at.result < length c.in_ok-text.text.now = omega (arith, c.equals_index-at.ensures.within, c.if-at-text.false) in
    rw (c.split_at-2.ensures.back, c.split_at.ensures.back, c.split_at.ensures.front)
    (split-some c.args.word.now c.in_ok-text.text.now c.equals_index-at.result cases.0 cases.1 c.equals_index-at.ensures.count inside)
