-- A line's bytes are folded by four rows that are combined.
use Rattle.suite.proofs.FoldLemmas.{fold_rows}
use Rattle.suite.proofs.weak.folded_line.Goals as goal

pub returns : goal.returns
returns c = fold_rows c.args.start c.args.line.now.0 c.is_whole.ensures.long
