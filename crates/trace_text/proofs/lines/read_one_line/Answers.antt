use Rattle.std.proofs.Common.{◌∙◌, sym}
use Rattle.trace_text.proofs.LineLemmas.{line_alone}
use Rattle.trace_text.proofs.lines.read_one_line.Goals as goal

pub returns-then-are_digits : goal.returns-then-are_digits
returns-then-are_digits c =
    sym (line_alone c.args.text.now c.split_at.result.1.now c.line_of_digits.result c.if-text-eq129.true c.if-text-eq32.true
    c.split_at.ensures.back (sym c.are_digits.ensures ∙ c.if-are_digits.true) c.line_of_digits.ensures)
