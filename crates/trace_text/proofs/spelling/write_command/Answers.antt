use Rattle.std.proofs.Common.{◌∙◌, ap, arith, length}
use Rattle.plain_model.specs.Grammar.{reading_of}
use Rattle.trace_text.proofs.CommandLemmas.{command-read_back}
use Rattle.trace_text.proofs.spelling.write_command.Goals as goal

pub returns-clause-read_back : goal.returns-clause-read_back
returns-clause-read_back c =
    let text = c.push_command.ensures.text in
    let short = ap length text in
    ap reading_of text ∙ command-read_back c.args.command.now c.is_in_range.ensures (omega (arith, short, c.push_command.ensures.length))
