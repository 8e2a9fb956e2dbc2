use Rattle.std.proofs.Common.{◌∙◌, ap, arith, length}
use Rattle.collision_witness.specs.Reading.{exhibit_of_line}
use Rattle.collision_witness.proofs.ReadBack.{shown-read_back}
use Rattle.collision_witness.proofs.writing.shown_text.Goals as goal

pub returns-clause-read_back : goal.returns-clause-read_back
returns-clause-read_back c range =
    let text = c.push_shown.ensures.text in
    let short = ap length text in
    ap exhibit_of_line text ∙ shown-read_back c.args.shown.now range (omega (arith, short, c.push_shown.ensures.length))
