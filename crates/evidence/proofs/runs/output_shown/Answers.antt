use Rattle.std.proofs.Common.{refl}
use Rattle.std.specs.Fmt.{digits}
use Rattle.hex.specs.Hex.{encode_with}
use Rattle.pmem_base.specs.Lines.{zero_line}
use Rattle.plain_model.specs.Texts.{mark_text, answer_text}
use Rattle.plain_model.specs.Run.{stop_text}
use Rattle.evidence.proofs.runs.output_shown.Goals as goal

pub returns-clause-finished : goal.returns-clause-finished
unfolding digits encode_with mark_text answer_text stop_text zero_line
returns-clause-finished c = refl

pub returns-clause-refused : goal.returns-clause-refused
unfolding digits stop_text
returns-clause-refused c = refl
