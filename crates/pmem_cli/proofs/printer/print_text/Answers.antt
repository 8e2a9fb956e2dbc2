use Rattle.std.proofs.Common.{arith}
use Rattle.std.proofs.lemmas.Grind.{common_steps}
use Rattle.pmem_cli.proofs.printer.print_text.Goals as goal

-- a front of what waited is a front of that and the text
pub returns-in_err-flush_waiting-clause-err : goal.returns-in_err-flush_waiting-clause-err
returns-in_err-flush_waiting-clause-err g c = grind (arith, common_steps)
