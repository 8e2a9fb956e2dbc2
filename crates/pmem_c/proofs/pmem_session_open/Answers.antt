use Rattle.std.proofs.Common.{◌∙◌, sym}
use Rattle.pmem_c.proofs.OpenLemmas.{stays_closed, is_opened}
use Rattle.pmem_c.proofs.pmem_session_open.Goals as goal

pub returns-in-Ok-clause-opened : goal.returns-in-Ok-clause-opened
returns-in-Ok-clause-opened c =
    rw (c.of-in-Ok.ensures, c.of.ensures)
    (is_opened c.args.pmem.now.handle.held c.args.words.now _ (sym c.requires.handle ∙ c.if-pmem.false) c.in-Ok.ensures.opened c.in-Ok.ensures.reply)

pub returns-in-Err-clause-opened : goal.returns-in-Err-clause-opened
returns-in-Err-clause-opened c =
    stays_closed c.args.pmem.now.handle.held c.args.words.now _ (sym c.requires.handle ∙ c.if-pmem.false) c.in-Err.ensures.none
