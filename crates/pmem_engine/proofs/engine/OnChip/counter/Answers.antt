-- A line that no register holds has the counter of its page's block; over the true counter block, the counter is that of the
-- line's last seal.
use Rattle.std.proofs.Common.{◌≡◌, ◌<◌, ◌∙◌, Option, Some, None, false, is_some, ℕ, refl, sym, ap, subst, rules}
use Rattle.pmem_base.specs.declared.registers.Regs.{Regs}
use Rattle.pmem_base.specs.declared.registers.Progress.{Progress}
use Rattle.pmem_base.specs.Shape.{Shape}
use Rattle.pmem_base.specs.Layout.{data_lines, index_in_page}
use Rattle.split_counters.specs.declared.Block.{Block}
use Rattle.split_counters.specs.Blocks.{block_counter}
use Rattle.page_reencrypt.specs.Registers.{counter_under}
use Rattle.pmem_engine.proofs.CheckedReads.LineCounters.{counter-last}
use Rattle.pmem_engine.proofs.engine.OnChip.counter.Goals as goal

not_held : (held : Option Progress) (block : Block) (a : ℕ) → is_some held ≡ false → counter_under held block a ≡ block_counter block (index_in_page a)
not_held None block a none = refl
not_held (Some register) block a none = cc none

pub returns-clause-cached : goal.returns-clause-cached
returns-clause-cached g c = search (rules, not_held)

pub returns-clause-last : goal.returns-clause-last
returns-clause-last g c = λ setup ledger trusted cached.
    let regs : Regs = (g.B.Board.device c.args.board.now).regs in
    counter-last setup c.args.self.now regs ledger c.args.at
    (subst (λ (s : Shape). c.args.at < data_lines s) trusted.its_shape c.requires.line) trusted cached
    ∙ ap Some (sym (returns-clause-cached g c))
