use Rattle.std.proofs.Common.{◌-◌, sym, ap, arith}
use Rattle.pmem_recovery.specs.Made.{numbered_line}
use Rattle.pmem_recovery.proofs.MadeIndex.{numbered_at}
use Rattle.pmem_recovery.proofs.entries.numbered_line.Goals as goal

pub returns-then-number-eq0 : goal.returns-then-number-eq0
returns-then-number-eq0 c = ap (λ n. numbered_line c.args.entries.now n) (sym c.if-number-eq0.true)

pub returns : goal.returns
returns c =
    numbered_at c.args.entries.now (c.from.result - 1) c.args.number _ (omega (arith, c.from.ensures, c.if-number-eq0.false)) c.requires
