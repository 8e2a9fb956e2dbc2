use Rattle.std.proofs.Common.{◌≡◌, ◌-◌, ℕ, [], arith, take, subst}
use Rattle.std.specs.Io.KnownBytes.{Keeps, prepend_known}
use Rattle.std.proofs.KnownBytes.{prepend_known-nil}
use Rattle.pmem_cli.specs.Wholes.{left_in}
use Rattle.pmem_cli.proofs.WholeLemmas.{given_taken, end_left, ahead_kept, nothing_taken}
use Rattle.pmem_cli.proofs.lines.LineReader.refill.Goals as goal

pub returns-in_err-count-clause-ahead : goal.returns-in_err-count-clause-ahead
returns-in_err-count-clause-ahead g c = λ whole may.
    rw (prepend_known-nil (left_in g.S.Source.known whole c.pull.new.self))
    (nothing_taken _ _ (given_taken g.S.Source.known c.args.source.now c.pull.new.self [] whole c.in_err-count.ensures.gives may))

pub returns-clause-ahead : goal.returns-clause-ahead
returns-clause-ahead g c = λ whole may.
    let n = c.in_ok-count.count in
    let before = left_in g.S.Source.known whole c.args.source.now in
    let now = left_in g.S.Source.known whole c.pull.new.self in
    let all : n ≡ n - 0 = omega arith in
    subst (λ (k : ℕ). Keeps before (prepend_known (take k c.pull.new.buf) now)) all
    (ahead_kept before now (take n c.pull.new.buf)
    (given_taken g.S.Source.known c.args.source.now c.pull.new.self (take n c.pull.new.buf) whole c.in_ok-count.ensures.gives may))

pub returns-clause-end : goal.returns-clause-end
returns-clause-end g c = λ zero whole may. end_left g.S.Source.known c.pull.new.self whole (c.in_ok-count.ensures.end zero (omega arith)) may
