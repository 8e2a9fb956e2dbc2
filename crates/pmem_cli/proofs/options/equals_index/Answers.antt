use Rattle.std.proofs.Common.{arith, sym, length, eq-eqb}
use Rattle.std.proofs.lemmas.List.Sums.{position_or_len_is}
use Rattle.pmem_cli.specs.Words.{is_equals}
use Rattle.pmem_cli.proofs.options.equals_index.Goals as goal

pub returns-then-byte-eq61-clause-count : goal.returns-then-byte-eq61-clause-count
returns-then-byte-eq61-clause-count c =
    sym (position_or_len_is is_equals c.args.text.now c.loop-i.i 0 (omega arith) c.loop-i.invariant (λ _. eq-eqb _ 61 c.if-byte-eq61.true))

pub returns-clause-count : goal.returns-clause-count
returns-clause-count c =
    sym (position_or_len_is is_equals c.args.text.now (length c.args.text.now) 0 (omega arith) (λ k h. c.loop-i.invariant k (omega arith)) (λ h. absurd (omega arith)))
