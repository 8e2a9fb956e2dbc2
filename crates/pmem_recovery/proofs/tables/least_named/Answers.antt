use Rattle.std.proofs.Common.{◌≡◌, ◌+◌, ◌/◌, ◌%◌, [], MatchOption, get_or, sym, subst, arith}
use Rattle.std.proofs.lemmas.List.{get_or_default}
use Rattle.pmem_base.specs.declared.lines.Line.{Line}
use Rattle.pmem_base.specs.Lines.{line_at, zero_line}
use Rattle.shadow_tables.specs.Entries.{entry_of, table_entry}
use Rattle.pmem_recovery.specs.Named.{is_among}
use Rattle.pmem_recovery.proofs.NamedLaws.{IsNext-same, is_among-more}
use Rattle.pmem_recovery.proofs.tables.least_named.Goals as goal

-- one more entry
pub loop-n-preserved : goal.loop-n-preserved
loop-n-preserved c =
    let shadow = c.args.shadow.now in
    let n = c.loop-n.n in
    let none : Line = record { 0 = [] } in
    let same : get_or shadow (c.args.first + n / 16) none ≡ line_at shadow (c.args.first + n / 16) =
    get_or_default shadow (c.args.first + n / 16) none zero_line (omega arith) in
    IsNext-same _ (is_among shadow c.args.first (n + 1)) c.args.from c.args.end c.nearer-least.result
    (λ x low high. sym (is_among-more shadow c.args.first n x))
    (c.nearer-least.ensures (is_among shadow c.args.first n) (table_entry shadow c.args.first n) c.loop-n.invariant
    (subst (λ line. MatchOption c.entry.result (entry_of line (n % 16) ≡ 0) (λ x. entry_of line (n % 16) ≡ x + 1)) same c.entry.ensures))
