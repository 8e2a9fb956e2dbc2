-- One write more, which is the newest if it is to the line.
use Rattle.std.proofs.Common.{◌≡◌, ℕ, ◌+◌, ◌<◌, [], Option, Some, get_or, take, length, sym, ap, subst, ◌∙◌, arith}
use Rattle.std.specs.Prelude.{IfSome}
use Rattle.pmem_base.specs.declared.commands.Posted.{Posted}
use Rattle.pmem_base.specs.WaitingWrites.{newest_to}
use Rattle.write_ports.proofs.PostLemmas.{newest_to-here, newest_to-elsewhere, within-more}
use Rattle.write_ports.proofs.queue.Queue.newest_to.Goals.{then-write-at, else-write-at}
use Rattle.write_ports.proofs.queue.Queue.newest_to.Goals as goal

-- what a read past the end would give
no_write : Posted
no_write = record { at = 0; from = 0; len = 0; line = record { 0 = [] } }

pub writes-preserved : goal.writes-preserved
unfolding no_write
writes-preserved c =
    let writes = c.as_slice-write-items.result.now in
    let i = c.writes.place in
    elim c.if-write-at.branch [
      | then-write-at w ↦
          record {
            newest = w.newest-is ∙ sym (newest_to-here writes i c.args.at no_write c.writes-test.true w.if-write-at.true);
            within = subst (λ (o : Option (ℕ × Posted)). IfSome o (λ found. found.0 < i + 1)) (sym w.newest-is) (omega arith);
          }
      | else-write-at w ↦
          record {
            newest =
                w.newest-is ∙ c.writes.invariant.newest
                ∙ sym (newest_to-elsewhere writes i c.args.at no_write c.writes-test.true w.if-write-at.false);
            within =
                subst (λ (o : Option (ℕ × Posted)). IfSome o (λ found. found.0 < i + 1)) (sym w.newest-is)
                (within-more c.writes.newest i c.writes.invariant.within);
          }
    ]
