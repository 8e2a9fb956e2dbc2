-- The writes so far, and the next one if it is to the line.
use Rattle.std.proofs.Common.{take, [], ◌∷◌, get_or, sym, subst}
use Rattle.pmem_base.specs.declared.commands.Posted.{Posted}
use Rattle.pmem_base.specs.WaitingWrites.{writes_to}
use Rattle.write_ports.specs.Seen.{IsSight}
use Rattle.write_ports.proofs.WriteLemmas.{IsSight-push, writes_to_more}
use Rattle.write_ports.proofs.queue.Queue.look.Goals as goal

-- what a read past the end would give
no_write : Posted
no_write = record { at = 0; from = 0; len = 0; line = record { 0 = [] } }

pub writes-preserved : goal.writes-preserved
unfolding no_write
writes-preserved c =
    let writes = c.as_slice-write-items.result.now in
    let i = c.writes.write-index in
    let next : Posted = get_or writes i no_write in
    subst (λ prefix. IsSight prefix c.then-seen.result)
    (sym (writes_to_more writes i c.args.at no_write c.writes-test.true))
    (IsSight-push (writes_to (take i writes) c.args.at) (writes_to (next ∷ []) c.args.at) c.writes.seen
    c.then-seen.result c.writes.invariant c.then-seen.ensures.mask c.then-seen.ensures.line)
