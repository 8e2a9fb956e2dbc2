-- An access that is done is noted.
use Rattle.std.proofs.Common.{subst}
use Rattle.std.specs.Prelude.{length}
use Rattle.board.specs.MemBoard.{memory_of}
use Rattle.board.specs.declared.access.Access.TheVariants as Did
use Rattle.access_log.specs.Traced.{IsNoted}
use Rattle.access_log.proofs.TraceLemmas.{goes_on-noted, latch-traced}
use Rattle.access_log.proofs.logged.LoggedBoard.latch.Goals as goal

pub invariant_of-self-2 : goal.invariant_of-self-2
invariant_of-self-2 g c =
    let was = c.args.self.now.watched in
    let is = c.latch.new.self in
    let start = g.K.Start.start in
    record {
      goes_on =
          goes_on-noted g.K.Entry.log c.args.self.now.log c.note.new.self (Did.Latch (length c.args.regs.now.group.items)) start (memory_of was.board.now) (memory_of is.board.now)
          (latch-traced start (memory_of was.board.now) (memory_of is.board.now) was.taken is.taken c.args.regs.now was.in_count was.follows is.follows c.in_ok-latch.ensures.ok)
          (subst (λ n. IsNoted c.args.self.now.log (Did.Latch n) c.note.new.self) c.len.ensures.value c.note.ensures) c.args.self.now.goes_on;
    }
