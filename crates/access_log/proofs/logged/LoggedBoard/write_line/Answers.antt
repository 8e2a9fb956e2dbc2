-- An access that is done is noted.
use Rattle.std.proofs.Common.{subst}
use Rattle.pmem_base.specs.declared.lines.Line.{Line}
use Rattle.board.specs.MemBoard.{memory_of}
use Rattle.board.specs.declared.access.Access.TheVariants as Did
use Rattle.access_log.specs.Traced.{IsNoted}
use Rattle.access_log.proofs.TraceLemmas.{goes_on-noted, write-traced}
use Rattle.access_log.proofs.logged.LoggedBoard.write_line.Goals as goal

pub invariant_of-self-2 : goal.invariant_of-self-2
invariant_of-self-2 g c =
    let was = c.args.self.now.watched in
    let is = c.write_line.new.self in
    let start = g.K.Start.start in
    record {
      goes_on =
          goes_on-noted g.K.Entry.log c.args.self.now.log c.note.new.self (Did.Write c.args.at c.args.line.now) start (memory_of was.board.now) (memory_of is.board.now)
          (write-traced start (memory_of was.board.now) (memory_of is.board.now) was.taken is.taken c.args.at c.args.line.now was.in_count was.follows is.follows c.in_ok-write_line.ensures.ok)
          (subst (λ (line : Line). IsNoted c.args.self.now.log (Did.Write c.args.at line) c.note.new.self) c.of.ensures c.note.ensures) c.args.self.now.goes_on;
    }
