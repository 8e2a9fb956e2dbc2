-- An access that is done is noted.
use Rattle.board.specs.MemBoard.{memory_of}
use Rattle.board.specs.declared.access.Access.TheVariants as Did
use Rattle.access_log.proofs.TraceLemmas.{goes_on-noted, read-traced}
use Rattle.access_log.proofs.logged.LoggedBoard.read_line.Goals as goal

pub invariant_of-self-2 : goal.invariant_of-self-2
invariant_of-self-2 g c =
    let was = c.args.self.now.watched in
    let is = c.read_line.new.self in
    let start = g.K.Start.start in
    record {
      goes_on =
          goes_on-noted g.K.Entry.log c.args.self.now.log c.note.new.self (Did.Read c.args.at) start (memory_of was.board.now) (memory_of is.board.now)
          (read-traced start (memory_of was.board.now) (memory_of is.board.now) was.taken is.taken c.args.at c.in_ok-line.line was.in_count was.follows is.follows c.in_ok-line.ensures.ok)
          c.note.ensures c.args.self.now.goes_on;
    }
