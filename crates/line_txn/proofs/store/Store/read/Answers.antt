-- The line is read where it is served from, and is the line of memory.
use Rattle.line_txn.proofs.ServedReads.{read_served}
use Rattle.line_txn.proofs.store.Store.read.Goals as goal

pub returns-clause-read : goal.returns-clause-read
returns-clause-read g c =
    record {
      did =
          λ up.
          read_served _ c.args.at c.args.self.now _ _ _ _ c.requires.line c.args.self.now.its_lines c.place-place.ensures.place
          c.place-place.ensures.low (c.read.ensures.read.did up);
      refuses = c.read.ensures.read.refuses;
      after = c.read.ensures.read.after;
    }
