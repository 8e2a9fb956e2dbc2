-- The line is read at its place.
use Rattle.start_gap.proofs.LevelledReads.{read_levelled}
use Rattle.start_gap.proofs.gapped.Gapped.read.Goals as goal

pub returns-clause-read : goal.returns-clause-read
returns-clause-read g c =
    record {
      did =
          λ up.
          read_levelled _ c.args.line c.args.self.now _ _ _ _ c.requires.line c.args.self.now.its_lines c.place-at.ensures.place
          (c.read.ensures.read.did up);
      refuses = c.read.ensures.read.refuses;
      after = c.read.ensures.read.after;
    }
