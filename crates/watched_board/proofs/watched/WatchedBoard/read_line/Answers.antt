-- A read follows on: it is done, or cut where power is off.
use Rattle.std.proofs.Common.{refl, inl, arith}
use Rattle.watched_board.proofs.WatchLemmas.{read-ok, cut-over}
use Rattle.watched_board.proofs.watched.WatchedBoard.read_line.Goals as goal

pub invariant_of-self : goal.invariant_of-self
invariant_of-self g c =
    record {
      follows = read-ok _ _ _ _ _ _ _ c.in-Ok.ensures.ok c.in-Ok.ensures.reads c.args.self.now.follows;
      in_count = c.args.self.now.in_count;
      its_name = c.args.self.now.its_name;
    }

pub invariant_of-self-in-Err : goal.invariant_of-self-in-Err
invariant_of-self-in-Err g c =
    record {
      follows = cut-over _ _ _ _ _ _ _ c.in-Err.ensures.err (inl (c.in-Err.ensures.cut.0 refl)) (omega arith) c.args.self.now.follows;
      in_count = c.args.self.now.in_count;
      its_name = c.args.self.now.its_name;
    }
