-- A latch follows on: it is done, or cut where no step is left, or at the limit.
use Rattle.std.proofs.Common.{refl, arith}
use Rattle.watched_board.proofs.WatchLemmas.{follows-limit, latch-ok, cut-over}
use Rattle.watched_board.proofs.watched.WatchedBoard.latch.Goals as goal

pub invariant_of-self : goal.invariant_of-self
invariant_of-self g c =
    record {
      follows =
          follows-limit _ _ _ _ _ _ _ (omega (arith, c.if-self-ge-STEP_LIMIT.true)) c.cut_off.ensures (omega arith) c.args.self.now.follows;
      in_count = c.args.self.now.in_count;
      its_name = c.args.self.now.its_name;
    }

pub invariant_of-self-in-Ok : goal.invariant_of-self-in-Ok
invariant_of-self-in-Ok g c =
    record {
      follows =
          latch-ok _ _ _ _ _ _ _ c.in-Ok.ensures.ok (λ spent. let h = c.in-Ok.ensures.cut.1 spent in cc)
          (omega (arith, c.if-self-ge-STEP_LIMIT.false)) c.args.self.now.follows;
      in_count = c.args.self.now.in_count;
      its_name = c.args.self.now.its_name;
    }

pub invariant_of-self-in-Err : goal.invariant_of-self-in-Err
invariant_of-self-in-Err g c =
    record {
      follows = cut-over _ _ _ _ _ _ _ c.in-Err.ensures.err (c.in-Err.ensures.cut.0 refl) (omega arith) c.args.self.now.follows;
      in_count = c.args.self.now.in_count;
      its_name = c.args.self.now.its_name;
    }
