use Rattle.std.proofs.Common.{◌≡◌, true, drop}
use Rattle.board.specs.Counts.{RisesBy}
use Rattle.call_plan.specs.Plans.{for_each}
use Rattle.call_plan.proofs.Loops.{HasReached}
use Rattle.commit_regs.specs.Groups.{redone_told}
use Rattle.commit_regs.specs.Plans.{line_plan, lines_plan}
use Rattle.commit_regs.proofs.write_all.Given as goal

abbrev pub invariant-loop-at : goal.invariant-loop-at
invariant-loop-at g l =
    let start = g.B.Board.device l.initial.board in
    let now = g.B.Board.device l.board in
    record {
      rest : redone_told (drop l.at-index l.group) now.lines ≡ redone_told l.group start.lines;
      again : redone_told l.group now.lines ≡ redone_told l.group start.lines;
      writes : RisesBy l.at-index start.writes now.writes;
      size : now.size ≡ start.size;
      regs : now.regs ≡ start.regs;
      reads : now.reads ≡ start.reads;
      latches : now.latches ≡ start.latches;
      cuts : now.cuts ≡ start.cuts;
      steady : start.steady ≡ true → now.steady ≡ true;
      live : start.live ≡ true → now.live ≡ true;
      reached : HasReached (lines_plan l.group) start (for_each line_plan (drop l.at-index l.group) tt) now;
    }
