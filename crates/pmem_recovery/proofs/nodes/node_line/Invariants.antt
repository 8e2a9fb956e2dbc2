use Rattle.std.proofs.Common.{◌≡◌, [], length, take}
use Rattle.call_plan.specs.Plans.{repeated}
use Rattle.call_plan.proofs.Loops.{AreTurnsLeft}
use Rattle.pmem_recovery.specs.Plans.{counts_at, child_turn}
use Rattle.call_effects.specs.SuiteStates.{setup_with}
use Rattle.pmem_recovery.proofs.nodes.node_line.Given as goal

abbrev pub invariant-children : goal.invariant-children
invariant-children g l =
    record {
      keys : g.S.Suite.keys l.suite ≡ g.S.Suite.keys l.initial.suite;
      pads : g.S.Suite.pads l.suite ≡ g.S.Suite.pads l.initial.suite;
      reached :
          let turn = child_turn (setup_with g.S.Suite l.geo l.initial.suite) l.made.entries l.x in
          AreTurnsLeft (repeated turn 0 4 (counts_at g.S.Suite l.initial.suite, [])) (g.B.Board.device l.initial.board) turn l.i 4
          (counts_at g.S.Suite l.suite, take l.i l.digests) (g.B.Board.device l.board);
      long : length l.digests ≡ 4;
    }
