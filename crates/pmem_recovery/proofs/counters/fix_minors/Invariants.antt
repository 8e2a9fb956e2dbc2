use Rattle.std.proofs.Common.{◌≡◌, ◌≤◌, ◌*◌, All}
use Rattle.call_effects.specs.SuiteStates.{setup_with}
use Rattle.call_plan.proofs.Loops.{AreTurnsLeft}
use Rattle.pmem_recovery.specs.Plans.{counts_at, minor_turn, minors_plan}
use Rattle.pmem_recovery.proofs.counters.fix_minors.Given as goal

abbrev pub invariant-lines : goal.invariant-lines
invariant-lines g l =
    record {
      keys : g.S.Suite.keys l.suite ≡ g.S.Suite.keys l.initial.suite;
      pads : g.S.Suite.pads l.suite ≡ g.S.Suite.pads l.initial.suite;
      reached :
          AreTurnsLeft (minors_plan (setup_with g.S.Suite l.geo l.initial.suite) l.regs l.page l.stored (counts_at g.S.Suite l.initial.suite))
          (g.B.Board.device l.initial.board) (minor_turn (setup_with g.S.Suite l.geo l.initial.suite) l.regs l.stored l.page) l.i 64
          (counts_at g.S.Suite l.suite, (l.fixed, l.trials)) (g.B.Board.device l.board);
      few : l.trials ≤ l.i * l.regs.loss;
      small : All (λ m. m ≤ 127) l.fixed.minors;
    }
