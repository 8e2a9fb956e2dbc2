use Rattle.std.proofs.Common.{◌≡◌, ◌++◌, ℕ, List, drop}
use Rattle.pmem_cli.specs.Logged.{accesses_text}
use Rattle.pmem_cli.specs.Printed.{Prints, with_waiting}
use Rattle.pmem_cli.proofs.printer.print_accesses.Given as goal

abbrev pub invariant-each : goal.invariant-each
invariant-each g l =
    record {
      so_far : List ℕ;
      printed : Prints (with_waiting (g.K.Sink.put l.initial.out) l.initial.printer) (with_waiting (g.K.Sink.put l.out) l.printer) so_far;
      rest : so_far ++ accesses_text (drop l.access-index l.accesses) ≡ accesses_text l.accesses;
      writes : g.K.Sink.faults l.out ≡ g.K.Sink.faults l.initial.out;
    }
