use Rattle.std.proofs.Common.{◌≡◌, ◌++◌, ℕ, List, drop}
use Rattle.plain_model.specs.Texts.{marks_text}
use Rattle.pmem_cli.specs.Printed.{Prints, with_waiting}
use Rattle.pmem_cli.proofs.printer.print_marks.Given as goal

abbrev pub invariant-each : goal.invariant-each
invariant-each g l =
    record {
      so_far : List ℕ;
      printed : Prints (with_waiting (g.K.Sink.put l.initial.out) l.initial.printer) (with_waiting (g.K.Sink.put l.out) l.printer) so_far;
      rest : so_far ++ marks_text (drop l.mark-index l.marks) ≡ marks_text l.marks;
      writes : g.K.Sink.faults l.out ≡ g.K.Sink.faults l.initial.out;
    }
