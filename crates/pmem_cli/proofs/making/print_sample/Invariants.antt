use Rattle.std.proofs.Common.{◌≡◌, ◌+◌, ◌++◌, ℕ, List}
use Rattle.trace_text.specs.Samples.{state_of_seed, commands_from, commands_text}
use Rattle.pmem_cli.specs.Printed.{Prints, with_waiting}
use Rattle.pmem_cli.proofs.making.print_sample.Given as goal

abbrev pub invariant-commands : goal.invariant-commands
invariant-commands g l =
    record {
      so_far : List ℕ;
      left : ℕ;
      printed : Prints (with_waiting (g.K.Sink.put l.initial.out) l.initial.printer) (with_waiting (g.K.Sink.put l.out) l.printer) so_far;
      counted : l.made + left ≡ l.count;
      number : l.maker.number ≡ l.made + 1;
      rest : so_far ++ commands_text (commands_from l.maker.state l.maker.number left) ≡ commands_text (commands_from (state_of_seed l.seed) 1 l.count);
      writes : g.K.Sink.faults l.out ≡ g.K.Sink.faults l.initial.out;
    }
