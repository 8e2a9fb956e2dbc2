use Rattle.std.proofs.Common.{◌≡◌, ◌≤◌, ◌-◌, ℕ, List, length}
use Rattle.std.specs.Prelude.{◌⊎◌}
use Rattle.std.specs.Io.KnownBytes.{prepend_known}
use Rattle.pmem_cli.specs.Printed.{with_waiting}
use Rattle.pmem_cli.specs.Turns.{HasServed}
use Rattle.pmem_cli.specs.Talked.{HasToldFirst}
use Rattle.pmem_cli.specs.Pulling.{StaysOpen}
use Rattle.pmem_cli.specs.Wholes.{HasGiven, ForEachWhole, left_in, left_before_in}
use Rattle.pmem_cli.proofs.session.serve_all.Given as goal

abbrev pub invariant-lines : goal.invariant-lines
invariant-lines g l =
    record {
      gave : HasGiven (g.S.Source.known l.initial.trace) (g.S.Source.known l.trace);
      so_far :
          ForEachWhole (g.S.Source.known l.trace) (λ whole.
          (lines : List (List ℕ)) × (replies : List g.W.Serve.ReplyData) × (length lines ≡ l.served)
          × HasServed g.W.Serve.protocol (left_in g.S.Source.known whole l.initial.trace) (prepend_known l.reader (left_in g.S.Source.known whole l.trace))
          l.initial.server l.server (with_waiting (g.K.Sink.put l.initial.out) l.initial.printer) (with_waiting (g.K.Sink.put l.out) l.printer) lines replies);
      within : l.served ≤ 1000000;
      running : g.W.Serve.protocol.runs l.server;
      reads : g.S.Source.faults l.trace ≡ g.S.Source.faults l.initial.trace;
      writes : g.K.Sink.faults l.out ≡ g.K.Sink.faults l.initial.out;
      may_pull : StaysOpen (g.S.Source.pulls l.initial.trace) (g.S.Source.pulls l.trace);
      replies_first :
          ForEachWhole (g.S.Source.known l.trace) (λ whole.
          (l.trace ≡ l.initial.trace)
          ⊎ HasToldFirst g.W.Serve.protocol l.initial.server (left_in g.S.Source.known whole l.initial.trace) (left_before_in g.S.Source.known whole l.trace)
          (with_waiting (g.K.Sink.put l.initial.out) l.initial.printer) (g.K.Sink.put l.out));
    }

abbrev pub decreases-lines : goal.decreases-lines
decreases-lines g l = 1000000 - l.served
