use Rattle.std.proofs.Common.{◌≡◌, ◌≤◌, ◌-◌, length}
use Rattle.std.specs.Prelude.{◌⊎◌, Contains}
use Rattle.std.specs.Io.KnownBytes.{Consumes, prepend_known}
use Rattle.plain_model.specs.Lines.{IsWithin}
use Rattle.pmem_cli.specs.Pulling.{StaysOpen, PullsWithinLine}
use Rattle.pmem_cli.specs.Wholes.{HasGiven, ForEachWhole, left_in, left_before_in}
use Rattle.pmem_cli.proofs.lines.LineReader.next_line.Given as goal

abbrev pub invariant-pieces : goal.invariant-pieces
invariant-pieces g l =
    record {
      gave : HasGiven (g.S.Source.known l.initial.source) (g.S.Source.known l.source);
      taken :
          ForEachWhole (g.S.Source.known l.source) (λ whole.
          Consumes (prepend_known l.initial.self (left_in g.S.Source.known whole l.initial.source))
          (prepend_known l.self (left_in g.S.Source.known whole l.source)) l.line.items);
      within : IsWithin l.line.items;
      short : length l.line.items ≤ 1024;
      kept : g.S.Source.faults l.source ≡ g.S.Source.faults l.initial.source;
      may_pull : StaysOpen (g.S.Source.pulls l.initial.source) (g.S.Source.pulls l.source);
      at_hand : Contains l.initial.self 10 → l.self ≡ l.initial.self;
      unpulled : Contains l.initial.self 10 → l.source ≡ l.initial.source;
      last_pull :
          ForEachWhole (g.S.Source.known l.source) (λ whole.
          (l.source ≡ l.initial.source)
          ⊎ PullsWithinLine (prepend_known l.initial.self (left_in g.S.Source.known whole l.initial.source)) (left_before_in g.S.Source.known whole l.source));
    }

abbrev pub decreases-pieces : goal.decreases-pieces
decreases-pieces g l = 1025 - length l.line.items
