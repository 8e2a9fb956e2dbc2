use Rattle.std.proofs.Common.{◌≡◌, ℕ, List}
use Rattle.std.specs.Prelude.{◌⊎◌, Option}
use Rattle.std.specs.Io.KnownBytes.{prepend_known}
use Rattle.pmem_base.specs.declared.answers.Exhibit.{Exhibit}
use Rattle.plain_model.specs.declared.Stop.{Stop}
use Rattle.pmem_cli.specs.Checked.{HasCheckedLines, HasLookedFirst}
use Rattle.pmem_cli.specs.Pulling.{StaysOpen}
use Rattle.pmem_cli.specs.Wholes.{HasGiven, ForEachWhole, left_in, left_before_in}
use Rattle.pmem_cli.proofs.checking.look.Given as goal

abbrev pub invariant-lines : goal.invariant-lines
invariant-lines g l =
    record {
      gave : HasGiven (g.S.Source.known l.initial.trace) (g.S.Source.known l.trace);
      looks :
          ForEachWhole (g.S.Source.known l.trace) (λ whole.
          (stop : Stop) (left : Option (List ℕ)) (after : Option Exhibit)
          → HasCheckedLines stop (prepend_known l.reader (left_in g.S.Source.known whole l.trace)) left l.found after l.served
          → HasCheckedLines stop (left_in g.S.Source.known whole l.initial.trace) left l.initial.found after 0);
      looks_first :
          ForEachWhole (g.S.Source.known l.trace) (λ whole.
          (told : Option (List ℕ)) → HasLookedFirst l.found l.served (prepend_known l.reader (left_in g.S.Source.known whole l.trace)) told
          → HasLookedFirst l.initial.found 0 (left_in g.S.Source.known whole l.initial.trace) told);
      looked_first :
          ForEachWhole (g.S.Source.known l.trace) (λ whole.
          (l.trace ≡ l.initial.trace)
          ⊎ HasLookedFirst l.initial.found 0 (left_in g.S.Source.known whole l.initial.trace) (left_before_in g.S.Source.known whole l.trace));
      kept : g.S.Source.faults l.trace ≡ g.S.Source.faults l.initial.trace;
      may_pull : StaysOpen (g.S.Source.pulls l.initial.trace) (g.S.Source.pulls l.trace);
    }
