use Rattle.std.proofs.Common.{rules, refl}
use Rattle.std.specs.Prelude.{codes}
use Rattle.evidence.specs.Runs.{first_lines}
use Rattle.evidence.proofs.FirstRun.{first_run, first_lines_within, rest_within}
use Rattle.evidence.proofs.runs.cut_short_run.Goals as goal

pub returns : goal.returns
returns c =
    record {
      before = first_lines;
      part = codes "re";
      taken = refl;
      whole = first_lines_within;
      unfinished = rest_within;
      short = search rules;
      run = first_run;
      counted = search rules;
      at_limit = λ e. absurd (search rules);
    }
