use Rattle.std.proofs.Common.{rules, refl, [], ◌∷◌}
use Rattle.std.specs.Prelude.{codes}
use Rattle.collision_witness.specs.Words.{words_of, without_return}
use Rattle.plain_model.specs.Lines.{lines_of}
use Rattle.plain_model.specs.Grammar.{command_among, reading_of_words, reading_among}
use Rattle.evidence.specs.Runs.{first_lines}
use Rattle.evidence.proofs.FirstRun.{first_run}
use Rattle.evidence.proofs.runs.refused_run.Goals as goal

pub returns : goal.returns
unfolding lines_of without_return words_of command_among reading_of_words reading_among
returns c =
    record {
      before = first_lines;
      line = codes "reed 0 0";
      behind = codes "read 0 0" ∷ [];
      cut = refl;
      run = first_run;
      refused = refl;
      numbered = refl;
      counted = search rules;
    }
