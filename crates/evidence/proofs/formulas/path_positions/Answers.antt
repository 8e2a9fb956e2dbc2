use Rattle.std.proofs.Common.{subst}
use Rattle.bonsai_tree.specs.Positions.{level_of, path_of}
use Rattle.bonsai_tree.proofs.Levels.{IsAtLevel}
use Rattle.bonsai_tree.proofs.PathPositions.{on_path-at, on_path-level, path_of-IsAtLevel}
use Rattle.evidence.proofs.formulas.path_positions.Goals as goal

pub returns : goal.returns
returns c shape page x few inside on =
    let level = on_path-level shape page x few inside on in
    let at : IsAtLevel (level_of x) x = subst (IsAtLevel (level_of x)) level.1 (path_of-IsAtLevel shape page (level_of x) inside level.0) in
    on_path-at shape page (level_of x) x inside at on
