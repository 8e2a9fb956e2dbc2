use Rattle.std.proofs.Common.{ℕ, List, subst}
use Rattle.std.specs.Prelude.{Option}
use Rattle.pmem_cli.specs.Determined.{over_bytes, IsCallWith, IsByMachine}
use Rattle.pmem_cli.specs.Wholes.{left_in}
use Rattle.pmem_cli.proofs.WholeLemmas.{some_whole, whole_told}
use Rattle.pmem_cli.proofs.determined.told_is_left.Goals as goal

pub returns-clause-some : goal.returns-clause-some
returns-clause-some c = some_whole

pub returns-clause-whole : goal.returns-clause-whole
returns-clause-whole c = whole_told

pub returns-clause-told : goal.returns-clause-told
returns-clause-told c = λ words call before now told gave is each.
    let (whole, may, was_left, is_left) = whole_told before now told gave is in
    let both : IsCallWith words (over_bytes call (left_in (λ known. known) whole before) now.left)
    × IsByMachine words (over_bytes call (left_in (λ known. known) whole before) now.left) =
    subst (λ (left : Option (List ℕ)). IsCallWith words (over_bytes call (left_in (λ known. known) whole before) left)
    × IsByMachine words (over_bytes call (left_in (λ known. known) whole before) left)) is_left (each whole may) in
    subst (λ (trace : Option (List ℕ)). IsCallWith words (over_bytes call trace now.left) × IsByMachine words (over_bytes call trace now.left)) was_left both
