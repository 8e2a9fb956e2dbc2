-- A formatted device: its cache is empty, and its lines are few, as are the steps of its recovery.
use Rattle.std.proofs.Common.{ℕ, zero, suc, ◌≡◌, ◌<◌, ◌≤◌, ◌^◌, [], refl, rules, arith, ◌+◌}
use Rattle.line_session.proofs.Common.{pow-le-pow_right, Shape, IsShape, spilled, recovery_bound, read_steps}
use Rattle.pmem_base.specs.Layout as layout
use Rattle.meta_cache.specs.State.{empty_banks}
use Rattle.meta_path.proofs.PathFacts.{set_of-empty_banks}
use Rattle.pmem_recovery.proofs.NamedLaws.{recovery_bound-small}

-- an empty cache has nothing to write back
pub none_to_write : (g : Shape) (page n : ℕ) → spilled g (empty_banks g) page n ≡ []
none_to_write g page zero = refl
none_to_write g page (suc n) = search (rules, set_of-empty_banks, (none_to_write g page n))

pub few_data : (g : Shape) → IsShape g → layout.data_lines g < 2 ^ 30
few_data g shape = search (rules, pow-le-pow_right)

-- the steps of recovery and of one read
pub few_of_start : (g : Shape) → IsShape g → recovery_bound g + read_steps g ≤ 16384
few_of_start g shape = omega (arith, recovery_bound-small g shape, shape.at_most_six_levels)
