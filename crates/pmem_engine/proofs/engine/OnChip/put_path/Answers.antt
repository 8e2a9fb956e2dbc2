-- What a chip's geometry has.
use Rattle.std.proofs.Common.{◌≤◌, ◌+◌, subst}
use Rattle.pmem_engine.specs.Engine.{ChipState}
use Rattle.pmem_engine.proofs.engine.OnChip.put_path.Goals as goal

pub returns-clause-few : goal.returns-clause-few
returns-clause-few c = subst (λ (e : ChipState). e.shape.levels ≤ 6) c.self.view_is c.self.inside.geo.has_levels.1

pub returns-clause-policy : goal.returns-clause-policy
returns-clause-policy c = subst (λ (e : ChipState). e.shape.persist ≤ e.shape.levels + 1) c.self.view_is c.self.inside.geo.has_persist
