use Rattle.pmem_base.proofs.OneToOne.{place-injective, place-within, place-covers, place-told}
use Rattle.pmem_base.specs.Geo.{shape_of}
use Rattle.pmem_base.proofs.geometry.Geo.layout_is_one_to_one.Goals as goal

pub returns-clause-ranges : goal.returns-clause-ranges
returns-clause-ranges c =
    let geo = c.args.self.now in
    record {
      at_least_one_level = geo.has_levels.0;
      at_most_six_levels = geo.has_levels.1;
      at_least_one_set = geo.has_sets.0;
      at_most_64_sets = geo.has_sets.1;
      at_least_one_way = geo.has_ways.0;
      at_most_eight_ways = geo.has_ways.1;
      known_loss = geo.has_loss;
      major_in_range = geo.has_major;
      persists_path = geo.has_persist;
    }

pub returns-clause-places : goal.returns-clause-places
returns-clause-places c =
    let g = shape_of c.args.self.now in
    record {
      apart = place-injective g;
      within = place-within g;
      covered = place-covers g;
      told = place-told g;
    }
