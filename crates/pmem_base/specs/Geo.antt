-- What callers see of a geometry.
use Rattle.pmem_base.specs.declared.geometry.Geo.{Geo}
use Rattle.pmem_base.specs.Shape.{Shape}

abbrev pub shape_of : Geo → Shape
shape_of geo =
    record {
      levels = geo.levels;
      sets = geo.sets;
      ways = geo.ways;
      loss = geo.loss;
      major = geo.major;
      persist = geo.persist;
      shadow = geo.shadow;
      durable = geo.durable;
      combines = geo.combines;
    }
