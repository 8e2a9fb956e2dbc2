-- What a session keeps, as its fields have it.
use Rattle.pmem_base.specs.Geo.{shape_of}
use Rattle.board.specs.MemBoard.{memory_of}
use Rattle.suite.specs.Setup.{Setup}
use Rattle.suite.specs.declared.Suite.{Ghosts as SuiteOf}
use Rattle.counter_tree.specs.BookView.{watch_of}
use Rattle.tree_session.specs.declared.world.TreeWorld.TheInside.{Inside}
use Rattle.tree_session.specs.World.{TreeParts}

abbrev pub parts_in : {S : Type 0} → SuiteOf S → Inside S → TreeParts
parts_in suite world =
    record {
      keys = suite.keys world.suite;
      pads = suite.pads world.suite;
      tags = suite.tags world.suite;
      digests = suite.digests world.suite;
      board = memory_of world.board;
      watch = watch_of suite.formulas_of suite.keys world.watch;
      engine = world.engine;
      tampered = world.tampered.items;
      hurt = world.hurt.items;
    }

-- the geometry, and the suite's formulas under its keys
abbrev pub setup_in : {S : Type 0} → SuiteOf S → Inside S → Setup
setup_in suite world = record { shape = shape_of world.geo; formulas = suite.formulas_of (suite.keys world.suite) }
