-- A suite's keys and counts at a moment of a call, and how calls raise the counts.
use Rattle.std.specs.Prelude.{ℕ, ◌≡◌, List}
use Rattle.pmem_base.specs.declared.geometry.Geo.{Geo}
use Rattle.pmem_base.specs.Geo.{shape_of}
use Rattle.pmem_base.specs.Counts.{risen_times}
use Rattle.suite.specs.declared.Suite.{Ghosts as SuiteOf}
use Rattle.suite.specs.Formulas.{Formulas}
use Rattle.suite.specs.Setup.{Setup}

-- the setup of a geometry
abbrev pub setup_of : Geo → Formulas → Setup
setup_of geo formulas = record { shape = shape_of geo; formulas = formulas }

-- the keys and the counts of a suite
pub record SuiteState : Type 0 where
  pub keys : List ℕ
  pub pads : ℕ
  pub tags : ℕ
  pub digests : ℕ

abbrev pub suite_state : List ℕ → ℕ → ℕ → ℕ → SuiteState
suite_state keys pads tags digests =
    record { keys = keys; pads = pads; tags = tags; digests = digests }

-- the suite, and the setup of its keys, at a moment of a call
module _ {S : Type 0} (suite : SuiteOf S) where
  abbrev pub suite_at : S → SuiteState
  suite_at s = suite_state (suite.keys s) (suite.pads s) (suite.tags s) (suite.digests s)

  abbrev pub setup_with : Geo → S → Setup
  setup_with geo s = setup_of geo (suite.formulas_of (suite.keys s))

-- that many pads, tags and digests are made
pub record SuiteRise (pads tags digests : ℕ) (old new : SuiteState) : Type 0 where
  pub its_keys : new.keys ≡ old.keys
  pub its_pads : new.pads ≡ risen_times pads old.pads
  pub its_tags : new.tags ≡ risen_times tags old.tags
  pub its_digests : new.digests ≡ risen_times digests old.digests
