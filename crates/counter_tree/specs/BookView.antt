-- What contracts see of a `WatchBook`.
use Rattle.std.specs.Prelude.{ℕ, List}
use Rattle.pmem_base.specs.Geo.{shape_of}
use Rattle.suite.specs.Formulas.{Formulas}
use Rattle.counter_tree.specs.declared.book.WatchBook.{WatchBook}
use Rattle.counter_tree.specs.Watch.{WatchState}

-- what it knows, under the formulas of its suite
abbrev pub watch_of : {S : Type 0} → (List ℕ → Formulas) → (S → List ℕ) → WatchBook S → WatchState
watch_of formulas_of keys book =
    record {
      setup = record { shape = shape_of book.geo; formulas = formulas_of (keys book.suite) };
      seals = book.seals.items;
      nodes = book.nodes.items;
      slots = book.slots.items;
      exhibit = book.exhibit;
    }
