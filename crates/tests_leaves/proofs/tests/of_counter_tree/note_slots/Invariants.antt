-- The lists keep their lengths.
use Rattle.std.proofs.Common.{◌≡◌, length}
use Rattle.counter_tree.specs.Watch.{WatchState}
use Rattle.tests_leaves.proofs.tests.of_counter_tree.note_slots.Given as goal

pub record KeepsLengths (old new : WatchState) : Type 0 where
  pub slots : length new.slots ≡ length old.slots
  pub nodes : length new.nodes ≡ length old.nodes
  pub seals : length new.seals ≡ length old.seals

abbrev pub invariant-slots : goal.invariant-slots
invariant-slots g l = KeepsLengths (g.W.Watch.watched l.fn.watch) (g.W.Watch.watched l.watch)
