-- The nodes stored so far.
use Rattle.std.proofs.Common.{◌≡◌, take}
use Rattle.asit_shadow.proofs.Common.{set_pairs, dirty_entries}
use Rattle.asit_shadow.proofs.engine.TreeEngine.store.Given as goal

abbrev pub invariant-levels : goal.invariant-levels
invariant-levels l =
    record {
      cache : l.self.cache ≡ set_pairs (dirty_entries l.fn.self.shape (take l.x-index l.fn.nodes.items)) l.fn.self.cache;
      shape : l.self.shape ≡ l.fn.self.shape;
      tree : l.self.tree ≡ l.fn.self.tree;
      down : l.self.down ≡ l.fn.self.down;
    }
