-- The nodes named so far.
use Rattle.std.proofs.Common.{suc, ◌*◌, ◌≡◌, take}
use Rattle.asit_shadow.proofs.Common.{risen_times, KeepsOtherRegisters, armed_lines}
use Rattle.asit_shadow.specs.WritePlans.{named_all}
use Rattle.asit_shadow.proofs.engine.TreeEngine.next_regs.Given as goal

abbrev pub invariant-levels : goal.invariant-levels
invariant-levels g l =
    record {
      group : l.next.group.items ≡ armed_lines l.fn.self.shape l.fn.at l.fn.seal (take l.x-index l.fn.nodes.items);
      named :
          (l.self.tree, l.next.root)
          ≡ named_all (g.S.Suite.formulas_of (g.S.Suite.keys l.fn.suite)) l.fn.self.shape (take l.x-index l.fn.nodes.items) (l.fn.self.tree, l.fn.regs.root);
      others : KeepsOtherRegisters l.fn.regs l.next;
      height : l.self.tree.height ≡ l.fn.self.tree.height;
      shape : l.self.shape ≡ l.fn.self.shape;
      cache : l.self.cache ≡ l.fn.self.cache;
      down : l.self.down ≡ l.fn.self.down;
      keys : g.S.Suite.keys l.suite ≡ g.S.Suite.keys l.fn.suite;
      pads : g.S.Suite.pads l.suite ≡ g.S.Suite.pads l.fn.suite;
      tags : g.S.Suite.tags l.suite ≡ g.S.Suite.tags l.fn.suite;
      digests : g.S.Suite.digests l.suite ≡ risen_times (l.x-index * suc l.fn.self.tree.height) (g.S.Suite.digests l.fn.suite);
    }
