-- The lines so far are in the group.
use Rattle.std.proofs.Common.{◌≡◌, ◌≤◌, ◌-◌, ◌++◌, length}
use Rattle.pmem_engine.proofs.Laws.GroupForms.{put_to}
use Rattle.pmem_engine.proofs.engine.OnChip.put_path.Given as goal

abbrev pub invariant-lines : goal.invariant-lines
invariant-lines l =
    let path = l.fn.path.lines.items in
    record {
      from : length path - l.fn.grouped ≤ l.bank;
      group : l.regs.group.items ≡ l.fn.regs.group.items ++ put_to l.fn.self.shape path (length path - l.fn.grouped) l.bank;
      root : l.regs.root ≡ l.fn.regs.root;
      progress : l.regs.progress ≡ l.fn.regs.progress;
      loss : l.regs.loss ≡ l.fn.regs.loss;
    }
