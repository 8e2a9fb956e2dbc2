-- What contracts see of a `MemBoard`.
use Rattle.std.specs.Option.{option_map}
use Rattle.board.specs.declared.memory.MemBoard.{MemBoard}
use Rattle.board.specs.Memory.{BoardMemory}

abbrev pub memory_of : MemBoard → BoardMemory
memory_of board =
    record {
      lines = board.lines.items;
      regs = board.regs;
      powered = board.powered;
      fuse = board.fuse;
      snapshot = option_map (λ kept. kept.items) board.snapshot;
      reads = board.reads;
      writes = board.writes;
      latches = board.latches;
      cuts = board.cuts;
      accesses = board.accesses;
    }
