-- What the text of a command asks of the command.
use Rattle.std.specs.Prelude.{ℕ, ◌≤◌, ⊤, Result, Ok}
use Rattle.pmem_base.specs.declared.commands.Command.{Command}
use Rattle.pmem_base.specs.declared.commands.Command.TheVariants as Do
use Rattle.pmem_base.specs.declared.commands.Kind.{Kind}
use Rattle.pmem_base.specs.declared.lines.Line.{Line}
use Rattle.pmem_base.specs.Ranges.{IsPartLine}
use Rattle.collision_witness.specs.Words.{Word, hex_bytes, ◌>>=◌}
use Rattle.plain_model.specs.Grammar.{padded_line}
use Rattle.plain_model.specs.Words.{last_port}

-- its port, if it has one, is at most this one
abbrev pub HasPortWithin : ℕ → Command → Type 0
HasPortWithin most (Do.Post port at line) = port ≤ most
HasPortWithin most (Do.Part port at from count line) = port ≤ most
HasPortWithin most (Do.Drain port) = port ≤ most
HasPortWithin most (Do.Fence port) = port ≤ most
HasPortWithin most (Do.Read port at) = port ≤ most
HasPortWithin most command = ⊤

-- a part has 1 to 64 bytes, and they are the first of its line, with zeros after them
abbrev pub HasPartAtFront : Command → Type 0
HasPartAtFront (Do.Part port at from count line) = IsPartLine count line
HasPartAtFront command = ⊤

-- what a trace can spell: one of the eight ports, and parts of lines as they are
pub record IsWritable (command : Command) : Type 0 where
  pub port : HasPortWithin last_port command
  pub part : HasPartAtFront command

-- the line that has the bytes of n pairs of hex digits at its beginning
abbrev pub line_at_front : ℕ → Word → Result Line Kind
line_at_front n word = do
  bytes ← hex_bytes n word
  Ok (padded_line bytes)
