-- The ports that words of a trace spell.
use Rattle.std.specs.Prelude.{ℕ, nat_le, Result, Ok, Err, if◌then◌else◌}
use Rattle.pmem_base.specs.declared.commands.Kind.{Kind}
use Rattle.collision_witness.specs.Words.{Word, number_of, ◌>>=◌}

-- the greatest of the eight ports
abbrev pub last_port : ℕ
last_port = 7

-- a port is a number up to a greatest one
unfoldable pub port_of : ℕ → Word → Result ℕ Kind
port_of most word = do
  port ← number_of word
  if nat_le port most then Ok port else Err Kind.Port
