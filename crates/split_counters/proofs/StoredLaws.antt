-- Laws of blocks as they are stored.
use Rattle.std.proofs.Common.{rules, ℕ, ◌≡◌, ◌<◌, ◌≤◌, length, drop}
use Rattle.std.proofs.lemmas.List.Elements.{All-get_or}
use Rattle.pmem_base.specs.declared.lines.Line.{Line}
use Rattle.pmem_base.specs.Lines.{from_big_endian}
use Rattle.split_counters.specs.Blocks.{minor_of, unpacked}
use Rattle.split_counters.proofs.MinorDigits.{length-minors_of_number, minors_of_number-small}

pub length-unpacked : (line : Line) → length (unpacked line).minors ≡ 64
unfolding unpacked
length-unpacked line = length-minors_of_number 64 (from_big_endian (drop 8 line.0))

pub unpacked-small : (line : Line) (i : ℕ) → i < 64 → minor_of (unpacked line) i ≤ 127
unfolding unpacked
unpacked-small line i small = search (rules, All-get_or, length-minors_of_number, minors_of_number-small)
