-- The first bytes are overlaid.
use Rattle.std.proofs.Common.{◌≡◌, ℕ, ◌<◌, length, get_or}
use Rattle.write_ports.specs.Seen.{overlaid_byte}
use Rattle.write_ports.proofs.seen.overlay.Given as goal

abbrev pub invariant-bytes : goal.invariant-bytes
invariant-bytes l =
    (length l.bytes ≡ 64) × ((k : ℕ) → k < l.i → get_or l.bytes k 0 ≡ overlaid_byte l.line l.seen k)
