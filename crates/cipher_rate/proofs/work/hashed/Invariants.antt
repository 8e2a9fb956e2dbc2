use Rattle.std.proofs.Common.{◌*◌, replicate}
use Rattle.sha2.specs.Hashers.{Holds256}
use Rattle.cipher_rate.proofs.work.hashed.Given as goal

abbrev pub invariant-loop-made : goal.invariant-loop-made
invariant-loop-made l = record {
  taken : Holds256 l.hasher (replicate (64 * l.made) 0);
}
