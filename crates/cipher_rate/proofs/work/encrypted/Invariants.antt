use Rattle.std.proofs.Common.{◌≡◌}
use Rattle.cipher_rate.specs.Work.{encrypted}
use Rattle.cipher_rate.proofs.work.encrypted.Given as goal

abbrev pub invariant-loop-made : goal.invariant-loop-made
invariant-loop-made l = record {
  done : l.block ≡ encrypted l.made;
}
