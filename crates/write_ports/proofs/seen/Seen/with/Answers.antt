-- The shifts make a run of ones, which the mask gains.
use Rattle.std.proofs.Common.{ap, ◌+◌, ◌∙◌}
use Rattle.std.specs.Int.{bit_at}
use Rattle.pmem_base.specs.WaitingWrites.{has_byte}
use Rattle.write_ports.proofs.BitLemmas.{ones_shifted, bit_of_both, bit_of_run}
use Rattle.write_ports.proofs.seen.Seen.with.Goals as goal

pub returns-clause-mask : goal.returns-clause-mask
returns-clause-mask c =
    λ i h.
    let write = c.args.write.now in
    bit_of_both c.args.self.now.mask _ i (has_byte write i)
    (ap (λ n. bit_at n i) (ones_shifted write.len write.from c.requires.inside)
    ∙ bit_of_run write.from (write.from + write.len) i)
