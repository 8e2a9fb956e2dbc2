-- The cipher's key is the first 16 bytes of the keys.
use Rattle.std.proofs.Common.{sym, ap, ◌∙◌}
use Rattle.std.proofs.lemmas.List.{take_at}
use Rattle.suite.specs.Aes.{four_blocks}
use Rattle.suite.proofs.aes.AesSuiteSuite.pad.Goals as goal

pub returns-clause-pad : goal.returns-clause-pad
returns-clause-pad c =
    let suite = c.args.self.now in
    c.four_blocks.ensures
    ∙ ap (λ key. four_blocks key c.args.at c.args.ctr) (sym (take_at suite.cipher suite.tag_key 16 suite.key_length))
