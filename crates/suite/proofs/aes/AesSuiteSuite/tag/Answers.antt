-- The tag key stands behind the key's 16 bytes.
use Rattle.std.proofs.Common.{sym, ap, ◌∙◌}
use Rattle.std.proofs.lemmas.List.{drop_at}
use Rattle.mac_tags.specs.Hmac.{hmac_of, leftmost_16}
use Rattle.suite.specs.Formulas.{tag_text}
use Rattle.suite.proofs.aes.AesSuiteSuite.tag.Goals as goal

pub returns-clause-tag : goal.returns-clause-tag
returns-clause-tag c =
    let suite = c.args.self.now in
    c.tag16.ensures
    ∙ ap leftmost_16
    (c.hmac.ensures
    ∙ ap (hmac_of suite.tag_key) c.tag_text.ensures
    ∙ ap (λ key. hmac_of key (tag_text c.args.at c.args.ctr c.args.cipher.now))
    (sym (drop_at suite.cipher suite.tag_key 16 suite.key_length)))
