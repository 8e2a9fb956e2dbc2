use Rattle.std.proofs.Common.{◌∙◌, sym, rules}
use Rattle.std.proofs.lemmas.Nat.{xor_of_8}
use Rattle.aes_block.proofs.WordLemmas.{to_be_bytes-from}
use Rattle.aes_block.proofs.KeyLemmas.{temporary-fourth, temporary-other}
use Rattle.aes_block.proofs.keys.temporary.Goals as goal

pub returns-then-i-eq0 : goal.returns-then-i-eq0
returns-then-i-eq0 c =
    to_be_bytes-from _ _ _ _ _ (search (rules, xor_of_8)) (search rules) (search rules) (search rules) c.from_be_bytes.ensures
    ∙ rw (
      c.sub_byte.ensures,
      c.sub_byte-then-i-eq0.ensures,
      c.sub_byte-then-i-eq0-2.ensures,
      c.sub_byte-then-i-eq0-3.ensures,
      c.to_be_bytes-bytes.ensures,
    )
    (sym (temporary-fourth _ _ _ _ c.args.i c.if-i-eq0.true))

pub returns-else-i-eq0 : goal.returns-else-i-eq0
returns-else-i-eq0 c = sym (temporary-other _ c.args.i c.if-i-eq0.false)
