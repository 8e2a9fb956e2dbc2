use Rattle.std.proofs.Common.{refl, ◌≡◌, ◌∙◌, ◌-◌, ◌+◌, suc, ap, sym, rules, arith}
use Rattle.aes_block.specs.Cipher.{expanded_key}
use Rattle.aes_block.specs.Words.{bytes_of}
use Rattle.aes_block.proofs.ListLemmas.{cells_of}
use Rattle.aes_block.proofs.KeyLemmas.{expanded_key-more, bytes_of-expanded, key_of-expanded, IsExpanded-from, in_range-first, in_range-set}
use Rattle.std.proofs.lemmas.Nat.{xor_of_32}
use Rattle.aes_block.proofs.keys.expanded_key.Goals as goal

pub loop-i-init : goal.loop-i-init
unfolding expanded_key
loop-i-init c = record {
  len = refl;
  in_range = in_range-first _ _ _ _ (search rules) (search rules) (search rules) (search rules);
  so_far = sym (ap bytes_of (cells_of 4 c.load-first.result (search rules))) ∙ c.load-first.ensures;
}

pub loop-i-preserved : goal.loop-i-preserved
loop-i-preserved c =
    let next : c.loop-i.i + 1 - 4 ≡ suc (c.loop-i.i - 4) = omega arith in
    let at : c.loop-i.i - 4 + 4 ≡ c.loop-i.i = omega arith in
    let last : c.loop-i.i - 4 + 3 ≡ c.loop-i.i - 1 = omega arith in
    record {
      len = search rules;
      in_range =
          in_range-set c.loop-i.words c.loop-i.i _ (omega arith) c.loop-i.invariant.in_range
          (xor_of_32 _ _ (c.loop-i.invariant.in_range (c.loop-i.i - 4)) (search rules));
      so_far =
          expanded_key-more c.args.key.now c.loop-i.words c.loop-i.i (c.loop-i.i - 4) _ c.temporary.result at (omega arith)
          c.loop-i.invariant.so_far refl (c.temporary.ensures ∙ rw last refl)
          ∙ ap (expanded_key c.args.key.now) (sym next);
    }

pub returns-clause-expanded : goal.returns-clause-expanded
returns-clause-expanded c =
    IsExpanded-from c.args.key.now c.loop-i.words (search rules) c.loop-i.invariant.in_range
    (bytes_of-expanded c.args.key.now c.loop-i.words c.loop-i.i c.loop-i.invariant.len (omega arith)
    c.loop-i.invariant.so_far)

pub returns-clause-key : goal.returns-clause-key
returns-clause-key c =
    key_of-expanded c.args.key.now c.loop-i.words (search rules)
    (bytes_of-expanded c.args.key.now c.loop-i.words c.loop-i.i c.loop-i.invariant.len (omega arith)
    c.loop-i.invariant.so_far)
