-- A cipher gives its plain line back.
use Rattle.std.proofs.Common.{ℕ, ◌≡◌, List, sym, ap, ◌∙◌}
use Rattle.std.specs.Prelude.{Some}
use Rattle.pmem_base.specs.declared.lines.Line.{Line}
use Rattle.pmem_base.specs.Lines.{xor_lines}
use Rattle.suite.specs.Formulas.{cipher_of}
use Rattle.suite.proofs.CipherLemmas.{cipher_of-back}
use Rattle.line_seal.proofs.unseal.Goals as goal

pub returns-clause-back : goal.returns-clause-back
returns-clause-back g c plain is_ctr is_line same =
    let f = g.S.Suite.formulas_of (g.S.Suite.keys c.args.suite.now) in
    let cipher-is : cipher_of f c.args.at c.args.ctr plain ≡ c.args.cipher.now = ap (λ (pair : Line × List ℕ). pair.0) same in
    let pad-is : c.pad.result ≡ f.pad_of c.args.at c.args.ctr =
    c.pad.ensures.pad ∙ ap (λ (k : List ℕ). (g.S.Suite.formulas_of k).pad_of c.args.at c.args.ctr) c.tag.ensures.keys in
    ap Some
    (c.xor_lines.ensures
    ∙ (ap (λ pad. xor_lines c.args.cipher.now pad) pad-is
    ∙ (ap (λ line. xor_lines line (f.pad_of c.args.at c.args.ctr)) (sym cipher-is)
    ∙ cipher_of-back f c.args.at c.args.ctr plain (g.met.S.Suite.in_range c.args.suite.now) is_ctr is_line)))
