-- A seal's parts are in range.
use Rattle.std.proofs.Common.{ℕ, ◌<◌, ◌^◌, List, refl, sym, ap, ◌∙◌, arith, rules}
use Rattle.asit_shadow.proofs.Common.{Line, IsCtr, cipher_of-IsLine, version_counter}
use Rattle.asit_shadow.proofs.seals.sealed.Goals as goal

pub returns-clause-made : goal.returns-clause-made
returns-clause-made g c =
    let f = g.S.Suite.formulas_of (g.S.Suite.keys c.args.suite.now) in
    let in_range = g.met.S.Suite.in_range c.args.suite.now in
    let small : c.args.counter < 2 ^ 64 = omega arith in
    let ctr : IsCtr (version_counter c.args.counter) = record { major = small; minor = omega arith } in
    let cipher = ap (λ (p : Line × List ℕ). p.0) c.seal.ensures.value in
    let tag = ap (λ (p : Line × List ℕ). p.1) c.seal.ensures.value in
    let whole = cipher_of-IsLine f c.args.at (version_counter c.args.counter) c.args.line.now in_range ctr c.is_whole.ensures in
    record {
      its_counter = refl;
      cipher = cipher;
      tag = ap (f.tag_of c.args.at (version_counter c.args.counter)) cipher ∙ sym tag;
      in_range = search rules;
    }
