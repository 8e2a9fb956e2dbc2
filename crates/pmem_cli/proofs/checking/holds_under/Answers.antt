use Rattle.std.proofs.Common.{◌∙◌, sym, subst}
use Rattle.std.specs.Prelude.{◌↔◌, IsTrue}
use Rattle.suite.specs.Formulas.{Formulas}
use Rattle.collision_witness.specs.Exhibits.{IsExhibit}
use Rattle.pmem_cli.proofs.KeyLemmas.{formulas_aes, formulas_weak, formulas_blur}
use Rattle.pmem_cli.proofs.checking.holds_under.Goals as goal

pub returns-in-Aes : goal.returns-in-Aes
returns-in-Aes c =
    subst (λ (f : Formulas). IsTrue c.holds.result ↔ IsExhibit f c.args.shown.now)
    (formulas_aes c.args.choices.now _ (sym c.suite_name.ensures ∙ c.in-Aes.is) c.aes_suite.ensures.keys) c.holds.ensures.exhibit

pub returns-in-Weak : goal.returns-in-Weak
returns-in-Weak c =
    subst (λ (f : Formulas). IsTrue c.holds-in-Weak.result ↔ IsExhibit f c.args.shown.now)
    (formulas_weak c.args.choices.now _ (sym c.suite_name.ensures ∙ c.in-Weak.is) c.weak_suite.ensures.keys) c.holds-in-Weak.ensures.exhibit

pub returns-in-Blur : goal.returns-in-Blur
returns-in-Blur c =
    subst (λ (f : Formulas). IsTrue c.holds-in-Blur.result ↔ IsExhibit f c.args.shown.now)
    (formulas_blur c.args.choices.now _ (sym c.suite_name.ensures ∙ c.in-Blur.is) c.weak_suite-in-Blur.ensures.keys) c.holds-in-Blur.ensures.exhibit
