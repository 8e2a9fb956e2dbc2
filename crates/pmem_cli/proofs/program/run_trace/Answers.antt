use Rattle.std.proofs.Common.{◌≡◌, ◌∙◌, ℕ, List, sym, subst}
use Rattle.std.specs.Prelude.{◌⊎◌, Option}
use Rattle.pmem_base.specs.Shape.{Shape}
use Rattle.suite.specs.Formulas.{Formulas}
use Rattle.suite.specs.Setup.{Setup}
use Rattle.plain_model.specs.declared.Stop.{Stop}
use Rattle.plain_model.specs.Run.{start}
use Rattle.pmem_cli.specs.declared.options.Choices.{Choices}
use Rattle.pmem_cli.specs.Keys.{setup_chosen, shape_chosen, formulas_of}
use Rattle.pmem_cli.specs.Printed.{Output}
use Rattle.pmem_cli.specs.HasRun.{HasReplayed}
use Rattle.pmem_cli.specs.RepliesFirst.{HasRepliedFirst}
use Rattle.pmem_cli.proofs.KeyLemmas.{formulas_aes, formulas_weak, formulas_blur, setup_same}
use Rattle.pmem_cli.proofs.program.run_trace.Goals as goal

-- a run with equal formulas is one of the chosen setup
same_setup : (c : Choices) (shape : Shape) (formulas : Formulas) (stop : Stop) (trace left : Option (List ℕ)) (p q : Output)
    → shape ≡ shape_chosen c → formulas ≡ formulas_of c → HasReplayed (record { shape = shape; formulas = formulas }) stop trace left p q
    → HasReplayed (setup_chosen c) stop trace left p q
same_setup c shape formulas stop trace left p q its_shape its_formulas =
    subst (λ (setup : Setup). HasReplayed setup stop trace left p q) (setup_same c shape formulas its_shape its_formulas)

same_replied : {T : Type 0} (first last : T) (c : Choices) (shape : Shape) (formulas : Formulas) (trace told : Option (List ℕ)) (p : Output) (put : Option (List ℕ))
    → shape ≡ shape_chosen c → formulas ≡ formulas_of c
    → (last ≡ first) ⊎ HasRepliedFirst (record { shape = shape; formulas = formulas }) (start (record { shape = shape; formulas = formulas })) trace told p put
    → (last ≡ first) ⊎ HasRepliedFirst (setup_chosen c) (start (setup_chosen c)) trace told p put
same_replied first last c shape formulas trace told p put its_shape its_formulas =
    subst (λ (setup : Setup). (last ≡ first) ⊎ HasRepliedFirst setup (start setup) trace told p put) (setup_same c shape formulas its_shape its_formulas)

pub returns-in-Aes-clause-run : goal.returns-in-Aes-clause-run
returns-in-Aes-clause-run g c = λ whole may.
    same_setup c.args.choices.now _ _ c.run_with.result _ _ _ _ c.geometry-geo.ensures
    (formulas_aes c.args.choices.now _ (sym c.suite_name.ensures ∙ c.in-Aes.is) c.aes_suite.ensures.keys) (c.run_with.ensures.run whole may)

pub returns-in-Weak-clause-run : goal.returns-in-Weak-clause-run
returns-in-Weak-clause-run g c = λ whole may.
    same_setup c.args.choices.now _ _ c.run_with-in-Weak.result _ _ _ _ c.geometry-geo.ensures
    (formulas_weak c.args.choices.now _ (sym c.suite_name.ensures ∙ c.in-Weak.is) c.weak_suite.ensures.keys) (c.run_with-in-Weak.ensures.run whole may)

pub returns-in-Blur-clause-run : goal.returns-in-Blur-clause-run
returns-in-Blur-clause-run g c = λ whole may.
    same_setup c.args.choices.now _ _ c.run_with-in-Blur.result _ _ _ _ c.geometry-geo.ensures
    (formulas_blur c.args.choices.now _ (sym c.suite_name.ensures ∙ c.in-Blur.is) c.weak_suite-in-Blur.ensures.keys) (c.run_with-in-Blur.ensures.run whole may)

pub returns-in-Aes-clause-replies_first : goal.returns-in-Aes-clause-replies_first
returns-in-Aes-clause-replies_first g c = λ whole may.
    same_replied _ _ c.args.choices.now _ _ _ _ _ _ c.geometry-geo.ensures
    (formulas_aes c.args.choices.now _ (sym c.suite_name.ensures ∙ c.in-Aes.is) c.aes_suite.ensures.keys) (c.run_with.ensures.replies_first whole may)

pub returns-in-Weak-clause-replies_first : goal.returns-in-Weak-clause-replies_first
returns-in-Weak-clause-replies_first g c = λ whole may.
    same_replied _ _ c.args.choices.now _ _ _ _ _ _ c.geometry-geo.ensures
    (formulas_weak c.args.choices.now _ (sym c.suite_name.ensures ∙ c.in-Weak.is) c.weak_suite.ensures.keys) (c.run_with-in-Weak.ensures.replies_first whole may)

pub returns-in-Blur-clause-replies_first : goal.returns-in-Blur-clause-replies_first
returns-in-Blur-clause-replies_first g c = λ whole may.
    same_replied _ _ c.args.choices.now _ _ _ _ _ _ c.geometry-geo.ensures
    (formulas_blur c.args.choices.now _ (sym c.suite_name.ensures ∙ c.in-Blur.is) c.weak_suite-in-Blur.ensures.keys) (c.run_with-in-Blur.ensures.replies_first whole may)
