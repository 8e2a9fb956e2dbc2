use Rattle.std.proofs.Common.{ℕ, List, ◌∙◌, sym}
use Rattle.suite.specs.Setup.{Setup}
use Rattle.pmem_cli.specs.Keys.{every_chosen}
use Rattle.pmem_cli.specs.Wear.{levelled_session}
use Rattle.pmem_cli.proofs.KeyLemmas.{formulas_aes, formulas_weak, formulas_blur, keys_aes, keys_weak, keys_blur}
use Rattle.pmem_cli.proofs.SessionLemmas.{conversed_as, said_as}
use Rattle.pmem_cli.proofs.wear.wear_trace.Goals as goal

pub returns-in-Aes-clause-talked : goal.returns-in-Aes-clause-talked
returns-in-Aes-clause-talked g c = λ whole may.
    conversed_as (λ (setup : Setup) (keys : List ℕ). levelled_session setup keys (every_chosen c.args.choices.now)) c.args.choices.now.log c.args.choices.now _ _ _ c.wear_with.result _ _ _ _ c.geometry-geo.ensures
    (formulas_aes c.args.choices.now _ (sym c.suite_name.ensures ∙ c.in-Aes.is) c.aes_suite.ensures.keys)
    (keys_aes c.args.choices.now _ (sym c.suite_name.ensures ∙ c.in-Aes.is) c.aes_suite.ensures.keys) ((rw c.every-every.ensures.every at c.wear_with.ensures.talked) whole may)

pub returns-in-Aes-clause-replies_first : goal.returns-in-Aes-clause-replies_first
returns-in-Aes-clause-replies_first g c = λ whole may.
    said_as (λ (setup : Setup) (keys : List ℕ). levelled_session setup keys (every_chosen c.args.choices.now)) c.args.choices.now.log _ _ c.args.choices.now _ _ _ _ _ _ _ c.geometry-geo.ensures
    (formulas_aes c.args.choices.now _ (sym c.suite_name.ensures ∙ c.in-Aes.is) c.aes_suite.ensures.keys)
    (keys_aes c.args.choices.now _ (sym c.suite_name.ensures ∙ c.in-Aes.is) c.aes_suite.ensures.keys) ((rw c.every-every.ensures.every at c.wear_with.ensures.replies_first) whole may)

pub returns-in-Weak-clause-talked : goal.returns-in-Weak-clause-talked
returns-in-Weak-clause-talked g c = λ whole may.
    conversed_as (λ (setup : Setup) (keys : List ℕ). levelled_session setup keys (every_chosen c.args.choices.now)) c.args.choices.now.log c.args.choices.now _ _ _ c.wear_with-in-Weak.result _ _ _ _ c.geometry-geo.ensures
    (formulas_weak c.args.choices.now _ (sym c.suite_name.ensures ∙ c.in-Weak.is) c.weak_suite-suite.ensures.keys)
    (keys_weak c.args.choices.now _ (sym c.suite_name.ensures ∙ c.in-Weak.is) c.weak_suite-suite.ensures.keys) ((rw c.every-every.ensures.every at c.wear_with-in-Weak.ensures.talked) whole may)

pub returns-in-Weak-clause-replies_first : goal.returns-in-Weak-clause-replies_first
returns-in-Weak-clause-replies_first g c = λ whole may.
    said_as (λ (setup : Setup) (keys : List ℕ). levelled_session setup keys (every_chosen c.args.choices.now)) c.args.choices.now.log _ _ c.args.choices.now _ _ _ _ _ _ _ c.geometry-geo.ensures
    (formulas_weak c.args.choices.now _ (sym c.suite_name.ensures ∙ c.in-Weak.is) c.weak_suite-suite.ensures.keys)
    (keys_weak c.args.choices.now _ (sym c.suite_name.ensures ∙ c.in-Weak.is) c.weak_suite-suite.ensures.keys) ((rw c.every-every.ensures.every at c.wear_with-in-Weak.ensures.replies_first) whole may)

pub returns-in-Blur-clause-talked : goal.returns-in-Blur-clause-talked
returns-in-Blur-clause-talked g c = λ whole may.
    conversed_as (λ (setup : Setup) (keys : List ℕ). levelled_session setup keys (every_chosen c.args.choices.now)) c.args.choices.now.log c.args.choices.now _ _ _ c.wear_with-in-Blur.result _ _ _ _ c.geometry-geo.ensures
    (formulas_blur c.args.choices.now _ (sym c.suite_name.ensures ∙ c.in-Blur.is) c.weak_suite-suite-in-Blur.ensures.keys)
    (keys_blur c.args.choices.now _ (sym c.suite_name.ensures ∙ c.in-Blur.is) c.weak_suite-suite-in-Blur.ensures.keys) ((rw c.every-every.ensures.every at c.wear_with-in-Blur.ensures.talked) whole may)

pub returns-in-Blur-clause-replies_first : goal.returns-in-Blur-clause-replies_first
returns-in-Blur-clause-replies_first g c = λ whole may.
    said_as (λ (setup : Setup) (keys : List ℕ). levelled_session setup keys (every_chosen c.args.choices.now)) c.args.choices.now.log _ _ c.args.choices.now _ _ _ _ _ _ _ c.geometry-geo.ensures
    (formulas_blur c.args.choices.now _ (sym c.suite_name.ensures ∙ c.in-Blur.is) c.weak_suite-suite-in-Blur.ensures.keys)
    (keys_blur c.args.choices.now _ (sym c.suite_name.ensures ∙ c.in-Blur.is) c.weak_suite-suite-in-Blur.ensures.keys) ((rw c.every-every.ensures.every at c.wear_with-in-Blur.ensures.replies_first) whole may)
