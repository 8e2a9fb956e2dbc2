-- The formulas of a named suite under chosen keys.
use Rattle.std.proofs.Common.{◌≡◌, ◌∙◌, ℕ, true, false, List, [], ◌∷◌, ◌++◌, refl, sym, ap}
use Rattle.std.specs.Prelude.{unwrap_or}
use Rattle.suite.specs.Aes.{aes_formulas}
use Rattle.suite.specs.Weak.{weak_formulas, blur_flag}
use Rattle.pmem_cli.specs.declared.options.SuiteName.TheVariants.{Aes, Weak, Blur}
use Rattle.pmem_cli.specs.declared.options.Choices.{Choices}
use Rattle.pmem_base.specs.Shape.{Shape}
use Rattle.suite.specs.Formulas.{Formulas}
use Rattle.suite.specs.Setup.{Setup}
use Rattle.plain_model.specs.Defaults.{default_shape, default_keys, default_setup}
use Rattle.pmem_cli.specs.Words.{no_choices}
use Rattle.pmem_cli.specs.Keys.{chosen_key, chosen_tag_key, suite_keys_named, suite_keys_chosen, formulas_of, shape_chosen, setup_chosen}

pub formulas_aes : (c : Choices) (keys : List ℕ) → unwrap_or c.suite Aes ≡ Aes → keys ≡ chosen_key c ++ chosen_tag_key c → aes_formulas keys ≡ formulas_of c
unfolding formulas_of
formulas_aes c keys name same = rw (name, same) refl

pub formulas_weak : (c : Choices) (keys : List ℕ) → unwrap_or c.suite Aes ≡ Weak → keys ≡ (chosen_key c ++ chosen_tag_key c) ++ blur_flag false ∷ [] → weak_formulas keys ≡ formulas_of c
unfolding formulas_of
formulas_weak c keys name same = rw (name, same) refl

pub formulas_blur : (c : Choices) (keys : List ℕ) → unwrap_or c.suite Aes ≡ Blur → keys ≡ (chosen_key c ++ chosen_tag_key c) ++ blur_flag true ∷ [] → weak_formulas keys ≡ formulas_of c
unfolding formulas_of
formulas_blur c keys name same = rw (name, same) refl

-- the keys themselves
pub keys_aes : (c : Choices) (keys : List ℕ) → unwrap_or c.suite Aes ≡ Aes → keys ≡ chosen_key c ++ chosen_tag_key c → keys ≡ suite_keys_chosen c
keys_aes c keys name same = same ∙ ap (λ n. suite_keys_named n (chosen_key c ++ chosen_tag_key c)) (sym name)

pub keys_weak : (c : Choices) (keys : List ℕ) → unwrap_or c.suite Aes ≡ Weak → keys ≡ (chosen_key c ++ chosen_tag_key c) ++ blur_flag false ∷ [] → keys ≡ suite_keys_chosen c
keys_weak c keys name same = same ∙ ap (λ n. suite_keys_named n (chosen_key c ++ chosen_tag_key c)) (sym name)

pub keys_blur : (c : Choices) (keys : List ℕ) → unwrap_or c.suite Aes ≡ Blur → keys ≡ (chosen_key c ++ chosen_tag_key c) ++ blur_flag true ∷ [] → keys ≡ suite_keys_chosen c
keys_blur c keys name same = same ∙ ap (λ n. suite_keys_named n (chosen_key c ++ chosen_tag_key c)) (sym name)

-- ---- setups

pub setup_same : (c : Choices) (shape : Shape) (formulas : Formulas) → shape ≡ shape_chosen c → formulas ≡ formulas_of c → ◌≡◌ {A = Setup} (record { shape = shape; formulas = formulas }) (setup_chosen c)
unfolding setup_chosen
setup_same c shape formulas its_shape its_formulas = rw (its_shape, its_formulas) refl

-- where nothing is chosen, the defaults
pub setup_default : setup_chosen no_choices ≡ default_setup
unfolding setup_chosen shape_chosen formulas_of no_choices default_setup default_shape default_keys
setup_default = refl

pub setup_defaults : (c : Choices) (shape : Shape) (keys : List ℕ) → c ≡ no_choices → shape ≡ shape_chosen c → keys ≡ chosen_key c ++ chosen_tag_key c
    → ◌≡◌ {A = Setup} (record { shape = shape; formulas = aes_formulas keys }) default_setup
unfolding no_choices
setup_defaults c shape keys none its_shape its_keys =
    setup_same c shape (aes_formulas keys) its_shape (formulas_aes c keys (ap (λ (d : Choices). unwrap_or d.suite Aes) none) its_keys)
    ∙ (ap setup_chosen none ∙ setup_default)
