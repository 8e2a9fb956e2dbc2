-- The setup that a new session stands under is the chosen one.
use Rattle.std.proofs.Common.{◌≡◌, ◌∙◌, ℕ, Bool, false, List, ◌++◌, refl, ap, subst}
use Rattle.std.specs.Prelude.{unwrap_or}
use Rattle.pmem_base.specs.Shape.{Shape}
use Rattle.suite.specs.Formulas.{Formulas}
use Rattle.suite.specs.Setup.{Setup}
use Rattle.any_suite.specs.Kinds.{any_formulas}
use Rattle.pmem_replay.specs.Stepped.{HasFormatWork, IsNewWorld}
use Rattle.pmem_replay.specs.World.{WorldState}
use Rattle.pmem_cli.specs.declared.options.Choices.{Choices}
use Rattle.pmem_cli.specs.declared.options.SuiteName.{SuiteName}
use Rattle.pmem_cli.specs.declared.options.SuiteName.TheVariants.{Aes, Weak, Blur}
use Rattle.pmem_cli.specs.Keys.{chosen_key, chosen_tag_key, formulas_named, formulas_of, shape_chosen, setup_chosen}
use Rattle.pmem_cli.specs.Standing.{IsFirstWorld}
use Rattle.pmem_cli.specs.Wear.{IsFirstWear}
use Rattle.pmem_cli.specs.Txn.{IsFirstTxn}
use Rattle.pmem_cli.specs.Tree.{IsFirstTree}
use Rattle.line_session.specs.New.{IsNewByPlan}
use Rattle.wear_session.specs.Planned as wear
use Rattle.wear_session.specs.State.{WearState, IsNewWear}
use Rattle.txn_session.specs.Planned as txn
use Rattle.txn_session.specs.State.{TxnState, IsNewTxn}
use Rattle.tree_session.specs.State.{SessionState, IsNewTree, IsFormattedTree}
use Rattle.any_session.specs.Opened.{IsBegun, keys_named, keys_chosen}

any_named : (name : SuiteName) (keys : List ℕ) → any_formulas (keys_named name keys) ≡ formulas_named name keys
any_named Aes keys = refl
any_named Weak keys = refl
any_named Blur keys = refl

any_chosen : (c : Choices) → any_formulas (keys_chosen c) ≡ formulas_of c
unfolding formulas_of
any_chosen c = any_named (unwrap_or c.suite Aes) (chosen_key c ++ chosen_tag_key c)

setup_same : (c : Choices) (shape : Shape) (formulas : Formulas) → shape ≡ shape_chosen c → formulas ≡ formulas_of c → ◌≡◌ {A = Setup} (record { shape = shape; formulas = formulas }) (setup_chosen c)
unfolding setup_chosen
setup_same c shape formulas its_shape its_formulas = rw (its_shape, its_formulas) refl

-- of the chosen geometry, and of the chosen suite under the chosen keys
is_chosen : (c : Choices) (shape : Shape) (keys : List ℕ) → shape ≡ shape_chosen c → keys ≡ keys_chosen c
    → ◌≡◌ {A = Setup} (record { shape = shape; formulas = any_formulas keys }) (setup_chosen c)
is_chosen c shape keys its_shape its_keys = setup_same c shape (any_formulas keys) its_shape (ap any_formulas its_keys ∙ any_chosen c)

-- a new session of that geometry and suite
pub begun : {S : Type 0} (begins : Setup → S → Type 0) (c : Choices) (logged : Bool) {shape its_shape : Shape} {keys its_keys : List ℕ} {state : S} {its_logged over : Bool}
    → shape ≡ shape_chosen c → keys ≡ keys_chosen c → begins (record { shape = shape; formulas = any_formulas keys }) state
    → its_shape ≡ shape → its_keys ≡ keys → its_logged ≡ logged → over ≡ false
    → IsBegun (begins (setup_chosen c)) c logged state (record { shape = its_shape; formulas = any_formulas its_keys }) its_logged over
begun begins c logged {shape} {its_shape} {keys} {its_keys} {state} chosen chosen_keys new same same_keys log goes_on =
    record {
      new = subst (λ (setup : Setup). begins setup state) (is_chosen c shape keys chosen chosen_keys) new;
      setup = is_chosen c its_shape its_keys (same ∙ chosen) (same_keys ∙ chosen_keys);
      log = log;
      goes_on = goes_on;
    }

-- a new world whose suite had made nothing before is one that a run begins with
pub first_world : (setup : Setup) (counts : ℕ × ℕ × ℕ) (world : WorldState) → counts ≡ (0, 0, 0)
    → IsNewWorld setup world → HasFormatWork setup.shape counts.1 counts.2 world → IsFirstWorld setup world
first_world setup counts world unused new work =
    record { new = new; work = subst (λ (n : ℕ × ℕ × ℕ). HasFormatWork setup.shape n.1 n.2 world) unused work }

-- and so are the new sessions of other kinds
pub first_wear : (setup : Setup) (keys : List ℕ) (every : ℕ) (counts : ℕ × ℕ × ℕ) (state : WearState) → counts ≡ (0, 0, 0) → IsNewWear setup every state
    → IsNewByPlan setup (wear.open_call setup) counts.1 counts.2 state.session → state.session.keys ≡ keys → IsFirstWear setup keys every state
first_wear setup keys every counts state unused new opened same =
    record {
      new = new;
      opened = subst (λ (n : ℕ × ℕ × ℕ). IsNewByPlan setup (wear.open_call setup) n.1 n.2 state.session) unused opened;
      its_keys = same;
    }

pub first_txn : (setup : Setup) (keys : List ℕ) (counts : ℕ × ℕ × ℕ) (state : TxnState) → counts ≡ (0, 0, 0) → IsNewTxn setup state
    → IsNewByPlan setup (txn.open_call setup) counts.1 counts.2 state.session → state.session.keys ≡ keys → IsFirstTxn setup keys state
first_txn setup keys counts state unused new opened same =
    record {
      new = new;
      opened = subst (λ (n : ℕ × ℕ × ℕ). IsNewByPlan setup (txn.open_call setup) n.1 n.2 state.session) unused opened;
      its_keys = same;
    }

pub first_tree : (setup : Setup) (keys : List ℕ) (counts : ℕ × ℕ × ℕ) (state : SessionState) → counts ≡ (0, 0, 0) → IsNewTree setup state
    → IsFormattedTree setup counts.0 counts.1 counts.2 state → state.keys ≡ keys → IsFirstTree setup keys state
first_tree setup keys counts state unused new formatted same =
    record {
      new = new;
      formatted = subst (λ (n : ℕ × ℕ × ℕ). IsFormattedTree setup n.0 n.1 n.2 state) unused formatted;
      its_keys = same;
    }
