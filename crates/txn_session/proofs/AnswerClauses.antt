-- Answers as contracts write them.
use Rattle.std.proofs.Common.{ℕ, ◌≡◌, ◌<◌, true, false, [], ◌∷◌, Some, None, refl, sym, ap, subst, rules}
use Rattle.txn_session.proofs.Common.{if◌then◌else◌, lt-ltb, Setup, TxnCommand, TxnAnswer, TxnState, Entries, txn_lines_in, IsTxnCalled, committed, line_held, txn_decided, txn_after_decided, IsTxnServed, IsTxnAnswered, IsTxnAnsweredAs}
use Rattle.txn_session.specs.declared.commands.TxnCommand.TheVariants as Do
use Rattle.txn_session.specs.declared.answers.TxnAnswer.TheVariants as Say

-- ---- if the state decides nothing

pub read_undecided : (state : TxnState) (a : ℕ) → state.session.board.powered ≡ true → a < txn_lines_in state → line_held state a ≡ None
    → txn_decided state (Do.Read a) ≡ None
read_undecided state a lit low none = search (rules, lt-ltb)

uncommitted : (entries : Entries) → (entries ≡ [] → ⊥) → committed entries ≡ None
uncommitted [] some = absurd (some refl)
uncommitted (entry ∷ entries) some = refl

pub commit_undecided : (state : TxnState) (entries : Entries) → state.session.board.powered ≡ true → state.txn ≡ Some entries → (entries ≡ [] → ⊥)
    → txn_decided state Do.Commit ≡ None
commit_undecided state entries lit there some = search (rules, uncommitted)

pub on_undecided : (state : TxnState) → state.session.board.powered ≡ false → txn_decided state Do.On ≡ None
on_undecided state dark = ap (λ b. if b then Some Say.Already else None) dark

-- the engine does
pub served : (setup : Setup) (old new : TxnState) (command : TxnCommand) (answer : TxnAnswer) → txn_decided old command ≡ None
    → IsTxnServed setup old command answer new → IsTxnCalled setup old command answer new → IsTxnAnswered setup old command answer new
served setup old new command answer none it called = subst (λ d. IsTxnAnsweredAs d setup old command answer new) (sym none) (it, called)

-- ---- what no answer changes

-- geometry and keys
pub record IsKept (old new : TxnState) : Type 0 where
  pub shape : new.session.shape ≡ old.session.shape
  pub keys : new.session.keys ≡ old.session.keys

kept_decided : (old : TxnState) (command : TxnCommand) (answer : TxnAnswer) → IsKept old (txn_after_decided old command answer)
kept_decided old Do.Begin Say.Ok = record { shape = refl; keys = refl }
kept_decided old (Do.Put a line) Say.Ok = record { shape = refl; keys = refl }
kept_decided old Do.Commit (Say.Applied steps) = record { shape = refl; keys = refl }
kept_decided old Do.Abort Say.Ok = record { shape = refl; keys = refl }
kept_decided old (Do.Cut n) answer = record { shape = refl; keys = refl }
kept_decided old Do.Off Say.Ok = record { shape = refl; keys = refl }
kept_decided old command answer = record { shape = refl; keys = refl }

kept_called : (setup : Setup) (old new : TxnState) (command : TxnCommand) (answer : TxnAnswer) → IsTxnCalled setup old command answer new → IsKept old new
kept_called setup old new (Do.Read a) answer it = record { shape = it.0.called.shape; keys = it.0.called.keys }
kept_called setup old new Do.Commit answer it = record { shape = it.0.called.shape; keys = it.0.called.keys }
kept_called setup old new Do.On answer it = record { shape = it.0.called.shape; keys = it.0.called.keys }
kept_called setup old new command answer it = absurd it.0

pub kept_always : (setup : Setup) (old new : TxnState) (command : TxnCommand) (answer : TxnAnswer) → IsTxnAnswered setup old command answer new
    → IsKept old new
kept_always setup old new command answer it = search rules
