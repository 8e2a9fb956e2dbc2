-- Answers as contracts write them.
use Rattle.std.proofs.Common.{ℕ, ◌≡◌, ◌<◌, true, Option, None, refl, sym, ap, subst, rules}
use Rattle.wear_session.proofs.Common.{lt-ltb, Setup, WearCommand, WearAnswer, WearState, wear_lines_in, IsWearCalled, wear_of_line, wear_decided, wear_after_decided, IsWearServed, IsWearAnswered, IsWearAnsweredAs}
use Rattle.wear_session.specs.declared.commands.WearCommand.TheVariants as Do

-- with power on and a line that there is, the inner answer holds
pub of_line_is : (state : WearState) (a : ℕ) (answer : Option WearAnswer) → state.session.board.powered ≡ true → a < wear_lines_in state → wear_of_line state a answer ≡ answer
of_line_is state a answer lit low = search (rules, lt-ltb)

-- if the state decides nothing, the engine does
pub served : (setup : Setup) (old new : WearState) (command : WearCommand) (answer : WearAnswer) → wear_decided old command ≡ None
    → IsWearServed setup old command answer new → IsWearCalled setup old command answer new → IsWearAnswered setup old command answer new
served setup old new command answer none it called = subst (λ d. IsWearAnsweredAs d setup old command answer new) (sym none) (it, called)

-- ---- what no answer changes

-- geometry, keys, and after how many writes the gap moves
pub record IsKept (old new : WearState) : Type 0 where
  pub shape : new.session.shape ≡ old.session.shape
  pub keys : new.session.keys ≡ old.session.keys
  pub every : new.every ≡ old.every

kept_decided : (old : WearState) (command : WearCommand) → IsKept old (wear_after_decided old command)
kept_decided old Do.Off = search rules
kept_decided old command = record { shape = refl; keys = refl; every = refl }

kept_called : (setup : Setup) (old new : WearState) (command : WearCommand) (answer : WearAnswer) → IsWearCalled setup old command answer new → IsKept old new
kept_called setup old new (Do.Read a) answer it = record { shape = it.0.called.shape; keys = it.0.called.keys; every = ap (λ (s : WearState). s.every) it.1 }
kept_called setup old new (Do.Write a plain) answer it = record { shape = it.0.called.shape; keys = it.0.called.keys; every = ap (λ (s : WearState). s.every) it.1 }
kept_called setup old new Do.On answer it = record { shape = it.0.called.shape; keys = it.0.called.keys; every = ap (λ (s : WearState). s.every) it.1 }
kept_called setup old new command answer it = absurd it.0

pub kept_always : (setup : Setup) (old new : WearState) (command : WearCommand) (answer : WearAnswer) → IsWearAnswered setup old command answer new
    → IsKept old new
kept_always setup old new command answer it = search rules
