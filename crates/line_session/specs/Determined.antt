-- That the relations of a session's calls leave nothing open: of two outcomes of one call, both are the same.
use Rattle.std.specs.Prelude.{ℕ, ◌≡◌, Result}
use Rattle.suite.specs.Setup.{Setup}
use Rattle.line_session.specs.New.{IsNewByPlan}
use Rattle.line_session.specs.State.{LineSession, IsNewSession}
use Rattle.line_session.specs.StoreCalls.{CallPlan, HasCalledStore}
use Rattle.line_session.specs.declared.starts.StartFault.{StartFault}
use Rattle.line_session.specs.Started.{HasStarted}

abbrev pub CallsAreDetermined : Type 0 → Type 0 → Type 0
CallsAreDetermined F A =
    (plan : CallPlan F A) (steps more : ℕ) (end other : Result A F) (old a b : LineSession) → HasCalledStore plan steps end old a
    → HasCalledStore plan more other old b → (end ≡ other) × (steps ≡ more) × (a ≡ b)

-- two new sessions of one setup, whose lines were opened along one plan and whose suites had made as many tags and digests
-- before, are the same
abbrev pub NewSessionsAreDetermined : Type 0 → Type 0 → Type 0
NewSessionsAreDetermined F A =
    (setup : Setup) (opening : CallPlan F A) (tags digests : ℕ) (a b : LineSession) → IsNewSession setup a → IsNewSession setup b
    → IsNewByPlan setup opening tags digests a → IsNewByPlan setup opening tags digests b → a.keys ≡ b.keys → a ≡ b

abbrev pub StartsAreDetermined : Type 0 → Type 0 → Type 0
StartsAreDetermined F A =
    (setup : Setup) (opening : CallPlan F A) (steps more : ℕ) (end other : Result A (StartFault F)) (old a b : LineSession)
    → HasStarted setup opening steps end old a → HasStarted setup opening more other old b → (end ≡ other) × (steps ≡ more) × (a ≡ b)
