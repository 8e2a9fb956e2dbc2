-- Two outcomes of one call of a session are the same.
use Rattle.std.proofs.Common.{ℕ, ◌≡◌, true, cond, Some, None, Result, refl, sym, ap, ◌∙◌, [], Err, arith, rules}
use Rattle.line_session.proofs.Common.{same_Some, Setup, steps_in, LineSession, chip_in, CallPlan, HasCalledStore, StartFault, HasStarted, RecFault, zero_line, ChipState}
use Rattle.call_plan.proofs.DeterminedCalls.{call_is_determined}
use Rattle.line_session.specs.Answered.{CallRelation, IsAnsweredBy}
use Rattle.line_session.specs.Started.{IsRefusedFrom}
use Rattle.line_session.specs.State.{at_rest}
use Rattle.line_session.specs.declared.starts.StartFault.TheVariants.{Recovery}
use Rattle.pmem_base.specs.declared.answers.Exhibit.{Exhibit}
use Rattle.pmem_base.specs.declared.answers.Exhibit.TheVariants as Show
use Rattle.pmem_recovery.specs.declared.faults.RecFault.TheVariants as Rec

-- a session is its fields
same_session : (a b : LineSession) → a.shape ≡ b.shape → a.keys ≡ b.keys → a.board ≡ b.board → a.engine ≡ b.engine → a.ledger ≡ b.ledger
    → a.tags ≡ b.tags → a.digests ≡ b.digests → a ≡ b
same_session a b shape keys board engine ledger tags digests = grind arith

-- what is left of the engine
same_kept : (a b : LineSession) (x y : ChipState) → a.engine ≡ cond a.board.powered (Some x) None → b.engine ≡ cond b.board.powered (Some y) None
    → a.board ≡ b.board → x ≡ y → a.engine ≡ b.engine
same_kept a b x y kept its board same = cc

-- sessions with the same board, chip, geometry and keys
pub same_after : (a b : LineSession) (x y : ChipState) → a.engine ≡ cond a.board.powered (Some x) None → b.engine ≡ cond b.board.powered (Some y) None
    → a.shape ≡ b.shape → a.keys ≡ b.keys → a.board ≡ b.board → chip_in a x ≡ chip_in b y → a ≡ b
same_after a b x y kept its shape keys board chip = search (rules, same_session, same_kept)

pub call_determined : {F A : Type 0} (plan : CallPlan F A) (steps more : ℕ) (end other : Result A F) (old a b : LineSession)
    → HasCalledStore plan steps end old a → HasCalledStore plan more other old b → (end ≡ other) × (steps ≡ more) × (a ≡ b)
call_determined plan steps more end other old a b it its = search (rules, same_Some, call_is_determined, same_after)

pub start_determined : {F A : Type 0} (setup : Setup) (opening : CallPlan F A) (steps more : ℕ) (end other : Result A (StartFault F))
    (old a b : LineSession) → HasStarted setup opening steps end old a → HasStarted setup opening more other old b
    → (end ≡ other) × (steps ≡ more) × (a ≡ b)
start_determined setup opening steps more end other old a b it its =
    let same = call_is_determined refl it.outcome its.outcome in (
      same.0,
      it.its_steps ∙ ap steps_in same.3 ∙ sym its.its_steps,
      same_after a b it.after its.after it.kept its.kept (it.shape ∙ sym its.shape) (it.keys ∙ sym its.keys) same.2 same.1,
    )

-- what is said after a call that leaves nothing open leaves nothing open
answer_determined : {F A W : Type 0} (calls : CallRelation F A) (says : LineSession → ℕ → Result A F → W) (said other : W) (old a b : LineSession)
    → ((steps more : ℕ) (end last : Result A F) → calls steps end old a → calls more last old b → (end ≡ last) × (steps ≡ more) × (a ≡ b))
    → IsAnsweredBy calls says said old a → IsAnsweredBy calls says other old b → (said ≡ other) × (a ≡ b)
answer_determined calls says said other old a b determined it its = search rules

pub called_answer : {F A W : Type 0} (plan : CallPlan F A) (says : LineSession → ℕ → Result A F → W) (said other : W) (old a b : LineSession)
    → IsAnsweredBy (HasCalledStore plan) says said old a → IsAnsweredBy (HasCalledStore plan) says other old b → (said ≡ other) × (a ≡ b)
called_answer plan says said other old a b = search (rules, answer_determined, call_determined)

pub started_answer : {F A W : Type 0} (setup : Setup) (opening : CallPlan F A) (says : LineSession → ℕ → Result A (StartFault F) → W) (said other : W)
    (old a b : LineSession) → IsAnsweredBy (HasStarted setup opening) says said old a → IsAnsweredBy (HasStarted setup opening) says other old b
    → (said ≡ other) × (a ≡ b)
started_answer setup opening says said other old a b = search (rules, answer_determined, start_determined)

-- ---- recovery that refuses

abbrev refusal_in : {F A : Type 0} → RecFault → Result A (StartFault F) → RecFault
refusal_in other (Err (Recovery fault)) = fault
refusal_in other end = other

-- it tells one reason, and leaves one session
pub refusal_determined : {F A : Type 0} (setup : Setup) (opening : CallPlan F A) (old : LineSession) (one other : RecFault) (a b : LineSession)
    → IsRefusedFrom setup opening old one a → IsRefusedFrom setup opening old other b → (one ≡ other) × (a ≡ b)
refusal_determined setup opening old one other a b it its =
    let same =
    start_determined setup opening it.steps its.steps (Err (Recovery one)) (Err (Recovery other)) old it.lit its.lit it.started its.started in
    (ap (refusal_in one) same.0, it.rests ∙ ap at_rest same.2 ∙ sym its.rests)

-- so no start that left power off is one of a recovery that refused
pub refusal_alone : {F A : Type 0} (setup : Setup) (opening : CallPlan F A) (steps : ℕ) (end : Result A (StartFault F)) (old new left : LineSession)
    (fault : RecFault) → HasStarted setup opening steps end old new → IsRefusedFrom setup opening old fault left
    → (end ≡ Err (Recovery fault)) × (new.board.powered ≡ true)
refusal_alone setup opening steps end old new left fault it refused =
    let same = start_determined setup opening steps refused.steps end (Err (Recovery fault)) old new refused.lit it refused.started in
    (same.0, ap (λ (s : LineSession). s.board.powered) same.2 ∙ refused.powered)

-- the exhibit of a twin
abbrev pub twin_in : RecFault → Exhibit
twin_in (Rec.Twin at major low high cipher tag) = Show.Twin at major low high cipher tag
twin_in fault = Show.Twin 0 0 0 0 zero_line []
