-- Two outcomes of one call of the engine: by its plan the result, the parts and the board are the same, and so is what is answered.
use Rattle.std.proofs.Common.{ℕ, ◌≡◌, Bool, true, List, Option, Some, None, sym, ap, ap₂, subst, ◌∙◌, arith}
use Rattle.std.specs.Prelude.{Result, Ok, Err, length, drop, if◌then◌else◌, not}
use Rattle.std.proofs.lemmas.Option.{same_Some}
use Rattle.pmem_base.specs.declared.commands.Posted.{Posted}
use Rattle.pmem_base.specs.declared.answers.Answer.{Answer}
use Rattle.pmem_base.specs.declared.answers.Answer.TheVariants as Say
use Rattle.pmem_base.specs.declared.answers.Exhibit.{Exhibit}
use Rattle.board.specs.Memory.{BoardMemory}
use Rattle.watched_board.specs.declared.taken.Taken.{Taken}
use Rattle.watched_board.specs.Watching.{steps_in}
use Rattle.call_plan.specs.Runs.{IsOutcome}
use Rattle.call_plan.proofs.DeterminedCalls.{call_is_determined}
use Rattle.seal_ledger.specs.Ledger.{LedgerState}
use Rattle.plain_model.specs.After.{is_cut}
use Rattle.pmem_engine.specs.declared.fault.Fault.{Fault}
use Rattle.pmem_engine.specs.declared.fault.Fault.TheVariants as Fail
use Rattle.pmem_engine.specs.Engine.{EngineState, ChipState, on_chip}
use Rattle.call_effects.specs.Outcomes.{is_going}
use Rattle.pmem_engine.specs.Outcomes.{is_sealed_by, outcome_of}
use Rattle.pmem_engine.specs.Parts.{Parts}
use Rattle.pmem_engine.specs.Plans.{Chip, chip_of}
use Rattle.pmem_replay.specs.Planned.{CallPlan}
use Rattle.pmem_replay.specs.EngineCalls.{IsFaultAnswered}
use Rattle.pmem_replay.specs.Stepped.{HasCalled, IsReadAnswer, IsDrainAnswer, IsTurnAnswer, IsFlushAnswer, IsLossAnswer}
use Rattle.pmem_replay.specs.Determined.{AreSameParts}
use Rattle.pmem_replay.specs.World.{WorldState}

-- ---- what a call says

-- a fault has one answer
one_fault : (exhibit : Option Exhibit) (put : Option Bool) (fault : Fault) (steps : ℕ) (x y : Answer) → IsFaultAnswered exhibit put fault steps x
    → IsFaultAnswered exhibit put fault steps y → x ≡ y
one_fault exhibit put Fail.Cut steps x y is its = is ∙ sym its
one_fault exhibit put (Fail.Meta at) steps x y is its = is ∙ sym its
one_fault exhibit put (Fail.Tag at) steps x y is its = is ∙ sym its
one_fault exhibit put (Fail.Spent page) steps x y is its = is ∙ sym its
one_fault exhibit put Fail.Shown steps x y is its =
    is.2 ∙ ap (λ (e : Exhibit). Say.Shown e) (same_Some is.0 its.0 (sym is.1 ∙ its.1)) ∙ sym its.2
one_fault exhibit put Fail.Down steps x y is its = absurd is

-- the ledgers, the steps and the result decide the answer
abbrev pub SaysOne : {T : Type 0} → (LedgerState → LedgerState → ℕ → Result T Fault → Answer → Type 0) → Type 0
SaysOne {T = T} says =
    (before after : LedgerState) (steps : ℕ) (r : Result T Fault) (x y : Answer) → says before after steps r x → says before after steps r y → x ≡ y

pub read_says_one : (waiting : List Posted) → SaysOne (IsReadAnswer waiting)
read_says_one waiting before after steps (Ok line) x y is its = is ∙ sym its
read_says_one waiting before after steps (Err fault) x y is its = one_fault after.exhibit None fault steps x y is its

pub drain_says_one : (write : Posted) → SaysOne (IsDrainAnswer write)
drain_says_one write before after steps (Ok ctr) x y is its = is ∙ sym its
drain_says_one write before after steps (Err fault) x y is its = one_fault after.exhibit (Some (is_sealed_by (drop (length before.marks) after.marks) write.at)) fault steps x y is its

pub turn_says_one : SaysOne IsTurnAnswer
turn_says_one before after steps (Ok None) x y is its = is ∙ sym its
turn_says_one before after steps (Ok (Some turned)) x y is its = is ∙ sym its
turn_says_one before after steps (Err fault) x y is its = one_fault after.exhibit None fault steps x y is its

pub flush_says_one : SaysOne IsFlushAnswer
flush_says_one before after steps (Ok None) x y is its = is ∙ sym its
flush_says_one before after steps (Ok (Some at)) x y is its = is ∙ sym its
flush_says_one before after steps (Err fault) x y is its = one_fault after.exhibit None fault steps x y is its

pub loss_says_one : SaysOne IsLossAnswer
loss_says_one before after steps (Ok taken) x y is its = is ∙ sym its
loss_says_one before after steps (Err fault) x y is its = one_fault after.exhibit None fault steps x y is its

-- ---- the call

-- an engine is its fields, so what is on its chip, and whether it is down
engine_fields : (a b : EngineState) → a.shape ≡ b.shape → a.cache ≡ b.cache → a.mirror ≡ b.mirror → a.down ≡ b.down → a ≡ b
engine_fields a b shape cache mirror down = grind arith

same_engine : (a b : EngineState) → on_chip a ≡ on_chip b → a.down ≡ b.down → a ≡ b
same_engine a b chip down =
    engine_fields a b (ap (λ (c : ChipState). c.shape) chip) (ap (λ (c : ChipState). c.cache) chip) (ap (λ (c : ChipState). c.mirror) chip) down

-- from the same parts, with power on, the answers and the parts afterwards are the same
pub calls_alike : {T : Type 0} {plan : CallPlan T} {relation : Parts → Parts → Result T Fault → Type 0}
    {says : LedgerState → LedgerState → ℕ → Result T Fault → Answer → Type 0} → SaysOne says → (old other a b : WorldState) (x y : Answer)
    → AreSameParts old other → old.board.powered ≡ true → HasCalled plan relation says old a x → HasCalled plan relation says other b y
    → (x ≡ y) × AreSameParts a b
calls_alike {T = T} {plan = plan} {says = says} one old other a b x y same on it its =
    let engine : its.engine ≡ it.engine = same_Some its.engine it.engine (sym its.was_on ∙ sym same.engine ∙ it.was_on) in
    let chip : chip_of its.engine other.ledger other.tags other.digests ≡ chip_of it.engine old.ledger old.tags old.digests =
    cc (engine, same.ledger, same.tags, same.digests) in
    let second : IsOutcome (plan old.board.regs (chip_of it.engine old.ledger old.tags old.digests)) old.board b.board its.taken its.result
    (chip_of its.after b.ledger b.tags b.digests) =
    subst (λ (c : Chip). IsOutcome (plan old.board.regs c) old.board b.board its.taken its.result (chip_of its.after b.ledger b.tags b.digests)) chip
    (subst (λ (m : BoardMemory). IsOutcome (plan m.regs (chip_of its.engine other.ledger other.tags other.digests)) m b.board its.taken its.result
    (chip_of its.after b.ledger b.tags b.digests)) (sym same.board) its.outcome) in
    let both = call_is_determined on it.outcome second in
    let left = both.1 in
    let after : it.after ≡ its.after =
    same_engine it.after its.after (ap (λ (c : Chip). c.engine) left)
    (it.down ∙ ap (λ (r : Result T Fault). not (is_going (outcome_of r))) both.0 ∙ sym its.down) in
    let ledger : a.ledger ≡ b.ledger = ap (λ (c : Chip). c.ledger) left in
    let said : says old.ledger a.ledger (steps_in it.taken) it.result y =
    subst (λ (l : LedgerState). says l a.ledger (steps_in it.taken) it.result y) (sym same.ledger)
    (subst (λ (l : LedgerState). says other.ledger l (steps_in it.taken) it.result y) (sym ledger)
    (subst (λ (t : Taken). says other.ledger b.ledger (steps_in t) it.result y) (sym both.3)
    (subst (λ (r : Result T Fault). says other.ledger b.ledger (steps_in its.taken) r y) (sym both.0) its.said))) in
    let answer = one old.ledger a.ledger (steps_in it.taken) it.result x y it.said said in (
      answer,
      record {
        board = both.2;
        engine =
            it.kept
            ∙ ap₂ (λ (z : Answer) (e : EngineState). if is_cut z then None else Some e) answer after
            ∙ sym its.kept;
        ledger = ledger;
        tags = ap (λ (c : Chip). c.tags) left;
        digests = ap (λ (c : Chip). c.digests) left;
      },
    )
