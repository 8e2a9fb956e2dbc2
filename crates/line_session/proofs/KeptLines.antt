-- Sound lines stay sound in the calls of a store, or power is cut.
use Rattle.std.proofs.Common.{ℕ, ◌≡◌, ◌≤◌, ◌++◌, Bool, true, false, List, length, Result, Ok, Err, ap, ◌∙◌, arith, rules}
use Rattle.std.specs.Prelude.{◌||◌, not}
use Rattle.line_session.proofs.Common.{length-append, Line, Mark, Posted, Setup, EngineState, Fault, Parts, AreSound, HasReadLine, AreDone, AreCut, none_done, read_done, read_cut}
use Rattle.pmem_engine.specs.declared.fault.Fault.TheVariants as Fail
use Rattle.call_effects.specs.Outcomes.{Outcome, is_going}
use Rattle.pmem_engine.specs.Outcomes.{outcome_of}
use Rattle.line_session.specs.Kept.{IsLeft, is_call_cut}

module _ (setup : Setup) (from to : Parts) (writes : List Posted) (made : List Mark) (most : ℕ) (engine : EngineState) where
  grown : to.ledger.marks ≡ from.ledger.marks ++ made → length from.ledger.marks ≤ length to.ledger.marks
  grown marks = omega (arith, ap length marks, length-append from.ledger.marks made)

  pub done_left : AreDone setup from writes made most to → engine.down ≡ false → IsLeft setup false engine from to
  done_left done up = record { marks = grown done.marks; ends = record { sound = done.sound; live = done.live; running = up } }

  pub cut_left : AreCut setup from writes made most to → IsLeft setup true engine from to
  cut_left cut = record { marks = grown cut.marks; ends = record { durable = cut.durable; dark = cut.dark; small_group = cut.small_group } }

-- an engine that was up is so after an outcome that goes on
pub still_up : (old new : Bool) (outcome : Outcome) → old ≡ false → new ≡ (old || not (is_going outcome)) → is_going outcome ≡ true → new ≡ false
still_up old new outcome up after goes = after ∙ ap (λ b. b || not (is_going outcome)) up ∙ ap not goes

-- a line is read
pub read_keeps : (setup : Setup) (place : ℕ) (from to : Parts) (old new : EngineState) (answer : Result Line Fault) → HasReadLine setup place from to answer
    → new.down ≡ (old.down || not (is_going (outcome_of answer))) → old.down ≡ false → from.device.live ≡ true → AreSound setup from
    → IsLeft setup (is_call_cut answer) new from to
read_keeps setup place from to old new (Ok line) it after up live sound = search (rules, done_left, read_done, none_done, still_up)
read_keeps setup place from to old new (Err Fail.Cut) it after up live sound = search (rules, cut_left, read_cut, none_done)
read_keeps setup place from to old new (Err (Fail.Spent page)) it after up live sound = absurd it.possible
read_keeps setup place from to old new (Err fault) it after up live sound = absurd (it.unrefused sound)
