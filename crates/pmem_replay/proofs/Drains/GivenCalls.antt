-- A write that was given: its call, and what a drain of it does and answers.
use Rattle.std.proofs.Common.{ℕ, ◌≡◌, ◌≤◌, Bool, true, false, List, Some, None, Err, sym, ap, subst, ◌∙◌, arith}
use Rattle.std.specs.Prelude.{not, Result, length, drop, if◌then◌else◌}
use Rattle.std.proofs.Math.Seq.{drop-append_seam}
use Rattle.pmem_base.specs.declared.lines.Ctr.{Ctr}
use Rattle.pmem_base.specs.declared.answers.Answer.{Answer}
use Rattle.pmem_base.specs.declared.answers.Mark.{Mark}
use Rattle.suite.specs.Setup.{Setup}
use Rattle.plain_model.specs.After.{steps_of, is_cut}
use Rattle.plain_model.specs.Answers.{is_shown}
use Rattle.pmem_engine.specs.declared.fault.Fault.{Fault}
use Rattle.pmem_engine.specs.declared.fault.Fault.TheVariants as Fail
use Rattle.pmem_engine.specs.Outcomes.{is_sealed_by}
use Rattle.watched_board.specs.Watching.{steps_in}
use Rattle.pmem_replay.specs.World.{WorldState, IsPowered, IsWorld}
use Rattle.pmem_replay.specs.EngineCalls.{IsCall, cut_answer}
use Rattle.pmem_replay.specs.Given.{WasWriteGiven, IsWriteGiven}
use Rattle.pmem_replay.specs.Stepped.{HasDrained, IsDrainAnswer}
use Rattle.pmem_replay.proofs.Steps.WorldsAfterCalls.{on_in, cut_counted, uncut_counted}

-- its call of the engine
abbrev pub given_call : (setup : Setup) (old new : WorldState) (port : ℕ) (answer : Result Ctr Fault) → IsWorld setup old
    → (given : WasWriteGiven setup old port answer new) → IsCall setup old new given.engine given.after given.taken
given_call setup old new port answer whole given =
    record {
      world = whole;
      was_on = given.was_on;
      shape = given.shape;
      start = given.start;
      follows = given.follows;
      in_count = given.in_count;
      each_line = given.each_line;
    }

-- a write that was given, once room was made, is drained as a drain answers it
pub given_drained : (setup : Setup) (old new : WorldState) (capacity : ℕ) → old.capacity ≤ capacity → (port : ℕ) (answer : Result Ctr Fault)
    → (given : WasWriteGiven setup (record old { capacity = capacity }) port answer new) (said : Answer)
    → IsDrainAnswer given.write old.ledger new.ledger (steps_in given.taken) answer said
    → new.engine ≡ (if is_cut said then None else Some given.after)
    → new.board.powered ≡ not (is_cut said)
    → (is_shown said ≡ false → steps_of said ≡ steps_in given.taken)
    → HasDrained setup given.write old said new
given_drained setup old new capacity grown port answer given said says kept power steps =
    record {
      engine = given.engine;
      was_on = given.was_on;
      up = given.up;
      after = given.after;
      kept = kept;
      taken = given.taken;
      result = answer;
      down = given.down;
      outcome = given.outcome;
      related = given.written;
      said = says;
      power = power;
      steps = steps;
      capacity = omega (arith, grown, given.capacity);
      cut = cut_counted given.follows power;
      uncut = uncut_counted given.follows power;
    }

-- a cut is answered by whether the new marks seal the write's line
pub cut_says : (setup : Setup) (old new : WorldState) (port : ℕ) (g : WasWriteGiven setup old port (Err Fail.Cut) new) (put : Bool)
    → is_sealed_by g.written.made g.write.at ≡ put
    → cut_answer (Some put) (steps_in g.taken)
    ≡ cut_answer (Some (is_sealed_by (drop (length old.ledger.marks) new.ledger.marks) g.write.at)) (steps_in g.taken)
cut_says setup old new port g put sealed =
    ap (λ (b : Bool). cut_answer (Some b) (steps_in g.taken))
    (sym sealed ∙ ap (λ (ms : List Mark). is_sealed_by ms g.write.at)
    (sym (ap (drop (length old.ledger.marks)) g.marks ∙ drop-append_seam old.ledger.marks g.written.made)))

-- power is on afterwards where the write wasn't cut
pub power_after : (setup : Setup) (old new : WorldState) (port steps : ℕ) (answer : Result Ctr Fault) (put goes : Bool)
    → IsWriteGiven setup old port steps answer put goes new → new.board.powered ≡ goes
power_after setup old new port steps answer put true is =
    is.holds.board.power ∙ (on_in setup new is.given.after is.holds is.engine).powered
power_after setup old new port steps answer put false is =
    is.holds.board.power ∙ (subst (λ e. IsPowered setup new e) is.engine is.holds.chip).unpowered
