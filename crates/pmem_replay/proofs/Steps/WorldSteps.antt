-- A step of the world, by what became of its parts.
use Rattle.std.proofs.Common.{ℕ, ◌≡◌, ◌++◌, false, List, Some, None, IsTrue, sym, ap, subst, ◌∙◌}
use Rattle.std.specs.Prelude.{MatchOption}
use Rattle.std.proofs.lemmas.Bool.{or_right}
use Rattle.std.proofs.lemmas.List.{append-nil}
use Rattle.pmem_base.specs.declared.commands.Command.{Command}
use Rattle.pmem_base.specs.declared.answers.Answer.{Answer}
use Rattle.pmem_base.specs.Ranges.{IsAnswer}
use Rattle.suite.specs.Formulas.{Formulas}
use Rattle.suite.specs.Setup.{Setup}
use Rattle.plain_model.specs.State.{Reply}
use Rattle.plain_model.specs.After.{state_after}
use Rattle.plain_model.specs.Answers.{decided_answer, is_table_answer, is_engine_answer, is_answer_to, is_shown}
use Rattle.plain_model.specs.Fits.{Fits}
use Rattle.pmem_replay.specs.World.{WorldState, IsWorld, view_in, setup_of_world}
use Rattle.pmem_replay.specs.Stepped.{IsByTable, IsCommandDone, IsSeenOnDevice, HasStepped}
use Rattle.pmem_replay.specs.Replies.{without_marks}
use Rattle.pmem_replay.proofs.Steps.GoodReplies.{IsGood}
use Rattle.pmem_replay.proofs.Steps.MarklessCalls.{legal_undecided}
use Rattle.pmem_replay.proofs.Table.TableLaws.{legal_decided}

-- geometry, keys and first counts stay
pub record IsSameRun (old new : WorldState) : Type 0 where
  pub shape : new.shape ≡ old.shape
  pub keys : new.keys ≡ old.keys
  pub start : new.start ≡ old.start

-- a command that the table answers
pub stepped_by_table : (setup : Setup) (old new : WorldState) (command : Command) (answer : Answer)
    → decided_answer setup.shape old.state command ≡ Some answer
    → IsTrue (is_answer_to command answer) → IsAnswer answer
    → Fits setup old.state (view_in setup old) command (without_marks answer)
    → IsSameRun old new → new.shown ≡ is_shown answer
    → IsByTable old command answer new
    → new.state ≡ state_after setup.shape old.state command (without_marks answer)
    → IsWorld setup new
    → IsSeenOnDevice setup old command answer new
    → HasStepped setup old command (without_marks answer) new
stepped_by_table setup old new command answer decided listed in_range fits same shown table state world seen =
    record {
      same_shape = same.shape;
      same_keys = same.keys;
      same_start = same.start;
      listed = listed;
      in_range = in_range;
      legal = legal_decided setup old.state (view_in setup old) command (without_marks answer) decided;
      fits = fits;
      marks = ap (λ ledger. ledger.marks) table.ledger ∙ sym (append-nil old.ledger.marks);
      shown = shown;
      state = λ unshown. state;
      holds = λ unshown. world;
      parts =
          subst (λ decided. MatchOption decided (IsCommandDone setup old command answer new) (λ answer. IsByTable old command answer new))
          (sym decided) table;
      seen = seen;
    }

-- a command that the engine, recovery or a look answers
pub stepped_by_engine : (setup : Setup) (old new : WorldState) (command : Command) (reply : Reply)
    → decided_answer setup.shape old.state command ≡ None
    → IsGood setup old command reply → IsAnswer reply.answer
    → IsSameRun old new → new.shown ≡ is_shown reply.answer
    → new.ledger.marks ≡ old.ledger.marks ++ reply.marks
    → (is_shown reply.answer ≡ false → new.state ≡ state_after setup.shape old.state command reply)
    → (is_shown reply.answer ≡ false → IsWorld setup new)
    → IsCommandDone setup old command reply.answer new
    → IsSeenOnDevice setup old command reply.answer new
    → HasStepped setup old command reply new
stepped_by_engine setup old new command reply undecided good in_range same shown marks state world worked seen =
    record {
      same_shape = same.shape;
      same_keys = same.keys;
      same_start = same.start;
      listed = or_right (is_table_answer command reply.answer) (is_engine_answer command reply.answer) good.legal.legal.listed;
      in_range = in_range;
      legal = legal_undecided setup old.state (view_in setup old) command reply undecided good.legal;
      fits = good.fits;
      marks = marks;
      shown = shown;
      state = state;
      holds = world;
      parts =
          subst (λ decided. MatchOption decided (IsCommandDone setup old command reply.answer new) (λ answer. IsByTable old command answer new))
          (sym undecided) worked;
      seen = seen;
    }

-- what a world holds after a step
pub holds_after : (formulas_of : List ℕ → Formulas) (old new : WorldState) (command : Command) (reply : Reply)
    → HasStepped (setup_of_world formulas_of old) old command reply new → new.shown ≡ false
    → IsWorld (setup_of_world formulas_of new) new
holds_after formulas_of old new command reply step unshown =
    subst (λ setup. IsWorld setup new) (sym (same_setup step.same_shape step.same_keys)) (step.holds (sym step.shown ∙ unshown))
  where
    same_setup : new.shape ≡ old.shape → new.keys ≡ old.keys → setup_of_world formulas_of new ≡ setup_of_world formulas_of old
    same_setup shape keys =
        ap (λ g. record { shape = g; formulas = formulas_of new.keys }) shape
        ∙ ap (λ k. record { shape = old.shape; formulas = formulas_of k }) keys
