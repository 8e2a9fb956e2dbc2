-- Each call of the engine owes the world its law.
use Rattle.std.proofs.Common.{ℕ, ◌≡◌, ◌<◌, ◌≤◌, ◌+◌, ◌*◌, inl, inr, Bool, true, false, List, [], Option, Some, None, Err, refl, sym, ap, subst, ◌∙◌, arith}
use Rattle.std.specs.Prelude.{Result, IsSome, MatchBool, ◌==◌, nat_lt}
use Rattle.std.proofs.lemmas.Bool.{true≢false}
use Rattle.std.proofs.lemmas.List.{append-nil}
use Rattle.pmem_base.specs.declared.lines.Line.{Line}
use Rattle.pmem_base.specs.declared.lines.Ctr.{Ctr}
use Rattle.pmem_base.specs.declared.commands.Posted.{Posted}
use Rattle.pmem_base.specs.declared.answers.Mark.{Mark}
use Rattle.pmem_base.specs.declared.answers.Exhibit.{Exhibit}
use Rattle.pmem_base.specs.Layout as layout
use Rattle.board.specs.Device.{Device}
use Rattle.meta_path.specs.Blocks.{bank_dirty_count}
use Rattle.bonsai_tree.specs.Positions.{counter_position}
use Rattle.suite.specs.Setup.{Setup}
use Rattle.plain_model.specs.State.{Memory}
use Rattle.plain_model.specs.View.{plain_line}
use Rattle.pmem_base.specs.Lines.{line_at}
use Rattle.pmem_engine.specs.declared.fault.Fault.{Fault}
use Rattle.pmem_engine.specs.declared.fault.Fault.TheVariants as Fail
use Rattle.pmem_engine.specs.Parts.{Parts, regs_of, HoldsCounters, HoldsMeta}
use Rattle.pmem_engine.specs.Outcomes.{outcome_of, CallEffect, TakesSteps, TakesAtMost, TakesFewer}
use Rattle.pmem_engine.specs.Calls.{moment_in, HasReadLine, HasTurned, HasFlushed, HasSetLoss, HasWrittenLine, AnswersRead, AnswersTurn, AnswersFlush, AnswersLoss, AnswersWrite}
use Rattle.pmem_engine.specs.CallFacts.{IsDownAnswer, CountsTurn, IsCutInLoss}
use Rattle.plain_model.specs.Asked.{marks_of_write}
use Rattle.plain_model.specs.Bounds.{path_length, begun_lines}
use Rattle.pmem_engine.proofs.Laws.PolicyBounds.{begun_most}
use Rattle.watched_board.specs.Watching.{step_limit}
use Rattle.pmem_replay.specs.EngineCalls.{IsCallStart, IsLawful}

-- an exhibit is there
there : (exhibit : Option Exhibit) (its : Exhibit) → exhibit ≡ Some its → IsSome exhibit
there exhibit its is = subst (λ (o : Option Exhibit). IsSome o) (sym is) refl

-- few steps end before the limit
at_most_few : (n : ℕ) (old new : Device) → n < step_limit → TakesAtMost n old new → TakesFewer step_limit old new
at_most_few n old new few it =
    record { writes = it.writes; latches = it.latches; sum = λ writes latches. omega (arith, few, it.sum writes latches) }

fewer_few : (n : ℕ) (old new : Device) → n ≤ step_limit → TakesFewer n old new → TakesFewer step_limit old new
fewer_few n old new few it =
    record { writes = it.writes; latches = it.latches; sum = λ writes latches. omega (arith, few, it.sum writes latches) }

steps_few : (old new : Device) → TakesSteps 0 old new → TakesFewer step_limit old new
steps_few old new it =
    record { writes = it.writes; latches = it.latches; sum = λ writes latches. omega (arith, it.sum writes latches) }

loss_few : (dirty loss n : ℕ) (old new : Parts) → dirty ≤ 512 → IsCutInLoss dirty loss n old new → TakesFewer step_limit old.device new.device
loss_few dirty loss n old new few it = by_same (n == loss) it
  where
    by_less : (less : Bool) → MatchBool less (TakesFewer 1 old.device new.device) (TakesFewer (dirty + 1) old.device new.device)
        → TakesFewer step_limit old.device new.device
    by_less true one = fewer_few 1 old.device new.device (omega arith) one
    by_less false many = fewer_few (dirty + 1) old.device new.device (omega (arith, few)) many

    by_same : (same : Bool)
        → MatchBool same ⊥ (MatchBool (nat_lt loss n) (TakesFewer 1 old.device new.device) (TakesFewer (dirty + 1) old.device new.device))
        → TakesFewer step_limit old.device new.device
    by_same true it = absurd it
    by_same false it = by_less (nat_lt loss n) it

-- a call that makes no mark
markless : {T : Type 0} (setup : Setup) (memory : Memory) (old new : Parts) (answer : Result T Fault) → IsCallStart setup None memory old
    → (IsDownAnswer answer → ⊥) → CallEffect setup (outcome_of answer) [] old new
    → ((page : ℕ) → page < layout.pages setup.shape → HoldsMeta setup.shape old (counter_position setup.shape page)
    → HoldsCounters setup old page → HoldsCounters setup new page)
    → (answer ≡ Err Fail.Shown → IsSome new.ledger.exhibit)
    → (answer ≡ Err Fail.Cut → TakesFewer step_limit old.device new.device)
    → IsLawful setup None memory old new answer
markless setup memory old new answer begun up effect counters exhibit early =
    record {
      made = [];
      up = up;
      effect = effect;
      its_memory =
          subst (λ (ms : List Mark). (a : ℕ) → a < layout.data_lines setup.shape → plain_line setup.formulas ms a ≡ Some (line_at memory a))
          (sym (effect.marks ∙ append-nil old.ledger.marks)) begun.its_memory;
      sealed_before = λ a within sealed other. absurd (true≢false (sym sealed));
      counters = counters;
      exhibit = exhibit;
      early = early;
    }

pub read_lawful : (setup : Setup) (a : ℕ) (memory : Memory) (old new : Parts) (answer : Result Line Fault) → HasReadLine setup a old new answer
    → IsCallStart setup None memory old → IsLawful setup None memory old new answer
read_lawful setup a memory old new answer read begun =
    let done = read.done in
    markless setup memory old new answer begun read.not_down done.gone
    (λ page within meta it. done.counters begun.trusted page within it)
    (λ is.
    elim (subst (λ (r : Result Line Fault). AnswersRead setup a old new r) is (read.answered begun.trusted)) [
      | inl clash ↦ there new.ledger.exhibit _ clash.exhibit
      | inr forged ↦ there new.ledger.exhibit _ forged.exhibit
    ])
    (λ is.
    at_most_few (path_length setup.shape) old.device new.device (omega (arith, begun.whole_shape.at_most_six_levels)) read.steps_of_path.0)

pub flush_lawful : (setup : Setup) (memory : Memory) (old new : Parts) (answer : Result (Option ℕ) Fault) → HasFlushed setup old new answer
    → IsCallStart setup None memory old → IsLawful setup None memory old new answer
flush_lawful setup memory old new answer flush begun =
    let done = flush.done in
    markless setup memory old new answer begun flush.not_down done.gone
    (λ page within meta it. done.counters begun.trusted page within it)
    (λ is. absurd (subst (λ (r : Result (Option ℕ) Fault). AnswersFlush setup.shape old new r) is flush.answered))
    (λ is.
    steps_few old.device new.device (subst (λ (r : Result (Option ℕ) Fault). AnswersFlush setup.shape old new r) is flush.answered).1)

pub loss_lawful : (setup : Setup) (n : ℕ) (memory : Memory) (old new : Parts) (answer : Result ℕ Fault) → HasSetLoss setup n old new answer
    → IsCallStart setup None memory old → IsLawful setup None memory old new answer
loss_lawful setup n memory old new answer set begun =
    markless setup memory old new answer begun set.not_down set.gone
    (λ page within meta it. set.counters begun.trusted page within meta it)
    (λ is. absurd (subst (λ (r : Result ℕ Fault). AnswersLoss setup.shape n old new r) is set.answered))
    (λ is.
    loss_few (bank_dirty_count setup.shape old.engine.cache setup.shape.levels) (regs_of old).loss n old new (begun.few_dirty setup.shape.levels)
    (subst (λ (r : Result ℕ Fault). AnswersLoss setup.shape n old new r) is set.answered).0)

pub turn_lawful : (setup : Setup) (memory : Memory) (old new : Parts) (answer : Result (Option (ℕ × ℕ)) Fault) → HasTurned setup old new answer
    → IsCallStart setup None memory old → IsLawful setup None memory old new answer
turn_lawful setup memory old new answer turn begun =
    let done = turn.done in
    record {
      made = turn.made;
      up = turn.not_down;
      effect = done.gone;
      its_memory = turn.memory_kept begun.trusted memory begun.its_memory;
      sealed_before = λ a within sealed other. turn.sealed_before begun.trusted a within sealed;
      counters = λ page within meta it. done.counters begun.trusted page within it;
      exhibit =
          λ is.
          there new.ledger.exhibit _
          (subst (λ (r : Result (Option (ℕ × ℕ)) Fault). AnswersTurn setup old new r) is (turn.answered begun.trusted)).forged.exhibit;
      early =
          λ is.
          fewer_few 4 old.device new.device (omega arith) (subst (λ (r : Result (Option (ℕ × ℕ)) Fault). CountsTurn old new r) is turn.counts);
    }

pub write_lawful : (setup : Setup) (write : Posted) (memory : Memory) (old new : Parts) (answer : Result Ctr Fault) → HasWrittenLine setup write old new answer
    → IsCallStart setup (Some write) memory old → IsLawful setup (Some write) memory old new answer
write_lawful setup write memory old new answer written begun =
    let done = written.done in
    record {
      made = written.made;
      up = written.not_down;
      effect = done.gone;
      its_memory = written.memory begun.trusted memory begun.within begun.its_memory;
      sealed_before =
          λ a within sealed other.
          written.sealed_before begun.trusted a within sealed (inl (λ same. other (ap (λ (k : ℕ). Some k) (sym same))));
      counters = λ page within meta it. done.counters begun.trusted page within it;
      exhibit =
          λ is.
          elim (subst (λ (r : Result Ctr Fault). AnswersWrite setup (marks_of_write setup.formulas (moment_in setup memory old) write) written.made write old new r) is
          (written.answered begun.trusted memory begun.its_memory)) [
            | inl clash ↦ there new.ledger.exhibit _ clash.1.exhibit
            | inr forged ↦ there new.ledger.exhibit _ forged.forged.exhibit
          ];
      early =
          λ is.
          at_most_few (2 * path_length setup.shape + 262 + 2 * begun_lines setup.shape) old.device new.device
          (omega (arith, begun.whole_shape.at_most_six_levels, begun_most setup.shape begun.whole_shape.persists_path)) written.few_steps;
    }
