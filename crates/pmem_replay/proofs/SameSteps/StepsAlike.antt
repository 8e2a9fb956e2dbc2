-- Two outcomes of one step: what the table answers, a call, a fence, a look and the counts.
use Rattle.std.proofs.Common.{ℕ, ◌≡◌, ◌-◌, ◌++◌, inl, inr, Bool, true, false, List, length, Option, Some, None, refl, sym, ap, ap₂, subst, ◌∙◌, arith}
use Rattle.std.specs.Prelude.{MatchOption, drop, if◌then◌else◌}
use Rattle.std.proofs.lemmas.Bool.{cases_lt}
use Rattle.std.proofs.lemmas.Option.{none-some}
use Rattle.std.proofs.Math.Seq.{drop-append_seam}
use Rattle.pmem_base.specs.declared.commands.Posted.{Posted}
use Rattle.pmem_base.specs.declared.commands.Command.{Command}
use Rattle.pmem_base.specs.declared.commands.Command.TheVariants as Do
use Rattle.pmem_base.specs.declared.answers.Answer.{Answer}
use Rattle.pmem_base.specs.declared.answers.Answer.TheVariants as Say
use Rattle.pmem_base.specs.declared.answers.Mark.{Mark}
use Rattle.pmem_base.specs.declared.answers.Stat.{Stat}
use Rattle.pmem_base.specs.Counts.{last_count}
use Rattle.pmem_base.specs.Lines.{line_at}
use Rattle.pmem_base.specs.WaitingWrites.{queue_of, writes_to}
use Rattle.board.specs.Memory.{BoardMemory}
use Rattle.seal_ledger.specs.Ledger.{LedgerState}
use Rattle.suite.specs.Setup.{Setup}
use Rattle.plain_model.specs.State.{PlainState, Reply}
use Rattle.plain_model.specs.After.{state_after}
use Rattle.plain_model.specs.Answers.{decided_answer, is_shown}
use Rattle.plain_model.specs.Legal.{front_of}
use Rattle.plain_model.specs.Shown.{IsEngineReply, IsLegal}
use Rattle.pmem_engine.specs.Engine.{EngineState}
use Rattle.pmem_replay.specs.World.{WorldState, IsWorld, AreExact, view_in}
use Rattle.pmem_engine.specs.Calls.{HasReadLine}
use Rattle.pmem_replay.specs.Planned.{plan_of_read}
use Rattle.pmem_replay.specs.Stepped.{HasCalled, IsReadAnswer, IsByTable, HasDrained, HasFenced, IsStatOf, IsStatAnswer, IsCommandDone, HasStepped, board_after, engine_after}
use Rattle.pmem_replay.specs.Determined.{AreSameParts, AreAlike, AreSameWorlds}
use Rattle.pmem_replay.proofs.Steps.WorldsAfterCalls.{on_in}
use Rattle.pmem_replay.proofs.SameSteps.CallsAlike.{calls_alike, read_says_one, drain_says_one, turn_says_one, flush_says_one, loss_says_one}
use Rattle.pmem_replay.proofs.SameSteps.FencesAlike.{fences_alike}
use Rattle.pmem_replay.proofs.SameSteps.RecoveriesAlike.{recoveries_alike}

-- ---- the counts

same_stat : (x y : Stat) → x.reads ≡ y.reads → x.writes ≡ y.writes → x.latches ≡ y.latches → x.tags ≡ y.tags → x.digests ≡ y.digests → x ≡ y
same_stat x y reads writes latches tags digests =
    ap (λ (n : ℕ). record x { reads = n }) reads
    ∙ ap (λ (n : ℕ). record x { reads = y.reads; writes = n }) writes
    ∙ ap (λ (n : ℕ). record x { reads = y.reads; writes = y.writes; latches = n }) latches
    ∙ ap (λ (n : ℕ). record y { tags = n; digests = x.digests }) tags
    ∙ ap (λ (n : ℕ). record y { digests = n }) digests

stats_alike : (world other : WorldState) (x y : Stat) → AreAlike world other → world.state ≡ other.state → IsStatOf world x → IsStatOf other y → x ≡ y
stats_alike world other x y same state is its =
    let steps : (x.writes ≡ y.writes) × (x.latches ≡ y.latches) =
    elim (cases_lt world.board.writes last_count) [
      | inl writes ↦
          elim (cases_lt world.board.latches last_count) [
            | inl latches ↦ exactly (record { writes = writes; latches = latches })
            | inr past ↦ ended (λ exact. absurd (omega (arith, exact.latches, past)))
          ]
      | inr past ↦ ended (λ exact. absurd (omega (arith, exact.writes, past)))
    ] in
    let reads = is.reads ∙ ap₂ (λ (m : BoardMemory) (s : Stat). m.reads - s.reads) same.parts.board same.start ∙ sym its.reads in
    let tags = is.tags ∙ ap₂ (λ (n : ℕ) (s : Stat). n - s.tags) same.parts.tags same.start ∙ sym its.tags in
    let digests = is.digests ∙ ap₂ (λ (n : ℕ) (s : Stat). n - s.digests) same.parts.digests same.start ∙ sym its.digests in
    same_stat x y reads steps.0 steps.1 tags digests
  where
    exactly : AreExact world.board → (x.writes ≡ y.writes) × (x.latches ≡ y.latches)
    exactly exact =
        let its_exact : AreExact other.board = subst (λ (m : BoardMemory). AreExact m) same.parts.board exact in (
          is.writes exact ∙ ap₂ (λ (m : BoardMemory) (s : Stat). m.writes - s.writes) same.parts.board same.start ∙ sym (its.writes its_exact),
          is.latches exact ∙ ap₂ (λ (m : BoardMemory) (s : Stat). m.latches - s.latches) same.parts.board same.start ∙ sym (its.latches its_exact),
        )

    ended : (AreExact world.board → ⊥) → (x.writes ≡ y.writes) × (x.latches ≡ y.latches)
    ended past =
        let a = is.all_steps past in
        let b = its.all_steps (λ exact. past (subst (λ (m : BoardMemory). AreExact m) (sym same.parts.board) exact)) in
        (a.0 ∙ ap (λ (s : PlainState). s.steps) state ∙ sym b.0, a.1 ∙ sym b.1)

stat_answers_alike : (world other : WorldState) (x y : Answer) → AreAlike world other → world.state ≡ other.state → IsStatAnswer world x
    → IsStatAnswer other y → x ≡ y
stat_answers_alike world other (Say.Counts x) (Say.Counts y) same state is its = ap (λ (s : Stat). Say.Counts s) (stats_alike world other x y same state is its)
stat_answers_alike world other (Say.Counts x) y same state is its = absurd its
stat_answers_alike world other x y same state is its = absurd is

-- ---- by what decides the answer

-- no answer of the table with power on: it is on
lit_by : (power : Bool) (on : Option Answer) → (if power then on else Some Say.Off) ≡ None → power ≡ true
lit_by true on none = refl
lit_by false on none = absurd (none-some Say.Off (sym none))

module _ (setup : Setup) (old other a b : WorldState) (x y : Answer) (whole : IsWorld setup old) (same : AreAlike old other) (state : old.state ≡ other.state)
  where
    lit : (engine : EngineState) → old.engine ≡ Some engine → old.board.powered ≡ true
    lit engine on = whole.board.power ∙ (on_in setup old engine whole on).powered

    by_table : (command : Command) → x ≡ y → IsByTable old command x a → IsByTable other command y b → AreSameParts a b
    by_table command answer it its =
        record {
          board = it.board ∙ ap₂ (λ (m : BoardMemory) (z : Answer). board_after m command z) same.parts.board answer ∙ sym its.board;
          engine = it.engine ∙ ap₂ (λ (e : Option EngineState) (z : Answer). engine_after e command z) same.parts.engine answer ∙ sym its.engine;
          ledger = it.ledger ∙ same.parts.ledger ∙ sym its.ledger;
          tags = it.tags ∙ same.parts.tags ∙ sym its.tags;
          digests = it.digests ∙ same.parts.digests ∙ sym its.digests;
        }

    drains_alike : (front : Option Posted) → MatchOption front ⊥ (λ write. HasDrained setup write old x a)
        → MatchOption front ⊥ (λ write. HasDrained setup write other y b) → (x ≡ y) × AreSameParts a b
    drains_alike None it its = absurd it
    drains_alike (Some write) it its = calls_alike (drain_says_one write) old other a b x y same.parts (lit it.engine it.was_on) it its

    -- where the table decides nothing
    done_alike : (command : Command) → decided_answer setup.shape old.state command ≡ None
        → IsCommandDone setup old command x a → IsCommandDone setup other command y b → (x ≡ y) × AreSameParts a b
    done_alike (Do.Read port at) none it its =
        let waiting = writes_to (queue_of old.state.queues port) at in
        calls_alike (read_says_one waiting) old other a b x y same.parts (lit it.engine it.was_on) it
        (subst (λ (s : PlainState). HasCalled (plan_of_read setup at) (λ p q r. HasReadLine setup at p q r) (IsReadAnswer (writes_to (queue_of s.queues port) at))
        other b y) (sym state) its)
    done_alike (Do.Drain port) none it its =
        drains_alike (front_of old.state port) it
        (subst (λ (s : PlainState). MatchOption (front_of s port) ⊥ (λ write. HasDrained setup write other y b)) (sym state) its)
    done_alike (Do.Fence port) none it its =
        fences_alike setup (queue_of old.state.queues port) 0 0 old other a b x y same.parts (whole.board.power ∙ lit_by old.state.power None none) it
        (subst (λ (s : PlainState). HasFenced setup (queue_of s.queues port) 0 0 other y b) (sym state) its)
    done_alike Do.Turn none it its = calls_alike turn_says_one old other a b x y same.parts (lit it.engine it.was_on) it its
    done_alike Do.Flush none it its = calls_alike flush_says_one old other a b x y same.parts (lit it.engine it.was_on) it its
    done_alike (Do.Loss n) none it its = calls_alike loss_says_one old other a b x y same.parts (lit it.engine it.was_on) it its
    done_alike Do.On none it its = recoveries_alike setup old other a b x y same.parts it its
    done_alike (Do.Peek d) none it its =
        let answer = it.1 ∙ ap (λ (m : BoardMemory). Say.Raw (line_at m.lines d)) same.parts.board ∙ sym its.1 in
        (answer, by_table (Do.Peek d) answer it.0 its.0)
    done_alike Do.Stat none it its =
        let answer = stat_answers_alike old other x y same state it.1 its.1 in
        (answer, by_table Do.Stat answer it.0 its.0)
    done_alike command none it its = absurd it

-- ---- the step

-- from worlds that are alike, a command has one reply and leaves worlds that are alike
pub steps_alike : (setup : Setup) (old other a b : WorldState) (command : Command) (reply another : Reply) → IsWorld setup old → AreAlike old other
    → old.state ≡ other.state → HasStepped setup old command reply a → HasStepped setup other command another b
    → (reply ≡ another) × AreAlike a b
steps_alike setup old other a b command reply another whole same state it its =
    let said =
    by_decided (decided_answer setup.shape old.state command) refl it.legal
    (subst (λ (s : PlainState). IsLegal setup s (view_in setup other) command another) (sym state) its.legal) it.parts
    (subst (λ (s : PlainState). MatchOption (decided_answer setup.shape s command) (IsCommandDone setup other command another.answer b)
    (λ answer. IsByTable other command answer b)) (sym state) its.parts) in
    let its_marks : b.ledger.marks ≡ old.ledger.marks ++ another.marks =
    subst (λ (l : LedgerState). b.ledger.marks ≡ l.marks ++ another.marks) (sym same.parts.ledger) its.marks in
    let marks : reply.marks ≡ another.marks =
    sym (drop-append_seam old.ledger.marks reply.marks)
    ∙ ap (drop (length old.ledger.marks)) (sym it.marks ∙ ap (λ (l : LedgerState). l.marks) said.1.ledger ∙ its_marks)
    ∙ drop-append_seam old.ledger.marks another.marks in
    let replies : reply ≡ another = ap₂ (λ (ms : List Mark) (z : Answer). record { marks = ms; answer = z }) marks said.0 in
    let shown : a.shown ≡ b.shown = it.shown ∙ ap is_shown said.0 ∙ sym its.shown in (
      replies,
      record {
        shape = it.same_shape ∙ same.shape ∙ sym its.same_shape;
        start = it.same_start ∙ same.start ∙ sym its.same_start;
        shown = shown;
        state =
            λ unshown.
            it.state (sym it.shown ∙ unshown)
            ∙ ap₂ (λ (s : PlainState) (r : Reply). state_after setup.shape s command r) state replies
            ∙ sym (its.state (sym its.shown ∙ sym shown ∙ unshown));
        parts = said.1;
      },
    )
  where
    by_decided : (decided : Option Answer) → decided_answer setup.shape old.state command ≡ decided
        → MatchOption decided (IsEngineReply setup old.state (view_in setup old) command reply) (λ answer. reply.answer ≡ answer)
        → MatchOption decided (IsEngineReply setup old.state (view_in setup other) command another) (λ answer. another.answer ≡ answer)
        → MatchOption decided (IsCommandDone setup old command reply.answer a) (λ answer. IsByTable old command answer a)
        → MatchOption decided (IsCommandDone setup other command another.answer b) (λ answer. IsByTable other command answer b)
        → (reply.answer ≡ another.answer) × AreSameParts a b
    by_decided (Some answer) is legal legal_too it its =
        (legal ∙ sym legal_too, by_table setup old other a b answer answer whole same state command refl it its)
    by_decided None is legal legal_too it its = done_alike setup old other a b reply.answer another.answer whole same state command is it its

-- a world is like itself
alike_itself : (world : WorldState) → AreAlike world world
alike_itself world =
    record {
      shape = refl;
      start = refl;
      shown = refl;
      state = λ unshown. refl;
      parts = record { board = refl; engine = refl; ledger = refl; tags = refl; digests = refl };
    }

pub step_alike : (setup : Setup) (old a b : WorldState) (command : Command) (reply another : Reply) → IsWorld setup old
    → HasStepped setup old command reply a → HasStepped setup old command another b → (reply ≡ another) × AreSameWorlds a b
step_alike setup old a b command reply another whole it its =
    let both = steps_alike setup old old a b command reply another whole (alike_itself old) refl it its in
    (both.0, record { keys = it.same_keys ∙ sym its.same_keys; alike = both.1 })
