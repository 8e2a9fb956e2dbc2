-- Power comes on, as the session's fields have it: what is held after recovery and the opening, and what they come to.
use Rattle.std.proofs.Common.{ℕ, ◌≡◌, ◌<◌, ◌⊎◌, inl, inr, true, false, List, Option, Some, None, Result, Ok, Err, refl, sym, ap, subst, ◌∙◌, rules}
use Rattle.line_session.proofs.Common.{Shape, BoardMemory, LedgerState, Setup, Formulas, EngineState, setup_under, Taken, steps_in, IsWatched, device_during, none_taken, parts_of, Parts, Mark, Line, Device, plain_memory, SuiteState, suite_state, RecFault, Work, StartFault, OpeningRelation, HasStartedBy, HasOpenedAfter, started_as, HasRecovered, recovery_bound, most_recovery_steps, fewer, fewer_within}
use Rattle.call_plan.proofs.StillCalls.{untouched, rests}
use Rattle.pmem_base.specs.declared.answers.Exhibit.TheVariants.{Twin}
use Rattle.pmem_recovery.specs.declared.faults.RecFault.TheVariants as Rec
use Rattle.line_session.specs.declared.starts.StartFault.TheVariants as Start
use Rattle.line_session.specs.State.{LineSession, setup_in}
use Rattle.line_session.specs.World.{StoreSession, session_of, IsLineWorld, IsLineOff, IsLineBy}
use Rattle.line_session.specs.Kept.{IsOpenedOn, OpensLines, OpensBoth}
use Rattle.line_session.specs.Turned.{HasTurned, IsCutInRecovery, HasShownTwin, IsTurnedUnder, IsTurnHalt}
use Rattle.trace_text.specs.declared.talk.Halt.{Halt}
use Rattle.trace_text.specs.declared.talk.Halt.TheVariants as Stop
use Rattle.line_session.specs.declared.powering.Turned.{Turned}
use Rattle.line_session.specs.declared.powering.Turned.TheVariants.{On, Cut}
use Rattle.line_session.proofs.Worlds.{on_of, off_of}
use Rattle.line_session.proofs.Twins.{seal_twin}
use Rattle.line_session.proofs.Recoveries.{sound_recovered, IsLeftDurable, few_recovery, cut_left, wanted_left, twin_left, twin_of_last, twin_within}

pub record TurnedCall (L O F : Type 0) : Type 1 where
  pub engine_of : L → EngineState
  pub store_of : O → L
  pub opens : Setup → OpeningRelation O F
  pub holds : Setup → List Mark → Type 0
  pub formulas_of : List ℕ → Formulas
  pub shape : Shape
  pub keys : List ℕ
  pub pads : ℕ
  pub tags : ℕ
  pub digests : ℕ
  pub board : BoardMemory
  pub ledger : LedgerState
  pub found : Option L
  pub there : found ≡ None
  pub before : StoreSession L
  pub seen : session_of engine_of shape keys tags digests board ledger found ≡ before
  pub world : IsLineWorld engine_of (setup_under formulas_of shape keys) (session_of engine_of shape keys tags digests board ledger found)
  pub held_lines : holds (setup_in formulas_of before.state) before.state.ledger.marks
  pub ledger_before : LedgerState
  pub same_ledger : ledger_before ≡ ledger
  pub lit : BoardMemory
  pub lit_is : lit ≡ record board { powered = true }
  pub keys_new : List ℕ
  pub same_keys : keys_new ≡ keys
  pub pads_new : ℕ
  pub tags_new : ℕ
  pub digests_new : ℕ
  pub board_new : BoardMemory
  pub ledger_new : LedgerState
  pub taken : Taken
  pub watched : IsWatched lit board_new taken
  pub steps : ℕ
  pub counted : steps ≡ steps_in taken
  pub answer : Result O (StartFault F)
  pub started :
      HasStartedBy (setup_under formulas_of shape keys)
      (OpensBoth opens (OpensLines (λ opened. engine_of (store_of opened)) holds) (setup_under formulas_of shape keys))
      (device_during lit none_taken) (device_during board_new taken) ledger_before ledger_new (suite_state keys pads tags digests)
      (suite_state keys_new pads_new tags_new digests_new) answer

module _ {L O F : Type 0} (c : TurnedCall L O F) where
  abbrev pub setup : Setup
  setup = setup_under c.formulas_of c.shape c.keys

  abbrev pub old : StoreSession L
  old = session_of c.engine_of c.shape c.keys c.tags c.digests c.board c.ledger c.found

  abbrev lit : BoardMemory
  lit = record c.board { powered = true }

  abbrev pub left : BoardMemory → Option L → StoreSession L
  left board store = session_of c.engine_of c.shape c.keys_new c.tags_new c.digests_new board c.ledger_new store

  off : IsLineOff setup old.state
  off = subst (IsLineBy c.engine_of setup old.state) c.there c.world.chip

  held_lines : c.holds setup c.ledger.marks
  held_lines = subst (λ (s : StoreSession L). c.holds (setup_in c.formulas_of s.state) s.state.ledger.marks) (sym c.seen) c.held_lines

  watched : IsWatched lit c.board_new c.taken
  watched = rw c.lit_is at c.watched

  abbrev from : Device
  from = device_during lit none_taken

  abbrev to : Device
  to = device_during c.board_new c.taken

  abbrev suite_old : SuiteState
  suite_old = suite_state c.keys c.pads c.tags c.digests

  abbrev suite_new : SuiteState
  suite_new = suite_state c.keys_new c.pads_new c.tags_new c.digests_new

  abbrev both : Setup → OpeningRelation O F
  both = OpensBoth c.opens (OpensLines (λ opened. c.engine_of (c.store_of opened)) c.holds)

  started : HasStartedBy setup (both setup) from to c.ledger c.ledger_new suite_old suite_new c.answer
  started = rw (c.same_ledger, c.lit_is) at c.started

  abbrev rested : BoardMemory
  rested = record c.board_new { powered = false }

  rest_left : IsLeftDurable setup lit c.board_new c.ledger_new → IsLeftDurable setup lit rested c.ledger_new
  rest_left is = record { durable = is.durable; few_armed = is.few_armed; loss = is.loss }

  dark_world : (board : BoardMemory) → board.powered ≡ false → IsLeftDurable setup lit board c.ledger_new
      → IsLineWorld c.engine_of setup (left board None)
  dark_world board dark is = off_of c.engine_of setup (left board None) refl c.world.whole_shape c.world.whole_formulas refl dark is.durable is.few_armed

  -- what holds after each answer of recovery and the opening
  abbrev Outcome : Result O (StartFault F) → Type 0
  Outcome (Ok opened) =
      IsLineWorld c.engine_of setup (left c.board_new (Some (c.store_of opened)))
      × HasTurned setup (c.opens setup) c.steps (Ok opened) old.state (left c.board_new (Some (c.store_of opened))).state
  Outcome (Err (Start.Opening fault)) =
      IsLineWorld c.engine_of setup (left c.board_new None)
      × HasTurned setup (c.opens setup) c.steps (Err fault) old.state (left c.board_new None).state
  Outcome (Err (Start.Recovery Rec.Cut)) =
      IsLineWorld c.engine_of setup (left c.board_new None) × IsCutInRecovery setup c.steps old.state (left c.board_new None).state
  Outcome (Err (Start.Recovery Rec.Memory)) = IsLineWorld c.engine_of setup (left rested None) × (left rested c.found ≡ old)
  Outcome (Err (Start.Recovery (Rec.Twin at major low high cipher tag))) =
      IsLineWorld c.engine_of setup (left rested None) × HasShownTwin setup old.state at major low high cipher tag (left rested None).state
  Outcome answer = ⊥

  module _ (between : Device) (suite_between : SuiteState) (engine : EngineState) (work : Work)
      (it : HasRecovered setup c.ledger from between suite_old suite_between (Ok (engine, work))) where
    abbrev now : EngineState → Parts
    now later = parts_of later to c.ledger_new c.tags_new c.digests_new

    has_turned : (opened : Result O F) (store : Option L)
        → c.opens setup engine (parts_of engine between c.ledger suite_between.tags suite_between.digests) now opened
        → HasTurned setup (c.opens setup) c.steps opened old.state (left c.board_new store).state
    has_turned opened store opens = search (rules, watched)

    opened_by : (opened : Result O F) → c.opens setup engine (parts_of engine between c.ledger suite_between.tags suite_between.digests) now opened
        → IsOpenedOn (λ opened. c.engine_of (c.store_of opened)) setup now opened → Outcome (started_as opened)
    opened_by (Ok opened) opens lit = search (rules, on_of, has_turned)
    opened_by (Err fault) opens dark = search (rules, off_of, has_turned)

  recovery_cut : (suite_between : SuiteState) → HasRecovered setup c.ledger from to suite_old suite_between (Err Rec.Cut) → c.ledger_new ≡ c.ledger
      → suite_new ≡ suite_between → Outcome (Err (Start.Recovery Rec.Cut))
  recovery_cut suite_between it ledger suite =
      let is = cut_left setup c.ledger _ lit c.board_new c.taken suite_old suite_between ledger off.durable c.world.few_armed it in (
        dark_world c.board_new it.power.off is,
        record {
          taken = c.taken;
          watched = watched;
          its_steps = c.counted;
          between = suite_between;
          follows = it.plan;
          tags = ap (λ (s : SuiteState). s.tags) suite;
          digests = ap (λ (s : SuiteState). s.digests) suite;
          ledger = ledger;
          dark = it.power.off;
          loss = is.loss;
          few =
              subst (λ n. n < recovery_bound setup.shape) (sym c.counted) (fewer c.taken (recovery_bound setup.shape) watched.follows.few
              (fewer_within from to (most_recovery_steps setup lit.regs) (recovery_bound setup.shape) (few_recovery setup lit.regs c.world.few_armed)
              (it.steps.1 (inl refl))).sum);
          shape = refl;
          keys = c.same_keys;
        },
      )

  -- nothing was done, for want of memory
  recovery_wanted : (suite_between : SuiteState) → HasRecovered setup c.ledger from to suite_old suite_between (Err Rec.Memory)
      → c.ledger_new ≡ c.ledger → suite_new ≡ suite_between → Outcome (Err (Start.Recovery Rec.Memory))
  recovery_wanted suite_between it ledger suite =
      let is = wanted_left setup c.ledger c.ledger_new lit c.board_new c.taken suite_old suite_between ledger off.durable c.world.few_armed it in
      let board = rests c.board lit c.board_new refl off.unpowered (untouched lit c.board_new c.taken watched it.unchanged refl) in
      let uncounted : suite_new ≡ suite_old = suite ∙ it.uncounted in (
        dark_world rested refl (rest_left is),
        rw (ap (λ (s : SuiteState). s.tags) uncounted, ap (λ (s : SuiteState). s.digests) uncounted, c.same_keys, ledger)
            (ap (λ b. session_of c.engine_of c.shape c.keys c.tags c.digests b c.ledger c.found) board),
      )

  recovery_twin : (suite_between : SuiteState) (at major low high : ℕ) (cipher : Line) (tag : List ℕ)
      → HasRecovered setup c.ledger from to suite_old suite_between (Err (Rec.Twin at major low high cipher tag)) → c.ledger_new ≡ c.ledger
      → suite_new ≡ suite_between → Outcome (Err (Start.Recovery (Rec.Twin at major low high cipher tag)))
  recovery_twin suite_between at major low high cipher tag it ledger suite =
      let is =
      twin_left setup c.ledger c.ledger_new lit c.board_new c.taken suite_old suite_between ledger off.durable c.world.few_armed at major low high cipher
      tag it in
      let within =
      twin_within setup c.ledger c.ledger_new lit c.board_new c.taken suite_old suite_between ledger off.durable c.world.few_armed at major low high
      cipher tag it in (
        dark_world rested refl (rest_left is),
        record {
          within = within;
          exhibit = it.twin;
          twin =
              seal_twin setup c.board.regs c.ledger (plain_memory setup c.ledger.marks) c.board.regs.loss at major low high cipher tag
              c.world.whole_formulas off.durable.mendable.anchored c.world.places within
              (twin_of_last setup c.ledger c.ledger_new lit c.board_new c.taken suite_old suite_between ledger off.durable c.world.few_armed at major low
              high cipher tag it);
          refused =
              record {
                board = c.board_new;
                between = suite_between;
                taken = c.taken;
                watched = watched;
                powered = it.power.live refl;
                follows = it.plan;
                rests =
                    rw (c.same_keys, ledger, ap (λ (s : SuiteState). s.tags) suite, ap (λ (s : SuiteState). s.digests) suite) refl;
              };
        },
      )

  outcome : Outcome c.answer
  outcome = go started.recovery started.recovered started.then
    where
      refused : (fault : RecFault) → HasRecovered setup c.ledger from started.between suite_old started.suite_between (Err fault) → to ≡ started.between
          → HasRecovered setup c.ledger from to suite_old started.suite_between (Err fault)
      refused fault it same = subst (λ d. HasRecovered setup c.ledger from d suite_old started.suite_between (Err fault)) (sym same) it

      go : (recovery : Result (EngineState × Work) RecFault)
          → HasRecovered setup c.ledger from started.between suite_old started.suite_between recovery
          → HasOpenedAfter recovery (both setup) started.between to c.ledger c.ledger_new started.suite_between suite_new c.answer
          → Outcome c.answer
      go (Ok done) it later =
          subst Outcome (sym later.2) (opened_by started.between started.suite_between done.0 done.1 it later.0 later.1.0
          (later.1.1 c.world.whole_shape (ap (λ (e : EngineState). e.down) it.engine) (it.power.live refl)
          (sound_recovered setup c.ledger lit started.between suite_old started.suite_between done.0 done.1 it off.durable) held_lines))
      go (Err Rec.Cut) it later = subst Outcome (sym later.0) (recovery_cut started.suite_between (refused Rec.Cut it later.1) later.2 later.3)
      go (Err Rec.Memory) it later =
          subst Outcome (sym later.0) (recovery_wanted started.suite_between (refused Rec.Memory it later.1) later.2 later.3)
      go (Err (Rec.Twin at major low high cipher tag)) it later =
          subst Outcome (sym later.0)
          (recovery_twin started.suite_between at major low high cipher tag (refused (Rec.Twin at major low high cipher tag) it later.1) later.2 later.3)
      go (Err fault) it later = absurd (((refused fault it later.1).lines c.board.lines refl c.board_new.lines refl).from_durable off.durable)

  -- ---- as contracts write it

  pub outcome_as : (answer : Result O (StartFault F)) → c.answer ≡ answer → Outcome answer
  outcome_as answer is = subst Outcome is outcome

  held : (board : BoardMemory) (store : Option L) → IsLineWorld c.engine_of setup (left board store)
      → IsLineWorld c.engine_of (setup_under c.formulas_of c.shape c.keys_new) (left board store)
  held board store it = rw (← c.same_keys) at it

  abbrev World : StoreSession L → Type 0
  World session = IsLineWorld c.engine_of (setup_under c.formulas_of c.shape c.keys_new) session

  module _ {T : Type 0} (told_of : O → T) where
    abbrev TurnsTo : Turned T → StoreSession L → StoreSession L → Type 0
    TurnsTo turned new from = IsTurnedUnder c.formulas_of c.store_of told_of c.opens c.engine_of from turned new

    pub open_exit : (opened : O) (store : L) (told : T) → store ≡ c.store_of opened → told ≡ told_of opened → c.answer ≡ Ok opened
        → World (left c.board_new (Some store)) × TurnsTo (On c.steps told) (left c.board_new (Some store)) c.before
    open_exit opened store told same telling is =
        let it = outcome_as (Ok opened) is in
        subst (λ s. World (left c.board_new (Some s)) × TurnsTo (On c.steps told) (left c.board_new (Some s)) c.before) (sym same) (
          held c.board_new (Some (c.store_of opened)) it.0,
          subst (TurnsTo (On c.steps told) (left c.board_new (Some (c.store_of opened)))) c.seen
              (opened, telling, refl, c.there, it.1, it.0),
        )

    -- no store is there, as before
    dark_exit : IsLineWorld c.engine_of setup (left c.board_new None)
        → IsCutInRecovery setup c.steps old.state (left c.board_new None).state
        ⊎ ((fault : F) × HasTurned setup (c.opens setup) c.steps (Err fault) old.state (left c.board_new None).state)
        → World (left c.board_new c.found) × TurnsTo (Cut c.steps) (left c.board_new c.found) c.before
    dark_exit world it =
        subst (λ s. World (left c.board_new s) × TurnsTo (Cut c.steps) (left c.board_new s) c.before) (sym c.there) (
          held c.board_new None world,
          subst (TurnsTo (Cut c.steps) (left c.board_new None)) c.seen (refl, c.there, it, world),
        )

    pub cut_exit : c.answer ≡ Err (Start.Recovery Rec.Cut)
        → World (left c.board_new c.found) × TurnsTo (Cut c.steps) (left c.board_new c.found) c.before
    cut_exit is = let it = outcome_as (Err (Start.Recovery Rec.Cut)) is in dark_exit it.0 (inl it.1)

    pub unopened_exit : (fault : F) → c.answer ≡ Err (Start.Opening fault)
        → World (left c.board_new c.found) × TurnsTo (Cut c.steps) (left c.board_new c.found) c.before
    unopened_exit fault is = let it = outcome_as (Err (Start.Opening fault)) is in dark_exit it.0 (inr (fault, it.1))

  module _ (board : BoardMemory) (is_rested : board ≡ record c.board_new { powered = false }) where
    abbrev HaltsAs : Halt → StoreSession L → StoreSession L → Type 0
    HaltsAs halt new from = IsTurnHalt (setup_in c.formulas_of from.state) from halt new

    held_rested : IsLineWorld c.engine_of setup (left rested None) → World (left board c.found)
    held_rested it = rw (c.there, is_rested) (held rested None it)

    pub wanted_exit : c.answer ≡ Err (Start.Recovery Rec.Memory)
        → World (left board c.found) × HaltsAs Stop.Memory (left board c.found) c.before
    wanted_exit is =
        let it = outcome_as (Err (Start.Recovery Rec.Memory)) is in (
          held_rested it.0,
          subst (HaltsAs Stop.Memory (left board c.found)) c.seen (c.there, subst (λ b. left b c.found ≡ old) (sym is_rested) it.1),
        )

    pub twin_exit : (at major low high : ℕ) (cipher : Line) (tag : List ℕ) → c.answer ≡ Err (Start.Recovery (Rec.Twin at major low high cipher tag))
        → World (left board c.found) × HaltsAs (Stop.Shown (Twin at major low high cipher tag)) (left board c.found) c.before
    twin_exit at major low high cipher tag is =
        let it = outcome_as (Err (Start.Recovery (Rec.Twin at major low high cipher tag))) is in (
          held_rested it.0,
          subst (HaltsAs (Stop.Shown (Twin at major low high cipher tag)) (left board c.found)) c.seen (
            c.there,
            subst (λ (s : LineSession). HasShownTwin setup old.state at major low high cipher tag s)
                (ap (λ (s : Option L). (left rested s).state) (sym c.there) ∙ ap (λ b. (left b c.found).state) (sym is_rested)) it.1,
            c.there,
          ),
        )
