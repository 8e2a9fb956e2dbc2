-- Power comes on; or it is cut, memory is wanted, or a twin is shown.
use Rattle.std.proofs.Common.{rules, ◌≡◌, true, refl, sym, inl, inr, Option, Some, None, Err, ap, subst, ◌∙◌}
use Rattle.line_session.proofs.Common.{is_some, true≢false, shape_of, memory_of, ledger_of, traced_of, GoesOn, goes_on-between, none_of, BoardMemory}
use Rattle.pmem_recovery.specs.declared.faults.RecFault.TheVariants as Rec
use Rattle.line_session.specs.declared.starts.StartFault.TheVariants as Start
use Rattle.line_session.specs.World.{StoreSession}
use Rattle.line_session.proofs.TurnedCalls.{TurnedCall, outcome_as, open_exit, cut_exit, unopened_exit, wanted_exit, twin_exit}
use Rattle.line_session.proofs.session.LineSession.on.Given.{Over}
use Rattle.line_session.proofs.session.LineSession.on.Goals.{After-steps-steps, In-Err-Recovery, In-Err-Opening}
use Rattle.line_session.proofs.session.LineSession.on.Goals as goal

-- once recovery and the opening have answered
module _ (g : Over) (c : After-steps-steps g) where
  abbrev call : TurnedCall g.row.L.Denot g.row.O-Opened.Denot g.row.O-Fault.Denot
  call =
      record {
        engine_of = g.L.LineStore.engine;
        store_of = g.O.StoreOpening.store;
        opens = g.O.StoreOpening.relation c.args.opening.now;
        holds = g.O.StoreOpening.holds c.args.opening.now;
        formulas_of = g.S.Suite.formulas_of;
        shape = shape_of c.self.inside.geo;
        keys = g.S.Suite.keys c.self.inside.suite;
        pads = g.S.Suite.pads c.self.inside.suite;
        tags = g.S.Suite.tags c.self.inside.suite;
        digests = g.S.Suite.digests c.self.inside.suite;
        board = memory_of c.self.inside.board;
        ledger = ledger_of c.self.inside.ledger;
        found = c.self.inside.store;
        there = none_of c.self.inside.store c.is_some.result c.is_some.ensures c.if-is_some.false;
        before = c.args.self.now;
        seen = c.self.view_is;
        world = c.self.invariant;
        held_lines = c.requires.holds;
        ledger_before = ledger_of c.reserve.new.self;
        same_ledger = c.reserve.ensures.ledger;
        lit = memory_of c.power.new.self;
        lit_is = c.power.ensures;
        keys_new = g.S.Suite.keys c.start-done.new.suite;
        same_keys = c.start-done.ensures.keys;
        pads_new = g.S.Suite.pads c.start-done.new.suite;
        tags_new = g.S.Suite.tags c.start-done.new.suite;
        digests_new = g.S.Suite.digests c.start-done.new.suite;
        board_new = memory_of c.start-done.new.board;
        ledger_new = ledger_of c.start-done.new.ledger;
        taken = c.start-done.result.taken;
        watched = c.start-done.ensures.watched;
        steps = c.steps-steps.result;
        counted = c.steps-steps.ensures;
        answer = c.start-done.result.answer;
        started = c.start-done.ensures.started;
      }

  -- the log goes on from the board before to one that is traced as the call left it
  logged : (board : BoardMemory) → traced_of board ≡ traced_of (memory_of c.start-done.new.board)
      → GoesOn c.args.log.now c.args.self.now.state.board c.start-done.new.log board
  logged board same =
      goes_on-between c.args.log.now c.start-done.new.log c.args.self.now.state.board (memory_of c.power.new.self) (memory_of c.start-done.new.board) board
      (ap traced_of c.power.ensures ∙ ap (λ (s : StoreSession g.row.L.Denot). traced_of s.state.board) c.self.view_is) same c.start-done.ensures.logged

-- ---- power was on

pub returns-then-is_some-clause-turned : goal.returns-then-is_some-clause-turned
returns-then-is_some-clause-turned g c =
    let it = found (c.self.inside.store) (sym c.is_some.ensures ∙ c.if-is_some.true) in
    (it.0, subst (λ (s : StoreSession g.row.L.Denot). s.store ≡ Some it.0) c.self.view_is it.1, refl)
  where
    found : {X : Type 0} (o : Option X) → is_some o ≡ true → (x : X) × (o ≡ Some x)
    found (Some x) is = (x, refl)
    found None is = absurd (true≢false (sym is))

-- ---- power is on, and the store opened

pub invariant_of-self-in-Ok : goal.invariant_of-self-in-Ok
invariant_of-self-in-Ok g c =
    (open_exit (call g ((goal.at.invariant_of-self-in-Ok g c).After-steps-steps)) g.O.StoreOpening.told c.in-Ok.opened c.split-store.result.0
    c.split-store.result.1 (c.split-store.ensures.store ∙ ap g.O.StoreOpening.store c.in-Ok.opened-is)
    (c.split-store.ensures.told ∙ ap g.O.StoreOpening.told c.in-Ok.opened-is) c.in-Ok.is).0

pub returns-in-Ok-clause-turned : goal.returns-in-Ok-clause-turned
returns-in-Ok-clause-turned g c =
    (open_exit (call g ((goal.at.returns-in-Ok-clause-turned g c).After-steps-steps)) g.O.StoreOpening.told c.in-Ok.opened c.split-store.result.0
    c.split-store.result.1 (c.split-store.ensures.store ∙ ap g.O.StoreOpening.store c.in-Ok.opened-is)
    (c.split-store.ensures.told ∙ ap g.O.StoreOpening.told c.in-Ok.opened-is) c.in-Ok.is).1

-- ---- recovery wasn't done

recovery_fault : (g : Over) (c : In-Err-Recovery g) → c.start-done.result.answer ≡ Err (Start.Recovery c.in-Err-Recovery.fault)
recovery_fault g c = let h = c.in-Err-Recovery.is in let k = c.in-Err-Recovery.field-0-is in search rules

pub invariant_of-self-in-Cut : goal.invariant_of-self-in-Cut
invariant_of-self-in-Cut g c =
    (cut_exit (call g ((goal.at.invariant_of-self-in-Cut g c).After-steps-steps)) g.O.StoreOpening.told
    (recovery_fault g ((goal.at.invariant_of-self-in-Cut g c).In-Err-Recovery) ∙ ap (λ f. Err (Start.Recovery f)) c.in-Cut.is)).0

pub returns-in-Cut-clause-turned : goal.returns-in-Cut-clause-turned
returns-in-Cut-clause-turned g c =
    (cut_exit (call g ((goal.at.returns-in-Cut-clause-turned g c).After-steps-steps)) g.O.StoreOpening.told
    (recovery_fault g ((goal.at.returns-in-Cut-clause-turned g c).In-Err-Recovery) ∙ ap (λ f. Err (Start.Recovery f)) c.in-Cut.is)).1

pub invariant_of-self-in-Memory : goal.invariant_of-self-in-Memory
invariant_of-self-in-Memory g c =
    (wanted_exit (call g ((goal.at.invariant_of-self-in-Memory g c).After-steps-steps)) (memory_of c.rest.new.self) c.rest.ensures
    (recovery_fault g ((goal.at.invariant_of-self-in-Memory g c).In-Err-Recovery) ∙ ap (λ f. Err (Start.Recovery f)) c.in-Memory.is)).0

pub returns-in-Memory-clause-halted : goal.returns-in-Memory-clause-halted
returns-in-Memory-clause-halted g c =
    (wanted_exit (call g ((goal.at.returns-in-Memory-clause-halted g c).After-steps-steps)) (memory_of c.rest.new.self) c.rest.ensures
    (recovery_fault g ((goal.at.returns-in-Memory-clause-halted g c).In-Err-Recovery) ∙ ap (λ f. Err (Start.Recovery f)) c.in-Memory.is)).1

pub invariant_of-self-in-Twin : goal.invariant_of-self-in-Twin
invariant_of-self-in-Twin g c =
    (twin_exit (call g ((goal.at.invariant_of-self-in-Twin g c).After-steps-steps)) (memory_of c.rest-in-Twin.new.self) c.rest-in-Twin.ensures
    c.in-Twin.at c.in-Twin.major c.in-Twin.low c.in-Twin.high c.in-Twin.cipher c.in-Twin.tag
    (recovery_fault g ((goal.at.invariant_of-self-in-Twin g c).In-Err-Recovery) ∙ ap (λ f. Err (Start.Recovery f)) c.in-Twin.is)).0

pub returns-in-Twin-clause-halted : goal.returns-in-Twin-clause-halted
returns-in-Twin-clause-halted g c =
    (twin_exit (call g ((goal.at.returns-in-Twin-clause-halted g c).After-steps-steps)) (memory_of c.rest-in-Twin.new.self) c.rest-in-Twin.ensures
    c.in-Twin.at c.in-Twin.major c.in-Twin.low c.in-Twin.high c.in-Twin.cipher c.in-Twin.tag
    (recovery_fault g ((goal.at.returns-in-Twin-clause-halted g c).In-Err-Recovery) ∙ ap (λ f. Err (Start.Recovery f)) c.in-Twin.is)).1

pub unreachable-requires : goal.unreachable-requires
unreachable-requires g c =
    let its = call g ((goal.at.unreachable-requires g c).After-steps-steps) in
    let is = recovery_fault g ((goal.at.unreachable-requires g c).In-Err-Recovery) in
    elim c.in-NoCounter.is [
      | inl counter ↦ outcome_as its (Err (Start.Recovery (Rec.NoCounter counter.0))) (is ∙ ap (λ f. Err (Start.Recovery f)) counter.1)
      | inr root ↦ outcome_as its (Err (Start.Recovery (Rec.Root root.0 root.1))) (is ∙ ap (λ f. Err (Start.Recovery f)) root.2)
    ]

-- ---- the store wasn't opened

opening_fault : (g : Over) (c : In-Err-Opening g) → c.start-done.result.answer ≡ Err (Start.Opening c.in-Err-Opening._fault)
opening_fault g c = let h = c.in-Err-Opening.is in let k = c.in-Err-Opening.field-0-is in search rules

pub invariant_of-self-in-Err-Opening : goal.invariant_of-self-in-Err-Opening
invariant_of-self-in-Err-Opening g c =
    (unopened_exit (call g ((goal.at.invariant_of-self-in-Err-Opening g c).After-steps-steps)) g.O.StoreOpening.told c.in-Err-Opening._fault
    (opening_fault g ((goal.at.invariant_of-self-in-Err-Opening g c).In-Err-Opening))).0

pub returns-in-Err-Opening-clause-turned : goal.returns-in-Err-Opening-clause-turned
returns-in-Err-Opening-clause-turned g c =
    (unopened_exit (call g ((goal.at.returns-in-Err-Opening-clause-turned g c).After-steps-steps)) g.O.StoreOpening.told c.in-Err-Opening._fault
    (opening_fault g ((goal.at.returns-in-Err-Opening-clause-turned g c).In-Err-Opening))).1

-- ---- the log

pub returns-in-Ok-clause-logged : goal.returns-in-Ok-clause-logged
returns-in-Ok-clause-logged g c = logged g ((goal.at.returns-in-Ok-clause-logged g c).After-steps-steps) (memory_of c.start-done.new.board) refl

pub returns-in-Cut-clause-logged : goal.returns-in-Cut-clause-logged
returns-in-Cut-clause-logged g c = logged g ((goal.at.returns-in-Cut-clause-logged g c).After-steps-steps) (memory_of c.start-done.new.board) refl

pub returns-in-Err-Opening-clause-logged : goal.returns-in-Err-Opening-clause-logged
returns-in-Err-Opening-clause-logged g c =
    logged g ((goal.at.returns-in-Err-Opening-clause-logged g c).After-steps-steps) (memory_of c.start-done.new.board) refl

pub returns-in-Memory-clause-logged : goal.returns-in-Memory-clause-logged
returns-in-Memory-clause-logged g c =
    logged g ((goal.at.returns-in-Memory-clause-logged g c).After-steps-steps) (memory_of c.rest.new.self) (ap traced_of c.rest.ensures)

pub returns-in-Twin-clause-logged : goal.returns-in-Twin-clause-logged
returns-in-Twin-clause-logged g c =
    logged g ((goal.at.returns-in-Twin-clause-logged g c).After-steps-steps) (memory_of c.rest-in-Twin.new.self) (ap traced_of c.rest-in-Twin.ensures)
