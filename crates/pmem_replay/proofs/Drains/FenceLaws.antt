-- A fence: writes drained one by one, and the one that ends it.
use Rattle.std.proofs.Common.{ℕ, suc, ◌≡◌, ◌<◌, ◌≤◌, ◌+◌, ◌*◌, ◌++◌, true, false, inl, inr, List, [], ◌∷◌, Option, Some, None, refl, sym, ap, subst, ◌∙◌, arith}
use Rattle.std.specs.Prelude.{Bool, Result, Ok, Err, MatchOption, length, drop, IsSome}
use Rattle.std.proofs.lemmas.Bool.{true≢false}
use Rattle.std.proofs.lemmas.Option.{none-some}
use Rattle.std.proofs.lemmas.List.{length-append, length-drop}
use Rattle.pmem_base.specs.declared.commands.Posted.{Posted}
use Rattle.pmem_base.specs.declared.lines.Ctr.{Ctr}
use Rattle.pmem_base.specs.declared.commands.Command.TheVariants as Do
use Rattle.pmem_base.specs.declared.answers.Answer.{Answer}
use Rattle.pmem_base.specs.declared.answers.Answer.TheVariants as Say
use Rattle.pmem_base.specs.declared.answers.Mark.{Mark}
use Rattle.pmem_base.specs.declared.answers.Place.{Place}
use Rattle.pmem_base.specs.WaitingWrites.{queue_of}
use Rattle.seal_ledger.specs.Notes.{HasRoom}
use Rattle.suite.specs.Formulas.{Formulas}
use Rattle.suite.specs.Setup.{Setup}
use Rattle.plain_model.specs.State.{PlainState}
use Rattle.plain_model.specs.Asked.{moment_of, marks_of_write}
use Rattle.plain_model.specs.Answers.{decided_answer}
use Rattle.pmem_engine.specs.Engine.{EngineState}
use Rattle.pmem_replay.specs.World.{WorldState, IsWorld, view_in, setup_of_world}
use Rattle.pmem_replay.specs.Replies.{with_marks_since}
use Rattle.pmem_engine.specs.declared.fault.Fault.{Fault}
use Rattle.pmem_engine.specs.declared.fault.Fault.TheVariants as Fail
use Rattle.pmem_replay.specs.Given.{HasMarkRoom, HasWriteGiven, IsWriteGiven, IsWriteGivenTo, IsDrainSaid}
use Rattle.pmem_replay.specs.Stepped.{HasStepped, EndsWrites, IsByTable, HasDrained, HasFenced, HasSameParts, IsSeenOnDevice}
use Rattle.pmem_replay.proofs.Marks.AskedMarks.{asked_form, asked_few}
use Rattle.pmem_replay.proofs.Steps.WorldsAfterCalls.{on_in}
use Rattle.pmem_replay.proofs.Drains.DrainChain.{drained_none}
use Rattle.plain_model.proofs.WaitingLaws.{queue_after}
use Rattle.pmem_replay.proofs.Drains.DrainedLaws.{fenced-good, fenced-after}
use Rattle.pmem_replay.proofs.Drains.FenceSteps.{IsFencing, fence-put, fence_last}
use Rattle.pmem_replay.proofs.Steps.PartsOfWorld.{since}
use Rattle.pmem_replay.proofs.Marks.OpenPages.{whole_pages}
use Rattle.pmem_replay.proofs.Steps.ReservedRoom.{same_room}
use Rattle.pmem_replay.proofs.Steps.WorldSteps.{stepped_by_engine}
use Rattle.pmem_replay.proofs.Table.UnchangedSteps.{lit_in}

-- ---- a fence before which room was made

-- its first write is drained as well before room was made
drained_before : (setup : Setup) (old new : WorldState) (capacity : ℕ) → old.capacity ≤ capacity → (write : Posted) (one : Answer)
    → HasDrained setup write (record old { capacity = capacity }) one new → HasDrained setup write old one new
drained_before setup old new capacity grown write one it =
    record {
      engine = it.engine;
      was_on = it.was_on;
      up = it.up;
      after = it.after;
      kept = it.kept;
      taken = it.taken;
      result = it.result;
      down = it.down;
      outcome = it.outcome;
      related = it.related;
      said = it.said;
      power = it.power;
      steps = it.steps;
      capacity = omega (arith, grown, it.capacity);
      cut = it.cut;
      uncut = it.uncut;
    }

-- and so are all its writes
fenced_before : (setup : Setup) (old new : WorldState) (capacity : ℕ) → old.capacity ≤ capacity → (answer : Answer) (queue : List Posted)
    → HasFenced setup queue 0 0 (record old { capacity = capacity }) answer new → HasFenced setup queue 0 0 old answer new
fenced_before setup old new capacity grown answer [] it = (
  record {
    board = it.0.board;
    engine = it.0.engine;
    ledger = it.0.ledger;
    capacity = omega (arith, grown, it.0.capacity);
    tags = it.0.tags;
    digests = it.0.digests;
  },
  it.1,
)
fenced_before setup old new capacity grown answer (write ∷ later) it =
    elim it [
      | inl ends ↦ inl (ends.0, drained_before setup old new capacity grown write ends.0 ends.1, ends.2)
      | inr on ↦ inr (on.0, on.1, drained_before setup old on.1 capacity grown write (Say.Drained on.0) on.2, on.3)
    ]

-- ---- the loop

steps_alike : (k n : ℕ) → Say.Drained k ≡ Say.Drained n → k ≡ n
steps_alike k n same = cc

-- what the loop of a fence keeps
pub record IsDraining (formulas_of : List ℕ → Formulas) (mid now : WorldState) (port count done steps : ℕ) : Type 0 where
  pub made : List Mark
  pub fencing : IsFencing (setup_of_world formulas_of mid) mid now port done made steps
  pub on : IsSome now.engine
  pub room : length now.ledger.marks + 66 * count ≤ now.capacity + 66 * done
  pub within : done ≤ count

pub some_engine : (engine : Option EngineState) → IsSome engine → (found : EngineState) × (engine ≡ Some found)
some_engine None some = absurd (true≢false (sym some))
some_engine (Some found) some = (found, refl)

pub fence_starts : (formulas_of : List ℕ → Formulas) (mid : WorldState) (port count : ℕ) → IsWorld (setup_of_world formulas_of mid) mid → mid.shown ≡ false
    → IsSome mid.engine → HasRoom mid.ledger mid.capacity (66 * count) → IsDraining formulas_of mid mid port count 0 0
fence_starts formulas_of mid port count whole unshown on room =
    let found = some_engine mid.engine on in
    record {
      made = [];
      fencing =
          record {
            drained = drained_none (setup_of_world formulas_of mid) mid port whole;
            unshown = unshown;
            shape = refl;
            keys = refl;
            start = refl;
            chain = λ answer new rest. rest;
            lit = lit_in (setup_of_world formulas_of mid) mid found.0 whole found.1;
            few = omega arith;
            small = omega arith;
          };
      on = on;
      room = omega (arith, room);
      within = omega arith;
    }

module _ (formulas_of : List ℕ → Formulas) (mid now new : WorldState) (port count done steps : ℕ) (small : port < 8)
    (whole : IsWorld (setup_of_world formulas_of mid) mid) (counted : count ≡ length (queue_of mid.state.queues port)) (most : count < 17)
    (draining : IsDraining formulas_of mid now port count done steps) where
  abbrev setup : Setup
  setup = setup_of_world formulas_of mid

  same_setup : setup_of_world formulas_of now ≡ setup
  same_setup =
      ap (λ g. record { shape = g; formulas = formulas_of now.keys }) draining.fencing.shape
      ∙ ap (λ k. record { shape = mid.shape; formulas = formulas_of k }) draining.fencing.keys

  -- what waits still
  pub still_waits : length (queue_of now.state.queues port) + done ≡ count
  still_waits =
      let drained = draining.fencing.drained in
      let ports : port < length mid.state.queues = omega (arith, small, whole.queues.ports.eight) in
      let rest : queue_of now.state.queues port ≡ drop done (queue_of mid.state.queues port) =
      ap (λ (s : PlainState). queue_of s.queues port) drained.state ∙ queue_after mid.state port done ports in
      omega (arith, ap length rest, length-drop done (queue_of mid.state.queues port), drained.few, counted)

  -- a write that was drained
  put_of : (k : ℕ) (answer : Result Ctr Fault) (put : Bool) (n : ℕ) → IsWriteGivenTo setup now port n answer put new → IsDrainSaid new answer put n (Say.Drained k)
      → (ctr : Ctr) × IsWriteGiven setup now port k (Ok ctr) true true new
  put_of k (Ok ctr) put n it same = (ctr, subst (λ (m : ℕ). IsWriteGiven setup now port m (Ok ctr) true true new) (sym (steps_alike k n same)) it)
  put_of k (Err (Fail.Meta x)) put n it same = absurd (let apart : Say.Drained k ≡ Say.Refused None (Place.Meta x) n = same in cc)
  put_of k (Err (Fail.Tag at)) put n it same = absurd (let apart : Say.Drained k ≡ Say.Refused None (Place.Line at) n = same in cc)
  put_of k (Err (Fail.Spent page)) put n it same = absurd (let apart : Say.Drained k ≡ Say.Spent None page n = same in cc)
  put_of k (Err Fail.Cut) true n it same = absurd (let apart : Say.Drained k ≡ Say.CutKept None n = same in cc)
  put_of k (Err Fail.Cut) false n it same = absurd (let apart : Say.Drained k ≡ Say.CutLost None n = same in cc)
  put_of k (Err Fail.Down) put n it same = absurd same
  put_of k (Err Fail.Shown) put n it same = absurd (let apart : Say.Drained k ≡ Say.Shown same.0 = same.2 in cc)

  pub fence_next : (k : ℕ) → HasWriteGiven (setup_of_world formulas_of now) now port (Say.Drained k) new → done < count
      → IsDraining formulas_of mid new port count (done + 1) (steps + k)
  fence_next k given below =
      let said = subst (λ (s : Setup). HasWriteGiven s now port (Say.Drained k) new) same_setup given in
      let it = put_of k said.answer said.put said.steps said.given said.says in
      let g = it.1.given in
      let on = on_in setup now g.engine draining.fencing.drained.world g.was_on in
      let asked : marks_of_write setup.formulas (moment_of now.state (view_in setup now)) g.write ≡ Some g.written.made =
      g.written.marks on.trusted now.state.memory draining.fencing.drained.world.memory.each in
      let few = asked_few setup.formulas g.write g.written.made
      (asked_form setup.shape setup.formulas (moment_of now.state (view_in setup now)) g.write g.written.made
      (whole_pages setup now.board.regs now.ledger on.trusted.anchored) asked) in
      let marks = ap length g.marks ∙ length-append now.ledger.marks g.written.made in
      let next = fence-put setup mid now new port small done draining.made steps whole draining.fencing it.0 k it.1 (omega (arith, below, most)) in
      record {
        made = draining.made ++ g.written.made;
        fencing = subst (λ (n : ℕ). IsFencing setup mid new port n (draining.made ++ g.written.made) (steps + k)) {x = suc done} {y = done + 1} (omega arith) next;
        on = subst (λ (e : Option EngineState). IsSome e) (sym it.1.engine) refl;
        room = omega (arith, draining.room, marks, g.capacity, few);
        within = omega (arith, below);
      }

  pub fence_ended : (one answer : Answer) → HasWriteGiven (setup_of_world formulas_of now) now port one new → EndsWrites (Some done) steps one answer
      → HasStepped setup mid (Do.Fence port) (with_marks_since mid new answer) new
  fence_ended one answer given ends =
      let it = subst (λ (s : Setup). HasWriteGiven s now port one new) same_setup given in
      fence_last setup mid now new port small done draining.made steps whole draining.fencing one answer it.answer it.put it.steps it.given it.says ends

no_writes_left : (queue : List Posted) → length queue ≡ 0 → queue ≡ []
no_writes_left [] none = refl
no_writes_left (write ∷ later) none = absurd (more none)
  where
    more : length (write ∷ later) ≡ 0 → ⊥
    more none = omega (arith, none)

-- all were drained
pub fence_done : (formulas_of : List ℕ → Formulas) (mid now : WorldState) (port count done steps : ℕ) → port < 8
    → IsWorld (setup_of_world formulas_of mid) mid → count ≡ length (queue_of mid.state.queues port) → count < 17
    → IsDraining formulas_of mid now port count done steps → count ≤ done
    → HasStepped (setup_of_world formulas_of mid) mid (Do.Fence port) (with_marks_since mid now (Say.Fenced done steps)) now
fence_done formulas_of mid now port count done steps small whole counted most draining past =
    let setup : Setup = setup_of_world formulas_of mid in
    let f = draining.fencing in
    let waits = still_waits formulas_of mid now now port count done steps small whole counted most draining in
    let none : queue_of now.state.queues port ≡ [] = no_writes_left (queue_of now.state.queues port) (omega (arith, waits, past)) in
    let here : HasSameParts now now = record { board = refl; engine = refl; ledger = refl; capacity = same_room now.capacity; tags = refl; digests = refl } in
    let all : done ≡ length (queue_of mid.state.queues port) = omega (arith, past, draining.within, counted) in
    since setup mid now (Do.Fence port) draining.made (Say.Fenced done steps)
    (stepped_by_engine setup mid now (Do.Fence port) (record { marks = draining.made; answer = Say.Fenced done steps })
    (rw f.lit refl)
    (fenced-good setup mid now port done draining.made steps f.drained all)
    (omega (arith, f.small), omega (arith, f.few, f.small))
    (record { shape = f.shape; keys = f.keys; start = f.start })
    f.unshown
    f.drained.marks
    (λ quiet. fenced-after setup mid now port done draining.made steps f.drained)
    (λ quiet. f.drained.world)
    (f.chain (Say.Fenced done steps) now
    (subst (λ (q : List Posted). HasFenced setup q done steps now (Say.Fenced done steps) now) (sym none) (here, refl)))
    tt)

-- ---- where room was made before

-- a fence shows nothing of the world before it
seen_before : (setup : Setup) (old before new : WorldState) (port : ℕ) (answer : Answer)
    → IsSeenOnDevice setup before (Do.Fence port) answer new → IsSeenOnDevice setup old (Do.Fence port) answer new
seen_before setup old before new port (Say.Shown exhibit) it = it
seen_before setup old before new port answer it = it

parts_before : (decided : Option Answer) (A B : Type 0) (C D : Answer → Type 0) → (A → B) → decided ≡ None → MatchOption decided A C → MatchOption decided B D
parts_before None A B C D before none parts = before parts
parts_before (Some answer) A B C D before none parts = absurd (none-some answer (sym none))

pub fence_before : (formulas_of : List ℕ → Formulas) (old mid new : WorldState) (port more : ℕ) → HasMarkRoom (setup_of_world formulas_of old) old more mid
    → old.state.power ≡ true → (answer : Answer)
    → HasStepped (setup_of_world formulas_of mid) mid (Do.Fence port) (with_marks_since mid new answer) new
    → HasStepped (setup_of_world formulas_of old) old (Do.Fence port) (with_marks_since old new answer) new
fence_before formulas_of old mid new port more made lit answer step =
    let before : WorldState = record old { capacity = mid.capacity } in
    let its : HasStepped (setup_of_world formulas_of old) before (Do.Fence port) (with_marks_since before new answer) new =
    subst (λ (w : WorldState). HasStepped (setup_of_world formulas_of w) w (Do.Fence port) (with_marks_since w new answer) new) made.same step in
    let none : decided_answer old.shape old.state (Do.Fence port) ≡ None = rw lit refl in
    record {
      same_shape = its.same_shape;
      same_keys = its.same_keys;
      same_start = its.same_start;
      listed = its.listed;
      in_range = its.in_range;
      legal = its.legal;
      fits = its.fits;
      marks = its.marks;
      shown = its.shown;
      state = its.state;
      holds = its.holds;
      parts =
          parts_before (decided_answer old.shape old.state (Do.Fence port))
          (HasFenced (setup_of_world formulas_of old) (queue_of old.state.queues port) 0 0 before answer new)
          (HasFenced (setup_of_world formulas_of old) (queue_of old.state.queues port) 0 0 old answer new)
          (λ answer. IsByTable before (Do.Fence port) answer new) (λ answer. IsByTable old (Do.Fence port) answer new)
          (fenced_before (setup_of_world formulas_of old) old new mid.capacity made.never_falls answer (queue_of old.state.queues port))
          none its.parts;
      seen = seen_before (setup_of_world formulas_of old) old before new port answer its.seen;
    }

-- power is on where there is an engine
pub on_lit : (setup : Setup) (world : WorldState) → IsWorld setup world → IsSome world.engine → world.state.power ≡ true
on_lit setup world whole some =
    let found = some_engine world.engine some in
    lit_in setup world found.0 whole found.1
