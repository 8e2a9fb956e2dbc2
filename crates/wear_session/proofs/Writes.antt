-- A write of a logical line in the session: what is held once the first k of its engine writes are done, its call, and what it is
-- answered.
use Rattle.std.proofs.Common.{ℕ, ◌≡◌, ◌<◌, ◌≤◌, ◌+◌, Bool, true, false, cond, List, length, take, Some, None, Result, refl, sym, ap, ap₂, subst, subst₂, ◌∙◌, arith, zero, suc, ◌++◌, ◌⊎◌, inl, inr, [], drop, Ok, Err, rules}
use Rattle.wear_session.proofs.Common.{not, nat_lt, slice_set, ◌==◌, Line, Posted, Mark, IsLine, ended, Follows, Setup, Memory, plain_memory, moment_after_writes, Parts, Chip, Wear, Gapped, LevelledLines, count_in, Moved, WriteFault, place_of, next_wear, IsLevelled, write_lines_at, wear_at, write_memory_at, Writing, whole_places, moment_now, AreDone, AreCut, logical_lines, levelled_plan, write_answer_of, count_after, step_limit, device_during, none_taken, at_most, fewer, WearAnswer, WearState, wear_lines_in, is_due, engine_writes, place_in, wear_in, levelled_memory, IsLevelledAs, IsWearCalled, write_call, move_said, IsWearButForSteps, GoesToWearState, IsWearCutOff, after_writing, most_of_write, with_marks, wear_without_power, IsLineWorld, IsLineOn, HasMade, parts_during, called_store, chip_in, on_chip, is_sealed_since, HasWrittenLevelled, IsLevelledWrite, Result, ◌||◌, list_any, true≢false, drop_at, path_length, Fault, whole_write, is_own_seal, write_steps, memory_done, AreGone, IsCutAt, IsStoppedAt, moment_in, IsWriting, EndsWriting, or_true, fault_said}
use Rattle.pmem_base.specs.Layout as layout
use Rattle.wear_session.specs.declared.commands.WearCommand.TheVariants as Do
use Rattle.wear_session.proofs.Worlds.{engine_of, WearCall, setup_of, before, after, IsHeld, Exit, on_before, levelled_as, lines_are, count_is, count_before, place_is, undecided, on_after, off_after}
use Rattle.wear_session.proofs.AnswerClauses.{served}
use Rattle.wear_session.proofs.WriteEnds.{writes_of, most_of, EndsWearAt, WearsAs, write_ends_at, wears_as, FailsWearAt, own_kept, own_lost}
use Rattle.wear_session.proofs.WriteLaws.{stage_of, lines_done, levelled_done, memory_by, wear_by, wear_after, memory_after, levelled_after, with_writes_is, some_of}
use Rattle.std.specs.Prelude.{◌&&◌}
use Rattle.pmem_engine.specs.declared.fault.Fault.TheVariants as Fail
use Rattle.pmem_engine.proofs.Laws.PolicyBounds.{begun_most}
use Rattle.start_gap.specs.declared.gapped.Moved.TheVariants as Move
use Rattle.wear_session.specs.declared.answers.WearAnswer.TheVariants as Say

module _ (c : WearCall) (world : IsLineWorld engine_of (setup_of c) c.old) (a : ℕ) (plain : Line) (whole : IsLine plain) (store : LevelledLines)
    (there : c.old.store ≡ Some store) (low : a < store.gapped.lines) (steps : ℕ) (answered : Result Moved WriteFault)
    (call : HasMade engine_of (λ setup old new from to answer. IsLevelledWrite setup a plain old.gapped new.gapped from to answer) (setup_of c) store steps
    answered c.old c.new) where
  abbrev setup : Setup
  setup = setup_of c

  abbrev old : WearState
  old = before c

  abbrev new : WearState
  new = after c

  abbrev gapped : Gapped
  gapped = store.gapped

  abbrev left : Gapped
  left = call.after.gapped

  abbrev places : Memory
  places = plain_memory setup c.old.state.ledger.marks

  abbrev places_now : Memory
  places_now = plain_memory setup c.new.state.ledger.marks

  abbrev n : ℕ
  n = gapped.lines

  abbrev wear : Wear
  wear = gapped.wear

  abbrev due : Bool
  due = not (nat_lt (gapped.count + 1) gapped.every)

  abbrev queue : List Posted
  queue = writes_of places n wear due a plain

  abbrev most : ℕ
  most = most_of_write old

  abbrev from : Parts
  from = parts_during gapped.engine c.old.state none_taken

  abbrev to : Parts
  to = parts_during left.engine c.new.state call.taken

  on : IsLineOn setup c.old.state gapped.engine
  on = on_before c world store there

  its : IsLevelledAs setup c.every c.old.state.ledger.marks store
  its = levelled_as c world store there

  n_is : n ≡ logical_lines setup.shape
  n_is = lines_are c world store there

  size : n + 2 ≡ layout.data_lines setup.shape
  size = search rules

  -- ---- the session's words for the levelled lines'

  count_old : old.count ≡ gapped.count
  count_old = count_before c world store there

  due_is : is_due old ≡ due
  due_is = search (rules, not, nat_lt)

  queue_is : engine_writes setup old a plain ≡ queue
  queue_is =
      ap (λ m. writes_of places m (wear_in setup places) (is_due old) a plain) (sym n_is)
      ∙ ap (λ w. writes_of places n w (is_due old) a plain) (sym its.its_wear)
      ∙ ap (λ d. writes_of places n wear d a plain) due_is

  -- ---- how it ended

  its_write : HasWrittenLevelled setup a plain gapped left from to answered
  its_write = call.made.did on.running

  ends : (answer : Result Moved WriteFault) → answered ≡ answer → EndsWearAt setup from queue due most answer to
  ends answer is =
      subst₂ (λ m r. EndsWearAt setup from queue due m r to) (ap (λ d. most_of setup.shape d) (sym due_is)) is
      (write_ends_at setup a plain gapped left from to on.sound on.powered size low answered its_write.was_written)

  wears : (answer : Result Moved WriteFault) → answered ≡ answer → WearsAs gapped left answer
  wears answer is = subst (WearsAs gapped left) is (wears_as setup a plain gapped left from to answered its_write.was_written)

  had : IsLevelled n places wear (levelled_memory setup places)
  had =
      subst (λ m. IsLevelled m places wear (levelled_memory setup places)) (sym n_is)
      (subst (λ w. IsLevelled (logical_lines setup.shape) places w (levelled_memory setup places)) (sym its.its_wear) c.held.levelled)

  -- ---- once the first k of its engine writes are done

  module _ (k : ℕ) (made : List Mark) (few : k ≤ length queue)
      (is : places_now ≡ write_lines_at (stage_of k) n wear a plain places) where
    k_few : k ≤ 3
    k_few = let long = queue_long due in omega (arith, few, long)
      where
        queue_long : (d : Bool) → length (writes_of places n wear d a plain) ≤ 3
        queue_long true = omega arith
        queue_long false = omega arith

    held_lines : IsLevelled n (write_lines_at (stage_of k) n wear a plain places) (wear_at (stage_of k) n wear)
        (write_memory_at (stage_of k) a plain (levelled_memory setup places))
    held_lines =
        levelled_done places (levelled_memory setup places) n wear a plain
        (whole_places setup c.old.state.board.regs c.old.state.ledger places world.whole_formulas on.sound.trusted.anchored world.places).each
        gapped.few_lines low whole had k

    levelled : IsLevelled (logical_lines setup.shape) places_now (wear_in setup places_now)
        (levelled_memory setup places_now)
    levelled = levelled_after setup places (levelled_memory setup places) places_now n wear a plain k n_is is held_lines

    its_wear : wear_in setup places_now ≡ wear_at (stage_of k) n wear
    its_wear = wear_after setup places (levelled_memory setup places) places_now n wear a plain k n_is is held_lines

    wear_now : wear_in setup places_now ≡ cond (k == 0) old.wear (cond (k == 3) (next_wear (wear_lines_in old) old.wear) old.wear)
    wear_now =
        its_wear ∙ ap (λ m. wear_at (stage_of k) m wear) n_is ∙ ap (λ w. wear_at (stage_of k) (logical_lines setup.shape) w) its.its_wear
        ∙ wear_by k (logical_lines setup.shape) old.wear k_few

    memory_now_is : levelled_memory setup places_now ≡ cond (k == 0) old.memory (slice_set old.memory a plain)
    memory_now_is =
        memory_after setup places (levelled_memory setup places) places_now n wear a plain k n_is is held_lines
        ∙ memory_by k a plain old.memory

    abbrev writing : Writing
    writing = record { done = k; made = made }

    -- power is on
    module _ (limit : ℕ) (writes : List Posted) (done : AreDone setup from writes made limit to) (its_after : left.wear ≡ wear_at (stage_of k) n wear)
        (count : left.count ≡ cond (k == 0) gapped.count (cond due 0 (gapped.count + 1))) (every : left.every ≡ gapped.every) where
      stays : c.new.store ≡ Some call.after
      stays = call.its_store ∙ ap (λ b. cond b (Some call.after) None) done.live

      goes : IsHeld c × GoesToWearState (after_writing old a plain writing) steps limit new
      goes = (
        on_after c call.shape call.keys levelled call.after stays (every ∙ its.its_every)
            (its_after ∙ sym its_wear),
        (
          subst (λ e. IsWearButForSteps (record e { session = with_marks old.session made }) new) (sym (with_writes_is old a plain k))
              (record {
                memory = memory_now_is;
                wear = wear_now;
                count = search (rules, count_is);
                power = done.live ∙ sym on.powered;
                loss = done.loss;
                marks = done.marks;
              }),
          rw call.its_steps (at_most call.taken limit call.watched.follows.few done.takes.sum),
        ),
      )

    -- power was cut
    module _ (limit : ℕ) (writes : List Posted) (cut : AreCut setup from writes made limit to) where
      gone : c.new.store ≡ None
      gone = call.its_store ∙ ap (λ b. cond b (Some call.after) None) cut.dark

      cuts : IsHeld c × IsWearCutOff (after_writing old a plain writing) steps limit new
      cuts = (
        off_after c call.shape call.keys levelled gone,
        (
          subst (λ e. IsWearButForSteps (wear_without_power (record e { session = with_marks old.session made })) new) (sym (with_writes_is old a plain k))
              (record {
                memory = memory_now_is;
                wear = wear_now;
                count = ap count_in gone;
                power = cut.dark;
                loss = cut.loss;
                marks = cut.marks;
              }),
          rw call.its_steps (fewer call.taken limit call.watched.follows.few cut.takes.sum),
        ),
      )

  -- memory once the first k are done
  lines_are_at : (k : ℕ) → k ≤ length queue
      → places_now ≡ (moment_after_writes setup.formulas (moment_now setup from) (take k queue)).memory
      → places_now ≡ write_lines_at (stage_of k) n wear a plain places
  lines_are_at k few it =
      it
      ∙ lines_done places (levelled_memory setup places) n wear a plain
      (whole_places setup c.old.state.board.regs c.old.state.ledger places world.whole_formulas on.sound.trusted.anchored world.places).each
      gapped.few_lines low whole had setup.formulas (moment_now setup from) due k refl few

  -- ---- the call of the session

  abbrev chip : Chip
  chip = chip_in c.old.state (on_chip gapped.engine)

  plan_is : levelled_plan setup n wear due a plain chip c.old.state.board.regs ≡ write_call setup old a plain c.old.state.board.regs chip
  plan_is =
      ap (λ m. levelled_plan setup m wear due a plain chip c.old.state.board.regs) n_is
      ∙ ap (λ w. levelled_plan setup (logical_lines setup.shape) w due a plain chip c.old.state.board.regs) its.its_wear
      ∙ ap (λ d. levelled_plan setup (logical_lines setup.shape) old.wear d a plain chip c.old.state.board.regs) (sym due_is)

  abbrev own : Bool
  own = is_sealed_since (place_in old a) c.old.state.ledger.marks c.new.state

  counted_as : new.count ≡ cond c.new.state.board.powered (count_after (is_due old) old.count its_write.plan.end) 0
  counted_as = ap count_in call.its_store ∙ by_power c.new.state.board.powered
    where
      its_count : left.count ≡ count_after (is_due old) old.count its_write.plan.end
      its_count =
          its_write.plan.its_wear.its_count ∙ ap (λ d. count_after d gapped.count its_write.plan.end) (sym due_is)
          ∙ ap (λ m. count_after (is_due old) m its_write.plan.end) (sym count_old)

      by_power : (b : Bool) → count_in (cond b (Some call.after) None)
          ≡ cond b (count_after (is_due old) old.count its_write.plan.end) 0
      by_power true = its_count
      by_power false = refl

  called : (c.new.state.board.powered ≡ false → steps < step_limit) → IsWearCalled setup old (Do.Write a plain) (move_said own steps answered) new
  called within = (
    record {
      steps = steps;
      end = its_write.plan.end;
      called =
          called_store engine_of (λ setup old new from to answer. IsLevelledWrite setup a plain old.gapped new.gapped from to answer) setup
          (write_call setup old a plain) store steps answered its_write.plan.end c.old c.new world there call within
          (subst (λ q. Follows q (device_during c.old.state.board none_taken) (device_during c.new.state.board call.taken)
          (ended its_write.plan.end (chip_in c.new.state (on_chip left.engine)))) plan_is its_write.plan.follows);
      is_said =
          ap₂ (λ (a : WearAnswer) (k : ℕ). (let end : WearAnswer × ℕ = (a, k) in end))
          (ap (λ r. move_said own steps r) (its_write.plan.its_answer ∙ ap (λ d. write_answer_of d its_write.plan.end) (sym due_is))) counted_as;
    },
    refl,
  )

  -- ---- the exits: what is held, and what is answered

  abbrev Said : WearAnswer → Type 0
  Said said = Exit c (Do.Write a plain) said

  exit_of : (said : WearAnswer) (writing : Writing) → IsWriting setup.formulas (moment_now setup from) queue writing said
      → IsHeld c × EndsWriting (after_writing old a plain writing) said old new
      → (c.new.state.board.powered ≡ false → steps < step_limit) → said ≡ move_said own steps answered → Said said
  exit_of said writing came left within is = (
    left.0,
    served setup old new (Do.Write a plain) said (undecided c world store there a low)
        (record {
          writing = writing;
          came = subst (λ q. IsWriting setup.formulas (moment_in setup old.session) q writing said) (sym queue_is) came;
          ends = left.1;
        })
        (rw is (called within)),
  )

  -- power is on
  lit_exit : (said : WearAnswer) (writing : Writing) → IsWriting setup.formulas (moment_now setup from) queue writing said
      → IsHeld c × EndsWriting (after_writing old a plain writing) said old new
      → c.new.state.board.powered ≡ true → said ≡ move_said own steps answered → Said said
  lit_exit said writing came left lit is = exit_of said writing came left (λ dark. absurd (true≢false (sym lit ∙ dark))) is

  -- all are done
  gone_exit : (k : ℕ) (gone : AreGone setup from queue k most to) → k ≡ length queue → left.wear ≡ wear_at (stage_of k) n wear
      → left.count ≡ cond (k == 0) gapped.count (cond due 0 (gapped.count + 1)) → left.every ≡ gapped.every
      → Say.Written steps ≡ move_said own steps answered → Said (Say.Written steps)
  gone_exit k gone all its_after count every said =
      let few : k ≤ length queue = omega (arith, all) in
      let is = lines_are_at k few (memory_done setup from to (take k queue) gone.made most gone.done) in
      lit_exit (Say.Written steps) (record { done = k; made = gone.made }) (all, (few, gone.done.asked))
      (goes k gone.made few is most (take k queue) gone.done its_after count every) gone.done.live said

  made_exit : (answered ≡ Ok Move.Not) ⊎ (answered ≡ Ok Move.Made) → Said (Say.Written steps)
  made_exit (inl is) =
      let end = ends (Ok Move.Not) is in
      let its = wears (Ok Move.Not) is in
      gone_exit 1 end.1 (ap (λ d. length (writes_of places n wear d a plain)) (sym end.0)) its.its_wear
      (its.its_count ∙ ap (λ d. cond d 0 (gapped.count + 1)) (sym end.0)) its.its_every (sym (ap (λ r. move_said own steps r) is))
  made_exit (inr is) =
      let end = ends (Ok Move.Made) is in
      let its = wears (Ok Move.Made) is in
      gone_exit 3 end.1 (ap (λ d. length (writes_of places n wear d a plain)) (sym end.0)) its.its_wear
      (its.its_count ∙ ap (λ d. cond d 0 (gapped.count + 1)) (sym end.0)) its.its_every (sym (ap (λ r. move_said own steps r) is))

  -- the move is held
  still_wear : (k : ℕ) → k < 3 → wear_at (stage_of k) n wear ≡ wear
  still_wear zero few = refl
  still_wear (suc zero) few = refl
  still_wear (suc (suc zero)) few = refl
  still_wear (suc (suc (suc k))) few = absurd (omega (arith, few))

  held_exit : (page : ℕ) → answered ≡ Ok (Move.Held page) → Said (Say.Held page steps)
  held_exit page is =
      let end = ends (Ok (Move.Held page)) is in
      let its = wears (Ok (Move.Held page)) is in
      let held = end.1 in
      let long : 3 ≡ length queue = ap (λ d. length (writes_of places n wear d a plain)) (sym end.0) in
      let below = held.high in
      let few : held.count ≤ length queue = omega (arith, long, below) in
      let lines = lines_are_at held.count few (memory_done setup from to (take held.count queue) held.made most held.done) in
      let its_after : left.wear ≡ wear_at (stage_of held.count) n wear = its.its_wear ∙ sym (still_wear held.count held.high) in
      let count : left.count ≡ cond (held.count == 0) gapped.count (cond due 0 (gapped.count + 1)) = search (rules, some_of) in
      lit_exit (Say.Held page steps) (record { done = held.count; made = held.made }) (held.low, held.next)
      (goes held.count held.made few lines most (take held.count queue) held.done its_after count its.its_every) held.done.live
      (sym (ap (λ r. move_said own steps r) is))

  -- the line is spent
  spent_exit : (page : ℕ) (written : Bool) → answered ≡ Err (record { fault = Fail.Spent page; written = written }) → Said (Say.Spent page steps)
  spent_exit page written is =
      let end = ends (Err (record { fault = Fail.Spent page; written = written })) is in
      let its = wears (Err (record { fault = Fail.Spent page; written = written })) is end.0 in
      let spent = end.1 in
      let few : 0 ≤ length queue = omega arith in
      let lines = lines_are_at 0 few (memory_done setup from to [] [] (path_length setup.shape) spent.done) in
      lit_exit (Say.Spent page steps) (record { done = 0; made = [] }) (refl, spent.next)
      (goes 0 [] few lines (path_length setup.shape) [] spent.done its.its_wear its.its_count its.its_every) spent.done.live
      (sym (ap (λ r. move_said own steps r) is))

  -- power was cut
  few_steps : (d : Bool) → most_of setup.shape d ≤ step_limit
  few_steps true = omega (arith, world.whole_shape.at_most_six_levels, begun_most setup.shape world.whole_shape.persists_path)
  few_steps false = omega (arith, world.whole_shape.at_most_six_levels, begun_most setup.shape world.whole_shape.persists_path)

  abbrev rest : List Posted
  rest = drop 1 queue

  -- the line's own seal is among the marks exactly if it is written
  kept_own : (kept : IsCutAt setup from queue 1 (length queue) most to) → list_any (is_own_seal (place_of n wear a)) kept.writing.made ≡ true
  kept_own kept = own_kept setup.formulas (moment_now setup from) (whole_write (place_of n wear a) plain) rest kept.writing kept.low kept.came

  lost_own : (lost : IsStoppedAt setup from queue 0 (write_steps setup.shape) to) → list_any (is_own_seal (place_of n wear a)) lost.made ≡ false
  lost_own lost = own_lost setup.formulas (moment_now setup from) (whole_write (place_of n wear a) plain) rest lost.made (inr lost.came)

  own_is : (made : List Mark) → c.new.state.ledger.marks ≡ c.old.state.ledger.marks ++ made
      → own ≡ list_any (is_own_seal (place_of n wear a)) made
  own_is made marks =
      ap (λ a. is_sealed_since a c.old.state.ledger.marks c.new.state) (sym (place_is c world store there a))
      ∙ ap (list_any (is_own_seal (place_of n wear a)))
      (ap (drop (length c.old.state.ledger.marks)) marks ∙ drop_at c.old.state.ledger.marks made (length c.old.state.ledger.marks) refl)

  abbrev cut_answer : Bool → Result Moved WriteFault
  cut_answer written = Err (record { fault = Fail.Cut; written = written })

  -- with the line's own seal among the new marks
  kept_exit : (written : Bool) → answered ≡ cut_answer written → IsCutAt setup from queue 1 (length queue) most to → Said (move_said own steps (cut_answer written))
  kept_exit written is kept =
      let sealed : own ≡ true = own_is kept.writing.made kept.cut.marks ∙ kept_own kept in
      let small = few_steps (is_due old) in
      let k = kept.writing.done in
      let lines = lines_are_at k kept.high kept.cut.memory in
      let cut = cuts k kept.writing.made kept.high lines most (take k queue) kept.cut in
      let below = cut.1.1 in
      let said : move_said own steps (cut_answer written) ≡ Say.CutKept steps = search (rules, or_true) in
      rw said
      (exit_of (Say.CutKept steps) kept.writing (kept.low, kept.came) cut (λ dark. omega (arith, below, small))
      (sym (ap (λ r. move_said own steps r) is ∙ said)))

  -- or before it
  lost_exit : answered ≡ cut_answer false → IsStoppedAt setup from queue 0 (write_steps setup.shape) to → Said (move_said own steps (cut_answer false))
  lost_exit is lost =
      let sealed : own ≡ false = own_is lost.made lost.cut.marks ∙ lost_own lost in
      let small = few_steps false in
      let few : 0 ≤ length queue = omega arith in
      let lines = lines_are_at 0 few lost.cut.memory in
      let cut = cuts 0 lost.made few lines (write_steps setup.shape) [] lost.cut in
      let below = cut.1.1 in
      let said : move_said own steps (cut_answer false) ≡ Say.CutLost steps = ap (λ b. cond b (Say.CutKept steps) (Say.CutLost steps)) sealed in
      rw said (exit_of (Say.CutLost steps) (record { done = 0; made = lost.made }) (refl, lost.came) cut (λ dark. omega (arith, below, small))
      (sym (ap (λ r. move_said own steps r) is ∙ said)))

  said_exit : Said (move_said own steps answered)
  said_exit = go answered refl
    where
      failed : (fault : Fault) (written : Bool) → answered ≡ Err (record { fault = fault; written = written })
          → FailsWearAt setup from queue most fault written to → Said (move_said own steps (Err (record { fault = fault; written = written })))
      failed (Fail.Spent page) written is end = spent_exit page written is
      failed Fail.Cut true is end = kept_exit true is end
      failed Fail.Cut false is end = elim end [ inl kept ↦ kept_exit false is kept | inr lost ↦ lost_exit is lost ]
      failed fault written is end = absurd end

      go : (answer : Result Moved WriteFault) → answered ≡ answer → Said (move_said own steps answer)
      go (Ok Move.Not) is = made_exit (inl is)
      go (Ok Move.Made) is = made_exit (inr is)
      go (Ok (Move.Held page)) is = held_exit page is
      go (Err fault) is = failed fault.fault fault.written is (ends (Err fault) is)

  -- the line's own seal is asked for in a cut alone
  sealed_said : (sealed : Bool) → sealed ≡ (not c.new.state.board.powered && is_sealed_since (place_of n wear a) c.old.state.ledger.marks c.new.state)
      → move_said sealed steps answered ≡ move_said own steps answered
  sealed_said sealed is = go answered refl
    where
      own_here : Bool
      own_here = is_sealed_since (place_of n wear a) c.old.state.ledger.marks c.new.state

      here : own_here ≡ own
      here = ap (λ a. is_sealed_since a c.old.state.ledger.marks c.new.state) (place_is c world store there a)

      dark : (written : Bool) → FailsWearAt setup from queue most Fail.Cut written to → c.new.state.board.powered ≡ false
      dark true end = end.cut.dark
      dark false end = elim end [ inl kept ↦ kept.cut.dark | inr lost ↦ lost.cut.dark ]

      failed : (fault : Fault) (written : Bool) → FailsWearAt setup from queue most fault written to
          → fault_said (written || sealed) steps fault ≡ fault_said (written || own) steps fault
      failed (Fail.Spent page) written end = refl
      failed Fail.Cut written end = ap (λ b. fault_said (written || b) steps Fail.Cut) (is ∙ ap (λ b. not b && own_here) (dark written end) ∙ here)
      failed fault written end = absurd end

      go : (answer : Result Moved WriteFault) → answered ≡ answer → move_said sealed steps answer ≡ move_said own steps answer
      go (Ok Move.Not) same = refl
      go (Ok Move.Made) same = refl
      go (Ok (Move.Held page)) same = refl
      go (Err fault) same = failed fault.fault fault.written (ends (Err fault) same)

  -- whatever it answers
  pub exit : (sealed : Bool) → sealed ≡ (not c.new.state.board.powered && is_sealed_since (place_of n wear a) c.old.state.ledger.marks c.new.state)
      → Said (move_said sealed steps answered)
  exit sealed is = rw (sealed_said sealed is) said_exit
