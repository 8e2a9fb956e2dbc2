-- A fence as a chain of drained writes, and where the next one begins.
use Rattle.std.proofs.Common.{rules}
use Rattle.std.proofs.Common.{ℕ, zero, suc, ◌≡◌, ◌≢◌, ◌<◌, ◌≤◌, ◌+◌, ◌-◌, ◌++◌, inl, inr, Bool, true, false, List, [], ◌∷◌, length, take, Option, Some, None, Ok, IsTrue, refl, sym, ap, ap₂, subst, ◌∙◌, arith}
use Rattle.std.specs.Prelude.{All, IfSome, option_map, slice_get, not, ◌==◌}
use Rattle.std.proofs.lemmas.Option.{same_Some, none-some, slice_get_within}
use Rattle.std.proofs.lemmas.Bool.{cases_eq, eq-eqb, or_left, or_right}
use Rattle.std.proofs.lemmas.List.Elements.{All-head}
use Rattle.std.proofs.lemmas.List.{append-nil, append_assoc}
use Rattle.pmem_base.specs.declared.lines.Ctr.{Ctr}
use Rattle.pmem_base.specs.declared.commands.Posted.{Posted}
use Rattle.pmem_base.specs.declared.answers.Mark.{Mark}
use Rattle.pmem_base.specs.Shape.{Shape}
use Rattle.pmem_base.specs.declared.lines.Line.{Line}
use Rattle.pmem_base.specs.Ranges.{IsPosted}
use Rattle.pmem_base.specs.WaitingWrites.{queue_of}
use Rattle.suite.specs.Setup.{Setup}
use Rattle.plain_model.specs.State.{PlainState, is_flagged}
use Rattle.plain_model.specs.View.{DeviceView, start_view, view_of}
use Rattle.plain_model.proofs.Views.{view_after_marks-append}
use Rattle.plain_model.specs.After.{after_front, after_drain, after_drains, steps_with}
use Rattle.plain_model.specs.Asked.{moment_of, marks_of_write, marks_of_writes, moment_after_writes}
use Rattle.plain_model.specs.Legal.{front_of, can_put, can_put_first}
use Rattle.plain_model.specs.Bounds.{writing_bound}
use Rattle.plain_model.specs.Fits.{drained_marks, next_marks}
use Rattle.pmem_engine.specs.Engine.{EngineState}
use Rattle.pmem_engine.specs.Outcomes.{is_sealed_by}
use Rattle.pmem_engine.specs.Calls.{HasWrittenLine, write_bound}
use Rattle.pmem_replay.specs.World.{WorldState, IsOn, IsWorld, view_in, lines_in}
use Rattle.watched_board.specs.declared.taken.Taken.{Taken}
use Rattle.watched_board.specs.Watching.{none_taken, steps_in}
use Rattle.watched_board.proofs.StepLaws.{at_most, unburnt}
use Rattle.pmem_replay.specs.During.{parts_in}
use Rattle.pmem_replay.specs.EngineCalls.{IsCall}
use Rattle.pmem_replay.proofs.Steps.WorldsAfterCalls.{on_in, within_fuse}
use Rattle.pmem_replay.proofs.Steps.FaultCauses.{stored_unspoiled, zero_within}
use Rattle.pmem_replay.proofs.Steps.MarklessCalls.{counted_state}
use Rattle.pmem_replay.proofs.Marks.AfterMarks.{with_flags, touched_after, flushed_after, touched_after_mark, flushed_after_mark}
use Rattle.pmem_replay.proofs.Marks.OpenPages.{whole_pages}
use Rattle.pmem_replay.proofs.Marks.AskedMarks.{asked_form, asked_seals}
use Rattle.plain_model.proofs.WriteMarks.{marks_of_writes-more, moment_view, writing_bound-append}
use Rattle.plain_model.proofs.WaitingLaws.{queue_after}
use Rattle.pmem_replay.proofs.Drains.DrainLists.{slice_get-drop, take-next, drains_more, can_put_more, drains_memory}
use Rattle.pmem_replay.proofs.Drains.WriteWorlds.{put_state, front_on_memory}

-- ---- steps and fuses

pub steps_twice : (steps first second : ℕ) → steps_with (steps_with steps first) second ≡ steps_with steps (first + second)
steps_twice steps first second = omega arith

pub fuse_twice : (fuse : Option ℕ) (first second : ℕ)
    → option_map (λ n. n - second) (option_map (λ n. n - first) fuse) ≡ option_map (λ n. n - (first + second)) fuse
fuse_twice None first second = refl
fuse_twice (Some n) first second = ap (λ (k : ℕ). Some k) (omega arith)

pub fuse_none : (fuse : Option ℕ) → fuse ≡ option_map (λ n. n - 0) fuse
fuse_none fuse = sym (unburnt fuse)

-- steps taken after others are within the fuse that those left
pub fuse_more : (fuse : Option ℕ) (first second : ℕ) → IfSome fuse (λ n. first ≤ n)
    → IfSome (option_map (λ n. n - first) fuse) (λ n. second ≤ n) → IfSome fuse (λ n. first + second ≤ n)
fuse_more None first second one two = tt
fuse_more (Some n) first second one two = omega (arith, one, two)

-- a cut after others stands where the fuse did
pub fuse_cut : (fuse : Option ℕ) (first second : ℕ) → IfSome fuse (λ n. first ≤ n)
    → option_map (λ n. n - first) fuse ≡ Some second → fuse ≡ Some (first + second)
fuse_cut None first second one two = absurd (none-some second two)
fuse_cut (Some n) first second one two = ap (λ (k : ℕ). Some k) (omega (arith, one, same_Some (n - first) second two))

-- ---- states

-- the plain machine's fuse isn't touched by drains alone
pub drains_fuse : (state : PlainState) (port n : ℕ) → (after_drains state port n).fuse ≡ state.fuse
drains_fuse state port zero = refl
drains_fuse state port (suc n) = drains_fuse (after_drain state port) port n ∙ one (queue_of state.queues port)
  where
    one : (queue : List Posted) → (after_front state port queue).fuse ≡ state.fuse
    one [] = refl
    one (write ∷ later) = refl

-- one more write put is one more drain
put_more : (state : PlainState) (spent taken port : ℕ) (t f touched flushed : List Bool) (write : Posted) (later : List Posted)
    → put_state (with_flags (counted_state state spent) t f) port write later taken touched flushed
    ≡ with_flags (counted_state (after_front state port (write ∷ later)) (spent + taken)) touched flushed
put_more state spent taken port t f touched flushed write later = search (rules, fuse_twice, steps_twice)

pub touched-append : (touched : List Bool) (front back : List Mark) → touched_after touched (front ++ back) ≡ touched_after (touched_after touched front) back
touched-append touched [] back = refl
touched-append touched (mark ∷ front) back = touched-append (touched_after_mark touched mark) front back

pub flushed-append : (g : Shape) (flushed : List Bool) (front back : List Mark) → flushed_after g flushed (front ++ back) ≡ flushed_after g (flushed_after g flushed front) back
flushed-append g flushed [] back = refl
flushed-append g flushed (mark ∷ front) back = flushed-append g (flushed_after_mark g flushed mark) front back

-- ---- the chain

-- so many writes of the port were drained since the command began, with these marks and steps
pub record IsDrainedTo (setup : Setup) (old mid : WorldState) (port n : ℕ) (made : List Mark) (spent : ℕ) : Type 0 where
  pub world : IsWorld setup mid
  pub state :
      mid.state
      ≡ with_flags (counted_state (after_drains old.state port n) spent) (touched_after old.state.touched made)
      (flushed_after setup.shape old.state.flushed made)
  pub marks : mid.ledger.marks ≡ old.ledger.marks ++ made
  pub asked :
      drained_marks setup.formulas (moment_of old.state (view_in setup old)) (queue_of old.state.queues port) n ≡ Some made
  pub can : IsTrue (can_put_first old.state port n)
  pub bound : spent ≤ writing_bound setup.shape n made
  pub fuse : IfSome old.state.fuse (λ left. spent ≤ left)
  pub few : n ≤ length (queue_of old.state.queues port)

-- none were, when it begins
pub drained_none : (setup : Setup) (old : WorldState) (port : ℕ) → IsWorld setup old → IsDrainedTo setup old old port 0 [] 0
drained_none setup old port world = search (rules, arith, append-nil, zero_within, fuse_none)

-- what is known of the write that comes next
pub record IsNextDrain (setup : Setup) (old mid : WorldState) (port n : ℕ) (made : List Mark) (write : Posted) : Type 0 where
  pub its_place : slice_get (queue_of old.state.queues port) n ≡ Some write
  pub moment :
      moment_after_writes setup.formulas (moment_of old.state (view_in setup old)) (take n (queue_of old.state.queues port))
      ≡ moment_of mid.state (view_in setup mid)
  pub asked :
      next_marks setup.formulas (moment_of old.state (view_in setup old)) (queue_of old.state.queues port) n
      ≡ marks_of_write setup.formulas (moment_of mid.state (view_in setup mid)) write
  pub front : front_of (after_drains old.state port n) port ≡ Some write

module _ (setup : Setup) (old mid : WorldState) (port n : ℕ) (made : List Mark) (spent : ℕ)
    (drained : IsDrainedTo setup old mid port n made spent) (world : IsWorld setup old) (small : port < 8)
    (write : Posted) (later : List Posted) (waits : queue_of mid.state.queues port ≡ write ∷ later) where
  abbrev queue : List Posted
  queue = queue_of old.state.queues port

  abbrev drained_state : PlainState
  drained_state = after_drains old.state port n

  in_ports : port < length old.state.queues
  in_ports = omega (arith, small, world.queues.ports.eight)

  its_queue : queue_of drained_state.queues port ≡ write ∷ later
  its_queue = ap (λ (s : PlainState). queue_of s.queues port) (sym drained.state) ∙ waits

  pub next-place : slice_get queue n ≡ Some write
  next-place = slice_get-drop queue n write later (sym (queue_after old.state port n in_ports) ∙ its_queue)

  next-moment : moment_after_writes setup.formulas (moment_of old.state (view_in setup old)) (take n queue) ≡ moment_of mid.state (view_in setup mid)
  next-moment =
      let now = moment_of old.state (view_in setup old) in
      let memory : (moment_after_writes setup.formulas now (take n queue)).memory ≡ mid.state.memory =
      drains_memory setup.formulas now old.state port n in_ports refl ∙ ap (λ (s : PlainState). s.memory) (sym drained.state) in
      let view : (moment_after_writes setup.formulas now (take n queue)).view ≡ view_in setup mid =
      moment_view setup.formulas now (take n queue) made drained.asked
      ∙ sym (view_after_marks-append (start_view setup.shape) old.ledger.marks made)
      ∙ ap (view_of setup.shape) (sym drained.marks) in
      ap₂ (λ (m : List Line) (v : DeviceView). record { memory = m; view = v }) memory view

  pub next-known : IsNextDrain setup old mid port n made write
  next-known = search (rules, its_queue, next-moment, next-place)

  -- the marks of one more
  pub marks-more : (more : List Mark) → marks_of_write setup.formulas (moment_of mid.state (view_in setup mid)) write ≡ Some more
      → drained_marks setup.formulas (moment_of old.state (view_in setup old)) queue (suc n) ≡ Some (made ++ more)
  marks-more more asked =
      let now = moment_of old.state (view_in setup old) in
      ap (marks_of_writes setup.formulas now) (take-next queue n write next-place)
      ∙ marks_of_writes-more setup.formulas now (take n queue) write made drained.asked
      ∙ ap (λ moment. option_map (λ here. made ++ here) (marks_of_write setup.formulas moment write)) next-moment
      ∙ ap (option_map (λ here. made ++ here)) asked

  -- it has no more bytes than a line
  pub next-short : write.len ≤ 64
  next-short =
      let its = All-head IsPosted write later
      (subst (λ q. All IsPosted q) waits (drained.world.queues.ports.each port [] (omega (arith, small, drained.world.queues.ports.eight))).posted) in
      omega (arith, its.inside)

  -- a part of a line is put only into a line that isn't spoiled
  pub can-more : (write.len ≢ 64 → is_flagged mid.state.spoiled write.at ≡ false) → IsTrue (can_put_first old.state port (suc n))
  can-more whole =
      let at_mid : IsTrue (can_put mid.state (Some write)) =
      elim (cases_eq write.len 64) [
        | inl full ↦ or_left (write.len == 64) (not (is_flagged mid.state.spoiled write.at)) (eq-eqb write.len 64 full)
        | inr part ↦ or_right (write.len == 64) (not (is_flagged mid.state.spoiled write.at)) (ap not (whole part))
      ] in
      can_put_more old.state port n drained.can
      (subst (λ front. IsTrue (can_put drained_state front)) (sym next-known.front)
      (subst (λ (s : PlainState). IsTrue (can_put s (Some write))) drained.state at_mid))

  -- ---- one more write is drained

  module _ (new : WorldState) (engine after : EngineState) (taken : Taken) (call : IsCall setup mid new engine after taken) (ctr : Ctr)
      (written : HasWrittenLine setup write (parts_in mid engine none_taken) (parts_in new after taken) (Ok ctr)) where
    on_mid : IsOn setup mid engine
    on_mid = on_in setup mid engine call.world call.was_on

    ok_asked : marks_of_write setup.formulas (moment_of mid.state (view_in setup mid)) write ≡ Some written.made
    ok_asked = written.marks on_mid.trusted mid.state.memory call.world.memory.each

    pub ok_sealed : is_sealed_by written.made write.at ≡ true
    ok_sealed =
        asked_seals setup.formulas write written.made
        (asked_form setup.shape setup.formulas (moment_of mid.state (view_in setup mid)) write written.made
        (whole_pages setup mid.board.regs mid.ledger on_mid.trusted.anchored) ok_asked)

    pub ok_steps : steps_in taken ≤ write_bound setup.shape written.made
    ok_steps =
        at_most taken (write_bound setup.shape written.made) call.follows.few
        (written.steps on_mid.trusted mid.state.memory call.world.memory.each).sum

    part_unspoiled : write.len ≢ 64 → is_flagged mid.state.spoiled write.at ≡ false
    part_unspoiled part =
        stored_unspoiled setup mid.state (lines_in mid) mid.board.regs.loss mid.ledger write.at call.world.kept
        (front_on_memory setup mid.state port write later call.world.queues small waits)
        (written.sealed_before on_mid.trusted write.at (front_on_memory setup mid.state port write later call.world.queues small waits) ok_sealed
        (inr (omega (arith, part, next-short))))

    pub drained-more :
        new.state ≡ put_state mid.state port write later (steps_in taken) (touched_after mid.state.touched written.made) (flushed_after setup.shape mid.state.flushed written.made)
        → IsWorld setup new → IsDrainedTo setup old new port (suc n) (made ++ written.made) (spent + steps_in taken)
    drained-more state holds =
        let done = written.done in
        let powered = done.gone.power.1 (call.world.board.power ∙ on_mid.powered) in
        let touched : touched_after mid.state.touched written.made ≡ touched_after old.state.touched (made ++ written.made) =
        ap (λ (s : PlainState). touched_after s.touched written.made) drained.state ∙ sym (touched-append old.state.touched made written.made) in
        let flushed : flushed_after setup.shape mid.state.flushed written.made ≡ flushed_after setup.shape old.state.flushed (made ++ written.made) =
        ap (λ (s : PlainState). flushed_after setup.shape s.flushed written.made) drained.state ∙ sym (flushed-append setup.shape old.state.flushed made written.made) in
        record {
          world = holds;
          state =
              state
              ∙ ap₂ (λ t f. put_state mid.state port write later (steps_in taken) t f) touched flushed
              ∙ ap (λ s. put_state s port write later (steps_in taken) (touched_after old.state.touched (made ++ written.made)) (flushed_after setup.shape old.state.flushed (made ++ written.made))) drained.state
              ∙ put_more drained_state spent (steps_in taken) port (touched_after old.state.touched made) (flushed_after setup.shape old.state.flushed made)
              (touched_after old.state.touched (made ++ written.made)) (flushed_after setup.shape old.state.flushed (made ++ written.made)) write later
              ∙ ap (λ q. with_flags (counted_state (after_front drained_state port q) (spent + steps_in taken))
              (touched_after old.state.touched (made ++ written.made)) (flushed_after setup.shape old.state.flushed (made ++ written.made))) (sym its_queue)
              ∙ ap (λ s. with_flags (counted_state s (spent + steps_in taken))
              (touched_after old.state.touched (made ++ written.made)) (flushed_after setup.shape old.state.flushed (made ++ written.made)))
              (sym (drains_more old.state port n));
          marks = done.gone.marks ∙ ap (λ marks. marks ++ written.made) drained.marks ∙ append_assoc old.ledger.marks made written.made;
          asked = marks-more written.made ok_asked;
          can = can-more part_unspoiled;
          bound =
              let sum : writing_bound setup.shape (n + 1) (made ++ written.made) ≡ writing_bound setup.shape n made + writing_bound setup.shape 1 written.made =
              writing_bound-append setup.shape n 1 made written.made in
              let same : writing_bound setup.shape (suc n) (made ++ written.made) ≡ writing_bound setup.shape (n + 1) (made ++ written.made) =
              ap (λ k. writing_bound setup.shape k (made ++ written.made)) {x = suc n} {y = n + 1} (omega arith) in
              omega (arith, sum, same, drained.bound, ok_steps);
          fuse =
              fuse_more old.state.fuse spent (steps_in taken) drained.fuse
              (subst (λ fuse. IfSome (option_map (λ k. k - spent) fuse) (λ left. steps_in taken ≤ left)) (drains_fuse old.state port n)
              (subst (λ (s : PlainState). IfSome s.fuse (λ left. steps_in taken ≤ left)) drained.state
              (within_fuse mid.state mid.board new.board taken call.world.board call.follows powered)));
          few = slice_get_within queue n write next-place;
        }
