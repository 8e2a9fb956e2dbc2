-- A read of a logical line in the session: it shows memory's line, or power is cut.
use Rattle.std.proofs.Common.{ℕ, ◌≡◌, ◌<◌, Bool, true, false, [], Some, None, Ok, Err, refl, sym, ap, subst, ◌∙◌, arith, cond}
use Rattle.wear_session.proofs.Common.{Result, append-nil, same_Some, Line, line_at, Setup, plain_memory, path_length, Parts, going, cut_short, OneLossEffect, HasReadLine, Gapped, LevelledLines, count_in, place_of, logical_lines, places, step_limit, none_taken, at_most, fewer, WearState, HasWearRead, IsWearAnswered, true≢false, Fault, WearAnswer, read_call, read_said, IsLineWorld, IsLineOn, HasMade, parts_during, called_store, HasReadAt}
use Rattle.wear_session.proofs.Worlds.{engine_of, WearCall, setup_of, before, after, IsHeld, Exit, levelled_as, on_before, count_before, place_is, undecided, lines_are, count_is, levelled_still, same_memory, same_wear, on_after, off_after}
use Rattle.wear_session.proofs.AnswerClauses.{served}
use Rattle.pmem_base.specs.Layout as layout
use Rattle.pmem_engine.specs.declared.fault.Fault.TheVariants as Fail
use Rattle.wear_session.specs.declared.answers.WearAnswer.TheVariants as Say
use Rattle.wear_session.specs.declared.commands.WearCommand.TheVariants as Do
use Rattle.wear_session.specs.World.{IsLevelledAs}
use Rattle.wear_session.specs.Planned.{got_said}

module _ (c : WearCall) (world : IsLineWorld engine_of (setup_of c) c.old) (a : ℕ) (store : LevelledLines) (there : c.old.store ≡ Some store)
    (low : a < store.gapped.lines) (steps : ℕ) (answered : Result Line Fault)
    (call : HasMade engine_of (λ setup old new from to answer. HasReadAt setup a old.gapped new.gapped from to answer) (setup_of c) store steps answered
    c.old c.new) where
  abbrev setup : Setup
  setup = setup_of c

  abbrev old : WearState
  old = before c

  abbrev new : WearState
  new = after c

  abbrev gapped : Gapped
  gapped = store.gapped

  abbrev place : ℕ
  place = place_of gapped.lines gapped.wear a

  abbrev from : Parts
  from = parts_during gapped.engine c.old.state none_taken

  abbrev to : Parts
  to = parts_during call.after.gapped.engine c.new.state call.taken

  on : IsLineOn setup c.old.state gapped.engine
  on = on_before c world store there

  its : IsLevelledAs setup c.every c.old.state.ledger.marks store
  its = levelled_as c world store there

  was_read : HasReadLine setup place from to answered
  was_read = (call.made.read.did on.running).was_read

  read_as : (answer : Result Line Fault) → answered ≡ answer → HasReadLine setup place from to answer
  read_as answer is = subst (HasReadLine setup place from to) is was_read

  -- what is answered, by what the call did
  seen_as : (said : WearAnswer) → HasWearRead old a said new → (c.new.state.board.powered ≡ false → steps < step_limit)
      → (let end : WearAnswer × ℕ = (said, new.count) in end ≡ read_said old.count c.new.state steps answered)
      → IsWearAnswered setup old (Do.Read a) said new
  seen_as said read within is =
      served setup old new (Do.Read a) said (undecided c world store there a low) read (
        record {
          steps = steps;
          end = answered;
          called =
              called_store engine_of (λ setup old new from to answer. HasReadAt setup a old.gapped new.gapped from to answer) setup (read_call setup old a) store
              steps answered answered c.old c.new world there call within (rw (place_is c world store there a) at was_read.plan);
          is_said = is;
        },
        refl,
      )

  -- ---- answered

  module _ (line : Line) (is : answered ≡ Ok line) where
    it : HasReadLine setup place from to (Ok line)
    it = read_as (Ok line) is

    done : OneLossEffect setup going [] from to
    done = it.done

    marks : c.new.state.ledger.marks ≡ c.old.state.ledger.marks
    marks = done.gone.marks ∙ append-nil c.old.state.ledger.marks

    powered : c.new.state.board.powered ≡ true
    powered = done.gone.power.1 on.powered

    stays : c.new.store ≡ Some call.after
    stays = call.its_store ∙ ap (λ b. cond b (Some call.after) None) powered

    count_new : new.count ≡ old.count
    count_new = count_is c call.after stays ∙ call.made.its_wear.its_count ∙ sym (count_before c world store there)

    got_held : IsHeld c
    got_held =
        on_after c call.shape call.keys (levelled_still c marks) call.after stays (call.made.its_wear.its_every ∙ its.its_every)
        (call.made.its_wear.its_wear ∙ its.its_wear ∙ sym (same_wear c marks))

    shown : line ≡ line_at old.memory a
    shown =
        let n = lines_are c world store there in
        let inside : a < logical_lines setup.shape = omega (arith, n, low) in
        let most = (places gapped.lines gapped.wear gapped.its_wear).within a low in
        let same : layout.data_lines gapped.engine.shape ≡ layout.data_lines setup.shape = ap layout.data_lines on.its_shape in
        let size = gapped.its_lines in
        let place_within : place < layout.data_lines setup.shape = omega (arith, most, same, size) in
        same_Some line _ (sym (it.answered on.sound.trusted).0 ∙ world.places.each place place_within)
        ∙ ap (line_at (plain_memory setup c.old.state.ledger.marks)) (place_is c world store there a) ∙ c.held.levelled.holds.each a inside

    got_seen : IsWearAnswered setup old (Do.Read a) (Say.Got line steps) new
    got_seen =
        seen_as (Say.Got line steps) (
          shown,
          (
            record {
              memory = same_memory c marks;
              wear = same_wear c marks;
              count = count_new;
              power = powered ∙ sym on.powered;
              loss = done.loss;
              marks = marks;
            },
            rw call.its_steps
                (at_most call.taken (path_length setup.shape) call.watched.follows.few it.steps_of_path.0.sum),
          ),
        ) (λ dark. absurd (true≢false (sym powered ∙ dark))) (ap (λ (k : ℕ). (let end : WearAnswer × ℕ = (Say.Got line steps, k) in end))
        (count_new ∙ sym (ap (λ b. cond b old.count 0) powered))
        ∙ sym (ap (read_said old.count c.new.state steps) is))

  -- ---- cut

  module _ (is : answered ≡ Err Fail.Cut) where
    cut : HasReadLine setup place from to (Err Fail.Cut)
    cut = read_as (Err Fail.Cut) is

    cut_done : OneLossEffect setup cut_short [] from to
    cut_done = cut.done

    marks_cut : c.new.state.ledger.marks ≡ c.old.state.ledger.marks
    marks_cut = cut_done.gone.marks ∙ append-nil c.old.state.ledger.marks

    off : c.new.state.board.powered ≡ false
    off = cut_done.gone.power.1

    gone : c.new.store ≡ None
    gone = call.its_store ∙ ap (λ b. cond b (Some call.after) None) off

    no_count : new.count ≡ 0
    no_count = ap count_in gone

    cut_held : IsHeld c
    cut_held = off_after c call.shape call.keys (levelled_still c marks_cut) gone

    cut_seen : IsWearAnswered setup old (Do.Read a) (Say.Cut steps) new
    cut_seen =
        let levels = world.whole_shape.at_most_six_levels in
        let below : steps < path_length setup.shape =
        rw call.its_steps (fewer call.taken (path_length setup.shape) call.watched.follows.few (cut.steps_of_path.1 on.powered).sum) in
        seen_as (Say.Cut steps) (
          record {
            memory = same_memory c marks_cut;
            wear = same_wear c marks_cut;
            count = no_count;
            power = off;
            loss = cut_done.loss;
            marks = marks_cut;
          },
          below,
        ) (λ dark. omega (arith, levels, below))
        (ap (λ (k : ℕ). (let end : WearAnswer × ℕ = (Say.Cut steps, k) in end)) (no_count ∙ sym (ap (λ b. cond b old.count 0) off))
        ∙ sym (ap (read_said old.count c.new.state steps) is))

  -- over a sound device no other fault comes
  not_read : (fault : Fault) → answered ≡ Err fault → Exit c (Do.Read a) (Say.Cut steps)
  not_read Fail.Cut is = (cut_held is, cut_seen is)
  not_read (Fail.Spent page) is = absurd ((read_as (Err (Fail.Spent page)) is).possible)
  not_read fault is = absurd ((read_as (Err fault) is).unrefused on.sound)

  pub exit : (sealed : Bool) → Exit c (Do.Read a) (got_said steps sealed answered)
  exit sealed = go answered refl
    where
      go : (answer : Result Line Fault) → answered ≡ answer → Exit c (Do.Read a) (got_said steps sealed answer)
      go (Ok line) is = (got_held line is, got_seen line is)
      go (Err fault) is = not_read fault is
