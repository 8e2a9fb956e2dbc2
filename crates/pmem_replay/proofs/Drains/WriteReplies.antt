-- The reply of a drain or a fence whose last write the engine refuses, finds spent, or is cut in: its marks, its
-- causes and its bounds, and the state after it.
use Rattle.std.proofs.Common.{rules}
use Rattle.std.proofs.Common.{ℕ, zero, suc, ◌≡◌, ◌<◌, ◌+◌, ◌++◌, inl, inr, List, [], ◌∷◌, length, Option, Some, None, IsTrue, refl, sym, ap, ap₂, subst, ◌∙◌, arith}
use Rattle.std.specs.Prelude.{MatchOption, IsSome, is_none, unwrap_or, option_map, slice_get, nat_lt, ◌||◌}
use Rattle.std.proofs.lemmas.Bool.{lt-ltb}
use Rattle.pmem_base.specs.declared.commands.Posted.{Posted}
use Rattle.pmem_base.specs.declared.commands.Command.{Command}
use Rattle.pmem_base.specs.declared.commands.Command.TheVariants as Do
use Rattle.pmem_base.specs.declared.answers.Mark.{Mark}
use Rattle.pmem_base.specs.declared.answers.Place.{Place}
use Rattle.pmem_base.specs.declared.answers.Answer.{Answer}
use Rattle.pmem_base.specs.declared.answers.Answer.TheVariants as Say
use Rattle.suite.specs.Formulas.{Formulas}
use Rattle.suite.specs.Setup.{Setup}
use Rattle.plain_model.specs.State.{PlainState}
use Rattle.plain_model.specs.After.{after_front, after_drain, after_drains, after_drop, without_front, after_writes, after_command, after_steps, after_marks, after_power_loss, state_after}
use Rattle.plain_model.specs.Asked.{Moment, moment_of}
use Rattle.pmem_base.specs.declared.answers.Exhibit.{Exhibit}
use Rattle.pmem_base.specs.WaitingWrites.{queue_of}
use Rattle.plain_model.specs.Answers.{is_engine_answer}
use Rattle.plain_model.specs.Legal.{front_of, state_at_turn, line_at_turn, port_drained, IsLineOfRead}
use Rattle.plain_model.specs.Bounds.{IsWriteWithin, IsWithinBounds}
use Rattle.plain_model.specs.Fits.{drained_marks, next_marks, IsResealOf, IsPlaceInFlight, HasWriteMarks, HasMarks, IsPeekTrue}
use Rattle.pmem_engine.specs.Calls.{IsPartOf, IsRefusedLine}
use Rattle.pmem_engine.proofs.PostedWrites.StoppedWrites.{in_flight, still}
use Rattle.pmem_replay.specs.World.{WorldState, view_in}
use Rattle.pmem_replay.proofs.Marks.AfterMarks.{with_flags, touched_after, flushed_after, after_marks-is}
use Rattle.pmem_replay.proofs.Steps.MarklessCalls.{counted_state}
use Rattle.pmem_replay.proofs.Drains.WriteWorlds.{dropped_state, kept_state, lost_state}
use Rattle.pmem_replay.proofs.Drains.DrainChain.{IsDrainedTo, steps_twice, fuse_twice, touched-append, flushed-append}
use Rattle.pmem_replay.proofs.Drains.DrainLists.{drains_more}

-- ---- a command that gives waiting writes to the engine

-- a drain, before which nothing was drained, or a fence after n drained writes
pub record IsReplayWriting (setup : Setup) (old : WorldState) (command : Command) (drained : Option ℕ) (port n : ℕ) : Type 0 where
  pub count : unwrap_or drained 0 ≡ n
  pub its_port : port_drained command ≡ port
  pub turn : state_at_turn old.state command n ≡ after_drains old.state port n
  pub line : (state : PlainState) → line_at_turn state command ≡ option_map (λ write. write.at) (front_of state port)
  pub no_read : (b : ℕ) → IsLineOfRead command b
  pub marks :
      (marks : List Mark) (answer : Answer)
      → HasWriteMarks setup.formulas (moment_of old.state (view_in setup old)) (queue_of old.state.queues port) marks answer
      → HasMarks setup.formulas old.state (view_in setup old) command (record { marks = marks; answer = answer })
  pub peek : (answer : Answer) → IsPeekTrue setup old.state (view_in setup old) command answer
  pub bounds :
      (marks : List Mark) (answer : Answer) → IsWriteWithin setup old.state (view_in setup old) port marks answer
      → IsWithinBounds setup old.state (view_in setup old) command (record { marks = marks; answer = answer })
  pub effect : (answer : Answer) → after_command setup.shape old.state command answer ≡ after_writes old.state port answer
  pub can_refuse : (place : Place) (steps : ℕ) → IsTrue (is_engine_answer command (Say.Refused drained place steps))
  pub can_spend : (page steps : ℕ) → IsTrue (is_engine_answer command (Say.Spent drained page steps))
  pub can_keep : (steps : ℕ) → IsTrue (is_engine_answer command (Say.CutKept drained steps))
  pub can_lose : (steps : ℕ) → IsTrue (is_engine_answer command (Say.CutLost drained steps))
  pub can_show : (exhibit : Exhibit) → IsTrue (is_engine_answer command (Say.Shown exhibit))

pub drain_is_writing : (setup : Setup) (old : WorldState) (port : ℕ) → IsReplayWriting setup old (Do.Drain port) None port 0
drain_is_writing setup old port = search rules

pub fence_is_writing : (setup : Setup) (old : WorldState) (port n : ℕ) → IsReplayWriting setup old (Do.Fence port) (Some n) port n
fence_is_writing setup old port n = search rules

-- ---- marks of a write that isn't done

-- no mark yet is a part of the marks asked, as long as there are some
pub part_none : (asked : Option (List Mark)) → ((marks : List Mark) → asked ≡ Some marks → 0 < length marks) → IsPartOf asked []
part_none asked some =
    record {
      left = unwrap_or asked [];
      front = refl;
      not_all = go asked refl;
    }
  where
    go : (it : Option (List Mark)) → asked ≡ it → IsTrue (is_none it || nat_lt 0 (length (unwrap_or it [])))
    go None there = refl
    go (Some marks) there = lt-ltb 0 (length marks) (some marks there)

module _ (f : Formulas) (now : Moment) (queue : List Posted) (n : ℕ) (made more : List Mark) (asked : Option (List Mark)) (write : Posted)
    (place : slice_get queue n ≡ Some write) (drained : drained_marks f now queue n ≡ Some made) (next : next_marks f now queue n ≡ asked) where
  -- a refused data line is the one to be sealed next, or the line of a short write
  pub place_refused : (b : ℕ) → IsRefusedLine asked more write b → IsPlaceInFlight f now queue n (made ++ more) (Place.Line b)
  place_refused b it =
      elim it [
        | inl resealed ↦ inl (subst (IsResealOf b) (sym (still f now queue n made more asked write place drained next resealed.0)) resealed.1)
        | inr short ↦
            inr (record {
              short =
                  subst (λ o. MatchOption o ⊥ (λ write. (write.len < 64) × (write.at ≡ b))) (sym place) (short.0, sym short.1);
              unmarked = in_flight f now queue n made more asked write place drained next ∙ short.2;
              not_spent = subst (λ o. IsSome o) (sym next) short.3;
            })
      ]

  -- a refused metadata line comes before any mark
  pub meta_refused : (x : ℕ) → more ≡ [] → IsPlaceInFlight f now queue n (made ++ more) (Place.Meta x)
  meta_refused x none = in_flight f now queue n made more asked write place drained next ∙ none

-- the marks asked up to the next refusal are a part
pub refused_part : (asked : Option (List Mark)) (made : List Mark) (write : Posted) (b : ℕ)
    → ((marks : List Mark) → asked ≡ Some marks → 0 < length marks) → IsRefusedLine asked made write b → IsPartOf asked made
refused_part asked made write b some it =
    elim it [
      | inl resealed ↦ resealed.0
      | inr short ↦ subst (IsPartOf asked) (sym short.2) (part_none asked some)
    ]

-- ---- states

pub drains_touched : (state : PlainState) (port n : ℕ) → (after_drains state port n).touched ≡ state.touched
drains_touched state port zero = refl
drains_touched state port (suc n) = drains_touched (after_drain state port) port n ∙ one (queue_of state.queues port)
  where
    one : (queue : List Posted) → (after_front state port queue).touched ≡ state.touched
    one [] = refl
    one (write ∷ later) = refl

pub drains_flushed : (state : PlainState) (port n : ℕ) → (after_drains state port n).flushed ≡ state.flushed
drains_flushed state port zero = refl
drains_flushed state port (suc n) = drains_flushed (after_drain state port) port n ∙ one (queue_of state.queues port)
  where
    one : (queue : List Posted) → (after_front state port queue).flushed ≡ state.flushed
    one [] = refl
    one (write ∷ later) = refl

module _ (setup : Setup) (old mid : WorldState) (command : Command) (d : Option ℕ) (port n : ℕ) (made more : List Mark) (spent taken : ℕ)
    (writing : IsReplayWriting setup old command d port n) (drained : IsDrainedTo setup old mid port n made spent)
    (write : Posted) (later : List Posted) (waits : queue_of mid.state.queues port ≡ write ∷ later) where
  abbrev x_state : PlainState
  x_state = after_drains old.state port n

  x_queue : queue_of x_state.queues port ≡ write ∷ later
  x_queue = ap (λ (s : PlainState). queue_of s.queues port) (sym drained.state) ∙ waits

  touched_all : touched_after mid.state.touched more ≡ touched_after old.state.touched (made ++ more)
  touched_all =
      ap (λ (s : PlainState). touched_after s.touched more) drained.state ∙ sym (touched-append old.state.touched made more)

  flushed_all : flushed_after setup.shape mid.state.flushed more ≡ flushed_after setup.shape old.state.flushed (made ++ more)
  flushed_all =
      ap (λ (s : PlainState). flushed_after setup.shape s.flushed more) drained.state
      ∙ sym (flushed-append setup.shape old.state.flushed made more)

  -- the marks of a reply change only these flags of a state that has the old ones
  marks_all : (state : PlainState) → state.touched ≡ old.state.touched → state.flushed ≡ old.state.flushed
      → after_marks setup.shape state (made ++ more)
      ≡ with_flags state (touched_after old.state.touched (made ++ more)) (flushed_after setup.shape old.state.flushed (made ++ more))
  marks_all state touched flushed =
      after_marks-is setup.shape state (made ++ more)
      ∙ ap₂ (λ t f. with_flags state (touched_after t (made ++ more)) (flushed_after setup.shape f (made ++ more))) touched flushed

  after_is : (answer : Answer) (state : PlainState) → after_steps setup.shape (after_writes old.state port answer) answer ≡ state
      → state.touched ≡ old.state.touched → state.flushed ≡ old.state.flushed
      → state_after setup.shape old.state command (record { marks = made ++ more; answer = answer })
      ≡ with_flags state (touched_after old.state.touched (made ++ more)) (flushed_after setup.shape old.state.flushed (made ++ more))
  after_is answer state it touched flushed =
      ap (λ s. after_marks setup.shape (after_steps setup.shape s answer) (made ++ more)) (writing.effect answer)
      ∙ ap (λ s. after_marks setup.shape s (made ++ more)) it
      ∙ marks_all state touched flushed

  -- the next write is dropped
  dropped_is : dropped_state mid.state port later taken (touched_after mid.state.touched more) (flushed_after setup.shape mid.state.flushed more)
      ≡ with_flags (counted_state (without_front x_state port (write ∷ later)) (spent + taken))
      (touched_after old.state.touched (made ++ more)) (flushed_after setup.shape old.state.flushed (made ++ more))
  dropped_is = search (rules, fuse_twice, steps_twice, flushed_all, touched_all)

  dropped_after : (answer : Answer) → after_steps setup.shape (after_writes old.state port answer) answer ≡ counted_state (after_drop x_state port) (spent + taken)
      → dropped_state mid.state port later taken (touched_after mid.state.touched more) (flushed_after setup.shape mid.state.flushed more)
      ≡ state_after setup.shape old.state command (record { marks = made ++ more; answer = answer })
  dropped_after answer it =
      dropped_is
      ∙ sym (after_is answer (counted_state (without_front x_state port (write ∷ later)) (spent + taken))
      (it ∙ ap (λ q. counted_state (without_front x_state port q) (spent + taken)) x_queue)
      (drains_touched old.state port n) (drains_flushed old.state port n))

  pub after_refused : (place : Place)
      → dropped_state mid.state port later taken (touched_after mid.state.touched more) (flushed_after setup.shape mid.state.flushed more)
      ≡ state_after setup.shape old.state command (record { marks = made ++ more; answer = Say.Refused d place (spent + taken) })
  after_refused place =
      dropped_after (Say.Refused d place (spent + taken))
      (ap (λ k. counted_state (after_drop (after_drains old.state port k) port) (spent + taken)) writing.count)

  pub after_spent : (page : ℕ)
      → dropped_state mid.state port later taken (touched_after mid.state.touched more) (flushed_after setup.shape mid.state.flushed more)
      ≡ state_after setup.shape old.state command (record { marks = made ++ more; answer = Say.Spent d page (spent + taken) })
  after_spent page =
      dropped_after (Say.Spent d page (spent + taken))
      (ap (λ k. counted_state (after_drop (after_drains old.state port k) port) (spent + taken)) writing.count)

  -- the next write is lost in a cut
  pub after_lost :
      lost_state setup.shape mid.state taken (touched_after mid.state.touched more) (flushed_after setup.shape mid.state.flushed more)
      ≡ state_after setup.shape old.state command (record { marks = made ++ more; answer = Say.CutLost d (spent + taken) })
  after_lost =
      ap₂ (λ t f. lost_state setup.shape mid.state taken t f) touched_all flushed_all
      ∙ ap (λ s. lost_state setup.shape s taken (touched_after old.state.touched (made ++ more)) (flushed_after setup.shape old.state.flushed (made ++ more))) drained.state
      ∙ ap (λ steps. record (after_power_loss setup.shape x_state) {
        steps = steps;
        touched = touched_after old.state.touched (made ++ more);
        flushed = flushed_after setup.shape old.state.flushed (made ++ more);
      }) (steps_twice x_state.steps spent taken)
      ∙ sym (after_is (Say.CutLost d (spent + taken)) (after_power_loss setup.shape (counted_state x_state (spent + taken)))
      (ap (λ k. after_power_loss setup.shape (counted_state (after_drains old.state port k) (spent + taken))) writing.count)
      (drains_touched old.state port n) (drains_flushed old.state port n))

  -- the next write is kept in one
  pub after_kept :
      kept_state setup.shape mid.state port write later taken (touched_after mid.state.touched more) (flushed_after setup.shape mid.state.flushed more)
      ≡ state_after setup.shape old.state command (record { marks = made ++ more; answer = Say.CutKept d (spent + taken) })
  after_kept =
      ap₂ (λ t f. kept_state setup.shape mid.state port write later taken t f) touched_all flushed_all
      ∙ ap (λ s. kept_state setup.shape s port write later taken (touched_after old.state.touched (made ++ more)) (flushed_after setup.shape old.state.flushed (made ++ more))) drained.state
      ∙ ap (λ steps. record (after_power_loss setup.shape (after_front x_state port (write ∷ later))) {
        steps = steps;
        touched = touched_after old.state.touched (made ++ more);
        flushed = flushed_after setup.shape old.state.flushed (made ++ more);
      }) (steps_twice x_state.steps spent taken)
      ∙ sym (after_is (Say.CutKept d (spent + taken)) (after_power_loss setup.shape (counted_state (after_front x_state port (write ∷ later)) (spent + taken)))
      (ap (λ k. after_power_loss setup.shape (counted_state (after_drains old.state port k) (spent + taken))) {x = unwrap_or d 0 + 1} {y = suc n} (omega (arith, writing.count))
      ∙ ap (λ s. after_power_loss setup.shape (counted_state s (spent + taken))) (drains_more old.state port n)
      ∙ ap (λ q. after_power_loss setup.shape (counted_state (after_front x_state port q) (spent + taken))) x_queue)
      (drains_touched old.state port n) (drains_flushed old.state port n))
