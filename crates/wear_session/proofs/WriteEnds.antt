-- How far a write with its move came, by its answer: how many of its engine writes are done, and all their marks.
use Rattle.std.proofs.Common.{ℕ, zero, suc, ◌≡◌, ◌<◌, ◌≤◌, ◌+◌, ◌*◌, ◌⊎◌, inl, inr, Bool, true, false, List, [], ◌∷◌, ◌++◌, length, take, drop, Some, Result, Ok, Err, refl, sym, ap, subst, arith}
use Rattle.wear_session.proofs.Common.{All, nat_lt, not, MatchBool, if◌then◌else◌, list_any, true≢false, All-nil, Line, Ctr, Posted, Mark, Shape, data_lines, Formulas, Setup, Memory, memory_with, Moment, path_length, drained_marks, IsSpentNext, Fault, Parts, AreSound, whole_write, HasWrittenLine, AreEdited, IsEditOf, Writing, is_own_seal, IsCutAmong, write_steps, read_steps, writes_none, writes_own, own_at_cut, memory_now, moment_now, within_done, within_cut, AreDone, none_done, memory_done, spent_path, all_posted, cost, AreGone, IsSpentAt, IsCutAt, IsStoppedAt, EndsAt, gone_within, ends_within, write_gone, write_spent_next, write_stopped, edits_go, Wear, Gapped, Moved, WriteFault, place_of, next_wear, move_edits, HasWriteGoneOn, HasLevelledWrite, HasCounted, HasTriedMove, HasWear, write_answer_by, wear_by, places, move_fits, moving_writes}
use Rattle.pmem_engine.specs.declared.fault.Fault.TheVariants as Fail
use Rattle.start_gap.specs.declared.gapped.Moved.TheVariants as Move
use Rattle.call_effects.specs.Outcomes.{Outcome, is_going, going}
use Rattle.pmem_engine.specs.Outcomes.{outcome_of_fault}
use Rattle.start_gap.specs.Gapped.{write_outcome_by}
use Rattle.std.specs.Prelude.{◌||◌}
use Rattle.line_session.specs.Kept.{IsLeft, is_fault_cut}
use Rattle.line_session.proofs.KeptLines.{done_left, cut_left, still_up}
use Rattle.wear_session.specs.StoreCalls.{is_write_cut}

-- ---- the engine writes of a write

abbrev pub writes_of : Memory → ℕ → Wear → Bool → ℕ → Line → List Posted
writes_of memory n wear due a plain =
    let own = whole_write (place_of n wear a) plain in
    own ∷ (if due then moving_writes n wear (memory_with memory own) else [])

abbrev pub most_of : Shape → Bool → ℕ
most_of g due = if due then 3 * write_steps g + read_steps g else write_steps g

-- ---- ends

-- the counter of the line itself is used up
pub record IsSpentFirst (setup : Setup) (from : Parts) (queue : List Posted) (page : ℕ) (to : Parts) : Type 0 where
  pub done : AreDone setup from [] [] (path_length setup.shape) to
  pub next : IsSpentNext setup.formulas (moment_now setup from) queue 0 page []

-- power is cut once the line is written, or in its own write
abbrev pub FailsWearAt : Setup → Parts → List Posted → ℕ → Fault → Bool → Parts → Type 0
FailsWearAt setup from queue most (Fail.Spent page) written to = (written ≡ false) × IsSpentFirst setup from queue page to
FailsWearAt setup from queue most Fail.Cut true to = IsCutAt setup from queue 1 (length queue) most to
FailsWearAt setup from queue most Fail.Cut false to =
    IsCutAt setup from queue 1 (length queue) most to ⊎ IsStoppedAt setup from queue 0 (write_steps setup.shape) to
FailsWearAt setup from queue most fault written to = ⊥

-- held is a move of which a line is spent, once the line itself is written
abbrev pub EndsWearAt : Setup → Parts → List Posted → Bool → ℕ → Result Moved WriteFault → Parts → Type 0
EndsWearAt setup from queue due most (Ok Move.Not) to = (due ≡ false) × AreGone setup from queue 1 most to
EndsWearAt setup from queue due most (Ok Move.Made) to = (due ≡ true) × AreGone setup from queue 3 most to
EndsWearAt setup from queue due most (Ok (Move.Held page)) to = (due ≡ true) × IsSpentAt setup from queue 1 3 page most to
EndsWearAt setup from queue due most (Err fault) to = FailsWearAt setup from queue most fault.fault fault.written to

-- the wear and the count that an answer leaves
abbrev pub WearsAs : Gapped → Gapped → Result Moved WriteFault → Type 0
WearsAs old new (Ok Move.Not) = HasWear old.wear (old.count + 1) old new
WearsAs old new (Ok Move.Made) = HasWear (next_wear old.lines old.wear) 0 old new
WearsAs old new (Ok (Move.Held page)) = HasWear old.wear 0 old new
WearsAs old new (Err fault) = fault.written ≡ false → HasWear old.wear old.count old new

pub wears_as : (setup : Setup) (a : ℕ) (plain : Line) (old new : Gapped) (from to : Parts) (answer : Result Moved WriteFault)
    → HasLevelledWrite setup a plain old new from to answer → WearsAs old new answer
wears_as setup a plain old new from to answer it = go it.made it.then
  where
    tried_as : (tried : Result (Unit {0}) Fault) → HasWear (wear_by tried old.lines old.wear) 0 old new → WearsAs old new (write_answer_by tried)
    tried_as (Ok done) wear = wear
    tried_as (Err (Fail.Spent page)) wear = wear
    tried_as (Err fault) wear = λ e. absurd (true≢false e)

    gone_on : (early : Bool) → MatchBool early (HasCounted old new it.between to answer) (HasTriedMove setup old new it.between to answer)
        → WearsAs old new answer
    gone_on true counted = subst (WearsAs old new) (sym counted.its_answer) counted.its_wear
    gone_on false tried = subst (WearsAs old new) (sym tried.its_answer) (tried_as tried.tried tried.its_wear)

    go : (made : Result Ctr Fault) → HasWriteGoneOn made setup old new it.between to answer → WearsAs old new answer
    go (Ok ctr) later = gone_on (nat_lt (old.count + 1) old.every) later
    go (Err fault) later = subst (WearsAs old new) (sym later.its_answer) (λ e. later.its_wear)

-- ---- the line's own seal, which is that of the first write

module _ (f : Formulas) (now : Moment) (own : Posted) (rest : List Posted) where
  pub own_kept : (writing : Writing) → 0 < writing.done → IsCutAmong f now (own ∷ rest) writing → list_any (is_own_seal own.at) writing.made ≡ true
  own_kept writing some = own_at_cut f now (own ∷ rest) writing own.at true (each writing.done some)
    where
      each : (k : ℕ) → 0 < k → (made : List Mark) → drained_marks f now (own ∷ rest) k ≡ Some made → list_any (is_own_seal own.at) made ≡ true
      each zero some made it = absurd (omega (arith, some))
      each (suc k) some made it = writes_own f now [] own (take k rest) made it

  pub own_lost : (made : List Mark) → IsCutAmong f now (own ∷ rest) (record { done = 0; made = made }) → list_any (is_own_seal own.at) made ≡ false
  own_lost made =
      own_at_cut f now (own ∷ rest) (record { done = 0; made = made }) own.at false
      (λ made it. writes_none f now [] made own.at it (All-nil (λ (w : Posted). w.at ≡ own.at → ⊥)))

-- ---- the whole

module _ (setup : Setup) (a : ℕ) (plain : Line) (old new : Gapped) (from to : Parts) (sound : AreSound setup from) (live : from.device.live ≡ true)
    (size : old.lines + 2 ≡ data_lines setup.shape) (inside : a < old.lines) where
  abbrev n : ℕ
  n = old.lines

  abbrev wear : Wear
  wear = old.wear

  abbrev place : ℕ
  place = place_of n wear a

  abbrev own : Posted
  own = whole_write place plain

  abbrev rest : Bool → List Posted
  rest due = if due then moving_writes n wear (memory_with (memory_now setup from) own) else []

  abbrev queue : Bool → List Posted
  queue due = writes_of (memory_now setup from) n wear due a plain

  abbrev w : ℕ
  w = write_steps setup.shape

  place_inside : place < data_lines setup.shape
  place_inside = let low = (places n wear old.its_wear).within a inside in omega (arith, low, size)

  begun : AreDone setup from [] [] 0 from
  begun = none_done setup from sound live

  abbrev EndsWearWrite : Bool → Result Moved WriteFault → Parts → Type 0
  EndsWearWrite due answer parts = EndsWearAt setup from (queue due) due (most_of setup.shape due) answer parts

  -- the move, once the line is written
  moved_end : (between : Parts) (made : List Mark) (tried : Result (Unit {0}) Fault) → AreDone setup from (own ∷ []) made (0 + w) between
      → AreEdited setup (move_edits n wear) between to tried
      → EndsAt setup from (queue true) 1 (1 + length (move_edits n wear)) (0 + w + cost setup.shape (move_edits n wear)) tried to
  moved_end between made tried done it =
      edits_go setup from (queue true) (move_edits n wear) 1 (0 + w) made between to [] tried
      (subst (λ count. All (IsEditOf count) (move_edits n wear)) size (move_fits n wear old.its_wear)) done there it
    where
      there : drop 1 (queue true) ≡ all_posted (memory_now setup between) (move_edits n wear) ++ []
      there = sym (ap (λ m. all_posted m (move_edits n wear)) (memory_done setup from between (own ∷ []) made (0 + w) done))

  tried_ends : (tried : Result (Unit {0}) Fault)
      → EndsAt setup from (queue true) 1 (1 + length (move_edits n wear)) (0 + w + cost setup.shape (move_edits n wear)) tried to
      → EndsWearWrite true (write_answer_by tried) to
  tried_ends (Ok done) gone = (refl, gone_within setup from _ 3 3 _ _ to refl (omega arith) gone)
  tried_ends (Err fault) ends =
      go fault
      (ends_within setup from (queue true) 1 1 3 3 (0 + w + cost setup.shape (move_edits n wear)) (most_of setup.shape true) fault to (omega arith)
      (omega arith) (omega arith) ends)
    where
      go : (fault : Fault) → EndsAt setup from (queue true) 1 3 (most_of setup.shape true) (Err fault) to
          → EndsWearWrite true (write_answer_by (Err fault)) to
      go (Fail.Spent page) it = (refl, it)
      go Fail.Cut it = it
      go fault it = absurd it

  -- the line's own write ended
  refused_ends : (due : Bool) (fault : Fault) (parts : Parts) → HasWrittenLine setup own from parts (Err fault)
      → FailsWearAt setup from (queue due) (most_of setup.shape due) fault false parts
  refused_ends due (Fail.Spent page) parts written = (
    refl,
    record {
      done =
          within_done setup from [] [] (0 + path_length setup.shape) (path_length setup.shape) parts (omega arith)
          (spent_path setup from from [] [] 0 begun own parts place_inside page written);
      next = write_spent_next setup from (queue due) place plain 0 0 [] from parts (rest due) place_inside begun refl page written;
    },
  )
  refused_ends due Fail.Cut parts written =
      elim (write_stopped setup from (queue due) place plain 0 0 [] from parts (rest due) place_inside begun refl written) [
        | inl after ↦
            inl (ends_within setup from (queue due) 1 1 1 (length (queue due)) (0 + w) (most_of setup.shape due) Fail.Cut parts (omega arith)
            (omega arith) (least due) after)
        | inr before ↦
            inr (record {
              made = before.made;
              came = before.came;
              cut = within_cut setup from [] before.made (0 + w) w parts (omega arith) before.cut;
            })
      ]
    where
      least : (due : Bool) → 0 + w ≤ most_of setup.shape due
      least true = omega arith
      least false = omega arith
  refused_ends due fault parts written = absurd (written.unrefused sound)

  gone_on : (early : Bool) (ctr : Ctr) (between : Parts) (answer : Result Moved WriteFault) → HasWrittenLine setup own from between (Ok ctr)
      → MatchBool early (HasCounted old new between to answer) (HasTriedMove setup old new between to answer) → EndsWearWrite (not early) answer to
  gone_on early ctr between answer written later = go early later
    where
      gone : (due : Bool) → AreGone setup from (queue due) 1 (0 + w) between
      gone due = write_gone setup from (queue due) place plain 0 0 [] from between (rest due) place_inside begun refl ctr written

      go : (early : Bool) → MatchBool early (HasCounted old new between to answer) (HasTriedMove setup old new between to answer)
          → EndsWearWrite (not early) answer to
      go true counted =
          subst (λ r. EndsWearWrite false r to) (sym counted.its_answer) (
            refl,
            subst (AreGone setup from (queue false) 1 w) (sym counted.nothing_else)
                (gone_within setup from (queue false) 1 1 (0 + w) w between refl (omega arith) (gone false)),
          )
      go false tried =
          subst (λ r. EndsWearWrite true r to) (sym tried.its_answer)
          (tried_ends tried.tried (moved_end between (gone true).made tried.tried (gone true).done tried.was_tried))

  abbrev due_now : Bool
  due_now = not (nat_lt (old.count + 1) old.every)

  pub write_ends_at : (answer : Result Moved WriteFault) → HasLevelledWrite setup a plain old new from to answer
      → EndsWearWrite due_now answer to
  write_ends_at answer it = go it.made it.was_written it.then
    where
      go : (made : Result Ctr Fault) → HasWrittenLine setup own from it.between made → HasWriteGoneOn made setup old new it.between to answer
          → EndsWearWrite due_now answer to
      go (Ok ctr) written later = gone_on (nat_lt (old.count + 1) old.every) ctr it.between answer written later
      go (Err fault) written later =
          subst (λ r. EndsWearWrite due_now r to) (sym later.its_answer)
          (subst (FailsWearAt setup from (queue due_now) (most_of setup.shape due_now) fault false) (sym later.nothing_else)
          (refused_ends due_now fault it.between written))

  -- sound lines stay sound, or power is cut
  pub write_keeps : (answer : Result Moved WriteFault) → HasLevelledWrite setup a plain old new from to answer
      → new.engine.down ≡ (old.engine.down || not (is_going (write_outcome_by answer))) → old.engine.down ≡ false
      → IsLeft setup (is_write_cut answer) new.engine from to
  write_keeps answer it after up = go answer after (write_ends_at answer it)
    where
      left : (writes : List Posted) (made : List Mark) (most : ℕ) → AreDone setup from writes made most to → (outcome : Outcome) → is_going outcome ≡ true
          → new.engine.down ≡ (old.engine.down || not (is_going outcome)) → IsLeft setup false new.engine from to
      left writes made most done outcome goes after =
          done_left setup from to writes made most new.engine done (still_up old.engine.down new.engine.down outcome up after goes)

      failed : (fault : Fault) (written : Bool) → new.engine.down ≡ (old.engine.down || not (is_going (outcome_of_fault fault)))
          → FailsWearAt setup from (queue due_now) (most_of setup.shape due_now) fault written to → IsLeft setup (is_fault_cut fault) new.engine from to
      failed (Fail.Spent page) written after end = left [] [] (path_length setup.shape) end.1.done going refl after
      failed Fail.Cut true after end = cut_left setup from to (take end.writing.done (queue due_now)) end.writing.made (most_of setup.shape due_now) new.engine end.cut
      failed Fail.Cut false after end =
          elim end [
            | inl kept ↦ cut_left setup from to (take kept.writing.done (queue due_now)) kept.writing.made (most_of setup.shape due_now) new.engine kept.cut
            | inr lost ↦ cut_left setup from to (take 0 (queue due_now)) lost.made (write_steps setup.shape) new.engine lost.cut
          ]
      failed fault written after end = absurd end

      go : (answer : Result Moved WriteFault) → new.engine.down ≡ (old.engine.down || not (is_going (write_outcome_by answer)))
          → EndsWearWrite due_now answer to → IsLeft setup (is_write_cut answer) new.engine from to
      go (Ok Move.Not) after end = left (take 1 (queue due_now)) end.1.made (most_of setup.shape due_now) end.1.done going refl after
      go (Ok Move.Made) after end = left (take 3 (queue due_now)) end.1.made (most_of setup.shape due_now) end.1.done going refl after
      go (Ok (Move.Held page)) after end = left (take end.1.count (queue due_now)) end.1.made (most_of setup.shape due_now) end.1.done going refl after
      go (Err fault) after end = failed fault.fault fault.written after end
