-- What becomes of the logical lines in a write with its move.
use Rattle.std.proofs.Common.{ℕ, zero, suc, ◌≡◌, ◌<◌, ◌≤◌, ◌+◌, ◌^◌, inl, inr, Bool, true, false, List, [], ◌∷◌, take, Result, Ok, Err, refl, sym, subst, arith, rules}
use Rattle.start_gap.proofs.Common.{All, nat_lt, MatchBool, ⊤, All-nil, All-cons, Line, Ctr, data_lines, IsLine, Setup, Fault, Parts, AreTrusted, whole_write, HasWrittenLine, Edit, HasLines, IsUnspent, done_as, AreEdited, IsEditOf, all_edited, trusted_after_write, LeavesLines, LeavesAll, put_leaves, edits_leave, Wear, Gapped, Moved, WriteFault, IsWear, place_of, next_wear, source_of, move_edits, MoveStage, begun, written, copied, moved, write_lines_at, HasWriteGoneOn, HasLevelledWrite, HasCounted, HasTriedMove, IsWriteEnd, IsLeftLevelled, write_answer_by}
use Rattle.pmem_engine.specs.declared.fault.Fault.TheVariants as Fail
use Rattle.engine_lines.specs.declared.edits.Edit.TheVariants as Make
use Rattle.engine_lines.proofs.EditStages.{leaves_cases, stops_by}
use Rattle.start_gap.specs.declared.gapped.Moved.TheVariants as Move
use Rattle.start_gap.specs.Record.{wear_record}
use Rattle.start_gap.proofs.Places.{places, source-within}
use Rattle.start_gap.proofs.Records.{wear_record-IsLine}
use Rattle.start_gap.proofs.LevelledMemory.{safe_at_each_stage}

-- ---- a move

pub move_fits : (n : ℕ) (wear : Wear) → IsWear n wear → All (IsEditOf (n + 2)) (move_edits n wear)
move_fits n wear its = search (rules, source-within, All-cons, wear_record-IsLine, All-nil)

-- the stages at which a move may end, once the line is written
abbrev IsMoveEnd : Result (Unit {0}) Fault → MoveStage → Type 0
IsMoveEnd (Ok done) moved = ⊤
IsMoveEnd (Err fault) written = ⊤
IsMoveEnd (Err fault) copied = ⊤
IsMoveEnd (Err fault) moved = IsUnspent fault
IsMoveEnd answer stage = ⊥

record IsMovedTo (setup : Setup) (n : ℕ) (wear : Wear) (a : ℕ) (plain : Line) (lines : List Line) (to : Parts)
    (answer : Result (Unit {0}) Fault) : Type 0 where
  stage : MoveStage
  ended : IsMoveEnd answer stage
  holds : HasLines setup (write_lines_at stage n wear a plain lines) to

module _ (setup : Setup) (n : ℕ) (wear : Wear) (a : ℕ) (plain : Line) (lines : List Line) (small : data_lines setup.shape ≤ 2 ^ 32)
    (fit : All (IsEditOf (data_lines setup.shape)) (move_edits n wear)) where
  abbrev line_there : List Line
  line_there = write_lines_at written n wear a plain lines

  abbrev copy : Edit
  copy = Make.Copy (source_of n wear) wear.gap

  moved_to : (from to : Parts) (answer : Result (Unit {0}) Fault) → HasLines setup line_there from → AreTrusted setup from
      → AreEdited setup (move_edits n wear) from to answer → IsMovedTo setup n wear a plain lines to answer
  moved_to from to answer had trusted it = go answer (edits_leave setup small (move_edits n wear) line_there from to answer fit had trusted it)
    where
      -- up to the copy
      before : (fault : Fault) (k : ℕ) → k ≤ 1 → HasLines setup (all_edited (take k (copy ∷ [])) line_there) to
          → IsMovedTo setup n wear a plain lines to (Err fault)
      before fault zero few holds = record { stage = written; ended = tt; holds = holds }
      before fault (suc zero) few holds = record { stage = copied; ended = tt; holds = holds }
      before fault (suc (suc k)) few holds = absurd (omega (arith, few))

      go : (answer : Result (Unit {0}) Fault) → LeavesAll setup small answer (move_edits n wear) line_there to
          → IsMovedTo setup n wear a plain lines to answer
      go (Ok done) holds = record { stage = moved; ended = tt; holds = holds }
      go (Err fault) stops =
          let by = stops_by setup small (copy ∷ []) (Make.Put (n + 1) (wear_record n (next_wear n wear))) line_there to fault stops in
          elim by.left [
            | inl same ↦ before fault by.k by.within same
            | inr put ↦ record { stage = moved; ended = put.1; holds = put.2 }
          ]

-- ---- a write

-- whether a move was due
pub due_cases : {X : Type 0} → (b : Bool) (counted tried : Type 0) → MatchBool b counted tried → (counted → X) → (tried → X) → X
due_cases true counted tried h f g = f h
due_cases false counted tried h f g = g h

module _ (setup : Setup) (a : ℕ) (plain : Line) (old new : Gapped) (lines : List Line)
    (size : old.lines + 2 ≡ data_lines setup.shape) (few : old.lines ≤ 2 ^ 30) (its_wear : IsWear old.lines old.wear)
    (inside : a < old.lines) (whole : IsLine plain) where
  abbrev Left : Parts → Result Moved WriteFault → Type 0
  Left to answer = IsLeftLevelled setup a plain old lines to answer

  small : data_lines setup.shape ≤ 2 ^ 32
  small = omega (arith, size, few)

  place_inside : place_of old.lines old.wear a < data_lines setup.shape
  place_inside = let most = (places old.lines old.wear its_wear).within a inside in omega (arith, most, size)

  left_at : (stage : MoveStage) (to : Parts) (answer : Result Moved WriteFault) → IsWriteEnd answer stage
      → HasLines setup (write_lines_at stage old.lines old.wear a plain lines) to → Left to answer
  left_at stage to answer ended holds =
      record {
        stage = stage;
        ended = ended;
        its_lines = holds;
        levelled = λ memory held. safe_at_each_stage old.lines (omega (arith, few)) lines memory old.wear a plain stage inside held;
      }

  -- the line's own write
  put_own : (from to : Parts) (made : Result Ctr Fault) → HasLines setup lines from → AreTrusted setup from
      → HasWrittenLine setup (whole_write (place_of old.lines old.wear a) plain) from to made
      → LeavesLines setup (done_as made) lines (write_lines_at written old.lines old.wear a plain lines) to
  put_own from to made had trusted it =
      put_leaves setup small (place_of old.lines old.wear a) plain lines from to (done_as made) place_inside whole had trusted
      (record { made = made; was_written = it; its_answer = refl })

  refused_left : (from to : Parts) (fault : Fault)
      → HasLines setup lines from → AreTrusted setup from
      → HasWrittenLine setup (whole_write (place_of old.lines old.wear a) plain) from to (Err fault)
      → Left to (Err (record { fault = fault; written = false }))
  refused_left from to fault had trusted it =
      elim (leaves_cases setup fault lines (write_lines_at written old.lines old.wear a plain lines) to (put_own from to (Err fault) had trusted it)) [
        | inl same ↦ left_at begun to (Err (record { fault = fault; written = false })) refl same
        | inr put ↦ left_at written to (Err (record { fault = fault; written = false })) put.0 put.1
      ]

  tried_left : (to : Parts) (tried : Result (Unit {0}) Fault) → IsMovedTo setup old.lines old.wear a plain lines to tried
      → Left to (write_answer_by tried)
  tried_left to tried it = go tried it.stage it.ended it.holds
    where
      go : (tried : Result (Unit {0}) Fault) (stage : MoveStage) → IsMoveEnd tried stage
          → HasLines setup (write_lines_at stage old.lines old.wear a plain lines) to → Left to (write_answer_by tried)
      go (Ok done) moved end holds = left_at moved to (Ok Move.Made) tt holds
      go (Err (Fail.Spent page)) written end holds = left_at written to (Ok (Move.Held page)) tt holds
      go (Err (Fail.Spent page)) copied end holds = left_at copied to (Ok (Move.Held page)) tt holds
      go (Err (Fail.Spent page)) moved end holds = absurd end
      go (Err fault) written end holds = left_at written to (Err (record { fault = fault; written = true })) tt holds
      go (Err fault) copied end holds = left_at copied to (Err (record { fault = fault; written = true })) (refl, tt) holds
      go (Err fault) moved end holds = left_at moved to (Err (record { fault = fault; written = true })) (refl, tt) holds
      go tried stage end holds = absurd end

  gone_on : (from between to : Parts) (answer : Result Moved WriteFault) (made : Result Ctr Fault)
      → HasLines setup lines from → AreTrusted setup from
      → HasWrittenLine setup (whole_write (place_of old.lines old.wear a) plain) from between made
      → HasWriteGoneOn made setup old new between to answer → Left to answer
  gone_on from between to answer (Ok ctr) had trusted it then =
      due_cases (nat_lt (old.count + 1) old.every) _ _ then
      (λ (counted : HasCounted old new between to answer).
      subst (λ r. Left to r) (sym counted.its_answer)
      (left_at written to (Ok Move.Not) tt (subst (HasLines setup (write_lines_at written old.lines old.wear a plain lines)) (sym counted.nothing_else) there)))
      (λ (tried : HasTriedMove setup old new between to answer).
      subst (λ r. Left to r) (sym tried.its_answer)
      (tried_left to tried.tried
      (moved_to setup old.lines old.wear a plain lines small
      (subst (λ count. All (IsEditOf count) (move_edits old.lines old.wear)) size (move_fits old.lines old.wear its_wear)) between to tried.tried there
      (trusted_after_write setup (whole_write (place_of old.lines old.wear a) plain) from between (Ok ctr) it trusted) tried.was_tried)))
    where
      there : HasLines setup (write_lines_at written old.lines old.wear a plain lines) between
      there = put_own from between (Ok ctr) had trusted it
  gone_on from between to answer (Err fault) had trusted it then =
      subst (λ r. Left to r) (sym then.its_answer)
      (subst (λ parts. Left parts (Err (record { fault = fault; written = false }))) (sym then.nothing_else)
      (refused_left from between fault had trusted it))

  pub left_levelled : (from to : Parts) (answer : Result Moved WriteFault) → HasLines setup lines from → AreTrusted setup from
      → HasLevelledWrite setup a plain old new from to answer → IsLeftLevelled setup a plain old lines to answer
  left_levelled from to answer had trusted it = gone_on from it.between to answer it.made had trusted it.was_written it.then
