-- The calls of a write, put together.
use Rattle.std.proofs.Common.{ℕ, List, true, ◌≡◌, ◌<◌, ◌≤◌, ◌+◌, Result, Ok, Err, refl, subst, false, rules}
use Rattle.start_gap.proofs.Common.{lt-ltb, le-ltb, Line, Ctr, Shape, Setup, Fault, Parts, is_going, outcome_of, whole_write, HasWrittenLine, AreEdited, setup_under, edits_under, Wear, Gapped, Moved, WriteFault, place_of, move_edits, HasLevelledWrite, HasWear, wear_by, write_answer_by, write_outcome_by}
use Rattle.suite.specs.Formulas.{Formulas}
use Rattle.pmem_engine.specs.declared.fault.Fault.TheVariants as Fail
use Rattle.start_gap.specs.declared.gapped.Moved.TheVariants as Move

-- a write at a place
pub write_at : (setup : Setup) (at at' : ℕ) (plain : Line) (old new : Parts) (made : Result Ctr Fault) → at ≡ at'
    → HasWrittenLine setup (whole_write at plain) old new made → HasWrittenLine setup (whole_write at' plain) old new made
write_at setup at at' plain old new made same = subst (λ a. HasWrittenLine setup (whole_write a plain) old new made) same

-- a move after it, of the same geometry and keys
pub move_as : (formulas_of : List ℕ → Formulas) (g g' : Shape) (keys keys' : List ℕ) → g' ≡ g → keys' ≡ keys → (n : ℕ) (wear : Wear)
    (old new : Parts) (answer : Result (Unit {0}) Fault) → AreEdited (setup_under formulas_of g' keys') (move_edits n wear) old new answer
    → AreEdited (setup_under formulas_of g keys) (move_edits n wear) old new answer
move_as formulas_of g g' keys keys' same same_keys n wear = edits_under formulas_of g g' keys keys' same same_keys (move_edits n wear)

-- the same of a moment after the call's start
pub wear_over : (wear : Wear) (count : ℕ) (old between new : Gapped) → HasWear wear count between new → between.lines ≡ old.lines
    → between.every ≡ old.every → HasWear wear count old new
wear_over wear count old between new it lines every = search rules

-- a move's fault that isn't that a line is spent is the write's
pub fault_of_move : (fault : Fault) → ((page : ℕ) → fault ≡ Fail.Spent page → ⊥)
    → write_answer_by (Err fault) ≡ Err (record { fault = fault; written = true })
fault_of_move (Fail.Spent page) unspent = absurd (unspent page refl)
fault_of_move fault unspent = refl

-- a move and its write go on, or are cut or shown, alike
pub move_outcome : (tried : Result (Unit {0}) Fault) → is_going (write_outcome_by (write_answer_by tried)) ≡ is_going (outcome_of tried)
move_outcome (Ok done) = refl
move_outcome (Err (Fail.Spent page)) = refl
move_outcome (Err fault) = refl

module _ (setup : Setup) (a : ℕ) (plain : Line) (old new : Gapped) where
  -- the line wasn't written
  pub refused : (from to : Parts) (fault : Fault)
      → HasWrittenLine setup (whole_write (place_of old.lines old.wear a) plain) from to (Err fault) → HasWear old.wear old.count old new
      → HasLevelledWrite setup a plain old new from to (Err (record { fault = fault; written = false }))
  refused from to fault it wear = search rules

  pub counted : (from to : Parts) (made : Result Ctr Fault) → ((fault : Fault) → made ≡ Err fault → ⊥) → old.count + 1 < old.every
      → HasWrittenLine setup (whole_write (place_of old.lines old.wear a) plain) from to made
      → HasWear old.wear (old.count + 1) old new
      → HasLevelledWrite setup a plain old new from to (Ok Move.Not)
  counted from to (Ok ctr) done early it wear = search (rules, lt-ltb)
  counted from to (Err fault) done early it wear = absurd (done fault refl)

  pub tried_as : (from between to : Parts) (made : Result Ctr Fault) (tried : Result (Unit {0}) Fault) (answer : Result Moved WriteFault)
      → ((fault : Fault) → made ≡ Err fault → ⊥) → old.every ≤ old.count + 1
      → HasWrittenLine setup (whole_write (place_of old.lines old.wear a) plain) from between made
      → AreEdited setup (move_edits old.lines old.wear) between to tried
      → HasWear (wear_by tried old.lines old.wear) 0 old new → answer ≡ write_answer_by tried
      → HasLevelledWrite setup a plain old new from to answer
  tried_as from between to (Ok ctr) tried answer done due it move wear e = search (rules, le-ltb)
  tried_as from between to (Err fault) tried answer done due it move wear e = absurd (done fault refl)
