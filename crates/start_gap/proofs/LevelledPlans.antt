-- The calls of levelled lines followed their plans.
use Rattle.std.proofs.Common.{ℕ, ◌≡◌, ◌<◌, ◌≤◌, ◌+◌, Bool, true, false, not, [], Option, Some, None, Result, Ok, Err, refl, sym, ap, subst, ◌∙◌}
use Rattle.start_gap.proofs.Common.{lt-ltb, le-ltb, Line, Ctr, Follows, Setup, Fault, whole_write, ended_with, Chip, read_plan, put_plan, edits_plan, put_follows, Wear, Gapped, GapFault, Engine, BadWear, Moved, WriteFault, place_of, recorded, move_edits, logical_lines, HasWear, wear_by, write_answer_by, wear_end, is_move_due, due_edits, write_fault, moved_as, write_answer_of, wear_after, count_after, FollowsWrite}
use Rattle.pmem_base.specs.declared.registers.Regs.{Regs}
use Rattle.board.specs.Device.{Device}
use Rattle.call_plan.specs.Plans.{Plan, lifted, ended, for_each}
use Rattle.call_plan.proofs.Steps.{is_done, is_stopped}
use Rattle.call_plan.proofs.Bind.{bind_ok, bind_err, lifted_follows}
use Rattle.pmem_engine.specs.declared.fault.Fault.TheVariants as Fail
use Rattle.pmem_engine.specs.WritePlans as engine
use Rattle.start_gap.specs.declared.gapped.Moved.TheVariants as Move
use Rattle.start_gap.specs.Plans.{open_plan, levelled_plan}

-- ---- opening

abbrev wear_found : Setup → Chip × Line → Plan (Chip × GapFault) (Chip × Wear)
wear_found setup found = wear_end found.1 found.0 (recorded (logical_lines setup.shape) found.1)

module _ (setup : Setup) (regs : Regs) (chip after : Chip) {old new : Device} where
  pub not_read : (n : ℕ) (fault : Fault) → n ≡ logical_lines setup.shape
      → Follows (read_plan setup regs (n + 1) chip) old new (Err (after, fault))
      → Follows (open_plan setup regs chip) old new (Err (after, Engine fault))
  unfolding open_plan
  not_read n fault same it =
      bind_err (wear_found setup)
      (lifted_follows (λ now. now) Engine
      (subst (λ m. Follows (read_plan setup regs (m + 1) chip) old new (Err (after, fault))) same it))

  -- the line was read, and says of the wear what it records
  was_read : (n : ℕ) (line : Line) (found : Option Wear) (end : Result (Chip × Wear) (Chip × GapFault)) → n ≡ logical_lines setup.shape
      → recorded n line ≡ found → Follows (read_plan setup regs (n + 1) chip) old new (Ok (after, line))
      → Follows (wear_end line after found) new new end → Follows (open_plan setup regs chip) old new end
  unfolding open_plan
  was_read n line found end same says it rest =
      bind_ok (wear_found setup)
      (lifted_follows (λ now. now) Engine
      (subst (λ m. Follows (read_plan setup regs (m + 1) chip) old new (Ok (after, line))) same it))
      (subst (λ (r : Option Wear). Follows (wear_end line after r) new new end) (sym says ∙ ap (λ m. recorded m line) same) rest)

  pub no_record : (n : ℕ) (line : Line) → n ≡ logical_lines setup.shape → recorded n line ≡ None
      → Follows (read_plan setup regs (n + 1) chip) old new (Ok (after, line))
      → Follows (open_plan setup regs chip) old new (Err (after, BadWear line))
  no_record n line same none it =
      was_read n line None (Err (after, BadWear line)) same none it (is_stopped (after, BadWear line) new)

  pub found_record : (n : ℕ) (line : Line) (wear : Wear) → n ≡ logical_lines setup.shape → recorded n line ≡ Some wear
      → Follows (read_plan setup regs (n + 1) chip) old new (Ok (after, line))
      → Follows (open_plan setup regs chip) old new (Ok (after, wear))
  found_record n line wear same some it =
      was_read n line (Some wear) (Ok (after, wear)) same some it (is_done (after, wear) new)

-- ---- a write

-- the end of a write whose own line was written, by that of its move
abbrev pub end_of : Result (Unit {0}) Fault → Regs → Result Regs WriteFault
end_of (Ok done) regs = Ok regs
end_of (Err fault) regs = Err (write_fault true fault)

-- what follows the line's own write
abbrev later : Setup → ℕ → Wear → Bool → Chip × Regs → Plan (Chip × WriteFault) (Chip × Regs)
later setup n wear due written = lifted (λ now. now) (write_fault true) (edits_plan setup (due_edits due n wear) written)

module _ (setup : Setup) (n : ℕ) (wear : Wear) (due : Bool) (a : ℕ) (plain : Line) (chip : Chip) {old : Device} where
  refused_follows : (fault : Fault) (after : Chip) {new : Device}
      → Follows (put_plan setup (place_of n wear a) plain chip old.regs) old new (Err (after, fault))
      → Follows (levelled_plan setup n wear due a plain chip old.regs) old new (Err (after, write_fault false fault))
  unfolding levelled_plan
  refused_follows fault after it = bind_err (later setup n wear due) (lifted_follows (λ now. now) (write_fault false) it)

  written_then : (between : Chip) {mid new : Device} (tried : Result (Unit {0}) Fault) (after : Chip)
      → Follows (put_plan setup (place_of n wear a) plain chip old.regs) old mid (Ok (between, mid.regs))
      → Follows (edits_plan setup (due_edits due n wear) (between, mid.regs)) mid new (ended_with tried after new.regs)
      → Follows (levelled_plan setup n wear due a plain chip old.regs) old new (ended (end_of tried new.regs) after)
  unfolding levelled_plan
  written_then between (Ok done) after own rest =
      bind_ok (later setup n wear due) (lifted_follows (λ now. now) (write_fault false) own) (lifted_follows (λ now. now) (write_fault true) rest)
  written_then between (Err fault) after own rest =
      bind_ok (later setup n wear due) (lifted_follows (λ now. now) (write_fault false) own) (lifted_follows (λ now. now) (write_fault true) rest)

-- no changes are made with no step
none_follows : (setup : Setup) (chip : Chip) (d : Device) → Follows (edits_plan setup [] (chip, d.regs)) d d (Ok (chip, d.regs))
unfolding for_each
none_follows setup chip d = is_done (chip, d.regs) d

answer_by_end : (tried : Result (Unit {0}) Fault) (regs : Regs) → write_answer_by tried ≡ write_answer_of true (end_of tried regs)
answer_by_end (Ok done) regs = refl
answer_by_end (Err (Fail.Spent page)) regs = refl
answer_by_end (Err fault) regs = refl

wear_by_end : (tried : Result (Unit {0}) Fault) (regs : Regs) (old new : Gapped)
    → HasWear (wear_by tried old.lines old.wear) 0 old new
    → HasWear (wear_after true old.lines old.wear (end_of tried regs)) (count_after true old.count (end_of tried regs)) old new
wear_by_end (Ok done) regs old new it = it
wear_by_end (Err fault) regs old new it = it

early_due : (count every : ℕ) → count + 1 < every → false ≡ is_move_due count every
early_due count every early = sym (ap not (lt-ltb (count + 1) every early))

late_due : (count every : ℕ) → every ≤ count + 1 → true ≡ is_move_due count every
late_due count every late = sym (ap not (le-ltb (count + 1) every late))

module _ (setup : Setup) (a : ℕ) (plain : Line) (old new : Gapped) (from to : Chip) {before : Device} where
  -- the line wasn't written
  pub follows_refused : (at : ℕ) (fault : Fault) {after : Device} → at ≡ place_of old.lines old.wear a
      → Follows (engine.write_plan setup before.regs (whole_write at plain) from) before after (Err (to, fault))
      → HasWear old.wear old.count old new
      → FollowsWrite setup a plain old new before.regs from to before after (Err (write_fault false fault))
  follows_refused at fault {after = after} same it wear =
      record {
        end = Err (write_fault false fault);
        follows =
            refused_follows setup old.lines old.wear (is_move_due old.count old.every) a plain from fault to
            (subst (λ p. Follows (put_plan setup p plain from before.regs) before after (Err (to, fault))) same
            (put_follows setup from at plain (Err fault) to it));
        its_answer = refl;
        its_wear = wear;
      }

  own_follows : (at : ℕ) (made : Result Ctr Fault) (between : Chip) {mid : Device} → at ≡ place_of old.lines old.wear a
      → ((fault : Fault) → made ≡ Err fault → ⊥)
      → Follows (engine.write_plan setup before.regs (whole_write at plain) from) before mid (ended made between)
      → Follows (put_plan setup (place_of old.lines old.wear a) plain from before.regs) before mid (Ok (between, mid.regs))
  own_follows at (Ok ctr) between {mid = mid} same done it =
      subst (λ p. Follows (put_plan setup p plain from before.regs) before mid (Ok (between, mid.regs))) same
      (put_follows setup from at plain (Ok ctr) between it)
  own_follows at (Err fault) between same done it = absurd (done fault refl)

  -- it was, and no move was due
  pub follows_counted : (at : ℕ) (made : Result Ctr Fault) {after : Device} → at ≡ place_of old.lines old.wear a
      → ((fault : Fault) → made ≡ Err fault → ⊥) → old.count + 1 < old.every
      → Follows (engine.write_plan setup before.regs (whole_write at plain) from) before after (ended made to)
      → HasWear old.wear (old.count + 1) old new
      → FollowsWrite setup a plain old new before.regs from to before after (Ok Move.Not)
  follows_counted at made {after = after} same done early it wear =
      let no : false ≡ is_move_due old.count old.every = early_due old.count old.every early in
      let ok : Moved → Result Moved WriteFault = Ok in
      record {
        end = Ok after.regs;
        follows =
            written_then setup old.lines old.wear (is_move_due old.count old.every) a plain from to (Ok tt) to (own_follows at made to same done it)
            (subst (λ b. Follows (edits_plan setup (due_edits b old.lines old.wear) (to, after.regs)) after after (Ok (to, after.regs))) no
            (none_follows setup to after));
        its_answer = ap (λ b. ok (moved_as b)) no;
        its_wear =
            subst (λ b. HasWear (wear_after b old.lines old.wear (Ok after.regs)) (count_after b old.count (Ok after.regs)) old new) no wear;
      }

  -- it was, and then a move was tried
  pub follows_tried : (at : ℕ) (made : Result Ctr Fault) (between : Chip) {mid after : Device} (tried : Result (Unit {0}) Fault)
      (answer : Result Moved WriteFault) → at ≡ place_of old.lines old.wear a → ((fault : Fault) → made ≡ Err fault → ⊥)
      → old.every ≤ old.count + 1
      → Follows (engine.write_plan setup before.regs (whole_write at plain) from) before mid (ended made between)
      → Follows (edits_plan setup (move_edits old.lines old.wear) (between, mid.regs)) mid after (ended_with tried to after.regs)
      → answer ≡ write_answer_by tried → HasWear (wear_by tried old.lines old.wear) 0 old new
      → FollowsWrite setup a plain old new before.regs from to before after answer
  follows_tried at made between {mid = mid} {after = after} tried answer same done late it moving said wear =
      let yes : true ≡ is_move_due old.count old.every = late_due old.count old.every late in
      record {
        end = end_of tried after.regs;
        follows =
            written_then setup old.lines old.wear (is_move_due old.count old.every) a plain from between tried to (own_follows at made between same done it)
            (subst (λ b. Follows (edits_plan setup (due_edits b old.lines old.wear) (between, mid.regs)) mid after (ended_with tried to after.regs)) yes
            moving);
        its_answer = said ∙ answer_by_end tried after.regs ∙ ap (λ b. write_answer_of b (end_of tried after.regs)) yes;
        its_wear =
            subst
            (λ b. HasWear (wear_after b old.lines old.wear (end_of tried after.regs)) (count_after b old.count (end_of tried after.regs)) old new)
            yes (wear_by_end tried after.regs old new wear);
      }
