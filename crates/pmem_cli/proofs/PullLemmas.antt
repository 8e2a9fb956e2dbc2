-- What had been taken before a pull.
use Rattle.std.proofs.Common.{rules, ◌≡◌, ◌≤◌, ◌<◌, ℕ, List, [], length, refl, arith, inl, inr}
use Rattle.std.specs.Prelude.{◌⊎◌, Option, None, Some, Contains, false}
use Rattle.std.specs.Io.KnownBytes.{Consumes, prepend_known}
use Rattle.std.proofs.lemmas.List.Elements.{All-nil}
use Rattle.plain_model.specs.Lines.{is_line_end, IsWithin}
use Rattle.plain_model.specs.Run.{line_limit}
use Rattle.pmem_cli.specs.Pulling.{IsUndecided, RemembersLeft, PullsWithinLine, PullsUndecided}

-- a pull after a part of a line
pub pulled_within_line : {T : Type 0} (first mid last : T) (left remembered : T → Option (List ℕ)) (ahead : Option (List ℕ)) (at_hand part : List ℕ)
    → Consumes ahead (prepend_known at_hand (left mid)) part → IsWithin part → length part ≤ 1024 → (mid ≡ first) ⊎ PullsWithinLine ahead (remembered mid)
    → (last ≡ mid) ⊎ ((at_hand ≡ []) × RemembersLeft (remembered last) (left mid)) → (last ≡ first) ⊎ PullsWithinLine ahead (remembered last)
pulled_within_line first mid last left remembered ahead at_hand part taken within short v10 v11 = search rules

undecided_within : (k : ℕ) (part : List ℕ) → k < line_limit → IsWithin part → length part ≤ 1024 → IsUndecided k part
undecided_within k part limit within short =
    record { unfinished = within; short = short; counted = omega (arith, limit); at_limit = λ full. absurd (omega (arith, limit, full)) }

undecided_empty : (k : ℕ) → k ≤ line_limit → IsUndecided k []
undecided_empty k limit =
    record { unfinished = All-nil (λ byte. is_line_end byte ≡ false); short = omega arith; counted = limit; at_limit = λ full. refl }

within_limit : (k : ℕ) (ahead told : Option (List ℕ)) → k < line_limit → PullsWithinLine ahead told → PullsUndecided k ahead told
within_limit k ahead None limit pulled = tt
within_limit k ahead (Some behind) limit (part, taken, within, short) = (part, taken, undecided_within k part limit within short)

-- behind fewer lines than a trace may have, a part of a line decides no stop
pub pulled_undecided : {T : Type 0} (before now : T) (k : ℕ) (ahead told : Option (List ℕ)) → k < line_limit
    → (now ≡ before) ⊎ PullsWithinLine ahead told → (now ≡ before) ⊎ PullsUndecided k ahead told
pulled_undecided before now k ahead told limit (inl same) = inl same
pulled_undecided before now k ahead told limit (inr pulled) = inr (within_limit k ahead told limit pulled)

nothing_taken : (k : ℕ) (at_hand : List ℕ) (known told : Option (List ℕ)) → k ≤ line_limit → at_hand ≡ [] → RemembersLeft told known
    → PullsUndecided k (prepend_known at_hand known) told
nothing_taken k at_hand known None limit none kept = tt
nothing_taken k at_hand known (Some behind) limit none kept =
    ([], rw (none, kept) refl, undecided_empty k limit)

-- a pull where no byte is at hand
pub pulled_at_hand : {T : Type 0} (before now : T) (left remembered : T → Option (List ℕ)) (k : ℕ) (at_hand : List ℕ) → k ≤ line_limit
    → (now ≡ before) ⊎ ((at_hand ≡ []) × RemembersLeft (remembered now) (left before))
    → (now ≡ before) ⊎ PullsUndecided k (prepend_known at_hand (left before)) (remembered now)
pulled_at_hand before now left remembered k at_hand limit (inl same) = inl same
pulled_at_hand before now left remembered k at_hand limit (inr (none, kept)) =
    inr (nothing_taken k at_hand (left before) (remembered now) limit none kept)

-- where a pull may be made, nothing waits
pub pulled_quietly : {T : Type 0} (before now : T) (at_hand waiting : List ℕ) (P : Type 0) → Contains at_hand 10 ⊎ (waiting ≡ []) → (Contains at_hand 10 → now ≡ before)
    → (now ≡ before) ⊎ P → (now ≡ before) ⊎ ((waiting ≡ []) × P)
pulled_quietly before now at_hand waiting P (inl line) kept pulled = inl (kept line)
pulled_quietly before now at_hand waiting P (inr none) kept (inl same) = inl same
pulled_quietly before now at_hand waiting P (inr none) kept (inr pulled) = inr (none, pulled)
