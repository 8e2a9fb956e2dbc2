-- Reads, line writes and digests, one call after another.
use Rattle.std.proofs.Common.{rules, ◌≡◌, ℕ, ◌+◌, Bool, true, false, List, [], ◌∷◌, ◌++◌}
use Rattle.std.proofs.lemmas.Bool.{cases_Bool, both_ways}
use Rattle.std.proofs.lemmas.List.{length-append}
use Rattle.pmem_base.specs.declared.lines.Line.{Line}
use Rattle.board.specs.Device.{Device}
use Rattle.board.specs.Steps.{HasWritten}
use Rattle.board.proofs.CountLemmas.{RisesBy-then, RisesBy-once}
use Rattle.commit_regs.proofs.GroupLemmas.{redone-nil}
use Rattle.commit_regs.proofs.GroupLemmas.{redone_told-append}
use Rattle.meta_path.specs.Work.{HasWorked}

pub HasWorked-none : (d : Device) → HasWorked 0 [] d d
HasWorked-none d = search (rules, redone-nil)

pub HasWorked-written : (old : Device) (at : ℕ) (line : Line) (new : Device) → HasWritten old at line new
    → HasWorked 0 ((at, line) ∷ []) old new
HasWorked-written old at line new written = search (rules, RisesBy-once)

-- two calls are one
pub HasWorked-then : (m n : ℕ) (front back : List (ℕ × Line)) (old mid new : Device) → HasWorked m front old mid
    → HasWorked n back mid new → HasWorked (m + n) (front ++ back) old new
HasWorked-then m n front back old mid new first second = search (rules, length-append, redone_told-append, RisesBy-then)

-- power that isn't steady now was not steady before
pub not_steady : {a b : Bool} → (a ≡ true → b ≡ true) → b ≡ false → a ≡ false
not_steady {a} {b} keeps unsteady = search (rules, cases_Bool, both_ways)
