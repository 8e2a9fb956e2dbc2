-- What a plan may do: which steps it takes, how many of them, and what its ends leave.
use Rattle.std.specs.Prelude.{ℕ, ◌≡◌, ◌+◌, ◌<◌, true, false, List, ◌++◌, Result, Ok, Err, ⊤}
use Rattle.pmem_base.specs.declared.lines.Line.{Line}
use Rattle.pmem_base.specs.declared.registers.Regs.{Regs}
use Rattle.pmem_base.specs.Counts.{risen_times}
use Rattle.pmem_base.specs.Lines.{IsLine}
use Rattle.board.specs.Device.{Device}
use Rattle.board.specs.Steps.{HasRead, HasWritten, HasLatched, WasCut}
use Rattle.call_plan.specs.Plans.{Plan, done, stop, read, write, latch}

-- ---- which steps

-- places that are read, lines that are written to places, and registers that are latched
pub record Allowed : Type 1 where
  pub reads : ℕ → Type 0
  pub writes : ℕ → Line → Type 0
  pub latches : Regs → Type 0

-- each step of the plan is allowed, whatever is read
unfoldable pub MakesOnly : {E T : Type 0} → Allowed → Plan E T → Type 0
MakesOnly allowed (done t) = ⊤
MakesOnly allowed (stop left) = ⊤
MakesOnly allowed (read left at later) = allowed.reads at × ((line : Line) → IsLine line → MakesOnly allowed (later line))
MakesOnly allowed (write left at line later) = allowed.writes at line × MakesOnly allowed later
MakesOnly allowed (latch left regs later) = allowed.latches regs × MakesOnly allowed later

abbrev pub all_steps : Allowed
all_steps = record { reads = λ at. ⊤; writes = λ at line. ⊤; latches = λ regs. ⊤ }

abbrev pub only_reads : Allowed
only_reads = record { reads = λ at. ⊤; writes = λ at line. ⊥; latches = λ regs. ⊥ }

-- writes to such places alone, and any read and latch
abbrev pub writes_within : (ℕ → Type 0) → Allowed
writes_within place = record { reads = λ at. ⊤; writes = λ at line. place at; latches = λ regs. ⊤ }

-- ---- how many

-- The plan takes no more than r reads, w line writes and l latches, and if it is done as many are left over as `ok` says of its end.
unfoldable pub Spends : {E T : Type 0} → (T → ℕ → ℕ → ℕ → Type 0) → Plan E T → ℕ → ℕ → ℕ → Type 0
Spends ok (done t) r w l = ok t r w l
Spends ok (stop left) r w l = ⊤
Spends ok (read left at later) r w l =
    (rest : ℕ) × (r ≡ rest + 1) × ((line : Line) → IsLine line → Spends ok (later line) rest w l)
Spends ok (write left at line later) r w l = (rest : ℕ) × (w ≡ rest + 1) × Spends ok later r rest l
Spends ok (latch left regs later) r w l = (rest : ℕ) × (l ≡ rest + 1) × Spends ok later r w rest

-- all of them, or any number
abbrev pub all_spent : {T : Type 0} → T → ℕ → ℕ → ℕ → Type 0
all_spent t r w l = (r ≡ 0) × (w ≡ 0) × (l ≡ 0)

abbrev pub any_left : {T : Type 0} → T → ℕ → ℕ → ℕ → Type 0
any_left t r w l = ⊤

-- what holds for the end of a plan that is done
abbrev pub IfDone : {E T : Type 0} → (T → Type 0) → Result T E → Type 0
IfDone ok (Ok t) = ok t
IfDone ok (Err left) = ⊤

-- That many steps of each kind were taken, and that many are left over; if power was cut, a persist step at least is left.
pub record HasSpent {E T : Type 0} (ok : T → ℕ → ℕ → ℕ → Type 0) (r w l : ℕ) (old new : Device) (end : Result T E) : Type 0 where
  pub reads : ℕ
  pub writes : ℕ
  pub latches : ℕ
  pub reads_left : ℕ
  pub writes_left : ℕ
  pub latches_left : ℕ
  pub all_reads : r ≡ reads + reads_left
  pub all_writes : w ≡ writes + writes_left
  pub all_latches : l ≡ latches + latches_left
  pub counted_reads : new.reads ≡ risen_times reads old.reads
  pub counted_writes : new.writes ≡ risen_times writes old.writes
  pub counted_latches : new.latches ≡ risen_times latches old.latches
  pub left_over : IfDone (λ t. ok t reads_left writes_left latches_left) end
  pub fewer : old.live ≡ true → new.live ≡ false → 0 < writes_left + latches_left

-- ---- what ends leave

-- From this device, the plan is done with `ok`, and if it stops or is cut with `err`: the weakest precondition of the two.
unfoldable pub Leaves : {E T : Type 0} → Plan E T → (T → Device → Type 0) → (E → Device → Type 0) → Device → Type 0
Leaves (done t) ok err now = ok t now
Leaves (stop left) ok err now = err left now
Leaves (read left at later) ok err now =
    ((new : Device) → WasCut now new → now.live ≡ false → err left new)
    × ((line : Line) (new : Device) → HasRead now at line new → IsLine line → Leaves (later line) ok err new)
Leaves (write left at line later) ok err now =
    ((new : Device) → WasCut now new → err left new)
    × ((new : Device) → HasWritten now at line new → Leaves later ok err new)
Leaves (latch left regs later) ok err now =
    ((new : Device) → WasCut now new → err left new)
    × ((new : Device) → HasLatched now regs new → Leaves later ok err new)

abbrev pub AtEnd : {E T : Type 0} → (T → Device → Type 0) → (E → Device → Type 0) → Result T E → Device → Type 0
AtEnd ok err (Ok t) new = ok t new
AtEnd ok err (Err left) new = err left new

-- ---- how the state goes on

-- an order of states
pub record IsOrder {S : Type 0} (order : S → S → Type 0) : Type 0 where
  pub itself : (s : S) → order s s
  pub then : (a b c : S) → order a b → order b c → order a c

-- Each step takes the state up: from s, what a cut before the next step leaves is above s, what a cut
-- before the one after that leaves is above this, and so on to the end.
unfoldable pub Ascends : {S E T : Type 0} → (S → S → Type 0) → (E → S) → (T → S) → S → Plan E T → Type 0
Ascends order err ok s (done t) = order s (ok t)
Ascends order err ok s (stop left) = order s (err left)
Ascends order err ok s (read left at later) =
    order s (err left) × ((line : Line) → IsLine line → Ascends order err ok (err left) (later line))
Ascends order err ok s (write left at line later) = order s (err left) × Ascends order err ok (err left) later
Ascends order err ok s (latch left regs later) = order s (err left) × Ascends order err ok (err left) later

abbrev pub state_at : {S E T : Type 0} → (E → S) → (T → S) → Result T E → S
state_at err ok (Ok t) = ok t
state_at err ok (Err left) = err left

-- a list is the front of another
pub record IsFront {X : Type 0} (front all : List X) : Type 0 where
  pub later : List X
  pub all_of : all ≡ front ++ later
