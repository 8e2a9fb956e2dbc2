-- Laws of all plans that stand on functions.
use Rattle.std.specs.Prelude.{ℕ, ◌≡◌, true, false, List, Contains, Option, Some, Result, Ok}
use Rattle.std.specs.Option.{option_map}
use Rattle.pmem_base.specs.declared.lines.Line.{Line}
use Rattle.pmem_base.specs.declared.answers.Mark.{Mark}
use Rattle.pmem_base.specs.Counts.{risen_times}
use Rattle.pmem_base.specs.Lines.{line_at}
use Rattle.board.specs.Device.{Device}
use Rattle.board.specs.Memory.{BoardMemory}
use Rattle.watched_board.specs.declared.taken.Taken.{Taken}
use Rattle.call_plan.specs.Plans.{Plan}
use Rattle.call_plan.specs.Following.{Follows}
use Rattle.call_plan.specs.Bounds.{MakesOnly, writes_within, Spends, all_spent, any_left, HasSpent, Ascends, IsFront, state_at}
use Rattle.call_plan.specs.Runs.{AreBelowEnd, BurnsFuse, IsOutcome, IsChain}

-- two runs of one plan from one board, which has power and tells its lines, that burn the same fuse: the
-- ends are the same, and so are the boards that they leave
abbrev pub RunsAreDetermined : Type 0 → Type 0 → Type 0
RunsAreDetermined E T =
    (plan : Plan E T) (fuse : Option ℕ) (lines : List Line) (old a b : Device) (first second : Result T E)
    → old.lines ≡ Some lines → old.live ≡ true → AreBelowEnd a → AreBelowEnd b → BurnsFuse fuse old a
    → BurnsFuse fuse old b → Follows plan old a first → Follows plan old b second → (first ≡ second) × (a ≡ b)

-- two outcomes of one call on a watched board: the answers are the same, and so are the states next to the board, the boards, and what was
-- taken of them
abbrev pub IsDetermined : {S A F : Type 0} → BoardMemory → Plan (S × F) (S × A) → Type 0
IsDetermined {S = S} {A = A} {F = F} old plan =
    (a b : BoardMemory) (x y : Taken) (first second : Result A F) (left other : S)
    → old.powered ≡ true → IsOutcome plan old a x first left → IsOutcome plan old b y second other
    → (first ≡ second) × (left ≡ other) × (a ≡ b) × (x ≡ y)

-- so are those of every call that has a plan
abbrev pub CallsAreDetermined : Type 0 → Type 0 → Type 0 → Type 0
CallsAreDetermined S A F = (plan : Plan (S × F) (S × A)) (old : BoardMemory) → IsDetermined old plan

-- two outcomes of calls one after another, up to the first fault
abbrev pub ChainsAreDetermined : Type 0 → Type 0 → Type 0 → Type 0 → Type 0
ChainsAreDetermined X S A F =
    (plan : X → S → Plan (S × F) (S × A)) (calls : List X) (old a b : BoardMemory) (state left other : S)
    (first second : Option F) → old.powered ≡ true → IsChain plan calls old state a left first
    → IsChain plan calls old state b other second → (first ≡ second) × (left ≡ other) × (a ≡ b)

-- a plan that spends that many steps was done in as many
abbrev pub StepsAreCounted : Type 0 → Type 0 → Type 0
StepsAreCounted E T =
    (plan : Plan E T) (r w l : ℕ) (old new : Device) (t : T) → Spends all_spent plan r w l
    → Follows plan old new (Ok t)
    → (new.reads ≡ risen_times r old.reads) × (new.writes ≡ risen_times w old.writes)
    × (new.latches ≡ risen_times l old.latches)

-- and one that spends that many at most took no more, and fewer persist steps if power was cut
abbrev pub StepsAreBounded : Type 0 → Type 0 → Type 0
StepsAreBounded E T =
    (plan : Plan E T) (r w l : ℕ) (old new : Device) (end : Result T E) → Spends any_left plan r w l
    → Follows plan old new end → HasSpent any_left r w l old new end

-- every line at another place than those that the plan writes to stays as it was, if exposed
abbrev pub OtherPlacesStay : Type 0 → Type 0 → Type 0
OtherPlacesStay E T =
    (plan : Plan E T) (places : List ℕ) (old new : Device) (end : Result T E)
    → MakesOnly (writes_within (λ at. Contains places at)) plan → Follows plan old new end
    → (at : ℕ) → (Contains places at → ⊥)
    → option_map (λ lines. line_at lines at) new.lines ≡ option_map (λ lines. line_at lines at) old.lines

-- the marks of the state rise along the plan from these on
abbrev pub MarksRise : {S A F : Type 0} → (S → List Mark) → S → Plan (S × F) (S × A) → Type 0
MarksRise marks_of start plan =
    Ascends (λ s t. IsFront (marks_of s) (marks_of t)) (λ left. left.0) (λ end. end.0) start plan

-- the marks of before are a prefix of those at every end
abbrev pub MarksAreKept : Type 0 → Type 0 → Type 0 → Type 0
MarksAreKept S A F =
    (marks_of : S → List Mark) (plan : Plan (S × F) (S × A)) (start : S) (old new : Device)
    (end : Result (S × A) (S × F)) → MarksRise marks_of start plan → Follows plan old new end
    → IsFront (marks_of start) (marks_of (state_at (λ left. left.0) (λ end. end.0) end))

-- the marks of a run that was cut are a prefix of those of the run that wasn't
abbrev pub CutMarksAreFront : Type 0 → Type 0 → Type 0 → Type 0
CutMarksAreFront S A F =
    (marks_of : S → List Mark) (plan : Plan (S × F) (S × A)) (start : S) (lines : List Line) (old a b : Device)
    (first second : Result (S × A) (S × F)) → MarksRise marks_of start plan → old.lines ≡ Some lines
    → old.live ≡ true → a.live ≡ false → b.live ≡ true → Follows plan old a first → Follows plan old b second
    → IsFront (marks_of (state_at (λ left. left.0) (λ end. end.0) first))
    (marks_of (state_at (λ left. left.0) (λ end. end.0) second))
