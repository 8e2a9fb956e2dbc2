-- How far a run of a plan has come: the invariant of any loop, and of a call in the middle of its plan.
use Rattle.std.proofs.Common.{rules, ℕ, zero, suc, ◌≡◌, ◌<◌, ◌≤◌, ◌+◌, List, ◌∷◌, Result, Ok, Err, refl, get_or, drop, length, arith}
use Rattle.std.proofs.lemmas.List.{drop_more}
use Rattle.std.proofs.Math.ListN.{drop_of_length-le}
use Rattle.board.specs.Device.{Device}
use Rattle.call_plan.specs.Plans.{Plan, done, bind, repeated, for_each}
use Rattle.call_plan.specs.Following.{Follows}
use Rattle.call_plan.proofs.Steps.{is_done}
use Rattle.call_plan.proofs.Bind.{bind_ok, bind_err}
use Rattle.call_plan.proofs.Keeping.{follows_size}

-- Of a whole plan, begun on one board, this is left to be followed from here: what follows the rest has
-- followed the whole.
pub record HasReached {E T : Type 0} (whole : Plan E T) (start : Device) (rest : Plan E T) (now : Device) : Type 0 where
  pub size : now.size ≡ start.size
  pub follows : (new : Device) (end : Result T E) → Follows rest now new end → Follows whole start new end

pub reached_start : {E T : Type 0} (plan : Plan E T) (d : Device) → HasReached plan d plan d
reached_start plan d = record { size = refl; follows = λ new end it. it }

module _ {E T U : Type 0} {whole : Plan E U} {start now : Device} (plan : Plan E T) (next : T → Plan E U)
    (so_far : HasReached whole start (bind plan next) now) where
  -- the first of two plans was done, and the second is left
  pub reached_ok : {mid : Device} {t : T} → Follows plan now mid (Ok t) → HasReached whole start (next t) mid
  reached_ok first = search (rules, follows_size, bind_ok)

  -- the first of them stopped, and so the whole
  pub reached_err : {new : Device} {left : E} → Follows plan now new (Err left) → Follows whole start new (Err left)
  reached_err {new = new} {left = left} first = so_far.follows new (Err left) (bind_err next first)

-- nothing is left
pub reached_end : {E T : Type 0} {whole : Plan E T} {start now : Device} {t : T} → HasReached whole start (let rest : Plan E T = done t in rest) now
    → Follows whole start now (Ok t)
reached_end {E = E} {now = now} {t = t} so_far = so_far.follows now (Ok t) (is_done {E = E} t now)

-- ---- turns with their numbers

-- turns i to the last before `end` are left
pub record AreTurnsLeft {E T : Type 0} (whole : Plan E T) (start : Device) (turn : ℕ → T → Plan E T) (i end : ℕ) (t : T) (now : Device) : Type 0 where
  pub left : ℕ
  pub all : i + left ≡ end
  pub reached : HasReached whole start (repeated turn i left t) now

pub turns_start : {E T : Type 0} (turn : ℕ → T → Plan E T) (n : ℕ) (t : T) (d : Device) → AreTurnsLeft (repeated turn 0 n t) d turn 0 n t d
turns_start turn n t d = record { left = n; all = omega arith; reached = reached_start (repeated turn 0 n t) d }

module _ {E T : Type 0} {whole : Plan E T} {start now : Device} {turn : ℕ → T → Plan E T} {i end : ℕ} {t : T}
    (so_far : AreTurnsLeft whole start turn i end t now) where
  -- one is left, and then the others
  one_more : i < end → (left : ℕ) × (i + 1 + left ≡ end)
      × HasReached whole start (bind (turn i t) (λ t. repeated turn (i + 1) left t)) now
  unfolding repeated
  one_more more = by so_far.left so_far.all so_far.reached
    where
      by : (left : ℕ) → i + left ≡ end → HasReached whole start (repeated turn i left t) now
          → (left : ℕ) × (i + 1 + left ≡ end) × HasReached whole start (bind (turn i t) (λ t. repeated turn (i + 1) left t)) now
      by zero all reached = absurd (omega arith)
      by (suc left) all reached = (left, omega arith, reached)

  -- a turn was done
  pub turn_ok : {mid : Device} {s : T} → i < end → Follows (turn i t) now mid (Ok s) → AreTurnsLeft whole start turn (i + 1) end s mid
  turn_ok more first =
      let next = one_more more in
      record {
        left = next.0;
        all = next.1;
        reached = reached_ok (turn i t) (λ t. repeated turn (i + 1) next.0 t) next.2 first;
      }

  -- a turn stopped, and so the whole
  pub turn_err : {new : Device} {fault : E} → i < end → Follows (turn i t) now new (Err fault) → Follows whole start new (Err fault)
  turn_err more first =
      let next = one_more more in
      reached_err (turn i t) (λ t. repeated turn (i + 1) next.0 t) next.2 first

  -- none is left
  pub turns_end : end ≤ i → Follows whole start now (Ok t)
  unfolding repeated
  turns_end none = search (rules, reached_end)

-- ---- a turn for each item

module _ {X E T : Type 0} {whole : Plan E T} {start now : Device} (turn : X → T → Plan E T) (items : List X) (i : ℕ) (t : T)
    (so_far : HasReached whole start (for_each turn (drop i items) t) now) where
  pub item_ok : {mid : Device} {s : T} (other : X) → i < length items → Follows (turn (get_or items i other) t) now mid (Ok s)
      → HasReached whole start (for_each turn (drop (i + 1) items) s) mid
  unfolding for_each
  item_ok other more first =
      let here : HasReached whole start (for_each turn (get_or items i other ∷ drop (i + 1) items) t) now = search (rules, drop_more) in
      reached_ok (turn (get_or items i other) t) (λ t. for_each turn (drop (i + 1) items) t) here first

  pub item_err : {new : Device} {fault : E} (other : X) → i < length items → Follows (turn (get_or items i other) t) now new (Err fault)
      → Follows whole start new (Err fault)
  unfolding for_each
  item_err other more first =
      let here : HasReached whole start (for_each turn (get_or items i other ∷ drop (i + 1) items) t) now = search (rules, drop_more) in
      reached_err (turn (get_or items i other) t) (λ t. for_each turn (drop (i + 1) items) t) here first

  pub items_end : length items ≤ i → Follows whole start now (Ok t)
  unfolding for_each
  items_end none = search (rules, reached_end, drop_of_length-le)
