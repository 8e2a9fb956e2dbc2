-- Writes drained in order: the queues, the memory and the state of the plain machine after them.
use Rattle.std.proofs.Common.{ℕ, zero, suc, mul-le-mul, ◌≡◌, ◌<◌, ◌≤◌, ◌+◌, ◌-◌, ◌*◌, ◌++◌, true, List, [], ◌∷◌, length, take, drop, Some, IsTrue, refl, sym, ap, ◌∙◌, arith}
use Rattle.std.specs.Prelude.{slice_get}
use Rattle.std.proofs.lemmas.Option.{same_Some, none-some}
use Rattle.std.proofs.lemmas.Bool.{and_from, and_parts}
use Rattle.std.proofs.lemmas.List.{length-set, get_or-set_same}
use Rattle.std.proofs.lemmas.List.Sums.{count_by-le-length}
use Rattle.pmem_base.specs.declared.commands.Posted.{Posted}
use Rattle.pmem_base.specs.declared.answers.Mark.{Mark}
use Rattle.pmem_base.specs.Shape.{Shape, IsShape}
use Rattle.pmem_base.specs.WaitingWrites.{queue_of}
use Rattle.suite.specs.Formulas.{Formulas}
use Rattle.plain_model.specs.State.{PlainState, memory_with}
use Rattle.plain_model.specs.After.{after_front, after_drain, after_drains}
use Rattle.plain_model.specs.Asked.{Moment, moment_after, moment_after_writes}
use Rattle.plain_model.specs.Legal.{front_of, can_put, can_put_first}
use Rattle.plain_model.specs.Bounds.{is_seal, is_path_mark, path_mark_count, begun_lines, writing_bound}
use Rattle.pmem_engine.proofs.Laws.PolicyBounds.{begun_most}

-- ---- lists

pub slice_get-drop : {X : Type 0} (xs : List X) (n : ℕ) (x : X) (later : List X) → drop n xs ≡ x ∷ later → slice_get xs n ≡ Some x
slice_get-drop [] zero x later it = absurd (false_list it)
  where
    false_list : [] ≡ x ∷ later → ⊥
    false_list same = cc
slice_get-drop (y ∷ xs) zero x later it = ap (λ l. slice_get l 0) it
slice_get-drop [] (suc n) x later it = absurd (false_list it)
  where
    false_list : [] ≡ x ∷ later → ⊥
    false_list same = cc
slice_get-drop (y ∷ xs) (suc n) x later it = slice_get-drop xs n x later it

pub take-next : {X : Type 0} (xs : List X) (n : ℕ) (x : X) → slice_get xs n ≡ Some x → take (suc n) xs ≡ take n xs ++ x ∷ []
take-next [] n x it = absurd (none-some x it)
take-next (y ∷ xs) zero x it = ap (λ z. z ∷ []) (same_Some y x it)
take-next (y ∷ xs) (suc n) x it = ap (λ l. y ∷ l) (take-next xs n x it)

-- ---- states

-- one more is drained after the others
pub drains_more : (state : PlainState) (port n : ℕ) → after_drains state port (suc n) ≡ after_drain (after_drains state port n) port
drains_more state port zero = refl
drains_more state port (suc n) = drains_more (after_drain state port) port n

-- a write may be put after the others
pub can_put_more : (state : PlainState) (port n : ℕ) → IsTrue (can_put_first state port n)
    → IsTrue (can_put (after_drains state port n) (front_of (after_drains state port n) port))
    → IsTrue (can_put_first state port (suc n))
can_put_more state port zero first next = and_from (can_put state (front_of state port)) true next refl
can_put_more state port (suc n) first next =
    let parts = and_parts (can_put state (front_of state port)) (can_put_first (after_drain state port) port n) first in
    and_from (can_put state (front_of state port)) (can_put_first (after_drain state port) port (suc n)) parts.0
    (can_put_more (after_drain state port) port n parts.1 next)

take_nil : (m : ℕ) → take {A = Posted} m [] ≡ []
take_nil zero = refl
take_nil (suc m) = refl

-- the memory after drained writes
pub drains_memory : (f : Formulas) (now : Moment) (state : PlainState) (port n : ℕ) → port < length state.queues → now.memory ≡ state.memory
    → (moment_after_writes f now (take n (queue_of state.queues port))).memory ≡ (after_drains state port n).memory
drains_memory f now state port zero within same = same
drains_memory f now state port (suc n) within same =
    by_queue (drains_memory f now state port n within same)
    (λ write later.
    drains_memory f (moment_after f now write) (after_front state port (write ∷ later)) port n
    (omega (arith, within, length-set state.queues port later))
    (ap (λ memory. memory_with memory write) same))
    (queue_of state.queues port) refl
  where
    by_queue : (moment_after_writes f now (take n (queue_of state.queues port))).memory ≡ (after_drains state port n).memory
        → ((write : Posted) (later : List Posted)
        → (moment_after_writes f (moment_after f now write) (take n (queue_of (after_front state port (write ∷ later)).queues port))).memory
        ≡ (after_drains (after_front state port (write ∷ later)) port n).memory)
        → (queue : List Posted) → queue_of state.queues port ≡ queue
        → (moment_after_writes f now (take (suc n) queue)).memory ≡ (after_drains (after_front state port queue) port n).memory
    by_queue here there [] none =
        ap (λ writes. (moment_after_writes f now writes).memory) (sym (take_nil n) ∙ ap (take n) (sym none)) ∙ here
    by_queue here there (write ∷ later) is =
        ap (λ queue. (moment_after_writes f (moment_after f now write) (take n queue)).memory)
        (sym (get_or-set_same state.queues port later [] within))
        ∙ there write later

-- ---- bounds

-- the bounds of one write are small
pub writing_bound-few : (g : Shape) (marks : List Mark) → IsShape g → length marks ≤ 66 → writing_bound g 1 marks < 1000
writing_bound-few g marks shape few =
    let more : begun_lines g - 1 ≤ 6 = omega (arith, begun_most g shape.persists_path, shape.at_most_six_levels) in
    let count : path_mark_count marks ≤ 66 = omega (arith, count_by-le-length is_path_mark marks, few) in
    let lines : (begun_lines g - 1) * path_mark_count marks ≤ 6 * 66 = mul-le-mul more count in
    omega (arith, shape.at_most_six_levels, few, count_by-le-length is_seal marks, lines)
