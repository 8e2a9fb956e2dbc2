-- What a step leaves of the queues.
use Rattle.std.proofs.Common.{ℕ, zero, suc, ◌≡◌, ◌<◌, ◌≤◌, ◌+◌, ◌-◌, Bool, true, false, List, [], ◌∷◌, ◌++◌, length, drop, Some, None, refl, sym, ap, subst, ◌∙◌, inl, inr, arith}
use Rattle.std.specs.Prelude.{◌==◌, ◌⊎◌, nat_lt, slice_get, slice_set, slice_index_or, unwrap_or, Option, if◌then◌else◌}
use Rattle.std.proofs.lemmas.Option.{same_Some, none-some}
use Rattle.std.proofs.lemmas.Bool.{cases_Bool, cases_eq, cases_lt, eqb-true, eqb-false}
use Rattle.std.proofs.lemmas.List.{length-set, get_or-set_same, get_or-set_other, drop-drop}
use Rattle.pmem_base.specs.declared.commands.Posted.{Posted}
use Rattle.pmem_base.specs.declared.commands.Command.{Command}
use Rattle.pmem_base.specs.declared.commands.Command.TheVariants as Do
use Rattle.pmem_base.specs.declared.answers.Answer.{Answer}
use Rattle.pmem_base.specs.declared.answers.Answer.TheVariants as Say
use Rattle.pmem_base.specs.declared.answers.Mark.{Mark}
use Rattle.pmem_base.specs.declared.answers.Mark.TheVariants.{Begin, Seal}
use Rattle.pmem_base.specs.Shape.{Shape}
use Rattle.pmem_base.specs.Layout as layout
use Rattle.pmem_base.specs.Layout.{page_of, Content, data_line, tags_from, metadata, shadow, nothing, content_of}
use Rattle.pmem_base.specs.WaitingWrites.{queue_of, combined_place, put_at, queue_posted, queues_after_loss}
use Rattle.plain_model.specs.State.{PlainState, Reply, no_flags, with_flag}
use Rattle.plain_model.specs.After.{is_cut, after_front, after_drain, after_drains, without_front, after_drop, after_writes, after_post, after_power_loss, after_hurting, after_tampering, after_flush, after_on, after_command, after_steps, after_mark, after_marks, state_after, posted_line, posted_part}
use Rattle.plain_model.specs.Waiting.{answered_count, answered_at, posted_at, IsPlaceTaken, DurableWritesStay}

-- ---- drained writes

-- the queues are as many as before
pub queues_after : (state : PlainState) (port n : ℕ) → length (after_drains state port n).queues ≡ length state.queues
queues_after state port zero = refl
queues_after state port (suc n) = queues_after (after_drain state port) port n ∙ one (queue_of state.queues port)
  where
    one : (queue : List Posted) → length (after_front state port queue).queues ≡ length state.queues
    one [] = refl
    one (write ∷ later) = length-set state.queues port later

-- the port's queue loses so many writes from its front
pub queue_after : (state : PlainState) (port n : ℕ) → port < length state.queues
    → queue_of (after_drains state port n).queues port ≡ drop n (queue_of state.queues port)
queue_after state port zero within = refl
queue_after state port (suc n) within =
    queue_after (after_drain state port) port n (omega (arith, within, queues_after state port 1))
    ∙ ap (drop n) (one (queue_of state.queues port) refl)
    ∙ drop-drop n 1 (queue_of state.queues port)
    ∙ ap (λ k. drop k (queue_of state.queues port)) {x = 1 + n} {y = suc n} (omega arith)
  where
    one : (queue : List Posted) → queue_of state.queues port ≡ queue
        → queue_of (after_front state port queue).queues port ≡ drop 1 queue
    one [] its = its
    one (write ∷ later) its = get_or-set_same state.queues port later [] within

-- another port's queue loses none
other_queue : (state : PlainState) (port n h : ℕ) → (h ≡ port → ⊥) → queue_of (after_drains state port n).queues h ≡ queue_of state.queues h
other_queue state port zero h apart = refl
other_queue state port (suc n) h apart = other_queue (after_drain state port) port n h apart ∙ one (queue_of state.queues port)
  where
    one : (queue : List Posted) → queue_of (after_front state port queue).queues h ≡ queue_of state.queues h
    one [] = refl
    one (write ∷ later) = get_or-set_other state.queues port h later [] apart

-- a drop is one more
drop_queue : (state : PlainState) (port : ℕ) → port < length state.queues
    → queue_of (after_drop state port).queues port ≡ drop 1 (queue_of state.queues port)
drop_queue state port within = one (queue_of state.queues port) refl
  where
    one : (queue : List Posted) → queue_of state.queues port ≡ queue → queue_of (without_front state port queue).queues port ≡ drop 1 queue
    one [] its = its
    one (write ∷ later) its = get_or-set_same state.queues port later [] within

drop_other : (state : PlainState) (port h : ℕ) → (h ≡ port → ⊥) → queue_of (after_drop state port).queues h ≡ queue_of state.queues h
drop_other state port h apart = one (queue_of state.queues port)
  where
    one : (queue : List Posted) → queue_of (without_front state port queue).queues h ≡ queue_of state.queues h
    one [] = refl
    one (write ∷ later) = get_or-set_other state.queues port h later [] apart

-- ---- drains and fences

module _ (state : PlainState) (port : ℕ) where
  dropped_too : (n : ℕ) → port < length state.queues
      → queue_of (after_drop (after_drains state port n) port).queues port ≡ drop (n + 1) (queue_of state.queues port)
  dropped_too n within =
      drop_queue (after_drains state port n) port (omega (arith, within, queues_after state port n))
      ∙ ap (drop 1) (queue_after state port n within) ∙ drop-drop 1 n (queue_of state.queues port)
      ∙ ap (λ k. drop k (queue_of state.queues port)) {x = n + 1} {y = n + 1} refl

  -- its own queue loses what the answer answers for
  writes_here : (answer : Answer) → port < length state.queues
      → queue_of (after_writes state port answer).queues port ≡ drop (answered_count answer) (queue_of state.queues port)
  writes_here (Say.Drained steps) within = queue_after state port 1 within
  writes_here (Say.Fenced drained steps) within = queue_after state port drained within
  writes_here (Say.CutKept drained steps) within = queue_after state port (unwrap_or drained 0 + 1) within
  writes_here (Say.CutLost drained steps) within = queue_after state port (unwrap_or drained 0) within
  writes_here (Say.Refused drained place steps) within = dropped_too (unwrap_or drained 0) within
  writes_here (Say.Spent drained page steps) within = dropped_too (unwrap_or drained 0) within
  writes_here answer within = refl

  -- and no other queue loses any
  writes_there : (answer : Answer) (h : ℕ) → (h ≡ port → ⊥) → queue_of (after_writes state port answer).queues h ≡ queue_of state.queues h
  writes_there (Say.Drained steps) h apart = other_queue state port 1 h apart
  writes_there (Say.Fenced drained steps) h apart = other_queue state port drained h apart
  writes_there (Say.CutKept drained steps) h apart = other_queue state port (unwrap_or drained 0 + 1) h apart
  writes_there (Say.CutLost drained steps) h apart = other_queue state port (unwrap_or drained 0) h apart
  writes_there (Say.Refused drained place steps) h apart =
      drop_other (after_drains state port (unwrap_or drained 0)) port h apart ∙ other_queue state port (unwrap_or drained 0) h apart
  writes_there (Say.Spent drained page steps) h apart =
      drop_other (after_drains state port (unwrap_or drained 0)) port h apart ∙ other_queue state port (unwrap_or drained 0) h apart
  writes_there answer h apart = refl

-- ---- the rest of a step

marks_keep : (g : Shape) (state : PlainState) (marks : List Mark) → (after_marks g state marks).queues ≡ state.queues
marks_keep g state [] = refl
marks_keep g state (Begin page ∷ marks) = marks_keep g (after_mark g state (Begin page)) marks
marks_keep g state (Seal at ctr cipher tag ∷ marks) =
    marks_keep g (after_mark g state (Seal at ctr cipher tag)) marks ∙ by_minor (nat_lt 0 ctr.minor)
  where
    by_minor : (b : Bool)
        → (if b then
        record state {
          touched = with_flag state.touched (page_of at);
          flushed = no_flags (layout.meta_lines g);
        }
        else state).queues
        ≡ state.queues
    by_minor true = refl
    by_minor false = refl

cut_keeps : (g : Shape) (cut : Bool) (state : PlainState) → g.durable ≡ true
    → (if cut then after_power_loss g state else state).queues ≡ state.queues
cut_keeps g true state durable = ap (λ b. queues_after_loss b state.queues) durable
cut_keeps g false state durable = refl

steps_keep : (g : Shape) (state : PlainState) (answer : Answer) → g.durable ≡ true → (after_steps g state answer).queues ≡ state.queues
steps_keep g state answer durable = cut_keeps g (is_cut answer) _ durable

tampering_keeps : (g : Shape) (state : PlainState) (flipped : Bool) (d : ℕ) → (after_tampering g state flipped d).queues ≡ state.queues
tampering_keeps g state flipped d = by_content (content_of g d)
  where
    by_content : (content : Content) → (after_hurting state flipped content).queues ≡ state.queues
    by_content (data_line a) = refl
    by_content (tags_from a) = refl
    by_content content = refl

flush_keeps : (g : Shape) (state : PlainState) (answer : Answer) → (after_flush g state answer).queues ≡ state.queues
flush_keeps g state (Say.Flushed x steps) = refl
flush_keeps g state Say.Clean = refl
flush_keeps g state answer = refl

on_keeps : (g : Shape) (state : PlainState) (answer : Answer) → (after_on g state answer).queues ≡ state.queues
on_keeps g state (Say.Recovered trials digests steps) = refl
on_keeps g state (Say.Cut steps) = refl
on_keeps g state answer = refl

-- ---- elements of lists

-- the first n are gone
behind : (queue : List Posted) (n place : ℕ) (write : Posted) → n ≤ place → slice_get queue place ≡ Some write
    → slice_get (drop n queue) (place - n) ≡ Some write
behind queue zero place write low it = ap (λ k. slice_get queue k) {x = place - 0} {y = place} (omega arith) ∙ it
behind [] (suc n) place write low it = absurd (none-some write it)
behind (w ∷ queue) (suc n) zero write low it = absurd (omega (arith, low))
behind (w ∷ queue) (suc n) (suc place) write low it =
    ap (λ k. slice_get (drop n queue) k) {x = suc place - suc n} {y = place - n} (omega arith)
    ∙ behind queue n place write (omega (arith, low)) it

get_front : (xs ys : List Posted) (n : ℕ) (x : Posted) → slice_get xs n ≡ Some x → slice_get (xs ++ ys) n ≡ Some x
get_front [] ys n x it = absurd (none-some x it)
get_front (z ∷ xs) ys zero x it = it
get_front (z ∷ xs) ys (suc n) x it = get_front xs ys n x it

get_set : (xs : List Posted) (i n : ℕ) (y x : Posted) → (n ≡ i → ⊥) → slice_get xs n ≡ Some x → slice_get (slice_set xs i y) n ≡ Some x
get_set [] i n y x apart it = absurd (none-some x it)
get_set (z ∷ xs) zero zero y x apart it = absurd (apart refl)
get_set (z ∷ xs) zero (suc n) y x apart it = it
get_set (z ∷ xs) (suc i) zero y x apart it = it
get_set (z ∷ xs) (suc i) (suc n) y x apart it = get_set xs i n y x (λ same. apart (ap suc same)) it

-- a port at which a write waits is one of the ports
is_port : (queues : List (List Posted)) (port place : ℕ) (write : Posted) → slice_get (queue_of queues port) place ≡ Some write → port < length queues
is_port [] port place write it = absurd (none-some write it)
is_port (queue ∷ queues) zero place write it = omega arith
is_port (queue ∷ queues) (suc port) place write it = omega (arith, is_port queues port place write it)

-- ---- the law

module _ (g : Shape) (state : PlainState) (port place : ℕ) (write : Posted) (waits : slice_get (queue_of state.queues port) place ≡ Some write) where
  abbrev Stays : Command → Answer → Type 0
  Stays command answer =
      (place < answered_at command answer port)
      ⊎ (IsPlaceTaken g state command answer port place
      ⊎ (slice_get (queue_of (after_command g state command answer).queues port) (place - answered_at command answer port) ≡ Some write))

  small : port < length state.queues
  small = is_port state.queues port place write waits

  -- the command answers for none of the queue
  still : (command : Command) (answer : Answer) → answered_at command answer port ≡ 0
      → queue_of (after_command g state command answer).queues port ≡ queue_of state.queues port → Stays command answer
  still command answer none same =
      inr (inr (ap (λ k. slice_get (queue_of (after_command g state command answer).queues port) k)
      {x = place - answered_at command answer port} {y = place} (omega (arith, none))
      ∙ ap (λ queue. slice_get queue place) same ∙ waits))

  kept : (command : Command) (answer : Answer) → answered_at command answer port ≡ 0
      → (after_command g state command answer).queues ≡ state.queues → Stays command answer
  kept command answer none same = still command answer none (ap (λ queues. queue_of queues port) same)

  -- a post, in the place of another or behind the others
  posting : (command : Command) (at : ℕ) (its : Posted) → after_command g state command Say.Ok ≡ after_post g state at its
      → posted_at command Say.Ok port ≡ (if at == port then Some its else None) → answered_at command Say.Ok port ≡ 0 → Stays command Say.Ok
  posting command at its does posts none = by_port (cases_Bool (at == port))
    where
      here : at ≡ port → queue_of (after_command g state command Say.Ok).queues port ≡ queue_posted g.combines (queue_of state.queues port) its
      here same =
          ap (λ (s : PlainState). queue_of s.queues port) does
          ∙ ap (λ h. queue_of (slice_set state.queues h (queue_posted g.combines (queue_of state.queues h) its)) port) same
          ∙ get_or-set_same state.queues port (queue_posted g.combines (queue_of state.queues port) its) [] small

      by_place : (found : Option ℕ) → combined_place g.combines (queue_of state.queues port) its ≡ found
          → (found ≡ Some place) ⊎ (slice_get (put_at (queue_of state.queues port) its found) place ≡ Some write)
      by_place None there = inr (get_front (queue_of state.queues port) (its ∷ []) place write waits)
      by_place (Some n) there = elim (cases_eq n place) [
        | inl same ↦ inl (ap (λ k. Some k) same)
        | inr apart ↦ inr (get_set (queue_of state.queues port) n place its write (λ same. apart (sym same)) waits)
      ]

      at_port : at == port ≡ true → Stays command Say.Ok
      at_port same = elim (by_place (combined_place g.combines (queue_of state.queues port) its) refl) [
        | inl taken ↦
            inr (inl (record {
              posted = its;
              its_port = posts ∙ ap (λ b. if b then Some its else None) same;
              combined = taken;
            }))
        | inr stays ↦
            inr (inr (ap (λ k. slice_get (queue_of (after_command g state command Say.Ok).queues port) k)
            {x = place - answered_at command Say.Ok port} {y = place} (omega (arith, none))
            ∙ ap (λ queue. slice_get queue place) (here (eqb-true at port same)) ∙ stays))
      ]

      by_port : (at == port ≡ true) ⊎ (at == port ≡ false) → Stays command Say.Ok
      by_port (inl same) = at_port same
      by_port (inr other) =
          still command Say.Ok none
          (ap (λ (s : PlainState). queue_of s.queues port) does
          ∙ get_or-set_other state.queues at port (queue_posted g.combines (queue_of state.queues at) its) []
          (λ same. eqb-false at port other (sym same)))

  -- a drain or a fence
  writing : (command : Command) (at : ℕ) (answer : Answer) → after_command g state command answer ≡ after_writes state at answer
      → answered_at command answer port ≡ (if at == port then answered_count answer else 0) → Stays command answer
  writing command at answer does counts = by_port (cases_Bool (at == port))
    where
      of_port : at ≡ port → answered_at command answer port ≡ answered_count answer → Stays command answer
      of_port same count = elim (cases_lt place (answered_count answer)) [
        | inl answered ↦ inl (omega (arith, answered, count))
        | inr waiting ↦
            inr (inr (ap (λ k. slice_get (queue_of (after_command g state command answer).queues port) (place - k)) count
            ∙ ap (λ queue. slice_get queue (place - answered_count answer))
            (ap (λ (s : PlainState). queue_of s.queues port) does ∙ ap (λ h. queue_of (after_writes state h answer).queues port) same
            ∙ writes_here state port answer small)
            ∙ behind (queue_of state.queues port) (answered_count answer) place write waiting waits))
      ]

      by_port : (at == port ≡ true) ⊎ (at == port ≡ false) → Stays command answer
      by_port (inl same) = of_port (eqb-true at port same) (counts ∙ ap (λ b. if b then answered_count answer else 0) same)
      by_port (inr other) =
          still command answer (counts ∙ ap (λ b. if b then answered_count answer else 0) other)
          (ap (λ (s : PlainState). queue_of s.queues port) does
          ∙ writes_there state at answer port (λ same. eqb-false at port other (sym same)))

  by_command : (command : Command) (answer : Answer) → g.durable ≡ true → Stays command answer
  by_command (Do.Post at line bytes) Say.Ok durable = posting (Do.Post at line bytes) at (posted_line line bytes) refl refl refl
  by_command (Do.Post at line bytes) answer durable = kept (Do.Post at line bytes) answer refl refl
  by_command (Do.Part at line from count bytes) Say.Ok durable =
      posting (Do.Part at line from count bytes) at (posted_part line from count bytes) refl refl refl
  by_command (Do.Part at line from count bytes) answer durable = kept (Do.Part at line from count bytes) answer refl refl
  by_command (Do.Drain at) answer durable = writing (Do.Drain at) at answer refl refl
  by_command (Do.Fence at) answer durable = writing (Do.Fence at) at answer refl refl
  by_command Do.Off Say.Ok durable = kept Do.Off Say.Ok refl (ap (λ b. queues_after_loss b state.queues) durable)
  by_command Do.Flush answer durable = kept Do.Flush answer refl (flush_keeps g state answer)
  by_command Do.On answer durable = kept Do.On answer refl (on_keeps g state answer)
  by_command (Do.Poke d line) Say.Ok durable = kept (Do.Poke d line) Say.Ok refl (tampering_keeps g state false d)
  by_command (Do.Flip d bit) Say.Ok durable = kept (Do.Flip d bit) Say.Ok refl (tampering_keeps g state true d)
  by_command (Do.Move from to) Say.Ok durable = kept (Do.Move from to) Say.Ok refl (tampering_keeps g state false to)
  by_command (Do.Back d) Say.Ok durable = kept (Do.Back d) Say.Ok refl (tampering_keeps g state false d)
  by_command (Do.Cut n) Say.Ok durable = kept (Do.Cut n) Say.Ok refl refl
  by_command Do.Snap Say.Ok durable = kept Do.Snap Say.Ok refl refl
  by_command (Do.Loss n) (Say.LossSet steps) durable = kept (Do.Loss n) (Say.LossSet steps) refl refl
  by_command command answer durable = kept command answer refl refl

-- what waits in a durable queue stays
pub writes_stay : DurableWritesStay
writes_stay g state command reply port place write durable waits =
    subst (λ queue. (place < answered_at command reply.answer port) ⊎ (IsPlaceTaken g state command reply.answer port place
    ⊎ (slice_get queue (place - answered_at command reply.answer port) ≡ Some write)))
    (sym (ap (λ queues. queue_of queues port)
    (marks_keep g (after_steps g (after_command g state command reply.answer) reply.answer) reply.marks
    ∙ steps_keep g (after_command g state command reply.answer) reply.answer durable)))
    (by_command g state port place write waits command reply.answer durable)
