-- The persist steps of a reply, and the steps after it: no command takes more than those of sixteen calls.
use Rattle.std.proofs.Common.{ℕ, zero, suc, ◌*◌, ◌≡◌, ◌≤◌, ◌+◌, Bool, true, false, inl, inr, List, [], ◌∷◌, length, Option, Some, None, refl, sym, ap, subst, ◌∙◌, arith}
use Rattle.std.specs.Prelude.{Result, IfSome, MatchOption, unwrap_or, if◌then◌else◌, ◌==◌, ◌&&◌, nat_lt, nat_le}
use Rattle.std.proofs.lemmas.Bool.{true≢false, cases_lt}
use Rattle.std.proofs.lemmas.List.{get_or_past}
use Rattle.pmem_base.specs.declared.commands.Posted.{Posted}
use Rattle.pmem_base.specs.declared.commands.Command.{Command}
use Rattle.pmem_base.specs.declared.commands.Command.TheVariants as Do
use Rattle.pmem_base.specs.declared.answers.Answer.{Answer}
use Rattle.pmem_base.specs.declared.answers.Answer.TheVariants as Say
use Rattle.pmem_base.specs.Shape.{Shape, is_loss}
use Rattle.pmem_base.specs.Layout.{Content, data_line, tags_from, content_of, data_lines}
use Rattle.pmem_base.specs.WaitingWrites.{queue_of, is_queue_full}
use Rattle.write_ports.specs.Queues.{ArePorts}
use Rattle.suite.specs.Setup.{Setup}
use Rattle.plain_model.specs.State.{PlainState, Reply}
use Rattle.plain_model.specs.After.{steps_of, is_cut, steps_with, after_front, after_drain, after_drains, without_front, after_drop, after_writes, after_power_loss, after_hurting, after_command, after_steps, state_after, posted_line, posted_part}
use Rattle.plain_model.specs.Answers.{decided_answer, posting_answer, seen_line, is_covered, is_on_device, is_shown}
use Rattle.seal_ledger.specs.Ledger.{LedgerState}
use Rattle.pmem_engine.specs.declared.fault.Fault.{Fault}
use Rattle.pmem_engine.specs.Parts.{Parts}
use Rattle.plain_model.specs.Legal.{front_of}
use Rattle.plain_model.specs.Shown.{IsEngineReply}
use Rattle.pmem_replay.specs.World.{WorldState, IsWorld, view_in}
use Rattle.watched_board.specs.Watching.{step_limit}
use Rattle.pmem_replay.specs.Planned.{CallPlan}
use Rattle.pmem_replay.specs.Stepped.{HasCalled, HasDrained, EndsWrites, HasFenced, HasPoweredOn, IsStatAnswer, IsByTable, IsCommandDone, HasStepped, most_command_steps, AddsFewSteps}
use Rattle.pmem_replay.proofs.Marks.AfterMarks.{after_marks-is}

-- ---- the state's steps after a reply

steps-front : (s : PlainState) (port : ℕ) (queue : List Posted) → (after_front s port queue).steps ≡ s.steps
steps-front s port [] = refl
steps-front s port (write ∷ later) = refl

steps-drains : (s : PlainState) (port n : ℕ) → (after_drains s port n).steps ≡ s.steps
steps-drains s port zero = refl
steps-drains s port (suc n) = steps-drains (after_drain s port) port n ∙ steps-front s port (queue_of s.queues port)

steps-dropped : (s : PlainState) (port : ℕ) (queue : List Posted) → (without_front s port queue).steps ≡ s.steps
steps-dropped s port [] = refl
steps-dropped s port (write ∷ later) = refl

steps-drains_drop : (s : PlainState) (port n : ℕ) → (after_drop (after_drains s port n) port).steps ≡ s.steps
steps-drains_drop s port n =
    steps-dropped (after_drains s port n) port (queue_of (after_drains s port n).queues port) ∙ steps-drains s port n

steps-writes : (s : PlainState) (port : ℕ) (answer : Answer) → (after_writes s port answer).steps ≡ s.steps
steps-writes s port (Say.Drained steps) = steps-front s port (queue_of s.queues port)
steps-writes s port (Say.Fenced drained steps) = steps-drains s port drained
steps-writes s port (Say.CutKept drained steps) = steps-drains s port (unwrap_or drained 0 + 1)
steps-writes s port (Say.CutLost drained steps) = steps-drains s port (unwrap_or drained 0)
steps-writes s port (Say.Refused drained place steps) = steps-drains_drop s port (unwrap_or drained 0)
steps-writes s port (Say.Spent drained page steps) = steps-drains_drop s port (unwrap_or drained 0)
steps-writes s port answer = refl

steps-hurting : (s : PlainState) (flipped : Bool) (content : Content) → (after_hurting s flipped content).steps ≡ s.steps
steps-hurting s flipped (data_line a) = refl
steps-hurting s flipped (tags_from a) = refl
steps-hurting s flipped content = refl

-- a command's effect leaves them
steps-command : (g : Shape) (s : PlainState) (command : Command) (answer : Answer) → (after_command g s command answer).steps ≡ s.steps
steps-command g s (Do.Post port at line) Say.Ok = refl
steps-command g s (Do.Part port at from count line) Say.Ok = refl
steps-command g s (Do.Drain port) answer = steps-writes s port answer
steps-command g s (Do.Fence port) answer = steps-writes s port answer
steps-command g s Do.Flush (Say.Flushed x steps) = refl
steps-command g s Do.Flush Say.Clean = refl
steps-command g s (Do.Cut n) Say.Ok = refl
steps-command g s Do.Off Say.Ok = refl
steps-command g s Do.On (Say.Recovered trials digests steps) = refl
steps-command g s Do.On (Say.Cut steps) = refl
steps-command g s (Do.Poke d line) Say.Ok = steps-hurting s false (content_of g d)
steps-command g s (Do.Flip d bit) Say.Ok = steps-hurting s true (content_of g d)
steps-command g s (Do.Move from to) Say.Ok = steps-hurting s false (content_of g to)
steps-command g s Do.Snap Say.Ok = refl
steps-command g s (Do.Back d) Say.Ok = steps-hurting s false (content_of g d)
steps-command g s (Do.Loss n) (Say.LossSet steps) = refl
steps-command g s command answer = refl

steps_if : (g : Shape) (cut : Bool) (s : PlainState) → (if cut then after_power_loss g s else s).steps ≡ s.steps
steps_if g true s = refl
steps_if g false s = refl

-- and the answer's are added
steps-after : (g : Shape) (s : PlainState) (command : Command) (reply : Reply)
    → (state_after g s command reply).steps ≡ steps_with s.steps (steps_of reply.answer)
steps-after g s command reply =
    ap (λ (st : PlainState). st.steps) (after_marks-is g (after_steps g (after_command g s command reply.answer) reply.answer) reply.marks)
    ∙ steps_if g (is_cut reply.answer) _
    ∙ ap (λ n. steps_with n (steps_of reply.answer)) (steps-command g s command reply.answer)

-- ---- the steps of an answer

-- an answer of the table names none
abbrev NamesNoSteps : Option Answer → Type 0
NamesNoSteps answer = IfSome answer (λ a. steps_of a ≡ 0)

none_if : (b : Bool) (x y : Option Answer) → NamesNoSteps x → NamesNoSteps y → NamesNoSteps (if b then x else y)
none_if true x y first second = first
none_if false x y first second = second

none-posting : (g : Shape) (s : PlainState) (port : ℕ) (write : Posted) → NamesNoSteps (posting_answer g s port write)
none-posting g s port write =
    none_if s.power _ (Some Say.Off)
    (none_if (nat_lt write.at (data_lines g) && nat_le (write.from + write.len) 64) _ (Some Say.Range)
    (none_if (is_queue_full g.combines (queue_of s.queues port) write) (Some Say.Full) (Some Say.Ok) refl refl) refl)
    refl

none-decided : (g : Shape) (s : PlainState) (command : Command) → NamesNoSteps (decided_answer g s command)
none-decided g s (Do.Post port at line) = none-posting g s port (posted_line at line)
none-decided g s (Do.Part port at from count line) = none-posting g s port (posted_part at from count line)
none-decided g s (Do.Drain port) =
    none_if s.power _ (Some Say.Off) (none_if (length (queue_of s.queues port) == 0) (Some Say.Empty) None refl tt) refl
none-decided g s (Do.Fence port) = none_if s.power None (Some Say.Off) tt refl
none-decided g s (Do.Read port at) =
    none_if s.power _ (Some Say.Off)
    (none_if (nat_lt at (data_lines g)) _ (Some Say.Range)
    (none_if (is_covered s port at) (Some (Say.Got (seen_line s port at) 0)) None refl tt) refl)
    refl
none-decided g s Do.Turn = none_if s.power None (Some Say.Off) tt refl
none-decided g s Do.Flush = none_if s.power None (Some Say.Off) tt refl
none-decided g s (Do.Cut n) = refl
none-decided g s Do.Off = none_if s.power (Some Say.Ok) (Some Say.Off) refl refl
none-decided g s Do.On = none_if s.power (Some Say.Already) None refl tt
none-decided g s (Do.Poke d line) = none_if (is_on_device g d) (Some Say.Ok) (Some Say.Range) refl refl
none-decided g s (Do.Flip d bit) = none_if (is_on_device g d && nat_le bit 511) (Some Say.Ok) (Some Say.Range) refl refl
none-decided g s (Do.Move from to) =
    none_if (is_on_device g from && is_on_device g to) (Some Say.Ok) (Some Say.Range) refl refl
none-decided g s Do.Snap = refl
none-decided g s (Do.Back d) =
    none_if (is_on_device g d) _ (Some Say.Range) (none_if s.snapped (Some Say.Ok) (Some Say.NoSnap) refl refl) refl
none-decided g s (Do.Peek d) = none_if (is_on_device g d) None (Some Say.Range) tt refl
none-decided g s Do.Stat = tt
none-decided g s (Do.Loss n) =
    none_if s.power _ (Some Say.Off)
    (none_if (is_loss n) _ (Some Say.Range) (none_if (n == s.loss) (Some (Say.LossSet 0)) None refl tt) refl)
    refl

-- a call takes no more than the limit
few_called : {T : Type 0} {plan : CallPlan T} {relation : Parts → Parts → Result T Fault → Type 0}
    {says : LedgerState → LedgerState → ℕ → Result T Fault → Answer → Type 0} (old new : WorldState) (answer : Answer)
    → HasCalled plan relation says old new answer
    → is_shown answer ≡ false → steps_of answer ≤ step_limit
few_called old new answer called quiet = omega (arith, called.steps quiet, called.outcome.run.follows.few)

-- the write that ends a fence
few_last : (n spent : ℕ) (one answer : Answer) → EndsWrites (Some n) spent one answer → spent ≤ step_limit * n
    → (is_shown one ≡ false → steps_of one ≤ step_limit) → is_shown answer ≡ false → steps_of answer ≤ step_limit * (n + 1)
few_last n spent (Say.Refused None place steps) answer ends low few quiet =
    subst (λ (a : Answer). steps_of a ≤ step_limit * (n + 1)) (sym ends) (omega (arith, low, few refl))
few_last n spent (Say.Spent None page steps) answer ends low few quiet =
    subst (λ (a : Answer). steps_of a ≤ step_limit * (n + 1)) (sym ends) (omega (arith, low, few refl))
few_last n spent (Say.CutKept None steps) answer ends low few quiet =
    subst (λ (a : Answer). steps_of a ≤ step_limit * (n + 1)) (sym ends) (omega (arith, low, few refl))
few_last n spent (Say.CutLost None steps) answer ends low few quiet =
    subst (λ (a : Answer). steps_of a ≤ step_limit * (n + 1)) (sym ends) (omega (arith, low, few refl))
few_last n spent (Say.Shown exhibit) answer ends low few quiet = absurd (true≢false (sym (ap is_shown ends) ∙ quiet))
few_last n spent one answer ends low few quiet = absurd ends

few_fenced : (setup : Setup) (queue : List Posted) (n spent : ℕ) (old new : WorldState) (answer : Answer) → spent ≤ step_limit * n
    → HasFenced setup queue n spent old answer new → is_shown answer ≡ false → steps_of answer ≤ step_limit * (n + length queue)
few_fenced setup [] n spent old new answer low fenced quiet =
    subst (λ (a : Answer). steps_of a ≤ step_limit * (n + 0)) (sym fenced.1) (omega (arith, low))
few_fenced setup (write ∷ later) n spent old new answer low fenced quiet =
    elim fenced [
      | inl last ↦
          let few = few_last n spent last.0 answer last.2 low (few_called old new last.0 last.1) quiet in
          omega (arith, few)
      | inr more ↦
          let one = few_called old more.1 (Say.Drained more.0) more.2 refl in
          let rest = few_fenced setup later (n + 1) (spent + more.0) more.1 new answer (omega (arith, low, one)) more.3 quiet in
          omega (arith, rest)
    ]

few_front : (setup : Setup) (front : Option Posted) (old new : WorldState) (answer : Answer)
    → MatchOption front ⊥ (λ write. HasDrained setup write old answer new) → is_shown answer ≡ false → steps_of answer ≤ step_limit
few_front setup None old new answer drained quiet = absurd drained
few_front setup (Some write) old new answer drained quiet = few_called old new answer drained quiet

few_stat : (world : WorldState) (answer : Answer) → IsStatAnswer world answer → steps_of answer ≤ most_command_steps
few_stat world (Say.Counts counts) told = omega arith
few_stat world answer told = absurd told

few_on : (setup : Setup) (old new : WorldState) (answer : Answer) → HasPoweredOn setup old new answer
    → is_shown answer ≡ false → steps_of answer ≤ most_command_steps
few_on setup old new answer on quiet = omega (arith, on.steps quiet, on.outcome.run.follows.few)

-- no queue has more than sixteen writes
short_queue : (queues : List (List Posted)) → ArePorts queues → (port : ℕ) → length (queue_of queues port) ≤ 16
short_queue queues ports port =
    elim (cases_lt port (length queues)) [
      | inl inside ↦ (ports.each port [] inside).room
      | inr past ↦ subst (λ (queue : List Posted). length queue ≤ 16) (sym (get_or_past queues port [] past)) (omega arith)
    ]

few_done : (setup : Setup) (old new : WorldState) (command : Command) (answer : Answer) → IsWorld setup old
    → IsCommandDone setup old command answer new → is_shown answer ≡ false → steps_of answer ≤ most_command_steps
few_done setup old new (Do.Read port at) answer whole done quiet =
    let few = few_called old new answer done quiet in omega (arith, few)
few_done setup old new (Do.Drain port) answer whole done quiet =
    let few = few_front setup (front_of old.state port) old new answer done quiet in omega (arith, few)
few_done setup old new (Do.Fence port) answer whole done quiet =
    let room = short_queue old.state.queues whole.queues.ports port in
    let few = few_fenced setup (queue_of old.state.queues port) 0 0 old new answer (omega arith) done quiet in
    omega (arith, room, few)
few_done setup old new Do.Turn answer whole done quiet =
    let few = few_called old new answer done quiet in omega (arith, few)
few_done setup old new Do.Flush answer whole done quiet =
    let few = few_called old new answer done quiet in omega (arith, few)
few_done setup old new (Do.Loss n) answer whole done quiet =
    let few = few_called old new answer done quiet in omega (arith, few)
few_done setup old new Do.On answer whole done quiet = few_on setup old new answer done quiet
few_done setup old new (Do.Peek d) answer whole done quiet =
    subst (λ (a : Answer). steps_of a ≤ most_command_steps) (sym done.1) (omega arith)
few_done setup old new Do.Stat answer whole done quiet = few_stat old answer done.1
few_done setup old new command answer whole done quiet = absurd done

few_reply : (setup : Setup) (old new : WorldState) (command : Command) (answer : Answer) (decided : Option Answer) (X : Type 0) → IsWorld setup old
    → NamesNoSteps decided
    → MatchOption decided (IsCommandDone setup old command answer new) (λ told. IsByTable old command told new)
    → MatchOption decided X (λ told. answer ≡ told) → is_shown answer ≡ false → steps_of answer ≤ most_command_steps
few_reply setup old new command answer None X whole none done legal quiet = few_done setup old new command answer whole done quiet
few_reply setup old new command answer (Some told) X whole none done legal quiet = omega (arith, ap steps_of legal, none)

-- ---- a step

-- the steps rise by no more than a command takes
pub adds_few : (setup : Setup) (old new : WorldState) (command : Command) (reply : Reply) → IsWorld setup old
    → HasStepped setup old command reply new → AddsFewSteps old new
adds_few setup old new command reply whole step unshown =
    let quiet : is_shown reply.answer ≡ false = sym step.shown ∙ unshown in
    let few = few_reply setup old new command reply.answer (decided_answer setup.shape old.state command)
    (IsEngineReply setup old.state (view_in setup old) command reply) whole
    (none-decided setup.shape old.state command) step.parts step.legal quiet in
    omega (arith, few, ap (λ (s : PlainState). s.steps) (step.state quiet), steps-after setup.shape old.state command reply)
