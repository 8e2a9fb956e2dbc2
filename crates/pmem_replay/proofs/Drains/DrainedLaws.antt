-- A drain, or a fence, all of whose writes are drained: legal, fitting, and the state after it.
use Rattle.std.proofs.Common.{rules}
use Rattle.std.proofs.Common.{ℕ, ◌≡◌, List, length, sym, ap₂, ◌∙◌}
use Rattle.pmem_base.specs.declared.commands.Command.TheVariants as Do
use Rattle.pmem_base.specs.declared.answers.Answer.TheVariants as Say
use Rattle.pmem_base.specs.declared.answers.Mark.{Mark}
use Rattle.pmem_base.specs.WaitingWrites.{queue_of}
use Rattle.suite.specs.Setup.{Setup}
use Rattle.plain_model.specs.After.{state_after, after_drains, after_marks}
use Rattle.pmem_replay.specs.World.{WorldState}
use Rattle.pmem_replay.proofs.Marks.AfterMarks.{with_flags, touched_after, flushed_after, after_marks-is}
use Rattle.pmem_replay.proofs.Steps.MarklessCalls.{counted_state}
use Rattle.pmem_replay.proofs.Drains.DrainChain.{IsDrainedTo}
use Rattle.pmem_replay.proofs.Drains.WriteReplies.{drains_touched, drains_flushed}
use Rattle.pmem_replay.proofs.Steps.GoodReplies.{IsGood}

module _ (setup : Setup) (old mid : WorldState) (port n : ℕ) (made : List Mark) (spent : ℕ)
    (drained : IsDrainedTo setup old mid port n made spent) where
  -- the state in between as the plain machine's
  pub state_drained : mid.state ≡ after_marks setup.shape (counted_state (after_drains old.state port n) spent) made
  state_drained =
      drained.state
      ∙ sym (after_marks-is setup.shape (counted_state (after_drains old.state port n) spent) made
      ∙ ap₂ (λ t f. with_flags (counted_state (after_drains old.state port n) spent) (touched_after t made) (flushed_after setup.shape f made))
      (drains_touched old.state port n) (drains_flushed old.state port n))

-- ---- a drain

pub drained-good : (setup : Setup) (old new : WorldState) (port : ℕ) (made : List Mark) (spent : ℕ) → IsDrainedTo setup old new port 1 made spent
    → IsGood setup old (Do.Drain port) (record { marks = made; answer = Say.Drained spent })
drained-good setup old new port made spent drained = search rules

pub drained-after : (setup : Setup) (old new : WorldState) (port : ℕ) (made : List Mark) (spent : ℕ) → IsDrainedTo setup old new port 1 made spent
    → new.state ≡ state_after setup.shape old.state (Do.Drain port) (record { marks = made; answer = Say.Drained spent })
drained-after setup old new port made spent drained = state_drained setup old new port 1 made spent drained

-- ---- a fence

pub fenced-good : (setup : Setup) (old new : WorldState) (port n : ℕ) (made : List Mark) (spent : ℕ) → IsDrainedTo setup old new port n made spent
    → n ≡ length (queue_of old.state.queues port)
    → IsGood setup old (Do.Fence port) (record { marks = made; answer = Say.Fenced n spent })
fenced-good setup old new port n made spent drained all = search rules

pub fenced-after : (setup : Setup) (old new : WorldState) (port n : ℕ) (made : List Mark) (spent : ℕ) → IsDrainedTo setup old new port n made spent
    → new.state ≡ state_after setup.shape old.state (Do.Fence port) (record { marks = made; answer = Say.Fenced n spent })
fenced-after setup old new port n made spent drained = state_drained setup old new port n made spent drained
