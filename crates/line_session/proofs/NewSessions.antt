-- A formatted device of whose lines one was read: what is new in every session.
use Rattle.std.proofs.Common.{ℕ, ◌≡◌, true, [], length, replicate, Option, Some, None, Ok, refl, sym, ap, subst₂, ◌∙◌, arith, rules}
use Rattle.std.specs.Prelude.{is_none}
use Rattle.std.proofs.lemmas.Bool.{true≢false, and_parts}
use Rattle.std.proofs.lemmas.List.{append-nil, length-replicate, get_or-replicate}
use Rattle.pmem_base.specs.declared.lines.Line.{Line}
use Rattle.pmem_base.specs.declared.registers.Regs.{Regs}
use Rattle.line_session.proofs.Common.{Setup, Device, BoardMemory, LedgerState, EngineState, HasFormatted, device_of, plain_memory, memory_is, zero_line, HasReadLine, parts_of, IsSound, OneLossEffect, going, RisesBy, on_chip, spilled, path_length}
use Rattle.pmem_base.specs.Layout as layout
use Rattle.line_session.specs.State.{LineSession, IsNewSession}
use Rattle.line_session.proofs.NewDevices.{none_to_write}

module _ (setup : Setup) (start : Device) (middle : BoardMemory) (ledger_middle : LedgerState) (engine : EngineState)
    (formatted : HasFormatted setup ledger_middle start (device_of middle) engine) where
  pub zero_places : plain_memory setup ledger_middle.marks ≡ replicate (layout.data_lines setup.shape) zero_line
  zero_places =
      memory_is setup ledger_middle.marks (replicate (layout.data_lines setup.shape) zero_line)
      (record {
        count = length-replicate (layout.data_lines setup.shape) zero_line;
        each = search (rules, get_or-replicate);
      })

  module _ (left : LineSession) (after : EngineState) (tags digests n : ℕ) (line : Line)
      (was : HasReadLine setup n (parts_of engine (device_of middle) ledger_middle tags digests)
      (parts_of after (device_of left.board) left.ledger left.tags left.digests) (Ok line)) where
    sound : IsSound setup (on_chip engine) middle.lines middle.regs ledger_middle
    sound = formatted.sound middle.lines refl

    effect : OneLossEffect setup going [] (parts_of engine (device_of middle) ledger_middle tags digests)
        (parts_of after (device_of left.board) left.ledger left.tags left.digests)
    effect = was.done

    pub marks_stay : left.ledger.marks ≡ ledger_middle.marks
    marks_stay = effect.gone.marks ∙ append-nil ledger_middle.marks

    -- no line was written back
    no_write : left.board.writes ≡ middle.writes
    no_write =
        let none : spilled setup.shape engine.cache (layout.page_of n) (path_length setup.shape) ≡ [] =
        ap (λ (e : EngineState). spilled setup.shape e.cache (layout.page_of n) (path_length setup.shape)) formatted.engine_new
        ∙ none_to_write setup.shape (layout.page_of n) (path_length setup.shape) in
        (was.work (search rules)).work.no_write (omega (arith, ap length none))

    no_latch : left.board.latches ≡ middle.latches
    no_latch = (was.work (search rules)).work.no_latch refl

    no_fuse : (fuse : Option ℕ) → is_none fuse ≡ true → fuse ≡ None
    no_fuse None is = refl
    no_fuse (Some k) is = absurd (true≢false (sym is))

    pub new_session : start.writes ≡ 0 → start.latches ≡ 0 → start.cuts ≡ 0 → left.shape ≡ setup.shape → IsNewSession setup left
    new_session no_writes no_latches no_cuts shape =
        record {
          shape = shape;
          power = effect.gone.power.1 (and_parts middle.powered (is_none middle.fuse) formatted.steady).0;
          fuse = no_fuse left.board.fuse (and_parts left.board.powered (is_none left.board.fuse) (effect.gone.power.0 formatted.steady)).1;
          loss = effect.loss ∙ ap (λ (r : Regs). r.loss) formatted.regs;
          marks = marks_stay ∙ formatted.marks;
          writes = subst₂ (λ before after. RisesBy (layout.device_lines setup.shape) before after) no_writes (sym no_write) formatted.writes;
          latches = subst₂ (λ before after. RisesBy 1 before after) no_latches (sym no_latch) formatted.latches;
          cuts = effect.gone.power.2 ∙ formatted.cuts ∙ no_cuts;
        }
