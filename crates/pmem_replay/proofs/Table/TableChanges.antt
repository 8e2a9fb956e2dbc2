-- Commands that the table answers and that change the world.
use Rattle.std.proofs.Common.{ℕ, ◌≡◌, ◌≢◌, ◌<◌, ◌≤◌, ◌+◌, Bool, true, false, List, Option, Some, None, refl, sym, ap, ap₂, subst, ◌∙◌, arith}
use Rattle.std.specs.Prelude.{All, ◌↔◌, length, slice_set, is_some, not, IsTrue}
use Rattle.std.proofs.lemmas.Bool.{lt-ltb, le-leb, true≢false, false_from_ne_true}
use Rattle.std.proofs.lemmas.List.{get_or-set_same, append-nil}
use Rattle.pmem_base.specs.declared.lines.Line.{Line}
use Rattle.pmem_base.specs.declared.commands.Posted.{Posted}
use Rattle.pmem_base.specs.declared.commands.Command.TheVariants as Do
use Rattle.pmem_base.specs.declared.answers.Answer.TheVariants as Say
use Rattle.pmem_base.specs.declared.answers.Stat.{Stat}
use Rattle.pmem_base.specs.Counts.{last_count}
use Rattle.pmem_base.specs.Layout as layout
use Rattle.pmem_base.specs.Lines.{IsLine, line_at, zero_line}
use Rattle.pmem_base.proofs.LineLemmas.{IsLine-line_at}
use Rattle.pmem_base.specs.Ranges.{IsPosted, IsStat}
use Rattle.pmem_base.specs.WaitingWrites.{queue_of, queue_posted, is_queue_full, queues_after_loss}
use Rattle.board.specs.Memory.{BoardMemory, with_line_at, with_lines, flipped_line, restored_lines}
use Rattle.suite.specs.Setup.{Setup}
use Rattle.plain_model.specs.State.{PlainState}
use Rattle.plain_model.specs.After.{posted_line, posted_part, after_post, after_power_loss, after_tampering, steps_with}
use Rattle.pmem_engine.specs.Engine.{EngineState}
use Rattle.pmem_replay.specs.Flagged.{Tampering, with_tampering}
use Rattle.pmem_replay.specs.World.{WorldState, WorldParts, IsWorld, state_in, world_of}
use Rattle.pmem_replay.specs.Stepped.{HasStepped, IsStatOf}
use Rattle.pmem_replay.specs.Replies.{without_marks}
use Rattle.pmem_replay.proofs.Steps.GoodReplies.{IsGood}
use Rattle.pmem_replay.proofs.Steps.FaultCauses.{zero_within}
use Rattle.pmem_replay.proofs.Steps.MarklessCalls.{counted_state}
use Rattle.pmem_replay.proofs.Drains.DrainChain.{fuse_none}
use Rattle.pmem_replay.proofs.Table.TableLaws.{world-posted, world-armed, world-snapped, world-off}
use Rattle.pmem_replay.proofs.Table.TamperLaws.{hurts, world-tampered, flipped_differs}
use Rattle.pmem_replay.proofs.Table.PeekLaws.{peek-good, stat-good}
use Rattle.pmem_replay.proofs.Steps.WorldSteps.{stepped_by_table, stepped_by_engine}
use Rattle.pmem_replay.proofs.Table.UnchangedSteps.{IsGoingOn, lit_in}

-- a state where no steps are counted
counted_zero : (state : PlainState) → state.steps ≤ last_count → counted_state state 0 ≡ state
counted_zero state range =
    sym (ap₂ (λ (steps : ℕ) (fuse : Option ℕ). record state { steps = steps; fuse = fuse })
    {x = state.steps} {y = steps_with state.steps 0} (omega (arith, range)) (fuse_none state.fuse))

-- a post that isn't refused had room, as the machine says it
pub has_room : (b combines : Bool) (queue : List Posted) (w write : Posted) (E : Type 0) → (E ↔ IsTrue (is_queue_full b queue w)) → (E → ⊥)
    → b ≡ combines → w ≡ write → is_queue_full combines queue write ≡ false
has_room b combines queue w write E full fine same is =
    ap₂ (λ d x. is_queue_full d queue x) (sym same) (sym is) ∙ false_from_ne_true (is_queue_full b queue w) (λ holds. fine (full.1 holds))

module _ (setup : Setup) (p : WorldParts) (going : IsGoingOn setup (world_of setup p)) where
  abbrev old : WorldState
  old = world_of setup p

  range : p.steps ≤ last_count
  range = going.whole.steps.in_range

  -- ---- a write waits

  abbrev Room : ℕ → Posted → Type 0
  Room port write = is_queue_full setup.shape.combines (queue_of p.queues port) write ≡ false

  abbrev posted_to : ℕ → Posted → List (List Posted)
  posted_to port write = slice_set p.queues port (queue_posted setup.shape.combines (queue_of p.queues port) write)

  posted : (engine : EngineState) → p.engine ≡ Some engine → (port : ℕ) (write : Posted) (queues : List (List Posted)) → port < 8
      → Room port write → IsPosted write → write.at < layout.data_lines setup.shape → queues ≡ posted_to port write
      → IsWorld setup (world_of setup (record p { queues = queues }))
  posted engine there port write queues small room its on_memory is =
      world-posted setup old (world_of setup (record p { queues = queues })) port write going.whole small room its on_memory
      (record {
        shape = refl;
        start = refl;
        board = refl;
        ledger = refl;
        engine = refl;
        state = ap (λ (queues : List (List Posted)). record (state_in setup p) { queues = queues }) is;
      })

  pub post-ok : (engine : EngineState) → p.engine ≡ Some engine → (port at : ℕ) (line : Line) (queues : List (List Posted)) → port < 8
      → Room port (posted_line at line) → IsPosted (posted_line at line) → at < layout.data_lines setup.shape
      → queues ≡ posted_to port (posted_line at line)
      → HasStepped setup old (Do.Post port at line) (without_marks Say.Ok) (world_of setup (record p { queues = queues }))
  post-ok engine there port at line queues small room its on_memory is =
      stepped_by_table setup old (world_of setup (record p { queues = queues })) (Do.Post port at line) Say.Ok
      (rw (lit_in setup old engine going.whole there) (rw (lt-ltb at (layout.data_lines setup.shape) on_memory)
      (rw room refl)))
      refl tt
      (record { marks_asked = refl; peek_true = tt; steps_counted = tt; flush_true = tt; within_bounds = tt })
      (record { shape = refl; keys = refl; start = refl }) going.unshown
      (record { board = refl; engine = refl; ledger = refl; capacity = refl; tags = refl; digests = refl })
      (ap (λ (queues : List (List Posted)). record (state_in setup p) { queues = queues }) is
      ∙ sym (counted_zero (after_post setup.shape (state_in setup p) port (posted_line at line)) range))
      (posted engine there port (posted_line at line) queues small room its on_memory is) tt

  pub part-ok : (engine : EngineState) → p.engine ≡ Some engine → (port at from count : ℕ) (line : Line) (queues : List (List Posted)) → port < 8
      → Room port (posted_part at from count line) → IsPosted (posted_part at from count line) → at < layout.data_lines setup.shape
      → from + count ≤ 64 → queues ≡ posted_to port (posted_part at from count line)
      → HasStepped setup old (Do.Part port at from count line) (without_marks Say.Ok) (world_of setup (record p { queues = queues }))
  part-ok engine there port at from count line queues small room its on_memory inside is =
      stepped_by_table setup old (world_of setup (record p { queues = queues })) (Do.Part port at from count line) Say.Ok
      (rw (lit_in setup old engine going.whole there) (rw (lt-ltb at (layout.data_lines setup.shape) on_memory)
      (rw (le-leb (from + count) 64 inside) (rw room refl))))
      refl tt
      (record { marks_asked = refl; peek_true = tt; steps_counted = tt; flush_true = tt; within_bounds = tt })
      (record { shape = refl; keys = refl; start = refl }) going.unshown
      (record { board = refl; engine = refl; ledger = refl; capacity = refl; tags = refl; digests = refl })
      (ap (λ (queues : List (List Posted)). record (state_in setup p) { queues = queues }) is
      ∙ sym (counted_zero (after_post setup.shape (state_in setup p) port (posted_part at from count line)) range))
      (posted engine there port (posted_part at from count line) queues small room its on_memory is) tt

  -- ---- the fuse, a copy, and power off

  pub cut-ok : (n : ℕ) (board : BoardMemory) → board ≡ record (p.board) { fuse = Some n }
      → HasStepped setup old (Do.Cut n) (without_marks Say.Ok) (world_of setup (record p { board = board }))
  cut-ok n board is =
      subst (λ b. HasStepped setup old (Do.Cut n) (without_marks Say.Ok) (world_of setup (record p { board = b }))) (sym is)
      (stepped_by_table setup old (world_of setup (record p { board = record (p.board) { fuse = Some n } })) (Do.Cut n) Say.Ok refl refl tt
      (record { marks_asked = refl; peek_true = tt; steps_counted = tt; flush_true = tt; within_bounds = tt })
      (record { shape = refl; keys = refl; start = refl }) going.unshown
      (record { board = refl; engine = refl; ledger = refl; capacity = refl; tags = refl; digests = refl })
      (sym (counted_zero (record (state_in setup p) { fuse = Some n }) range))
      (world-armed setup old (world_of setup (record p { board = record (p.board) { fuse = Some n } })) n going.whole
      (record { shape = refl; start = refl; board = refl; ledger = refl; engine = refl; state = refl })) tt)

  pub snap-ok : (board : BoardMemory) → board ≡ record (p.board) { snapshot = Some p.board.lines }
      → HasStepped setup old Do.Snap (without_marks Say.Ok) (world_of setup (record p { board = board }))
  snap-ok board is =
      subst (λ b. HasStepped setup old Do.Snap (without_marks Say.Ok) (world_of setup (record p { board = b }))) (sym is)
      (stepped_by_table setup old (world_of setup (record p { board = record (p.board) { snapshot = Some p.board.lines } })) Do.Snap Say.Ok refl refl tt
      (record { marks_asked = refl; peek_true = tt; steps_counted = tt; flush_true = tt; within_bounds = tt })
      (record { shape = refl; keys = refl; start = refl }) going.unshown
      (record { board = refl; engine = refl; ledger = refl; capacity = refl; tags = refl; digests = refl })
      (sym (counted_zero (record (state_in setup p) { snapped = true }) range))
      (world-snapped setup old (world_of setup (record p { board = record (p.board) { snapshot = Some p.board.lines } })) going.whole
      (record { shape = refl; start = refl; board = refl; ledger = refl; engine = refl; state = refl })) tt)

  pub off-ok : (there : Bool) → is_some p.engine ≡ not there → there ≡ false → (board : BoardMemory) (queues : List (List Posted))
      → board ≡ record (p.board) { powered = false; fuse = None } → queues ≡ queues_after_loss setup.shape.durable p.queues
      → HasStepped setup old Do.Off (without_marks Say.Ok) (world_of setup (record p { board = board; queues = queues; engine = None }))
  off-ok there its some board queues is empty = by_engine p.engine refl
    where
      by_engine : (engine : Option EngineState) → p.engine ≡ engine
          → HasStepped setup old Do.Off (without_marks Say.Ok) (world_of setup (record p { board = board; queues = queues; engine = None }))
      by_engine None none = absurd (true≢false (sym (its ∙ ap not some) ∙ ap is_some none))
      by_engine (Some engine) on =
          subst (λ b. HasStepped setup old Do.Off (without_marks Say.Ok) (world_of setup (record p { board = b; queues = queues; engine = None }))) (sym is)
          (subst (λ q. HasStepped setup old Do.Off (without_marks Say.Ok)
          (world_of setup (record p { board = record (p.board) { powered = false; fuse = None }; queues = q; engine = None }))) (sym empty)
          (stepped_by_table setup old (world_of setup (record p { board = record (p.board) { powered = false; fuse = None }; queues = queues_after_loss setup.shape.durable p.queues; engine = None })) Do.Off Say.Ok
          (rw (lit_in setup old engine going.whole on) refl) refl tt
          (record { marks_asked = refl; peek_true = tt; steps_counted = tt; flush_true = tt; within_bounds = tt })
          (record { shape = refl; keys = refl; start = refl }) going.unshown
          (record { board = refl; engine = refl; ledger = refl; capacity = refl; tags = refl; digests = refl })
          (sym (counted_zero (after_power_loss setup.shape (state_in setup p)) range))
          (world-off setup old (world_of setup (record p { board = record (p.board) { powered = false; fuse = None }; queues = queues_after_loss setup.shape.durable p.queues; engine = None })) engine going.whole on
          (record { shape = refl; start = refl; board = refl; ledger = refl; engine = refl; state = refl })) tt))

  -- ---- tampering

  tampered : (d : ℕ) (line : Line) (flipped : Bool) (board : BoardMemory) (flags : Tampering) → d < layout.device_lines setup.shape → IsLine line
      → (flipped ≡ true → line ≢ line_at p.board.lines d)
      → board ≡ with_line_at p.board d line
      → with_tampering (state_in setup p) flags ≡ after_tampering setup.shape (state_in setup p) flipped d
      → ((state_in setup (record p { board = board; tampering = flags })) ≡ after_tampering setup.shape (state_in setup p) flipped d)
      × IsWorld setup (world_of setup (record p { board = board; tampering = flags }))
  tampered d line flipped board flags on_device its other is state =
      subst (λ b. ((state_in setup (record p { board = b; tampering = flags })) ≡ after_tampering setup.shape (state_in setup p) flipped d)
      × IsWorld setup (world_of setup (record p { board = b; tampering = flags }))) (sym is) (
        state,
        world-tampered setup old (world_of setup (record p { board = with_line_at p.board d line; tampering = flags })) d line flipped
            (record {
              world = going.whole;
              on_device = on_device;
              its_line = its;
              other_line = other;
              shape = refl;
              start = refl;
              board = refl;
              ledger = refl;
              engine = refl;
              state = state;
            }),
      )

  -- a tampering counts no steps
  tampered_still : (flipped : Bool) (d : ℕ) → d < layout.device_lines setup.shape
      → counted_state (after_tampering setup.shape (state_in setup p) flipped d) 0 ≡ after_tampering setup.shape (state_in setup p) flipped d
  tampered_still flipped d on_device =
      counted_zero (after_tampering setup.shape (state_in setup p) flipped d)
      (subst (λ n. n ≤ last_count) (sym (ap (λ (s : PlainState). s.steps) (hurts setup.shape (state_in setup p) d flipped going.whole.flags on_device).others)) range)

  -- the line that was put there is whole
  put_line : (d : ℕ) (line : Line) (board : BoardMemory) → d < layout.device_lines setup.shape → board ≡ with_line_at p.board d line
      → All IsLine board.lines → IsLine line
  put_line d line board on_device is each =
      let within : d < length p.board.lines = omega (arith, on_device, going.whole.whole_lines.count) in
      subst IsLine
      (ap (λ (b : BoardMemory). line_at b.lines d) is ∙ get_or-set_same p.board.lines d line zero_line within)
      (IsLine-line_at board.lines d each)

  pub poke-ok : (d : ℕ) (line : Line) (board : BoardMemory) (flags : Tampering) → d < layout.device_lines setup.shape
      → board ≡ with_line_at p.board d line → All IsLine board.lines
      → with_tampering (state_in setup p) flags ≡ after_tampering setup.shape (state_in setup p) false d
      → HasStepped setup old (Do.Poke d line) (without_marks Say.Ok) (world_of setup (record p { board = board; tampering = flags }))
  poke-ok d line board flags on_device is each state =
      let now = tampered d line false board flags on_device (put_line d line board on_device is each) (λ flip. absurd (true≢false (sym flip))) is state in
      stepped_by_table setup old (world_of setup (record p { board = board; tampering = flags })) (Do.Poke d line) Say.Ok
      (rw (lt-ltb d (layout.device_lines setup.shape) on_device) refl) refl tt
      (record { marks_asked = refl; peek_true = tt; steps_counted = tt; flush_true = tt; within_bounds = tt })
      (record { shape = refl; keys = refl; start = refl }) going.unshown
      (record { board = is; engine = refl; ledger = refl; capacity = refl; tags = refl; digests = refl })
      (now.0 ∙ sym (tampered_still false d on_device)) now.1 tt

  pub flip-ok : (d bit : ℕ) (board : BoardMemory) (flags : Tampering) → d < layout.device_lines setup.shape → bit ≤ 511
      → board ≡ with_line_at p.board d (flipped_line (line_at p.board.lines d) bit) → All IsLine board.lines
      → with_tampering (state_in setup p) flags ≡ after_tampering setup.shape (state_in setup p) true d
      → HasStepped setup old (Do.Flip d bit) (without_marks Say.Ok) (world_of setup (record p { board = board; tampering = flags }))
  flip-ok d bit board flags on_device small is each state =
      let line = flipped_line (line_at p.board.lines d) bit in
      let now = tampered d line true board flags on_device (put_line d line board on_device is each)
      (λ flip. flipped_differs (line_at p.board.lines d) bit (IsLine-line_at p.board.lines d going.whole.whole_lines.each) (omega (arith, small))) is state in
      stepped_by_table setup old (world_of setup (record p { board = board; tampering = flags })) (Do.Flip d bit) Say.Ok
      (rw (lt-ltb d (layout.device_lines setup.shape) on_device) (rw (le-leb bit 511 small) refl)) refl tt
      (record { marks_asked = refl; peek_true = tt; steps_counted = tt; flush_true = tt; within_bounds = tt })
      (record { shape = refl; keys = refl; start = refl }) going.unshown
      (record { board = is; engine = refl; ledger = refl; capacity = refl; tags = refl; digests = refl })
      (now.0 ∙ sym (tampered_still true d on_device)) now.1 tt

  pub move-ok : (from to : ℕ) (board : BoardMemory) (flags : Tampering) → from < layout.device_lines setup.shape → to < layout.device_lines setup.shape
      → board ≡ with_line_at p.board to (line_at p.board.lines from)
      → with_tampering (state_in setup p) flags ≡ after_tampering setup.shape (state_in setup p) false to
      → HasStepped setup old (Do.Move from to) (without_marks Say.Ok) (world_of setup (record p { board = board; tampering = flags }))
  move-ok from to board flags from_device to_device is state =
      let now = tampered to (line_at p.board.lines from) false board flags to_device (IsLine-line_at p.board.lines from going.whole.whole_lines.each)
      (λ flip. absurd (true≢false (sym flip))) is state in
      stepped_by_table setup old (world_of setup (record p { board = board; tampering = flags })) (Do.Move from to) Say.Ok
      (rw (lt-ltb from (layout.device_lines setup.shape) from_device) (rw (lt-ltb to (layout.device_lines setup.shape) to_device) refl)) refl tt
      (record { marks_asked = refl; peek_true = tt; steps_counted = tt; flush_true = tt; within_bounds = tt })
      (record { shape = refl; keys = refl; start = refl }) going.unshown
      (record { board = is; engine = refl; ledger = refl; capacity = refl; tags = refl; digests = refl })
      (now.0 ∙ sym (tampered_still false to to_device)) now.1 tt

  -- a line of the copy
  pub back-ok : (d : ℕ) (board : BoardMemory) (flags : Tampering) → d < layout.device_lines setup.shape → (p.board.snapshot ≡ None → ⊥)
      → board ≡ with_lines p.board (restored_lines p.board.lines p.board.snapshot d) → All IsLine board.lines
      → with_tampering (state_in setup p) flags ≡ after_tampering setup.shape (state_in setup p) false d
      → HasStepped setup old (Do.Back d) (without_marks Say.Ok) (world_of setup (record p { board = board; tampering = flags }))
  back-ok d board flags on_device some is each state = by_copy p.board.snapshot refl
    where
      by_copy : (copy : Option (List Line)) → p.board.snapshot ≡ copy
          → HasStepped setup old (Do.Back d) (without_marks Say.Ok) (world_of setup (record p { board = board; tampering = flags }))
      by_copy None none = absurd (some none)
      by_copy (Some kept) there =
          let snapped : is_some p.board.snapshot ≡ true = ap is_some there in
          let put : board ≡ with_line_at p.board d (line_at kept d) =
          is ∙ ap (λ copy. with_lines p.board (restored_lines p.board.lines copy d)) there in
          let now = tampered d (line_at kept d) false board flags on_device (put_line d (line_at kept d) board on_device put each)
          (λ flip. absurd (true≢false (sym flip))) put state in
          stepped_by_table setup old (world_of setup (record p { board = board; tampering = flags })) (Do.Back d) Say.Ok
          (rw (lt-ltb d (layout.device_lines setup.shape) on_device) (rw snapped refl)) refl tt
          (record { marks_asked = refl; peek_true = tt; steps_counted = tt; flush_true = tt; within_bounds = tt })
          (record { shape = refl; keys = refl; start = refl }) going.unshown
          (record { board = is; engine = refl; ledger = refl; capacity = refl; tags = refl; digests = refl })
          (now.0 ∙ sym (tampered_still false d on_device)) now.1 tt

  -- ---- looks

  pub peek-ok : (d : ℕ) (line : Line) → d < layout.device_lines setup.shape → line ≡ line_at p.board.lines d
      → HasStepped setup old (Do.Peek d) (without_marks (Say.Raw line)) old
  peek-ok d line on_device is =
      stepped_by_engine setup old old (Do.Peek d) (without_marks (Say.Raw line))
      (rw (lt-ltb d (layout.device_lines setup.shape) on_device) refl)
      (subst (λ l. IsGood setup old (Do.Peek d) (without_marks (Say.Raw l))) (sym is) (peek-good setup old d going.whole on_device))
      (subst IsLine (sym is) (IsLine-line_at p.board.lines d going.whole.whole_lines.each))
      (record { shape = refl; keys = refl; start = refl }) going.unshown (sym (append-nil p.ledger.marks))
      (λ unshown. sym (counted_zero (state_in setup p) range)) (λ unshown. going.whole)
      (record { board = refl; engine = refl; ledger = refl; capacity = refl; tags = refl; digests = refl }, ap (λ l. Say.Raw l) is) tt

  pub stat-ok : (counts : Stat) → IsStat counts → IsStatOf old counts → HasStepped setup old Do.Stat (without_marks (Say.Counts counts)) old
  stat-ok counts its counted =
      record {
        same_shape = refl;
        same_keys = refl;
        same_start = refl;
        listed = refl;
        in_range = its;
        legal =
            record {
              legal = record { listed = refl; within_fuse = zero_within (state_in setup p).fuse; writes_whole = refl; caused = tt };
              shown = tt;
            };
        fits = (stat-good setup old counts going.whole counted).fits;
        marks = sym (append-nil p.ledger.marks);
        shown = going.unshown;
        state = λ unshown. sym (counted_zero (state_in setup p) range);
        holds = λ unshown. going.whole;
        parts = (record { board = refl; engine = refl; ledger = refl; capacity = refl; tags = refl; digests = refl }, counted);
        seen = tt;
      }
