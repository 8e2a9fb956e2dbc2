-- Powering on, refused: the line or the root that recovery names, and a twin.
use Rattle.std.proofs.Common.{rules}
use Rattle.std.proofs.Common.{ℕ, zero, suc, ◌≡◌, ◌<◌, ◌≤◌, ◌+◌, ◌-◌, ◌/◌, ◌^◌, true, false, List, length, Option, Some, None, Err, IsTrue, refl, sym, ap, ap₂, subst, ◌∙◌, arith}
use Rattle.std.specs.Prelude.{option_map, is_some, ◌||◌}
use Rattle.std.proofs.lemmas.Option.{same_Some, none-some}
use Rattle.std.proofs.lemmas.Bool.{or_parts, true_from_ne_false}
use Rattle.pmem_base.specs.declared.lines.Line.{Line}
use Rattle.pmem_base.specs.declared.lines.Ctr.{Ctr}
use Rattle.pmem_base.specs.declared.registers.Regs.{Regs}
use Rattle.pmem_base.specs.declared.answers.Exhibit.TheVariants as Show
use Rattle.pmem_base.specs.declared.commands.Command.TheVariants as Do
use Rattle.pmem_base.specs.declared.answers.Answer.TheVariants as Say
use Rattle.pmem_base.specs.Shape.{Shape}
use Rattle.pmem_base.specs.Layout as layout
use Rattle.pmem_base.specs.Layout.{page_of}
use Rattle.pmem_base.specs.Lines.{line_at}
use Rattle.pmem_base.specs.Marks.{SealOf, last_seal}
use Rattle.pmem_base.specs.Registers.{without_group}
use Rattle.bonsai_tree.specs.Positions.{counter_position}
use Rattle.board.specs.Memory.{BoardMemory}
use Rattle.commit_regs.specs.Groups.{redone, finishing_latches}
use Rattle.seal_ledger.proofs.MarkLemmas.{last_seal_has}
use Rattle.suite.specs.Formulas.{cipher_of}
use Rattle.suite.specs.Setup.{Setup}
use Rattle.plain_model.specs.State.{is_flagged, has_flags}
use Rattle.plain_model.specs.View.{counter_at}
use Rattle.plain_model.proofs.Views.{counter_at-last}
use Rattle.plain_model.specs.Bounds.{group_bound, redo_bound}
use Rattle.plain_model.specs.Shown.{IsTwinOfSeal}
use Rattle.pmem_engine.specs.Invariants.{IsAnchored, IsSealTagged}
use Rattle.pmem_engine.proofs.Laws.TrueLines.{true_line-is}
use Rattle.pmem_recovery.specs.declared.faults.RecFault.{RecFault}
use Rattle.pmem_recovery.specs.declared.faults.RecFault.TheVariants as Fail
use Rattle.pmem_recovery.specs.Trials.{IsTwinOfLastSeal}
use Rattle.pmem_recovery.specs.Recovered.{HasOnlyRedone}
use Rattle.commit_regs.proofs.GroupLemmas.{one_latch}
use Rattle.pmem_recovery.proofs.UndecidedLaws.{undecided_line}
use Rattle.pmem_replay.specs.World.{WorldState, AreKept, IsOff, IsWorld, view_in, lines_in}
use Rattle.watched_board.specs.declared.taken.Taken.{Taken}
use Rattle.watched_board.specs.Watching.{none_taken, steps_in, device_during}
use Rattle.pmem_replay.proofs.Marks.SealedLines.{last_cipher}
use Rattle.pmem_replay.proofs.Steps.FaultCauses.{zero_within, counter_position-within}
use Rattle.pmem_replay.proofs.Steps.MarklessCalls.{counted_state}
use Rattle.pmem_replay.proofs.Power.OnLaws.{IsOnCall, lit, off, mended, exact, within_lasting, left_lines, left_steps}
use Rattle.pmem_replay.proofs.Steps.SameWorld.{same_world}
use Rattle.pmem_replay.specs.Replies.{without_marks}
use Rattle.pmem_replay.proofs.Steps.GoodReplies.{IsGood, good}

-- ---- a refusal that has done nothing but the redo

module _ (setup : Setup) (old new : WorldState) (left : BoardMemory) (taken : Taken) (fault : RecFault)
    (call : IsOnCall setup old new left taken (Err fault)) (regs : left.regs ≡ without_group old.board.regs)
    (redo : HasOnlyRedone (device_during (lit old.board) none_taken) (device_during left taken)) where
  abbrev its_off : IsOff setup old
  its_off = off setup old new left taken (Err fault) call

  -- its steps are those of the redo
  pub refused_few : steps_in taken ≤ redo_bound setup.shape
  refused_few =
      let exact = exact setup old new left taken (Err fault) call in
      let writes : taken.writes ≡ 0 + length old.board.regs.group.items = redo.writes.exact exact.0 in
      let latches : taken.latches ≡ 0 + finishing_latches old.board.regs.group.items = redo.latches.exact exact.1 in
      omega (arith, writes, latches, one_latch old.board.regs.group.items, call.world.board.few_armed)

  -- the lines are those that were redone
  pub redone_same : redone left.regs.group.items left.lines ≡ lines_in old
  redone_same =
      ap (λ (r : Regs). redone r.group.items left.lines) regs
      ∙ same_Some left.lines (lines_in old) redo.lines

  same_loss : left.regs.loss ≡ old.board.regs.loss
  same_loss = ap (λ (r : Regs). r.loss) regs

  refused_kept : AreKept setup old.state (redone left.regs.group.items left.lines) left.regs.loss old.ledger
  refused_kept =
      subst (λ lines. AreKept setup old.state lines left.regs.loss old.ledger) (sym redone_same)
      (subst (λ loss. AreKept setup old.state (lines_in old) loss old.ledger) (sym same_loss) call.world.kept)

  -- the world after it, where the device wasn't durable, and power off again
  pub refused-world : (has_flags old.state.named ≡ false → ⊥) → left.powered ≡ true
      → new.state ≡ counted_state old.state (steps_in taken) → new.board ≡ record left { powered = false } → new.engine ≡ None → IsWorld setup new
  refused-world tampered lasting state board there =
      same_world setup (record new { state = counted_state old.state (steps_in taken); board = record left { powered = false }; ledger = old.ledger; engine = None; start = old.start }) new
      (record { shape = refl; start = call.start; board = board; ledger = call.ledger; engine = there; state = state })
      (record {
        its_shape = call.shape ∙ call.world.its_shape;
        whole_shape = call.world.whole_shape;
        whole_formulas = call.world.whole_formulas;
        whole_lines = left_lines setup old new left taken (Err fault) call;
        memory = call.world.memory;
        chip =
            record {
              unpowered = its_off.unpowered;
              anchored = call.recovered.anchored its_off.anchored;
              durable = λ honest. absurd (tampered honest);
            };
        kept =
            record { seals = refused_kept.seals; spoiled = refused_kept.spoiled; counters = refused_kept.counters; strict = refused_kept.strict };
        flags =
            record {
              named = call.world.flags.named;
              hurt = call.world.flags.hurt;
              spoiled = call.world.flags.spoiled;
              touched = call.world.flags.touched;
              flushed = call.world.flags.flushed;
            };
        queues = record { ports = call.world.queues.ports; on_memory = call.world.queues.on_memory };
        board =
            record {
              power = sym its_off.unpowered;
              fuse = call.follows.burnt lasting ∙ ap (option_map (λ n. n - steps_in taken)) call.world.board.fuse;
              snapped = ap is_some call.follows.snapshot ∙ call.world.board.snapped;
              loss = same_loss ∙ call.world.board.loss;
              few_armed = subst (λ (r : Regs). length r.group.items ≤ group_bound setup.shape) (sym regs) (omega arith);
            };
        steps =
            let it = left_steps setup old new left taken (Err fault) call (counted_state old.state (steps_in taken)) refl in
            record {
              in_range = it.in_range;
              reads = it.reads;
              writes = it.writes;
              latches = it.latches;
              sum = λ exact low. it.sum (record { writes = exact.writes; latches = exact.latches }) low;
            };
      })

-- ---- no counter fits

module _ (setup : Setup) (old new : WorldState) (left : BoardMemory) (taken : Taken) (at : ℕ)
    (call : IsOnCall setup old new left taken (Err (Fail.NoCounter at))) where
  abbrev counter_off : IsOff setup old
  counter_off = off setup old new left taken (Err (Fail.NoCounter at)) call

  pub counter_lasting : left.powered ≡ true
  counter_lasting = call.recovered.power.live refl

  pub counter_tampered : has_flags old.state.named ≡ false → ⊥
  counter_tampered honest = (mended setup old new left taken (Err (Fail.NoCounter at)) call).from_durable (counter_off.durable honest)

  -- the line is hurt, or its counter block may differ
  counter_caused : IsTrue
      (is_flagged old.state.hurt at
      || is_flagged old.state.named (layout.meta_line setup.shape (counter_position setup.shape (page_of at)))
      || old.state.loose)
  counter_caused =
      true_from_ne_false
      (is_flagged old.state.hurt at
      || is_flagged old.state.named (layout.meta_line setup.shape (counter_position setup.shape (page_of at)))
      || old.state.loose)
      (λ none.
      let first = or_parts
      (is_flagged old.state.hurt at || is_flagged old.state.named (layout.meta_line setup.shape (counter_position setup.shape (page_of at))))
      old.state.loose none in
      let second = or_parts (is_flagged old.state.hurt at)
      (is_flagged old.state.named (layout.meta_line setup.shape (counter_position setup.shape (page_of at)))) first.0 in
      let its = mended setup old new left taken (Err (Fail.NoCounter at)) call in
      let within = (undecided_line setup (lines_in old) old.board.regs at its.decided.0).0.on_device in
      its.no_counter
      (record {
        on_device = within;
        anchored = counter_off.anchored;
        seal_stored = call.world.kept.seals at within second.0;
        counter_stored = call.world.kept.counters first.1 (page_of at) (omega (arith, within)) second.1;
      }))

  pub counter-good : IsGood setup old Do.On (without_marks (Say.NoCounter at (steps_in taken)))
  counter-good = search (rules, within_lasting, counter_caused, counter_lasting, refused_few)

pow_some : (n : ℕ) → 1 ≤ 4 ^ n
pow_some zero = omega arith
pow_some (suc n) = omega (arith, pow_some n)

-- there is a top line
some_meta : (g : Shape) → 0 < layout.meta_lines g
some_meta g =
    let block = counter_position-within g 0 (pow_some g.levels) in
    omega (arith, block)

-- ---- another root is found

module _ (setup : Setup) (old new : WorldState) (left : BoardMemory) (taken : Taken) (kept found : List ℕ)
    (call : IsOnCall setup old new left taken (Err (Fail.Root kept found))) where
  abbrev root_off : IsOff setup old
  root_off = off setup old new left taken (Err (Fail.Root kept found)) call

  pub root_lasting : left.powered ≡ true
  root_lasting = call.recovered.power.live refl

  pub root_tampered : has_flags old.state.named ≡ false → ⊥
  root_tampered honest = (mended setup old new left taken (Err (Fail.Root kept found)) call).from_durable (root_off.durable honest)

  pub root-good : IsGood setup old Do.On (without_marks (Say.WrongRoot kept found (steps_in taken)))
  root-good =
      let other = (mended setup old new left taken (Err (Fail.Root kept found)) call).decided in
      good refl (within_lasting setup old new left taken (Err (Fail.Root kept found)) call root_lasting) refl
      (record {
        tampered = true_from_ne_false (has_flags old.state.named) root_tampered;
        kept_is_true =
            other.its_kept ∙ root_off.anchored.root
            ∙ ap (setup.formulas.digest_of 0)
            (sym (true_line-is setup old.board.regs old.ledger root_off.anchored call.world.whole_shape 0 (some_meta setup.shape)));
        found_differs = other.differ;
      })
      tt refl tt tt tt
      (refused_few setup old new left taken (Fail.Root kept found) call call.recovered.regs call.recovered.unchanged)

-- ---- a twin

-- a twin of the last seal is one of memory's line
twin_of_seal : (setup : Setup) (old : WorldState) (regs : Regs) (loss a major low high : ℕ) (cipher : Line) (tag : List ℕ)
    → IsWorld setup old → IsAnchored setup regs old.ledger → a < layout.data_lines setup.shape → loss ≡ old.state.loss
    → IsTwinOfLastSeal loss old.ledger a major low high cipher tag
    → IsTwinOfSeal setup old.state.memory old.state.loss (view_in setup old) a major low high cipher tag
twin_of_seal setup old regs loss a major low high cipher tag world anchored within same twin =
    by_seal (last_seal old.ledger.marks a) refl
  where
    by_seal : (seal : Option SealOf) → last_seal old.ledger.marks a ≡ seal
        → IsTwinOfSeal setup old.state.memory old.state.loss (view_in setup old) a major low high cipher tag
    by_seal None none = absurd (none-some cipher (ap (option_map (λ s. s.cipher)) (sym none) ∙ twin.its_cipher))
    by_seal (Some seal) there =
        let ctr : counter_at (view_in setup old) a ≡ seal.ctr =
        counter_at-last setup.shape old.ledger.marks a seal.ctr within (ap (option_map (λ s. s.ctr)) there) in
        let its_cipher : seal.cipher ≡ cipher_of setup.formulas a seal.ctr (line_at old.state.memory a) =
        last_cipher setup regs old.ledger old.state.memory a seal world.whole_formulas anchored world.memory within there in
        let sealed : seal.cipher ≡ cipher_of setup.formulas a (counter_at (view_in setup old) a) (line_at old.state.memory a) =
        its_cipher ∙ ap (λ c. cipher_of setup.formulas a c (line_at old.state.memory a)) (sym ctr) in
        record {
          its_cipher = sym (same_Some seal.cipher cipher (ap (option_map (λ s. s.cipher)) (sym there) ∙ twin.its_cipher)) ∙ sealed;
          its_tag =
              sym (same_Some seal.tag tag (ap (option_map (λ s. s.tag)) (sym there) ∙ twin.its_tag))
              ∙ sym (last_seal_has (IsSealTagged setup.formulas) old.ledger.marks a seal anchored.seals_tagged there)
              ∙ ap₂ (λ c l. setup.formulas.tag_of a c l) (sym ctr) sealed;
          its_major =
              sym (same_Some seal.ctr.major major (ap (option_map (λ s. s.ctr.major)) (sym there) ∙ twin.its_major))
              ∙ ap (λ (c : Ctr). c.major) (sym ctr);
          low_in_window =
              sym (ap (λ n. low / n) same)
              ∙ sym (same_Some (seal.ctr.minor / loss) (low / loss) (ap (option_map (λ s. s.ctr.minor / loss)) (sym there) ∙ twin.low_in_window))
              ∙ ap₂ (λ (c : Ctr) (n : ℕ). c.minor / n) (sym ctr) same;
          high_in_window =
              sym (ap (λ n. high / n) same)
              ∙ sym (same_Some (seal.ctr.minor / loss) (high / loss) (ap (option_map (λ s. s.ctr.minor / loss)) (sym there) ∙ twin.high_in_window))
              ∙ ap₂ (λ (c : Ctr) (n : ℕ). c.minor / n) (sym ctr) same;
        }

module _ (setup : Setup) (old new : WorldState) (left : BoardMemory) (taken : Taken) (at major low high : ℕ) (cipher : Line) (tag : List ℕ)
    (call : IsOnCall setup old new left taken (Err (Fail.Twin at major low high cipher tag))) where
  abbrev twin_off : IsOff setup old
  twin_off = off setup old new left taken (Err (Fail.Twin at major low high cipher tag)) call

  pub twin-good : IsGood setup old Do.On (without_marks (Say.Shown (Show.Twin at major low high cipher tag)))
  twin-good =
      let its = mended setup old new left taken (Err (Fail.Twin at major low high cipher tag)) call in
      good refl (zero_within old.state.fuse) refl tt
      (record {
        holds = call.recovered.twin;
        in_run =
            record {
              answers_on = refl;
              of_seal =
                  λ honest.
                  twin_of_seal setup old old.board.regs old.board.regs.loss at major low high cipher tag call.world twin_off.anchored
                  (undecided_line setup (lines_in old) old.board.regs at its.decided.0).0.on_device call.world.board.loss
                  (its.from_durable (twin_off.durable honest)).0;
            };
      })
      refl tt tt tt tt
