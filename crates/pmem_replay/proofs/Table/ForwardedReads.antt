-- Reads that the port's waiting writes answer, and reads that they don't.
use Rattle.std.proofs.Common.{ℕ, ◌≡◌, ◌≢◌, ◌<◌, ◌-◌, ◌^◌, true, false, inl, inr, List, [], Option, Some, None, IsTrue, refl, sym, ap, subst, ◌∙◌, arith}
use Rattle.std.specs.Prelude.{length, ◌==◌, All, option_map, ◌↔◌}
use Rattle.std.specs.List.{range_with_len, list_all}
use Rattle.std.proofs.lemmas.Option.{same_Some, none-some}
use Rattle.std.proofs.lemmas.Bool.{lt-ltb, le-leb, cases_Bool}
use Rattle.std.proofs.lemmas.List.{ext_get_or}
use Rattle.std.proofs.lemmas.List.Elements.{All-filter}
use Rattle.std.proofs.lemmas.List.FromFn.{get_or-range_with_len, length-range_with_len}
use Rattle.std.proofs.lemmas.List.Sums.{AllPass-from_list_all}
use Rattle.pmem_base.specs.declared.lines.Line.{Line}
use Rattle.pmem_base.specs.declared.commands.Posted.{Posted}
use Rattle.pmem_base.specs.declared.commands.Command.TheVariants as Do
use Rattle.pmem_base.specs.declared.answers.Mark.TheVariants.{Seal}
use Rattle.pmem_base.specs.declared.answers.Answer.TheVariants as Say
use Rattle.pmem_base.specs.Layout as layout
use Rattle.pmem_base.specs.Lines.{IsLine, line_at, line_of, zero_line}
use Rattle.pmem_base.specs.Marks.{SealOf, last_seal}
use Rattle.pmem_base.specs.Ranges.{IsPosted}
use Rattle.pmem_base.specs.WaitingWrites.{queue_of, put_writes, writes_to}
use Rattle.seal_ledger.specs.Ledger.{IsMark}
use Rattle.seal_ledger.proofs.MarkLemmas.{last_seal_has}
use Rattle.write_ports.specs.Queues.{have_byte, cover_line}
use Rattle.write_ports.proofs.WriteLemmas.{length-put_writes, get_or-put_writes_some}
use Rattle.suite.proofs.CipherLemmas.{xor_lines-IsLine}
use Rattle.suite.specs.Setup.{Setup}
use Rattle.plain_model.specs.State.{PlainState}
use Rattle.plain_model.specs.View.{plain_of_seal}
use Rattle.plain_model.specs.Bounds.{path_length, dirty_bound}
use Rattle.plain_model.specs.Answers.{decided_answer, seen_line, is_covered}
use Rattle.pmem_engine.specs.Engine.{EngineState}
use Rattle.pmem_replay.specs.World.{WorldState, IsWorld}
use Rattle.pmem_replay.specs.Replies.{without_marks}
use Rattle.pmem_replay.specs.Stepped.{HasStepped}
use Rattle.pmem_replay.proofs.Steps.WorldsAfterCalls.{on_in}
use Rattle.pmem_replay.proofs.Table.UnchangedSteps.{IsGoingOn, lit_in, stepped_unchanged}

-- the bytes that were seen are all of them, or not
pub covered_by : (state : PlainState) (port at mask : ℕ)
    → (mask ≡ 2 ^ 64 - 1) ↔ IsTrue (cover_line (writes_to (queue_of state.queues port) at))
    → mask ≡ 2 ^ 64 - 1 → is_covered state port at ≡ true
unfolding cover_line
covered_by state port at mask full all = full.0 all

pub uncovered_by : (state : PlainState) (port at mask : ℕ)
    → (mask ≡ 2 ^ 64 - 1) ↔ IsTrue (cover_line (writes_to (queue_of state.queues port) at))
    → mask ≢ 2 ^ 64 - 1 → is_covered state port at ≡ false
unfolding cover_line
uncovered_by state port at mask full some =
    elim (cases_Bool (is_covered state port at)) [
      | inl all ↦ absurd (some (full.1 all))
      | inr left ↦ left
    ]

-- memory's lines are whole
pub memory_line : (setup : Setup) (world : WorldState) (engine : EngineState) (at : ℕ) → IsWorld setup world → world.engine ≡ Some engine
    → at < layout.data_lines setup.shape → IsLine (line_at world.state.memory at)
memory_line setup world engine at whole there within = by_seal (last_seal world.ledger.marks at) refl (whole.memory.each at within)
  where
    by_seal : (seal : Option SealOf) → last_seal world.ledger.marks at ≡ seal
        → option_map (plain_of_seal setup.formulas at) seal ≡ Some (line_at world.state.memory at) → IsLine (line_at world.state.memory at)
    by_seal None none is = absurd (none-some (line_at world.state.memory at) is)
    by_seal (Some seal) its is =
        let on = on_in setup world engine whole there in
        let mark : IsMark setup.shape (Seal at seal.ctr seal.cipher seal.tag) =
        last_seal_has (IsMark setup.shape) world.ledger.marks at seal on.trusted.anchored.of_shape.marks_in_range its in
        subst IsLine (same_Some (plain_of_seal setup.formulas at seal) (line_at world.state.memory at) is)
        (xor_lines-IsLine seal.cipher (setup.formulas.pad_of at seal.ctr) mark.2 (whole.whole_formulas.pads at seal.ctr mark.1))

-- writes that have all bytes of a line leave nothing of it
puts_alike : (a b : Line) (writes : List Posted) → length a.0 ≡ 64 → length b.0 ≡ 64 → All IsPosted writes
    → ((i : ℕ) → i < 64 → have_byte writes i ≡ true) → put_writes a writes ≡ put_writes b writes
puts_alike a b writes long_a long_b posted all =
    let one = length-put_writes a writes long_a posted in
    let two = length-put_writes b writes long_b posted in
    ap line_of
    (ext_get_or 0 (put_writes a writes).0 (put_writes b writes).0 (one ∙ sym two)
    (λ i within. get_or-put_writes_some a b writes i long_a long_b posted (all i (omega (arith, within, one)))))

-- each byte is covered where all are
each_byte : (writes : List Posted) → list_all (λ i. have_byte writes i) (range_with_len 0 64) ≡ true
    → (i : ℕ) → i < 64 → have_byte writes i ≡ true
each_byte writes all i small =
    ap (have_byte writes) (omega (arith, get_or-range_with_len 0 64 i 0 small))
    ∙ AllPass-from_list_all (λ k. have_byte writes k) (range_with_len 0 64) all i 0 (omega (arith, small, length-range_with_len 0 64))

module _ (setup : Setup) (world : WorldState) (going : IsGoingOn setup world) (engine : EngineState) (there : world.engine ≡ Some engine)
    (port at : ℕ) (small : port < 8) (within : at < layout.data_lines setup.shape) (covered : is_covered world.state port at ≡ true) where
  abbrev pub waiting : List Posted
  waiting = writes_to (queue_of world.state.queues port) at

  posted : All IsPosted waiting
  posted =
      All-filter (λ write. write.at == at) IsPosted (queue_of world.state.queues port)
      (going.whole.queues.ports.each port [] (omega (arith, small, going.whole.queues.ports.eight))).posted

  -- what the writes show over zeros is what they show over memory's line
  pub read-forwarded : (line : Line) → line ≡ put_writes zero_line waiting → IsLine line
      → HasStepped setup world (Do.Read port at) (without_marks (Say.Got line 0)) world
  unfolding zero_line
  read-forwarded line is its =
      let memory = memory_line setup world engine at going.whole there within in
      let same : line ≡ seen_line world.state port at =
      is
      ∙ puts_alike zero_line (line_at world.state.memory at) waiting refl memory.long posted (each_byte waiting covered) in
      let decided : decided_answer setup.shape world.state (Do.Read port at) ≡ Some (Say.Got line 0) =
      rw (lit_in setup world engine going.whole there)
      (rw (lt-ltb at (layout.data_lines setup.shape) within)
      (rw covered (ap (λ l. Some (Say.Got l 0)) (sym same)))) in
      stepped_unchanged setup world (Do.Read port at) (Say.Got line 0) going decided refl (its, omega arith) refl
      (record {
        marks_asked = refl;
        peek_true = tt;
        steps_counted = tt;
        flush_true = tt;
        within_bounds = (le-leb 0 (path_length setup.shape) (omega arith), le-leb 0 (dirty_bound setup.shape world.state) (omega arith));
      }) refl refl refl
      (λ none. absurd (none-some (Say.Got line 0) (sym none ∙ decided)))
