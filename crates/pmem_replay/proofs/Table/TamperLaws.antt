-- Tampering: whatever becomes of one device line, the world holds what it holds.
use Rattle.std.proofs.Common.{rules}
use Rattle.std.proofs.Common.{ℕ, ◌≡◌, ◌≢◌, ◌<◌, ◌≤◌, ◌+◌, ◌-◌, ◌*◌, ◌/◌, ◌%◌, ◌^◌, ◌⊎◌, inl, inr, Bool, true, false, List, [], ◌∷◌, length, Option, Some, None, IsTrue, refl, sym, ap, subst, subst₂, ◌∙◌, arith}
use Rattle.std.specs.Prelude.{All, IfSome, option_map, not, ◌&&◌, slice_set, bit_xor, slice_index}
use Rattle.std.specs.Int.{bit_at}
use Rattle.std.proofs.lemmas.Option.{same_Some}
use Rattle.std.proofs.lemmas.Bool.{true≢false, cases_Bool, cases_eq, cases_lt, and_parts, not-true}
use Rattle.std.proofs.lemmas.List.{length-set, get_or-set_same, get_or-set_other, set_past}
use Rattle.std.proofs.lemmas.List.Folds.{list_any_at}
use Rattle.std.proofs.lemmas.Nat.Bits.{bit_at_xor, bit_at-pow_same, bit_at-lt}
use Rattle.pmem_base.specs.declared.lines.Line.{Line}
use Rattle.pmem_base.specs.Shape.{Shape, counter_window}
use Rattle.pmem_base.specs.Layout.{content_of, data_lines, tag_line, meta_line, shadow_line, device_lines}
use Rattle.pmem_base.specs.Lines.{IsLine, line_at, tag_slot, zero_line}
use Rattle.pmem_base.specs.Marks.{SealOf, last_seal}
use Rattle.pmem_base.proofs.OneToOne.{content_of-data, content_of-tags, content_of-meta, content_of-shadow}
use Rattle.pmem_base.proofs.LineLemmas.{All-lines_set}
use Rattle.bonsai_tree.specs.Positions.{counter_position}
use Rattle.board.specs.Memory.{with_line_at, flipped_line}
use Rattle.commit_regs.specs.Groups.{redone}
use Rattle.split_counters.specs.Blocks.{unpacked, IsStoredBlock}
use Rattle.write_ports.specs.Queues.{ArePorts}
use Rattle.pmem_engine.specs.Truth.{true_block}
use Rattle.pmem_replay.proofs.Steps.SameWorld.{same_world}
use Rattle.suite.specs.Setup.{Setup}
use Rattle.plain_model.specs.State.{PlainState, is_flagged, has_flags, with_flag}
use Rattle.plain_model.specs.After.{after_hurting, after_tampering, with_four_flags}
use Rattle.plain_model.specs.Bounds.{can_be_dirty}
use Rattle.pmem_engine.specs.Engine.{EngineState}
use Rattle.pmem_engine.specs.Invariants.{IsSealStored}
use Rattle.pmem_replay.specs.World.{WorldState, AreKept, HasFlags, IsWorld, IsPowered, IsOtherCipher, lines_in}
use Rattle.pmem_replay.proofs.Marks.AfterMarks.{flag_set, flag_kept}
use Rattle.pmem_replay.proofs.Steps.FaultCauses.{lines_unarmed}

-- ---- a turned bit

-- makes another line of it
pub flipped_differs : (line : Line) (bit : ℕ) → IsLine line → bit < 512 → flipped_line line bit ≢ line
flipped_differs line bit whole small same =
    let place : bit / 8 < length line.0 = omega (arith, small, whole.long) in
    let byte : bit_xor (slice_index line.0 (bit / 8)) (2 ^ (bit % 8)) ≡ slice_index line.0 (bit / 8) =
    sym (get_or-set_same line.0 (bit / 8) (bit_xor (slice_index line.0 (bit / 8)) (2 ^ (bit % 8))) 0 place)
    ∙ ap (λ (l : Line). slice_index l.0 (bit / 8)) same in
    let turned : (bit_at (slice_index line.0 (bit / 8)) (bit % 8) + bit_at (2 ^ (bit % 8)) (bit % 8)) % 2 ≡ bit_at (slice_index line.0 (bit / 8)) (bit % 8) =
    sym (bit_at_xor (slice_index line.0 (bit / 8)) (2 ^ (bit % 8)) (bit % 8)) ∙ ap (λ n. bit_at n (bit % 8)) byte in
    omega (arith, turned, bit_at-pow_same (bit % 8), bit_at-lt (slice_index line.0 (bit / 8)) (bit % 8))

-- ---- a redone group over two devices

-- two devices alike but for line d
record IsAlikeBut (d : ℕ) (one other : List Line) : Type 0 where
  count : length one ≡ length other
  elsewhere : (p : ℕ) → p ≢ d → line_at one p ≡ line_at other p

alike_set : (d at : ℕ) (line : Line) (one other : List Line) → IsAlikeBut d one other → IsAlikeBut d (slice_set one at line) (slice_set other at line)
alike_set d at line one other alike =
    record {
      count = length-set one at line ∙ alike.count ∙ sym (length-set other at line);
      elsewhere =
          λ p apart.
          elim (cases_eq p at) [
            | inl same ↦
                elim (cases_lt at (length one)) [
                  | inl within ↦
                      ap (line_at (slice_set one at line)) same
                      ∙ get_or-set_same one at line zero_line within
                      ∙ sym (get_or-set_same other at line zero_line (omega (arith, within, alike.count)))
                      ∙ ap (line_at (slice_set other at line)) (sym same)
                  | inr past ↦
                      ap (λ lines. line_at lines p) (set_past one at line past)
                      ∙ alike.elsewhere p apart
                      ∙ ap (λ lines. line_at lines p) (sym (set_past other at line (omega (arith, past, alike.count))))
                ]
            | inr other_place ↦
                get_or-set_other one at p line zero_line other_place ∙ alike.elsewhere p apart
                ∙ sym (get_or-set_other other at p line zero_line other_place)
          ];
    }

alike_redone : (d : ℕ) (group : List (ℕ × Line)) (one other : List Line) → IsAlikeBut d one other → IsAlikeBut d (redone group one) (redone group other)
alike_redone d [] one other alike = alike
alike_redone d (entry ∷ group) one other alike =
    alike_redone d group (slice_set one entry.0 entry.1) (slice_set other entry.0 entry.1) (alike_set d entry.0 entry.1 one other alike)

tampered_alike : (d : ℕ) (line : Line) (lines : List Line) → IsAlikeBut d (slice_set lines d line) lines
tampered_alike d line lines =
    record { count = length-set lines d line; elsewhere = λ p apart. get_or-set_other lines d p line zero_line apart }

-- ---- the flags

-- what a tampering with line d does to the state
pub record IsHurtBy (g : Shape) (old new : PlainState) (d : ℕ) (flipped : Bool) : Type 0 where
  pub others : new ≡ record old { named = with_flag old.named d; hurt = new.hurt; spoiled = new.spoiled }
  pub hurt_count : length new.hurt ≡ length old.hurt
  pub spoiled_count : length new.spoiled ≡ length old.spoiled
  -- a line that isn't hurt then wasn't, and its device line and tag line are others
  pub unhurt :
      (a : ℕ) → a < data_lines g → is_flagged new.hurt a ≡ false
      → (is_flagged old.hurt a ≡ false) × (a ≢ d) × (tag_line g a ≢ d)
  pub spoiled :
      (a : ℕ) → a < data_lines g → is_flagged new.spoiled a ≡ true
      → ((a ≢ d) × (is_flagged old.spoiled a ≡ true))
      ⊎ ((a ≡ d) × (flipped ≡ true) × (old.power ≡ true) × (is_flagged old.hurt a ≡ false))

-- a flag that isn't set after more were wasn't set
flag_unset : (flags : List Bool) (q p : ℕ) → is_flagged (with_flag flags q) p ≡ false → is_flagged flags p ≡ false
flag_unset flags q p unset =
    elim (cases_Bool (is_flagged flags p)) [
      | inl set ↦ absurd (true≢false (sym (flag_kept flags q p set) ∙ unset))
      | inr none ↦ none
    ]

flag_other : (flags : List Bool) (q p : ℕ) → q < length flags → is_flagged (with_flag flags q) p ≡ false → p ≢ q
flag_other flags q p within unset same =
    true≢false (sym (subst (λ z. is_flagged (with_flag flags q) z ≡ true) (sym same) (flag_set flags q within)) ∙ unset)

four_other : (flags : List Bool) (a p : ℕ) → a + 3 < length flags → is_flagged (with_four_flags flags a) p ≡ false
    → (is_flagged flags p ≡ false) × (p ≢ a) × (p ≢ a + 1) × (p ≢ a + 2) × (p ≢ a + 3)
four_other flags a p within unset = search (rules, arith, length-set, flag_other, flag_unset)

length-four : (flags : List Bool) (a : ℕ) → length (with_four_flags flags a) ≡ length flags
length-four flags a =
    length-set (with_flag (with_flag (with_flag flags a) (a + 1)) (a + 2)) (a + 3) true
    ∙ length-set (with_flag (with_flag flags a) (a + 1)) (a + 2) true
    ∙ length-set (with_flag flags a) (a + 1) true ∙ length-set flags a true

-- a device line that bears on no data line
hurts_none : (g : Shape) (old : PlainState) (d : ℕ) (flipped : Bool) → meta_line g 0 ≤ d
    → after_hurting old flipped (content_of g d) ≡ old → IsHurtBy g old (after_tampering g old flipped d) d flipped
hurts_none g old d flipped high same =
    subst (λ (s : PlainState). IsHurtBy g old (record s { named = with_flag old.named d }) d flipped) (sym same)
    (record {
      others = refl;
      hurt_count = refl;
      spoiled_count = refl;
      unhurt = λ a within whole. (whole, λ same. omega (arith, within, high, same), λ same. omega (arith, within, high, same));
      spoiled = λ a within broken. inl (λ same. omega (arith, within, high, same), broken);
    })

hurts_tags : (g : Shape) (old : PlainState) (d : ℕ) (flipped : Bool) → HasFlags g old → data_lines g ≤ d → d < meta_line g 0
    → IsHurtBy g old (after_tampering g old flipped d) d flipped
hurts_tags g old d flipped flags low high =
    subst (λ content. IsHurtBy g old (record (after_hurting old flipped content) { named = with_flag old.named d }) d flipped)
    (sym (content_of-tags g d low high))
    (record {
      others = refl;
      hurt_count = length-four old.hurt (4 * (d - data_lines g));
      spoiled_count = refl;
      unhurt =
          λ a within whole.
          let others = four_other old.hurt (4 * (d - data_lines g)) a (omega (arith, flags.hurt, low, high)) whole in (
            others.0,
            λ same. omega (arith, within, low, same),
            λ same. omega (arith, within, low, same, others.1, others.2, others.3, others.4),
          );
      spoiled = λ a within broken. inl (λ same. omega (arith, within, low, same), broken);
    })

hurts_data : (g : Shape) (old : PlainState) (d : ℕ) (flipped : Bool) → HasFlags g old → d < data_lines g
    → IsHurtBy g old (after_tampering g old flipped d) d flipped
hurts_data g old d flipped flags small =
    subst (λ content. IsHurtBy g old (record (after_hurting old flipped content) { named = with_flag old.named d }) d flipped)
    (sym (content_of-data g d small))
    (record {
      others = refl;
      hurt_count = length-set old.hurt d true;
      spoiled_count = length-set old.spoiled d (flipped && old.power && not (is_flagged old.hurt d));
      unhurt =
          λ a within whole. (
            flag_unset old.hurt d a whole,
            flag_other old.hurt d a (omega (arith, small, flags.hurt)) whole,
            λ same. omega (arith, small, same),
          );
      spoiled =
          λ a within broken.
          elim (cases_eq a d) [
            | inl same ↦
                let here : (flipped && old.power && not (is_flagged old.hurt d)) ≡ true =
                sym (get_or-set_same old.spoiled d (flipped && old.power && not (is_flagged old.hurt d)) false (omega (arith, small, flags.spoiled)))
                ∙ ap (is_flagged (slice_set old.spoiled d (flipped && old.power && not (is_flagged old.hurt d)))) (sym same) ∙ broken in
                let two = and_parts (flipped && old.power) (not (is_flagged old.hurt d)) here in
                let one = and_parts flipped old.power two.0 in
                inr (same, one.0, one.1, ap (is_flagged old.hurt) same ∙ not-true (is_flagged old.hurt d) two.1)
            | inr apart ↦
                inl (apart, sym (get_or-set_other old.spoiled d a (flipped && old.power && not (is_flagged old.hurt d)) false apart) ∙ broken)
          ];
    })

-- what any tampering does
pub hurts : (g : Shape) (old : PlainState) (d : ℕ) (flipped : Bool) → HasFlags g old → d < device_lines g
    → IsHurtBy g old (after_tampering g old flipped d) d flipped
hurts g old d flipped flags on_device =
    elim (cases_lt d (data_lines g)) [
      | inl small ↦ hurts_data g old d flipped flags small
      | inr low ↦
          elim (cases_lt d (meta_line g 0)) [
            | inl tags ↦ hurts_tags g old d flipped flags low tags
            | inr high ↦
                elim (cases_lt d (shadow_line g 0)) [
                  | inl meta ↦ hurts_none g old d flipped high (ap (after_hurting old flipped) (content_of-meta g d high meta))
                  | inr behind ↦ hurts_none g old d flipped high (ap (after_hurting old flipped) (content_of-shadow g d behind on_device))
                ]
          ]
    ]

-- ---- the world

-- what surrounds a tampering with device line d
pub record IsTampering (setup : Setup) (old new : WorldState) (d : ℕ) (line : Line) (flipped : Bool) : Type 0 where
  pub world : IsWorld setup old
  pub on_device : d < device_lines setup.shape
  pub its_line : IsLine line
  pub other_line : flipped ≡ true → line ≢ line_at old.board.lines d
  pub shape : new.shape ≡ old.shape
  pub start : new.start ≡ old.start
  pub board : new.board ≡ with_line_at old.board d line
  pub ledger : new.ledger ≡ old.ledger
  pub engine : new.engine ≡ old.engine
  pub state : new.state ≡ after_tampering setup.shape old.state flipped d

-- the world after it
abbrev tampered : WorldState → ℕ → Line → PlainState → WorldState
tampered old d line state = record old { board = with_line_at old.board d line; state = state }

module _ (setup : Setup) (old : WorldState) (d : ℕ) (line : Line) (flipped : Bool) (state : PlainState)
    (world : IsWorld setup old) (on_device : d < device_lines setup.shape) (its_line : IsLine line)
    (other_line : flipped ≡ true → line ≢ line_at old.board.lines d)
    (hurt : IsHurtBy setup.shape old.state state d flipped) where
  abbrev new : WorldState
  new = tampered old d line state

  alike : IsAlikeBut d (lines_in new) (lines_in old)
  alike = alike_redone d old.board.regs.group.items (slice_set old.board.lines d line) old.board.lines (tampered_alike d line old.board.lines)

  named_within : d < length old.state.named
  named_within = omega (arith, on_device, world.flags.named)

  unnamed : (m : ℕ) → is_flagged state.named m ≡ false → (is_flagged old.state.named m ≡ false) × (m ≢ d)
  unnamed m none =
      let none : is_flagged (with_flag old.state.named d) m ≡ false = ap (λ flags. is_flagged flags m) (sym (ap (λ (s : PlainState). s.named) hurt.others)) ∙ none in
      (flag_unset old.state.named d m none, flag_other old.state.named d m named_within none)

  some_named : has_flags state.named ≡ true
  some_named =
      ap has_flags (ap (λ (s : PlainState). s.named) hurt.others)
      ∙ list_any_at (λ flag. flag) (with_flag old.state.named d) d false (omega (arith, named_within, length-set old.state.named d true))
      (flag_set old.state.named d named_within)

  stored_still : (a : ℕ) → a ≢ d → tag_line setup.shape a ≢ d → IsSealStored setup.shape (lines_in old) old.ledger.marks a
      → IsSealStored setup.shape (lines_in new) old.ledger.marks a
  stored_still a apart tags stored =
      record {
        cipher = stored.cipher ∙ ap (λ line. Some line) (sym (alike.elsewhere a apart));
        tag = stored.tag ∙ ap (λ line. Some (tag_slot line a)) (sym (alike.elsewhere (tag_line setup.shape a) tags));
      }

  -- a bit turned under power is in a line whose last seal was stored
  flipped_other : IsPowered setup old old.engine → d < data_lines setup.shape → flipped ≡ true → old.state.power ≡ true
      → is_flagged old.state.hurt d ≡ false → IsOtherCipher old.ledger.marks d (line_at (lines_in new) d)
  flipped_other chip small flip power whole = by_power old.engine chip
    where
      by_seal : old.board.regs.group.items ≡ [] → (seal : Option SealOf) → last_seal old.ledger.marks d ≡ seal
          → IfSome seal (λ s. line_at (lines_in new) d ≢ s.cipher)
      by_seal none None there = tt
      by_seal none (Some seal) there =
          λ same.
          other_line flip
          (sym (get_or-set_same old.board.lines d line zero_line (omega (arith, on_device, world.whole_lines.count)))
          ∙ ap (λ group. line_at (redone group (slice_set old.board.lines d line)) d) (sym none)
          ∙ same
          ∙ same_Some seal.cipher (line_at (lines_in old) d)
          (ap (option_map (λ s. s.cipher)) (sym there) ∙ (world.kept.seals d small whole).cipher)
          ∙ ap (λ lines. line_at lines d) (lines_unarmed old none))

      by_power : (engine : Option EngineState) → IsPowered setup old engine → IsOtherCipher old.ledger.marks d (line_at (lines_in new) d)
      by_power None off = absurd (true≢false (sym power ∙ off.unpowered))
      by_power (Some engine) on = by_seal on.trusted.no_group (last_seal old.ledger.marks d) refl

  kept : AreKept setup state (lines_in new) old.board.regs.loss old.ledger
  kept =
      record {
        seals =
            λ a within whole.
            let was = hurt.unhurt a within whole in
            stored_still a was.1 was.2 (world.kept.seals a within was.0);
        spoiled =
            λ a within broken.
            elim (hurt.spoiled a within broken) [
              | inl was ↦
                  subst (IsOtherCipher old.ledger.marks a) (sym (alike.elsewhere a was.0)) (world.kept.spoiled a within was.1)
              | inr flip ↦
                  subst (λ z. IsOtherCipher old.ledger.marks z (line_at (lines_in new) z)) (sym flip.0)
                  (flipped_other world.chip (subst (λ z. z < data_lines setup.shape) flip.0 within) flip.1 flip.2
                  (subst (λ z. is_flagged old.state.hurt z ≡ false) flip.0 flip.3))
            ];
        counters =
            λ tight page within none.
            let was = unnamed (meta_line setup.shape (counter_position setup.shape page)) none in
            subst (λ (line : Line). IsStoredBlock (counter_window setup.shape old.board.regs.loss) (unpacked line) (true_block setup.shape old.ledger.truth page))
            (sym (alike.elsewhere (meta_line setup.shape (counter_position setup.shape page)) was.1))
            (world.kept.counters (sym (ap (λ (s : PlainState). s.loose) hurt.others) ∙ tight) page within was.0);
        strict =
            λ x within at_once none.
            let was = unnamed (meta_line setup.shape x) none in
            alike.elsewhere (meta_line setup.shape x) was.1 ∙ world.kept.strict x within at_once was.0;
      }

  chip : (engine : Option EngineState) → IsPowered setup old engine → IsPowered setup new engine
  chip None off =
      record {
        unpowered = (ap (λ (s : PlainState). s.power) hurt.others) ∙ off.unpowered;
        anchored = off.anchored;
        durable = λ honest. absurd (true≢false (sym some_named ∙ honest));
      }
  chip (Some engine) on =
      record {
        powered = (ap (λ (s : PlainState). s.power) hurt.others) ∙ on.powered;
        up = on.up;
        trusted = on.trusted;
        sound = λ honest. absurd (true≢false (sym some_named ∙ honest));
        whole_cache = on.whole_cache;
        metadata =
            λ tight x within none.
            let was = unnamed (meta_line setup.shape x) none in
            elim (on.metadata (sym (ap (λ (s : PlainState). s.loose) hurt.others) ∙ tight) x within was.0) [
              | inl stored ↦ inl (alike.elsewhere (meta_line setup.shape x) was.1 ∙ stored)
              | inr dirty ↦ inr dirty
            ];
        dirty =
            λ bank x now.
            subst₂ (λ touched flushed. IsTrue (can_be_dirty setup.shape (record (old.state) { touched = touched; flushed = flushed }) x))
            (sym (ap (λ (s : PlainState). s.touched) hurt.others)) (sym (ap (λ (s : PlainState). s.flushed) hurt.others)) (on.dirty bank x now);
      }

  tampered-world : IsWorld setup new
  tampered-world =
      record {
        its_shape = world.its_shape;
        whole_shape = world.whole_shape;
        whole_formulas = world.whole_formulas;
        whole_lines =
            record {
              count = length-set old.board.lines d line ∙ world.whole_lines.count;
              each = All-lines_set old.board.lines d line its_line world.whole_lines.each;
            };
        memory =
            record {
              count = ap length (ap (λ (s : PlainState). s.memory) hurt.others) ∙ world.memory.count;
              each = λ a within. world.memory.each a within ∙ ap (λ memory. Some (line_at memory a)) (sym (ap (λ (s : PlainState). s.memory) hurt.others));
            };
        chip = chip old.engine world.chip;
        kept = kept;
        flags =
            record {
              named = ap length (ap (λ (s : PlainState). s.named) hurt.others) ∙ length-set old.state.named d true ∙ world.flags.named;
              hurt = hurt.hurt_count ∙ world.flags.hurt;
              spoiled = hurt.spoiled_count ∙ world.flags.spoiled;
              touched = ap length (ap (λ (s : PlainState). s.touched) hurt.others) ∙ world.flags.touched;
              flushed = ap length (ap (λ (s : PlainState). s.flushed) hurt.others) ∙ world.flags.flushed;
            };
        queues =
            record {
              ports = subst ArePorts (sym (ap (λ (s : PlainState). s.queues) hurt.others)) world.queues.ports;
              on_memory =
                  subst (λ queues. All (λ queue. All (λ write. write.at < data_lines setup.shape) queue) queues) (sym (ap (λ (s : PlainState). s.queues) hurt.others))
                  world.queues.on_memory;
            };
        board =
            record {
              power = world.board.power ∙ sym (ap (λ (s : PlainState). s.power) hurt.others);
              fuse = world.board.fuse ∙ sym (ap (λ (s : PlainState). s.fuse) hurt.others);
              snapped = world.board.snapped ∙ sym (ap (λ (s : PlainState). s.snapped) hurt.others);
              loss = world.board.loss ∙ sym (ap (λ (s : PlainState). s.loss) hurt.others);
              few_armed = world.board.few_armed;
            };
        steps =
            record {
              in_range = omega (arith, world.steps.in_range, (ap (λ (s : PlainState). s.steps) hurt.others));
              reads = world.steps.reads;
              writes = world.steps.writes;
              latches = world.steps.latches;
              sum =
                  λ exact low.
                  let was = world.steps.sum (record { writes = exact.writes; latches = exact.latches }) (omega (arith, low, (ap (λ (s : PlainState). s.steps) hurt.others))) in
                  omega (arith, was, (ap (λ (s : PlainState). s.steps) hurt.others));
            };
      }

-- the world after a tampering
pub world-tampered : (setup : Setup) (old new : WorldState) (d : ℕ) (line : Line) (flipped : Bool)
    → IsTampering setup old new d line flipped → IsWorld setup new
world-tampered setup old new d line flipped it =
    let hurt =
    subst (λ s. IsHurtBy setup.shape old.state s d flipped) (sym it.state)
    (hurts setup.shape old.state d flipped it.world.flags it.on_device) in
    same_world setup (tampered old d line new.state) new
    (record {
      shape = it.shape;
      start = it.start;
      board = it.board;
      ledger = it.ledger;
      engine = it.engine;
      state = refl;
    })
    (tampered-world setup old d line flipped new.state it.world it.on_device it.its_line it.other_line hurt)
