-- What a look at a device line shows, and the counts.
use Rattle.std.proofs.Common.{ℕ, suc, ◌≡◌, ◌<◌, ◌≤◌, ◌+◌, ◌-◌, ◌*◌, ◌%◌, ◌++◌, ◌⊎◌, inl, inr, Bool, true, false, List, length, drop, Option, Some, None, IsTrue, refl, sym, ap, ap₂, subst, lt_irrefl, ◌∙◌, arith}
use Rattle.std.specs.Prelude.{MatchBool, option_map, slice_range, nat_le, not, ◌&&◌, ◌||◌, ⊤}
use Rattle.std.specs.List.{list_any, range_with_len}
use Rattle.std.proofs.lemmas.Option.{same_Some, none-some}
use Rattle.std.proofs.lemmas.Bool.{true≢false, cases_lt, le-leb, lt-leb, and_parts, or_parts}
use Rattle.std.proofs.lemmas.List.{append-nil, append_assoc, drop_all, get_or_past}
use Rattle.std.proofs.lemmas.List.Folds.{Any-from_list_any, list_any_at, drop_split}
use Rattle.pmem_base.specs.declared.lines.Line.{Line}
use Rattle.pmem_base.specs.declared.lines.Ctr.{Ctr}
use Rattle.pmem_base.specs.declared.commands.Command.TheVariants as Do
use Rattle.pmem_base.specs.declared.answers.Answer.TheVariants as Say
use Rattle.pmem_base.specs.declared.answers.Stat.{Stat}
use Rattle.pmem_base.specs.Counts.{last_count}
use Rattle.pmem_base.specs.Shape.{Shape, is_lazy, counter_window}
use Rattle.pmem_base.specs.Layout.{Content, data_line, tags_from, metadata, shadow, nothing, content_of, data_lines, tag_line, meta_line, shadow_line, device_lines, pages, meta_lines, level_start}
use Rattle.pmem_base.specs.Lines.{IsLine, line_at, line_of, tag_slot}
use Rattle.pmem_base.specs.Marks.{SealOf, last_seal}
use Rattle.pmem_base.proofs.OneToOne.{content_of-data, content_of-tags, content_of-meta, content_of-shadow}
use Rattle.pmem_base.proofs.LineLemmas.{IsLine-line_at}
use Rattle.board.specs.Memory.{BoardMemory}
use Rattle.bonsai_tree.specs.Positions.{counter_position, level_of, is_on_path}
use Rattle.bonsai_tree.proofs.Levels.{level_start-suc, level_start-pow}
use Rattle.split_counters.specs.Blocks.{packed, unpacked, IsStoredBlock}
use Rattle.split_counters.proofs.Packing.{packed-unpacked}
use Rattle.seal_ledger.proofs.MarkLemmas.{last_seal_has}
use Rattle.suite.specs.Formulas.{cipher_of}
use Rattle.suite.specs.Setup.{Setup}
use Rattle.plain_model.specs.State.{is_flagged, has_flags}
use Rattle.plain_model.specs.View.{counter_at}
use Rattle.plain_model.proofs.Views.{counter_at-last}
use Rattle.plain_model.specs.Fits.{sealed_line, sealed_tag, sealed_tags, is_any_hurt, ShowsCounterBlock, ShowsMetaLine, ShowsContent}
use Rattle.plain_model.specs.Bounds.{can_be_dirty}
use Rattle.pmem_engine.specs.Truth.{true_block}
use Rattle.pmem_engine.specs.Engine.{EngineState}
use Rattle.pmem_engine.specs.Invariants.{IsSealStored, IsSealTagged}
use Rattle.pmem_engine.proofs.Laws.TrueLines.{view-block}
use Rattle.pmem_replay.specs.World.{WorldState, AreExact, IsOn, IsWorld, IsPowered, view_in, lines_in}
use Rattle.pmem_replay.proofs.Marks.SealedLines.{last_cipher}
use Rattle.pmem_replay.proofs.Steps.FaultCauses.{lines_unarmed, zero_within, counter_position-within}
use Rattle.pmem_replay.proofs.Marks.AfterMarks.{is_touched_block}
use Rattle.pmem_replay.specs.Stepped.{IsStatOf}
use Rattle.pmem_replay.specs.Replies.{without_marks}
use Rattle.pmem_replay.proofs.Steps.GoodReplies.{IsGood, good}

-- ---- a line in four slots

-- the slots of a whole line are the line
four_slots : (line : Line) → IsLine line
    → line ≡ line_of (slice_range line.0 0 16 ++ slice_range line.0 16 32 ++ slice_range line.0 32 48 ++ slice_range line.0 48 64)
four_slots line whole =
    let a = slice_range line.0 0 16 in
    let b = slice_range line.0 16 32 in
    let c = slice_range line.0 32 48 in
    let d = slice_range line.0 48 64 in
    let last : drop 48 line.0 ≡ d =
    drop_split line.0 48 64 (omega arith) ∙ ap (λ rest. d ++ rest) (drop_all 64 line.0 (omega (arith, whole.long))) ∙ append-nil d in
    let third : drop 32 line.0 ≡ c ++ d = drop_split line.0 32 48 (omega arith) ∙ ap (λ rest. c ++ rest) last in
    let second : drop 16 line.0 ≡ b ++ (c ++ d) = drop_split line.0 16 32 (omega arith) ∙ ap (λ rest. b ++ rest) third in
    let first : line.0 ≡ a ++ (b ++ (c ++ d)) = drop_split line.0 0 16 (omega arith) ∙ ap (λ rest. a ++ rest) second in
    ap line_of (first ∙ sym (append_assoc a b (c ++ d)) ∙ sym (append_assoc (a ++ b) c d))

-- a counter block's page
block_page : (g : Shape) (x : ℕ) → x < meta_lines g → counter_position g 0 ≤ x → x - counter_position g 0 < pages g
block_page g x within block =
    let all : level_start (suc g.levels) ≡ meta_lines g = ap level_start {x = suc g.levels} {y = g.levels + 1} (omega arith) in
    omega (arith, within, block, all, level_start-suc g.levels, level_start-pow g.levels)

-- ---- what the world shows

module _ (setup : Setup) (world : WorldState) (whole : IsWorld setup world) (engine : EngineState) (on : IsOn setup world engine) where
  lines_now : lines_in world ≡ world.board.lines
  lines_now = lines_unarmed world on.trusted.no_group

  -- a line that isn't hurt has memory's line, sealed, and its tag
  record IsShownSealed (a : ℕ) : Type 0 where
    cipher : line_at world.board.lines a ≡ sealed_line setup.formulas world.state.memory (view_in setup world) a
    tag : tag_slot (line_at world.board.lines (tag_line setup.shape a)) a ≡ sealed_tag setup.formulas world.state.memory (view_in setup world) a

  shown_sealed : (a : ℕ) → a < data_lines setup.shape → is_flagged world.state.hurt a ≡ false → IsShownSealed a
  shown_sealed a within unhurt = by_seal (last_seal world.ledger.marks a) refl
    where
      stored : IsSealStored setup.shape (lines_in world) world.ledger.marks a
      stored = whole.kept.seals a within unhurt

      by_seal : (seal : Option SealOf) → last_seal world.ledger.marks a ≡ seal → IsShownSealed a
      by_seal None none =
          absurd (none-some (line_at (lines_in world) a) (ap (option_map (λ s. s.cipher)) (sym none) ∙ stored.cipher))
      by_seal (Some seal) there =
          let ctr : counter_at (view_in setup world) a ≡ seal.ctr =
          counter_at-last setup.shape world.ledger.marks a seal.ctr within (ap (option_map (λ s. s.ctr)) there) in
          let cipher : seal.cipher ≡ sealed_line setup.formulas world.state.memory (view_in setup world) a =
          last_cipher setup world.board.regs world.ledger world.state.memory a seal whole.whole_formulas on.trusted.anchored whole.memory within there
          ∙ ap (λ (c : Ctr). cipher_of setup.formulas a c (line_at world.state.memory a)) (sym ctr) in
          let tag : seal.tag ≡ sealed_tag setup.formulas world.state.memory (view_in setup world) a =
          sym (last_seal_has (IsSealTagged setup.formulas) world.ledger.marks a seal on.trusted.anchored.seals_tagged there)
          ∙ ap₂ (λ c l. setup.formulas.tag_of a c l) (sym ctr) cipher in
          record {
            cipher =
                ap (λ lines. line_at lines a) (sym lines_now)
                ∙ sym (same_Some seal.cipher (line_at (lines_in world) a) (ap (option_map (λ s. s.cipher)) (sym there) ∙ stored.cipher))
                ∙ cipher;
            tag =
                ap (λ lines. tag_slot (line_at lines (tag_line setup.shape a)) a) (sym lines_now)
                ∙ sym (same_Some seal.tag (tag_slot (line_at (lines_in world) (tag_line setup.shape a)) a)
                (ap (option_map (λ s. s.tag)) (sym there) ∙ stored.tag))
                ∙ tag;
          }

  -- the four tags of a tag line
  shown_tags : (d : ℕ) → data_lines setup.shape ≤ d → d < meta_line setup.shape 0
      → is_any_hurt world.state (4 * (d - data_lines setup.shape)) ≡ false
      → line_at world.board.lines d ≡ sealed_tags setup.formulas world.state.memory (view_in setup world) (4 * (d - data_lines setup.shape))
  shown_tags d low high unhurt =
      four_slots (line_at world.board.lines d) (IsLine-line_at world.board.lines d whole.whole_lines.each)
      ∙ ap line_of
      (ap₂ (λ (x y : List ℕ). x ++ y)
      (ap₂ (λ (x y : List ℕ). x ++ y)
      (ap₂ (λ (x y : List ℕ). x ++ y) (slot 0 a (omega arith) (omega arith) (omega arith) parts.0) (slot 1 (a + 1) (omega arith) (omega arith) (omega arith) second.0))
      (slot 2 (a + 2) (omega arith) (omega arith) (omega arith) (ap (is_flagged world.state.hurt) {x = a + 2} {y = a + 1 + 1} (omega arith) ∙ third.0)))
      (slot 3 (a + 3) (omega arith) (omega arith) (omega arith) (ap (is_flagged world.state.hurt) {x = a + 3} {y = a + 1 + 1 + 1} (omega arith) ∙ fourth.0)))
    where
      a : ℕ
      a = 4 * (d - data_lines setup.shape)

      hurt : ℕ → Bool
      hurt = is_flagged world.state.hurt

      parts : (hurt a ≡ false) × ((hurt (a + 1) || (hurt (a + 1 + 1) || (hurt (a + 1 + 1 + 1) || false))) ≡ false)
      parts = or_parts (hurt a) (hurt (a + 1) || (hurt (a + 1 + 1) || (hurt (a + 1 + 1 + 1) || false))) unhurt

      second : (hurt (a + 1) ≡ false) × ((hurt (a + 1 + 1) || (hurt (a + 1 + 1 + 1) || false)) ≡ false)
      second = or_parts (hurt (a + 1)) (hurt (a + 1 + 1) || (hurt (a + 1 + 1 + 1) || false)) parts.1

      third : (hurt (a + 1 + 1) ≡ false) × ((hurt (a + 1 + 1 + 1) || false) ≡ false)
      third = or_parts (hurt (a + 1 + 1)) (hurt (a + 1 + 1 + 1) || false) second.1

      fourth : (hurt (a + 1 + 1 + 1) ≡ false) × (false ≡ false)
      fourth = or_parts (hurt (a + 1 + 1 + 1)) false third.1

      slot : (i b : ℕ) → i < 4 → b ≡ a + i → b < data_lines setup.shape → hurt b ≡ false
          → slice_range (line_at world.board.lines d).0 (16 * i) (16 * i + 16) ≡ sealed_tag setup.formulas world.state.memory (view_in setup world) b
      slot i b small is within whole_line =
          let place : b % 4 ≡ i = omega (arith, small, is) in
          let line : tag_line setup.shape b ≡ d = omega (arith, small, is, low) in
          ap₂ (λ n k. slice_range (line_at world.board.lines n).0 (16 * k) (16 * k + 16)) (sym line) (sym place)
          ∙ (shown_sealed b within whole_line).tag

  -- a counter block's line
  shown_block : (page : ℕ) → page < pages setup.shape
      → ShowsCounterBlock setup.shape world.state (view_in setup world) page (line_at world.board.lines (meta_line setup.shape (counter_position setup.shape page)))
  shown_block page within = λ power tight unnamed. (
    subst (λ block. IsStoredBlock (counter_window setup.shape world.state.loss) (unpacked (line_at world.board.lines (meta_line setup.shape (counter_position setup.shape page)))) block)
        (sym (view-block setup world.board.regs world.ledger on.trusted.anchored page within))
        (subst (λ loss. IsStoredBlock (counter_window setup.shape loss) (unpacked (line_at world.board.lines (meta_line setup.shape (counter_position setup.shape page)))) (true_block setup.shape world.ledger.truth page))
        whole.board.loss
        (subst (λ lines. IsStoredBlock (counter_window setup.shape world.board.regs.loss) (unpacked (line_at lines (meta_line setup.shape (counter_position setup.shape page)))) (true_block setup.shape world.ledger.truth page))
        lines_now (whole.kept.counters tight page within unnamed))),
    λ untouched.
        elim (on.metadata tight (counter_position setup.shape page) (counter_position-within setup.shape page within) unnamed) [
          | inl stored ↦
              ap (λ lines. line_at lines (meta_line setup.shape (counter_position setup.shape page))) (sym lines_now)
              ∙ stored
              ∙ sym (packed-unpacked (line_at world.ledger.truth (counter_position setup.shape page))
              (IsLine-line_at world.ledger.truth (counter_position setup.shape page) on.trusted.anchored.of_shape.truth_lines))
              ∙ ap packed (sym (view-block setup world.board.regs world.ledger on.trusted.anchored page within))
          | inr dirty ↦
              absurd (some_touched (counter_position setup.shape page) (on.dirty (level_of (counter_position setup.shape page)) (counter_position setup.shape page) dirty) untouched)
        ],
  )
    where
      some_touched : (x : ℕ) → IsTrue (can_be_dirty setup.shape world.state x) → has_flags world.state.touched ≡ false → ⊥
      some_touched x may untouched =
          let block = (and_parts (is_touched_block setup.shape world.state.touched x) (not (is_flagged world.state.flushed x)) may).0 in
          let touched =
          (and_parts (is_lazy setup.shape (level_of x))
          (list_any (λ page. is_flagged world.state.touched page && is_on_path setup.shape page x) (range_with_len 0 (pages setup.shape))) block).1 in
          let found = Any-from_list_any (λ page. is_flagged world.state.touched page && is_on_path setup.shape page x) (range_with_len 0 (pages setup.shape)) touched in
          let flag = (and_parts (is_flagged world.state.touched found.1) (is_on_path setup.shape found.1 x) found.4).0 in
          let inside : found.1 < length world.state.touched =
          elim (cases_lt found.1 (length world.state.touched)) [
            | inl small ↦ small
            | inr past ↦ absurd (true≢false (sym flag ∙ get_or_past world.state.touched found.1 false past))
          ] in
          true≢false (sym (list_any_at (λ flag. flag) world.state.touched found.1 false inside flag) ∙ untouched)

  -- a metadata line
  shown_meta : (x : ℕ) → x < meta_lines setup.shape
      → ShowsMetaLine setup.shape world.state (view_in setup world) x (line_at world.board.lines (meta_line setup.shape x))
  shown_meta x within =
      elim (cases_lt x (counter_position setup.shape 0)) [
        | inl node ↦
            subst (λ b. MatchBool b (ShowsCounterBlock setup.shape world.state (view_in setup world) (x - counter_position setup.shape 0) (line_at world.board.lines (meta_line setup.shape x))) ⊤)
            (sym (lt-leb (counter_position setup.shape 0) x node)) tt
        | inr block ↦
            let page = x - counter_position setup.shape 0 in
            let back : counter_position setup.shape page ≡ x = omega (arith, block) in
            subst (λ b. MatchBool b (ShowsCounterBlock setup.shape world.state (view_in setup world) page (line_at world.board.lines (meta_line setup.shape x))) ⊤)
            (sym (le-leb (counter_position setup.shape 0) x block))
            (subst (λ z. ShowsCounterBlock setup.shape world.state (view_in setup world) page (line_at world.board.lines (meta_line setup.shape z))) back
            (shown_block page (block_page setup.shape x within block)))
      ]

  -- any device line
  pub shown_content : (d : ℕ) → d < device_lines setup.shape
      → ShowsContent setup world.state (view_in setup world) (content_of setup.shape d) (line_at world.board.lines d)
  shown_content d on_device =
      elim (cases_lt d (data_lines setup.shape)) [
        | inl small ↦
            subst (λ content. ShowsContent setup world.state (view_in setup world) content (line_at world.board.lines d)) (sym (content_of-data setup.shape d small))
            (λ power unhurt. (shown_sealed d small unhurt).cipher)
        | inr low ↦
            elim (cases_lt d (meta_line setup.shape 0)) [
              | inl tags ↦
                  subst (λ content. ShowsContent setup world.state (view_in setup world) content (line_at world.board.lines d)) (sym (content_of-tags setup.shape d low tags))
                  (λ power unhurt. shown_tags d low tags unhurt)
              | inr high ↦
                  elim (cases_lt d (shadow_line setup.shape 0)) [
                    | inl meta ↦
                        let back : meta_line setup.shape (d - meta_line setup.shape 0) ≡ d = omega (arith, high) in
                        subst (λ content. ShowsContent setup world.state (view_in setup world) content (line_at world.board.lines d)) (sym (content_of-meta setup.shape d high meta))
                        (subst (λ z. ShowsMetaLine setup.shape world.state (view_in setup world) (d - meta_line setup.shape 0) (line_at world.board.lines z)) back
                        (shown_meta (d - meta_line setup.shape 0) (omega (arith, high, meta))))
                    | inr behind ↦
                        subst (λ content. ShowsContent setup world.state (view_in setup world) content (line_at world.board.lines d))
                        (sym (content_of-shadow setup.shape d behind on_device)) tt
                  ]
            ]
      ]

-- with power off nothing is said
shown_dark : (setup : Setup) (world : WorldState) (content : Content) (line : Line) → world.state.power ≡ false
    → ShowsContent setup world.state (view_in setup world) content line
shown_dark setup world (data_line a) line dark = λ power. absurd (true≢false (sym power ∙ dark))
shown_dark setup world (tags_from a) line dark = λ power. absurd (true≢false (sym power ∙ dark))
shown_dark setup world (metadata x) line dark = by_level (nat_le (counter_position setup.shape 0) x)
  where
    by_level : (b : Bool)
        → MatchBool b (ShowsCounterBlock setup.shape world.state (view_in setup world) (x - counter_position setup.shape 0) line) ⊤
    by_level true = λ power. absurd (true≢false (sym power ∙ dark))
    by_level false = tt
shown_dark setup world (shadow n) line dark = tt
shown_dark setup world nothing line dark = tt

pub peek-good : (setup : Setup) (world : WorldState) (d : ℕ) → IsWorld setup world → d < device_lines setup.shape
    → IsGood setup world (Do.Peek d) (without_marks (Say.Raw (line_at world.board.lines d)))
peek-good setup world d whole on_device =
    good refl (zero_within world.state.fuse) refl tt tt refl (by_power world.engine whole.chip) tt tt tt
  where
    by_power : (engine : Option EngineState) → IsPowered setup world engine
        → ShowsContent setup world.state (view_in setup world) (content_of setup.shape d) (line_at world.board.lines d)
    by_power None off = shown_dark setup world (content_of setup.shape d) (line_at world.board.lines d) off.unpowered
    by_power (Some engine) on = shown_content setup world whole engine on d on_device

-- ---- the counts

pub stat-good : (setup : Setup) (world : WorldState) (counts : Stat) → IsWorld setup world → IsStatOf world counts
    → IsGood setup world Do.Stat (without_marks (Say.Counts counts))
stat-good setup world counts whole told =
    good refl (zero_within world.state.fuse) refl tt tt refl tt
    (by_counts (cases_lt world.board.writes last_count) (cases_lt world.board.latches last_count)) tt tt
  where
    all_steps : (AreExact world.board → ⊥) → counts.writes + counts.latches ≡ world.state.steps
    all_steps ended =
        let all = told.all_steps ended in
        let writes : counts.writes ≡ world.state.steps = all.0 in
        let latches : counts.latches ≡ 0 = all.1 in
        omega (arith, writes, latches)

    by_counts : (world.board.writes < last_count) ⊎ (last_count ≤ world.board.writes)
        → (world.board.latches < last_count) ⊎ (last_count ≤ world.board.latches)
        → world.state.steps < last_count → counts.writes + counts.latches ≡ world.state.steps
    by_counts (inl writes_low) (inl latches_low) low =
        let exact : AreExact world.board = record { writes = writes_low; latches = latches_low } in
        let sum = whole.steps.sum exact low in
        let writes = told.writes exact in
        let latches = told.latches exact in
        omega (arith, sum, writes, latches, whole.steps.writes, whole.steps.latches)
    by_counts (inr ended) latches low = all_steps (λ exact. absurd (lt_irrefl world.board.writes (omega (arith, ended, exact.writes))))
    by_counts (inl writes) (inr ended) low = all_steps (λ exact. absurd (lt_irrefl world.board.latches (omega (arith, ended, exact.latches))))

-- where a count stands at its end, what is answered for such a count is answered
pub all_told : (board : BoardMemory) (now : Stat) (steps : ℕ) (told : ℕ × ℕ) → now.writes ≡ board.writes → now.latches ≡ board.latches
    → (last_count ≤ now.writes → told ≡ (steps, 0)) → (last_count ≤ now.latches → told ≡ (steps, 0))
    → (AreExact board → ⊥) → (told.0 ≡ steps) × (told.1 ≡ 0)
all_told board now steps told writes latches of_writes of_latches ended =
    by_counts (cases_lt board.writes last_count) (cases_lt board.latches last_count)
  where
    parts : told ≡ (steps, 0) → (told.0 ≡ steps) × (told.1 ≡ 0)
    parts is = (ap (λ (t : ℕ × ℕ). t.0) is, ap (λ (t : ℕ × ℕ). t.1) is)

    by_counts : (board.writes < last_count) ⊎ (last_count ≤ board.writes) → (board.latches < last_count) ⊎ (last_count ≤ board.latches)
        → (told.0 ≡ steps) × (told.1 ≡ 0)
    by_counts (inl writes_low) (inl latches_low) = absurd (ended (record { writes = writes_low; latches = latches_low }))
    by_counts (inr high) any = parts (of_writes (omega (arith, high, writes)))
    by_counts (inl low) (inr high) = parts (of_latches (omega (arith, high, latches)))
