-- What formatting leaves, from its steps.
use Rattle.std.proofs.Common.{rules, ℕ, ◌≡◌, ◌<◌, ◌*◌, true, List, [], length, map, All, Ok, Some, ap, sym, subst, ◌∙◌, inl, arith}
use Rattle.std.specs.Prelude.{is_some, option_map, IsNone, IsTrue}
use Rattle.std.specs.List.{range_with_len}
use Rattle.std.proofs.lemmas.List.{ext_get_or, length-map}
use Rattle.std.proofs.lemmas.List.FromFn.{length-range_with_len}
use Rattle.std.proofs.lemmas.List.Elements.{All-nil}
use Rattle.pmem_base.specs.declared.lines.Line.{Line}
use Rattle.pmem_base.specs.declared.registers.Regs.{Regs}
use Rattle.pmem_base.specs.Shape.{IsShape, is_loss, counter_window}
use Rattle.pmem_base.specs.Layout as layout
use Rattle.pmem_base.specs.Lines.{IsLine, line_at, tag_slot, zero_line}
use Rattle.pmem_base.specs.Marks.{SealOf, last_seal}
use Rattle.pmem_base.specs.Registers.{IsGroup}
use Rattle.pmem_base.proofs.LineLemmas.{IsLine-zero_line}
use Rattle.call_effects.proofs.ToldLines.{whole_lines}
use Rattle.board.proofs.CountLemmas.{RisesBy-once}
use Rattle.board.specs.Device.{Device, AreLinesOf, AreToldLines}
use Rattle.board.specs.Counts.{RisesBy}
use Rattle.board.specs.Steps.{HasLatched}
use Rattle.suite.specs.Formulas.{AreInRange}
use Rattle.suite.specs.Setup.{Setup}
use Rattle.suite.proofs.CipherLemmas.{cipher_of-back}
use Rattle.split_counters.specs.Blocks.{IsStoredBlock, packed, unpacked}
use Rattle.split_counters.proofs.StoredBlocks.{IsStoredBlock-same}
use Rattle.bonsai_tree.specs.Positions.{counter_position}
use Rattle.bonsai_tree.specs.Nodes.{IsHashTree}
use Rattle.bonsai_tree.proofs.Levels.{counter_position-lt}
use Rattle.seal_ledger.specs.Ledger.{LedgerState}
use Rattle.plain_model.specs.View.{plain_of_seal}
use Rattle.pmem_engine.specs.Engine.{EngineState, on_chip}
use Rattle.pmem_engine.specs.Truth.{true_block}
use Rattle.pmem_engine.specs.Mendable.{IsShadowZero, new_engine}
use Rattle.pmem_engine.specs.Formatted.{first_seal, first_block, IsFormatted}
use Rattle.pmem_engine.specs.Invariants.{IsAnchored, IsTrusted, IsMendable, IsSound, stored_meta}
use Rattle.pmem_engine.proofs.Laws.AnchoredFormats.{anchored-formatted, last_first}
use Rattle.pmem_engine.proofs.Laws.MendableLaws.{IsSound-new_engine}
use Rattle.call_effects.specs.Steady.{StaysSteady}
use Rattle.pmem_recovery.specs.Formatting.{first_counter, first_cipher, first_tag, first_regs, IsFirstSealed, HasSealedFrom, HasSealedAll, HasToldMeta, HasWrittenMeta, HasClearedTables, HasFormatted, seals_plan, metas_plan, zeros_plan}
use Rattle.call_plan.specs.Following.{Follows}
use Rattle.pmem_recovery.proofs.FormatPlans.{first_truth_is, format_so}
use Rattle.pmem_recovery.proofs.AnswerLaws.{IsTrusted-fresh, IsNewEngine-fresh}
use Rattle.call_effects.proofs.SteadyLaws.{StaysSteady-then}
use Rattle.pmem_recovery.proofs.WriteSteps.{told_earlier}

-- the true lines that formatting made
pub record IsFirstTruth (setup : Setup) (truth : List Line) : Type 0 where
  pub tree : IsHashTree setup.shape setup.formulas truth
  pub whole : All IsLine truth
  pub blocks :
      (page : ℕ) → page < layout.pages setup.shape
      → line_at truth (counter_position setup.shape page) ≡ packed (first_block setup.shape)

-- the ledger before, with all seals, and with the true lines
pub record HasNoted (setup : Setup) (truth : List Line) (old sealed new : LedgerState) : Type 0 where
  pub no_marks : old.marks ≡ []
  pub no_exhibit : IsNone old.exhibit
  pub data_lines : old.data_lines ≡ layout.data_lines setup.shape
  pub truth_count : length old.truth ≡ layout.meta_lines setup.shape
  pub seals : HasSealedFrom setup 0 (layout.data_lines setup.shape) old sealed
  pub told : HasToldMeta setup.shape truth (layout.meta_lines setup.shape) sealed new

-- the device before, with all seals, with the metadata lines, with zero shadow lines, and with its registers
pub record HasPut (setup : Setup) (truth : List Line) (old sealed filled cleared new : Device) : Type 0 where
  pub size : old.size ≡ layout.device_lines setup.shape
  pub steady : old.steady ≡ true
  pub steady_sealed : StaysSteady (80 * layout.pages setup.shape) old sealed
  pub seals : HasSealedAll setup (layout.data_lines setup.shape) sealed
  pub steady_filled : StaysSteady (layout.meta_lines setup.shape) sealed filled
  pub meta : HasWrittenMeta setup.shape truth (layout.meta_lines setup.shape) sealed filled
  pub steady_cleared : StaysSteady (layout.shadow_lines setup.shape) filled cleared
  pub tables : HasClearedTables setup.shape (layout.shadow_lines setup.shape) filled cleared
  pub latched : HasLatched cleared (first_regs setup (line_at truth 0)) new
  pub sealed_so : Follows (seals_plan setup) old sealed (Ok tt)
  pub filled_so : Follows (metas_plan setup.shape truth) sealed filled (Ok tt)
  pub cleared_so : Follows (zeros_plan setup.shape) filled cleared (Ok tt)
  pub whole_sealed : AreToldLines sealed.size sealed.lines
  pub whole_filled : AreToldLines filled.size filled.lines
  pub whole : AreToldLines new.size new.lines

-- ---- the ledger

noted_truth : (setup : Setup) (truth : List Line) (old sealed new : LedgerState) → IsFirstTruth setup truth → HasNoted setup truth old sealed new → new.truth ≡ truth
noted_truth setup truth old sealed new made l =
    let long : length new.truth ≡ layout.meta_lines setup.shape = l.told.count ∙ ap length l.seals.truth ∙ l.truth_count in
    ext_get_or zero_line new.truth truth (long ∙ sym made.tree.whole)
    (λ i inside. l.told.lines i (subst (λ n. i < n) long inside))

noted_marks : (setup : Setup) (truth : List Line) (old sealed new : LedgerState) → HasNoted setup truth old sealed new → new.marks ≡ map (first_seal setup) (range_with_len 0 (layout.data_lines setup.shape))
noted_marks setup truth old sealed new l = search rules

-- the seal of a line that was sealed once
abbrev the_seal : Setup → ℕ → SealOf
the_seal setup a =
    record { ctr = first_counter setup; cipher = first_cipher setup a; tag = first_tag setup a }

noted_last : (setup : Setup) (truth : List Line) (old sealed new : LedgerState) (a : ℕ) → HasNoted setup truth old sealed new → a < layout.data_lines setup.shape → last_seal new.marks a ≡ Some (the_seal setup a)
noted_last setup truth old sealed new a l inside =
    ap (λ m. last_seal m a) (noted_marks setup truth old sealed new l)
    ∙ last_first setup 0 (layout.data_lines setup.shape) a (omega arith) (omega (arith, inside))

-- ---- both

made_formatted : (setup : Setup) (truth : List Line) (l0 l1 l2 : LedgerState) (d0 d1 d2 d3 d4 : Device) → IsShape setup.shape → IsFirstTruth setup truth → HasNoted setup truth l0 l1 l2 → HasPut setup truth d0 d1 d2 d3 d4 → IsFormatted setup d4.regs l2
made_formatted setup truth l0 l1 l2 d0 d1 d2 d3 d4 shape made l d =
    let same = sym (noted_truth setup truth l0 l1 l2 made l) in
    let regs = sym d.latched.regs in
    record {
      marks = noted_marks setup truth l0 l1 l2 l;
      data_lines = l.told.data_lines ∙ l.seals.data_lines ∙ l.data_lines;
      tree = subst (IsHashTree setup.shape setup.formulas) same made.tree;
      whole = subst (All IsLine) same made.whole;
      blocks = λ page inside. ap (λ t. line_at t (counter_position setup.shape page)) (sym same) ∙ made.blocks page inside;
      root = ap (λ r. r.root) (sym regs) ∙ ap (λ t. setup.formulas.digest_of 0 (line_at t 0)) same;
      progress = ap (λ r. r.progress.items) (sym regs);
      group = subst (λ r. IsGroup (layout.device_lines setup.shape) r.group.items) regs no_group;
      loss = subst (λ r. IsTrue (is_loss r.loss)) regs shape.known_loss;
      exhibit = subst IsNone (sym (l.told.exhibit ∙ l.seals.exhibit)) l.no_exhibit;
    }
  where
    no_group : IsGroup (layout.device_lines setup.shape) []
    no_group =
        record {
          distinct = λ i j x less within. absurd (omega arith);
          on_device = All-nil (λ entry. entry.0 < layout.device_lines setup.shape);
          lines_range = All-nil (λ entry. IsLine entry.1);
        }

-- the lines in the end, and after each step before
record ArePutLines (setup : Setup) (truth : List Line) (now : List Line) : Type 0 where
  count : length now ≡ layout.device_lines setup.shape
  each : All IsLine now
  seals : (a : ℕ) → a < layout.data_lines setup.shape → IsFirstSealed setup now a
  meta : (x : ℕ) → x < layout.meta_lines setup.shape → stored_meta setup.shape now x ≡ line_at truth x
  tables : IsShadowZero setup now

put_lines : (setup : Setup) (truth : List Line) (d0 d1 d2 d3 d4 : Device) (now : List Line) → HasPut setup truth d0 d1 d2 d3 d4 → d4.lines ≡ Some now → ArePutLines setup truth now
put_lines setup truth d0 d1 d2 d3 d4 now d told =
    let at3 : d3.lines ≡ Some now = sym d.latched.lines ∙ told in
    let filled = told_earlier d2 d3 now d.steady_cleared.told at3 in
    let sealed = told_earlier d1 d2 filled.0 d.steady_filled.told filled.1 in
    let size1 : d1.size ≡ layout.device_lines setup.shape = d.steady_sealed.size ∙ d.size in
    let size2 : d2.size ≡ layout.device_lines setup.shape = d.steady_filled.size ∙ size1 in
    let size4 : d4.size ≡ layout.device_lines setup.shape = d.latched.size ∙ d.steady_cleared.size ∙ size2 in
    let ends = whole_lines d4.size d4.lines now d.whole told in
    let long2 : length filled.0 ≡ layout.device_lines setup.shape = (whole_lines d2.size d2.lines filled.0 d.whole_filled filled.1).count ∙ size2 in
    let long1 : length sealed.0 ≡ layout.device_lines setup.shape = (whole_lines d1.size d1.lines sealed.0 d.whole_sealed sealed.1).count ∙ size1 in
    let long : length now ≡ layout.device_lines setup.shape = ends.count ∙ size4 in
    let same : (n : ℕ) → n < 80 * layout.pages setup.shape → line_at now n ≡ line_at sealed.0 n =
    λ n low. d.tables.others filled.0 filled.1 now at3 n (omega (arith, low)) ∙ d.meta.others sealed.0 sealed.1 filled.0 filled.1 n low in
    record {
      count = long;
      each = ends.each;
      seals = λ a inside.
          let was = d.seals sealed.0 sealed.1 long1 a inside in
          record {
            cipher = same a (omega (arith, inside)) ∙ was.cipher;
            tag = ap (λ line. tag_slot line a) (same (layout.tag_line setup.shape a) (omega (arith, inside))) ∙ was.tag;
          };
      meta = λ x inside.
          d.tables.others filled.0 filled.1 now at3 (layout.meta_line setup.shape x) (omega (arith, inside))
          ∙ d.meta.meta filled.0 filled.1 long2 x inside;
      tables = record { zero_lines = λ n inside. d.tables.zero now at3 long n inside };
    }

put_mendable : (setup : Setup) (truth now : List Line) (l0 l1 l2 : LedgerState) (regs : Regs) → IsAnchored setup regs l2 → IsFirstTruth setup truth → HasNoted setup truth l0 l1 l2 → ArePutLines setup truth now → IsMendable setup now regs l2
put_mendable setup truth now l0 l1 l2 regs anchored made l p =
    let same = noted_truth setup truth l0 l1 l2 made l in
    let meta : (x : ℕ) → x < layout.meta_lines setup.shape → stored_meta setup.shape now x ≡ line_at l2.truth x =
    λ x inside. p.meta x inside ∙ ap (λ t. line_at t x) (sym same) in
    record {
      anchored = anchored;
      seals_stored = λ a inside.
          let last = noted_last setup truth l0 l1 l2 a l inside in
          record {
            cipher = ap (option_map (λ seal. seal.cipher)) last ∙ ap (λ line. Some line) (sym (p.seals a inside).cipher);
            tag = ap (option_map (λ seal. seal.tag)) last ∙ ap (λ tag. Some tag) (sym (p.seals a inside).tag);
          };
      true_or_doubted = λ x inside. inl (meta x inside);
      counters_stored = λ page inside.
          subst (λ line. IsStoredBlock (counter_window setup.shape regs.loss) (unpacked line) (true_block setup.shape l2.truth page))
          (sym (meta (counter_position setup.shape page) (counter_position-lt setup.shape page inside)))
          (IsStoredBlock-same (counter_window setup.shape regs.loss) (true_block setup.shape l2.truth page));
    }

pub HasFormatted-of : (setup : Setup) (truth : List Line) (l0 l1 l2 : LedgerState) (d0 d1 d2 d3 d4 : Device) (engine : EngineState) → IsShape setup.shape → AreInRange setup.formulas → engine ≡ new_engine setup.shape → IsFirstTruth setup truth → HasNoted setup truth l0 l1 l2 → HasPut setup truth d0 d1 d2 d3 d4 → HasFormatted setup l2 d0 d4 engine
HasFormatted-of setup truth l0 l1 l2 d0 d1 d2 d3 d4 engine shape in_range its made l d =
    let anchored = anchored-formatted setup d4.regs l2 shape in_range (made_formatted setup truth l0 l1 l2 d0 d1 d2 d3 d4 shape made l d) in
    let same = noted_truth setup truth l0 l1 l2 made l in
    let none : d4.regs.group.items ≡ [] = ap (λ r. r.group.items) d.latched.regs in
    let stays = StaysSteady-then _ _ d0 d2 d3 (StaysSteady-then _ _ d0 d1 d2 d.steady_sealed d.steady_filled) d.steady_cleared in
    record {
      engine_new = its;
      anchored = anchored;
      trusted = subst (λ (e : EngineState). IsTrusted setup (on_chip e) d4.regs l2) (sym its) (IsTrusted-fresh setup d4.regs l2 anchored none);
      sound = λ now told.
          let p = put_lines setup truth d0 d1 d2 d3 d4 now d told in
          let whole : AreLinesOf (layout.device_lines setup.shape) now = record { count = p.count; each = p.each } in
          subst (λ (e : EngineState). IsSound setup (on_chip e) now d4.regs l2) (sym its)
          (IsSound-new_engine setup (on_chip (new_engine setup.shape)) now d4.regs l2 (IsNewEngine-fresh setup now whole p.tables) whole
          (put_mendable setup truth now l0 l1 l2 d4.regs anchored made l p)
          (record { true_lines = λ x inside. p.meta x inside ∙ ap (λ t. line_at t x) (sym same) }) none);
      marks = noted_marks setup truth l0 l1 l2 l;
      seals =
          ap length (noted_marks setup truth l0 l1 l2 l)
          ∙ length-map (range_with_len 0 (layout.data_lines setup.shape)) (first_seal setup)
          ∙ length-range_with_len 0 (layout.data_lines setup.shape);
      last_counters = λ a inside. ap (option_map (λ seal. seal.ctr)) (noted_last setup truth l0 l1 l2 a l inside);
      plain = λ a inside.
          ap (option_map (plain_of_seal setup.formulas a)) (noted_last setup truth l0 l1 l2 a l inside)
          ∙ ap (λ line. Some line) (cipher_of-back setup.formulas a (first_counter setup) zero_line in_range (record { major = shape.major_in_range; minor = omega arith }) IsLine-zero_line);
      truth = same ∙ first_truth_is setup truth made.tree made.blocks shape;
      regs = d.latched.regs ∙ ap (λ t. first_regs setup (line_at t 0)) (sym same);
      plan = format_so setup truth d0 d1 d2 d3 d4 (first_truth_is setup truth made.tree made.blocks shape) d.sealed_so d.filled_so d.cleared_so d.latched;
      size = d.latched.size ∙ stays.size;
      told = ap is_some d.latched.lines ∙ stays.told;
      steady = d.latched.steady ∙ stays.steady d.steady;
      live = λ l. d.latched.live ∙ stays.live l;
      writes = subst (RisesBy (layout.device_lines setup.shape) d0.writes) (sym d.latched.writes) stays.writes;
      latches = subst (λ n. RisesBy 1 n d4.latches) stays.latches (RisesBy-once d.latched.latches);
      reads = d.latched.reads ∙ stays.reads;
      cuts = d.latched.cuts ∙ stays.cuts;
    }
