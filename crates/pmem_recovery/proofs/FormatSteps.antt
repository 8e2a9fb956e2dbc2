-- The steps of formatting.
use Rattle.std.proofs.Common.{rules, ℕ, ◌≡◌, ◌≢◌, ◌<◌, ◌≤◌, ◌+◌, ◌-◌, ◌*◌, ◌%◌, List, ◌++◌, length, map, Some, refl, ap, sym, subst, ◌∙◌, ◌⊎◌, inl, inr, arith}
use Rattle.std.specs.Prelude.{is_some, replicate, slice_set}
use Rattle.std.specs.List.{range_with_len}
use Rattle.std.proofs.lemmas.Bool.{cases_eq, cases_lt}
use Rattle.std.proofs.lemmas.List.{append-nil, append_assoc, map-append, length-set, length-append, length-map}
use Rattle.std.proofs.lemmas.List.FromFn.{length-range_with_len}
use Rattle.pmem_base.specs.declared.lines.Line.{Line}
use Rattle.pmem_base.specs.Shape.{Shape}
use Rattle.pmem_base.specs.Layout as layout
use Rattle.pmem_base.specs.Lines.{line_at, tag_slot, zero_line}
use Rattle.pmem_base.proofs.ListLaws.{range_with_len-append}
use Rattle.board.specs.Device.{Device, AreToldLines}
use Rattle.board.specs.Steps.{HasWritten}
use Rattle.split_counters.specs.Blocks.{zero_minors, packed}
use Rattle.bonsai_tree.specs.Positions.{child_position, counter_position}
use Rattle.bonsai_tree.specs.Nodes.{node_over}
use Rattle.pmem_base.proofs.LineSets.{line_at-set_same, line_at-set_other}
use Rattle.call_effects.proofs.ToldLines.{whole_lines}
use Rattle.bonsai_tree.proofs.Levels.{meta_lines-counters}
use Rattle.bonsai_tree.proofs.NodeLaws.{node_over-same}
use Rattle.suite.specs.Formulas.{Formulas}
use Rattle.suite.specs.Setup.{Setup}
use Rattle.seal_ledger.specs.Ledger.{LedgerState}
use Rattle.seal_ledger.specs.Notes.{HasMeta}
use Rattle.pmem_engine.specs.Formatted.{first_seal, first_block}
use Rattle.pmem_recovery.specs.Parts.{IfLinesTold}
use Rattle.pmem_recovery.specs.Writing.{IfBothLinesTold}
use Rattle.pmem_recovery.specs.Formatting.{first_cipher, first_tag, IsFirstSealed, HasSealedFrom, HasSealedGroup, HasSealedAll, HasToldMeta, HasWrittenMeta, HasClearedTables}
use Rattle.pmem_recovery.proofs.WriteSteps.{told_earlier}

-- ---- the device

pub told_long : (device : Device) (n : ℕ) → AreToldLines device.size device.lines → device.size ≡ n → (lines : List Line) → device.lines ≡ Some lines → length lines ≡ n
told_long device n whole size lines told = (whole_lines device.size device.lines lines whole told).count ∙ size

-- the lines before and after a write
pub record IsFirstLineWritten (at : ℕ) (line : Line) (old : Device) (now : List Line) : Type 0 where
  pub lines : List Line
  pub told : old.lines ≡ Some lines
  pub set : slice_set lines at line ≡ now

pub written_is : (old : Device) (at : ℕ) (line : Line) (new : Device) (now : List Line) → HasWritten old at line new → new.lines ≡ Some now → IsFirstLineWritten at line old now
written_is old at line new now w after = search rules

pub written_here : (old : Device) (at : ℕ) (line : Line) (now : List Line) (w : IsFirstLineWritten at line old now) → at < length now → line_at now at ≡ line
written_here old at line now w inside = search rules

pub written_other : (old : Device) (at : ℕ) (line : Line) (now : List Line) (w : IsFirstLineWritten at line old now) (d : ℕ) → d ≢ at → line_at now d ≡ line_at w.lines d
written_other old at line now w d apart = search rules

-- ---- the ledger

pub HasSealedFrom-none : (setup : Setup) (a : ℕ) (ledger : LedgerState) → HasSealedFrom setup a 0 ledger ledger
HasSealedFrom-none setup a ledger = record { marks = sym (append-nil ledger.marks); truth = refl; data_lines = refl; exhibit = refl }

pub HasSealedFrom-then : (setup : Setup) (a k b m : ℕ) (old mid new : LedgerState) → b ≡ a + k → HasSealedFrom setup a k old mid → HasSealedFrom setup b m mid new → HasSealedFrom setup a (k + m) old new
HasSealedFrom-then setup a k b m old mid new e x y =
    let seals : ℕ → ℕ → List _ = λ c n. map (first_seal setup) (range_with_len c n) in
    record {
      marks =
          y.marks ∙ ap (λ l. l ++ map (first_seal setup) (range_with_len b m)) x.marks
          ∙ append_assoc old.marks (map (first_seal setup) (range_with_len a k)) (map (first_seal setup) (range_with_len b m))
          ∙ ap (λ l. old.marks ++ l)
          (ap (λ c. map (first_seal setup) (range_with_len a k) ++ map (first_seal setup) (range_with_len c m)) e
          ∙ sym (map-append (first_seal setup) (range_with_len a k) (range_with_len (a + k) m))
          ∙ ap (map (first_seal setup)) (sym (range_with_len-append a k m)));
      truth = y.truth ∙ x.truth;
      data_lines = y.data_lines ∙ x.data_lines;
      exhibit = y.exhibit ∙ x.exhibit;
    }

-- as many marks more as lines
pub sealed_count : (setup : Setup) (a k : ℕ) (old new : LedgerState) → HasSealedFrom setup a k old new → length new.marks ≡ length old.marks + k
sealed_count setup a k old new it =
    ap length it.marks ∙ length-append old.marks (map (first_seal setup) (range_with_len a k))
    ∙ ap (λ n. length old.marks + n) (length-map (range_with_len a k) (first_seal setup) ∙ length-range_with_len a k)

-- ---- four lines

-- the first i of a group are written
pub record IsGroupTo (setup : Setup) (group i : ℕ) (old new : Device) : Type 0 where
  pub written :
      IfLinesTold new.lines (λ now. length now ≡ layout.device_lines setup.shape
      → (j : ℕ) → j < i → line_at now (4 * group + j) ≡ first_cipher setup (4 * group + j))
  pub others :
      IfBothLinesTold old new (λ lines now. (d : ℕ) → (d < 4 * group) ⊎ (4 * group + i ≤ d) → line_at now d ≡ line_at lines d)

pub IsGroupTo-none : (setup : Setup) (group : ℕ) (d : Device) → IsGroupTo setup group 0 d d
IsGroupTo-none setup group d =
    record {
      written = λ now told long j low. absurd (omega arith);
      others = λ lines told now after n outside. ap (λ l. line_at l n) (let same : Some now ≡ Some lines = sym after ∙ told in let its : now ≡ lines = cc in its);
    }

pub IsGroupTo-more : (setup : Setup) (group i at : ℕ) (old mid new : Device) → group < 16 * layout.pages setup.shape → i < 4 → at ≡ 4 * group + i → IsGroupTo setup group i old mid → HasWritten mid at (first_cipher setup at) new → IsGroupTo setup group (i + 1) old new
IsGroupTo-more setup group i at old mid new inside small here g w =
    record {
      written = λ now after long j low.
          let s = written_is mid at (first_cipher setup at) new now w after in
          let size : length s.lines ≡ layout.device_lines setup.shape = sym (length-set s.lines at (first_cipher setup at)) ∙ ap length s.set ∙ long in
          cipher now s long size j low (cases_eq j i);
      others = λ lines told now after d outside.
          let s = written_is mid at (first_cipher setup at) new now w after in
          written_other mid at (first_cipher setup at) now s d (apart d outside)
          ∙ g.others lines told s.lines s.told d (further d outside);
    }
  where
    apart : (d : ℕ) → (d < 4 * group) ⊎ (4 * group + (i + 1) ≤ d) → d ≢ at
    apart d (inl low) e = omega (arith, low, e, here)
    apart d (inr high) e = omega (arith, high, e, here)

    further : (d : ℕ) → (d < 4 * group) ⊎ (4 * group + (i + 1) ≤ d) → (d < 4 * group) ⊎ (4 * group + i ≤ d)
    further d (inl low) = inl low
    further d (inr high) = inr (omega (arith, high))

    cipher : (now : List Line) (s : IsFirstLineWritten at (first_cipher setup at) mid now) → length now ≡ layout.device_lines setup.shape → length s.lines ≡ layout.device_lines setup.shape → (j : ℕ) → j < i + 1 → (j ≡ i) ⊎ (j ≡ i → ⊥) → line_at now (4 * group + j) ≡ first_cipher setup (4 * group + j)
    cipher now s long size j low (inl same) =
        let place : at ≡ 4 * group + j = omega (arith, here, same) in
        subst (λ k. line_at now k ≡ first_cipher setup k) place (written_here mid at (first_cipher setup at) now s (omega (arith, here, small, inside, long)))
    cipher now s long size j low (inr other) =
        written_other mid at (first_cipher setup at) now s (4 * group + j) (λ e. other (omega (arith, e, here)))
        ∙ g.written s.lines s.told size j (omega (arith, low, other))

-- with their tag line
pub HasSealedGroup-written : (setup : Setup) (group at : ℕ) (tags : Line) (old mid new : Device) → group < 16 * layout.pages setup.shape → at ≡ layout.tag_line setup.shape (4 * group) → ((j : ℕ) → j < 4 → tag_slot tags (4 * group + j) ≡ first_tag setup (4 * group + j)) → IsGroupTo setup group 4 old mid → HasWritten mid at tags new → HasSealedGroup setup group old new
HasSealedGroup-written setup group at tags old mid new inside here slots g w =
    let place : at ≡ layout.data_lines setup.shape + group = omega (arith, here) in
    record {
      sealed = λ now after long a low high.
          let s = written_is mid at tags new now w after in
          let size : length s.lines ≡ layout.device_lines setup.shape = sym (length-set s.lines at tags) ∙ ap length s.set ∙ long in
          let j : ℕ = a - 4 * group in
          let its : 4 * group + j ≡ a = omega (arith, low) in
          let tag_place : layout.tag_line setup.shape a ≡ at = omega (arith, place, low, high) in
          let tag_read : line_at now (layout.tag_line setup.shape a) ≡ tags = ap (line_at now) tag_place ∙ written_here mid at tags now s (omega (arith, place, inside, long)) in
          record {
            cipher =
                written_other mid at tags now s a (λ e. omega (arith, e, place, inside, high))
                ∙ subst (λ k. line_at s.lines k ≡ first_cipher setup k) its (g.written s.lines s.told size j (omega (arith, low, high)));
            tag = ap (λ l. tag_slot l a) tag_read ∙ subst (λ k. tag_slot tags k ≡ first_tag setup k) its (slots j (omega (arith, low, high)));
          };
      others = λ lines told now after d outside apart.
          let s = written_is mid at tags new now w after in
          written_other mid at tags now s d (λ e. apart (e ∙ place)) ∙ g.others lines told s.lines s.told d outside;
    }

-- one group more
pub HasSealedAll-more : (setup : Setup) (group : ℕ) (mid new : Device) → group < 16 * layout.pages setup.shape → ((lines : List Line) → mid.lines ≡ Some lines → length lines ≡ layout.device_lines setup.shape) → is_some new.lines ≡ is_some mid.lines → HasSealedAll setup (4 * group) mid → HasSealedGroup setup group mid new → HasSealedAll setup (4 * (group + 1)) new
HasSealedAll-more setup group mid new inside whole same all g now after long a low =
    go (cases_lt a (4 * group))
  where
    go : (a < 4 * group) ⊎ (4 * group ≤ a) → IsFirstSealed setup now a
    go (inr here) = g.sealed now after long a here (omega (arith, low))
    go (inl before) =
        let earlier = told_earlier mid new now same after in
        let was = all earlier.0 earlier.1 (whole earlier.0 earlier.1) a before in
        record {
          cipher = g.others earlier.0 earlier.1 now after a (inl before) (λ e. omega (arith, e, before, inside)) ∙ was.cipher;
          tag =
              ap (λ l. tag_slot l a) (g.others earlier.0 earlier.1 now after (layout.tag_line setup.shape a) (inr (omega (arith, before, inside))) (λ e. omega (arith, e, before)))
              ∙ was.tag;
        }

-- one slot more
pub slots-more : (setup : Setup) (group i : ℕ) (old new : Line) → i < 4 → ((j : ℕ) → j < i → tag_slot old (4 * group + j) ≡ first_tag setup (4 * group + j)) → tag_slot new (4 * group + i) ≡ first_tag setup (4 * group + i) → ((other : ℕ) → other % 4 ≢ (4 * group + i) % 4 → tag_slot new other ≡ tag_slot old other) → (j : ℕ) → j < i + 1 → tag_slot new (4 * group + j) ≡ first_tag setup (4 * group + j)
slots-more setup group i old new small before here others j low =
    go (cases_eq j i)
  where
    go : (j ≡ i) ⊎ (j ≡ i → ⊥) → tag_slot new (4 * group + j) ≡ first_tag setup (4 * group + j)
    go (inl same) = subst (λ k. tag_slot new (4 * group + k) ≡ first_tag setup (4 * group + k)) (sym same) here
    go (inr other) = others (4 * group + j) (λ e. other (omega (arith, e, small, low))) ∙ before j (omega (arith, low, other))

-- ---- the true lines

pub zeros-minors : replicate 64 0 ≡ zero_minors
unfolding zero_minors
zeros-minors = refl

-- one counter block more
pub blocks_more : (g : Shape) (n at : ℕ) (line : Line) (lines : List Line) → n < layout.pages g → at ≡ counter_position g n → line ≡ packed (first_block g) → length lines ≡ layout.meta_lines g → ((page : ℕ) → page < n → line_at lines (counter_position g page) ≡ packed (first_block g)) → (page : ℕ) → page < n + 1 → line_at (slice_set lines at line) (counter_position g page) ≡ packed (first_block g)
blocks_more g n at line lines inside place value long before page low =
    go (cases_eq page n)
  where
    go : (page ≡ n) ⊎ (page ≡ n → ⊥) → line_at (slice_set lines at line) (counter_position g page) ≡ packed (first_block g)
    go (inl same) =
        let here : at ≡ counter_position g page = omega (arith, place, same) in
        subst (λ k. line_at (slice_set lines at line) k ≡ packed (first_block g)) here
        (line_at-set_same lines at line (omega (arith, place, inside, long, meta_lines-counters g)) ∙ value)
    go (inr other) =
        line_at-set_other lines at (counter_position g page) line (λ e. other (omega (arith, e, place)))
        ∙ before page (omega (arith, low, other))

-- one node more
pub nodes_more : (f : Formulas) (first n at : ℕ) (line : Line) (lines : List Line) → n < first → at ≡ first - 1 - n → at < length lines → line ≡ node_over f at (line_at lines) → ((x : ℕ) → first - n ≤ x → x < first → line_at lines x ≡ node_over f x (line_at lines)) → (x : ℕ) → first - (n + 1) ≤ x → x < first → line_at (slice_set lines at line) x ≡ node_over f x (line_at (slice_set lines at line))
nodes_more f first n at line lines small place inside value before x from below =
    go (cases_eq x at)
  where
    over : (y : ℕ) → at ≤ y → node_over f y (line_at lines) ≡ node_over f y (line_at (slice_set lines at line))
    over y later =
        node_over-same f y (line_at lines) (line_at (slice_set lines at line))
        (λ i four. sym (line_at-set_other lines at (child_position y i) line (λ e. omega (arith, e, later))))

    go : (x ≡ at) ⊎ (x ≡ at → ⊥) → line_at (slice_set lines at line) x ≡ node_over f x (line_at (slice_set lines at line))
    go (inl same) =
        subst (λ k. line_at (slice_set lines at line) k ≡ node_over f k (line_at (slice_set lines at line))) (sym same)
        (line_at-set_same lines at line inside ∙ value ∙ over at (omega arith))
    go (inr other) =
        line_at-set_other lines at x line other
        ∙ before x (omega (arith, from, place, small, other)) below
        ∙ over x (omega (arith, from, place))

-- ---- the metadata lines and the shadow lines, one more

-- line n of a region that begins at a place is written, and those before it are as they were
module _ (start n at : ℕ) (line : Line) (told : ℕ → Line) (mid new : Device) (now : List Line) (here : at ≡ start + n) (value : line ≡ told n)
    (s : IsFirstLineWritten at line mid now) (inside : at < length now) where
  region_more : ((m : ℕ) → m < n → line_at s.lines (start + m) ≡ told m) → (m : ℕ) → m < n + 1 → line_at now (start + m) ≡ told m
  region_more before m low = go (cases_eq m n)
    where
      go : (m ≡ n) ⊎ (m ≡ n → ⊥) → line_at now (start + m) ≡ told m
      go (inl same) =
          let place : at ≡ start + m = omega (arith, here, same) in
          subst (λ k. line_at now k ≡ told m) place (written_here mid at line now s inside ∙ value ∙ ap told (sym same))
      go (inr other) = written_other mid at line now s (start + m) (λ e. other (omega (arith, e, here))) ∙ before m (omega (arith, low, other))

pub HasClearedTables-more : (g : Shape) (n at : ℕ) (line : Line) (old mid new : Device) → at ≡ layout.shadow_line g n → line ≡ zero_line
    → n < layout.shadow_lines g → HasClearedTables g n old mid → HasWritten mid at line new → HasClearedTables g (n + 1) old new
HasClearedTables-more g n at line old mid new here value small z w =
    record {
      zero = λ now after long m low.
          let s = written_is mid at line new now w after in
          let size : length s.lines ≡ layout.device_lines g = sym (length-set s.lines at line) ∙ ap length s.set ∙ long in
          region_more (80 * layout.pages g + layout.meta_lines g) n at line (λ k. zero_line) mid new now here value s (omega (arith, here, small, long))
          (z.zero s.lines s.told size) m low;
      others = λ lines told now after d low.
          let s = written_is mid at line new now w after in
          written_other mid at line now s d (λ e. omega (arith, e, here, low)) ∙ z.others lines told s.lines s.told d low;
    }

pub HasWrittenMeta-more : (g : Shape) (truth : List Line) (n at : ℕ) (line : Line) (old mid new : Device) → at ≡ layout.meta_line g n
    → line ≡ line_at truth n → n < layout.meta_lines g → HasWrittenMeta g truth n old mid → HasWritten mid at line new
    → HasWrittenMeta g truth (n + 1) old new
HasWrittenMeta-more g truth n at line old mid new here value small z w =
    record {
      meta = λ now after long x low.
          let s = written_is mid at line new now w after in
          let size : length s.lines ≡ layout.device_lines g = sym (length-set s.lines at line) ∙ ap length s.set ∙ long in
          region_more (80 * layout.pages g) n at line (line_at truth) mid new now here value s (omega (arith, here, small, long))
          (z.meta s.lines s.told size) x low;
      others = λ lines told now after d low.
          let s = written_is mid at line new now w after in
          written_other mid at line now s d (λ e. omega (arith, e, here, low)) ∙ z.others lines told s.lines s.told d low;
    }

pub HasToldMeta-more : (g : Shape) (truth : List Line) (n : ℕ) (line : Line) (old mid new : LedgerState) → line ≡ line_at truth n → n < length old.truth
    → HasToldMeta g truth n old mid → HasMeta mid new n line → HasToldMeta g truth (n + 1) old new
HasToldMeta-more g truth n line old mid new value small z m =
    record {
      lines = λ x low. ap (λ t. line_at t x) m.truth ∙ go x low (cases_eq x n);
      count = m.count ∙ z.count;
      marks = m.marks ∙ z.marks;
      data_lines = m.data_lines ∙ z.data_lines;
      exhibit = m.exhibit ∙ z.exhibit;
    }
  where
    go : (x : ℕ) → x < n + 1 → (x ≡ n) ⊎ (x ≡ n → ⊥) → line_at (slice_set mid.truth n line) x ≡ line_at truth x
    go x low (inl same) =
        subst (λ k. line_at (slice_set mid.truth n line) k ≡ line_at truth k) (sym same)
        (line_at-set_same mid.truth n line (omega (arith, small, z.count)) ∙ value)
    go x low (inr other) = line_at-set_other mid.truth n x line other ∙ z.lines x (omega (arith, low, other))
