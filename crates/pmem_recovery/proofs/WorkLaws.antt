-- Laws of how much a recovery tries: line by line, page by page, and where it stops.
use Rattle.std.proofs.Common.{ℕ, zero, suc, ◌≡◌, ◌<◌, ◌≤◌, ◌+◌, ◌-◌, ◌*◌, true, false, cond, List, length, Option, Some, None, refl, ap, sym, ◌∙◌, inr, add-one, arith}
use Rattle.std.specs.Prelude.{slice_index, is_some}
use Rattle.std.proofs.lemmas.Bool.{false≢true}
use Rattle.pmem_base.specs.declared.lines.Line.{Line}
use Rattle.pmem_base.specs.declared.registers.Progress.{Progress}
use Rattle.pmem_base.specs.declared.registers.Regs.{Regs}
use Rattle.pmem_base.specs.Shape.{Shape}
use Rattle.pmem_base.specs.Layout.{page_of, index_in_page}
use Rattle.bonsai_tree.specs.Positions.{counter_position}
use Rattle.page_reencrypt.specs.Registers.{register_held}
use Rattle.split_counters.specs.declared.Block.{Block}
use Rattle.stop_loss.specs.Windows.{window_minors}
use Rattle.pmem_engine.specs.Invariants.{is_doubted}
use Rattle.pmem_recovery.specs.declared.faults.RecFault.TheVariants.{Memory, Cut}
use Rattle.pmem_recovery.specs.Trials.{stored_block, candidates, candidates_of, trials_of, trials_below}
use Rattle.call_effects.specs.SuiteStates.{SuiteState}
use Rattle.pmem_recovery.specs.Parts.{StoppedWork}
use Rattle.pmem_recovery.proofs.PartLaws.{SuiteWork-none}

-- ---- one line

-- the candidates of a line that no register holds are the minors of its window
pub candidates-free : (g : Shape) (lines : List Line) (regs : Regs) (at : ℕ) (block : Block) (tried : List ℕ) → register_held regs.progress.items at ≡ None → block ≡ stored_block g lines (page_of at) → tried ≡ window_minors (slice_index block.minors (index_in_page at)) regs.loss → length tried ≡ length (candidates_of g lines regs at)
candidates-free g lines regs at block tried free b w =
    ap length (w ∙ ap (λ (z : Block). window_minors (slice_index z.minors (index_in_page at)) regs.loss) b)
    ∙ sym (ap (λ (o : Option Progress). length (candidates regs.loss o (slice_index (stored_block g lines (page_of at)).minors (index_in_page at)))) free)

-- and there is none for a line that one holds
pub candidates-held : (g : Shape) (lines : List Line) (regs : Regs) (at : ℕ) → is_some (register_held regs.progress.items at) ≡ true → length (candidates_of g lines regs at) ≡ 0
candidates-held g lines regs at held = go (register_held regs.progress.items at) held
  where
    go : (o : Option Progress) → is_some o ≡ true → length (candidates regs.loss o (slice_index (stored_block g lines (page_of at)).minors (index_in_page at))) ≡ 0
    go (Some register) h = refl
    go None h = absurd (false≢true h)

pub trials_of-named : (g : Shape) (lines : List Line) (regs : Regs) (a : ℕ) → is_doubted g lines (counter_position g (page_of a)) ≡ true → trials_of g lines regs a ≡ length (candidates_of g lines regs a)
unfolding trials_of
trials_of-named g lines regs a named = ap (λ b. cond b (length (candidates_of g lines regs a)) 0) named

trials_of-unnamed : (g : Shape) (lines : List Line) (regs : Regs) (a : ℕ) → is_doubted g lines (counter_position g (page_of a)) ≡ false → trials_of g lines regs a ≡ 0
unfolding trials_of
trials_of-unnamed g lines regs a none = ap (λ b. cond b (length (candidates_of g lines regs a)) 0) none

-- ---- lines upwards

pub trials_below-none : (g : Shape) (lines : List Line) (regs : Regs) → trials_below g lines regs 0 ≡ 0
unfolding trials_below
trials_below-none g lines regs = refl

pub trials_below-next : (g : Shape) (lines : List Line) (regs : Regs) (a : ℕ) → trials_below g lines regs (a + 1) ≡ trials_below g lines regs a + trials_of g lines regs a
unfolding trials_below
trials_below-next g lines regs a = ap (trials_below g lines regs) (add-one a)

trials_below-gap : (g : Shape) (lines : List Line) (regs : Regs) (a n : ℕ) → ((b : ℕ) → a ≤ b → b < a + n → trials_of g lines regs b ≡ 0) → trials_below g lines regs (a + n) ≡ trials_below g lines regs a
trials_below-gap g lines regs a zero none =
    let same : a + 0 ≡ a = omega arith in
    ap (trials_below g lines regs) same
trials_below-gap g lines regs a (suc n) none =
    let same : a + suc n ≡ a + n + 1 = omega arith in
    let before = trials_below-gap g lines regs a n (λ b low high. none b low (omega (arith, high))) in
    let here = none (a + n) (omega arith) (omega arith) in
    let next = trials_below-next g lines regs (a + n) in
    ap (trials_below g lines regs) same ∙ omega (arith, next, here, before)

-- pages that aren't doubted
pub trials_below-pages : (g : Shape) (lines : List Line) (regs : Regs) (page next : ℕ) → page ≤ next → ((p : ℕ) → page ≤ p → p < next → is_doubted g lines (counter_position g p) ≡ false) → trials_below g lines regs (64 * next) ≡ trials_below g lines regs (64 * page)
trials_below-pages g lines regs page next low none =
    let same : 64 * next ≡ 64 * page + (64 * next - 64 * page) = omega (arith, low) in
    ap (trials_below g lines regs) same
    ∙ trials_below-gap g lines regs (64 * page) (64 * next - 64 * page)
    (λ b from to. trials_of-unnamed g lines regs b (none (page_of b) (omega (arith, from)) (omega (arith, to, same))))

-- if nothing was tried
pub stopped_memory : (g : Shape) (lines : List Line) (regs : Regs) (suite : SuiteState) → StoppedWork g lines regs Memory suite suite
stopped_memory g lines regs suite = record { trials = 0; digests = 0; so_far = (refl, refl); worked = SuiteWork-none suite }

pub stopped_at_once : (g : Shape) (lines : List Line) (regs : Regs) (suite : SuiteState) → StoppedWork g lines regs Cut suite suite
stopped_at_once g lines regs suite =
    record {
      trials = 0;
      digests = 0;
      so_far = record { lines_tried = 0; within = omega arith; its_trials = sym (trials_below-none g lines regs); few_digests = omega arith; in_order = inr refl };
      worked = SuiteWork-none suite;
    }
