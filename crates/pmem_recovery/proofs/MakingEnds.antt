-- What recovery's plan leaves where it stops: why, how much it has tried, and how much it has read.
use Rattle.std.proofs.Common.{ℕ, ◌≡◌, ◌≤◌, ◌+◌, ◌*◌, List, Option, refl, sym, ap, subst, ◌∙◌, arith}
use Rattle.pmem_base.specs.declared.lines.Line.{Line}
use Rattle.pmem_base.specs.declared.registers.Regs.{Regs}
use Rattle.pmem_base.specs.Counts.{risen_times}
use Rattle.pmem_base.specs.Shape.{Shape, IsShape}
use Rattle.pmem_base.specs.Layout.{shadow_lines}
use Rattle.board.specs.Counts.{RisesBy}
use Rattle.board.specs.Device.{Device}
use Rattle.shadow_tables.specs.Entries.{shadow_of}
use Rattle.suite.specs.Formulas.{Formulas}
use Rattle.suite.specs.Setup.{Setup}
use Rattle.plain_model.specs.Bounds.{most_blocks, most_nodes}
use Rattle.pmem_recovery.specs.declared.faults.RecFault.{RecFault}
use Rattle.pmem_recovery.specs.declared.faults.RecFault.TheVariants as Fault
use Rattle.pmem_recovery.specs.Trials.{trials_below}
use Rattle.pmem_recovery.specs.Reads.{doubted_reads, reads_to, IsReadUntil}
use Rattle.pmem_recovery.specs.Parts.{IfLinesTold, IsUncut, IsCutOff, StopsBy, IsUndecided, IsFaultShown, IsRefusal, IsWorkBefore, IsCutWork}
use Rattle.pmem_recovery.specs.Mending.{most_reads}
use Rattle.pmem_recovery.specs.Plans.{SuiteCounts, suite_counts}
use Rattle.pmem_recovery.proofs.NamedLaws.{count_doubted-counters, count_doubted-nodes}

-- the counts after this number of tags and digests
abbrev pub after_work : ℕ → ℕ → SuiteCounts → SuiteCounts
after_work trials digests counts = suite_counts (risen_times trials counts.tags) (risen_times digests counts.digests)

-- ---- where it stops

-- over the lines that are exposed: why it stops, how much it has tried, and how much it has read
pub record StopsOver (setup : Setup) (regs : Regs) (fault : RecFault) (trials digests n : ℕ) (lines : List Line) : Type 0 where
  pub refusal : IsRefusal setup lines regs fault
  pub work : IsWorkBefore setup.shape lines regs fault trials digests
  pub few_reads : n ≤ doubted_reads setup.shape (shadow_of setup.shape lines)
  pub reads : (before after : ℕ) → RisesBy n before after → IsReadUntil setup.shape (shadow_of setup.shape lines) regs fault before after

-- it stops or is cut after n reads
pub record StopsWith (setup : Setup) (regs : Regs) (told : Option (List Line)) (first : SuiteCounts) (left : SuiteCounts × RecFault) (n : ℕ) : Type 0 where
  pub trials : ℕ
  pub digests : ℕ
  pub counted : left.0 ≡ after_work trials digests first
  pub few_trials : trials ≤ 64 * regs.loss * most_blocks setup.shape
  pub few_digests : digests ≤ 4 * most_nodes setup.shape + 1
  pub few_reads : n ≤ most_reads setup.shape
  pub shown : IsFaultShown setup.formulas left.1
  pub over : IfLinesTold told (StopsOver setup regs left.1 trials digests n)

abbrev pub IsStop : Setup → Regs → Option (List Line) → SuiteCounts → SuiteCounts × RecFault → ℕ → Type 0
IsStop setup regs told first left n =
    StopsWith setup regs told first left n × ((old new : Device) → IsUncut old new → StopsBy left.1 old new)

abbrev pub IsCutEnd : Setup → Regs → Option (List Line) → SuiteCounts → SuiteCounts × RecFault → ℕ → Type 0
IsCutEnd setup regs told first left n =
    StopsWith setup regs told first left n × ((old new : Device) → IsCutOff old new → StopsBy left.1 old new)

-- the reads are few, by the doubted blocks and by the policy
pub few_reads : (setup : Setup) (told : Option (List Line)) (shadow : List Line) (n : ℕ) → IsShape setup.shape
    → IfLinesTold told (λ lines. shadow ≡ shadow_of setup.shape lines) → n ≤ doubted_reads setup.shape shadow
    → (n ≤ most_reads setup.shape) × IfLinesTold told (λ lines. n ≤ doubted_reads setup.shape (shadow_of setup.shape lines))
few_reads setup told shadow n valid its_shadow few = (
  omega (arith, few, count_doubted-counters setup.shape shadow valid, count_doubted-nodes setup.shape shadow valid),
  λ lines its. subst (λ s. n ≤ doubted_reads setup.shape s) (its_shadow lines its) few,
)

-- a cut
pub cut_end : (setup : Setup) (regs : Regs) (told : Option (List Line)) (first counts : SuiteCounts) (trials digests n : ℕ)
    → counts ≡ after_work trials digests first → trials ≤ 64 * regs.loss * most_blocks setup.shape
    → digests ≤ 4 * most_nodes setup.shape + 1
    → (n ≤ most_reads setup.shape) × IfLinesTold told (λ lines. n ≤ doubted_reads setup.shape (shadow_of setup.shape lines))
    → IfLinesTold told (λ lines. IsCutWork setup.shape lines regs trials digests) → IsCutEnd setup regs told first (counts, Fault.Cut) n
cut_end setup regs told first counts trials digests n counted few_trials few_digests reads work = (
  record {
    trials = trials;
    digests = digests;
    counted = counted;
    few_trials = few_trials;
    few_digests = few_digests;
    few_reads = reads.0;
    shown = tt;
    over = λ lines its. record { refusal = tt; work = work lines its; few_reads = reads.1 lines its; reads = λ before after r. tt };
  },
  λ old new cut. cut,
)

-- at a line that hasn't one minor
module _ (f : Formulas) (at major : ℕ) (cipher : Line) (tag matching : List ℕ) where
  pub undecided_reads : (g : Shape) (shadow : List Line) (regs : Regs) (fault : RecFault) (before after : ℕ) → IsUndecided f at major cipher tag matching fault
      → RisesBy (shadow_lines g + reads_to g shadow regs at) before after → IsReadUntil g shadow regs fault before after
  undecided_reads g shadow regs Fault.Memory before after u r = absurd u
  undecided_reads g shadow regs Fault.Cut before after u r = absurd u
  undecided_reads g shadow regs (Fault.NoCounter a) before after u r =
      subst (λ b. RisesBy (shadow_lines g + reads_to g shadow regs b) before after) (sym u.0) r
  undecided_reads g shadow regs (Fault.Root kept found) before after u r = absurd u
  undecided_reads g shadow regs (Fault.Twin a m low high c t) before after u r =
      subst (λ b. RisesBy (shadow_lines g + reads_to g shadow regs b) before after) (sym u.0) r

  pub undecided_work : (g : Shape) (lines : List Line) (regs : Regs) (fault : RecFault) (trials : ℕ) → IsUndecided f at major cipher tag matching fault
      → trials ≡ trials_below g lines regs (at + 1) → IsWorkBefore g lines regs fault trials 0
  undecided_work g lines regs Fault.Memory trials u e = absurd u
  undecided_work g lines regs Fault.Cut trials u e = absurd u
  undecided_work g lines regs (Fault.NoCounter a) trials u e = (e ∙ ap (λ b. trials_below g lines regs (b + 1)) (sym u.0), refl)
  undecided_work g lines regs (Fault.Root kept found) trials u e = absurd u
  undecided_work g lines regs (Fault.Twin a m low high c t) trials u e = (e ∙ ap (λ b. trials_below g lines regs (b + 1)) (sym u.0), refl)
