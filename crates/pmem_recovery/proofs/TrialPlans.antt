-- The plans of a line's trials and of a counter block, at each of their ends.
use Rattle.std.proofs.Common.{ℕ, ◌≡◌, ◌+◌, ◌-◌, ◌*◌, true, false, List, [], ◌∷◌, ◌++◌, Option, Some, None, Result, Ok, Err, length, sym, subst}
use Rattle.std.specs.Prelude.{is_some, slice_index}
use Rattle.std.proofs.lemmas.Bool.{false≢true}
use Rattle.pmem_base.specs.declared.faults.Cut.{Cut}
use Rattle.pmem_base.specs.declared.lines.Line.{Line}
use Rattle.pmem_base.specs.declared.registers.Progress.{Progress}
use Rattle.pmem_base.specs.declared.registers.Regs.{Regs}
use Rattle.pmem_base.specs.Shape.{Shape}
use Rattle.pmem_base.specs.Layout.{meta_line, tag_line, index_in_page, level_start}
use Rattle.pmem_base.specs.Lines.{IsLine, tag_slot}
use Rattle.board.specs.Device.{Device}
use Rattle.board.specs.Steps.{HasRead, WasCut}
use Rattle.call_plan.specs.Plans.{Plan, done, read, mapped, the_cut}
use Rattle.call_plan.specs.Following.{Follows}
use Rattle.call_plan.proofs.Steps.{is_done, is_stopped, read_then, read_cut}
use Rattle.call_plan.proofs.Bind.{bind_ok, bind_err, mapped_follows}
use Rattle.split_counters.specs.declared.Block.{Block}
use Rattle.split_counters.specs.Blocks.{packed, unpacked, with_minor}
use Rattle.stop_loss.specs.Trials.{matching_minors, found_among}
use Rattle.stop_loss.specs.Windows.{window_minors}
use Rattle.suite.specs.Formulas.{Formulas}
use Rattle.suite.specs.Setup.{Setup}
use Rattle.pmem_recovery.specs.declared.entries.MadeEntry.{MadeEntry}
use Rattle.pmem_recovery.specs.declared.faults.RecFault.{RecFault}
use Rattle.pmem_recovery.specs.declared.faults.RecFault.TheVariants as Fault
use Rattle.pmem_recovery.specs.Parts.{decided_of}
use Rattle.pmem_recovery.specs.Plans.{SuiteCounts, RecoveryParts, recovery_parts, after_tags, made_over, decided_plan, window_plan, sealed_plan, after_sealed, held_or_tried, trial_plan, minor_turn, minors_plan, fixed_block_plan}

-- ---- a data line and its tag line

module _ (g : Shape) (at : ℕ) where
  abbrev tags_then : Line → Plan Cut (Line × List ℕ)
  tags_then cipher = read the_cut (tag_line g at) (λ tags. done (cipher, tag_slot tags at))

  pub sealed_unread : {old new : Device} → WasCut old new → old.live ≡ false → Follows (sealed_plan g at) old new (Err the_cut)
  unfolding sealed_plan
  sealed_unread was off = read_cut the_cut at tags_then was off

  module _ {old mid new : Device} {cipher : Line} (first : HasRead old at cipher mid) (whole : IsLine cipher) where
    pub sealed_half_read : WasCut mid new → mid.live ≡ false → Follows (sealed_plan g at) old new (Err the_cut)
    unfolding sealed_plan
    sealed_half_read was off =
        read_then the_cut first whole (read_cut the_cut (tag_line g at) (λ tags. done (cipher, tag_slot tags at)) was off)

    pub sealed_read : {tags : Line} (tag : List ℕ) → HasRead mid (tag_line g at) tags new → IsLine tags → tag ≡ tag_slot tags at
        → Follows (sealed_plan g at) old new (Ok (cipher, tag))
    unfolding sealed_plan
    sealed_read {tags = tags} tag second tags_whole slot =
        subst (λ t. Follows (sealed_plan g at) old new (Ok (cipher, t))) (sym slot)
        (read_then the_cut first whole (read_then the_cut second tags_whole (is_done (cipher, tag_slot tags at) new)))

-- ---- a window tried

module _ (f : Formulas) (at major : ℕ) (window other : List ℕ) (cipher : Line) (tag : List ℕ) (counts after : SuiteCounts) (d : Device) (same : other ≡ window)
    (counted : after ≡ after_tags (length other) counts) where
  abbrev decided_by : List ℕ → Result ℕ RecFault
  decided_by minors = decided_of (found_among (matching_minors f at major cipher tag minors)) at major cipher tag

  pub window_found : (minor trials : ℕ) → Ok minor ≡ decided_by other → trials ≡ length other
      → Follows (window_plan f at major window cipher tag counts) d d (Ok (after, (minor, trials)))
  unfolding decided_plan
  window_found minor trials is count =
      subst (λ (w : List ℕ). Follows (window_plan f at major w cipher tag counts) d d (Ok (after, (minor, trials)))) same
      (subst (λ (r : Result ℕ RecFault). Follows (decided_plan (length other) (after_tags (length other) counts) r) d d (Ok (after, (minor, trials)))) is
      (subst (λ (s : SuiteCounts). Follows (decided_plan (length other) s (Ok minor)) d d (Ok (after, (minor, trials)))) counted
      (subst (λ (n : ℕ). Follows (decided_plan n after (Ok minor)) d d (Ok (after, (minor, trials)))) count (is_done (after, (minor, trials)) d))))

  pub window_refused : (fault : RecFault) → Err fault ≡ decided_by other
      → Follows (window_plan f at major window cipher tag counts) d d (Err (after, fault))
  unfolding decided_plan
  window_refused fault is =
      subst (λ (w : List ℕ). Follows (window_plan f at major w cipher tag counts) d d (Err (after, fault))) same
      (subst (λ (r : Result ℕ RecFault). Follows (decided_plan (length other) (after_tags (length other) counts) r) d d (Err (after, fault))) is
      (subst (λ (s : SuiteCounts). Follows (decided_plan (length other) s (Err fault)) d d (Err (after, fault))) counted (is_stopped (after, fault) d)))

-- ---- a line

module _ (setup : Setup) (loss : ℕ) (stored : Block) (at : ℕ) (counts : SuiteCounts) where
  pub line_held : (held : Option Progress) (d : Device) → is_some held ≡ true
      → Follows (held_or_tried setup loss stored at counts held) d d (Ok (counts, (slice_index stored.minors (index_in_page at), 0)))
  unfolding held_or_tried
  line_held None d is = absurd (false≢true is)
  line_held (Some register) d is = is_done (counts, (slice_index stored.minors (index_in_page at), 0)) d

  module _ (held : Option Progress) (free : held ≡ None) {old mid : Device} where
    pub line_unread : Follows (sealed_plan setup.shape at) old mid (Err the_cut) → Follows (held_or_tried setup loss stored at counts held) old mid (Err (counts, Fault.Cut))
    unfolding held_or_tried
    line_unread it =
        subst (λ o. Follows (held_or_tried setup loss stored at counts o) old mid (Err (counts, Fault.Cut))) (sym free)
        (bind_err (after_sealed setup loss stored at) (mapped_follows _ _ it))

    pub line_tried : (cipher : Line) (tag : List ℕ) {new : Device} {end : Result (SuiteCounts × (ℕ × ℕ)) (SuiteCounts × RecFault)}
        → Follows (sealed_plan setup.shape at) old mid (Ok (cipher, tag))
        → Follows (window_plan setup.formulas at stored.major (window_minors (slice_index stored.minors (index_in_page at)) loss) cipher tag counts) mid new end
        → Follows (held_or_tried setup loss stored at counts held) old new end
    unfolding held_or_tried
    line_tried cipher tag {new = new} {end = end} first second =
        subst (λ o. Follows (held_or_tried setup loss stored at counts o) old new end) (sym free)
        (bind_ok (after_sealed setup loss stored at) (mapped_follows _ _ first) second)

-- ---- a page, line by line

module _ (setup : Setup) (regs : Regs) (stored : Block) (page i : ℕ) (counts : SuiteCounts) (fixed : Block) (trials : ℕ) {at : ℕ} {old new : Device}
    (place : at ≡ 64 * page + i) (after : SuiteCounts) where
  pub minor_done : (minor tries : ℕ) (next : Block) → next ≡ with_minor fixed i minor
      → Follows (trial_plan setup regs stored at counts) old new (Ok (after, (minor, tries)))
      → Follows (minor_turn setup regs stored page i (counts, (fixed, trials))) old new (Ok (after, (next, trials + tries)))
  minor_done minor tries next is it =
      subst (λ (b : Block). Follows (minor_turn setup regs stored page i (counts, (fixed, trials))) old new (Ok (after, (b, trials + tries)))) (sym is)
      (mapped_follows _ _ (subst (λ n. Follows (trial_plan setup regs stored n counts) old new (Ok (after, (minor, tries)))) place it))

  pub minor_stopped : (fault : RecFault) → Follows (trial_plan setup regs stored at counts) old new (Err (after, fault))
      → Follows (minor_turn setup regs stored page i (counts, (fixed, trials))) old new (Err (after, fault))
  minor_stopped fault it = mapped_follows _ _ (subst (λ n. Follows (trial_plan setup regs stored n counts) old new (Err (after, fault))) place it)

-- ---- a doubted counter block

module _ (setup : Setup) (regs : Regs) (x : ℕ) (at : RecoveryParts) where
  abbrev its_page : ℕ
  its_page = x - level_start setup.shape.levels

  abbrev over : Line → Plan (RecoveryParts × RecFault) (RecoveryParts × ℕ)
  over line =
      mapped (λ left. (recovery_parts at.made left.0, left.1))
      (λ (end : SuiteCounts × (Block × ℕ)). (recovery_parts (at.made ++ made_over x line (packed end.1.0) ∷ []) end.0, end.1.1))
      (minors_plan setup regs its_page (unpacked line) at.counts)

  pub block_unread : {old new : Device} → WasCut old new → old.live ≡ false → Follows (fixed_block_plan setup regs x at) old new (Err (at, Fault.Cut))
  unfolding fixed_block_plan
  block_unread was off = read_cut (at, Fault.Cut) (meta_line setup.shape x) over was off

  module _ {old mid new : Device} {line : Line} (was : HasRead old (meta_line setup.shape x) line mid) (whole : IsLine line) (counts : SuiteCounts) where
    pub block_stopped : (fault : RecFault) → Follows (minors_plan setup regs its_page (unpacked line) at.counts) mid new (Err (counts, fault))
        → Follows (fixed_block_plan setup regs x at) old new (Err (recovery_parts at.made counts, fault))
    unfolding fixed_block_plan
    block_stopped fault it = read_then (at, Fault.Cut) was whole (mapped_follows _ _ it)

    pub block_made_so : (block : Block) (trials : ℕ) (made : List MadeEntry) → made ≡ at.made ++ made_over x line (packed block) ∷ []
        → Follows (minors_plan setup regs its_page (unpacked line) at.counts) mid new (Ok (counts, (block, trials)))
        → Follows (fixed_block_plan setup regs x at) old new (Ok (recovery_parts made counts, trials))
    unfolding fixed_block_plan
    block_made_so block trials made items it =
        subst (λ (m : List MadeEntry). Follows (fixed_block_plan setup regs x at) old new (Ok (recovery_parts m counts, trials))) (sym items)
        (read_then (at, Fault.Cut) was whole (mapped_follows _ _ it))
