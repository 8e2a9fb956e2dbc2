-- What recovery does of the board, as a plan over the suite's counts of tags and digests: each part has a plan of its
-- own, in the order of the work.
use Rattle.std.specs.Prelude.{ℕ, ◌+◌, ◌-◌, ◌*◌, Bool, List, [], ◌∷◌, ◌++◌, length, slice_index, filter, Option, Some, None, Result, Ok, Err, if◌then◌else◌}
use Rattle.std.specs.List.{range_with_len}
use Rattle.pmem_base.specs.declared.faults.Cut.{Cut}
use Rattle.pmem_base.specs.declared.lines.Line.{Line}
use Rattle.pmem_base.specs.declared.registers.Progress.{Progress}
use Rattle.pmem_base.specs.declared.registers.Regs.{Regs}
use Rattle.pmem_base.specs.Counts.{risen, risen_times}
use Rattle.pmem_base.specs.Shape.{Shape}
use Rattle.pmem_base.specs.Layout as layout
use Rattle.pmem_base.specs.Layout.{index_in_page, level_start}
use Rattle.pmem_base.specs.Lines.{line_at, same_bytes, tag_slot, zero_line}
use Rattle.pmem_base.specs.Registers.{without_group}
use Rattle.call_plan.specs.Plans.{Plan, done, stop, read, write, bind, mapped, repeated, for_each, the_cut}
use Rattle.split_counters.specs.declared.Block.{Block}
use Rattle.split_counters.specs.Blocks.{packed, unpacked, with_minor}
use Rattle.page_reencrypt.specs.Registers.{register_held}
use Rattle.bonsai_tree.specs.Nodes.{node_of}
use Rattle.suite.specs.declared.Suite.{Ghosts as SuiteOf}
use Rattle.suite.specs.Formulas.{Formulas}
use Rattle.suite.specs.Setup.{Setup}
use Rattle.stop_loss.specs.Trials.{matching_minors, found_among}
use Rattle.stop_loss.specs.Windows.{window_minors}
use Rattle.pmem_engine.specs.Engine.{EngineState}
use Rattle.pmem_engine.specs.Mendable.{new_engine}
use Rattle.commit_regs.specs.Plans.{redo_plan}
use Rattle.pmem_recovery.specs.declared.entries.MadeEntry.{MadeEntry}
use Rattle.call_effects.specs.declared.recovery.Work.{Work}
use Rattle.pmem_recovery.specs.declared.faults.RecFault.{RecFault}
use Rattle.pmem_recovery.specs.declared.faults.RecFault.TheVariants as Fault
use Rattle.pmem_recovery.specs.Named.{doubts}
use Rattle.pmem_recovery.specs.Upward.{line_made, is_other}
use Rattle.call_effects.specs.SuiteStates.{SuiteState}
use Rattle.pmem_recovery.specs.Parts.{decided_of}

-- ---- the state next to the board

-- the suite's counts of tags and digests
pub record SuiteCounts : Type 0 where
  pub tags : ℕ
  pub digests : ℕ

abbrev pub suite_counts : ℕ → ℕ → SuiteCounts
suite_counts tags digests = record { tags = tags; digests = digests }

abbrev pub counts_of : SuiteState → SuiteCounts
counts_of suite = suite_counts suite.tags suite.digests

-- the lines made so far, and those counts
pub record RecoveryParts : Type 0 where
  pub made : List MadeEntry
  pub counts : SuiteCounts

abbrev pub recovery_parts : List MadeEntry → SuiteCounts → RecoveryParts
recovery_parts made counts = record { made = made; counts = counts }

-- the counts at a moment of a call
module _ {S : Type 0} (suite : SuiteOf S) where
  abbrev pub counts_at : S → SuiteCounts
  counts_at s = suite_counts (suite.tags s) (suite.digests s)

-- the counts after that many tags, and after one digest
abbrev pub after_tags : ℕ → SuiteCounts → SuiteCounts
after_tags n counts = suite_counts (risen_times n counts.tags) counts.digests

abbrev pub after_digest : SuiteCounts → SuiteCounts
after_digest counts = suite_counts counts.tags (risen counts.digests)

-- the doubted positions from a on and below b, upwards
abbrev pub doubted_positions : Shape → List Line → ℕ → ℕ → List ℕ
doubted_positions g shadow a b = filter (λ x. doubts g shadow x) (range_with_len a (b - a))

-- what is made for position x, whose line was read
abbrev pub made_over : ℕ → Line → Line → MadeEntry
made_over x stored line = record { at = x; line = line; changed = is_other stored line }

-- ---- the shadow lines

abbrev pub shadow_turn : Shape → ℕ → List Line × Unit {0} → Plan (List Line × Cut) (List Line × Unit {0})
shadow_turn g n before = read (before.0, the_cut) (layout.shadow_line g n) (λ line. done (before.0 ++ line ∷ [], tt))

-- all of them are read, by numbers upwards
abbrev pub shadow_plan : Shape → Plan (List Line × Cut) (List Line × Unit {0})
shadow_plan g = repeated (shadow_turn g) 0 (layout.shadow_lines g) ([], tt)

-- ---- the trials of a line

-- the one minor found, with the number of trials, or why there is none
unfoldable pub decided_plan : ℕ → SuiteCounts → Result ℕ RecFault → Plan (SuiteCounts × RecFault) (SuiteCounts × (ℕ × ℕ))
decided_plan trials counts (Ok minor) = done (counts, (minor, trials))
decided_plan trials counts (Err fault) = stop (counts, fault)

-- each minor of a window is tried against a cipher and its tag
abbrev pub window_plan : Formulas → ℕ → ℕ → List ℕ → Line → List ℕ → SuiteCounts → Plan (SuiteCounts × RecFault) (SuiteCounts × (ℕ × ℕ))
window_plan f at major window cipher tag counts =
    decided_plan (length window) (after_tags (length window) counts)
    (decided_of (found_among (matching_minors f at major cipher tag window)) at major cipher tag)

-- a data line and its tag line are read
unfoldable pub sealed_plan : Shape → ℕ → Plan Cut (Line × List ℕ)
sealed_plan g at =
    read the_cut at (λ cipher. read the_cut (layout.tag_line g at) (λ tags. done (cipher, tag_slot tags at)))

-- the minors of the stored one's window are tried against them
abbrev pub after_sealed : Setup → ℕ → Block → ℕ → SuiteCounts × (Line × List ℕ) → Plan (SuiteCounts × RecFault) (SuiteCounts × (ℕ × ℕ))
after_sealed setup loss stored at sealed =
    window_plan setup.formulas at stored.major (window_minors (slice_index stored.minors (index_in_page at)) loss)
    sealed.1.0 sealed.1.1 sealed.0

-- the stored minor stays if a register holds the line
unfoldable pub held_or_tried : Setup → ℕ → Block → ℕ → SuiteCounts → Option Progress → Plan (SuiteCounts × RecFault) (SuiteCounts × (ℕ × ℕ))
held_or_tried setup loss stored at counts (Some register) = done (counts, (slice_index stored.minors (index_in_page at), 0))
held_or_tried setup loss stored at counts None =
    bind (mapped (λ cut. (counts, Fault.Cut)) (λ sealed. (counts, sealed)) (sealed_plan setup.shape at))
    (after_sealed setup loss stored at)

abbrev pub trial_plan : Setup → Regs → Block → ℕ → SuiteCounts → Plan (SuiteCounts × RecFault) (SuiteCounts × (ℕ × ℕ))
trial_plan setup regs stored at counts = held_or_tried setup regs.loss stored at counts (register_held regs.progress.items at)

-- ---- the doubted counter blocks

-- line i of a page, whose minor takes its place in the block
abbrev pub minor_turn : Setup → Regs → Block → ℕ → ℕ → SuiteCounts × (Block × ℕ) → Plan (SuiteCounts × RecFault) (SuiteCounts × (Block × ℕ))
minor_turn setup regs stored page i before =
    mapped (λ left. left) (λ end. (end.0, (with_minor before.1.0 i end.1.0, before.1.1 + end.1.1)))
    (trial_plan setup regs stored (64 * page + i) before.0)

-- all lines of a page, upwards: its block with their minors, and the number of trials
abbrev pub minors_plan : Setup → Regs → ℕ → Block → SuiteCounts → Plan (SuiteCounts × RecFault) (SuiteCounts × (Block × ℕ))
minors_plan setup regs page stored counts = repeated (minor_turn setup regs stored page) 0 64 (counts, (stored, 0))

-- position x: its counter block is read, and made of the minors of its page's lines
unfoldable pub fixed_block_plan : Setup → Regs → ℕ → RecoveryParts → Plan (RecoveryParts × RecFault) (RecoveryParts × ℕ)
fixed_block_plan setup regs x at =
    read (at, Fault.Cut) (layout.meta_line setup.shape x) (λ line.
    mapped (λ left. (recovery_parts at.made left.0, left.1))
    (λ end. (recovery_parts (at.made ++ made_over x line (packed end.1.0) ∷ []) end.0, end.1.1))
    (minors_plan setup regs (x - level_start setup.shape.levels) (unpacked line) at.counts))

abbrev pub block_turn : Setup → Regs → ℕ → RecoveryParts × ℕ → Plan (RecoveryParts × RecFault) (RecoveryParts × ℕ)
block_turn setup regs x before = mapped (λ left. left) (λ end. (end.0, before.1 + end.1)) (fixed_block_plan setup regs x before.0)

-- all doubted ones, upwards; the answer is the number of trials
abbrev pub blocks_plan : Setup → Regs → List Line → RecoveryParts → Plan (RecoveryParts × RecFault) (RecoveryParts × ℕ)
blocks_plan setup regs shadow at =
    for_each (block_turn setup regs)
    (doubted_positions setup.shape shadow (level_start setup.shape.levels) (layout.meta_lines setup.shape)) (at, 0)

-- ---- the doubted nodes

-- the line made for a position, or the device's, which is read
unfoldable pub line_made_or : Shape → ℕ → Option Line → Plan Cut Line
line_made_or g x (Some line) = done line
line_made_or g x None = read the_cut (layout.meta_line g x) (λ line. done line)

abbrev pub made_plan : Shape → List MadeEntry → ℕ → Plan Cut Line
made_plan g made x = line_made_or g x (line_made made x)

-- the child of x in slot i, whose digest follows those before
abbrev pub child_turn : Setup → List MadeEntry → ℕ → ℕ → SuiteCounts × List (List ℕ) → Plan (SuiteCounts × Cut) (SuiteCounts × List (List ℕ))
child_turn setup made x i before =
    mapped (λ cut. (before.0, cut))
    (λ line. (after_digest before.0, before.1 ++ setup.formulas.digest_of (4 * x + 1 + i) line ∷ []))
    (made_plan setup.shape made (4 * x + 1 + i))

-- the node over the four children of x
unfoldable pub children_plan : Setup → List MadeEntry → ℕ → SuiteCounts → Plan (SuiteCounts × Cut) (SuiteCounts × Line)
children_plan setup made x counts =
    mapped (λ left. left) (λ end. (end.0, node_of end.1)) (repeated (child_turn setup made x) 0 4 (counts, []))

-- position x: its node is read, and made over its children
unfoldable pub fixed_node_plan : Setup → ℕ → RecoveryParts → Plan (RecoveryParts × Cut) (RecoveryParts × Unit {0})
fixed_node_plan setup x at =
    read (at, the_cut) (layout.meta_line setup.shape x) (λ line.
    mapped (λ left. (recovery_parts at.made left.0, left.1))
    (λ end. (recovery_parts (at.made ++ made_over x line end.1 ∷ []) end.0, tt))
    (children_plan setup at.made x at.counts))

abbrev pub node_turn : Setup → ℕ → RecoveryParts × ℕ → Plan (RecoveryParts × Cut) (RecoveryParts × ℕ)
node_turn setup x before = mapped (λ left. left) (λ end. (end.0, before.1 + 4)) (fixed_node_plan setup x before.0)

-- the doubted ones of a level, upwards; the answer is the number of digests
abbrev pub fixed_level_plan : Setup → List Line → ℕ → RecoveryParts → Plan (RecoveryParts × Cut) (RecoveryParts × ℕ)
fixed_level_plan setup shadow level at =
    for_each (node_turn setup) (doubted_positions setup.shape shadow (level_start level) (level_start (level + 1))) (at, 0)

abbrev pub level_turn : Setup → List Line → ℕ → RecoveryParts × ℕ → Plan (RecoveryParts × Cut) (RecoveryParts × ℕ)
level_turn setup shadow above before =
    mapped (λ left. left) (λ end. (end.0, before.1 + end.1)) (fixed_level_plan setup shadow (setup.shape.levels - 1 - above) before.0)

-- all levels of nodes, from the lowest up
abbrev pub nodes_plan : Setup → List Line → RecoveryParts → Plan (RecoveryParts × Cut) (RecoveryParts × ℕ)
nodes_plan setup shadow at = repeated (level_turn setup shadow) 0 setup.shape.levels (at, 0)

-- ---- the root

-- the found root is the kept one, or both are answered
unfoldable pub compare_plan : List ℕ → List ℕ → SuiteCounts → Plan (SuiteCounts × RecFault) (SuiteCounts × Unit {0})
compare_plan kept found counts =
    if same_bytes kept found then done (counts, tt) else stop (counts, Fault.Root kept found)

abbrev pub top_plan : Setup → List ℕ → SuiteCounts × Line → Plan (SuiteCounts × RecFault) (SuiteCounts × Unit {0})
top_plan setup root top = compare_plan root (setup.formulas.digest_of 0 top.1) (after_digest top.0)

-- the top line's digest is compared with the root register
unfoldable pub root_plan : Setup → List ℕ → List MadeEntry → SuiteCounts → Plan (SuiteCounts × RecFault) (SuiteCounts × Unit {0})
root_plan setup root made counts =
    bind (mapped (λ cut. (counts, Fault.Cut)) (λ line. (counts, line)) (made_plan setup.shape made 0)) (top_plan setup root)

-- ---- what is made

-- the shadow lines, what was made by them, and how much was tried
pub record MadeLines : Type 0 where
  pub shadow : List Line
  pub made : List MadeEntry
  pub work : Work

abbrev pub made_lines : List Line → List MadeEntry → ℕ → ℕ → MadeLines
made_lines shadow made trials digests =
    record { shadow = shadow; made = made; work = record { trials = trials; digests = digests } }

-- what was made at the end, with the counts that are left
abbrev pub made_end : Result Work RecFault → List Line → List MadeEntry → SuiteCounts → Result (SuiteCounts × MadeLines) (SuiteCounts × RecFault)
made_end (Ok work) shadow made counts = Ok (counts, record { shadow = shadow; made = made; work = work })
made_end (Err fault) shadow made counts = Err (counts, fault)

-- once the nodes are made, the root is compared
abbrev pub after_nodes : Setup → Regs → List Line → ℕ → RecoveryParts × ℕ → Plan (SuiteCounts × RecFault) (SuiteCounts × MadeLines)
after_nodes setup regs shadow trials nodes =
    mapped (λ left. left) (λ end. (end.0, made_lines shadow nodes.0.made trials (nodes.1 + 1)))
    (root_plan setup regs.root nodes.0.made nodes.0.counts)

-- once the counter blocks are, the nodes are made
abbrev pub after_blocks : Setup → Regs → List Line → RecoveryParts × ℕ → Plan (SuiteCounts × RecFault) (SuiteCounts × MadeLines)
after_blocks setup regs shadow blocks =
    bind (mapped (λ left. (left.0.counts, Fault.Cut)) (λ end. end) (nodes_plan setup shadow blocks.0))
    (after_nodes setup regs shadow blocks.1)

-- once the shadow lines are read, the counter blocks are made
abbrev pub after_shadow : Setup → Regs → SuiteCounts → List Line × Unit {0} → Plan (SuiteCounts × RecFault) (SuiteCounts × MadeLines)
after_shadow setup regs counts shadow =
    bind (mapped (λ left. (left.0.counts, left.1)) (λ end. end) (blocks_plan setup regs shadow.0 (recovery_parts [] counts)))
    (after_blocks setup regs shadow.0)

unfoldable pub making_plan : Setup → Regs → SuiteCounts → Plan (SuiteCounts × RecFault) (SuiteCounts × MadeLines)
making_plan setup regs counts =
    bind (mapped (λ left. (counts, Fault.Cut)) (λ end. end) (shadow_plan setup.shape)) (after_shadow setup regs counts)

-- ---- the writes

-- a line is written if it is another one than the device's
unfoldable pub changed_plan : ℕ → Line → Bool → Plan Cut (Unit {0})
changed_plan at line changed = if changed then write the_cut at line (done tt) else done tt

abbrev pub entry_turn : Shape → MadeEntry → Unit {0} → Plan Cut (Unit {0})
entry_turn g entry before = changed_plan (layout.meta_line g entry.at) entry.line entry.changed

-- the lines made, in order
abbrev pub entries_plan : Shape → List MadeEntry → Plan Cut (Unit {0})
entries_plan g made = for_each (entry_turn g) made tt

abbrev pub clear_turn : Shape → List Line → ℕ → Unit {0} → Plan Cut (Unit {0})
clear_turn g shadow n before = changed_plan (layout.shadow_line g n) zero_line (is_other (line_at shadow n) zero_line)

-- zeros over the shadow lines, by numbers upwards
abbrev pub clear_plan : Shape → List Line → Plan Cut (Unit {0})
clear_plan g shadow = repeated (clear_turn g shadow) 0 (layout.shadow_lines g) tt

-- what was made is written, and then the shadow lines are cleared
abbrev pub writes_plan : Setup → SuiteCounts × MadeLines → Plan (SuiteCounts × RecFault) (SuiteCounts × Work)
writes_plan setup made =
    mapped (λ cut. (made.0, Fault.Cut)) (λ end. (made.0, made.1.work))
    (bind (entries_plan setup.shape made.1.made) (λ written. clear_plan setup.shape made.1.shadow))

-- ---- the whole

-- if no group is armed
unfoldable pub mend_plan : Setup → Regs → SuiteCounts → Plan (SuiteCounts × RecFault) (SuiteCounts × Work)
mend_plan setup regs counts = bind (making_plan setup regs counts) (writes_plan setup)

abbrev pub after_redo : Setup → Regs → SuiteCounts → Unit {0} → Plan (SuiteCounts × RecFault) (SuiteCounts × (EngineState × Work))
after_redo setup regs counts redone =
    mapped (λ left. left) (λ end. (end.0, (new_engine setup.shape, end.1))) (mend_plan setup (without_group regs) counts)

-- The armed group is redone, and then the device is mended. The answer is an engine with nothing cached, and how much
-- was tried.
unfoldable pub recover_plan : Setup → Regs → SuiteCounts → Plan (SuiteCounts × RecFault) (SuiteCounts × (EngineState × Work))
recover_plan setup regs counts =
    bind (mapped (λ cut. (counts, Fault.Cut)) (λ end. end) (redo_plan regs)) (after_redo setup regs counts)
