-- What formatting does to the device and to the ledger, and how it leaves them.
use Rattle.std.specs.Prelude.{ℕ, zero, suc, ◌≡◌, ◌≢◌, ◌≤◌, ◌<◌, ◌+◌, ◌-◌, ◌*◌, ◌⊎◌, true, Ok, List, ◌++◌, map, length, is_some, Some, option_map}
use Rattle.std.specs.List.{range_with_len}
use Rattle.pmem_base.specs.declared.faults.Cut.{Cut}
use Rattle.pmem_base.specs.declared.lines.Line.{Line}
use Rattle.pmem_base.specs.declared.lines.Ctr.{Ctr}
use Rattle.pmem_base.specs.declared.registers.Regs.{Regs}
use Rattle.pmem_base.specs.Shape.{Shape}
use Rattle.pmem_base.specs.Layout as layout
use Rattle.pmem_base.specs.Lines.{line_at, tag_slot, zero_line}
use Rattle.pmem_base.specs.Marks.{last_seal}
use Rattle.pmem_base.specs.Registers.{empty_regs}
use Rattle.board.specs.Counts.{RisesBy}
use Rattle.board.specs.Device.{Device}
use Rattle.call_plan.specs.Plans.{Plan, done, write, latch, bind, repeated, the_cut}
use Rattle.call_plan.specs.Following.{Follows}
use Rattle.line_seal.specs.Seals.{with_tag}
use Rattle.split_counters.specs.Blocks.{packed}
use Rattle.bonsai_tree.specs.Positions.{level_of}
use Rattle.bonsai_tree.specs.Nodes.{node_over}
use Rattle.suite.specs.Formulas.{cipher_of}
use Rattle.suite.specs.Setup.{Setup}
use Rattle.seal_ledger.specs.Ledger.{LedgerState}
use Rattle.plain_model.specs.View.{plain_line}
use Rattle.pmem_engine.specs.Engine.{EngineState, on_chip}
use Rattle.pmem_engine.specs.Invariants.{IsAnchored, IsTrusted, IsSound, stored_meta}
use Rattle.pmem_engine.specs.Mendable.{new_engine}
use Rattle.pmem_engine.specs.Formatted.{first_seal, first_block}
use Rattle.pmem_recovery.specs.Parts.{IfLinesTold}
use Rattle.pmem_recovery.specs.Writing.{IfBothLinesTold}

-- ---- the first seals

abbrev pub first_counter : Setup → Ctr
first_counter setup = record { major = setup.shape.major; minor = 0 }

-- zeros under the first major and 0, and the tag
abbrev pub first_cipher : Setup → ℕ → Line
first_cipher setup a = cipher_of setup.formulas a (first_counter setup) zero_line

abbrev pub first_tag : Setup → ℕ → List ℕ
first_tag setup a = setup.formulas.tag_of a (first_counter setup) (first_cipher setup a)

-- line a and its tag on the device
pub record IsFirstSealed (setup : Setup) (lines : List Line) (a : ℕ) : Type 0 where
  pub cipher : line_at lines a ≡ first_cipher setup a
  pub tag : tag_slot (line_at lines (layout.tag_line setup.shape a)) a ≡ first_tag setup a

-- k lines from a on are sealed, in order
pub record HasSealedFrom (setup : Setup) (a k : ℕ) (old new : LedgerState) : Type 0 where
  pub marks : new.marks ≡ old.marks ++ map (first_seal setup) (range_with_len a k)
  pub truth : new.truth ≡ old.truth
  pub data_lines : new.data_lines ≡ old.data_lines
  pub exhibit : new.exhibit ≡ old.exhibit

-- ---- the device

-- four lines are sealed, and all others but their tag line are as they were
pub record HasSealedGroup (setup : Setup) (group : ℕ) (old new : Device) : Type 0 where
  pub sealed :
      IfLinesTold new.lines (λ now. length now ≡ layout.device_lines setup.shape
      → (a : ℕ) → 4 * group ≤ a → a < 4 * group + 4 → IsFirstSealed setup now a)
  pub others :
      IfBothLinesTold old new (λ lines now. (d : ℕ) → (d < 4 * group) ⊎ (4 * group + 4 ≤ d)
      → d ≢ layout.data_lines setup.shape + group → line_at now d ≡ line_at lines d)

-- the first n lines are sealed
abbrev pub HasSealedAll : Setup → ℕ → Device → Type 0
HasSealedAll setup n new =
    IfLinesTold new.lines (λ now. length now ≡ layout.device_lines setup.shape
    → (a : ℕ) → a < n → IsFirstSealed setup now a)

-- the first n metadata lines are reported
pub record HasToldMeta (g : Shape) (truth : List Line) (n : ℕ) (old new : LedgerState) : Type 0 where
  pub lines : (x : ℕ) → x < n → line_at new.truth x ≡ line_at truth x
  pub count : length new.truth ≡ length old.truth
  pub marks : new.marks ≡ old.marks
  pub data_lines : new.data_lines ≡ old.data_lines
  pub exhibit : new.exhibit ≡ old.exhibit

-- and written; data lines and tag lines are as they were
pub record HasWrittenMeta (g : Shape) (truth : List Line) (n : ℕ) (old new : Device) : Type 0 where
  pub meta :
      IfLinesTold new.lines (λ now. length now ≡ layout.device_lines g
      → (x : ℕ) → x < n → stored_meta g now x ≡ line_at truth x)
  pub others :
      IfBothLinesTold old new (λ lines now. (d : ℕ) → d < 80 * layout.pages g
      → line_at now d ≡ line_at lines d)

-- the first n shadow lines are zero; all lines before the shadow lines are as they were
pub record HasClearedTables (g : Shape) (n : ℕ) (old new : Device) : Type 0 where
  pub zero :
      IfLinesTold new.lines (λ now. length now ≡ layout.device_lines g
      → (m : ℕ) → m < n → line_at now (layout.shadow_line g m) ≡ zero_line)
  pub others :
      IfBothLinesTold old new (λ lines now. (d : ℕ) → d < layout.shadow_line g 0
      → line_at now d ≡ line_at lines d)

-- the root of a top line, and the geometry's stop-loss number
abbrev pub first_regs : Setup → Line → Regs
first_regs setup top =
    record empty_regs { root = setup.formulas.digest_of 0 top; loss = setup.shape.loss }

-- ---- the metadata lines

-- metadata line x, which has j levels below it
abbrev pub first_line_above : Setup → ℕ → ℕ → Line
first_line_above setup zero x = packed (first_block setup.shape)
first_line_above setup (suc j) x = node_over setup.formulas x (first_line_above setup j)

abbrev pub first_line : Setup → ℕ → Line
first_line setup x = first_line_above setup (setup.shape.levels - level_of x) x

-- all of them
unfoldable pub first_truth : Setup → List Line
first_truth setup = map (first_line setup) (range_with_len 0 (layout.meta_lines setup.shape))

-- ---- the plan, on a board that isn't cut

-- line i of a group is sealed, and its tag takes its slot of the tag line
abbrev pub seal_turn : Setup → ℕ → ℕ → Line → Plan Cut Line
seal_turn setup group i tags =
    write the_cut (4 * group + i) (first_cipher setup (4 * group + i))
    (done (with_tag tags (4 * group + i) (first_tag setup (4 * group + i))))

-- the four lines of a group, and their tag line
unfoldable pub group_plan : Setup → ℕ → Plan Cut (Unit {0})
group_plan setup group =
    bind (repeated (seal_turn setup group) 0 4 zero_line)
    (λ tags. write the_cut (layout.tag_line setup.shape (4 * group)) tags (done tt))

abbrev pub group_turn : Setup → ℕ → Unit {0} → Plan Cut (Unit {0})
group_turn setup group before = group_plan setup group

-- all data lines and tag lines, group by group
abbrev pub seals_plan : Setup → Plan Cut (Unit {0})
seals_plan setup = repeated (group_turn setup) 0 (16 * layout.pages setup.shape) tt

abbrev pub meta_turn : Shape → List Line → ℕ → Unit {0} → Plan Cut (Unit {0})
meta_turn g truth x before = write the_cut (layout.meta_line g x) (line_at truth x) (done tt)

-- the metadata lines, by positions upwards
abbrev pub metas_plan : Shape → List Line → Plan Cut (Unit {0})
metas_plan g truth = repeated (meta_turn g truth) 0 (layout.meta_lines g) tt

abbrev pub zero_turn : Shape → ℕ → Unit {0} → Plan Cut (Unit {0})
zero_turn g n before = write the_cut (layout.shadow_line g n) zero_line (done tt)

-- zero shadow lines, by numbers upwards
abbrev pub zeros_plan : Shape → Plan Cut (Unit {0})
zeros_plan g = repeated (zero_turn g) 0 (layout.shadow_lines g) tt

-- then one latch of the root and the stop-loss number
abbrev pub after_zeros : Setup → List Line → Unit {0} → Plan Cut (Unit {0})
after_zeros setup truth cleared = latch the_cut (first_regs setup (line_at truth 0)) (done tt)

abbrev pub after_metas : Setup → List Line → Unit {0} → Plan Cut (Unit {0})
after_metas setup truth told = bind (zeros_plan setup.shape) (after_zeros setup truth)

abbrev pub after_seals : Setup → List Line → Unit {0} → Plan Cut (Unit {0})
after_seals setup truth sealed = bind (metas_plan setup.shape truth) (after_metas setup truth)

unfoldable pub format_plan : Setup → Plan Cut (Unit {0})
format_plan setup = bind (seals_plan setup) (after_seals setup (first_truth setup))

-- ---- the whole

-- what formatting leaves: a sound memory of zero lines, each sealed once, with an engine that has nothing
-- cached
pub record HasFormatted (setup : Setup) (ledger : LedgerState) (old new : Device) (engine : EngineState) :
    Type 0 where
  pub engine_new : engine ≡ new_engine setup.shape
  pub anchored : IsAnchored setup new.regs ledger
  pub trusted : IsTrusted setup (on_chip engine) new.regs ledger
  pub sound : IfLinesTold new.lines (λ now. IsSound setup (on_chip engine) now new.regs ledger)
  pub marks : ledger.marks ≡ map (first_seal setup) (range_with_len 0 (layout.data_lines setup.shape))
  pub seals : length ledger.marks ≡ layout.data_lines setup.shape
  pub last_counters :
      (a : ℕ) → a < layout.data_lines setup.shape
      → option_map (λ seal. seal.ctr) (last_seal ledger.marks a) ≡ Some (first_counter setup)
  pub plain :
      (a : ℕ) → a < layout.data_lines setup.shape
      → plain_line setup.formulas ledger.marks a ≡ Some zero_line
  pub truth : ledger.truth ≡ first_truth setup
  pub regs : new.regs ≡ first_regs setup (line_at ledger.truth 0)
  pub size : new.size ≡ old.size
  pub told : is_some new.lines ≡ is_some old.lines
  pub steady : new.steady ≡ true
  pub live : old.live ≡ true → new.live ≡ true
  pub writes : RisesBy (layout.device_lines setup.shape) old.writes new.writes
  pub latches : RisesBy 1 old.latches new.latches
  pub reads : new.reads ≡ old.reads
  pub cuts : new.cuts ≡ old.cuts
  pub plan : Follows (format_plan setup) old new (Ok tt)
