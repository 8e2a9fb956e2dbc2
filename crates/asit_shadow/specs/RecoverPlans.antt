-- What recovery does of the board, as a plan over the watch and the suite's count of digests. Every answer except running out of memory is
-- told by it.
use Rattle.std.specs.Prelude.{ℕ, ◌^◌, nat_lt, ◌&&◌, Bool, true, false, List, [], ◌∷◌, map, replicate, slice_set, Option, Some, None, Result, Ok, Err, if◌then◌else◌}
use Rattle.pmem_base.specs.declared.faults.Cut.{Cut}
use Rattle.pmem_base.specs.declared.lines.Line.{Line}
use Rattle.pmem_base.specs.declared.registers.Regs.{Regs}
use Rattle.pmem_base.specs.Counts.{risen_times}
use Rattle.pmem_base.specs.Layout.{meta_lines}
use Rattle.pmem_base.specs.Lines.{same_bytes, zero_line}
use Rattle.pmem_base.specs.Shape.{Shape}
use Rattle.suite.specs.Setup.{Setup}
use Rattle.suite.specs.declared.Suite.{Ghosts as SuiteOf}
use Rattle.call_plan.specs.Plans.{Plan, done, stop, read, bind, mapped, repeated}
use Rattle.call_effects.specs.declared.recovery.Work.{Work}
use Rattle.commit_regs.specs.Plans.{redo_plan}
use Rattle.counter_tree.specs.Layout.{tree_slots, line_of_slot}
use Rattle.counter_tree.specs.Nodes.{total}
use Rattle.counter_tree.specs.Plans.{with_exhibit, clash_of, shadow_tree}
use Rattle.counter_tree.specs.Shadow.{shadow_height, shadow_root, shadow_digests}
use Rattle.counter_tree.specs.Slots.{NamedNode, slot_read}
use Rattle.counter_tree.specs.Watch.{WatchState}
use Rattle.counter_tree.specs.declared.watch.Watch.{Ghosts as WatchOf}
use Rattle.asit_shadow.specs.declared.cache.CachedNode.{CachedNode}
use Rattle.asit_shadow.specs.declared.recovery.TreeRec.{TreeRec}
use Rattle.asit_shadow.specs.declared.recovery.TreeRec.TheVariants as Fail
use Rattle.asit_shadow.specs.State.{TreeState}

-- what a recovery works on next to the board
pub record RecoverParts : Type 0 where
  pub watch : WatchState
  pub digests : ℕ

abbrev pub recover_parts : WatchState → ℕ → RecoverParts
recover_parts watch digests = record { watch = watch; digests = digests }

abbrev pub recover_parts_at : {S W : Type 0} → SuiteOf S → WatchOf W → S → W → RecoverParts
recover_parts_at suite watch s w = recover_parts (watch.watched w) (suite.digests s)

-- ---- the slot lines

-- the next slot's line is read
unfoldable pub slot_turn : Shape → RecoverParts → ℕ → List Line → Plan (RecoverParts × TreeRec) (List Line)
slot_turn g at i slots = read (at, Fail.Cut) (line_of_slot g i) (λ line. done (slice_set slots i line))

-- all of them, in order, into as many lines
abbrev pub slots_plan : Shape → RecoverParts → List Line → Plan (RecoverParts × TreeRec) (List Line)
slots_plan g at start = repeated (slot_turn g at) 0 (tree_slots g) start

-- what reading them ends with
abbrev pub slots_end : RecoverParts → Result (Unit {0}) Cut → List Line → Result (List Line) (RecoverParts × TreeRec)
slots_end at (Ok value) slots = Ok slots
slots_end at (Err fault) slots = Err (at, Fail.Cut)

-- ---- the engine

-- a named node, dirty; none if it stands off the tree, or has no version
abbrev pub cached_named : Shape → Option NamedNode → Option CachedNode
cached_named g None = None
cached_named g (Some named) =
    if nat_lt named.x (meta_lines g) && nat_lt (total named.node) (2 ^ 64) then
    Some (record { x = named.x; node = named.node; dirty = true })
    else None

-- the cache with what each slot line names
unfoldable pub cache_named : Shape → List Line → List (Option CachedNode)
cache_named g slots = map (λ line. cached_named g (slot_read line)) slots

abbrev pub recovered_engine : Setup → List Line → TreeState
recovered_engine setup slots =
    record {
      shape = setup.shape;
      cache = cache_named setup.shape slots;
      tree =
          record { height = shadow_height setup.shape; lines = shadow_tree setup.formulas (shadow_height setup.shape) slots };
      down = false;
    }

abbrev pub recovery_work : Shape → Work
recovery_work g = record { trials = 0; digests = shadow_digests g }

-- ---- the whole

abbrev pub same_lines : List Line → List Line → Bool
same_lines [] [] = true
same_lines [] (other ∷ second) = false
same_lines (line ∷ first) [] = false
same_lines (line ∷ first) (other ∷ second) = same_bytes line.0 other.0 && same_lines first second

-- the slot lines are the true ones, or their clash is shown
unfoldable pub seen_plan : Setup → List Line → RecoverParts → Plan (RecoverParts × TreeRec) (RecoverParts × (TreeState × Work))
seen_plan setup slots at =
    if same_lines slots at.watch.slots then done (at, (recovered_engine setup slots, recovery_work setup.shape))
    else stop (recover_parts (with_exhibit at.watch (clash_of at.watch slots)) at.digests, Fail.Shown)

-- the tree over them is made; its root is the one that was kept, or it is refused
unfoldable pub root_plan : Setup → List ℕ → RecoverParts → List Line → Plan (RecoverParts × TreeRec) (RecoverParts × (TreeState × Work))
root_plan setup kept at slots =
    let after = recover_parts at.watch (risen_times (shadow_digests setup.shape) at.digests) in
    let found = shadow_root setup.shape setup.formulas slots in
    if same_bytes kept found then seen_plan setup slots after else stop (after, Fail.Shadow kept found)

-- the armed group is redone, the slot lines are read, and compared
unfoldable pub fill_plan : Setup → Regs → List Line → RecoverParts → Plan (RecoverParts × TreeRec) (RecoverParts × (TreeState × Work))
fill_plan setup regs start at =
    bind (mapped (λ cut. (at, Fail.Cut)) (λ end. end) (redo_plan regs))
    (λ redone. bind (slots_plan setup.shape at start) (root_plan setup regs.root at))

-- what that ends with
abbrev pub filled_end : Result (Unit {0}) TreeRec → RecoverParts → TreeState → Work → Result (RecoverParts × (TreeState × Work)) (RecoverParts × TreeRec)
filled_end (Ok value) at engine work = Ok (at, (engine, work))
filled_end (Err fault) at engine work = Err (at, fault)

abbrev pub tree_recover_plan : Setup → Regs → RecoverParts → Plan (RecoverParts × TreeRec) (RecoverParts × (TreeState × Work))
tree_recover_plan setup regs at = fill_plan setup regs (replicate (tree_slots setup.shape) zero_line) at
