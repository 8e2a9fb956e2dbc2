-- What recovery makes of a device and its watch, by its answer.
use Rattle.std.specs.Prelude.{ℕ, ◌≡◌, ◌≢◌, ◌<◌, ◌^◌, ◌⊎◌, true, List, [], All, Option, Some, None, IfSome, MatchOption, Result, Ok, Err, length, ⊤}
use Rattle.pmem_base.specs.declared.lines.Line.{Line}
use Rattle.pmem_base.specs.Counts.{risen_times}
use Rattle.pmem_base.specs.Registers.{without_group}
use Rattle.pmem_base.specs.Lines.{IsLine, line_at}
use Rattle.pmem_base.specs.Shape.{Shape}
use Rattle.pmem_base.specs.Layout.{meta_lines}
use Rattle.suite.specs.Setup.{Setup}
use Rattle.board.specs.Counts.{RisesBy}
use Rattle.board.specs.Device.{Device}
use Rattle.board.specs.declared.device.Board.{Ghosts as BoardOf}
use Rattle.board.specs.Steps.{Tells}
use Rattle.collision_witness.specs.Exhibits.{IsExhibit}
use Rattle.commit_regs.specs.Groups.{redone_told, finishing_latches, RisesAtMost}
use Rattle.call_effects.specs.Outcomes.{Outcome, going, cut_short, shown, HasPower}
use Rattle.call_effects.specs.declared.recovery.Work.{Work}
use Rattle.counter_tree.specs.Nodes.{total}
use Rattle.counter_tree.specs.Layout.{tree_lines, tree_slots, line_of_slot}
use Rattle.counter_tree.specs.Shadow.{ChipTree, IsChipTree, shadow_height, shadow_root, shadow_digests}
use Rattle.counter_tree.specs.Slots.{NamedNode, slot_read}
use Rattle.counter_tree.specs.Watch.{WatchState, HasShown, IsSlotClash}
use Rattle.counter_tree.specs.declared.watch.Watch.{Ghosts as WatchOf}
use Rattle.asit_shadow.specs.declared.recovery.TreeRec.{TreeRec}
use Rattle.asit_shadow.specs.declared.recovery.TreeRec.TheVariants as Fail
use Rattle.asit_shadow.specs.declared.cache.CachedNode.{CachedNode}
use Rattle.asit_shadow.specs.State.{TreeState, cache_at, IsHeldNode}
use Rattle.asit_shadow.specs.Invariants.{IsTreeAnchored, IsTreeTrusted, IsTreeDurable, IsTreeSound, IsTreeSealStored, IsSlotStored, IsTreeOver}
use Rattle.asit_shadow.specs.Places.{IsNodeHeld, IsNodeHeldBy}
use Rattle.asit_shadow.specs.Parts.{IsWatchReady, IsBoardReady}
use Rattle.asit_shadow.specs.Steps.{held_of, IsTreeRecovered}

-- a device and its watch, with no engine
pub record Rest : Type 0 where
  pub device : Device
  pub watch : WatchState

abbrev pub rest_of : Device → WatchState → Rest
rest_of device watch = record { device = device; watch = watch }

abbrev pub rest_at : {B W : Type 0} → BoardOf B → WatchOf W → B → W → Rest
rest_at board watch b w = rest_of (board.device b) (watch.watched w)

-- what recovery asks: the watch and the board are of the geometry
pub record IsRestUsable (g : Shape) (rest : Rest) : Type 0 where
  pub watch : IsWatchReady g rest.watch
  pub board : IsBoardReady g rest.device

-- the device's lines with the armed group redone, if they are exposed
abbrev pub rest_redone : Rest → Option (List Line)
rest_redone rest = redone_told rest.device.regs.group.items rest.device.lines

abbrev pub IsRestAnchored : Setup → Rest → Type 0
IsRestAnchored setup rest = IsTreeAnchored setup rest.device.regs rest.watch

-- the lines are exposed, and durable
abbrev pub IsRestDurable : Setup → Rest → Type 0
IsRestDurable setup rest =
    MatchOption rest.device.lines ⊥ (λ lines. IsTreeDurable setup lines rest.device.regs rest.watch)

-- ---- reads

-- nothing was changed but the count of reads, which rose by n
pub record HasOnlyReadLines (n : ℕ) (old new : Device) : Type 0 where
  pub reads : RisesBy n old.reads new.reads
  pub lines : new.lines ≡ old.lines
  pub regs : new.regs ≡ old.regs
  pub size : new.size ≡ old.size
  pub writes : new.writes ≡ old.writes
  pub latches : new.latches ≡ old.latches
  pub power : HasPower going old new

-- ---- what each answer says

-- these are the slot lines that the device has now
pub record AreSlotsRead (g : Shape) (slots : List Line) (new : Device) : Type 0 where
  pub count : length slots ≡ tree_slots g
  pub whole : All IsLine slots
  pub told : (i : ℕ) → i < tree_slots g → Tells new.lines (line_of_slot g i) (line_at slots i)

-- the root over the slot lines read isn't the register's
pub record IsRootRefused (setup : Setup) (kept found : List ℕ) (old new : Rest) : Type 0 where
  pub slots : List Line
  pub read : AreSlotsRead setup.shape slots new.device
  pub register : kept ≡ old.device.regs.root
  pub root : found ≡ shadow_root setup.shape setup.formulas slots
  pub differ : kept ≢ found

-- the slot lines read have the register's root, and aren't the true ones
pub record IsTreeClashShown (setup : Setup) (old new : Rest) : Type 0 where
  pub slots : List Line
  pub read : AreSlotsRead setup.shape slots new.device
  pub root : shadow_root setup.shape setup.formulas slots ≡ old.device.regs.root
  pub other : slots ≢ old.watch.slots
  pub place : (at : Rattle.pmem_base.specs.declared.answers.Exhibit.Exhibit) × IsSlotClash old.watch slots at × HasShown old.watch new.watch at

-- the slot lines read are the true ones, with the register's root
pub record AreSlotsAccepted (setup : Setup) (old new : Rest) : Type 0 where
  pub slots : List Line
  pub read : AreSlotsRead setup.shape slots new.device
  pub root : shadow_root setup.shape setup.formulas slots ≡ old.device.regs.root
  pub true_slots : slots ≡ old.watch.slots
  pub same : new.watch ≡ old.watch

-- the work of a recovery: no trial, and a digest for each line of the shadow tree
pub record IsTreeWork (g : Shape) (work : Work) (before after : ℕ) : Type 0 where
  pub trials : work.trials ≡ 0
  pub digests : work.digests ≡ shadow_digests g
  pub counted : after ≡ risen_times work.digests before

abbrev pub AnswersRecovery : Setup → Rest → Rest → ℕ → ℕ → Result (TreeState × Work) TreeRec → Type 0
AnswersRecovery setup old new before after (Ok made) =
    AreSlotsAccepted setup old new × IsTreeWork setup.shape made.1 before after
AnswersRecovery setup old new before after (Err Fail.Memory) = new ≡ old
AnswersRecovery setup old new before after (Err Fail.Cut) = new.watch ≡ old.watch
AnswersRecovery setup old new before after (Err (Fail.Shadow kept found)) =
    IsRootRefused setup kept found old new × (new.watch ≡ old.watch)
AnswersRecovery setup old new before after (Err Fail.Shown) = IsTreeClashShown setup old new

-- ---- what each answer leaves

-- the group is finished
pub record IsGroupFinished (old new : Device) : Type 0 where
  pub regs : new.regs ≡ without_group old.regs
  pub writes : RisesBy (length old.regs.group.items) old.writes new.writes
  pub latches : RisesBy (finishing_latches old.regs.group.items) old.latches new.latches

-- a cut comes before it is finished, or after
pub record IsGroupBegun (old new : Device) : Type 0 where
  pub regs : new.regs ≡ old.regs
  pub writes : RisesAtMost (length old.regs.group.items) old.writes new.writes
  pub latches : new.latches ≡ old.latches

abbrev pub outcome_of_recovery : Result (TreeState × Work) TreeRec → Outcome
outcome_of_recovery (Err Fail.Cut) = cut_short
outcome_of_recovery (Err Fail.Shown) = shown
outcome_of_recovery answer = going

abbrev pub FinishesGroup : Result (TreeState × Work) TreeRec → Device → Device → Type 0
FinishesGroup (Err Fail.Memory) old new = new ≡ old
FinishesGroup (Err Fail.Cut) old new = IsGroupBegun old new ⊎ IsGroupFinished old new
FinishesGroup answer old new = IsGroupFinished old new

-- ---- what was done, exactly

-- all slot lines were read, and the shadow tree was made over them: a digest for each of its lines
pub record HasSlotsRead (g : Shape) (old new : Device) (before after : ℕ) : Type 0 where
  pub reads : RisesBy (tree_slots g) old.reads new.reads
  pub digests : after ≡ risen_times (shadow_digests g) before

-- power was cut before a digest was made: if it was on, during a group that was armed
pub record IsRecoveryCut (old new : Device) (before after : ℕ) : Type 0 where
  pub no_digests : after ≡ before
  pub due : old.live ≡ true → old.regs.group.items ≢ []
  pub no_reads : old.live ≡ true → new.reads ≡ old.reads

abbrev pub WorksOfRecovery : Shape → Device → Device → ℕ → ℕ → Result (TreeState × Work) TreeRec → Type 0
WorksOfRecovery g old new before after (Err Fail.Memory) = after ≡ before
WorksOfRecovery g old new before after (Err Fail.Cut) = IsRecoveryCut old new before after
WorksOfRecovery g old new before after answer = HasSlotsRead g old new before after

-- each node that a true slot line names is in its slot, dirty, and nothing else is cached
abbrev pub CachesNamed : Setup → Rest → Result (TreeState × Work) TreeRec → Type 0
CachesNamed setup old (Ok made) = IsRestAnchored setup old → IsTreeRecovered setup old.watch.slots made.0
CachesNamed setup old answer = ⊤

abbrev pub LeavesRestTrusted : Setup → Rest → Result (TreeState × Work) TreeRec → Type 0
LeavesRestTrusted setup new (Ok made) = IsTreeTrusted setup made.0 new.device.regs new.watch
LeavesRestTrusted setup new (Err Fail.Shown) = IfSome new.watch.exhibit (IsExhibit setup.formulas)
LeavesRestTrusted setup new answer = IsRestAnchored setup new

-- over a durable device there is neither a refused root nor a clash
abbrev pub LeavesRestSound : Setup → Rest → Result (TreeState × Work) TreeRec → Type 0
LeavesRestSound setup new (Ok made) =
    MatchOption new.device.lines ⊥ (λ lines. IsTreeSound setup made.0 lines new.device.regs new.watch)
LeavesRestSound setup new (Err Fail.Memory) = IsRestDurable setup new
LeavesRestSound setup new (Err Fail.Cut) = IsRestDurable setup new
LeavesRestSound setup new answer = ⊥

abbrev pub KeepsRestNode : Setup → Rest → Result (TreeState × Work) TreeRec → ℕ → Type 0
KeepsRestNode setup new (Ok made) x =
    IfSome (rest_redone new) (λ lines. IsNodeHeldBy setup made.0 lines new.watch x)
KeepsRestNode setup new answer x = IfSome (rest_redone new) (λ lines. IsNodeHeld setup lines new.watch x)

-- what is stored of each place by itself stays
pub record KeepsRestPlaces (setup : Setup) (old new : Rest) (answer : Result (TreeState × Work) TreeRec) : Type 0 where
  pub seals :
      (a : ℕ) → a < tree_lines setup.shape
      → IfSome (rest_redone old) (λ lines. IsTreeSealStored setup.shape lines old.watch a)
      → IfSome (rest_redone new) (λ lines. IsTreeSealStored setup.shape lines new.watch a)
  pub slots :
      (i : ℕ) → i < tree_slots setup.shape
      → IfSome (rest_redone old) (λ lines. IsSlotStored setup.shape lines old.watch i)
      → IfSome (rest_redone new) (λ lines. IsSlotStored setup.shape lines new.watch i)
  pub nodes :
      (x : ℕ) → x < meta_lines setup.shape
      → IfSome (rest_redone old) (λ lines. IsNodeHeld setup lines old.watch x) → KeepsRestNode setup new answer x

pub record HasTreeRecovered (setup : Setup) (old new : Rest) (before after : ℕ) (answer : Result (TreeState × Work) TreeRec) : Type 0 where
  pub size : new.device.size ≡ old.device.size
  -- what the armed group makes of the lines is the same, whatever was done of it
  pub lines : rest_redone new ≡ rest_redone old
  pub root : new.device.regs.root ≡ old.device.regs.root
  pub group : FinishesGroup answer old.device new.device
  -- power that was on is cut before the group is finished
  pub begun :
      outcome_of_recovery answer ≡ cut_short → old.device.live ≡ true → IsGroupBegun old.device new.device
  pub work : WorksOfRecovery setup.shape old.device new.device before after answer
  pub cached : CachesNamed setup old answer
  pub power : HasPower (outcome_of_recovery answer) old.device new.device
  pub answered : AnswersRecovery setup old new before after answer
  pub trusted : IsRestAnchored setup old → LeavesRestTrusted setup new answer
  pub sound : IsRestDurable setup old → LeavesRestSound setup new answer
  pub places : IsRestAnchored setup old → KeepsRestPlaces setup old new answer

-- the group was finished, and lines were read
pub record IsReadFinished (g : Shape) (old new : Device) : Type 0 where
  pub reads : RisesBy (tree_slots g) old.reads new.reads
  pub lines : new.lines ≡ redone_told old.regs.group.items old.lines
  pub regs : new.regs ≡ without_group old.regs
  pub size : new.size ≡ old.size
  pub group : IsGroupFinished old new
  pub power : HasPower going old new

-- ---- what a slot line names

-- nothing, or a node of the tree that has a version
abbrev pub IsNameable : Shape → Option NamedNode → Type 0
IsNameable g None = ⊤
IsNameable g (Some named) = (named.x < meta_lines g) × (total named.node < 2 ^ 64)

-- ---- the memory that recovery fills

-- each node that a slot line names stands dirty in its slot
abbrev pub AreNamed : Shape → List Line → List (Option CachedNode) → Type 0
AreNamed g slots cache =
    (i : ℕ) → i < tree_slots g → IsNameable g (slot_read (line_at slots i))
    → cache_at cache i ≡ held_of (slot_read (line_at slots i))

-- the true slot lines were read, and each node that they name is in its slot
pub record IsRoomFilled (setup : Setup) (old new : Rest) (before after : ℕ) (cache : List (Option CachedNode)) (tree : ChipTree) : Type 0 where
  pub finished : IsReadFinished setup.shape old.device new.device
  pub accepted : AreSlotsAccepted setup old new
  pub counted : after ≡ risen_times (shadow_digests setup.shape) before
  pub count : length cache ≡ tree_slots setup.shape
  pub each_held : (i : ℕ) (held : CachedNode) → cache_at cache i ≡ Some held → IsHeldNode setup.shape held
  pub named : AreNamed setup.shape old.watch.slots cache
  pub tree_whole : IsChipTree tree
  pub tree_height : tree.height ≡ shadow_height setup.shape
  pub over : IsTreeOver setup old.watch.slots tree

abbrev pub FillsRoom : {T : Type 0} → Setup → Rest → Rest → ℕ → ℕ → List (Option CachedNode) → ChipTree → Result T TreeRec → Type 0
FillsRoom setup old new before after cache tree (Ok done) = IsRoomFilled setup old new before after cache tree
FillsRoom setup old new before after cache tree (Err fault) = HasTreeRecovered setup old new before after (Err fault)
