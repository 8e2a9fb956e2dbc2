-- The parts that a call of the engine works on, and what is trusted, durable and sound of them.
use Rattle.std.specs.Prelude.{ℕ, ◌≡◌, ◌<◌, false, List, [], Option, Some, MatchOption, IfSome, IsSome, length}
use Rattle.pmem_base.specs.declared.lines.Line.{Line}
use Rattle.pmem_base.specs.Registers.{IsGroup}
use Rattle.pmem_base.specs.Shape.{Shape}
use Rattle.pmem_base.specs.Layout.{meta_lines}
use Rattle.suite.specs.Setup.{Setup}
use Rattle.suite.specs.declared.Suite.{Ghosts as SuiteOf}
use Rattle.board.specs.Device.{Device}
use Rattle.board.specs.declared.device.Board.{Ghosts as BoardOf}
use Rattle.commit_regs.specs.Groups.{redone_told}
use Rattle.counter_tree.specs.Layout.{tree_lines, tree_slots, tree_size}
use Rattle.counter_tree.specs.Watch.{WatchState, last_seal_of}
use Rattle.counter_tree.specs.declared.watch.Watch.{Ghosts as WatchOf}
use Rattle.asit_shadow.specs.State.{TreeState}
use Rattle.asit_shadow.specs.Invariants.{IsTreeAnchored, IsTreeTrusted, IsTreeDurable, IsTreeSound, IsTreeSealStored, IsSlotStored}
use Rattle.asit_shadow.specs.Places.{IsNodeHeld, IsNodeHeldBy}

-- what is on the chip, the device with its registers, and the watch that it reports to
pub record TreeEngineParts : Type 0 where
  pub engine : TreeState
  pub device : Device
  pub watch : WatchState

abbrev pub tree_parts_of : TreeState → Device → WatchState → TreeEngineParts
tree_parts_of engine device watch = record { engine = engine; device = device; watch = watch }

-- what a call sees of them at a moment, and the setup that it works under
abbrev pub tree_parts_at : {B W : Type 0} → BoardOf B → WatchOf W → TreeState → B → W → TreeEngineParts
tree_parts_at board watch engine b w = tree_parts_of engine (board.device b) (watch.watched w)

abbrev pub tree_setup_at : {S : Type 0} → SuiteOf S → TreeState → S → Setup
tree_setup_at suite engine s = record { shape = engine.shape; formulas = suite.formulas_of (suite.keys s) }

-- the device's lines with the armed group redone, if they are exposed
abbrev pub tree_lines_redone : TreeEngineParts → Option (List Line)
tree_lines_redone parts = redone_told parts.device.regs.group.items parts.device.lines

-- ---- what a call asks of its parts

-- the watch is of the geometry, and has a seal of each data line
pub record IsWatchReady (g : Shape) (watch : WatchState) : Type 0 where
  pub seal_count : length watch.seals ≡ tree_lines g
  pub node_count : length watch.nodes ≡ meta_lines g
  pub slot_count : length watch.slots ≡ tree_slots g
  pub each_sealed : (a : ℕ) → a < tree_lines g → IsSome (last_seal_of watch a)

-- the board has the geometry's size, and its group can be written
pub record IsBoardReady (g : Shape) (device : Device) : Type 0 where
  pub its_size : device.size ≡ tree_size g
  pub group : IsGroup (tree_size g) device.regs.group.items

-- both, and no group is armed, unless the engine is down
pub record IsTreeUsable (g : Shape) (parts : TreeEngineParts) : Type 0 where
  pub watch : IsWatchReady g parts.watch
  pub board : IsBoardReady g parts.device
  pub no_group : parts.engine.down ≡ false → parts.device.regs.group.items ≡ []

-- ---- the whole

abbrev pub AreAnchored : Setup → TreeEngineParts → Type 0
AreAnchored setup parts = IsTreeAnchored setup parts.device.regs parts.watch

abbrev pub AreTreeTrusted : Setup → TreeEngineParts → Type 0
AreTreeTrusted setup parts = IsTreeTrusted setup parts.engine parts.device.regs parts.watch

-- the lines are exposed, and durable
abbrev pub AreTreeDurable : Setup → TreeEngineParts → Type 0
AreTreeDurable setup parts =
    MatchOption parts.device.lines ⊥ (λ lines. IsTreeDurable setup lines parts.device.regs parts.watch)

-- the lines are exposed, and sound
abbrev pub AreTreeSound : Setup → TreeEngineParts → Type 0
AreTreeSound setup parts =
    MatchOption parts.device.lines ⊥ (λ lines. IsTreeSound setup parts.engine lines parts.device.regs parts.watch)

-- ---- place by place, if the lines are exposed: what the device holds once the armed group is redone

-- the last seal of data line a
abbrev pub HoldsTreeSeal : Shape → TreeEngineParts → ℕ → Type 0
HoldsTreeSeal g parts a = IfSome (tree_lines_redone parts) (λ lines. IsTreeSealStored g lines parts.watch a)

-- the true line of slot i
abbrev pub HoldsSlot : Shape → TreeEngineParts → ℕ → Type 0
HoldsSlot g parts i = IfSome (tree_lines_redone parts) (λ lines. IsSlotStored g lines parts.watch i)

-- node x, with power on: it is true on the device, or cached dirty
abbrev pub HoldsNode : Setup → TreeEngineParts → ℕ → Type 0
HoldsNode setup parts x = IfSome (tree_lines_redone parts) (λ lines. IsNodeHeldBy setup parts.engine lines parts.watch x)

-- if the lines are exposed, it is neither
abbrev pub IsNodeUnheld : Setup → TreeEngineParts → ℕ → Type 0
IsNodeUnheld setup parts x =
    (lines : List Line) → tree_lines_redone parts ≡ Some lines
    → IsNodeHeldBy setup parts.engine lines parts.watch x → ⊥

-- node x, with power off: it is true on the device, or named by its slot
abbrev pub KeepsNode : Setup → TreeEngineParts → ℕ → Type 0
KeepsNode setup parts x = IfSome (tree_lines_redone parts) (λ lines. IsNodeHeld setup lines parts.watch x)
