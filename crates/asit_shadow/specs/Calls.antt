-- What each call of the engine makes of its parts: one relation a call.
use Rattle.std.specs.Prelude.{ℕ, ◌≡◌, ◌≢◌, ◌<◌, ◌≤◌, ◌-◌, ◌^◌, ◌⊎◌, ◌↔◌, true, false, not, ◌||◌, Some, None, IfSome, IsSome, Result, Ok, Err, ⊤}
use Rattle.pmem_base.specs.declared.lines.Line.{Line}
use Rattle.pmem_base.specs.declared.registers.Regs.{Regs}
use Rattle.pmem_base.specs.declared.answers.Exhibit.TheVariants.{Forged}
use Rattle.pmem_base.specs.Layout.{meta_lines}
use Rattle.pmem_base.specs.Lines.{tag_slot}
use Rattle.suite.specs.Setup.{Setup}
use Rattle.suite.specs.Formulas.{cipher_of}
use Rattle.board.specs.Counts.{RisesBy}
use Rattle.board.specs.Steps.{Tells}
use Rattle.collision_witness.specs.Exhibits.{IsExhibit}
use Rattle.call_effects.specs.Outcomes.{Outcome, going, cut_short, shown, is_going, HasPower}
use Rattle.counter_tree.specs.declared.nodes.Node.{Node}
use Rattle.counter_tree.specs.declared.watch.LineSeal.{LineSeal}
use Rattle.counter_tree.specs.Nodes.{total, version_counter, node_read}
use Rattle.counter_tree.specs.Layout.{tree_lines, tree_slots, line_of_tag, line_of_node}
use Rattle.counter_tree.specs.Trees.{node_at, line_counter, is_on_line_path}
use Rattle.counter_tree.specs.Watch.{WatchState, last_seal_of, forged_node}
use Rattle.asit_shadow.specs.declared.fault.TreeFault.{TreeFault}
use Rattle.asit_shadow.specs.declared.fault.TreeFault.TheVariants as Fail
use Rattle.asit_shadow.specs.State.{top_node, IsCached}
use Rattle.asit_shadow.specs.Paths.{IsNodePathCached}
use Rattle.asit_shadow.specs.Steps.{IsTreeArmed, IsTreeEmptied, tree_plain_line}
use Rattle.asit_shadow.specs.Parts.{TreeEngineParts, AreAnchored, AreTreeTrusted, AreTreeDurable, AreTreeSound, HoldsTreeSeal, HoldsSlot, HoldsNode, IsNodeUnheld, KeepsNode}
use Rattle.asit_shadow.specs.Work.{WorksOfRead, WorksOfWrite}

-- ---- ends of a call

abbrev pub outcome_of_tree_fault : TreeFault → Outcome
outcome_of_tree_fault Fail.Cut = cut_short
outcome_of_tree_fault Fail.Shown = shown
outcome_of_tree_fault fault = going

abbrev pub tree_outcome_of : {T : Type 0} → Result T TreeFault → Outcome
tree_outcome_of (Ok value) = going
tree_outcome_of (Err fault) = outcome_of_tree_fault fault

abbrev pub IsTreeDownAnswer : {T : Type 0} → Result T TreeFault → Type 0
IsTreeDownAnswer (Err Fail.Down) = ⊤
IsTreeDownAnswer answer = ⊥

-- no refusal of a node or a tag, and no exhibit
abbrev pub IsUnrefusedFault : TreeFault → Type 0
IsUnrefusedFault Fail.Cut = ⊤
IsUnrefusedFault Fail.Spent = ⊤
IsUnrefusedFault fault = ⊥

abbrev pub IsTreeUnrefused : {T : Type 0} → Result T TreeFault → Type 0
IsTreeUnrefused (Ok value) = ⊤
IsTreeUnrefused (Err fault) = IsUnrefusedFault fault

-- neither done nor cut
abbrev pub IsTreeRefusal : {T : Type 0} → Result T TreeFault → Type 0
IsTreeRefusal (Ok value) = ⊥
IsTreeRefusal (Err Fail.Cut) = ⊥
IsTreeRefusal (Err fault) = ⊤

-- what a read answers at all: never Spent, and Tag only of its own line
abbrev pub IsTreeReadAnswer : ℕ → Result Line TreeFault → Type 0
IsTreeReadAnswer a (Err Fail.Spent) = ⊥
IsTreeReadAnswer a (Err (Fail.Tag b)) = b ≡ a
IsTreeReadAnswer a answer = ⊤

-- what a write answers at all: never Tag
abbrev pub IsWriteAnswer : Result ℕ TreeFault → Type 0
IsWriteAnswer (Err (Fail.Tag b)) = ⊥
IsWriteAnswer answer = ⊤

abbrev pub IsTreeSpentAnswer : {T : Type 0} → Result T TreeFault → Type 0
IsTreeSpentAnswer (Err Fail.Spent) = ⊤
IsTreeSpentAnswer answer = ⊥

-- Down comes exactly of an engine that is down, and does nothing; a cut and an exhibit take it down
pub record AnswersTreeDown {T : Type 0} (old new : TreeEngineParts) (answer : Result T TreeFault) : Type 0 where
  pub exactly : IsTreeDownAnswer answer ↔ (old.engine.down ≡ true)
  pub still : IsTreeDownAnswer answer → new ≡ old
  pub after : new.engine.down ≡ (old.engine.down || not (is_going (tree_outcome_of answer)))

-- what is trusted afterwards; an exhibit ends it
abbrev pub LeavesTreeTrusted : Setup → Outcome → TreeEngineParts → Type 0
LeavesTreeTrusted setup going new = AreTreeTrusted setup new
LeavesTreeTrusted setup cut_short new = AreAnchored setup new
LeavesTreeTrusted setup shown new = IfSome new.watch.exhibit (IsExhibit setup.formulas)

-- what is sound afterwards; no exhibit comes of what was sound
abbrev pub LeavesTreeSound : Setup → Outcome → TreeEngineParts → Type 0
LeavesTreeSound setup going new = AreTreeSound setup new
LeavesTreeSound setup cut_short new = AreTreeDurable setup new
LeavesTreeSound setup shown new = ⊥

-- each node that was held is held, with power on or off
abbrev pub KeepsNodes : Setup → Outcome → TreeEngineParts → TreeEngineParts → Type 0
KeepsNodes setup going old new =
    (x : ℕ) → x < meta_lines setup.shape → HoldsNode setup old x → HoldsNode setup new x
KeepsNodes setup cut_short old new =
    (x : ℕ) → x < meta_lines setup.shape → HoldsNode setup old x → KeepsNode setup new x
KeepsNodes setup shown old new = ⊤

-- what is stored of each place by itself stays, and what was written is stored
pub record KeepsTreePlaces (setup : Setup) (outcome : Outcome) (old new : TreeEngineParts) : Type 0 where
  pub seals : (a : ℕ) → a < tree_lines setup.shape → HoldsTreeSeal setup.shape old a → HoldsTreeSeal setup.shape new a
  pub slots : (i : ℕ) → i < tree_slots setup.shape → HoldsSlot setup.shape old i → HoldsSlot setup.shape new i
  pub nodes : KeepsNodes setup outcome old new

-- what every end of a call leaves
pub record TreeCallEffect (setup : Setup) (outcome : Outcome) (old new : TreeEngineParts) : Type 0 where
  pub shape : new.engine.shape ≡ old.engine.shape
  pub size : new.device.size ≡ old.device.size
  pub power : HasPower outcome old.device new.device
  pub trusted : AreTreeTrusted setup old → LeavesTreeTrusted setup outcome new
  pub sound : AreTreeSound setup old → LeavesTreeSound setup outcome new
  pub places : AreTreeTrusted setup old → KeepsTreePlaces setup outcome old new

-- ---- what is read on the path of data line a

-- a line was read at node x of the path, which wasn't cached: the device has it now
pub record IsNodeLineRead (setup : Setup) (a x : ℕ) (line : Line) (old new : TreeEngineParts) : Type 0 where
  pub on_path : is_on_line_path setup.shape a x ≡ true
  pub below_top : 1 ≤ x
  pub uncached : IsCached setup.shape old.engine.cache x → ⊥
  pub read : Tells new.device.lines (line_of_node setup.shape x) line

-- a line read at a node of the path isn't one of the node's true version
pub record IsNodeRefused (setup : Setup) (a x : ℕ) (old new : TreeEngineParts) : Type 0 where
  pub line : Line
  pub its : IsNodeLineRead setup a x line old new
  pub refused : node_read setup.formulas x line (total (node_at old.watch.nodes x)) ≡ None
  -- the device didn't have the node's true line as the call began
  pub unheld : IsNodeUnheld setup old x

-- the exhibit is a line read at a node of the path that passes for one of the node's true version, and
-- has other counters
pub record IsNodeShown (setup : Setup) (a : ℕ) (old new : TreeEngineParts) : Type 0 where
  pub x : ℕ
  pub line : Line
  pub node : Node
  pub its : IsNodeLineRead setup a x line old new
  pub accepted : node_read setup.formulas x line (total (node_at old.watch.nodes x)) ≡ Some node
  pub other : node ≢ node_at old.watch.nodes x
  pub exhibit : new.watch.exhibit ≡ Some (forged_node old.watch x line)
  pub unheld : IsNodeUnheld setup old x

-- a line read at a node of the path is the node's, under its true version
pub record IsNodeRead (setup : Setup) (a x : ℕ) (old new : TreeEngineParts) : Type 0 where
  pub line : Line
  pub its : IsNodeLineRead setup a x line old new
  pub accepted :
      node_read setup.formulas x line (total (node_at old.watch.nodes x)) ≡ Some (node_at old.watch.nodes x)

-- each node of the path was cached, or so read
pub record IsPathAccepted (setup : Setup) (a : ℕ) (old new : TreeEngineParts) : Type 0 where
  pub each :
      (x : ℕ) → is_on_line_path setup.shape a x ≡ true
      → IsCached setup.shape old.engine.cache x ⊎ IsNodeRead setup a x old new

-- ---- what is read of data line a

-- its cipher and its tag line were read: the device has them now
pub record IsDataLineRead (setup : Setup) (a : ℕ) (cipher tags : Line) (new : TreeEngineParts) : Type 0 where
  pub cipher_read : Tells new.device.lines a cipher
  pub tags_read : Tells new.device.lines (line_of_tag setup.shape a) tags

-- the tag read isn't that of the cipher read under the line's true counter
pub record IsTreeTagRefused (setup : Setup) (a : ℕ) (old new : TreeEngineParts) : Type 0 where
  pub cipher : Line
  pub tags : Line
  pub its : IsDataLineRead setup a cipher tags new
  pub fails :
      setup.formulas.tag_of a (version_counter (line_counter setup.shape old.watch.nodes a)) cipher
      ≢ tag_slot tags 0

-- the tag is right, and the cipher is that of the last seal
pub record IsTreeLineAccepted (setup : Setup) (a : ℕ) (old new : TreeEngineParts) : Type 0 where
  pub cipher : Line
  pub tags : Line
  pub its : IsDataLineRead setup a cipher tags new
  pub fits :
      setup.formulas.tag_of a (version_counter (line_counter setup.shape old.watch.nodes a)) cipher
      ≡ tag_slot tags 0
  pub last : IfSome (last_seal_of old.watch a) (λ seal. cipher ≡ seal.cipher)

-- the exhibit is a cipher with its right tag that isn't that of the last seal
pub record IsLineShown (setup : Setup) (a : ℕ) (old new : TreeEngineParts) : Type 0 where
  pub cipher : Line
  pub tags : Line
  pub its : IsDataLineRead setup a cipher tags new
  pub fits :
      setup.formulas.tag_of a (version_counter (line_counter setup.shape old.watch.nodes a)) cipher
      ≡ tag_slot tags 0
  pub other : IfSome (last_seal_of old.watch a) (λ seal. cipher ≢ seal.cipher)
  pub exhibit :
      new.watch.exhibit
      ≡ Some (Forged a (version_counter (line_counter setup.shape old.watch.nodes a)) cipher (tag_slot tags 0))

-- ---- reads

-- what a read's answer says, from a trusted chip on
abbrev pub AnswersTreeRead : Setup → ℕ → TreeEngineParts → TreeEngineParts → Result Line TreeFault → Type 0
AnswersTreeRead setup a old new (Ok line) =
    (line ≡ tree_plain_line setup.formulas old.watch a) × IsPathAccepted setup a old new × IsTreeLineAccepted setup a old new
AnswersTreeRead setup a old new (Err Fail.Cut) = ⊤
AnswersTreeRead setup a old new (Err Fail.Down) = ⊥
AnswersTreeRead setup a old new (Err (Fail.Node x)) = IsNodeRefused setup a x old new
AnswersTreeRead setup a old new (Err (Fail.Tag b)) =
    (b ≡ a) × IsPathAccepted setup a old new × IsTreeTagRefused setup a old new
AnswersTreeRead setup a old new (Err Fail.Spent) = ⊥
AnswersTreeRead setup a old new (Err Fail.Shown) =
    IsNodeShown setup a old new ⊎ (IsPathAccepted setup a old new × IsLineShown setup a old new)

-- the watch knows what it knew; an exhibit comes if and only if it stopped the engine
pub record KeepsWatch (outcome : Outcome) (old new : WatchState) : Type 0 where
  pub setup : new.setup ≡ old.setup
  pub seals : new.seals ≡ old.seals
  pub nodes : new.nodes ≡ old.nodes
  pub slots : new.slots ≡ old.slots
  pub exhibit : outcome ≢ shown → new.exhibit ≡ old.exhibit
  pub stopped : outcome ≡ shown → IsSome new.exhibit

-- a read of an engine that isn't down
pub record IsLineRead (setup : Setup) (a : ℕ) (old new : TreeEngineParts) (answer : Result Line TreeFault) : Type 0 where
  pub kind : IsTreeReadAnswer a answer
  pub up : IsTreeDownAnswer answer → ⊥
  pub effect : TreeCallEffect setup (tree_outcome_of answer) old new
  pub watch : KeepsWatch (tree_outcome_of answer) old.watch new.watch
  pub regs : new.device.regs ≡ old.device.regs
  -- exactly what it did, whatever the board and the chip: a cut comes only if a step is due
  pub work : WorksOfRead setup a old new answer
  pub answered : AreTreeTrusted setup old → AnswersTreeRead setup a old new answer
  pub unrefused : AreTreeSound setup old → IsTreeUnrefused answer

-- the engine as a call worked with it, before its end took it down
abbrev pub before_end : TreeEngineParts → TreeEngineParts
before_end parts = record parts { engine = record parts.engine { down = false } }

pub record HasReadTreeLine (setup : Setup) (a : ℕ) (old new : TreeEngineParts) (answer : Result Line TreeFault) : Type 0 where
  pub down : AnswersTreeDown old new answer
  pub done : old.engine.down ≡ false → IsLineRead setup a old (before_end new) answer

-- ---- writes

-- the arming latch was done: this seal of the plain line is the line's last one, its path is raised, and the slots of the path are named
-- again
pub record IsWriteArmed (setup : Setup) (a : ℕ) (plain : Line) (seal : LineSeal) (regs : Regs) (old new : TreeEngineParts) : Type 0 where
  pub armed : IsTreeArmed setup a seal old.device.regs regs old.watch new.watch
  pub sealed : seal.cipher ≡ cipher_of setup.formulas a (version_counter seal.counter) plain

-- a write that was done: armed, written and emptied
pub record IsWriteDone (setup : Setup) (a : ℕ) (plain : Line) (counter : ℕ) (old new : TreeEngineParts) : Type 0 where
  pub seal : LineSeal
  pub armed_regs : Regs
  pub armed : IsWriteArmed setup a plain seal armed_regs old new
  pub its_counter : seal.counter ≡ counter
  pub emptied : IsTreeEmptied armed_regs new.device.regs
  pub stored : HoldsTreeSeal setup.shape new a
  pub path : IsNodePathCached setup.shape a new.engine.cache

-- a cut after the arming latch: the write is kept, and its group is armed
pub record IsWriteKept (setup : Setup) (a : ℕ) (plain : Line) (old new : TreeEngineParts) : Type 0 where
  pub seal : LineSeal
  pub armed : IsWriteArmed setup a plain seal new.device.regs old new
  pub stored : HoldsTreeSeal setup.shape new a
  pub latches : RisesBy 1 old.device.latches new.device.latches

-- a cut before it: the write is lost
pub record IsWriteLost (old new : TreeEngineParts) : Type 0 where
  pub watch : new.watch ≡ old.watch
  pub regs : new.device.regs ≡ old.device.regs
  pub latches : new.device.latches ≡ old.device.latches

-- node 0's version has no number above it
abbrev pub IsUsedUp : TreeEngineParts → Type 0
IsUsedUp parts = total (node_at parts.watch.nodes 0) ≡ 2 ^ 64 - 1

-- what a write's answer says, from a trusted chip on
abbrev pub AnswersTreeWrite : Setup → ℕ → Line → TreeEngineParts → TreeEngineParts → Result ℕ TreeFault → Type 0
AnswersTreeWrite setup a plain old new (Ok counter) =
    (IsUsedUp old → ⊥) × IsPathAccepted setup a old new × IsWriteDone setup a plain counter old new
AnswersTreeWrite setup a plain old new (Err Fail.Cut) =
    (IsUsedUp old → ⊥) × (IsWriteLost old new ⊎ IsWriteKept setup a plain old new)
AnswersTreeWrite setup a plain old new (Err Fail.Down) = ⊥
AnswersTreeWrite setup a plain old new (Err (Fail.Node x)) = (IsUsedUp old → ⊥) × IsNodeRefused setup a x old new
AnswersTreeWrite setup a plain old new (Err (Fail.Tag b)) = ⊥
AnswersTreeWrite setup a plain old new (Err Fail.Spent) = IsUsedUp old × (new ≡ old)
AnswersTreeWrite setup a plain old new (Err Fail.Shown) = (IsUsedUp old → ⊥) × IsNodeShown setup a old new

-- a write by an engine that isn't down
pub record IsLineWritten (setup : Setup) (a : ℕ) (plain : Line) (old new : TreeEngineParts) (answer : Result ℕ TreeFault) : Type 0 where
  pub kind : IsWriteAnswer answer
  pub up : IsTreeDownAnswer answer → ⊥
  -- Spent comes if and only if the version of the engine's top is the greatest number
  pub spent : IsTreeSpentAnswer answer ↔ (total (top_node old.engine.cache) ≡ 2 ^ 64 - 1)
  pub effect : TreeCallEffect setup (tree_outcome_of answer) old new
  pub work : WorksOfWrite setup a old new answer
  pub answered : AreTreeTrusted setup old → AnswersTreeWrite setup a plain old new answer
  pub unrefused : AreTreeSound setup old → IsTreeUnrefused answer
  -- whatever the board was: a call that isn't done leaves what the watch knew
  pub watch : IsTreeRefusal answer → KeepsWatch (tree_outcome_of answer) old.watch new.watch

pub record HasWrittenTreeLine (setup : Setup) (a : ℕ) (plain : Line) (old new : TreeEngineParts) (answer : Result ℕ TreeFault) : Type 0 where
  pub down : AnswersTreeDown old new answer
  pub done : old.engine.down ≡ false → IsLineWritten setup a plain old (before_end new) answer
