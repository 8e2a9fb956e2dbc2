-- Which answers a command has in which states, and the state after: if the state alone decides, the first condition that holds does; else
-- the engine gives one of the answers that are listed.
use Rattle.std.specs.Prelude.{ℕ, ◌≡◌, ◌≢◌, ◌<◌, ◌≤◌, ◌+◌, ◌-◌, ◌*◌, ◌^◌, ◌⊎◌, nat_lt, not, Bool, true, false, List, [], ◌∷◌, map, sum, length, slice_index_or, Option, Some, None, Ok, is_none, if◌then◌else◌, IsTrue}
use Rattle.pmem_base.specs.declared.lines.Line.{Line}
use Rattle.pmem_base.specs.declared.answers.Exhibit.{Exhibit}
use Rattle.pmem_base.specs.declared.answers.Exhibit.TheVariants.{Clash, Forged}
use Rattle.pmem_base.specs.Lines.{line_at, tag_slot}
use Rattle.pmem_base.specs.Shape.{Shape}
use Rattle.pmem_base.specs.Layout.{meta_lines}
use Rattle.pmem_base.specs.Registers.{without_group}
use Rattle.suite.specs.Setup.{Setup}
use Rattle.board.specs.Counts.{RisesBy}
use Rattle.board.specs.Memory.{BoardMemory, with_line_at, with_lines, restored_lines}
use Rattle.counter_tree.specs.declared.nodes.Node.{Node}
use Rattle.counter_tree.specs.Nodes.{node_place, version_counter, without_tag, node_line, node_read}
use Rattle.counter_tree.specs.Layout.{tree_lines, tree_slots, tree_size, line_of_tag, line_of_node, line_of_slot}
use Rattle.counter_tree.specs.Trees.{is_on_line_path}
use Rattle.counter_tree.specs.Slots.{slot_of, slot_line}
use Rattle.counter_tree.specs.Shadow.{shadow_root, shadow_tree_line, shadow_height, shadow_digests, IsShadowDifference}
use Rattle.collision_witness.specs.Exhibits.{IsExhibit, AreSmallMinors}
use Rattle.commit_regs.specs.Groups.{redone, finishing_latches}
use Rattle.trace_text.specs.Sessions.{HasBurnt, HasRunOut}
use Rattle.trace_text.specs.declared.talk.Halt.{Halt}
use Rattle.trace_text.specs.declared.talk.Halt.TheVariants as Stop
use Rattle.asit_shadow.specs.Paths.{line_path, tag_only}
use Rattle.asit_shadow.specs.Steps.{KeepsOtherRegisters, slots_read}
use Rattle.asit_shadow.specs.Plain.{PlainTree, true_node, true_version, true_count, true_cipher, true_slots, after_tree_write, after_change, with_board}
use Rattle.tree_session.specs.declared.commands.TreeCommand.{TreeCommand}
use Rattle.tree_session.specs.declared.commands.TreeCommand.TheVariants as Do
use Rattle.tree_session.specs.declared.answers.TreeAnswer.{TreeAnswer}
use Rattle.tree_session.specs.declared.answers.TreeAnswer.TheVariants as Say
use Rattle.tree_session.specs.Answers.{tree_text}
use Rattle.tree_session.specs.Commands.{reading_of_tree, tree_takes_memory}
use Rattle.tree_session.specs.State.{SessionState}
use Rattle.tree_session.specs.Called.{IsTreeCallOf, IsTreeCalled}

-- ---- the answers that the state decides

abbrev pub tree_decided : Shape → PlainTree → TreeCommand → Option TreeAnswer
tree_decided g before (Do.Write a line) =
    if not before.board.powered then Some Say.Off else if nat_lt a (tree_lines g) then None else Some Say.Range
tree_decided g before (Do.Read a) =
    if not before.board.powered then Some Say.Off else if nat_lt a (tree_lines g) then None else Some Say.Range
tree_decided g before Do.On = if before.board.powered then Some Say.Already else None
tree_decided g before Do.Off = if before.board.powered then Some Say.Ok else Some Say.Off
tree_decided g before (Do.Cut n) = Some Say.Ok
tree_decided g before (Do.Poke d line) = if nat_lt d (tree_size g) then Some Say.Ok else Some Say.Range
tree_decided g before Do.Snap = Some Say.Ok
tree_decided g before (Do.Back d) =
    if not (nat_lt d (tree_size g)) then Some Say.Range
    else if is_none before.board.snapshot then Some Say.NoSnap else Some Say.Ok

-- the state after such an answer
abbrev pub tree_after_decided : Shape → PlainTree → TreeCommand → TreeAnswer → PlainTree
tree_after_decided g before Do.Off Say.Ok =
    with_board before (record before.board { powered = false; fuse = None })
tree_after_decided g before (Do.Cut n) Say.Ok = with_board before (record before.board { fuse = Some n })
tree_after_decided g before (Do.Poke d line) Say.Ok =
    with_board (after_change g before d) (with_line_at before.board d line)
tree_after_decided g before Do.Snap Say.Ok =
    with_board before (record before.board { snapshot = Some before.board.lines })
tree_after_decided g before (Do.Back d) Say.Ok =
    with_board (after_change g before d)
    (with_lines before.board (restored_lines before.board.lines before.board.snapshot d))
tree_after_decided g before command answer = before

-- ---- steps

-- s steps, within the fuse, and no cut
pub record TakesTreeSteps (s : ℕ) (powered : Bool) (old new : BoardMemory) : Type 0 where
  pub rise : RisesBy s (old.writes + old.latches) (new.writes + new.latches)
  pub fuse : HasBurnt s old.fuse new.fuse old.cuts new.cuts
  pub power : new.powered ≡ powered
  pub snapshot : new.snapshot ≡ old.snapshot

-- a cut at the fuse's end
pub record IsTreeCutAt (s : ℕ) (old new : BoardMemory) : Type 0 where
  pub rise : RisesBy s (old.writes + old.latches) (new.writes + new.latches)
  pub fuse : HasRunOut s old.fuse new.fuse old.cuts new.cuts
  pub power : new.powered ≡ false
  pub snapshot : new.snapshot ≡ old.snapshot

-- the lines with the armed group redone
abbrev pub board_redone : BoardMemory → List Line
board_redone board = redone board.regs.group.items board.lines

-- the armed group is on the device and emptied, and the other registers are as they were
pub record IsGroupDone (old new : BoardMemory) : Type 0 where
  pub lines : new.lines ≡ board_redone old
  pub regs : new.regs ≡ without_group old.regs

-- the steps that this takes: a line write for each entry, and a latch if there is one
abbrev pub group_steps : BoardMemory → ℕ
group_steps board = length board.regs.group.items + finishing_latches board.regs.group.items

-- device line d is now that of a true node, with its tag
pub record IsNodeWritten (setup : Setup) (plain : PlainTree) (lines : List Line) (d : ℕ) : Type 0 where
  pub x : ℕ
  pub on_tree : x < meta_lines setup.shape
  pub place : d ≡ line_of_node setup.shape x
  pub line : line_at lines d ≡ node_line setup.formulas x (true_node setup.shape plain x)

-- each device line is as it was, or a true node was written back to it
abbrev pub AreLinesSpilled : Setup → PlainTree → List Line → Type 0
AreLinesSpilled setup before lines =
    (d : ℕ) → (line_at lines d ≡ line_at before.board.lines d) ⊎ IsNodeWritten setup before lines d

-- the engine did no more to the board
pub record IsBoardSpilled (setup : Setup) (before after : PlainTree) : Type 0 where
  pub lines : AreLinesSpilled setup before after.board.lines
  pub regs : after.board.regs ≡ before.board.regs

-- what a write of line a puts: its cipher, its tag line, and the slot lines that name its path
abbrev pub put_by_write : Setup → PlainTree → ℕ → List (ℕ × Line)
put_by_write setup after a =
    (a, true_cipher setup.formulas after a)
    ∷ (
      line_of_tag setup.shape a,
      tag_only (setup.formulas.tag_of a (version_counter (true_count after a)) (true_cipher setup.formulas after a)),
    )
    ∷ map
    (λ x. (line_of_slot setup.shape (slot_of setup.shape x), slot_line x (true_node setup.shape after x)))
    (line_path setup.shape a)

-- true nodes were written back, and then these lines put, or armed to be put; of the registers only the root
-- and the group may have changed
pub record IsBoardWritten (setup : Setup) (a : ℕ) (before after : PlainTree) : Type 0 where
  pub spilled : List Line
  pub lines : AreLinesSpilled setup before spilled
  pub put : board_redone after.board ≡ redone (put_by_write setup after a) spilled
  pub regs : KeepsOtherRegisters before.board.regs after.board.regs

-- nothing but the board changed
abbrev pub IsPlainKept : PlainTree → PlainTree → Type 0
IsPlainKept before after = after ≡ with_board before after.board

-- a write's line is in memory
abbrev pub IsPlainWritten : Shape → ℕ → Line → PlainTree → PlainTree → Type 0
IsPlainWritten g a line before after = after ≡ with_board (after_tree_write g before a line) after.board

-- ---- refusals and exhibits, over the device as it is afterwards

abbrev pub device_node : Shape → PlainTree → ℕ → Line
device_node g plain x = line_at plain.board.lines (line_of_node g x)

abbrev pub device_tag : Shape → PlainTree → ℕ → List ℕ
device_tag g plain a = tag_slot (line_at plain.board.lines (line_of_tag g a)) 0

-- node x is on the path of line a, and its device line was ever tampered with
pub record IsPathTampered (g : Shape) (tampered : List Bool) (a x : ℕ) : Type 0 where
  pub on_path : is_on_line_path g a x ≡ true
  pub below_top : x ≢ 0
  pub its_line : slice_index_or tampered (line_of_node g x) false ≡ true

-- a slot line was
pub record IsSlotTampered (g : Shape) (tampered : List Bool) : Type 0 where
  pub slot : ℕ
  pub inside : slot < tree_slots g
  pub its_line : slice_index_or tampered (line_of_slot g slot) false ≡ true

-- data line a is hurt
abbrev pub IsHurt : List Bool → ℕ → Type 0
IsHurt hurt a = slice_index_or hurt a false ≡ true

-- its line isn't that of a node of the true version
pub record IsNodeRefusal (setup : Setup) (after : PlainTree) (a x : ℕ) : Type 0 where
  pub place : IsPathTampered setup.shape after.tampered a x
  pub refused :
      node_read setup.formulas x (device_node setup.shape after x) (true_version setup.shape after x) ≡ None

-- its line is that of another node of the true version
pub record IsNodeExhibit (setup : Setup) (after : PlainTree) (a : ℕ) (exhibit : Exhibit) : Type 0 where
  pub x : ℕ
  pub node : Node
  pub place : IsPathTampered setup.shape after.tampered a x
  pub accepted :
      node_read setup.formulas x (device_node setup.shape after x) (true_version setup.shape after x)
      ≡ Some node
  pub other : node ≢ true_node setup.shape after x
  pub its :
      exhibit
      ≡ Forged (node_place x) (version_counter (true_version setup.shape after x))
      (without_tag (device_node setup.shape after x)) (tag_slot (device_node setup.shape after x) 3)

-- the device has the cipher of line a under its counter, and a tag that fits it
pub record IsDataAccepted (setup : Setup) (after : PlainTree) (a : ℕ) : Type 0 where
  pub cipher : line_at after.board.lines a ≡ true_cipher setup.formulas after a
  pub fits :
      setup.formulas.tag_of a (version_counter (true_count after a)) (line_at after.board.lines a)
      ≡ device_tag setup.shape after a

-- the tag of line a fails under its counter
pub record IsDataRefusal (setup : Setup) (after : PlainTree) (a : ℕ) : Type 0 where
  pub hurt : IsHurt after.hurt a
  pub fails :
      setup.formulas.tag_of a (version_counter (true_count after a)) (line_at after.board.lines a)
      ≢ device_tag setup.shape after a

-- the tag of line a fits another cipher than the sealed one
pub record IsDataExhibit (setup : Setup) (after : PlainTree) (a : ℕ) (exhibit : Exhibit) : Type 0 where
  pub hurt : IsHurt after.hurt a
  pub fits :
      setup.formulas.tag_of a (version_counter (true_count after a)) (line_at after.board.lines a)
      ≡ device_tag setup.shape after a
  pub other : line_at after.board.lines a ≢ true_cipher setup.formulas after a
  pub its :
      exhibit
      ≡ Forged a (version_counter (true_count after a)) (line_at after.board.lines a)
      (device_tag setup.shape after a)

-- the root of the device's slot lines isn't the register's
pub record IsShadowRefusal (setup : Setup) (after : PlainTree) (kept found : List ℕ) : Type 0 where
  pub place : IsSlotTampered setup.shape after.tampered
  pub its_root : kept ≡ after.board.regs.root
  pub root_found :
      found ≡ shadow_root setup.shape setup.formulas (slots_read setup.shape after.board.lines)
  pub differ : kept ≢ found

-- it is, but they aren't the true ones
pub record IsShadowExhibit (setup : Setup) (after : PlainTree) (exhibit : Exhibit) : Type 0 where
  pub slot : ℕ
  pub height : ℕ
  pub position : ℕ
  pub place : IsSlotTampered setup.shape after.tampered
  pub one_root :
      shadow_root setup.shape setup.formulas (slots_read setup.shape after.board.lines)
      ≡ after.board.regs.root
  pub difference :
      IsShadowDifference setup.formulas (shadow_height setup.shape) (slots_read setup.shape after.board.lines)
      (true_slots setup.shape after) slot height position
  pub its :
      exhibit
      ≡ Clash position
      (shadow_tree_line setup.formulas (shadow_height setup.shape) (slots_read setup.shape after.board.lines)
      height position)
      (shadow_tree_line setup.formulas (shadow_height setup.shape) (true_slots setup.shape after) height position)

-- ---- the engine's answers

-- the greatest steps of a read, a write and a recovery
abbrev pub read_bound : Shape → ℕ
read_bound g = g.levels

abbrev pub tree_write_bound : Shape → ℕ
tree_write_bound g = 2 * g.levels + 5

-- the fewest of a write: those of its group, with no write-back
abbrev pub write_least : Shape → ℕ
write_least g = g.levels + 5

abbrev pub tree_recovery_bound : Shape → ℕ
tree_recovery_bound g = g.levels + 4

-- all writes were made that can be, of that many of each line
abbrev pub AllAreMade : List ℕ → Type 0
AllAreMade counts = sum counts ≡ 2 ^ 64 - 1

abbrev pub SaysOfWrite : Setup → PlainTree → ℕ → Line → PlainTree → TreeAnswer → Type 0
SaysOfWrite setup before a line after (Say.Written s) =
    (AllAreMade before.counts → ⊥)
    × TakesTreeSteps s true before.board after.board
    × RisesBy 2 before.board.latches after.board.latches
    × (write_least setup.shape ≤ s)
    × (s ≤ tree_write_bound setup.shape)
    × IsPlainWritten setup.shape a line before after
    × IsBoardWritten setup a before after
SaysOfWrite setup before a line after (Say.CutKept s) =
    (AllAreMade before.counts → ⊥)
    × IsTreeCutAt s before.board after.board
    × RisesBy 1 before.board.latches after.board.latches
    × (1 ≤ s)
    × (s < tree_write_bound setup.shape)
    × IsPlainWritten setup.shape a line before after
    × IsBoardWritten setup a before after
    × (after.board.regs.group.items ≡ put_by_write setup after a)
SaysOfWrite setup before a line after (Say.CutLost s) =
    (AllAreMade before.counts → ⊥)
    × IsTreeCutAt s before.board after.board
    × (after.board.latches ≡ before.board.latches)
    × (s ≤ read_bound setup.shape)
    × IsPlainKept before after
    × IsBoardSpilled setup before after
SaysOfWrite setup before a line after (Say.Spent s) = AllAreMade before.counts × (s ≡ 0) × (after ≡ before)
SaysOfWrite setup before a line after (Say.RefusedNode x s) =
    (AllAreMade before.counts → ⊥)
    × IsNodeRefusal setup after a x
    × TakesTreeSteps s true before.board after.board
    × (s ≤ read_bound setup.shape)
    × IsPlainKept before after
    × IsBoardSpilled setup before after
SaysOfWrite setup before a line after answer = ⊥

abbrev pub SaysOfRead : Setup → PlainTree → ℕ → PlainTree → TreeAnswer → Type 0
SaysOfRead setup before a after (Say.Got line s) =
    (line ≡ line_at before.memory a)
    × TakesTreeSteps s true before.board after.board
    × (s ≤ read_bound setup.shape)
    × IsPlainKept before after
    × IsBoardSpilled setup before after
    × IsDataAccepted setup after a
SaysOfRead setup before a after (Say.Cut s) =
    IsTreeCutAt s before.board after.board
    × (s < read_bound setup.shape)
    × IsPlainKept before after
    × IsBoardSpilled setup before after
SaysOfRead setup before a after (Say.RefusedData b s) =
    (b ≡ a)
    × IsDataRefusal setup after a
    × TakesTreeSteps s true before.board after.board
    × (s ≤ read_bound setup.shape)
    × IsPlainKept before after
    × IsBoardSpilled setup before after
SaysOfRead setup before a after (Say.RefusedNode x s) =
    IsNodeRefusal setup after a x
    × TakesTreeSteps s true before.board after.board
    × (s ≤ read_bound setup.shape)
    × IsPlainKept before after
    × IsBoardSpilled setup before after
SaysOfRead setup before a after answer = ⊥

-- the device has the true slot lines
abbrev pub HasTrueSlots : Setup → PlainTree → Type 0
HasTrueSlots setup after = slots_read setup.shape after.board.lines ≡ true_slots setup.shape after

abbrev pub SaysOfOn : Setup → PlainTree → PlainTree → TreeAnswer → Type 0
SaysOfOn setup before after (Say.Recovered digests s) =
    (digests ≡ shadow_digests setup.shape)
    × TakesTreeSteps s true before.board after.board
    × IsGroupDone before.board after.board
    × (s ≡ group_steps before.board)
    × (s ≤ tree_recovery_bound setup.shape)
    × IsPlainKept before after
    × HasTrueSlots setup after
SaysOfOn setup before after (Say.Cut s) =
    IsTreeCutAt s before.board after.board
    × (board_redone after.board ≡ board_redone before.board)
    × (after.board.regs ≡ before.board.regs)
    × (s < group_steps before.board)
    × (s < tree_recovery_bound setup.shape)
    × IsPlainKept before after
SaysOfOn setup before after (Say.RefusedShadow kept found s) =
    IsShadowRefusal setup after kept found
    × TakesTreeSteps s false before.board after.board
    × IsGroupDone before.board after.board
    × (s ≡ group_steps before.board)
    × (s ≤ tree_recovery_bound setup.shape)
    × IsPlainKept before after
SaysOfOn setup before after answer = ⊥

-- what the engine answers to a command
abbrev pub SaysOfEngine : Setup → PlainTree → TreeCommand → PlainTree → TreeAnswer → Type 0
SaysOfEngine setup before (Do.Write a line) after answer = SaysOfWrite setup before a line after answer
SaysOfEngine setup before (Do.Read a) after answer = SaysOfRead setup before a after answer
SaysOfEngine setup before Do.On after answer = SaysOfOn setup before after answer
SaysOfEngine setup before command after answer = ⊥

-- the exhibits that stand instead of an engine's answer
abbrev pub ShowsEngine : Setup → PlainTree → TreeCommand → PlainTree → Exhibit → Type 0
ShowsEngine setup before (Do.Write a line) after exhibit =
    (AllAreMade before.counts → ⊥) × IsNodeExhibit setup after a exhibit
ShowsEngine setup before (Do.Read a) after exhibit =
    IsNodeExhibit setup after a exhibit ⊎ IsDataExhibit setup after a exhibit
ShowsEngine setup before Do.On after exhibit = IsShadowExhibit setup after exhibit
ShowsEngine setup before command after exhibit = ⊥

-- ---- the relation

-- what the state decides, or else what the engine answers
abbrev pub AnswersWith : Setup → PlainTree → TreeCommand → PlainTree → TreeAnswer → Option TreeAnswer → Type 0
AnswersWith setup before command after answer (Some known) =
    (answer ≡ known) × (after ≡ tree_after_decided setup.shape before command known)
AnswersWith setup before command after answer None = SaysOfEngine setup before command after answer

-- the geometry, the keys and the exhibit are those of before
pub record IsTreeStateKept (old new : SessionState) : Type 0 where
  pub shape : new.shape ≡ old.shape
  pub keys : new.keys ≡ old.keys
  pub shown : new.shown ≡ old.shown

-- the root register is that over the true slot lines, and with power on no group is armed
pub record IsRooted (setup : Setup) (plain : PlainTree) : Type 0 where
  pub root : plain.board.regs.root ≡ shadow_root setup.shape setup.formulas (true_slots setup.shape plain)
  pub no_group : plain.board.powered ≡ true → plain.board.regs.group.items ≡ []

-- before an exhibit: the answer that the state decides, or else one that the engine may give
pub record IsTreeAnswered (setup : Setup) (old : SessionState) (command : TreeCommand) (answer : TreeAnswer) (new : SessionState) :
    Type 0 where
  pub not_shown : old.shown ≡ None
  pub kept : IsTreeStateKept old new
  pub answered :
      AnswersWith setup old.plain command new.plain answer (tree_decided setup.shape old.plain command)
  -- exactly what was done: if power is cut, which nodes were evicted, and what stands in the cache
  pub called : IsTreeCalled setup old command new answer (tree_decided setup.shape old.plain command)
  pub rooted : IsRooted setup new.plain

-- What the engine did to the board before it showed something, in that many steps: it finished the armed group, or wrote true nodes back.
-- So the line shown is the one that stood there.
abbrev pub IsBoardLeft : Setup → PlainTree → TreeCommand → ℕ → PlainTree → Type 0
IsBoardLeft setup before Do.On s after = IsGroupDone before.board after.board × (s ≡ group_steps before.board)
IsBoardLeft setup before command s after = IsBoardSpilled setup before after × (s ≤ read_bound setup.shape)

-- an exhibit that holds, if the state doesn't decide: power is off after it, and nothing else is reported
pub record IsEngineShown (setup : Setup) (old : SessionState) (command : TreeCommand) (exhibit : Exhibit) (new : SessionState) :
    Type 0 where
  pub not_shown : old.shown ≡ None
  pub undecided : tree_decided setup.shape old.plain command ≡ None
  pub holds : IsExhibit setup.formulas exhibit
  pub shows : ShowsEngine setup old.plain command new.plain exhibit
  pub plain : IsPlainKept old.plain new.plain
  -- exactly what was done before it was shown
  pub called : IsTreeCallOf setup old command new None
  pub steps : ℕ
  pub taken : TakesTreeSteps steps false old.plain.board new.plain.board
  pub board : IsBoardLeft setup old.plain command steps new.plain
  pub rooted : IsRooted setup new.plain
  pub shape : new.shape ≡ old.shape
  pub keys : new.keys ≡ old.keys
  pub shown : new.shown ≡ Some exhibit

-- after an exhibit each command is answered by it again
abbrev pub IsTreeShownBy : Setup → SessionState → TreeCommand → Exhibit → SessionState → Type 0
IsTreeShownBy setup old command exhibit new =
    IsEngineShown setup old command exhibit new ⊎ ((old.shown ≡ Some exhibit) × (new ≡ old))

-- what a command takes memory for: a recovery, or a first snapshot
abbrev pub TakesMemory : PlainTree → TreeCommand → Type 0
TakesMemory before Do.On = before.board.powered ≡ false
TakesMemory before Do.Snap = before.board.snapshot ≡ None
TakesMemory before command = ⊥

-- a command may run out of memory
pub record IsTreeMemoryWanted (old : SessionState) (command : TreeCommand) : Type 0 where
  pub takes : IsTrue (tree_takes_memory command)
  pub not_shown : old.shown ≡ None
  pub needs : TakesMemory old.plain command

-- why a command has no answer: memory is needed, and nothing was done; or it is an exhibit
abbrev pub IsTreeHalt : Setup → SessionState → TreeCommand → Halt → SessionState → Type 0
IsTreeHalt setup old command Stop.Memory new = IsTreeMemoryWanted old command × (new ≡ old)
IsTreeHalt setup old command (Stop.Shown exhibit) new = IsTreeShownBy setup old command exhibit new × AreSmallMinors exhibit
IsTreeHalt setup old command (Stop.Line kind) new = ⊥

-- ---- a line and its answer

-- the line asks for a command, and the text is that of one of its answers
pub record IsTreeTalkedOf (setup : Setup) (old : SessionState) (line text : List ℕ) (new : SessionState) : Type 0 where
  pub command : TreeCommand
  pub its_reading : reading_of_tree line ≡ Ok (Some command)
  pub answer : TreeAnswer
  pub its_text : text ≡ tree_text answer
  pub answered : IsTreeAnswered setup old command answer new

-- the line asks for a command whose answer is the exhibit
pub record IsTreeShownOf (setup : Setup) (old : SessionState) (line : List ℕ) (exhibit : Exhibit) (new : SessionState) : Type 0 where
  pub command : TreeCommand
  pub its_reading : reading_of_tree line ≡ Ok (Some command)
  pub shown : IsTreeShownBy setup old command exhibit new

-- the line asks for a command that may run out of memory
pub record IsTreeStarvedOf (old : SessionState) (line : List ℕ) : Type 0 where
  pub command : TreeCommand
  pub its_reading : reading_of_tree line ≡ Ok (Some command)
  pub wanted : IsTreeMemoryWanted old command
