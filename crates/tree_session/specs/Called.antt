-- What a command does next to what it answers or shows, exactly: the board followed the plan of the command's call, the answer is a
-- function of how the plan ended, and what is on the chip afterwards is what the plan left.
use Rattle.std.specs.Prelude.{ℕ, ◌≡◌, nat_lt, Bool, true, false, Option, Some, None, Result, Ok, Err, if◌then◌else◌}
use Rattle.pmem_base.specs.declared.lines.Line.{Line}
use Rattle.pmem_base.specs.Shape.{Shape}
use Rattle.board.specs.Memory.{BoardMemory}
use Rattle.suite.specs.Setup.{Setup}
use Rattle.call_plan.specs.Plans.{Plan}
use Rattle.call_plan.specs.Runs.{IsOutcome}
use Rattle.call_effects.specs.declared.recovery.Work.{Work}
use Rattle.watched_board.specs.declared.taken.Taken.{Taken}
use Rattle.watched_board.specs.Watching.{steps_in}
use Rattle.asit_shadow.specs.declared.fault.TreeFault.{TreeFault}
use Rattle.asit_shadow.specs.declared.fault.TreeFault.TheVariants as Fail
use Rattle.asit_shadow.specs.declared.recovery.TreeRec.{TreeRec}
use Rattle.asit_shadow.specs.declared.recovery.TreeRec.TheVariants as Stop
use Rattle.asit_shadow.specs.State.{TreeState}
use Rattle.asit_shadow.specs.Plain.{PlainTree, after_tree_write, with_board}
use Rattle.asit_shadow.specs.Plans.{TreeChip, tree_chip_of, read_plan}
use Rattle.asit_shadow.specs.WritePlans.{write_plan}
use Rattle.asit_shadow.specs.RecoverPlans.{recover_parts, tree_recover_plan}
use Rattle.tree_session.specs.declared.commands.TreeCommand.{TreeCommand}
use Rattle.tree_session.specs.declared.commands.TreeCommand.TheVariants as Do
use Rattle.tree_session.specs.declared.answers.TreeAnswer.{TreeAnswer}
use Rattle.tree_session.specs.declared.answers.TreeAnswer.TheVariants as Say
use Rattle.tree_session.specs.State.{SessionState, watch_in}

-- what is on the chip next to the registers
abbrev pub chip_in : Setup → SessionState → TreeState → TreeChip
chip_in setup state engine = tree_chip_of engine (watch_in setup state) state.pads state.tags state.digests

-- ---- what is answered; if the watch stopped the engine nothing is, and its exhibit stands for an answer

abbrev pub read_said : Taken → Result Line TreeFault → Option TreeAnswer
read_said taken (Ok line) = Some (Say.Got line (steps_in taken))
read_said taken (Err (Fail.Node x)) = Some (Say.RefusedNode x (steps_in taken))
read_said taken (Err (Fail.Tag a)) = Some (Say.RefusedData a (steps_in taken))
read_said taken (Err Fail.Cut) = Some (Say.Cut (steps_in taken))
read_said taken (Err fault) = None

-- a cut write is kept if it was armed, by its first latch
abbrev pub write_said : Taken → Result ℕ TreeFault → Option TreeAnswer
write_said taken (Ok counter) = Some (Say.Written (steps_in taken))
write_said taken (Err (Fail.Node x)) = Some (Say.RefusedNode x (steps_in taken))
write_said taken (Err Fail.Spent) = Some (Say.Spent (steps_in taken))
write_said taken (Err Fail.Cut) = Some (if nat_lt 0 taken.latches then Say.CutKept (steps_in taken) else Say.CutLost (steps_in taken))
write_said taken (Err fault) = None

abbrev pub on_said : Taken → Result (TreeState × Work) TreeRec → Option TreeAnswer
on_said taken (Ok made) = Some (Say.Recovered made.1.digests (steps_in taken))
on_said taken (Err (Stop.Shadow kept found)) = Some (Say.RefusedShadow kept found (steps_in taken))
on_said taken (Err Stop.Cut) = Some (Say.Cut (steps_in taken))
on_said taken (Err fault) = None

-- ---- the state after

-- whether a write with this answer is in memory
abbrev pub is_made : TreeAnswer → Bool
is_made (Say.Written s) = true
is_made (Say.CutKept s) = true
is_made answer = false

-- memory and what was tampered with
abbrev pub plain_said : Shape → PlainTree → TreeCommand → TreeAnswer → BoardMemory → PlainTree
plain_said g before (Do.Write a line) answer board = with_board (if is_made answer then after_tree_write g before a line else before) board
plain_said g before command answer board = with_board before board

-- the engine that recovery made
abbrev pub engine_made : Result (TreeState × Work) TreeRec → Option TreeState
engine_made (Ok made) = Some made.0
engine_made (Err fault) = None

-- power stays on if it made one
abbrev pub board_resting : Result (TreeState × Work) TreeRec → BoardMemory → BoardMemory
board_resting (Ok made) board = board
board_resting (Err fault) board = record board { powered = false }

-- an exhibit takes power and the engine
abbrev pub board_left : Option TreeAnswer → BoardMemory → BoardMemory
board_left (Some answer) board = board
board_left None board = record board { powered = false }

-- and so does a cut
abbrev pub engine_kept : Option TreeAnswer → BoardMemory → TreeState → Option TreeState
engine_kept (Some answer) board engine = if board.powered then Some engine else None
engine_kept None board engine = None

-- one call of the engine, which ended so
pub record HasTreeCalled {A : Type 0} (setup : Setup) (plan : TreeChip → Plan (TreeChip × TreeFault) (TreeChip × A)) (says : Taken → Result A TreeFault → Option TreeAnswer)
    (old new : SessionState) (said : Option TreeAnswer) : Type 0 where
  pub engine : TreeState
  pub was_on : old.engine ≡ Some engine
  pub board : BoardMemory
  pub after : TreeState
  pub taken : Taken
  pub end : Result A TreeFault
  pub outcome : IsOutcome (plan (chip_in setup old engine)) old.plain.board board taken end (chip_in setup new after)
  pub is_said : said ≡ says taken end
  pub rests : new.plain.board ≡ board_left said board
  pub kept : new.engine ≡ engine_kept said board after

-- power came on, or a recovery was cut, refused or shown
pub record HasTreeStarted (setup : Setup) (old new : SessionState) (said : Option TreeAnswer) : Type 0 where
  pub board : BoardMemory
  pub taken : Taken
  pub end : Result (TreeState × Work) TreeRec
  pub outcome :
      IsOutcome (tree_recover_plan setup old.plain.board.regs (recover_parts (watch_in setup old) old.digests)) (record old.plain.board { powered = true }) board
      taken end (recover_parts (watch_in setup new) new.digests)
  pub is_said : said ≡ on_said taken end
  pub rests : new.plain.board ≡ board_resting end board
  pub made : new.engine ≡ engine_made end
  pub pads : new.pads ≡ old.pads
  pub tags : new.tags ≡ old.tags

-- the call of a command, after which this was answered, or an exhibit shown
abbrev pub IsTreeCallOf : Setup → SessionState → TreeCommand → SessionState → Option TreeAnswer → Type 0
IsTreeCallOf setup old (Do.Write a line) new said = HasTreeCalled setup (write_plan setup old.plain.board.regs a line) write_said old new said
IsTreeCallOf setup old (Do.Read a) new said = HasTreeCalled setup (read_plan setup a) read_said old new said
IsTreeCallOf setup old Do.On new said = HasTreeStarted setup old new said
IsTreeCallOf setup old command new said = ⊥

-- ---- without a call

-- power that goes off takes the engine with it
abbrev pub engine_left : TreeCommand → TreeAnswer → Option TreeState → Option TreeState
engine_left Do.Off Say.Ok engine = None
engine_left command answer engine = engine

-- nothing is done on the chip
pub record IsChipStill (old : SessionState) (command : TreeCommand) (known : TreeAnswer) (new : SessionState) : Type 0 where
  pub engine : new.engine ≡ engine_left command known old.engine
  pub seals : new.seals ≡ old.seals
  pub nodes : new.nodes ≡ old.nodes
  pub slots : new.slots ≡ old.slots
  pub pads : new.pads ≡ old.pads
  pub tags : new.tags ≡ old.tags
  pub digests : new.digests ≡ old.digests

-- the call of a command that the state doesn't decide
abbrev pub IsTreeCalled : Setup → SessionState → TreeCommand → SessionState → TreeAnswer → Option TreeAnswer → Type 0
IsTreeCalled setup old command new answer (Some known) = IsChipStill old command known new
IsTreeCalled setup old command new answer None =
    IsTreeCallOf setup old command new (Some answer) × (new.plain ≡ plain_said setup.shape old.plain command answer new.plain.board)
