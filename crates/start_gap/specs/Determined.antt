-- That the contract of a write leaves nothing open: two outcomes of one write, from one board with power on, are the same.
use Rattle.std.specs.Prelude.{ℕ, ◌≡◌, true, Result}
use Rattle.pmem_base.specs.declared.lines.Line.{Line}
use Rattle.board.specs.Memory.{BoardMemory}
use Rattle.watched_board.specs.declared.taken.Taken.{Taken}
use Rattle.watched_board.specs.Watching.{device_during, none_taken}
use Rattle.call_plan.specs.Runs.{IsRunOn}
use Rattle.suite.specs.Setup.{Setup}
use Rattle.pmem_engine.specs.Plans.{Chip}
use Rattle.start_gap.specs.declared.gapped.Gapped.{Gapped}
use Rattle.start_gap.specs.declared.gapped.Moved.{Moved}
use Rattle.start_gap.specs.declared.gapped.WriteFault.{WriteFault}
use Rattle.start_gap.specs.Plans.{FollowsWrite}

-- a write on a watched board
pub record IsWriteOn (setup : Setup) (a : ℕ) (plain : Line) (gapped after : Gapped) (from to : Chip) (old new : BoardMemory) (taken : Taken)
    (answer : Result Moved WriteFault) : Type 0 where
  pub run : IsRunOn old new taken
  pub follows :
      FollowsWrite setup a plain gapped after old.regs from to (device_during old none_taken) (device_during new taken) answer

-- the answers are the same, wear and count, what the write left next to the board, the boards, and what was taken of them
pub record AreSameWrites (one other : Gapped) (to there : Chip) (a b : BoardMemory) (x y : Taken) (first second : Result Moved WriteFault) : Type 0 where
  pub answers : first ≡ second
  pub wears : one.wear ≡ other.wear
  pub counts : one.count ≡ other.count
  pub chips : to ≡ there
  pub boards : a ≡ b
  pub takings : x ≡ y

abbrev pub LevelledWriteIsDetermined : Type 0
LevelledWriteIsDetermined =
    (setup : Setup) (at : ℕ) (plain : Line) (gapped one other : Gapped) (from to there : Chip) (old a b : BoardMemory) (x y : Taken)
    (first second : Result Moved WriteFault) → old.powered ≡ true
    → IsWriteOn setup at plain gapped one from to old a x first → IsWriteOn setup at plain gapped other from there old b y second
    → AreSameWrites one other to there a b x y first second
